use Rattle.std.proofs.Common.{◌<◌, ℕ, List, get_or, subst}
use Rattle.lsm_log.proofs.RecordSpells.{is_read, is_bad}
use Rattle.lsm_log.proofs.reading.decode.Goals as goal

pub returns-clause-read : goal.returns-clause-read
returns-clause-read c = is_read c.args.bytes c.read_record.result (λ i. subst (λ (s : List ℕ). get_or s i 0 < 256) c.as_slice.ensures (c.slices_hold_bytes.ensures i)) c.read_record.ensures

pub returns-clause-bad : goal.returns-clause-bad
returns-clause-bad c = is_bad c.args.bytes c.read_record.result c.read_record.ensures

use Rattle.std.proofs.Common.{◌<◌, ℕ, List, get_or, subst}
use Rattle.lsm_tables.proofs.Images.{is_read, is_bad}
use Rattle.lsm_tables.proofs.image.reading.decode_headed.Goals as goal

pub returns-clause-read : goal.returns-clause-read
returns-clause-read c = is_read c.entries_are_ordered.ensures c.args.bytes c.read_image.result (λ i. subst (λ (s : List ℕ). get_or s i 0 < 256) c.as_slice.ensures (c.slices_hold_bytes.ensures i)) c.read_image.ensures.read

pub returns-clause-bad : goal.returns-clause-bad
returns-clause-bad c = is_bad c.args.bytes c.read_image.result c.read_image.ensures.read

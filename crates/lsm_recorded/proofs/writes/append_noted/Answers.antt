use Rattle.std.proofs.Common.{◌∙◌}
use Rattle.lsm_below.specs.Entries.{plain}
use Rattle.lsm_model.specs.declared.journal.JournalEntry.TheVariants.{Write}
use Rattle.lsm_recorded.proofs.WritesLemmas.{both_noted}
use Rattle.lsm_recorded.proofs.writes.append_noted.Goals as goal

pub returns-clause-noted : goal.returns-clause-noted
returns-clause-noted g c =
    let room = c.in_ok-make_room.ensures in
    let put = c.put_entry.ensures in
    both_noted (Write (plain c.args.entry)) c.in_ok-note.note c.in_ok-copy.copy _ _ _ _ _ _ (c.in_ok-note.ensures ∙ c.in_ok-write_entry.ensures) c.in_ok-copy.ensures room.journal room.pass put.journal put.pass

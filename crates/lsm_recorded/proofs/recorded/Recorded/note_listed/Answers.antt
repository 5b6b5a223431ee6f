use Rattle.std.proofs.Common.{◌≤◌, sym, subst}
use Rattle.lsm_below.specs.Entries.{above}
use Rattle.lsm_model.specs.Views.{held}
use Rattle.lsm_model.specs.Beginnings.{shown_by}
use Rattle.lsm_versions.specs.Levels.{placed_of}
use Rattle.lsm_model.specs.Journal.{ReadAgrees}
use Rattle.lsm_model.specs.declared.journal.JournalEntry.TheVariants.{Read}
use Rattle.lsm_model.specs.declared.question.Answer.TheVariants.{Pairs}
use Rattle.lsm_state.specs.Ranges.{IsListStep}
use Rattle.lsm_recorded.proofs.RecordedLemmas.{recorded_list, listed_agrees}
use Rattle.lsm_recorded.proofs.recorded.Recorded.note_listed.Goals as goal

pub invariant_of-self-2 : goal.invariant_of-self-2
invariant_of-self-2 g c =
    let i = c.self.inside in
    let list = c.args.pairs.now in
    let step = subst (λ t. IsListStep t.tree.core c.args.question c.args.snapshot list) (sym c.self.view_is) c.requires.step in
    let up = subst (λ t. above (held t.opened) ≤ c.args.snapshot) (sym c.self.view_is) c.requires.above in
    rw (c.in_ok-note_entry.ensures.ok.behind, c.in_ok-entry.ensures)
    (recorded_list (placed_of i.opened.levels) i.least c.reads_are_sound.ensures i.marks i.floor i.core.core i.journal.items c.args.question c.args.snapshot list c.self.invariant up step)

pub returns-clause-replay : goal.returns-clause-replay
returns-clause-replay g c =
    let i = c.self.inside in
    let question = c.args.question in
    let s = c.args.snapshot in
    let list = c.args.pairs.now in
    let step = subst (λ t. IsListStep t.tree.core question s list) (sym c.self.view_is) c.requires.step in
    let up = subst (λ t. above (held t.opened) ≤ s) (sym c.self.view_is) c.requires.above in
    subst (λ t. ReadAgrees (shown_by t.opened) t.journal (Read s question (Pairs list))) c.self.view_is
    (listed_agrees (placed_of i.opened.levels) i.least c.reads_are_sound.ensures i.marks i.floor i.core.core i.journal.items question s list c.self.invariant up step)

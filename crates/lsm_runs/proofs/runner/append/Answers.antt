use Rattle.std.proofs.Common.{◌≡◌, ◌++◌, ◌∷◌, [], List, OnOk, OnErr, subst}
use Rattle.lsm_below.specs.Entries.{plain}
use Rattle.lsm_model.specs.declared.journal.JournalEntry.{JournalEntry}
use Rattle.lsm_model.specs.declared.journal.JournalEntry.TheVariants.{Write}
use Rattle.lsm_runs.proofs.Outcomes.{entry_taken}
use Rattle.lsm_runs.proofs.runner.append.Goals as goal

pub returns-clause-ok : goal.returns-clause-ok
returns-clause-ok g c =
    let e = plain c.args.entry in
    let a = c.append_noting-written.ensures in
    let r = c.append_noting-written.result in
    let new = c.append_noting-written.new.history.items in
    let none : c.in_ok-entries.entries.items ≡ [] = c.in_ok-entries.ensures.items in
    rw c.of_entry.ensures (entry_taken e r new c.args.state.now.core c.append_noting-written.new.tree.core
    (subst (λ (l : List JournalEntry). OnOk r (new ≡ l ++ Write e ∷ [])) none a.told) (subst (λ (l : List JournalEntry). OnErr r (new ≡ l)) none a.untold) a.appends)

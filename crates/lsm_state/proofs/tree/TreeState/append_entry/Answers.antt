use Rattle.std.proofs.Common.{ap, subst}
use Rattle.lsm_below.specs.Entries.{plain}
use Rattle.lsm_state.specs.Calls.{Appends}
use Rattle.lsm_state.proofs.tree.TreeState.append_entry.Goals as goal

pub returns-clause-appends : goal.returns-clause-appends
returns-clause-appends g c =
    let told = c.append_housed.result in
    let new = c.append_housed.new.self.core in
    let same = subst (λ e. Appends (plain e) told c.house-entry.new.self.core new) c.house-entry.ensures.same c.append_housed.ensures.appends in
    subst (λ old. Appends (plain c.args.entry) told old new) (ap (λ t. t.core) c.house-entry.ensures.stays) same

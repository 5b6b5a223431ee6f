use Rattle.std.proofs.Common.{ap, ◌∙◌, subst, sym, reverse}
use Rattle.std.specs.List.{AllByRecursion}
use Rattle.lsm_parts.specs.Held.{IsSealedIn}
use Rattle.lsm_state.proofs.Holding.{sealed_are_held}
use Rattle.lsm_state.proofs.tree.TreeState.begin_flush.Goals as goal

pub share-requires : goal.share-requires
share-requires g c =
    let i = c.self.inside in
    let newest = c.deref.ensures.value ∙ c.in_ok-ids.ensures ∙ ap (λ sv. reverse sv.sealed_memtables) c.latest_version.ensures in
    subst (AllByRecursion (IsSealedIn i.memtables)) (sym newest) (sealed_are_held i.memtables i.history i.next_memtable c.self.invariant.0)

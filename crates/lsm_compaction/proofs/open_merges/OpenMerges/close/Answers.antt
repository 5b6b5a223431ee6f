use Rattle.std.proofs.Common.{◌≡◌, ◌<◌, List, length, get_or, remove, refl, sym, subst, ap, ◌∙◌}
use Rattle.std.specs.List.{AllByRecursion}
use Rattle.lsm_compaction.specs.OpenMerges.{SeenOpenMerge, AreHidden, without, ended}
use Rattle.lsm_compaction.proofs.Hiding.{one_less, removed_is_without, below_without}
use Rattle.lsm_compaction.proofs.open_merges.OpenMerges.close.Goals as goal

pub invariant_of-self : goal.invariant_of-self
invariant_of-self c =
    let merges = c.self.inside.merges.items in
    let at = c.in-Some.at in
    let within : at < length merges = subst (λ (ms : List SeenOpenMerge). at < length ms) c.deref.ensures.value c.in-Some.ensures.0 in
    let removed = c.remove-merge.result in
    let same : remove merges at ≡ without removed.number merges = removed_is_without merges at removed.number removed within c.remove-merge.ensures.value refl c.self.invariant.0.facts in
    let below = subst (AllByRecursion (λ m. m.number < c.self.inside.next)) (sym (c.remove-merge.ensures.items ∙ same)) (below_without removed.number c.self.inside.next merges c.self.invariant.1) in
    (subst (AreHidden c.show_tables.new.state) (sym c.remove-merge.ensures.items) (one_less c.self.inside.state c.show_tables.new.state merges at removed within c.remove-merge.ensures.value c.self.invariant.0 c.show_tables.ensures), below)

pub returns-in-Some : goal.returns-in-Some
returns-in-Some c =
    let merges = c.self.inside.merges.items in
    let at = c.in-Some.at in
    let removed = c.remove-merge.result in
    let within : at < length merges = subst (λ (ms : List SeenOpenMerge). at < length ms) c.deref.ensures.value c.in-Some.ensures.0 in
    let same : removed.number ≡ c.args.number = ap (λ (m : SeenOpenMerge). m.number) c.remove-merge.ensures.value ∙ ap (λ (ms : List SeenOpenMerge). (get_or ms at removed).number) (sym c.deref.ensures.value) ∙ c.in-Some.ensures.1 removed in
    let left : c.remove-merge.new.self.items ≡ without c.args.number merges = c.remove-merge.ensures.items ∙ removed_is_without merges at c.args.number removed within c.remove-merge.ensures.value same c.self.invariant.0.facts in
    ap (λ (l : List SeenOpenMerge). record { next = c.self.inside.next; underway = l }) left ∙ ap (ended c.args.number) c.self.view_is

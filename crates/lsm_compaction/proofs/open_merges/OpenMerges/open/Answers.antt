use Rattle.std.proofs.Common.{◌≡◌, ℕ, ◌+◌, ◌<◌, ◌∷◌, [], ◌++◌, ◌||◌, List, true, false, ap, ap₂, ◌∙◌, sym, subst, rules}
use Rattle.std.specs.List.{AllByRecursion}
use Rattle.lsm_compaction.specs.OpenMerges.{SeenOpenMerge, SeenMerges, AreHidden, hides, numbers_of, opened}
use Rattle.lsm_model.specs.Steps.{among}
use Rattle.lsm_compaction.proofs.Hiding.{one_more, below_next, below_more}
use Rattle.lsm_compaction.proofs.open_merges.OpenMerges.open.Goals as goal

pub invariant_of-self-2 : goal.invariant_of-self-2
invariant_of-self-2 c =
    let merge = c.in_ok-merge.merge in
    let is = c.in_ok-merge.ensures in
    let merges = c.self.inside.merges.items in
    let free : (i : ℕ) → among merge.ids i ≡ true → hides merges i ≡ false = λ i h. ap (λ (ms : SeenMerges). hides ms.underway i) c.self.view_is ∙ c.requires.free i (ap (λ (m : SeenOpenMerge). among m.ids i) (sym is) ∙ h) in
    let number : merge.number ≡ c.self.inside.next = ap (λ (m : SeenOpenMerge). m.number) is in
    let fresh : among (numbers_of merges) merge.number ≡ false = ap (among (numbers_of merges)) number ∙ below_next c.self.inside.next merges c.self.invariant.1 in
    let step : (i : ℕ) → among c.hide.new.self i ≡ (among c.self.inside.state i || among merge.ids i) = λ i. c.in_ok-hide.ensures.ok i ∙ ap₂ (λ (hidden : List ℕ) (m : SeenOpenMerge). among hidden i || among m.ids i) c.hidden_set_mut.ensures.value (sym is) in
    let pushed : c.push.new.self.items ≡ merges ++ merge ∷ [] = search rules in
    (subst (AreHidden c.hide.new.self) (sym pushed) (one_more c.self.inside.state c.hide.new.self merges merge c.self.invariant.0 free fresh step), subst (AllByRecursion (λ m. m.number < c.self.inside.next + 1)) (sym pushed) (below_more merges merge c.self.inside.next number c.self.invariant.1))

pub returns-clause-ok : goal.returns-clause-ok
returns-clause-ok c =
    let pushed : c.push.new.self.items ≡ c.self.inside.merges.items ++ c.in_ok-merge.merge ∷ [] = search rules in
    ap (λ (l : List SeenOpenMerge). record { next = c.self.inside.next + 1; underway = l }) (pushed ∙ ap (λ (m : SeenOpenMerge). c.self.inside.merges.items ++ m ∷ []) c.in_ok-merge.ensures) ∙ ap (opened c.args.ids.now.keys c.args.settings) c.self.view_is

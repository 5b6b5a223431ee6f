use Rattle.std.proofs.Common.{◌≡◌, inl, inr, ◌⊎◌, ℕ, ◌<◌, ◌≤◌, not, List, length, eqb, get_or, true, Result, Ok, Err, refl, sym, ap, ◌∙◌, arith}
use Rattle.std.specs.List.{list_any, Any}
use Rattle.std.specs.Prelude.{MatchResult}
use Rattle.std.specs.Result.{is_err}
use Rattle.std.proofs.lemmas.Bool.{cases_lt, eqb-true, eq-eqb, false_from_ne_true, not_from_false}
use Rattle.std.proofs.lemmas.List.{get_or_default}
use Rattle.std.proofs.lemmas.List.Folds.{list_any-from_Any, Any-from_list_any}
use Rattle.std.proofs.lemmas.List.Sorted.{searched}
use Rattle.lsm_manifest.specs.Kinds.{is_stray}
use Rattle.lsm_manifest.proofs.kinds.is_stray.Goals as goal

-- what a search in sorted ids finds
not_there : (ids : List ℕ) (x : ℕ) (r : Result ℕ ℕ)
    → MatchResult r (λ i. (i < length ids) × (get_or ids i 0 ≡ x)) (λ i. (i ≤ length ids) × ((k : ℕ) → k < i → get_or ids k 0 < x) × ((k : ℕ) → i ≤ k → k < length ids → x < get_or ids k 0))
    → is_err r ≡ not (list_any (λ m. eqb m x) ids)
not_there ids x (Ok i) found = sym (ap not (list_any-from_Any (λ m. eqb m x) ids (i, x, found.0, get_or_default ids i x 0 found.0 ∙ found.1, eq-eqb x x refl)))
not_there ids x (Err i) found = sym (not_from_false (list_any (λ m. eqb m x) ids) (false_from_ne_true (list_any (λ m. eqb m x) ids) (λ some. never (Any-from_list_any (λ m. eqb m x) ids some))))
  where
    before : (k : ℕ) → (k < i) ⊎ (i ≤ k) → get_or ids k 0 ≡ x → k < length ids → ⊥
    before k (inl lt) e l = omega (arith, found.1 k lt, e)
    before k (inr le) e l = omega (arith, found.2 k le l, e)

    never : Any (λ m. eqb m x ≡ true) ids → ⊥
    never a = before a.0 (cases_lt a.0 i) (get_or_default ids a.0 0 a.1 a.2 ∙ a.3 ∙ eqb-true a.1 x a.4) a.2

pub returns-in-TableFile : goal.returns-in-TableFile
returns-in-TableFile c = c.is_err.ensures.value ∙ not_there c.args.ids.now c.in-TableFile.id c.binary_search.result (searched c.args.ids.now c.in-TableFile.id c.binary_search.result c.binary_search.ensures.position (λ i j le lt. c.requires i j 0 le lt)) ∙ ap (is_stray c.args.ids.now) c.in-TableFile.ensures

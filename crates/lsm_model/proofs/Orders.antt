-- Lists that are in one order and have the same members are equal: of a merger's output, and of runs that are joined.
use Rattle.std.proofs.Common.{◌≡◌, ℕ, ◌+◌, ◌<◌, ◌≤◌, Bool, true, false, cond, List, [], ◌∷◌, ◌++◌, map, flat_map, filter, refl, sym, ◌∙◌, subst, arith, eqb, inl, inr, ⊎_elim, ap₂, eq-eqb}
use Rattle.std.specs.List.{AllByRecursion}
use Rattle.lsm_model.specs.Views.{EachPair, Placed, Table, placed_from, placed_at}
use Rattle.lsm_below.specs.Each.{each_weaker, each_append}

-- ---- levels rise

pairs_append : {A : Type 0} (R : A → A → Type 0) (xs ys : List A) → EachPair R xs → EachPair R ys → AllByRecursion (λ x. AllByRecursion (R x) ys) xs → EachPair R (xs ++ ys)
pairs_append R [] ys h k b = k
pairs_append R (x ∷ xs) ys h k b = (each_append (R x) xs ys h.0 b.0, pairs_append R xs ys h.1 k b.1)

at_level : (level : ℕ) (tables : List Table) → AllByRecursion (λ (p : Placed). p.level ≡ level) (map (placed_at level) tables)
at_level level [] = tt
at_level level (t ∷ tables) = (refl, at_level level tables)

from_level : (level : ℕ) (levels : List (List (List Table))) → AllByRecursion (λ (p : Placed). level ≤ p.level) (placed_from level levels)
from_level level [] = tt
from_level level (runs ∷ levels) = each_append _ _ (placed_from (level + 1) levels) (each_weaker _ _ (λ p h. omega arith) _ (at_level level (flat_map (λ r. r) runs))) (each_weaker _ _ (λ p h. omega arith) _ (from_level (level + 1) levels))

equal_pairs : (level : ℕ) (ps : List Placed) → AllByRecursion (λ p. p.level ≡ level) ps → EachPair (λ p q. p.level ≤ q.level) ps
equal_pairs level [] h = tt
equal_pairs level (p ∷ ps) h = (each_weaker _ _ (λ q e. let d = h.0 in omega arith) ps h.1, equal_pairs level ps h.1)

pub levels_rise : (level : ℕ) (levels : List (List (List Table))) → EachPair (λ p q. p.level ≤ q.level) (placed_from level levels)
levels_rise level [] = tt
levels_rise level (runs ∷ levels) =
    let here = at_level level (flat_map (λ r. r) runs) in
    pairs_append _ _ (placed_from (level + 1) levels) (equal_pairs level _ here) (levels_rise (level + 1) levels)
    (each_weaker _ _ (λ p e. each_weaker _ _ (λ q l. omega arith) (placed_from (level + 1) levels) (from_level (level + 1) levels)) _ here)

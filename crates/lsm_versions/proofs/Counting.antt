-- What is counted of tables, and of others after them.
use Rattle.std.proofs.Common.{◌≡◌, ℕ, ◌+◌, List, [], ◌∷◌, ◌++◌, length, max, sum_by, arith}
use Rattle.std.proofs.lemmas.List.{length-append}
use Rattle.std.proofs.lemmas.List.Sums.{sum_by-append}
use Rattle.lsm_below.specs.Sums.{capped}
use Rattle.lsm_tables.specs.Tables.{SeenTable}
use Rattle.lsm_versions.specs.Totals.{greatest_of}

pub greatest_of-append : (xs ys : List SeenTable) → greatest_of (xs ++ ys) ≡ max (greatest_of xs) (greatest_of ys)
greatest_of-append [] ys = omega arith
greatest_of-append (x ∷ xs) ys = let h = greatest_of-append xs ys in omega (arith, h)

-- a sum of two that stand at the greatest number
pub capped_both : (f : SeenTable → ℕ) (xs ys : List SeenTable) → capped (sum_by f (xs ++ ys)) ≡ capped (capped (sum_by f xs) + capped (sum_by f ys))
capped_both f xs ys = let h = sum_by-append f xs ys in omega (arith, h)

pub capped_length : (xs ys : List SeenTable) → capped (length (xs ++ ys)) ≡ capped (capped (length xs) + capped (length ys))
capped_length xs ys = let h = length-append xs ys in omega (arith, h)

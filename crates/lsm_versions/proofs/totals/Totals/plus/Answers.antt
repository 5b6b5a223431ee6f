use Rattle.std.proofs.Common.{◌≡◌, ℕ, ◌+◌, ◌++◌, List, length, sum_by, ap, arith, refl}
use Rattle.lsm_below.specs.Sums.{capped}
use Rattle.lsm_tables.specs.Image.{entry_bytes}
use Rattle.lsm_tables.specs.Tables.{SeenTable, tombstones, weak_tombstones, reclaimable}
use Rattle.lsm_versions.specs.declared.totals.Totals.{Totals}
use Rattle.lsm_versions.specs.Totals.{greatest_of}
use Rattle.lsm_versions.proofs.Counting.{capped_both, capped_length, greatest_of-append}
use Rattle.lsm_versions.proofs.totals.Totals.plus.Goals as goal

-- sums of what is counted of either list are those of both
summed : (f : SeenTable → ℕ) (xs ys : List SeenTable) (a b r : ℕ) → a ≡ capped (sum_by f xs) → b ≡ capped (sum_by f ys) → r ≡ capped (a + b) → r ≡ capped (sum_by f (xs ++ ys))
summed f xs ys a b r is also sum = let both = capped_both f xs ys in omega (arith, is, also, sum, both)

pub returns : goal.returns
returns c = λ xs ys mine theirs.
    let tables : c.saturating_add.result ≡ capped (length (xs ++ ys)) = (
    let a = ap (λ (t : Totals). t.tables) mine in let b = ap (λ (t : Totals). t.tables) theirs in let both = capped_length xs ys in omega (arith, a, b, both, c.saturating_add.ensures)) in
    let highest : c.max.result ≡ greatest_of (xs ++ ys) = (
    let a = ap (λ (t : Totals). t.highest) mine in let b = ap (λ (t : Totals). t.highest) theirs in let both = greatest_of-append xs ys in omega (arith, a, b, both, c.max.ensures)) in
    rw (
      tables,
      summed (λ t. length t.entries) xs ys _ _ _ (ap (λ (t : Totals). t.items) mine) (ap (λ (t : Totals). t.items) theirs) c.saturating_add-2.ensures,
      summed (λ t. 20 + entry_bytes t.entries) xs ys _ _ _ (ap (λ (t : Totals). t.bytes) mine) (ap (λ (t : Totals). t.bytes) theirs) c.saturating_add-3.ensures,
      highest,
      summed (λ t. tombstones t.entries) xs ys _ _ _ (ap (λ (t : Totals). t.tombstones) mine) (ap (λ (t : Totals). t.tombstones) theirs) c.saturating_add-4.ensures,
      summed (λ t. weak_tombstones t.entries) xs ys _ _ _ (ap (λ (t : Totals). t.weak_tombstones) mine) (ap (λ (t : Totals). t.weak_tombstones) theirs) c.saturating_add-5.ensures,
      summed (λ t. reclaimable t.entries) xs ys _ _ _ (ap (λ (t : Totals). t.reclaimable) mine) (ap (λ (t : Totals). t.reclaimable) theirs) c.saturating_add-6.ensures,
    ) refl

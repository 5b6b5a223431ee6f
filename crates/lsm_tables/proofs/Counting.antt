-- Counts of entries, with one more in front.
use Rattle.std.proofs.Common.{◌≡◌, ℕ, ◌+◌, ◌≤◌, ◌<◌, ◌^◌, Bool, true, false, cond, List, [], ◌∷◌, length, filter, arith}
use Rattle.lsm_below.specs.Entries.{Entry}
use Rattle.lsm_tables.specs.Tables.{neighbours, is_reclaimable, reclaimable}

-- one more in front counts where it passes
pub count_cons : {X : Type 0} (p : X → Bool) (x : X) (xs : List X) → length (filter p (x ∷ xs)) ≡ length (filter p xs) + cond (p x) 1 0
count_cons p x xs = elim (p x) as (λ b. length (cond b (x ∷ filter p xs) (filter p xs)) ≡ length (filter p xs) + cond b 1 0) [
  | true ↦ omega arith
  | false ↦ omega arith
]

pub count_bound : {X : Type 0} (p : X → Bool) (xs : List X) → length (filter p xs) ≤ length xs
count_bound p [] = omega arith
count_bound p (x ∷ xs) = let h = count_bound p xs in let c = count_cons p x xs in elim (p x) as (λ b. length (filter p (x ∷ xs)) ≡ length (filter p xs) + cond b 1 0 → length (filter p (x ∷ xs)) ≤ length (x ∷ xs)) [
  | true ↦ λ e. omega arith
  | false ↦ λ e. omega arith
] c

neighbours_bound : (es : List Entry) → length (neighbours es) ≤ length es
neighbours_bound [] = omega arith
neighbours_bound (e ∷ []) = omega arith
neighbours_bound (e ∷ (f ∷ es)) = let h = neighbours_bound (f ∷ es) in omega arith

pub reclaimable_bound : (es : List Entry) → reclaimable es ≤ length es
reclaimable_bound es = let h = count_bound is_reclaimable (neighbours es) in let n = neighbours_bound es in omega arith

one_at_most : (b : Bool) → cond b 1 0 ≤ 1
one_at_most true = omega arith
one_at_most false = omega arith

pub fits_one_more : (count counted len : ℕ) (b : Bool) {one : ℕ} → one ≡ cond b 1 0 → count ≡ counted → counted ≤ len → len + 1 < 2 ^ 64 → count + one < 2 ^ 64
fits_one_more count counted len b e is le room = let one = one_at_most b in omega arith

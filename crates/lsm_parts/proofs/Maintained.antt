-- How many super versions are needed.
use Rattle.std.proofs.Common.{◌≡◌, ℕ, ◌+◌, ◌<◌, ◌≤◌, Bool, true, false, not, cond, List, [], ◌∷◌, length, get_or, zero, suc, nat_lt, refl, ap, ◌∙◌, arith}
use Rattle.std.specs.List.{AllWithin}
use Rattle.lsm_parts.specs.declared.version.super_version.SuperVersion.{SuperVersion}
use Rattle.std.specs.List.Sorted.{IsPartitionPoint}
use Rattle.lsm_parts.proofs.Histories.{unnot, passes}
use Rattle.lsm_parts.specs.History.{SeenHistory}
use Rattle.lsm_parts.specs.Maintenance.{needed_of, needed}

pub needed_most : (w : ℕ) (svs : List SuperVersion) → needed_of w svs ≤ length svs
needed_most w [] = omega arith
needed_most w (sv ∷ svs) = by_case (nat_lt sv.seqno w) (needed_most w svs)
  where
    by_case : (b : Bool) → needed_of w svs ≤ length svs → cond b 1 (needed_of w svs + 1) ≤ suc (length svs)
    by_case true h = omega arith
    by_case false h = omega arith

-- the first one that is numbered below w, at place i
pub needed_at : (w : ℕ) (xs : List SuperVersion) (i : ℕ) (d : SuperVersion) → AllWithin (λ sv. nat_lt sv.seqno w ≡ false) xs 0 i → i < length xs → nat_lt (get_or xs i d).seqno w ≡ true → needed_of w xs ≡ i + 1
needed_at w [] i d before lt here = absurd (omega arith)
needed_at w (x ∷ xs) zero d before lt here = ap (λ b. cond b 1 (needed_of w xs + 1)) here
needed_at w (x ∷ xs) (suc i) d before lt here =
    let rest = needed_at w xs i d (λ k e low high. before (suc k) e (omega arith) (omega arith)) (omega arith) here in
    ap (λ b. cond b 1 (needed_of w xs + 1)) (before 0 d (omega arith) (omega arith)) ∙ omega (arith, rest)

-- none is
pub needed_all : (w : ℕ) (xs : List SuperVersion) → AllWithin (λ sv. nat_lt sv.seqno w ≡ false) xs 0 (length xs) → needed_of w xs ≡ length xs
needed_all w [] before = refl
needed_all w (x ∷ xs) before =
    let rest = needed_all w xs (λ k e low high. before (suc k) e (omega arith) (omega arith)) in
    ap (λ b. cond b 1 (needed_of w xs + 1)) (before 0 x (omega arith) (omega arith)) ∙ omega (arith, rest)

-- ---- by a partition point

point_before : (w : ℕ) (xs : List SuperVersion) (i : ℕ) → IsPartitionPoint (λ sv. not (nat_lt sv.seqno w) ≡ true) (λ sv. not (nat_lt sv.seqno w) ≡ false) xs i → AllWithin (λ sv. nat_lt sv.seqno w ≡ false) xs 0 i
point_before w xs i point k d low high = unnot (nat_lt (get_or xs k d).seqno w) (point.0 k d low high)

pub needed_point : (w : ℕ) (xs : List SuperVersion) (i : ℕ) → IsPartitionPoint (λ sv. not (nat_lt sv.seqno w) ≡ true) (λ sv. not (nat_lt sv.seqno w) ≡ false) xs i → i < length xs → needed_of w xs ≡ i + 1
needed_point w [] i point lt = absurd (omega arith)
needed_point w (x ∷ xs) i point lt = needed_at w (x ∷ xs) i x (point_before w (x ∷ xs) i point) lt (passes (nat_lt (get_or (x ∷ xs) i x).seqno w) (point.1 i x (omega arith) lt))

pub needed_end : (w : ℕ) (xs : List SuperVersion) (i : ℕ) → IsPartitionPoint (λ sv. not (nat_lt sv.seqno w) ≡ true) (λ sv. not (nat_lt sv.seqno w) ≡ false) xs i → length xs ≤ i → i ≤ length xs → needed_of w xs ≡ i
needed_end w xs i point end within =
    let all = needed_all w xs (λ k d low high. point_before w xs i point k d low (omega arith)) in
    omega (arith, all)

pub needed_within : (w : ℕ) (h : SeenHistory) → needed w h ≤ length h.older
needed_within w h = by_case (nat_lt h.latest.seqno w)
  where
    by_case : (b : Bool) → cond b 0 (needed_of w h.older) ≤ length h.older
    by_case true = omega arith
    by_case false = needed_most w h.older

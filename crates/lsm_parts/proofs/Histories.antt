-- What a lookup in the history finds.
use Rattle.std.proofs.Common.{◌≡◌, ℕ, ◌+◌, ◌-◌, ◌<◌, ◌≤◌, ◌↔◌, refl, Bool, true, false, not, List, [], ◌∷◌, Option, Some, None, IsSome, IfSome, option_copied, length, cond, sym, ◌∙◌, ap, subst, arith, zero, suc, get_or, nat_lt}
use Rattle.std.proofs.lemmas.Bool.Decides.{nat_tests}
use Rattle.std.specs.Borrow.{Bor}
use Rattle.std.specs.List.{find, fold, AllWithin}
use Rattle.std.specs.List.Sorted.{IsPartitionedBy, IsPartitionPoint}
use Rattle.lsm_parts.specs.declared.version.super_version.SuperVersion.{SuperVersion}
use Rattle.lsm_below.specs.Sums.{capped}
use Rattle.lsm_memtable.specs.Memtables.{SeenMemtable}
use Rattle.lsm_parts.specs.History.{oldest, NumbersFall}

-- the last one is the oldest
pub oldest_last : (latest : SuperVersion) (older : List SuperVersion) (v : SuperVersion) → 0 < length older → v ≡ get_or older (length older - 1) v → oldest latest older ≡ v
oldest_last latest [] v some h = absurd (omega arith)
oldest_last latest (sv ∷ []) v some h = sym h
oldest_last latest (sv ∷ (u ∷ us)) v some h =
    let place : length (sv ∷ (u ∷ us)) - 1 ≡ suc (length (u ∷ us) - 1) = omega arith in
    oldest_last sv (u ∷ us) v (omega arith) (h ∙ ap (λ i. get_or (sv ∷ (u ∷ us)) i v) place)

-- a sum that stands at the greatest number at each step is the whole sum, at the greatest number
pub fold-capped : (xs : List SeenMemtable) (a : ℕ) → fold (λ n m. capped (n + m.size)) (capped a) xs ≡ capped (fold (λ n m. n + m.size) a xs)
fold-capped [] a = refl
fold-capped (x ∷ xs) a =
    let step : capped (capped a + x.size) ≡ capped (a + x.size) = omega arith in
    ap (λ n. fold (λ n m. capped (n + m.size)) n xs) step ∙ fold-capped xs (a + x.size)

-- ---- bisection

-- no sequence number is above this one
falls_below : (xs : List SuperVersion) (n j : ℕ) (d : SuperVersion) → NumbersFall n xs → j < length xs → (get_or xs j d).seqno ≤ n
falls_below [] n j d h lt = absurd (omega arith)
falls_below (x ∷ xs) n zero d h lt = h.0
falls_below (x ∷ xs) n (suc j) d h lt =
    let rest : (get_or xs j d).seqno ≤ x.seqno = falls_below xs x.seqno j d h.1 (omega arith) in
    let here : x.seqno ≤ n = h.0 in
    omega arith

-- from the newest to the oldest no sequence number that is not below a snapshot comes after one that is
pub above_first : (s n : ℕ) (xs : List SuperVersion) → NumbersFall n xs → IsPartitionedBy (λ sv. not (nat_lt sv.seqno s)) xs
above_first s n [] h i j d le lt is = absurd (omega arith)
above_first s n (x ∷ xs) h zero zero d le lt is = is
above_first s n (x ∷ xs) h zero (suc j) d le lt is = raised (get_or xs j d).seqno x.seqno (falls_below xs x.seqno j d h.1 (omega arith)) is
  where
    raised : (a b : ℕ) → a ≤ b → not (nat_lt a s) ≡ true → not (nat_lt b s) ≡ true
    raised a b le is = grind (arith, nat_tests)
above_first s n (x ∷ xs) h (suc i) zero d le lt is = absurd (omega arith)
above_first s n (x ∷ xs) h (suc i) (suc j) d le lt is = above_first s x.seqno xs h.1 i j d (omega arith) (omega arith) is

pub unnot : (b : Bool) → not b ≡ true → b ≡ false
unnot true h = sym h
unnot false h = refl

pub passes : (b : Bool) → not b ≡ false → b ≡ true
passes true h = refl
passes false h = sym h

module _ (test : SuperVersion → Bool) where
  found_nowhere : (xs : List SuperVersion) → AllWithin (λ y. test y ≡ false) xs 0 (length xs) → find test xs ≡ None
  found_nowhere [] h = refl
  found_nowhere (x ∷ xs) h = ap (λ b. cond b (Some x) (find test xs)) (h 0 x (omega arith) (omega arith)) ∙ found_nowhere xs (λ k d low high. h (suc k) d (omega arith) (omega arith))

  found_there : (xs : List SuperVersion) (i : ℕ) (v : SuperVersion) → AllWithin (λ y. test y ≡ false) xs 0 i → i < length xs → v ≡ get_or xs i v → test v ≡ true → find test xs ≡ Some v
  found_there [] i v h lt is here = absurd (omega arith)
  found_there (x ∷ xs) zero v h lt is here = ap (λ b. cond b (Some x) (find test xs)) (ap test (sym is) ∙ here) ∙ ap Some (sym is)
  found_there (x ∷ xs) (suc i) v h lt is here = ap (λ b. cond b (Some x) (find test xs)) (h 0 x (omega arith) (omega arith)) ∙ found_there xs i v (λ k d low high. h (suc k) d (omega arith) (omega arith)) (omega arith) is here

  -- the element at the first place where a test passes is what a search finds
  pub found_at_point : (xs : List SuperVersion) (i : ℕ) (r : Option (Bor SuperVersion)) → IsPartitionPoint (λ y. not (test y) ≡ true) (λ y. not (test y) ≡ false) xs i → i ≤ length xs → (IsSome r ↔ (i < length xs)) → IfSome r (λ x. x.now ≡ get_or xs i x.now) → option_copied r ≡ find test xs
  found_at_point xs i None point le some is =
      let end : i ≡ length xs = ends (λ lt. let no : ⊥ = cc (some.1 lt) in no) in
      sym (found_nowhere xs (λ k d low high. unnot (test (get_or xs k d)) (point.0 k d low (omega arith))))
    where
      ends : (i < length xs → ⊥) → i ≡ length xs
      ends h = omega arith
  found_at_point xs i (Some x) point le some is =
      let lt : i < length xs = some.0 refl in
      sym (found_there xs i x.now (λ k d low high. unnot (test (get_or xs k d)) (point.0 k d low high)) lt is (passes (test x.now) (subst (λ v. not (test v) ≡ false) (sym is) (point.1 i x.now (omega arith) lt))))

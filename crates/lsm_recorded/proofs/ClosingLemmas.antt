-- Places that are ticked off, one more at a time.
use Rattle.std.proofs.Common.{◌≡◌, ℕ, ◌+◌, ◌<◌, ◌≤◌, Bool, true, false, List, length, get_or, take, set, inl, inr, sym, ap, ◌∙◌, subst, arith, nat_eq, if◌then◌else◌}
use Rattle.std.specs.List.{All, AllPairs}
use Rattle.std.proofs.lemmas.Bool.{cases_lt, true≢false}
use Rattle.std.proofs.lemmas.Bool.Decides.{eqb_tells}
use Rattle.std.proofs.lemmas.List.{take_more, get_or-set_same, get_or-set_other, get_or_default}
use Rattle.std.proofs.Math.ListN.{get_or-eq_default}
use Rattle.std.proofs.lemmas.List.Quantifiers.{all_pairs_push}
use Rattle.std.proofs.lemmas.List.Sums.{count_by_more_yes, count_by_more_no, sum_by_more}
use Rattle.lsm_model.specs.declared.journal.JournalEntry.{JournalEntry}
use Rattle.lsm_recorded.specs.Closing.{times_in, times}
use Rattle.lsm_recorded.specs.Ticks.{found, Finds, FindsAll}

abbrev pub Noted : Type 0
Noted = ℕ × JournalEntry

-- one entry more, whose place is not below the next one
pub rising_more : (xs : List Noted) (i n : ℕ) (d : Noted) → i < length xs → All (λ x. x.0 < n) (take i xs) → n ≤ (get_or xs i d).0 → AllPairs (λ x y. x.0 < y.0) (take i xs) → AllPairs (λ x y. x.0 < y.0) (take (i + 1) xs)
rising_more xs i n d h below le rising = subst (λ ys. AllPairs (λ x y. x.0 < y.0) ys) (sym (take_more xs i d h)) (all_pairs_push (λ x y. x.0 < y.0) (take i xs) (get_or xs i d) rising (λ k e lt. let b : (get_or (take i xs) k e).0 < n = below k e lt in omega arith))

-- a place that isn't ticked stands among the others
unticked_within : (t : List Bool) (p : ℕ) → get_or t p true ≡ false → p < length t
unticked_within t p free =
    elim (cases_lt p (length t)) [
      | inl less ↦ less
      | inr le ↦ absurd (true≢false (sym (get_or-eq_default t true le) ∙ free))
    ]

-- a place that was not found, ticked
pub finds_more : (xs : List Noted) (i p : ℕ) (d : Noted) (old t : List Bool) → i < length xs → (get_or xs i d).0 ≡ p → length t ≡ length old → get_or t p true ≡ false → Finds (take i xs) old t → Finds (take (i + 1) xs) old (set t p true)
finds_more xs i p d old t h at len free f q lt =
    let here = unticked_within t p free in
    let before = f q lt in
    elim (eqb_tells (get_or xs i d).0 q) [
      | inl z ↦
          let same : p ≡ q = sym at ∙ z.1 in
          let now : found (set t p true) q ≡ 1 = ap (λ b. if b then 1 else 0) (subst (λ w. get_or (set t p true) w false ≡ true) same (get_or-set_same t p true false here)) in
          let was : found t q ≡ 0 = ap (λ b. if b then 1 else 0) (subst (λ w. get_or t w false ≡ false) same (get_or_default t p false true here ∙ free)) in
          let more : times_in q (take (i + 1) xs) ≡ times_in q (take i xs) + 1 = count_by_more_yes (λ x. nat_eq x.0 q) xs i d h z.0 in
          omega arith
      | inr z ↦
          let now : found (set t p true) q ≡ found t q = ap (λ b. if b then 1 else 0) (get_or-set_other t p q true false (λ e. z.1 (at ∙ sym e))) in
          let more : times_in q (take (i + 1) xs) ≡ times_in q (take i xs) = count_by_more_no (λ x. nat_eq x.0 q) xs i d h z.0 in
          omega arith
    ]

-- a pass more
pub finds_all_more : (xs : List (List Noted)) (i : ℕ) (d : List Noted) (old t u : List Bool) → i < length xs → length t ≡ length old → FindsAll (take i xs) old t → Finds (get_or xs i d) t u → FindsAll (take (i + 1) xs) old u
finds_all_more xs i d old t u h len f g q lt =
    let before = f q lt in
    let behind : found u q ≡ found t q + times_in q (get_or xs i d) = g q (subst (λ n. q < n) (sym len) lt) in
    let more : times q (take (i + 1) xs) ≡ times q (take i xs) + times_in q (get_or xs i d) = sum_by_more (times_in q) xs i d h in
    omega arith

-- where nothing was ticked before, and all is after the passes, they list each place once
pub once : (xs : List (List Noted)) (old new : List Bool) → length new ≡ length old → All (λ t. t ≡ false) old → All (λ t. t ≡ true) new → FindsAll xs old new → (q : ℕ) → q < length old → times q xs ≡ 1
once xs old new len none all f q lt =
    let at = f q lt in
    let was : found old q ≡ 0 = ap (λ b. if b then 1 else 0) (none q false lt) in
    let now : found new q ≡ 1 = ap (λ b. if b then 1 else 0) (all q false (subst (λ n. q < n) (sym len) lt)) in
    omega arith

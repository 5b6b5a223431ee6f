-- What a part of a list has within bounds.
use Rattle.std.proofs.Common.{◌≡◌, ℕ, zero, suc, ◌+◌, ◌-◌, ◌<◌, ◌≤◌, min, max, true, false, not, List, [], ◌∷◌, length, get_or, take, drop, refl, sym, ◌∙◌, ap, subst, arith, inl, inr, length-drop, length-take}
use Rattle.std.specs.List.Sorted.{IsPartitionPoint}
use Rattle.std.proofs.lemmas.Bool.{cases_lt}
use Rattle.std.proofs.lemmas.List.{get_or-drop, get_or-take, drop-take, drop-drop, take_all}
use Rattle.std.specs.declared.ops.Bound.{Bound}
use Rattle.lsm_below.specs.Keys.{Bytes}
use Rattle.lsm_below.specs.Entries.{Entry}
use Rattle.lsm_below.specs.Lookups.{is_from, is_to, within}
use Rattle.lsm_below.specs.Entries.{entry_cmp}
use Rattle.lsm_below.specs.Sorted.{Rises}
use Rattle.lsm_below.specs.Laws.{EntriesAreParted}
use Rattle.lsm_memtable.proofs.Joined.{rises_left, rises_right}
use Rattle.std.proofs.lemmas.List.{take-append-drop}
use Rattle.lsm_memtable.specs.Blocks.{joined, spot, HasPlace, IsEdge}
use Rattle.lsm_memtable.specs.Spans.{between, ArePlaces}
use Rattle.lsm_memtable.proofs.Joined.{block_within, drop_past}

module _ {X : Type 0} where
  take_take : (n m : ℕ) (xs : List X) → n ≤ m → take n (take m xs) ≡ take n xs
  take_take zero m xs le = refl
  take_take (suc n) zero xs le = absurd (omega arith)
  take_take (suc n) (suc m) [] le = refl
  take_take (suc n) (suc m) (x ∷ xs) le = ap (λ l. x ∷ l) (take_take n m xs (omega arith))

  -- a part of a part
  part_of : (xs : List X) (s e n m : ℕ) → n + m ≤ e - s → take m (drop n (take (e - s) (drop s xs))) ≡ take m (drop (s + n) xs)
  part_of xs s e n m le =
      let rest : e - s ≡ n + (e - s - n) = omega arith in
      ap (λ k. take m (drop n (take k (drop s xs)))) rest
      ∙ (ap (λ l. take m l) (drop-take n (e - s - n) (drop s xs))
      ∙ (take_take m (e - s - n) (drop n (drop s xs)) (omega arith) ∙ ap (λ l. take m l) (drop-drop n s xs)))

  same_part : (xs : List X) (n m a b : ℕ) → n ≡ m → (0 < n → a ≡ b) → take n (drop a xs) ≡ take m (drop b xs)
  same_part xs n m a b count at = elim (cases_lt 0 n) [
    | inl some ↦ ap (λ k. take k (drop a xs)) count ∙ ap (λ k. take m (drop k xs)) (at some)
    | inr none ↦
        let n_is : n ≡ 0 = omega arith in
        let m_is : m ≡ 0 = omega arith in
        ap (λ k. take k (drop a xs)) n_is ∙ sym (ap (λ k. take k (drop b xs)) m_is)
  ]

  spot_in : (bs : List (List X)) (b i : ℕ) → HasPlace bs b i → spot bs b i ≤ length (joined bs)
  spot_in bs b i place = let total = block_within bs b [] place.0 in let at = place.1 in omega arith

  pub span_all : (bs : List (List X)) (b i : ℕ) → b + 1 ≡ length bs → i ≡ length (get_or bs b []) → between bs 0 0 b i ≡ joined bs
  span_all bs b i last end =
      let total = block_within bs b [] (omega arith) in
      let past = drop_past bs (suc b) (omega arith) in
      let start : spot bs 0 0 ≡ 0 = omega arith in
      let all : spot bs b i ≡ length (joined bs) = omega arith in
      ap (λ k. take (spot bs b i - k) (drop k (joined bs))) start ∙ (ap (λ k. take (k - 0) (joined bs)) all ∙ take_all _ (joined bs) (omega arith))

  pub places_of : (bs : List (List X)) (b i c j : ℕ) → 0 < length bs → ArePlaces bs b i c j → HasPlace bs b i × HasPlace bs c j
  places_of bs b i c j some (inl none) = absurd (omega arith)
  places_of bs b i c j some (inr both) = both

-- what lies of a part between two places within bounds stands between the later start and the earlier end
within_part : EntriesAreParted → (low high : Bound Bytes) (xs : List Entry) (s e a c : ℕ) → e ≤ length xs → s ≤ length xs → a ≤ length xs → c ≤ length xs
    → IsPartitionPoint (λ x. not (is_from low x.key.user_key) ≡ true) (λ x. not (is_from low x.key.user_key) ≡ false) xs a → IsPartitionPoint (λ x. is_to high x.key.user_key ≡ true) (λ x. is_to high x.key.user_key ≡ false) xs c
    → within low high (take (e - s) (drop s xs)) ≡ take (min e c - max s a) (drop (max s a) xs)
within_part parts low high xs s e a c e_in s_in a_in c_in from to =
    let part = take (e - s) (drop s xs) in
    let start = min (a - s) (e - s) in
    let end = min (c - s) (e - s) in
    parts.within part low high start end (
      λ j d _ lt. subst (λ x. not (is_from low x.key.user_key) ≡ true) (sym (read j d (omega arith))) (from.0 (s + j) d (omega arith) (omega arith)),
      λ j d le lt. subst (λ x. not (is_from low x.key.user_key) ≡ false) (sym (read j d (omega (arith, size)))) (from.1 (s + j) d (omega (arith, size)) (omega (arith, size))),
    ) (
      λ j d _ lt. subst (λ x. is_to high x.key.user_key ≡ true) (sym (read j d (omega arith))) (to.0 (s + j) d (omega arith) (omega arith)),
      λ j d le lt. subst (λ x. is_to high x.key.user_key ≡ false) (sym (read j d (omega (arith, size)))) (to.1 (s + j) d (omega (arith, size)) (omega (arith, size))),
    )
    ∙ cut
  where
    size : length (take (e - s) (drop s xs)) ≡ e - s
    size = omega (arith, length-take (e - s) (drop s xs), length-drop s xs)

    read : (j : ℕ) (d : Entry) → j < e - s → get_or (take (e - s) (drop s xs)) j d ≡ get_or xs (s + j) d
    read j d lt = get_or-take (e - s) (drop s xs) j d lt ∙ get_or-drop s xs j d

    cut : take (min (c - s) (e - s) - min (a - s) (e - s)) (drop (min (a - s) (e - s)) (take (e - s) (drop s xs))) ≡ take (min e c - max s a) (drop (max s a) xs)
    cut = elim (cases_lt (min (c - s) (e - s)) (min (a - s) (e - s))) [
      | inl less ↦
          let none : min (c - s) (e - s) - min (a - s) (e - s) ≡ 0 = omega arith in
          let none_either : min e c - max s a ≡ 0 = omega arith in
          ap (λ k. take k (drop (min (a - s) (e - s)) (take (e - s) (drop s xs)))) none ∙ sym (ap (λ k. take k (drop (max s a) xs)) none_either)
      | inr more ↦
          part_of xs s e (min (a - s) (e - s)) (min (c - s) (e - s) - min (a - s) (e - s)) (omega arith)
          ∙ same_part xs _ _ _ _ (omega arith) (λ some. omega arith)
    ]

-- the bounds cut a part between two places at the later start and the earlier end
pub cut_again : EntriesAreParted → (bs : List (List Entry)) (low high : Bound Bytes) (b i c j bl il ch jh bn in_ cn jn : ℕ) → HasPlace bs b i → HasPlace bs c j → IsEdge (λ e. not (is_from low e.key.user_key)) bs bl il → IsEdge (λ e. is_to high e.key.user_key) bs ch jh
    → spot bs bn in_ ≡ max (spot bs b i) (spot bs bl il) → spot bs cn jn ≡ min (spot bs c j) (spot bs ch jh) → between bs bn in_ cn jn ≡ within low high (between bs b i c j)
cut_again parts bs low high b i c j bl il ch jh bn in_ cn jn from to lower upper start end =
    ap (λ k. take (spot bs cn jn - k) (drop k (joined bs))) start
    ∙ (ap (λ k. take (k - max (spot bs b i) (spot bs bl il)) (drop (max (spot bs b i) (spot bs bl il)) (joined bs))) end
    ∙ sym (within_part parts low high (joined bs) (spot bs b i) (spot bs c j) (spot bs bl il) (spot bs ch jh) (spot_in bs c j to) (spot_in bs b i from) (spot_in bs bl il lower.place) (spot_in bs ch jh upper.place)
    (λ k d _ lt. lower.before k d lt, λ k d le lt. lower.behind k d le lt)
    (λ k d _ lt. upper.before k d lt, λ k d le lt. upper.behind k d le lt)))

-- ---- a part rises

pub rises_part : (xs : List Entry) (n m : ℕ) → Rises entry_cmp xs → Rises entry_cmp (take n (drop m xs))
rises_part xs n m rises =
    let back : Rises entry_cmp (drop m xs) = rises_right entry_cmp (take m xs) (drop m xs) (subst (λ l. Rises entry_cmp l) (sym (take-append-drop m xs)) rises) in
    rises_left entry_cmp (take n (drop m xs)) (drop n (drop m xs)) (subst (λ l. Rises entry_cmp l) (sym (take-append-drop n (drop m xs))) back)

-- What heads say of keys.
use Rattle.std.proofs.Common.{◌≡◌, ℕ, zero, suc, ◌+◌, ◌-◌, ◌*◌, ◌^◌, ◌<◌, ◌≤◌, Bool, true, false, nat_le, nat_lt, List, [], ◌∷◌, length, get_or, drop, refl, sym, ◌∙◌, ap, arith, inl, inr, ◌⊎◌, add-one}
use Rattle.std.specs.Ordering.{is_eq, is_lt, nat_cmp, ordering_then, ordering_reverse}
use Rattle.std.specs.FinMap.{slice_cmp-IsAntisymmetric, nat_cmp-IsAntisymmetric}
use Rattle.std.specs.Cmp.Lexicographic.{slice_cmp}
use Rattle.std.specs.declared.cmp.Ordering.{Ordering}
use Rattle.std.specs.declared.cmp.Ordering.TheVariants.{Less, Equal, Greater}
use Rattle.std.proofs.Math.Nat.{pow-suc, pow-le-pow_right}
use Rattle.std.proofs.lemmas.Bool.{cases_lt}
use Rattle.std.proofs.lemmas.Bool.Decides.{nat_tests}
use Rattle.std.proofs.lemmas.Cmp.{nat_list_cmp_total}
use Rattle.std.proofs.lemmas.List.{drop_more, drop_all, get_or_past}
use Rattle.lsm_below.specs.Sorted.{by_ordering}
use Rattle.lsm_below.specs.Lookups.{stands_before}
use Rattle.lsm_below.specs.Slots.{same_key, is_before}
use Rattle.lsm_below.specs.Keys.{AreBytes}
use Rattle.lsm_below.specs.Entries.{Entry, HasBytes}
use Rattle.lsm_below.specs.Heads.{head_from, key_head, entry_head}

less_is : (x y : ℕ) → x < y → nat_cmp x y ≡ Less
less_is x y lt = grind (arith, nat_tests)

same_is : (x y : ℕ) → x ≡ y → nat_cmp x y ≡ Equal
same_is x y e = grind (arith, nat_tests)

no_less : (xs : List ℕ) → slice_cmp nat_cmp xs [] ≡ Less → ⊥
no_less [] h = cc h
no_less (x ∷ xs) h = cc h

-- a lesser number comes from a lesser start, or from the same start and a lesser key
head_order : (n a b : ℕ) (xs ys : List ℕ) → AreBytes xs → AreBytes ys → head_from a n xs < head_from b n ys → (a < b) ⊎ ((a ≡ b) × (slice_cmp nat_cmp xs ys ≡ Less))
unfolding head_from
head_order zero a b xs ys hx hy lt = inl lt
head_order (suc n) a b [] [] hx hy lt = elim (head_order n (a * 256) (b * 256) [] [] hx hy lt) [
  | inl less ↦ inl (omega arith)
  | inr h ↦ absurd (no_less [] h.1)
]
head_order (suc n) a b [] (y ∷ ys) hx hy lt =
    let y_in : y < 256 = hy 0 in
    elim (head_order n (a * 256) (b * 256 + y) [] ys hx (λ i. hy (suc i)) lt) [
      | inl less ↦ elim (cases_lt a b) [ inl l ↦ inl l | inr g ↦ inr (omega arith, refl) ]
      | inr h ↦ let e = h.0 in elim (cases_lt a b) [ inl l ↦ inl l | inr g ↦ inr (omega arith, refl) ]
    ]
head_order (suc n) a b (x ∷ xs) [] hx hy lt = elim (head_order n (a * 256 + x) (b * 256) xs [] (λ i. hx (suc i)) hy lt) [
  | inl less ↦ inl (omega arith)
  | inr h ↦ absurd (no_less xs h.1)
]
head_order (suc n) a b (x ∷ xs) (y ∷ ys) hx hy lt =
    let x_in : x < 256 = hx 0 in
    let y_in : y < 256 = hy 0 in
    elim (head_order n (a * 256 + x) (b * 256 + y) xs ys (λ i. hx (suc i)) (λ i. hy (suc i)) lt) [
      | inl less ↦ elim (cases_lt a b) [
        | inl l ↦ inl l
        | inr g ↦ inr (omega arith, ap (λ o. ordering_then o (slice_cmp nat_cmp xs ys)) (less_is x y (omega arith)))
      ]
      | inr h ↦ let e = h.0 in elim (cases_lt a b) [
        | inl l ↦ inl l
        | inr g ↦ inr (omega arith, ap (λ o. ordering_then o (slice_cmp nat_cmp xs ys)) (same_is x y (omega arith)) ∙ h.1)
      ]
    ]

-- the lesser head has the lesser key
pub head_less : (xs ys : List ℕ) → AreBytes xs → AreBytes ys → key_head xs < key_head ys → slice_cmp nat_cmp xs ys ≡ Less
head_less xs ys hx hy lt = elim (head_order 16 0 0 xs ys hx hy lt) [
  | inl less ↦ absurd (omega arith)
  | inr h ↦ h.1
]

-- keys of one length which their equal numbers hold whole
same_keys : (n a b : ℕ) (xs ys : List ℕ) → AreBytes xs → AreBytes ys → length xs ≡ length ys → length ys ≤ n → head_from a n xs ≡ head_from b n ys → (a ≡ b) × (xs ≡ ys)
unfolding head_from
same_keys zero a b [] [] hx hy len le e = (e, refl)
same_keys zero a b [] (y ∷ ys) hx hy len le e = absurd (omega arith)
same_keys zero a b (x ∷ xs) ys hx hy len le e = absurd (omega arith)
same_keys (suc n) a b [] [] hx hy len le e = let h = (same_keys n (a * 256) (b * 256) [] [] hx hy refl (omega arith) e).0 in (omega arith, refl)
same_keys (suc n) a b [] (y ∷ ys) hx hy len le e = absurd (omega arith)
same_keys (suc n) a b (x ∷ xs) [] hx hy len le e = absurd (omega arith)
same_keys (suc n) a b (x ∷ xs) (y ∷ ys) hx hy len le e =
    let x_in : x < 256 = hx 0 in
    let y_in : y < 256 = hy 0 in
    let h = same_keys n (a * 256 + x) (b * 256 + y) xs ys (λ i. hx (suc i)) (λ i. hy (suc i)) (omega arith) (omega arith) e in
    let start = h.0 in
    let first : x ≡ y = omega arith in
    (omega arith, ap (λ z. z ∷ xs) first ∙ ap (λ l. y ∷ l) h.1)

its_own_reverse : (o : Ordering) → o ≡ ordering_reverse o → o ≡ Equal
its_own_reverse Less e = absurd (cc e)
its_own_reverse Equal e = refl
its_own_reverse Greater e = absurd (cc e)

-- the entry's key is this one, so that its number decides
pub head_same : (e : Entry) (key : List ℕ) (s : ℕ) → HasBytes e → AreBytes key → entry_head e ≡ key_head key → length e.key.user_key ≡ length key → length key ≤ 16 → nat_le s e.key.seqno ≡ stands_before key s e
head_same e key s he hk head len le =
    let same = (same_keys 16 0 0 e.key.user_key key he hk len le head).1 in
    let tie = ap (λ k. slice_cmp nat_cmp k key) same ∙ its_own_reverse (slice_cmp nat_cmp key key) (nat_list_cmp_total.antisymm key key) in
    sym (ap (λ o. by_ordering o true (nat_le s e.key.seqno) false) tie)

here : (a n x : ℕ) (xs : List ℕ) → head_from a (suc n) (x ∷ xs) ≡ head_from (a * 256 + x) n xs
unfolding head_from
here a n x xs = refl

past_end : (a n : ℕ) → head_from a (suc n) [] ≡ head_from (a * 256) n []
unfolding head_from
past_end a n = refl

-- one more byte
pub head_step : (so_far p : ℕ) (key : List ℕ) → p < 16 → head_from so_far (16 - p) (drop p key) ≡ head_from (so_far * 256 + get_or key p 0) (16 - (p + 1)) (drop (p + 1) key)
head_step so_far p key lt =
    let rest : 16 - p ≡ suc (16 - (p + 1)) = omega arith in
    ap (λ n. head_from so_far n (drop p key)) rest ∙ elim (cases_lt p (length key)) [
      | inl within ↦ ap (λ l. head_from so_far (suc (16 - (p + 1))) l) (drop_more key p 0 within) ∙ here so_far (16 - (p + 1)) (get_or key p 0) (drop (p + 1) key)
      | inr past ↦
          ap (λ l. head_from so_far (suc (16 - (p + 1))) l) (drop_all p key past) ∙ (past_end so_far (16 - (p + 1))
          ∙ (ap (λ l. head_from (so_far * 256) (16 - (p + 1)) l) (sym (drop_all (p + 1) key (omega arith)))
          ∙ ap (λ k. head_from k (16 - (p + 1)) (drop (p + 1) key)) (zero_more (so_far * 256) (get_or key p 0) (get_or_past key p 0 past))))
    ]
  where
    zero_more : (a x : ℕ) → x ≡ 0 → a ≡ a + x
    zero_more a x e = omega arith

pub head_all : (so_far : ℕ) (key : List ℕ) (p : ℕ) → p ≡ 16 → head_from so_far (16 - p) (drop p key) ≡ so_far
unfolding head_from
head_all so_far key p e = ap (λ k. head_from so_far (16 - k) (drop k key)) e

pub head_room : (p head byte : ℕ) → p < 16 → head < 256 ^ p → byte < 256 → (head * 256 + byte < 256 ^ (p + 1)) × (head * 256 + byte < 2 ^ 128)
head_room p head byte lt below in_byte =
    let more : head * 256 + byte < 256 ^ (p + 1) = rw (add-one, pow-suc) (omega arith) in
    (more, omega (arith, pow-le-pow_right {n = 256} (omega arith) {i = p + 1} {j = 16} (omega arith)))

-- keys of one head and one length which the head holds whole tie
pub keys_tie : (xs ys : List ℕ) → AreBytes xs → AreBytes ys → key_head xs ≡ key_head ys → length xs ≡ length ys → length ys ≤ 16 → slice_cmp nat_cmp xs ys ≡ Equal
keys_tie xs ys hx hy head len le =
    let same = (same_keys 16 0 0 xs ys hx hy len le head).1 in
    ap (λ k. slice_cmp nat_cmp k ys) same ∙ its_own_reverse (slice_cmp nat_cmp ys ys) (nat_list_cmp_total.antisymm ys ys)

-- ---- two entries of one key

-- two keys that differ don't tie
pub other_key : (a b : List ℕ) → (a ≡ b → ⊥) → false ≡ is_eq (slice_cmp nat_cmp a b)
other_key a b apart = go (slice_cmp nat_cmp a b) refl
  where
    go : (r : Ordering) → slice_cmp nat_cmp a b ≡ r → false ≡ is_eq r
    go Less is = refl
    go Equal is = absurd (apart (slice_cmp-IsAntisymmetric nat_cmp-IsAntisymmetric a b is))
    go Greater is = refl

-- other heads, other keys
pub heads_apart : (e f : Entry) → (entry_head e ≡ entry_head f → ⊥) → false ≡ same_key e f
heads_apart e f apart = other_key e.key.user_key f.key.user_key (λ same. apart (ap key_head same))

-- other lengths, other keys
pub lengths_apart : (e f : Entry) → (length e.key.user_key ≡ length f.key.user_key → ⊥) → false ≡ same_key e f
lengths_apart e f apart = other_key e.key.user_key f.key.user_key (λ same. apart (ap (λ (l : List ℕ). length l) same))

-- a short key of one head and length is the same
pub head_one : (e f : Entry) → HasBytes e → HasBytes f → entry_head e ≡ entry_head f → length e.key.user_key ≡ length f.key.user_key → length e.key.user_key ≤ 16 → true ≡ same_key e f
head_one e f he hf head len le = sym (ap is_eq (keys_tie e.key.user_key f.key.user_key he hf head len (omega (arith, len, le))))

-- ---- two heads that differ decide

lt_true : (x y : ℕ) → x < y → nat_lt x y ≡ true
lt_true x y lt = grind (arith, nat_tests)

lt_false : (x y : ℕ) → y < x → nat_lt x y ≡ false
lt_false x y lt = grind (arith, nat_tests)

-- how keys of two heads compare
heads_decide : (xs ys : List ℕ) → AreBytes xs → AreBytes ys → (key_head xs ≡ key_head ys → ⊥) → (by : Ordering → Bool) → by Less ≡ true → by Greater ≡ false → nat_lt (key_head xs) (key_head ys) ≡ by (slice_cmp nat_cmp xs ys)
heads_decide xs ys hx hy apart by less_by greater_by = elim (cases_lt (key_head xs) (key_head ys)) [
  | inl less ↦ lt_true (key_head xs) (key_head ys) less ∙ (sym less_by ∙ sym (ap by (head_less xs ys hx hy less)))
  | inr ge ↦ elim (cases_lt (key_head ys) (key_head xs)) [
    | inl less ↦ lt_false (key_head xs) (key_head ys) less ∙ (sym greater_by ∙ sym (ap by (nat_list_cmp_total.antisymm xs ys ∙ ap ordering_reverse (head_less ys xs hy hx less))))
    | inr le ↦ absurd (apart (omega arith))
  ]
]

-- which of two entries stands before the other
pub heads_before : (e f : Entry) → HasBytes e → HasBytes f → (entry_head e ≡ entry_head f → ⊥) → nat_lt (entry_head e) (entry_head f) ≡ is_before e f
heads_before e f he hf apart = heads_decide e.key.user_key f.key.user_key he hf apart (λ o. is_lt (ordering_then o (nat_cmp f.key.seqno e.key.seqno))) refl refl

-- whether an entry stands before each of a key with a lesser sequence number
pub head_before : (e : Entry) (key : List ℕ) (s : ℕ) → HasBytes e → AreBytes key → (entry_head e ≡ key_head key → ⊥) → nat_lt (entry_head e) (key_head key) ≡ stands_before key s e
head_before e key s he hk apart = heads_decide e.key.user_key key he hk apart (λ o. by_ordering o true (nat_le s e.key.seqno) false) refl refl

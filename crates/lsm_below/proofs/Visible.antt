-- What a lookup finds.
use Rattle.std.proofs.Common.{◌≡◌, ℕ, zero, suc, ◌<◌, ◌≤◌, Bool, true, false, cond, nat_lt, nat_le, List, [], ◌∷◌, length, get_or, Some, None, Option, refl, sym, ◌∙◌, ap, subst, arith, inl, inr, ◌⊎◌, Bor, option_copied, IfSome, IfNone}
use Rattle.std.specs.Cmp.Lexicographic.{slice_cmp}
use Rattle.std.specs.declared.cmp.Ordering.{Ordering}
use Rattle.std.specs.declared.cmp.Ordering.TheVariants.{Less, Equal, Greater}
use Rattle.std.specs.Ordering.{nat_cmp, ordering_then, is_eq}
use Rattle.std.specs.List.{Contains}
use Rattle.std.specs.List.Sorted.{IsPartitionedBy}
use Rattle.std.proofs.lemmas.Cmp.{nat_list_cmp_total, ranked, tied_itself}
use Rattle.std.proofs.lemmas.List.{get_or_default}
use Rattle.std.proofs.lemmas.Bool.{cases_lt, lt-ltb, ltb-true, both_ways}
use Rattle.std.proofs.lemmas.Bool.Decides.{nat_tests}
use Rattle.std.proofs.lemmas.List.Elements.{All-contains}
use Rattle.lsm_below.specs.declared.value.InternalValue.{InternalValue}
use Rattle.lsm_below.specs.Entries.{entry_cmp}
use Rattle.lsm_below.specs.Lookups.{is_visible}
use Rattle.lsm_below.specs.Sorted.{Rises, first, by_ordering}
use Rattle.lsm_below.specs.Lookups.{stands_before, IsTop, HasNone}
use Rattle.lsm_below.proofs.Orders.{entry_total}
use Rattle.lsm_below.proofs.Rising.{rises_at, tied_right, flipped}

module _ {X : Type 0} (p : X → Bool) where
  pub first_at : (xs : List X) (at : ℕ) (d : X) → ((j : ℕ) → j < at → p (get_or xs j d) ≡ false) → at < length xs → p (get_or xs at d) ≡ true → first p xs ≡ Some (get_or xs at d)
  first_at [] at d before in_range here = absurd (omega arith)
  first_at (x ∷ xs) zero d before in_range here = ap (λ b. cond b (Some x) (first p xs)) here
  first_at (x ∷ xs) (suc at) d before in_range here = ap (λ b. cond b (Some x) (first p xs)) (before 0 (omega arith)) ∙ first_at xs at d (λ j lt. before (suc j) (omega arith)) (omega arith) here

  pub first_none : (xs : List X) → ((j : ℕ) (d : X) → j < length xs → p (get_or xs j d) ≡ false) → first p xs ≡ None
  first_none [] none = refl
  first_none (x ∷ xs) none = ap (λ b. cond b (Some x) (first p xs)) (none 0 x (omega arith)) ∙ first_none xs (λ j d lt. none (suc j) d (omega arith))

-- of two entries in order, what comes after the first part has no entry of it after
before_cases : (a b k : List ℕ) (m n s : ℕ) (r q : Ordering) → slice_cmp nat_cmp a b ≡ r → slice_cmp nat_cmp b k ≡ q → ordering_then r (nat_cmp n m) ≡ Less → by_ordering q true (nat_le s n) false ≡ true
    → by_ordering (slice_cmp nat_cmp a k) true (nat_le s m) false ≡ true
before_cases a b k m n s Less Less ab bk less here = ap (λ o. by_ordering o true (nat_le s m) false) (nat_list_cmp_total.trans a b k ab bk)
before_cases a b k m n s Less Equal ab bk less here = ap (λ o. by_ordering o true (nat_le s m) false) (sym (tied_right nat_list_cmp_total a b k bk) ∙ ab)
before_cases a b k m n s Less Greater ab bk less here = absurd (cc here)
before_cases a b k m n s Equal Less ab bk less here = ap (λ o. by_ordering o true (nat_le s m) false) (nat_list_cmp_total.congr a b k ab ∙ bk)
before_cases a b k m n s Equal Equal ab bk less here =
    let below : n < m = ranked n m Less (sym less) in
    ap (λ o. by_ordering o true (nat_le s m) false) (nat_list_cmp_total.congr a b k ab ∙ bk) ∙ grind (arith, nat_tests)
before_cases a b k m n s Equal Greater ab bk less here = absurd (cc here)
before_cases a b k m n s Greater q ab bk less here = absurd (cc less)

-- once an entry's key is above k, so is each later one's
above_cases : (a b k : List ℕ) (m n : ℕ) (r : Ordering) → slice_cmp nat_cmp a b ≡ r → ordering_then r (nat_cmp n m) ≡ Less → slice_cmp nat_cmp a k ≡ Greater → slice_cmp nat_cmp b k ≡ Greater
above_cases a b k m n Less ab less ak = flipped nat_list_cmp_total k b Less (nat_list_cmp_total.trans k a b (flipped nat_list_cmp_total a k Greater ak) ab)
above_cases a b k m n Equal ab less ak = sym (nat_list_cmp_total.congr a b k ab) ∙ ak
above_cases a b k m n Greater ab less ak = absurd (cc less)

before_hides : (o : Ordering) (s n : ℕ) → by_ordering o true (nat_le s n) false ≡ true → cond (is_eq o) (nat_lt n s) false ≡ false
before_hides Less s n here = refl
before_hides Equal s n here = grind (arith, nat_tests)
before_hides Greater s n here = refl

behind_shows : (o : Ordering) (s n : ℕ) → by_ordering o true (nat_le s n) false ≡ false → is_eq o ≡ true → cond (is_eq o) (nat_lt n s) false ≡ true
behind_shows Less s n here tie = absurd (cc tie)
behind_shows Equal s n here tie = grind (arith, nat_tests)
behind_shows Greater s n here tie = absurd (cc tie)

behind_above : (o : Ordering) (s n : ℕ) → by_ordering o true (nat_le s n) false ≡ false → is_eq o ≡ false → o ≡ Greater
behind_above Less s n here other = absurd (cc here)
behind_above Equal s n here other = absurd (cc other)
behind_above Greater s n here other = refl

module _ (xs : List InternalValue) (rises : Rises entry_cmp xs) (key : List ℕ) (s : ℕ) where
  pub parted : IsPartitionedBy (stands_before key s) xs
  parted i j d le in_range here =
      elim (cases_lt i j) [
        | inl lt ↦ before_cases _ (get_or xs j d).key.user_key key _ (get_or xs j d).key.seqno s _ _ refl refl (rises_at entry_total xs i j d rises lt in_range) here
        | inr ge ↦ let same : i ≡ j = omega arith in subst (λ k. stands_before key s (get_or xs k d) ≡ true) (sym same) here
      ]

  module _ (at : ℕ) (before : (j : ℕ) (d : InternalValue) → j < at → stands_before key s (get_or xs j d) ≡ true) (behind : (j : ℕ) (d : InternalValue) → at ≤ j → j < length xs → stands_before key s (get_or xs j d) ≡ false) where
    -- the list ends before such an entry
    pub none_past_end : length xs ≤ at → first (is_visible key s) xs ≡ None
    none_past_end past = first_none (is_visible key s) xs (λ j d lt. before_hides _ s (get_or xs j d).key.seqno (before j d (omega arith)))

    -- the entry there is one
    pub found_at : (e : InternalValue) → at < length xs → e ≡ get_or xs at e → is_eq (slice_cmp nat_cmp e.key.user_key key) ≡ true → first (is_visible key s) xs ≡ Some e
    found_at e in_range read same =
        first_at (is_visible key s) xs at e (λ j lt. before_hides _ s (get_or xs j e).key.seqno (before j e lt)) in_range
        (behind_shows _ s (get_or xs at e).key.seqno (behind at e (omega arith) in_range) (ap (λ x. is_eq (slice_cmp nat_cmp x.key.user_key key)) (sym read) ∙ same))
        ∙ ap (λ x. Some x) (sym read)

    -- the entry there has another key, so no entry is one
    pub none_at : (e : InternalValue) → at < length xs → e ≡ get_or xs at e → is_eq (slice_cmp nat_cmp e.key.user_key key) ≡ false → first (is_visible key s) xs ≡ None
    none_at e in_range read other = first_none (is_visible key s) xs each
      where
        above : slice_cmp nat_cmp (get_or xs at e).key.user_key key ≡ Greater
        above = behind_above _ s (get_or xs at e).key.seqno (behind at e (omega arith) in_range) (ap (λ x. is_eq (slice_cmp nat_cmp x.key.user_key key)) (sym read) ∙ other)

        here_d : (d : InternalValue) → slice_cmp nat_cmp (get_or xs at d).key.user_key key ≡ Greater
        here_d d = subst (λ x. slice_cmp nat_cmp x.key.user_key key ≡ Greater) (get_or_default xs at e d in_range) above

        later : (j : ℕ) (d : InternalValue) → at ≤ j → j < length xs → slice_cmp nat_cmp (get_or xs j d).key.user_key key ≡ Greater
        later j d ge lt = elim (cases_lt at j) [
          | inl less ↦ above_cases (get_or xs at d).key.user_key _ key (get_or xs at d).key.seqno (get_or xs j d).key.seqno _ refl (rises_at entry_total xs at j d rises less lt) (here_d d)
          | inr le ↦ let same : at ≡ j = omega arith in subst (λ k. slice_cmp nat_cmp (get_or xs k d).key.user_key key ≡ Greater) same (here_d d)
        ]

        each : (j : ℕ) (d : InternalValue) → j < length xs → is_visible key s (get_or xs j d) ≡ false
        each j d lt = elim (cases_lt j at) [
          | inl less ↦ before_hides _ s (get_or xs j d).key.seqno (before j d less)
          | inr ge ↦ ap (λ o. cond (is_eq o) (nat_lt (get_or xs j d).key.seqno s) false) (later j d ge lt)
        ]

-- a tie of two texts is that they are the same
same_texts : (xs ys : List ℕ) → slice_cmp nat_cmp xs ys ≡ Equal → xs ≡ ys
same_texts [] [] tie = refl
same_texts [] (y ∷ ys) tie = absurd (cc tie)
same_texts (x ∷ xs) [] tie = absurd (cc tie)
same_texts (x ∷ xs) (y ∷ ys) tie = go (same_texts xs ys) (nat_cmp x y) refl tie
  where
    go : (slice_cmp nat_cmp xs ys ≡ Equal → xs ≡ ys) → (o : Ordering) → nat_cmp x y ≡ o → ordering_then o (slice_cmp nat_cmp xs ys) ≡ Equal → x ∷ xs ≡ y ∷ ys
    go rest Less is t = absurd (cc t)
    go rest Equal is t = let e : x ≡ y = ranked x y Equal (sym is) in ap (λ z. z ∷ xs) e ∙ ap (λ l. y ∷ l) (rest t)
    go rest Greater is t = absurd (cc t)

-- what `is_visible` says
pub visible_parts : (key : List ℕ) (s : ℕ) (e : InternalValue) → is_visible key s e ≡ true → (e.key.user_key ≡ key) × (e.key.seqno < s)
visible_parts key s e = go (slice_cmp nat_cmp e.key.user_key key) refl
  where
    go : (o : Ordering) → slice_cmp nat_cmp e.key.user_key key ≡ o → cond (is_eq o) (nat_lt e.key.seqno s) false ≡ true → (e.key.user_key ≡ key) × (e.key.seqno < s)
    go Less is h = absurd (cc h)
    go Equal is h = (same_texts e.key.user_key key is, ltb-true e.key.seqno s h)
    go Greater is h = absurd (cc h)

visible_from : (key : List ℕ) (s : ℕ) (e : InternalValue) → e.key.user_key ≡ key → e.key.seqno < s → is_visible key s e ≡ true
visible_from key s e same below = rw (same, tied_itself nat_list_cmp_total key) (lt-ltb e.key.seqno s below)

-- an element is the first or in the rest
contains_cases : (x : InternalValue) (xs : List InternalValue) (f : InternalValue) → Contains (x ∷ xs) f → (x ≡ f) ⊎ Contains xs f
contains_cases x xs f (zero, lt, is) = inl is
contains_cases x xs f (suc k, lt, is) = inr (k, omega (arith, lt), is)

pub behind_lower : (x f : InternalValue) → entry_cmp x f ≡ Less → x.key.user_key ≡ f.key.user_key → f.key.seqno ≤ x.key.seqno
behind_lower x f less same =
    let tie : slice_cmp nat_cmp x.key.user_key f.key.user_key ≡ Equal = rw same (tied_itself nat_list_cmp_total f.key.user_key) in
    let fall : nat_cmp f.key.seqno x.key.seqno ≡ Less = ap (λ o. ordering_then o (nat_cmp f.key.seqno x.key.seqno)) (sym tie) ∙ less in
    let lt : f.key.seqno < x.key.seqno = ranked f.key.seqno x.key.seqno Less (sym fall) in
    omega arith

pub has_none : (xs : List InternalValue) (key : List ℕ) (s : ℕ) → first (is_visible key s) xs ≡ None → HasNone xs key s
has_none [] key s none f there same below = omega (arith, there.1)
has_none (x ∷ xs) key s none f there same below = go (λ h rest. has_none xs key s h f rest same below) (is_visible key s x) refl none
  where
    go : (first (is_visible key s) xs ≡ None → Contains xs f → ⊥) → (b : Bool) → is_visible key s x ≡ b → cond b (Some x) (first (is_visible key s) xs) ≡ None → ⊥
    go later true is h = cc h
    go later false is h = elim (contains_cases x xs f there) [
      | inl e ↦ both_ways _ is (visible_from key s x (ap (λ z. z.key.user_key) e ∙ same) (subst (λ z. z.key.seqno < s) (sym e) below))
      | inr rest ↦ later h rest
    ]

pub is_top : (xs : List InternalValue) (key : List ℕ) (s : ℕ) (e : InternalValue) → Rises entry_cmp xs → first (is_visible key s) xs ≡ Some e → IsTop xs key s e
is_top [] key s e rises found = absurd (cc found)
is_top (x ∷ xs) key s e rises found = go (λ h. is_top xs key s e rises.1 h) (is_visible key s x) refl found
  where
    go : (first (is_visible key s) xs ≡ Some e → IsTop xs key s e) → (b : Bool) → is_visible key s x ≡ b → cond b (Some x) (first (is_visible key s) xs) ≡ Some e → IsTop (x ∷ xs) key s e
    go later true is h =
        let same : x ≡ e = cc h in
        let parts = visible_parts key s x is in
        subst (λ z. IsTop (x ∷ xs) key s z) same record {
          there = (0, omega arith, refl);
          key_is = parts.0;
          below = parts.1;
          greatest = λ f there f_key f_below. elim (contains_cases x xs f there) [
            | inl e ↦ subst (λ z. z.key.seqno ≤ x.key.seqno) e (omega arith)
            | inr rest ↦ behind_lower x f (All-contains (λ y. entry_cmp x y ≡ Less) xs f rises.0 rest) (parts.0 ∙ sym f_key)
          ];
        }
    go later false is h =
        let top = later h in record {
          there = (suc top.there.0, omega (arith, top.there.1), top.there.2);
          key_is = top.key_is;
          below = top.below;
          greatest = λ f there f_key f_below. elim (contains_cases x xs f there) [
            | inl e ↦ absurd (both_ways _ is (visible_from key s x (ap (λ z. z.key.user_key) e ∙ f_key) (subst (λ z. z.key.seqno < s) (sym e) f_below)))
            | inr rest ↦ top.greatest f rest f_key f_below
          ];
        }

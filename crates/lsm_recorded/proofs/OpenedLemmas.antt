-- Marks of opened entries, noted from the last entry to the first.
use Rattle.std.proofs.Common.{◌≡◌, ℕ, suc, ◌+◌, ◌-◌, ◌<◌, ◌≤◌, max, min, Bool, true, false, cond, ◌&&◌, nat_lt, nat_le, List, [], ◌∷◌, ◌++◌, length, get_or, take, drop, flat_map, refl, sym, ap, ◌∙◌, subst, arith, append-nil, append_assoc}
use Rattle.std.specs.List.{AllByRecursion}
use Rattle.std.specs.BTreeMap.{BTreeMap}
use Rattle.std.proofs.lemmas.Bool.Decides.{nat_tests}
use Rattle.std.proofs.lemmas.List.{take-append-drop}
use Rattle.std.proofs.lemmas.List.Elements.{filter-append}
use Rattle.std.proofs.lemmas.List.Concat.{flat_map-cons}
use Rattle.std.proofs.lemmas.Grind.{flat_map-append}
use Rattle.std.proofs.Math.Seq.{drop-cons}
use Rattle.lsm_below.specs.Keys.{Bytes, is_same}
use Rattle.lsm_below.specs.Entries.{Entry, stack, above, values, is_weak, is_value_kind, is_weak_kind, IsFalling, IsSingle}
use Rattle.lsm_below.specs.declared.value_type.ValueType.{ValueType}
use Rattle.lsm_below.specs.declared.value_type.ValueType.TheVariants.{Value, Tombstone, WeakTombstone}
use Rattle.lsm_recorded.specs.declared.marks.Mark.{Mark}
use Rattle.lsm_recorded.specs.declared.opened.OpenedMarks.{OpenedMarks}
use Rattle.lsm_recorded.specs.Marks.{mark_of, marked, mark_in, next_mark, mark_allows, kind_allows, opened_type, AreInOrder, IsMarked, MarksMore}
use Rattle.lsm_recorded.proofs.MarksLemmas.{same_self, both, le_of}
use Rattle.lsm_versions.proofs.Walks.{same_key}

-- ---- entries in order

falls : (es : List Entry) → AreInOrder es → (k : Bytes) → IsFalling (stack k es)
falls es o k = subst (λ l. IsFalling (stack k l)) (append-nil es) (o.ordered k)

in_order : (es : List Entry) → ((k : Bytes) → IsFalling (stack k es)) → ((k : Bytes) → IsSingle (stack k es)) → AreInOrder es
in_order es falling single = record { ordered = λ k. subst (λ l. IsFalling (stack k l)) (sym (append-nil es)) (falling k); single = single }

falling_behind : (xs ys : List Entry) → IsFalling (xs ++ ys) → IsFalling ys
falling_behind [] ys h = h
falling_behind (x ∷ xs) ys h = falling_behind xs ys h.1

single_behind : (xs ys : List Entry) → IsSingle (xs ++ ys) → IsSingle ys
single_behind [] ys h = h
single_behind (x ∷ xs) ys h = single_behind xs ys h.1

-- what stands after entries in order is in order
order_behind : (xs ys : List Entry) → AreInOrder (xs ++ ys) → AreInOrder ys
order_behind xs ys o =
    in_order ys
    (λ k. falling_behind (stack k xs) (stack k ys) (subst IsFalling (filter-append (λ e. is_same k e.key.user_key) xs ys) (falls (xs ++ ys) o k)))
    (λ k. single_behind (stack k xs) (stack k ys) (subst IsSingle (filter-append (λ e. is_same k e.key.user_key) xs ys) (o.single k)))

above_le : (n : ℕ) (es : List Entry) → AllByRecursion (λ f. f.key.seqno < n) es → above es ≤ n
above_le n [] h = omega arith
above_le n (e ∷ es) h = let rest = above_le n es h.1 in let here = h.0 in omega arith

below_above : (n : ℕ) (es : List Entry) → above es ≤ n → AllByRecursion (λ f. f.key.seqno < n) es
below_above n [] h = tt
below_above n (e ∷ es) h = (omega arith, below_above n es (omega arith))

-- ---- one more entry

-- the entries of its own key
own : (e : Entry) (es : List Entry) → stack e.key.user_key (e ∷ es) ≡ e ∷ stack e.key.user_key es
own e es = ap (λ b. cond b (e ∷ stack e.key.user_key es) (stack e.key.user_key es)) (same_self e.key.user_key)

le_true : (a b : ℕ) → a ≤ b → nat_le a b ≡ true
le_true a b h = grind (arith, nat_tests)

few_true : (s : ℕ) → s ≤ 1 → nat_lt (min s 2) 2 ≡ true
few_true s h = grind (arith, nat_tests)

kind_true : (kind : ValueType) (n s : ℕ) → (is_weak_kind kind ≡ true → s ≤ 1) → kind_allows (record { next = n; sets = min s 2; is_weak = false }) kind ≡ true
kind_true Value n s h = refl
kind_true Tombstone n s h = refl
kind_true WeakTombstone n s h = few_true s (h refl)

and_true : (a b : Bool) → a ≡ true → b ≡ true → (a && b) ≡ true
and_true a b p q = ap (λ x. x && b) p ∙ q

allowed : (e : Entry) (es : List Entry) → AreInOrder (e ∷ es) → mark_allows (mark_in es [] e.key.user_key) e.key.seqno e.key.value_type ≡ true
allowed e es o =
    let k = e.key.user_key in
    let falling = subst IsFalling (own e es) (falls (e ∷ es) o k) in
    let single = subst IsSingle (own e es) (o.single k) in
    and_true (nat_le (above (stack k es)) e.key.seqno) (kind_allows (mark_in es [] k) e.key.value_type) (le_true (above (stack k es)) e.key.seqno (above_le e.key.seqno (stack k es) falling.0)) (kind_true e.key.value_type (above (stack k es)) (values (stack k es)) single.0)

true_false : (b : Bool) → b ≡ true → b ≡ false → ⊥
true_false b p q = let e = sym p ∙ q in absurd (cc e)

-- an entry that its key's mark doesn't allow breaks the order
pub entry_breaks : (marks : BTreeMap Bytes Mark) (least : ℕ) (e : Entry) (m : Mark) (b : Bool) (es : List Entry) → m ≡ mark_of marks e.key.user_key → b ≡ mark_allows m e.key.seqno e.key.value_type → b ≡ false → IsMarked marks least es → AreInOrder (e ∷ es) → ⊥
entry_breaks marks least e m b es is told no_leave h o =
    true_false (mark_allows (mark_in es [] e.key.user_key) e.key.seqno e.key.value_type) (allowed e es o)
    (sym (ap (λ x. mark_allows x e.key.seqno e.key.value_type) (is ∙ h.noted e.key.user_key)) ∙ sym told ∙ no_leave)

few_of : (s : ℕ) → nat_lt (min s 2) 2 ≡ true → s ≤ 1
few_of s h = grind (arith, nat_tests)

kind_of_true : (kind : ValueType) (n s : ℕ) → kind_allows (record { next = n; sets = min s 2; is_weak = false }) kind ≡ true → is_weak_kind kind ≡ true → s ≤ 1
kind_of_true Value n s h w = absurd (cc w)
kind_of_true Tombstone n s h w = absurd (cc w)
kind_of_true WeakTombstone n s h w = few_of s h

-- the mark of a key with one more entry in front
kind_more : (kind : ValueType) (n s number : ℕ) → ◌≡◌ {A = Mark} (next_mark (record { next = n; sets = min s 2; is_weak = false }) number (opened_type kind)) (record { next = max (number + 1) n; sets = min (cond (is_value_kind kind) 1 0 + s) 2; is_weak = false })
kind_more Value n s number =
    let p : max n (number + 1) ≡ max (number + 1) n = omega arith in
    let q : min (min s 2 + 1) 2 ≡ min (1 + s) 2 = omega arith in
    ap (λ z. record { next = z; sets = min (min s 2 + 1) 2; is_weak = false }) p ∙ ap (λ z. record { next = max (number + 1) n; sets = z; is_weak = false }) q
kind_more Tombstone n s number =
    let p : max n (number + 1) ≡ max (number + 1) n = omega arith in
    let q : min s 2 ≡ min (0 + s) 2 = omega arith in
    ap (λ z. record { next = z; sets = min s 2; is_weak = false }) p ∙ ap (λ z. record { next = max (number + 1) n; sets = z; is_weak = false }) q
kind_more WeakTombstone n s number =
    let p : max n (number + 1) ≡ max (number + 1) n = omega arith in
    let q : min s 2 ≡ min (0 + s) 2 = omega arith in
    ap (λ z. record { next = z; sets = min s 2; is_weak = false }) p ∙ ap (λ z. record { next = max (number + 1) n; sets = z; is_weak = false }) q

-- the mark that a stack of entries gives
abbrev mark_at : List Entry → Mark
mark_at st = record { next = above st; sets = min (values st) 2; is_weak = false }

noted_more : (e : Entry) (es : List Entry) (q : Bytes) → marked (mark_in es []) e.key.user_key (next_mark (mark_in es [] e.key.user_key) e.key.seqno (opened_type e.key.value_type)) q ≡ mark_in (e ∷ es) [] q
noted_more e es q =
    elim (is_same q e.key.user_key) as (λ b. is_same q e.key.user_key ≡ b → cond b (next_mark (mark_in es [] e.key.user_key) e.key.seqno (opened_type e.key.value_type)) (mark_in es [] q) ≡ mark_at (cond b (e ∷ stack q es) (stack q es))) [
      | true ↦ λ same. kind_more e.key.value_type (above (stack e.key.user_key es)) (values (stack e.key.user_key es)) e.key.seqno ∙ ap (λ k. mark_at (e ∷ stack k es)) (sym (same_key q e.key.user_key same))
      | false ↦ λ other. refl
    ] refl

falling_more : (e : Entry) (es : List Entry) → above (stack e.key.user_key es) ≤ e.key.seqno → ((k : Bytes) → IsFalling (stack k es)) → (q : Bytes) → IsFalling (stack q (e ∷ es))
falling_more e es up all q =
    elim (is_same q e.key.user_key) as (λ b. is_same q e.key.user_key ≡ b → IsFalling (cond b (e ∷ stack q es) (stack q es))) [
      | true ↦ λ same. (below_above e.key.seqno (stack q es) (subst (λ k. above (stack k es) ≤ e.key.seqno) (sym (same_key q e.key.user_key same)) up), all q)
      | false ↦ λ other. all q
    ] refl

single_more : (e : Entry) (es : List Entry) → (is_weak e ≡ true → values (stack e.key.user_key es) ≤ 1) → ((k : Bytes) → IsSingle (stack k es)) → (q : Bytes) → IsSingle (stack q (e ∷ es))
single_more e es few all q =
    elim (is_same q e.key.user_key) as (λ b. is_same q e.key.user_key ≡ b → IsSingle (cond b (e ∷ stack q es) (stack q es))) [
      | true ↦ λ same. (λ w. subst (λ k. values (stack k es) ≤ 1) (sym (same_key q e.key.user_key same)) (few w), all q)
      | false ↦ λ other. all q
    ] refl

-- an entry that its key's mark allows is noted
pub entry_marked : (old new : BTreeMap Bytes Mark) (least top : ℕ) (e : Entry) (m : Mark) (b : Bool) (es : List Entry) → m ≡ mark_of old e.key.user_key → b ≡ mark_allows m e.key.seqno e.key.value_type → b ≡ true
    → ((q : Bytes) → mark_of new q ≡ marked (mark_of old) e.key.user_key (next_mark m e.key.seqno (opened_type e.key.value_type)) q) → top ≡ max least (e.key.seqno + 1) → IsMarked old least es → IsMarked new top (e ∷ es)
entry_marked old new least top e m b es is told yes_may set up h =
    let k = e.key.user_key in
    let here : m ≡ mark_in es [] k = is ∙ h.noted k in
    let allows : mark_allows (mark_in es [] k) e.key.seqno e.key.value_type ≡ true = ap (λ x. mark_allows x e.key.seqno e.key.value_type) (sym here) ∙ sym told ∙ yes_may in
    let parts = both (nat_le (above (stack k es)) e.key.seqno) (kind_allows (mark_in es [] k) e.key.value_type) allows in
    let le : above (stack k es) ≤ e.key.seqno = le_of (above (stack k es)) e.key.seqno parts.0 in
    let few = kind_of_true e.key.value_type (above (stack k es)) (values (stack k es)) parts.1 in
    let l : least ≡ above es = h.least_is in
    record {
      noted = λ q.
          set q
          ∙ ap (λ x. cond (is_same q k) (next_mark x e.key.seqno (opened_type e.key.value_type)) (mark_of old q)) here
          ∙ ap (λ x. cond (is_same q k) (next_mark (mark_in es [] k) e.key.seqno (opened_type e.key.value_type)) x) (h.noted q)
          ∙ noted_more e es q;
      least_is = up ∙ ap (λ x. max x (e.key.seqno + 1)) l ∙ (let c : max (above es) (e.key.seqno + 1) ≡ max (e.key.seqno + 1) (above es) = omega arith in c);
      in_order = in_order (e ∷ es) (falling_more e es le (falls es h.in_order)) (single_more e es few h.in_order.single);
    }

-- ---- several entries

more_on : (old mid new : OpenedMarks) (b : Bool) (es fs : List Entry) → MarksMore old true es mid → MarksMore mid b fs new → MarksMore old b (fs ++ es) new
more_on old mid new true es fs first second = λ behind h. subst (λ l. IsMarked new.marks new.least l) (sym (append_assoc fs es behind)) (second (es ++ behind) (first behind h))
more_on old mid new false es fs first second = λ behind h o. second (es ++ behind) (first behind h) (subst AreInOrder (append_assoc fs es behind) o)

breaks_behind : (old new : OpenedMarks) (pre es : List Entry) → MarksMore old false es new → MarksMore old false (pre ++ es) new
breaks_behind old new pre es bad = λ behind h o. bad behind h (order_behind pre (es ++ behind) (subst AreInOrder (append_assoc pre es behind) o))

pub none_in_order : AreInOrder []
none_in_order = record { ordered = λ k. tt; single = λ k. tt }

module _ {A : Type 0} (f : A → List Entry) (xs : List A) (at : ℕ) (x : A) (lt : at < length xs) (is : x ≡ get_or xs at x) where
  split : flat_map f (drop at xs) ≡ f x ++ flat_map f (drop (at + 1) xs)
  split =
      let one : suc at ≡ at + 1 = omega arith in
      ap (flat_map f) (drop-cons xs at x lt ∙ ap (λ n. get_or xs at x ∷ drop n xs) one ∙ ap (λ y. y ∷ drop (at + 1) xs) (sym is)) ∙ flat_map-cons f x (drop (at + 1) xs)

  -- an item that breaks the order breaks that of all
  item_breaks : (old mid new : OpenedMarks) → MarksMore old true (flat_map f (drop (at + 1) xs)) mid → MarksMore mid false (f x) new → MarksMore old false (flat_map f xs) new
  item_breaks old mid new first second =
      let all : flat_map f xs ≡ flat_map f (take at xs) ++ flat_map f (drop at xs) = ap (flat_map f) (sym (take-append-drop at xs)) ∙ flat_map-append f (take at xs) (drop at xs) in
      subst (λ l. MarksMore old false l new) (sym all)
      (breaks_behind old new (flat_map f (take at xs)) (flat_map f (drop at xs)) (subst (λ l. MarksMore old false l new) (sym split) (more_on old mid new false (flat_map f (drop (at + 1) xs)) (f x) first second)))

module _ (xs : List Entry) (at : ℕ) (x : Entry) (lt : at < length xs) (is : x ≡ get_or xs at x) where
  split_one : drop at xs ≡ x ∷ drop (at + 1) xs
  split_one =
      let one : suc at ≡ at + 1 = omega arith in
      drop-cons xs at x lt ∙ ap (λ n. get_or xs at x ∷ drop n xs) one ∙ ap (λ y. y ∷ drop (at + 1) xs) (sym is)

  -- the same of single entries
  pub one_more : (old mid new : OpenedMarks) → MarksMore old true (drop (at + 1) xs) mid → MarksMore mid true (x ∷ []) new → MarksMore old true (drop at xs) new
  one_more old mid new first second = subst (λ l. MarksMore old true l new) (sym split_one) (more_on old mid new true (drop (at + 1) xs) (x ∷ []) first second)

  one_breaks : (old mid new : OpenedMarks) → MarksMore old true (drop (at + 1) xs) mid → MarksMore mid false (x ∷ []) new → MarksMore old false xs new
  one_breaks old mid new first second =
      subst (λ l. MarksMore old false l new) (take-append-drop at xs)
      (breaks_behind old new (take at xs) (drop at xs) (subst (λ l. MarksMore old false l new) (sym split_one) (more_on old mid new false (drop (at + 1) xs) (x ∷ []) first second)))

-- both as a loop comes down to the item
pub item_breaks_at : {A : Type 0} (f : A → List Entry) (xs : List A) (n : ℕ) (x : A) → 0 < n → n ≤ length xs → x ≡ get_or xs (n - 1) x → (old mid new : OpenedMarks) → MarksMore old true (flat_map f (drop n xs)) mid → (told : Bool) → MarksMore mid told (f x) new → told ≡ false → MarksMore old false (flat_map f xs) new
item_breaks_at f xs n x some le is old mid new first told second bad =
    let back : n ≡ n - 1 + 1 = omega (arith, some) in
    item_breaks f xs (n - 1) x (omega (arith, some, le)) is old mid new (subst (λ m. MarksMore old true (flat_map f (drop m xs)) mid) back first) (subst (λ b. MarksMore mid b (f x) new) bad second)

pub one_breaks_at : (xs : List Entry) (n : ℕ) (x : Entry) → 0 < n → n ≤ length xs → x ≡ get_or xs (n - 1) x → (old mid new : OpenedMarks) → MarksMore old true (drop n xs) mid → (told : Bool) → MarksMore mid told (x ∷ []) new → told ≡ false → MarksMore old false xs new
one_breaks_at xs n x some le is old mid new first told second bad =
    let back : n ≡ n - 1 + 1 = omega (arith, some) in
    one_breaks xs (n - 1) x (omega (arith, some, le)) is old mid new (subst (λ m. MarksMore old true (drop m xs) mid) back first) (subst (λ b. MarksMore mid b (x ∷ []) new) bad second)

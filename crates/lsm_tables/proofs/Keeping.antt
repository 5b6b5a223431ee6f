-- What is kept of entries that may be written may be written too.
use Rattle.std.proofs.Common.{◌≡◌, ◌⊎◌, inl, inr, ⊎_elim, ℕ, Bool, true, false, not, ◌&&◌, ◌||◌, cond, eq-eqb, nat_lt, List, [], ◌∷◌, flat_map, filter, refl, sym, subst}
use Rattle.std.specs.Prelude.{nat_eq, ◌==◌}
use Rattle.std.specs.List.{AllByRecursion}
use Rattle.std.specs.Ordering.{nat_cmp, ordering_then, is_le, is_eq}
use Rattle.std.specs.declared.cmp.Ordering.{Ordering}
use Rattle.std.specs.declared.cmp.Ordering.TheVariants.{Less, Equal, Greater}
use Rattle.std.proofs.lemmas.Bool.{eqb-true, both_ways}
use Rattle.std.proofs.lemmas.List.Elements.{All-from_recursion, recursion_from_All}
use Rattle.std.proofs.lemmas.List.Concat.{flat_map-cons}
use Rattle.std.proofs.lemmas.List.Sorted.{All-permutation}
use Rattle.lsm_below.specs.Keys.{Bytes, bytes_cmp, is_same}
use Rattle.lsm_below.specs.Entries.{Entry, entry_cmp, stack, keep, is_del, is_weak, is_value}
use Rattle.lsm_below.specs.Sorted.{Rises}
use Rattle.lsm_below.specs.Streams.{IsInOrder, distinct, KeepsOfMerge}
use Rattle.lsm_below.specs.Optimizes.{EachPair}
use Rattle.lsm_below.specs.Each.{each_append, each_filter, each_weaker}
use Rattle.lsm_below.specs.Members.{IsIn, each_in, filter_in}
use Rattle.lsm_tables.specs.Image.{Fits}
use Rattle.lsm_tables.specs.Cutting.{IsWritable}

-- ---- parts of lists

each_of_lists : (P : Entry → Type 0) (lists : List (List Entry)) → AllByRecursion (AllByRecursion P) lists → AllByRecursion P (flat_map (λ l. l) lists)
each_of_lists P [] h = tt
each_of_lists P (l ∷ lists) h = subst (AllByRecursion P) (sym (flat_map-cons (λ (x : List Entry). x) l lists)) (each_append P l (flat_map (λ x. x) lists) h.0 (each_of_lists P lists h.1))

module _ (P : Entry → Type 0) where
  unless_kept : (b : Bool) (xs : List Entry) → AllByRecursion P xs → AllByRecursion P (cond b [] xs)
  unless_kept true xs h = tt
  unless_kept false xs h = h

  either_kept : (b : Bool) (xs ys : List Entry) → AllByRecursion P xs → AllByRecursion P ys → AllByRecursion P (cond b xs ys)
  either_kept true xs ys h k = h
  either_kept false xs ys h k = k

  each_distinct : (es : List Entry) → AllByRecursion P es → AllByRecursion P (distinct es)
  each_distinct [] h = tt
  each_distinct (e ∷ es) h = (h.0, each_filter P (λ f. not (nat_eq e.key.seqno f.key.seqno)) (distinct es) (each_distinct es h.1))

  each_kept : (w : ℕ) (evict : Bool) (es : List Entry) → AllByRecursion P es → AllByRecursion P (keep w evict es)
  each_kept w evict [] h = tt
  each_kept w evict (e ∷ []) h = unless_kept (evict && (is_del e || is_weak e)) (e ∷ []) (h.0, tt)
  each_kept w evict (e ∷ (f ∷ rest)) h =
      either_kept (nat_lt f.key.seqno w) (cond (evict && is_del e || is_weak e && is_value f) [] (e ∷ [])) (e ∷ keep w evict (f ∷ rest))
      (unless_kept (evict && is_del e || is_weak e && is_value f) (e ∷ []) (h.0, tt)) (h.0, each_kept w evict (f ∷ rest) h.1)

  from_members : (es : List Entry) → ((x : Entry) → IsIn x es → P x) → AllByRecursion P es
  from_members [] h = tt
  from_members (e ∷ es) h = (h e (inl refl), from_members es (λ x i. h x (inr i)))

  -- what holds of the entries of each key holds of all
  each_of_stacks : ((k : Bytes) → is_same k k ≡ true) → (es : List Entry) → ((k : Bytes) → AllByRecursion P (stack k es)) → AllByRecursion P es
  each_of_stacks same es h = from_members es (λ x i. each_in P (stack x.key.user_key es) x (h x.key.user_key) (filter_in (λ (e : Entry). is_same x.key.user_key e.key.user_key) es x i (same x.key.user_key)))

-- ---- sequence numbers apart

abbrev AreApart : Entry → Entry → Type 0
AreApart e f = nat_eq e.key.seqno f.key.seqno ≡ false

pairs_by : (b : Bool) (e : Entry) (es : List Entry) → AllByRecursion (AreApart e) es → EachPair AreApart es → EachPair AreApart (cond b (e ∷ es) es)
pairs_by true e es here rest = (here, rest)
pairs_by false e es here rest = rest

pairs_filter : (t : Entry → Bool) (es : List Entry) → EachPair AreApart es → EachPair AreApart (filter t es)
pairs_filter t [] h = tt
pairs_filter t (e ∷ es) h = pairs_by (t e) e (filter t es) (each_filter (AreApart e) t es h.0) (pairs_filter t es h.1)

apart_by : (e f : Entry) (es : List Entry) (b : Bool) → nat_eq e.key.seqno f.key.seqno ≡ b → AllByRecursion (AreApart e) es → AllByRecursion (AreApart e) (cond (not b) (f ∷ es) es)
apart_by e f es true is rest = rest
apart_by e f es false is rest = (is, rest)

filtered_apart : (e : Entry) (es : List Entry) → AllByRecursion (AreApart e) (filter (λ f. not (nat_eq e.key.seqno f.key.seqno)) es)
filtered_apart e [] = tt
filtered_apart e (f ∷ es) = apart_by e f (filter (λ f. not (nat_eq e.key.seqno f.key.seqno)) es) (nat_eq e.key.seqno f.key.seqno) refl (filtered_apart e es)

pairs_distinct : (es : List Entry) → EachPair AreApart (distinct es)
pairs_distinct [] = tt
pairs_distinct (e ∷ es) = (filtered_apart e (distinct es), pairs_filter (λ f. not (nat_eq e.key.seqno f.key.seqno)) (distinct es) (pairs_distinct es))

one_pair : (b : Bool) (e : Entry) → EachPair AreApart (cond b [] (e ∷ []))
one_pair true e = tt
one_pair false e = (tt, tt)

either_pairs : (b : Bool) (xs ys : List Entry) → EachPair AreApart xs → EachPair AreApart ys → EachPair AreApart (cond b xs ys)
either_pairs true xs ys h k = h
either_pairs false xs ys h k = k

pairs_kept : (w : ℕ) (evict : Bool) (es : List Entry) → EachPair AreApart es → EachPair AreApart (keep w evict es)
pairs_kept w evict [] h = tt
pairs_kept w evict (e ∷ []) h = one_pair (evict && (is_del e || is_weak e)) e
pairs_kept w evict (e ∷ (f ∷ rest)) h =
    either_pairs (nat_lt f.key.seqno w) (cond (evict && is_del e || is_weak e && is_value f) [] (e ∷ [])) (e ∷ keep w evict (f ∷ rest))
    (one_pair (evict && is_del e || is_weak e && is_value f) e) (each_kept (AreApart e) w evict (f ∷ rest) h.0, pairs_kept w evict (f ∷ rest) h.1)

-- ---- in order and apart is rising

by_tests : (a b : Bool) (m n : ℕ) → (b ≡ true → m ≡ n) → is_le (cond a Less (cond b Equal Greater)) ≡ true → (cond a Less (cond b Equal Greater) ≡ Less) ⊎ (m ≡ n)
by_tests true b m n same h = inl refl
by_tests false true m n same h = inr (same refl)
by_tests false false m n same h = absurd (cc h)

le_parts : (r : Ordering) (m n : ℕ) → is_le (ordering_then r (nat_cmp m n)) ≡ true → (ordering_then r (nat_cmp m n) ≡ Less) ⊎ ((is_eq r ≡ true) × (m ≡ n))
le_parts Less m n h = inl refl
le_parts Equal m n h = ⊎_elim (λ l. inl l) (λ e. inr (refl, e)) (by_tests (nat_lt m n) (m == n) m n (λ t. eqb-true m n t) h)
le_parts Greater m n h = absurd (cc h)

lower : (x y : Entry) → is_le (entry_cmp x y) ≡ true → (is_same x.key.user_key y.key.user_key ≡ true → AreApart x y) → entry_cmp x y ≡ Less
lower x y le apart = ⊎_elim (λ l. l) (λ same. absurd (both_ways (nat_eq x.key.seqno y.key.seqno) (apart same.0) (eq-eqb x.key.seqno y.key.seqno (sym same.1)))) (le_parts (bytes_cmp x.key.user_key y.key.user_key) y.key.seqno x.key.seqno le)

by_key : (k : Bytes) (x y : Entry) (ys : List Entry) (b : Bool) → AllByRecursion (AreApart x) (cond b (y ∷ stack k ys) (stack k ys)) → (b ≡ true → AreApart x y) × AllByRecursion (AreApart x) (stack k ys)
by_key k x y ys true h = (λ _. h.0, h.1)
by_key k x y ys false h = (λ e. absurd (cc e), h)

each_lower : (x : Entry) (ys : List Entry) → AllByRecursion (λ y. is_le (entry_cmp x y) ≡ true) ys → AllByRecursion (AreApart x) (stack x.key.user_key ys) → AllByRecursion (λ y. entry_cmp x y ≡ Less) ys
each_lower x [] le apart = tt
each_lower x (y ∷ ys) le apart =
    let parts = by_key x.key.user_key x y ys (is_same x.key.user_key y.key.user_key) apart in
    (lower x y le.0 parts.0, each_lower x ys le.1 parts.1)

tail_pairs : (x : Entry) (xs : List Entry) (b : Bool) → EachPair AreApart (cond b (x ∷ xs) xs) → EachPair AreApart xs
tail_pairs x xs true h = h.1
tail_pairs x xs false h = h

head_pairs : (x : Entry) (xs : List Entry) (b : Bool) → b ≡ true → EachPair AreApart (cond b (x ∷ xs) xs) → AllByRecursion (AreApart x) xs
head_pairs x xs true is h = h.0
head_pairs x xs false is h = absurd (cc is)

pub rises_from : ((k : Bytes) → is_same k k ≡ true) → (es : List Entry) → IsInOrder es → ((k : Bytes) → EachPair AreApart (stack k es)) → Rises entry_cmp es
rises_from same [] order apart = tt
rises_from same (x ∷ xs) order apart =
    let k = x.key.user_key in (
      All-from_recursion (λ y. entry_cmp x y ≡ Less) xs (each_lower x xs order.0 (head_pairs x (stack k xs) (is_same k k) (same k) (apart k))),
      rises_from same xs order.1 (λ q. tail_pairs x (stack q xs) (is_same q k) (apart q)),
    )

-- ---- what is kept of a merge

pub kept_writable : ((k : Bytes) → is_same k k ≡ true) → (w : ℕ) (evict : Bool) (lists : List (List Entry)) (out : List Entry) → AllByRecursion IsWritable lists → KeepsOfMerge w evict lists out → IsWritable out
kept_writable same w evict lists out writable keeps =
    let flat = flat_map (λ (l : List Entry). l) lists in
    let fit : AllByRecursion Fits flat = each_of_lists Fits lists (each_weaker IsWritable (AllByRecursion Fits) (λ l is. is.each) lists writable) in
    let merged : AllByRecursion Fits keeps.merged = recursion_from_All Fits keeps.merged (All-permutation Fits flat keeps.merged keeps.merges.same (All-from_recursion Fits flat fit)) in
    let kept : (k : Bytes) → AllByRecursion Fits (stack k out) = λ k. subst (AllByRecursion Fits) (sym (keeps.kept.stacks k)) (each_kept Fits w evict (distinct (stack k keeps.merged)) (each_distinct Fits (stack k keeps.merged) (each_filter Fits (λ e. is_same k e.key.user_key) keeps.merged merged))) in
    record {
      each = each_of_stacks Fits same out kept;
      rises = rises_from same out keeps.kept.in_order (λ k. subst (EachPair AreApart) (sym (keeps.kept.stacks k)) (pairs_kept w evict (distinct (stack k keeps.merged)) (pairs_distinct (stack k keeps.merged))));
    }

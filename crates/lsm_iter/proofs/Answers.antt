-- The list of what is shown is that of a map.
use Rattle.std.proofs.Common.{◌≡◌, ℕ, ◌<◌, ◌≤◌, Bool, true, false, cond, ◌&&◌, List, [], ◌∷◌, ◌++◌, filter, map, flat_map, Option, Some, None, option_to_list, refl, sym, ap, ◌∙◌, subst, arith, inl, inr, ltb, Equal, ⊎_elim, IfSome, append-nil}
use Rattle.std.specs.List.{All, AllByRecursion, Contains}
use Rattle.std.specs.Option.{option_or}
use Rattle.std.specs.FinMap.{get, entries, entries_sorted, get-entries, from_sorted, entries-from_sorted, get-from_sorted, same_map, find, is_sorted, slice_cmp-IsAntisymmetric, nat_cmp-IsAntisymmetric}
use Rattle.std.specs.FinMap.Entries.{is_sorted-where_key, find-where_key, below_all}
use Rattle.std.specs.declared.cmp.Ordering.TheVariants.{Less}
use Rattle.std.specs.Ordering.{is_lt, nat_cmp, ordering_then}
use Rattle.std.proofs.lemmas.Cmp.{tied_itself, ranked}
use Rattle.std.specs.Cmp.Lexicographic.{nat_list_cmp_total}
use Rattle.std.proofs.lemmas.List.Elements.{All-contains_itself, All-append, Contains-append_left, Contains-append_cases, All-contains, All-head, All-tail, All-cons, All-nil, All-weaker, All-from_recursion, filter-append, filter_passes}
use Rattle.std.proofs.lemmas.Grind.{flat_map-append}
use Rattle.std.specs.List.{find as find_entry}
use Rattle.lsm_below.specs.Each.{each_filter}
use Rattle.lsm_model.specs.declared.question.Answer.TheVariants.{Pairs}
use Rattle.lsm_below.specs.Keys.{Bytes, bytes_cmp, is_same}
use Rattle.lsm_below.specs.Entries.{Entry, entry_cmp, above, stack, is_value_kind, value_of, value_by, top, later, IsFalling, IsOrdered}
use Rattle.lsm_below.specs.declared.value_type.ValueType.{ValueType}
use Rattle.lsm_below.specs.declared.value_type.ValueType.TheVariants.{Value, Tombstone, WeakTombstone}
use Rattle.lsm_below.specs.Streams.{is_of}
use Rattle.lsm_below.specs.Sorted.{Rises}
use Rattle.lsm_model.specs.Journal.{Map}
use Rattle.lsm_model.specs.Views.{view, view_at, seen, shown, EachPair}
use Rattle.lsm_model.specs.Laws.{MapsAreRead, PartsAreWhole}
use Rattle.lsm_iter.specs.Guards.{pair_of}
use Rattle.lsm_iter.specs.Shown.{lies_within, begins_with, IsNewestOf, IsNewest, IsShown, by_key, ShowsOf}
use Rattle.lsm_iter.specs.Reads.{Part, at, counted, all_counted, tree_of, counted_at}
use Rattle.lsm_iter.specs.Answers.{pairs_of, AreApart, StandOnce, IsOnTop, overlaid, ShownIsView, ShownIsAnswer, ShownIsPrefixAnswer, ShownIsOverlaid}
use Rattle.lsm_iter.proofs.Shown.{contains_here, contains_split, filter_had, first_item, filter_swap}
use Rattle.lsm_iter.proofs.Newest.{newest_join, newest_key}
use lib.Dec.{T}

-- ---- a list that rises, as a map

-- the value of the first entry
abbrev pub first_value : List Entry → Option Bytes
first_value [] = None
first_value (e ∷ es) = Some e.value

found_value : (out : List Entry) (k : Bytes) → find bytes_cmp k (map pair_of out) ≡ first_value (stack k out)
found_value [] k = refl
found_value (e ∷ out) k = elim (is_same k e.key.user_key) as (λ b. cond b (Some e.value) (find bytes_cmp k (map pair_of out)) ≡ first_value (cond b (e ∷ stack k out) (stack k out))) [
  | true ↦ refl
  | false ↦ found_value out k
]

all_below : (e : Entry) (out : List Entry) → All (λ f. by_key e f ≡ Less) out → below_all bytes_cmp e.key.user_key (map pair_of out) ≡ true
all_below e [] h = refl
all_below e (f ∷ out) h =
    ap (λ r. is_lt r && below_all bytes_cmp e.key.user_key (map pair_of out)) (All-head (λ f. by_key e f ≡ Less) f out h) ∙ all_below e out (All-tail (λ f. by_key e f ≡ Less) f out h)

rising : (out : List Entry) → Rises by_key out → is_sorted bytes_cmp (map pair_of out) ≡ true
rising [] h = refl
rising (e ∷ out) h = ap (λ b. b && is_sorted bytes_cmp (map pair_of out)) (all_below e out h.0) ∙ rising out h.1

none_outside : (maps : MapsAreRead) → (test : Bytes → Bool) (es out : List Entry) → ShowsOf test es out → (k : Bytes) → test k ≡ false → (l : List Entry) → stack k out ≡ l → first_value l ≡ None
none_outside maps test es out h k out_of [] is = refl
none_outside maps test es out h k out_of (e ∷ l) is =
    let here : Contains (stack k out) e = subst (λ x. Contains x e) (sym is) (contains_here e l) in
    let same : k ≡ e.key.user_key = maps.same_key k e.key.user_key (All-contains (λ x. is_of k x ≡ true) (stack k out) e (filter_passes (is_of k) out) here) in
    let inside = (All-contains (λ e. (test e.key.user_key ≡ true) × IsShown es e) out e h.each (filter_had (is_of k) out e here)).0 in
    absurd (let bad : false ≡ true = sym out_of ∙ (ap test same ∙ inside) in cc bad)

-- what is shown is what a map has of the keys that pass, if it has the same at each of them
shown_of_map : (maps : MapsAreRead) → (test : Bytes → Bool) (es out : List Entry) (m : Map) → ShowsOf test es out → ((k : Bytes) → test k ≡ true → get m k ≡ first_value (stack k out)) → map pair_of out ≡ pairs_of test m
shown_of_map maps p es out m h same =
    let part : Map = from_sorted {R = bytes_cmp} (filter (λ e. p e.0) (entries m)) in
    let cut_sorted = is_sorted-where_key bytes_cmp p (entries m) (entries_sorted m) in
    let list_sorted : T (is_sorted bytes_cmp (map pair_of out)) = subst T (sym (rising out h.rises)) tt in
    let whole : Map = from_sorted {R = bytes_cmp} (map pair_of out) in
    let alike = λ (q x : Bytes) (e : bytes_cmp q x ≡ Equal). ap p (sym (slice_cmp-IsAntisymmetric nat_cmp-IsAntisymmetric q x e)) in
    let in_part : (q : Bytes) → get part q ≡ cond (p q) (get m q) None = λ q.
    get-from_sorted bytes_cmp (filter (λ e. p e.0) (entries m)) q cut_sorted ∙ find-where_key bytes_cmp p q (alike q) (entries m) ∙ ap (λ o. cond (p q) o None) (sym (get-entries m q)) in
    let in_whole : (q : Bytes) → get whole q ≡ first_value (stack q out) = λ q. get-from_sorted bytes_cmp (map pair_of out) q list_sorted ∙ found_value out q in
    let both : whole ≡ part = same_map nat_list_cmp_total (slice_cmp-IsAntisymmetric nat_cmp-IsAntisymmetric) whole part (λ q.
    in_whole q ∙ (elim (p q) as (λ b. p q ≡ b → first_value (stack q out) ≡ cond b (get m q) None) [
      | true ↦ λ inside. sym (same q inside)
      | false ↦ λ outside. none_outside maps p es out h q outside (stack q out) refl
    ] refl) ∙ sym (in_part q)) in
    sym (entries-from_sorted bytes_cmp (map pair_of out) list_sorted) ∙ ap entries both ∙ entries-from_sorted bytes_cmp (filter (λ e. p e.0) (entries m)) cut_sorted

-- ---- one newest entry

abbrev IsOnly : List Entry → Type 0
IsOnly l = (o p : Option Entry) → IsNewestOf l o → IsNewestOf l p → o ≡ p

as_value : (c : ValueType) (v : Bytes) → is_value_kind c ≡ true → value_by c v ≡ Some v
as_value Value v h = refl
as_value Tombstone v h = absurd (cc h)
as_value WeakTombstone v h = absurd (cc h)

-- what is listed of a key is what its newest entry shows, where that is the only one
value_shown : (maps : MapsAreRead) → (test : Bytes → Bool) (es out : List Entry) → ShowsOf test es out → (k : Bytes) → test k ≡ true → IsOnly (stack k es) → (o : Option Entry) → IsNewest es k o → (l : List Entry) → stack k out ≡ l → first_value l ≡ shown o
value_shown maps test es out h k inside only o newest [] none =
    let hidden = h.rest k inside none in
    sym hidden.2 ∙ ap shown (only hidden.0 o hidden.1 newest)
value_shown maps test es out h k inside only o newest (e ∷ l) is =
    let here : Contains (stack k out) e = subst (λ x. Contains x e) (sym is) (contains_here e l) in
    let same : k ≡ e.key.user_key = maps.same_key k e.key.user_key (All-contains (λ x. is_of k x ≡ true) (stack k out) e (filter_passes (is_of k) out) here) in
    let listed = (All-contains (λ e. (test e.key.user_key ≡ true) × IsShown es e) out e h.each (filter_had (is_of k) out e here)).1 in
    sym (as_value e.key.value_type e.value listed.value) ∙ ap shown (only (Some e) o (subst (λ q. IsNewest es q (Some e)) (sym same) listed.newest) newest)

shown_of_newest : (maps : MapsAreRead) → (test : Bytes → Bool) (es out : List Entry) (m : Map) (newest : Bytes → Option Entry) → ((k : Bytes) → IsNewest es k (newest k)) → ((k : Bytes) → IsOnly (stack k es)) → ((k : Bytes) → get m k ≡ shown (newest k))
    → ShowsOf test es out → map pair_of out ≡ pairs_of test m
shown_of_newest maps test es out m newest is only same h =
    shown_of_map maps test es out m h (λ k inside. same k ∙ sym (value_shown maps test es out h k inside (only k) (newest k) (is k) (stack k out) refl))

-- entries of one key and sequence number are one and the same
abbrev IsSingular : List Entry → Type 0
IsSingular es = (e f : Entry) → Contains es e → Contains es f → e.key.user_key ≡ f.key.user_key → e.key.seqno ≡ f.key.seqno → e ≡ f

-- where entries of one key and sequence number are the same
only_singular : (maps : MapsAreRead) → (es : List Entry) → IsSingular es → (k : Bytes) → IsOnly (stack k es)
only_singular maps es single k = go
  where
    go : (o p : Option Entry) → IsNewestOf (stack k es) o → IsNewestOf (stack k es) p → o ≡ p
    go None None h q = refl
    go None (Some f) h q = absurd (omega (arith, (subst (λ l. Contains l f) h q.0).1))
    go (Some e) None h q = absurd (omega (arith, (subst (λ l. Contains l e) q h.0).1))
    go (Some e) (Some f) h q =
        let up : e.key.seqno ≤ f.key.seqno = All-contains (λ g. g.key.seqno ≤ f.key.seqno) (stack k es) e q.1 h.0 in
        let down : f.key.seqno ≤ e.key.seqno = All-contains (λ g. g.key.seqno ≤ e.key.seqno) (stack k es) f h.1 q.0 in
        let number : e.key.seqno ≡ f.key.seqno = omega arith in
        ap (λ x. Some x) (single e f (filter_had (is_of k) es e h.0) (filter_had (is_of k) es f q.0) (newest_key maps es k e h ∙ sym (newest_key maps es k f q)) number)

-- where sequence numbers fall
top_only : (e : Entry) (es : List Entry) → IsFalling (e ∷ es) → (o : Option Entry) → IsNewestOf (e ∷ es) o → o ≡ Some e
top_only e es fall None h = absurd (cc h)
top_only e es fall (Some f) h = elim (contains_split e es f h.0) [
  | inl is ↦ ap (λ x. Some x) (sym is)
  | inr behind ↦
      let low : f.key.seqno < e.key.seqno = All-contains (λ g. g.key.seqno < e.key.seqno) es f (All-from_recursion (λ g. g.key.seqno < e.key.seqno) es fall.0) behind in
      let up : e.key.seqno ≤ f.key.seqno = All-head (λ g. g.key.seqno ≤ f.key.seqno) e es h.1 in
      absurd (omega arith)
]

only_falling : (l : List Entry) → IsFalling l → IsOnly l
only_falling [] fall = go
  where
    go : (o p : Option Entry) → IsNewestOf [] o → IsNewestOf [] p → o ≡ p
    go None None h q = refl
    go None (Some f) h q = absurd (omega (arith, q.0.1))
    go (Some e) p h q = absurd (omega (arith, h.0.1))
only_falling (e ∷ es) fall = λ o p h q. top_only e es fall o h ∙ sym (top_only e es fall p q)

first_falling : (l : List Entry) → IsFalling l → IsNewestOf l (first_item l)
first_falling [] fall = refl
first_falling (e ∷ es) fall =
    let own : e.key.seqno ≤ e.key.seqno = omega arith in
    (contains_here e es, All-cons (λ f. f.key.seqno ≤ e.key.seqno) e es own (All-weaker (λ f. f.key.seqno < e.key.seqno) (λ f. f.key.seqno ≤ e.key.seqno) (λ f lt. omega arith) es (All-from_recursion (λ f. f.key.seqno < e.key.seqno) es fall.0)))

-- ---- the view by tops

newest_top : (k : Bytes) (s : ℕ) (es : List Entry) → IsNewestOf (stack k (filter (λ e. ltb e.key.seqno s) es)) (top k s es)
newest_top k s [] = refl
newest_top k s (e ∷ es) = go (newest_top k s es) (is_same k e.key.user_key) refl (ltb e.key.seqno s)
  where
    go : IsNewestOf (stack k (filter (λ e. ltb e.key.seqno s) es)) (top k s es) → (b : Bool) → is_same k e.key.user_key ≡ b → (c : Bool) → IsNewestOf (stack k (cond c (e ∷ filter (λ e. ltb e.key.seqno s) es) (filter (λ e. ltb e.key.seqno s) es))) (cond (b && c) (later e (top k s es)) (top k s es))
    go ih true is true =
        let own : e.key.seqno ≤ e.key.seqno = omega arith in
        subst (λ b. IsNewestOf (cond b (e ∷ stack k (filter (λ e. ltb e.key.seqno s) es)) (stack k (filter (λ e. ltb e.key.seqno s) es))) (later e (top k s es))) (sym is)
        (newest_join (e ∷ []) (stack k (filter (λ e. ltb e.key.seqno s) es)) (Some e) (top k s es) (contains_here e [], All-cons (λ f. f.key.seqno ≤ e.key.seqno) e [] own (All-nil (λ f. f.key.seqno ≤ e.key.seqno))) ih)
    go ih true is false = ih
    go ih false is true = subst (λ b. IsNewestOf (cond b (e ∷ stack k (filter (λ e. ltb e.key.seqno s) es)) (stack k (filter (λ e. ltb e.key.seqno s) es))) (top k s es)) (sym is) ih
    go ih false is false = ih

counted_flat : (s : ℕ) (sources : List (List Entry)) → all_counted (map (at s) sources) ≡ filter (λ e. ltb e.key.seqno s) (flat_map (λ es. es) sources)
counted_flat s [] = refl
counted_flat s (es ∷ sources) = ap (λ l. filter (λ e. ltb e.key.seqno s) es ++ l) (counted_flat s sources) ∙ sym (filter-append (λ e. ltb e.key.seqno s) es (flat_map (λ es. es) sources))

-- ---- sources in which each key and sequence number stands once

-- what comes later under a key has a lesser sequence number
behind_below : (x f : Entry) → entry_cmp x f ≡ Less → x.key.user_key ≡ f.key.user_key → f.key.seqno < x.key.seqno
behind_below x f less same =
    let tie : bytes_cmp x.key.user_key f.key.user_key ≡ Equal = rw same (tied_itself nat_list_cmp_total f.key.user_key) in
    let fall : nat_cmp f.key.seqno x.key.seqno ≡ Less = ap (λ o. ordering_then o (nat_cmp f.key.seqno x.key.seqno)) (sym tie) ∙ less in
    ranked f.key.seqno x.key.seqno Less (sym fall)

rises_singular : (es : List Entry) → Rises entry_cmp es → IsSingular es
rises_singular [] rises = λ e f he hf key number. absurd (omega (arith, he.1))
rises_singular (x ∷ es) rises = λ e f he hf key number. ⊎_elim
    (λ (p : x ≡ e). ⊎_elim
    (λ (q : x ≡ f). sym p ∙ q)
    (λ (q : Contains es f). absurd (lower f q (ap (λ (y : Entry). y.key.user_key) p ∙ key) (ap (λ (y : Entry). y.key.seqno) p ∙ number)))
    (contains_split x es f hf))
    (λ (p : Contains es e). ⊎_elim
    (λ (q : x ≡ f). absurd (lower e p (ap (λ (y : Entry). y.key.user_key) q ∙ sym key) (ap (λ (y : Entry). y.key.seqno) q ∙ sym number)))
    (λ (q : Contains es f). rises_singular es rises.1 e f p q key number)
    (contains_split x es f hf))
    (contains_split x es e he)
  where
    lower : (f : Entry) → Contains es f → x.key.user_key ≡ f.key.user_key → x.key.seqno ≡ f.key.seqno → ⊥
    lower f there key number =
        let low : f.key.seqno < x.key.seqno = behind_below x f (All-contains (λ y. entry_cmp x y ≡ Less) es f rises.0 there) key in
        omega arith

apart_flat : (es : List Entry) (sources : List (List Entry)) → AllByRecursion (AreApart es) sources → AreApart es (flat_map (λ l. l) sources)
apart_flat es [] h = λ e f he hf key number. omega (arith, hf.1)
apart_flat es (l ∷ sources) h = λ e f he hf key number. ⊎_elim
    (λ (q : Contains l f). h.0 e f he q key number)
    (λ (q : Contains (flat_map (λ l. l) sources) f). apart_flat es sources h.1 e f he q key number)
    (Contains-append_cases l (flat_map (λ l. l) sources) f hf)

-- two lists that have no key and sequence number in common
singular_append : (xs ys : List Entry) → IsSingular xs → IsSingular ys → AreApart xs ys → IsSingular (xs ++ ys)
singular_append xs ys one two apart = λ e f he hf key number. ⊎_elim
    (λ (p : Contains xs e). ⊎_elim
    (λ (q : Contains xs f). one e f p q key number)
    (λ (q : Contains ys f). absurd (apart e f p q key number))
    (Contains-append_cases xs ys f hf))
    (λ (p : Contains ys e). ⊎_elim
    (λ (q : Contains xs f). absurd (apart f e q p (sym key) (sym number)))
    (λ (q : Contains ys f). two e f p q key number)
    (Contains-append_cases xs ys f hf))
    (Contains-append_cases xs ys e he)

once_singular : (sources : List (List Entry)) → AllByRecursion (Rises entry_cmp) sources → EachPair AreApart sources → IsSingular (flat_map (λ es. es) sources)
once_singular [] rise apart = λ e f he hf key number. absurd (omega (arith, he.1))
once_singular (es ∷ sources) rise apart = singular_append es (flat_map (λ es. es) sources) (rises_singular es rise.0) (once_singular sources rise.1 apart.1) (apart_flat es sources apart.0)

singular_filter : (t : Entry → Bool) (es : List Entry) → IsSingular es → IsSingular (filter t es)
singular_filter t es single = λ e f he hf. single e f (filter_had t es e he) (filter_had t es f hf)

pub is_view : (maps : MapsAreRead) → ShownIsView
is_view maps s sources m test out at_key once h =
    let all = flat_map (λ (es : List Entry). es) sources in
    let counts = λ (e : Entry). ltb e.key.seqno s in
    shown_of_newest maps test (filter counts all) out m (λ k. top k s all) (λ k. newest_top k s all) (only_singular maps (filter counts all) (singular_filter counts all (once_singular sources once.rise once.apart))) at_key
    (subst (λ es. ShowsOf test es out) (counted_flat s sources) h)

-- ---- the view where sequence numbers fall

-- what the first entry of a list shows, over this
abbrev over : List Entry → Option Bytes → Option Bytes
over [] b = b
over (e ∷ es) b = value_of e

over_none : (l : List Entry) → over l None ≡ shown (first_item l)
over_none [] = refl
over_none (e ∷ es) = refl

over-append : (xs ys : List Entry) (b : Option Bytes) → over (xs ++ ys) b ≡ over xs (over ys b)
over-append [] ys b = refl
over-append (x ∷ xs) ys b = refl

get-overlaid : (maps : MapsAreRead) → (es : List Entry) (m : Map) (k : Bytes) → get (overlaid es m) k ≡ over (stack k es) (get m k)
get-overlaid maps [] m k = refl
get-overlaid maps (e ∷ es) m k = maps.changed (overlaid es m) e k ∙ (elim (is_same k e.key.user_key) as (λ b. cond b (value_of e) (get (overlaid es m) k) ≡ over (cond b (e ∷ stack k es) (stack k es)) (get m k)) [
  | true ↦ refl
  | false ↦ get-overlaid maps es m k
])

seen_over : (s : ℕ) (l : List Entry) → seen s l ≡ over (filter (λ e. ltb e.key.seqno s) l) None
seen_over s [] = refl
seen_over s (e ∷ l) = elim (ltb e.key.seqno s) as (λ b. shown (cond b (Some e) (find_entry (λ f. ltb f.key.seqno s) l)) ≡ over (cond b (e ∷ filter (λ e. ltb e.key.seqno s) l) (filter (λ e. ltb e.key.seqno s) l)) None) [
  | true ↦ refl
  | false ↦ seen_over s l
]

get-view_over : (maps : MapsAreRead) → (s : ℕ) (sources : List (List Entry)) (k : Bytes) → get (view s sources) k ≡ over (stack k (all_counted (map (at s) sources))) None
get-view_over maps s sources k =
    let all = flat_map (λ (es : List Entry). es) sources in
    maps.map_of k s all ∙ seen_over s (stack k all) ∙ ap (λ l. over l None) (filter_swap (λ e. ltb e.key.seqno s) (is_of k) all ∙ ap (stack k) (sym (counted_flat s sources)))

shown_falling : (maps : MapsAreRead) → (test : Bytes → Bool) (es out : List Entry) (m : Map) → ((k : Bytes) → IsFalling (stack k es)) → ((k : Bytes) → get m k ≡ over (stack k es) None) → ShowsOf test es out → map pair_of out ≡ pairs_of test m
shown_falling maps test es out m fall same h =
    shown_of_newest maps test es out m (λ k. first_item (stack k es)) (λ k. first_falling (stack k es) (fall k)) (λ k. only_falling (stack k es) (fall k)) (λ k. same k ∙ over_none (stack k es)) h

falling_filter : (t : Entry → Bool) (l : List Entry) → IsFalling l → IsFalling (filter t l)
falling_filter t [] h = tt
falling_filter t (e ∷ l) h = elim (t e) as (λ b. IsFalling (cond b (e ∷ filter t l) (filter t l))) [
  | true ↦ (each_filter (λ f. f.key.seqno < e.key.seqno) t l h.0, falling_filter t l h.1)
  | false ↦ falling_filter t l h.1
]

-- the numbers of a key that count fall, where all of its numbers do
counted_falls : (s : ℕ) (sources : List (List Entry)) → IsOrdered sources → (k : Bytes) → IsFalling (stack k (all_counted (map (at s) sources)))
counted_falls s sources ordered k =
    let all = flat_map (λ (es : List Entry). es) sources in
    let counts = λ (e : Entry). ltb e.key.seqno s in
    subst IsFalling (filter_swap counts (is_of k) all ∙ ap (stack k) (sym (counted_flat s sources))) (falling_filter counts (stack k all) (ordered k))

shown_ordered : (maps : MapsAreRead) → (s : ℕ) (sources : List (List Entry)) (test : Bytes → Bool) (out : List Entry) → IsOrdered sources → ShowsOf test (all_counted (map (at s) sources)) out → map pair_of out ≡ pairs_of test (view s sources)
shown_ordered maps s sources test out ordered h = shown_falling maps test (all_counted (map (at s) sources)) out (view s sources) (counted_falls s sources ordered) (get-view_over maps s sources) h

pub is_answer : (maps : MapsAreRead) → ShownIsAnswer
is_answer maps s sources low high out ordered h = ap Pairs (sym (shown_ordered maps s sources (lies_within low high) out ordered h))

pub is_prefix_answer : (maps : MapsAreRead) → ShownIsPrefixAnswer
is_prefix_answer maps s sources prefix out ordered h = ap Pairs (sym (shown_ordered maps s sources (begins_with prefix) out ordered h))

-- ---- an index on top

-- the entries of a key fall in a source
rises_falling : (maps : MapsAreRead) → (k : Bytes) (es : List Entry) → Rises entry_cmp es → IsFalling (stack k es)
rises_falling maps k [] rises = tt
rises_falling maps k (e ∷ es) rises = elim (is_same k e.key.user_key) as (λ b. is_same k e.key.user_key ≡ b → IsFalling (cond b (e ∷ stack k es) (stack k es))) [
  | true ↦ λ same. (lower (maps.same_key k e.key.user_key same) es rises.0, rises_falling maps k es rises.1)
  | false ↦ λ same. rises_falling maps k es rises.1
] refl
  where
    lower : k ≡ e.key.user_key → (l : List Entry) → All (λ f. entry_cmp e f ≡ Less) l → AllByRecursion (λ f. f.key.seqno < e.key.seqno) (stack k l)
    lower here [] h = tt
    lower here (f ∷ l) h = elim (is_same k f.key.user_key) as (λ b. is_same k f.key.user_key ≡ b → AllByRecursion (λ f. f.key.seqno < e.key.seqno) (cond b (f ∷ stack k l) (stack k l))) [
      | true ↦ λ same. (behind_below e f (All-head (λ f. entry_cmp e f ≡ Less) f l h) (sym here ∙ maps.same_key k f.key.user_key same), lower here l (All-tail (λ f. entry_cmp e f ≡ Less) f l h))
      | false ↦ λ same. lower here l (All-tail (λ f. entry_cmp e f ≡ Less) f l h)
    ] refl

module _ (maps : MapsAreRead) (parts : PartsAreWhole) (index : List Entry) (sources : List (List Entry)) (below s : ℕ) (top_of : IsOnTop index sources) where
  abbrev all : List Entry
  all = flat_map (λ es. es) sources

  abbrev over_all : List Entry
  over_all = filter (λ e. ltb e.key.seqno below) index

  abbrev tree : List Entry
  tree = filter (λ e. ltb e.key.seqno s) all

  high_here : (e : Entry) → Contains over_all e → above all ≤ e.key.seqno
  high_here e h = All-contains (λ e. above all ≤ e.key.seqno) index e (All-from_recursion (λ e. above all ≤ e.key.seqno) index top_of.high) (filter_had (λ e. ltb e.key.seqno below) index e h)

  low_there : (f : Entry) → Contains tree f → f.key.seqno < above all
  low_there f h = All-contains (λ f. f.key.seqno < above all) all f (All-from_recursion (λ f. f.key.seqno < above all) all (parts.below all)) (filter_had (λ e. ltb e.key.seqno s) all f h)

  index_apart : AreApart over_all tree
  index_apart e f he hf key number = let up = high_here e he in let low = low_there f hf in omega arith

  newest_over : (k : Bytes) → IsNewestOf (stack k over_all ++ stack k tree) (option_or (first_item (stack k over_all)) (top k s all))
  newest_over k = go (stack k over_all) refl
    where
      go : (l : List Entry) → stack k over_all ≡ l → IsNewestOf (l ++ stack k tree) (option_or (first_item l) (top k s all))
      go [] is = newest_top k s all
      go (e ∷ l) is =
          let falls : IsFalling (e ∷ l) = subst IsFalling (filter_swap (λ f. ltb f.key.seqno below) (is_of k) index ∙ is) (falling_filter (λ f. ltb f.key.seqno below) (stack k index) (rises_falling maps k index top_of.rises)) in
          let own = first_falling (e ∷ l) falls in
          let up : above all ≤ e.key.seqno = high_here e (filter_had (is_of k) over_all e (subst (λ x. Contains x e) (sym is) own.0)) in (
            Contains-append_left (e ∷ l) (stack k tree) e own.0,
            All-append (λ f. f.key.seqno ≤ e.key.seqno) (e ∷ l) (stack k tree) own.1
                (All-weaker (Contains (stack k tree)) (λ f. f.key.seqno ≤ e.key.seqno) (λ f there. let low = low_there f (filter_had (is_of k) tree f there) in omega arith) (stack k tree) (All-contains_itself (stack k tree))),
          )

  shown_over : (m : Map) (k : Bytes) → get m k ≡ shown (top k s all) → get (overlaid over_all m) k ≡ shown (option_or (first_item (stack k over_all)) (top k s all))
  shown_over m k is = get-overlaid maps over_all m k ∙ ap (over (stack k over_all)) is ∙ go (stack k over_all)
    where
      go : (l : List Entry) → over l (shown (top k s all)) ≡ shown (option_or (first_item l) (top k s all))
      go [] = refl
      go (e ∷ l) = refl

  pub overlaid_shown : (m : Map) (test : Bytes → Bool) (out : List Entry) → ((k : Bytes) → get m k ≡ view_at k s sources) → StandOnce sources → ShowsOf test (over_all ++ tree) out → map pair_of out ≡ pairs_of test (overlaid over_all m)
  overlaid_shown m test out at_key once h =
      let single : IsSingular (over_all ++ tree) = singular_append over_all tree (singular_filter (λ e. ltb e.key.seqno below) index (rises_singular index top_of.rises)) (singular_filter (λ e. ltb e.key.seqno s) all (once_singular sources once.rise once.apart)) index_apart in
      shown_of_newest maps test (over_all ++ tree) out (overlaid over_all m) (λ k. option_or (first_item (stack k over_all)) (top k s all))
      (λ k. subst (λ l. IsNewestOf l (option_or (first_item (stack k over_all)) (top k s all))) (sym (filter-append (is_of k) over_all tree)) (newest_over k))
      (only_singular maps (over_all ++ tree) single) (λ k. shown_over m k (at_key k)) h

pub is_overlaid : (maps : MapsAreRead) (parts : PartsAreWhole) → ShownIsOverlaid
is_overlaid maps parts s st m test out at_key once on_top h = go st.overlay refl on_top
  where
    halves : counted_at s st ≡ all_counted (option_to_list st.overlay) ++ filter (λ e. ltb e.key.seqno s) (flat_map (λ es. es) (tree_of st))
    halves = flat_map-append counted (option_to_list st.overlay) (map (at s) (tree_of st)) ∙ ap (λ l. all_counted (option_to_list st.overlay) ++ l) (counted_flat s (tree_of st))

    go : (o : Option Part) → st.overlay ≡ o → IfSome o (λ part. IsOnTop part.entries (tree_of st)) → map pair_of out ≡ pairs_of test (overlaid (all_counted (option_to_list o)) m)
    go None is none = is_view maps s (tree_of st) m test out at_key once (subst (λ es. ShowsOf test es out) (halves ∙ ap (λ o. all_counted (option_to_list o) ++ filter (λ e. ltb e.key.seqno s) (flat_map (λ es. es) (tree_of st))) is ∙ sym (counted_flat s (tree_of st))) h)
    go (Some part) is some =
        let one : all_counted (part ∷ []) ≡ counted part = append-nil (counted part) in
        let whole : counted_at s st ≡ counted part ++ filter (λ e. ltb e.key.seqno s) (flat_map (λ es. es) (tree_of st)) =
        halves ∙ ap (λ o. all_counted (option_to_list o) ++ filter (λ e. ltb e.key.seqno s) (flat_map (λ es. es) (tree_of st))) is ∙ ap (λ l. l ++ filter (λ e. ltb e.key.seqno s) (flat_map (λ es. es) (tree_of st))) one in
        overlaid_shown maps parts part.entries (tree_of st) part.below s some m test out at_key once (subst (λ es. ShowsOf test es out) whole h)
        ∙ ap (λ l. pairs_of test (overlaid l m)) (sym one)

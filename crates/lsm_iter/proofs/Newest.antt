-- The newest entry of each key, as one list.
use Rattle.std.proofs.Common.{◌≡◌, ◌≤◌, Bool, true, false, cond, List, [], ◌∷◌, ◌++◌, filter, Option, Some, None, option_to_list, refl, sym, ap, ◌∙◌, subst, arith, append-nil, ltb}
use Rattle.std.specs.List.{All}
use Rattle.std.specs.declared.cmp.Ordering.{Ordering}
use Rattle.std.specs.declared.cmp.Ordering.TheVariants.{Less, Equal, Greater}
use Rattle.std.specs.declared.ops.Bound.{Bound}
use Rattle.std.specs.Ordering.{nat_cmp, is_le, is_eq, ordering_then, ordering_reverse}
use Rattle.std.specs.Cmp.{Equal-is}
use Rattle.std.specs.FinMap.{slice_cmp-IsAntisymmetric, nat_cmp-IsAntisymmetric}
use Rattle.std.proofs.lemmas.Cmp.{nat_list_cmp_total}
use Rattle.std.proofs.lemmas.Bool.{ltb-true, ltb-false, lt-ltb, le-ltb}
use Rattle.std.proofs.lemmas.List.Elements.{All-append, All-contains, All-filter, All-weaker, All-cons, All-nil, All-head, All-tail, Contains-append_left, Contains-append_right, filter_passes, recursion_from_All}
use Rattle.lsm_below.specs.Keys.{Bytes, bytes_cmp, is_same}
use Rattle.lsm_below.specs.Entries.{Entry, entry_cmp, stack, is_value, later}
use Rattle.lsm_below.specs.Lookups.{within}
use Rattle.lsm_below.specs.Streams.{IsInOrder, is_of}
use Rattle.lsm_below.specs.Sorted.{Rises, by_ordering}
use Rattle.lsm_model.specs.Laws.{MapsAreRead}
use Rattle.lsm_iter.specs.Shown.{IsNewestOf, IsNewest, by_key, Shows}
use Rattle.lsm_iter.proofs.Rises.{rises_filter}
use Rattle.lsm_iter.proofs.Shown.{contains_here, filter_swap, of_itself, first_item, only_within, all_outside, shows_newest}
use Rattle.lsm_iter.specs.Left.{newest_in, shown_at, put_newest, newest_each, shown_list}

-- ---- the newest of a list

-- the newer entry, the first one where equal
abbrev pub newer : Option Entry → Option Entry → Option Entry
newer None o = o
newer (Some e) o = later e o

pub newest_join : (xs ys : List Entry) (o p : Option Entry) → IsNewestOf xs o → IsNewestOf ys p → IsNewestOf (xs ++ ys) (newer o p)
newest_join xs ys None p none h = subst (λ l. IsNewestOf (l ++ ys) p) (sym none) h
newest_join xs ys (Some e) None h none = subst (λ l. IsNewestOf l (Some e)) (sym (ap (λ l. xs ++ l) none ∙ append-nil xs)) h
newest_join xs ys (Some e) (Some f) h k = go (ltb e.key.seqno f.key.seqno) refl
  where
    go : (b : Bool) → ltb e.key.seqno f.key.seqno ≡ b → IsNewestOf (xs ++ ys) (cond b (Some f) (Some e))
    go true q =
        let up = ltb-true e.key.seqno f.key.seqno q in
        (Contains-append_right xs ys f k.0, All-append (λ g. g.key.seqno ≤ f.key.seqno) xs ys (All-weaker (λ g. g.key.seqno ≤ e.key.seqno) (λ g. g.key.seqno ≤ f.key.seqno) (λ g l. omega arith) xs h.1) k.1)
    go false q =
        let up = ltb-false e.key.seqno f.key.seqno q in
        (Contains-append_left xs ys e h.0, All-append (λ g. g.key.seqno ≤ e.key.seqno) xs ys h.1 (All-weaker (λ g. g.key.seqno ≤ f.key.seqno) (λ g. g.key.seqno ≤ e.key.seqno) (λ g l. omega arith) ys k.1))

-- an entry that is a key's newest one has this key
pub newest_key : (maps : MapsAreRead) → (es : List Entry) (k : Bytes) (e : Entry) → IsNewest es k (Some e) → e.key.user_key ≡ k
newest_key maps es k e h = sym (maps.same_key k e.key.user_key (All-contains (λ x. is_of k x ≡ true) (stack k es) e (filter_passes (is_of k) es) h.0))

later_newer : (x : Entry) (o p : Option Entry) → later x (newer o p) ≡ newer (later x o) p
later_newer x None p = refl
later_newer x (Some f) None = elim (ltb x.key.seqno f.key.seqno) as (λ b. cond b (Some f) (Some x) ≡ newer (cond b (Some f) (Some x)) None) [
  | true ↦ refl
  | false ↦ refl
]
later_newer x (Some f) (Some g) = go (ltb f.key.seqno g.key.seqno) (ltb x.key.seqno f.key.seqno) refl refl
  where
    go : (a b : Bool) → ltb f.key.seqno g.key.seqno ≡ a → ltb x.key.seqno f.key.seqno ≡ b → later x (cond a (Some g) (Some f)) ≡ newer (cond b (Some f) (Some x)) (Some g)
    go true true fg xf =
        let up = ltb-true f.key.seqno g.key.seqno fg in
        let low = ltb-true x.key.seqno f.key.seqno xf in
        ap (λ c. cond c (Some g) (Some x)) (lt-ltb x.key.seqno g.key.seqno (omega arith)) ∙ sym (ap (λ c. cond c (Some g) (Some f)) fg)
    go true false fg xf = refl
    go false true fg xf = ap (λ c. cond c (Some f) (Some x)) xf ∙ sym (ap (λ c. cond c (Some g) (Some f)) fg)
    go false false fg xf =
        let down = ltb-false f.key.seqno g.key.seqno fg in
        let under = ltb-false x.key.seqno f.key.seqno xf in
        ap (λ c. cond c (Some f) (Some x)) xf ∙ sym (ap (λ c. cond c (Some g) (Some x)) (le-ltb x.key.seqno g.key.seqno (omega arith)))

pub newest_append : (xs ys : List Entry) → newest_in (xs ++ ys) ≡ newer (newest_in xs) (newest_in ys)
newest_append [] ys = refl
newest_append (x ∷ xs) ys = ap (later x) (newest_append xs ys) ∙ later_newer x (newest_in xs) (newest_in ys)

pub newest_is : (xs : List Entry) → IsNewestOf xs (newest_in xs)
newest_is [] = refl
newest_is (x ∷ xs) =
    let own : x.key.seqno ≤ x.key.seqno = omega arith in
    newest_join (x ∷ []) xs (Some x) (newest_in xs) (contains_here x [], All-cons (λ f. f.key.seqno ≤ x.key.seqno) x [] own (All-nil (λ f. f.key.seqno ≤ x.key.seqno))) (newest_is xs)

-- ---- an entry in its key's place

-- keys that tie are one
pub one_key : (a b : Bytes) → bytes_cmp a b ≡ Equal → a ≡ b
one_key a b h = slice_cmp-IsAntisymmetric nat_cmp-IsAntisymmetric a b h

pub turned : (a b : Bytes) (r : Ordering) → bytes_cmp a b ≡ r → bytes_cmp b a ≡ ordering_reverse r
turned a b r is = nat_list_cmp_total.antisymm b a ∙ ap ordering_reverse is

put_all : (P : Entry → Type 0) (e : Entry) (fs : List Entry) → P e → All P fs → All P (put_newest e fs)
put_all P e [] p h = All-cons P e [] p h
put_all P e (f ∷ fs) p h = elim (bytes_cmp f.key.user_key e.key.user_key) as (λ r. All P (by_ordering r (f ∷ put_newest e fs) (cond (ltb e.key.seqno f.key.seqno) (f ∷ fs) (e ∷ fs)) (e ∷ (f ∷ fs)))) [
  | Less ↦ All-cons P f (put_newest e fs) (All-head P f fs h) (put_all P e fs p (All-tail P f fs h))
  | Equal ↦ elim (ltb e.key.seqno f.key.seqno) as (λ b. All P (cond b (f ∷ fs) (e ∷ fs))) [
    | true ↦ h
    | false ↦ All-cons P e fs p (All-tail P f fs h)
  ]
  | Greater ↦ All-cons P e (f ∷ fs) p h
]

put_rises : (e : Entry) (fs : List Entry) → Rises by_key fs → Rises by_key (put_newest e fs)
put_rises e [] h = (All-nil (λ f. by_key e f ≡ Less), tt)
put_rises e (f ∷ fs) h = go (put_rises e fs h.1) (bytes_cmp f.key.user_key e.key.user_key) refl
  where
    go : Rises by_key (put_newest e fs) → (r : Ordering) → bytes_cmp f.key.user_key e.key.user_key ≡ r → Rises by_key (by_ordering r (f ∷ put_newest e fs) (cond (ltb e.key.seqno f.key.seqno) (f ∷ fs) (e ∷ fs)) (e ∷ (f ∷ fs)))
    go ih Less is = (put_all (λ g. by_key f g ≡ Less) e fs is h.0, ih)
    go ih Equal is = elim (ltb e.key.seqno f.key.seqno) as (λ b. Rises by_key (cond b (f ∷ fs) (e ∷ fs))) [
      | true ↦ h
      | false ↦ (All-weaker (λ g. by_key f g ≡ Less) (λ g. by_key e g ≡ Less) (λ g less. sym (nat_list_cmp_total.congr f.key.user_key e.key.user_key g.key.user_key is) ∙ less) fs h.0, h.1)
    ]
    go ih Greater is =
        let up = turned f.key.user_key e.key.user_key Greater is in
        (All-cons (λ g. by_key e g ≡ Less) f fs up (All-weaker (λ g. by_key f g ≡ Less) (λ g. by_key e g ≡ Less) (λ g less. nat_list_cmp_total.trans e.key.user_key f.key.user_key g.key.user_key up less) fs h.0), h)

-- of a key below all of a list's nothing stands there
pub none_above : (k : Bytes) (fs : List Entry) → All (λ f. bytes_cmp k f.key.user_key ≡ Less) fs → stack k fs ≡ []
none_above k [] h = refl
none_above k (f ∷ fs) h =
    ap (λ r. cond (is_eq r) (f ∷ stack k fs) (stack k fs)) (All-head (λ f. bytes_cmp k f.key.user_key ≡ Less) f fs h) ∙ none_above k fs (All-tail (λ f. bytes_cmp k f.key.user_key ≡ Less) f fs h)

put_other : (k : Bytes) (e : Entry) (fs : List Entry) → is_of k e ≡ false → stack k (put_newest e fs) ≡ stack k fs
put_other k e [] other = ap (λ b. cond b (e ∷ []) []) other
put_other k e (f ∷ fs) other = go (put_other k e fs other) (bytes_cmp f.key.user_key e.key.user_key) refl
  where
    go : stack k (put_newest e fs) ≡ stack k fs → (r : Ordering) → bytes_cmp f.key.user_key e.key.user_key ≡ r → stack k (by_ordering r (f ∷ put_newest e fs) (cond (ltb e.key.seqno f.key.seqno) (f ∷ fs) (e ∷ fs)) (e ∷ (f ∷ fs))) ≡ stack k (f ∷ fs)
    go ih Less is = ap (λ l. cond (is_of k f) (f ∷ l) l) ih
    go ih Equal is =
        let same : f.key.user_key ≡ e.key.user_key = one_key f.key.user_key e.key.user_key is in
        let of_f : is_of k f ≡ false = ap (is_same k) same ∙ other in
        elim (ltb e.key.seqno f.key.seqno) as (λ b. stack k (cond b (f ∷ fs) (e ∷ fs)) ≡ stack k (f ∷ fs)) [
          | true ↦ refl
          | false ↦ ap (λ b. cond b (e ∷ stack k fs) (stack k fs)) other ∙ sym (ap (λ b. cond b (f ∷ stack k fs) (stack k fs)) of_f)
        ]
    go ih Greater is = ap (λ b. cond b (e ∷ stack k (f ∷ fs)) (stack k (f ∷ fs))) other

put_own : (e : Entry) (fs : List Entry) → Rises by_key fs → stack e.key.user_key (put_newest e fs) ≡ option_to_list (later e (first_item (stack e.key.user_key fs)))
put_own e [] h = ap (λ b. cond b (e ∷ []) []) (of_itself e.key.user_key)
put_own e (f ∷ fs) h = go (put_own e fs h.1) (bytes_cmp f.key.user_key e.key.user_key) refl
  where
    go : stack e.key.user_key (put_newest e fs) ≡ option_to_list (later e (first_item (stack e.key.user_key fs))) → (r : Ordering) → bytes_cmp f.key.user_key e.key.user_key ≡ r → stack e.key.user_key (by_ordering r (f ∷ put_newest e fs) (cond (ltb e.key.seqno f.key.seqno) (f ∷ fs) (e ∷ fs)) (e ∷ (f ∷ fs))) ≡ option_to_list (later e (first_item (stack e.key.user_key (f ∷ fs))))
    go ih Less is =
        let not_f : is_of e.key.user_key f ≡ false = ap is_eq (turned f.key.user_key e.key.user_key Less is) in
        ap (λ b. cond b (f ∷ stack e.key.user_key (put_newest e fs)) (stack e.key.user_key (put_newest e fs))) not_f
        ∙ ih
        ∙ sym (ap (λ b. option_to_list (later e (first_item (cond b (f ∷ stack e.key.user_key fs) (stack e.key.user_key fs))))) not_f)
    go ih Equal is =
        let of_f : is_of e.key.user_key f ≡ true = ap is_eq (turned f.key.user_key e.key.user_key Equal is) in
        let none : stack e.key.user_key fs ≡ [] = none_above e.key.user_key fs (All-weaker (λ g. by_key f g ≡ Less) (λ g. bytes_cmp e.key.user_key g.key.user_key ≡ Less) (λ g less. sym (nat_list_cmp_total.congr f.key.user_key e.key.user_key g.key.user_key is) ∙ less) fs h.0) in
        let one_f : stack e.key.user_key (f ∷ fs) ≡ f ∷ [] = ap (λ b. cond b (f ∷ stack e.key.user_key fs) (stack e.key.user_key fs)) of_f ∙ ap (λ l. f ∷ l) none in
        let one_e : stack e.key.user_key (e ∷ fs) ≡ e ∷ [] = ap (λ b. cond b (e ∷ stack e.key.user_key fs) (stack e.key.user_key fs)) (of_itself e.key.user_key) ∙ ap (λ l. e ∷ l) none in
        (elim (ltb e.key.seqno f.key.seqno) as (λ b. stack e.key.user_key (cond b (f ∷ fs) (e ∷ fs)) ≡ option_to_list (cond b (Some f) (Some e))) [
          | true ↦ one_f
          | false ↦ one_e
        ])
        ∙ sym (ap (λ l. option_to_list (later e (first_item l))) one_f)
    go ih Greater is =
        let up = turned f.key.user_key e.key.user_key Greater is in
        let none : stack e.key.user_key (f ∷ fs) ≡ [] = none_above e.key.user_key (f ∷ fs) (All-cons (λ g. by_key e g ≡ Less) f fs up (All-weaker (λ g. by_key f g ≡ Less) (λ g. by_key e g ≡ Less) (λ g less. nat_list_cmp_total.trans e.key.user_key f.key.user_key g.key.user_key up less) fs h.0)) in
        ap (λ b. cond b (e ∷ stack e.key.user_key (f ∷ fs)) (stack e.key.user_key (f ∷ fs))) (of_itself e.key.user_key) ∙ ap (λ l. e ∷ l) none
        ∙ sym (ap (λ l. option_to_list (later e (first_item l))) none)

-- ---- all keys

pub rises_each : (es : List Entry) → Rises by_key (newest_each es)
rises_each [] = tt
rises_each (e ∷ es) = put_rises e (newest_each es) (rises_each es)

first_one : (o : Option Entry) → first_item (option_to_list o) ≡ o
first_one None = refl
first_one (Some e) = refl

pub stacks_each : (k : Bytes) (es : List Entry) → stack k (newest_each es) ≡ option_to_list (newest_in (stack k es))
stacks_each k [] = refl
stacks_each k (e ∷ es) = go (λ q. stacks_each q es) (is_of k e) refl
  where
    go : ((q : Bytes) → stack q (newest_each es) ≡ option_to_list (newest_in (stack q es))) → (b : Bool) → is_of k e ≡ b → stack k (put_newest e (newest_each es)) ≡ option_to_list (newest_in (cond b (e ∷ stack k es) (stack k es)))
    go ih true of =
        let same : k ≡ e.key.user_key = one_key k e.key.user_key ((Equal-is (bytes_cmp k e.key.user_key)).0 of) in
        subst (λ q. stack q (put_newest e (newest_each es)) ≡ option_to_list (newest_in (e ∷ stack q es))) (sym same)
        (put_own e (newest_each es) (rises_each es) ∙ ap (λ l. option_to_list (later e (first_item l))) (ih e.key.user_key) ∙ ap (λ o. option_to_list (later e o)) (first_one (newest_in (stack e.key.user_key es))))
    go ih false other = put_other k e (newest_each es) other ∙ ih k

pub rises_shown : (es : List Entry) → Rises by_key (shown_list es)
rises_shown es = rises_filter by_key is_value (newest_each es) (rises_each es)

pub stacks_shown : (k : Bytes) (es : List Entry) → stack k (shown_list es) ≡ shown_at k es
stacks_shown k es = filter_swap (is_of k) is_value (newest_each es) ∙ ap (filter is_value) (stacks_each k es)

-- ---- it is what is shown

key_before : (r n : Ordering) → r ≡ Less → is_le (ordering_then r n) ≡ true
key_before r n is = ap (λ o. is_le (ordering_then o n)) is

in_order : (es : List Entry) → Rises by_key es → IsInOrder es
in_order [] h = tt
in_order (e ∷ es) h = (
  recursion_from_All (λ f. is_le (entry_cmp e f) ≡ true) es (All-weaker (λ f. by_key e f ≡ Less) (λ f. is_le (entry_cmp e f) ≡ true) (λ f less. key_before (bytes_cmp e.key.user_key f.key.user_key) (nat_cmp f.key.seqno e.key.seqno) less) es h.0),
  in_order es h.1,
)

-- entries of which each key has the same newest one show the same
pub shows_same : (maps : MapsAreRead) → (low high : Bound Bytes) (es xs : List Entry) → ((k : Bytes) → newest_in (stack k xs) ≡ newest_in (stack k (within low high es))) → Shows low high es (shown_list xs)
shows_same maps low high es xs same = shows_newest low high es (newest_each xs) record {
  in_order = in_order (newest_each xs) (rises_each xs);
  newest = λ k. newest_in (stack k (within low high es));
  stacks = λ k. stacks_each k xs ∙ ap option_to_list (same k);
  inner = λ k h. subst (λ l. IsNewestOf l (newest_in (stack k (within low high es)))) (only_within maps low high k h es) (newest_is (stack k (within low high es)));
  outer = λ k h. ap newest_in (all_outside maps low high k h es);
}

-- what all entries have, those that are shown have

each_all : (P : Entry → Type 0) (es : List Entry) → All P es → All P (newest_each es)
each_all P [] h = h
each_all P (e ∷ es) h = put_all P e (newest_each es) (All-head P e es h) (each_all P es (All-tail P e es h))

pub shown_all : (P : Entry → Type 0) (es : List Entry) → All P es → All P (shown_list es)
shown_all P es h = All-filter is_value P (newest_each es) (each_all P es h)

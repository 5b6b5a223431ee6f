-- A step of cursors: one loses the entry at its end.
use Rattle.std.proofs.Common.{◌≡◌, ℕ, zero, suc, inl, inr, Bool, true, false, ltb, ◌+◌, ◌<◌, ◌≤◌, cond, List, [], ◌∷◌, ◌++◌, length, get_or, set, take, drop, filter, ◌-◌, Option, Some, None, IsSome, IfSome, Bor, option_copied, option_to_list, refl, sym, ap, ◌∙◌, subst, arith, append_assoc, append-nil}
use Rattle.std.specs.List.{All, Contains}
use Rattle.std.specs.declared.cmp.Ordering.{Ordering}
use Rattle.std.specs.declared.cmp.Ordering.TheVariants.{Less, Equal, Greater}
use Rattle.std.proofs.lemmas.Bool.{cases_eq, ltb-true, ltb-false}
use Rattle.std.proofs.lemmas.Cmp.{nat_list_cmp_total}
use Rattle.std.proofs.lemmas.Grind.{flat_map-append}
use Rattle.std.proofs.lemmas.List.{set_split, length-set, length-append, get_or-set_same, get_or-set_other, get_or-take, length-take-le, take-append-drop, drop_more}
use Rattle.std.proofs.lemmas.List.Sums.{sum_by-set}
use Rattle.std.proofs.lemmas.List.Elements.{All-weaker, All-append, All-nil, All-cons, All-head, All-tail, All-push, Contains-append_left, Contains-append_right, Contains-push}
use Rattle.lsm_below.specs.Keys.{Bytes}
use Rattle.lsm_below.specs.Entries.{Entry, is_value}
use Rattle.lsm_below.specs.Sorted.{Rises, by_ordering}
use Rattle.lsm_iter.specs.Shown.{by_key}
use Rattle.lsm_iter.specs.Ends.{IsTaken}
use Rattle.lsm_iter.specs.Left.{SeenCursor, left_of, held_in, end_item, last_item, shown_list, Takes}
use Rattle.lsm_iter.specs.Outermost.{end_cmp, AllInside, standing, IsAlone, IsOutermost, ShowSame}
use Rattle.lsm_iter.specs.declared.outermost.Standing.{Standing}
use Rattle.lsm_iter.specs.declared.outermost.Standing.TheVariants.{Outside, Newer, Older, Inside}
use Rattle.lsm_iter.specs.declared.tree_iter.End.{End}
use Rattle.lsm_iter.specs.declared.tree_iter.End.TheVariants.{Front, Back}
use Rattle.lsm_iter.proofs.Rises.{rises_left}
use Rattle.lsm_iter.proofs.Newest.{turned, one_key}
use Rattle.lsm_iter.proofs.Shows.{with_end, hidden_before, hidden_by, outermost_shown}
use Rattle.lsm_iter.proofs.Shown.{contains_here}

-- ---- keys, seen from an end

pub end_trans : (end : End) (a b c : Bytes) → end_cmp end a b ≡ Less → end_cmp end b c ≡ Less → end_cmp end a c ≡ Less
end_trans Front a b c h k = nat_list_cmp_total.trans a b c h k
end_trans Back a b c h k = nat_list_cmp_total.trans c b a k h

pub end_back : (end : End) (a b : Bytes) → end_cmp end a b ≡ Greater → end_cmp end b a ≡ Less
end_back Front a b h = turned a b Greater h
end_back Back a b h = turned b a Greater h

pub end_same : (end : End) (a b : Bytes) → end_cmp end a b ≡ Equal → a ≡ b
end_same Front a b h = one_key a b h
end_same Back a b h = sym (one_key b a h)

pub inside_more : (end : End) (a b : Bytes) (es : List Entry) → end_cmp end a b ≡ Less → AllInside end b es → AllInside end a es
inside_more end a b es less h = All-weaker (λ f. end_cmp end b f.key.user_key ≡ Less) (λ f. end_cmp end a f.key.user_key ≡ Less) (λ f l. end_trans end a b f.key.user_key less l) es h

-- ---- the entry at an end of a list that rises

pub last_push : (front : List Entry) (x : Entry) → last_item (front ++ x ∷ []) ≡ Some x
last_push [] x = refl
last_push (y ∷ []) x = refl
last_push (y ∷ (z ∷ front)) x = last_push (z ∷ front) x

pub taken_some : (end : End) (s : List Entry) (e : Entry) (t : List Entry) → Takes end s (end_item end s) t → end_item end s ≡ Some e → IsTaken end s e t
taken_some end s e t h is = subst (λ o. Takes end s o t) is h

before_last : (xs : List Entry) (x : Entry) → Rises by_key (xs ++ x ∷ []) → All (λ f. by_key f x ≡ Less) xs
before_last [] x h = All-nil (λ f. by_key f x ≡ Less)
before_last (y ∷ xs) x h = All-cons (λ f. by_key f x ≡ Less) y xs (All-last xs h.0) (before_last xs x h.1)
  where
    All-last : (xs : List Entry) → All (λ f. by_key y f ≡ Less) (xs ++ x ∷ []) → by_key y x ≡ Less
    All-last [] h = All-head (λ f. by_key y f ≡ Less) x [] h
    All-last (z ∷ xs) h = All-last xs (All-tail (λ f. by_key y f ≡ Less) z (xs ++ x ∷ []) h)

pub rest_inside : (end : End) (s : List Entry) (e : Entry) (t : List Entry) → Rises by_key s → IsTaken end s e t → AllInside end e.key.user_key t
rest_inside Front s e t h taken = (subst (Rises by_key) taken h).0
rest_inside Back s e t h taken = before_last t e (subst (Rises by_key) taken h)

pub item_contained : (end : End) (s : List Entry) (e : Entry) (t : List Entry) → IsTaken end s e t → Contains s e
item_contained Front s e t taken = subst (λ l. Contains l e) (sym taken) (contains_here e t)
item_contained Back s e t taken = subst (λ l. Contains l e) (sym taken) (Contains-push t e)

pub item_taken : (end : End) (s : List Entry) (e : Entry) → end_item end s ≡ Some e → (t : List Entry) × IsTaken end s e t
item_taken Front [] e h = absurd (cc h)
item_taken Front (x ∷ s) e h = let is : x ≡ e = cc h in (s, ap (λ z. z ∷ s) is)
item_taken Back [] e h = absurd (cc h)
item_taken Back (x ∷ []) e h = let is : x ≡ e = cc h in ([], ap (λ z. z ∷ []) is)
item_taken Back (x ∷ (y ∷ s)) e h = let rest = item_taken Back (y ∷ s) e h in (x ∷ rest.0, ap (λ l. x ∷ l) rest.1)

-- all stand inside of what stands outside of the entry at the end
pub all_inside : (end : End) (k : Bytes) (s : List Entry) (e : Entry) → Rises by_key s → end_item end s ≡ Some e → end_cmp end k e.key.user_key ≡ Less → AllInside end k s
all_inside end k s e rises is less = go end (item_taken end s e is) less
  where
    go : (end : End) → (t : List Entry) × IsTaken end s e t → end_cmp end k e.key.user_key ≡ Less → AllInside end k s
    go Front (t, taken) less =
        subst (AllInside Front k) (sym taken) (All-cons (λ f. end_cmp Front k f.key.user_key ≡ Less) e t less (inside_more Front k e.key.user_key t less (rest_inside Front s e t rises taken)))
    go Back (t, taken) less =
        subst (AllInside Back k) (sym taken) (All-push (λ f. end_cmp Back k f.key.user_key ≡ Less) t e (inside_more Back k e.key.user_key t less (rest_inside Back s e t rises taken)) less)

pub no_item : (end : End) (s : List Entry) → end_item end s ≡ None → s ≡ []
no_item Front [] h = refl
no_item Front (e ∷ s) h = absurd (cc h)
no_item Back [] h = refl
no_item Back (e ∷ []) h = absurd (cc h)
no_item Back (e ∷ (f ∷ s)) h = let bad : f ∷ s ≡ [] = no_item Back (f ∷ s) h in absurd (cc bad)

pub has_item : (end : End) (s : List Entry) (e : Entry) → end_item end s ≡ Some e → Contains s e
has_item end s e is = let taken = item_taken end s e is in item_contained end s e taken.0 taken.1

pub rises_on : (end : End) (s t : List Entry) (o : Option Entry) → Rises by_key s → Takes end s o t → Rises by_key t
rises_on end s t None h taken = subst (Rises by_key) (sym taken.1) tt
rises_on Front s t (Some e) h taken = (subst (Rises by_key) taken h).1
rises_on Back s t (Some e) h taken = rises_left by_key t (e ∷ []) (subst (Rises by_key) taken h)

-- what a queue reads and gives at its back
last_or : (xs : List Entry) (d : Entry) → 0 < length xs → last_item xs ≡ Some (get_or xs (length xs - 1) d)
last_or [] d lt = absurd (omega (arith, lt))
last_or (x ∷ []) d lt = refl
last_or (x ∷ (y ∷ xs)) d lt =
    let end : length (x ∷ (y ∷ xs)) - 1 ≡ suc (length (y ∷ xs) - 1) = omega arith in
    last_or (y ∷ xs) d (omega arith) ∙ ap (λ n. Some (get_or (x ∷ (y ∷ xs)) n d)) (sym end)

pub back_read : (xs : List Entry) (o : Option (Bor Entry)) → (0 < length xs → IsSome o) → IfSome o (λ x. (0 < length xs) × (x.now ≡ get_or xs (length xs - 1) x.now)) → option_copied o ≡ last_item xs
back_read [] None some is = refl
back_read (x ∷ xs) None some is = absurd (let bad = some (omega arith) in cc bad)
back_read xs (Some e) some is = ap (λ x. Some x) is.1 ∙ sym (last_or xs e.now is.0)

pub back_taken : (xs ys : List Entry) (o : Option Entry) → xs ≡ ys ++ option_to_list o → (0 < length xs → IsSome o) → o ≡ last_item xs
back_taken [] ys None is some = refl
back_taken (x ∷ xs) ys None is some = absurd (let bad = some (omega arith) in cc bad)
back_taken xs ys (Some e) is some = sym (ap last_item is ∙ last_push ys e)

-- ---- how an entry stands to another one

module _ (end : End) (e f : Entry) where
  abbrev order : Ordering
  order = end_cmp end f.key.user_key e.key.user_key

  abbrev stands : Ordering → Standing
  stands r = by_ordering r Outside (cond (ltb e.key.seqno f.key.seqno) Newer Older) Inside

  pub is_outside : standing end e f ≡ Outside → order ≡ Less
  is_outside h = go order refl h
    where
      go : (r : Ordering) → order ≡ r → stands r ≡ Outside → order ≡ Less
      go Less is h = is
      go Equal is h = absurd (elim (ltb e.key.seqno f.key.seqno) as (λ b. cond b Newer Older ≡ Outside → ⊥) [ true ↦ λ q. cc q | false ↦ λ q. cc q ] h)
      go Greater is h = absurd (cc h)

  pub is_inside : standing end e f ≡ Inside → end_cmp end e.key.user_key f.key.user_key ≡ Less
  is_inside h = go order refl h
    where
      go : (r : Ordering) → order ≡ r → stands r ≡ Inside → end_cmp end e.key.user_key f.key.user_key ≡ Less
      go Less is h = absurd (cc h)
      go Equal is h = absurd (elim (ltb e.key.seqno f.key.seqno) as (λ b. cond b Newer Older ≡ Inside → ⊥) [ true ↦ λ q. cc q | false ↦ λ q. cc q ] h)
      go Greater is h = end_back end f.key.user_key e.key.user_key is

  pub is_newer : standing end e f ≡ Newer → (f.key.user_key ≡ e.key.user_key) × (e.key.seqno < f.key.seqno)
  is_newer h = go order refl (ltb e.key.seqno f.key.seqno) refl h
    where
      go : (r : Ordering) → order ≡ r → (b : Bool) → ltb e.key.seqno f.key.seqno ≡ b → by_ordering r Outside (cond b Newer Older) Inside ≡ Newer → (f.key.user_key ≡ e.key.user_key) × (e.key.seqno < f.key.seqno)
      go Less is b lt h = absurd (cc h)
      go Equal is true lt h = (end_same end f.key.user_key e.key.user_key is, ltb-true e.key.seqno f.key.seqno lt)
      go Equal is false lt h = absurd (cc h)
      go Greater is b lt h = absurd (cc h)

  pub is_older : standing end e f ≡ Older → (f.key.user_key ≡ e.key.user_key) × (f.key.seqno ≤ e.key.seqno)
  is_older h = go order refl (ltb e.key.seqno f.key.seqno) refl h
    where
      go : (r : Ordering) → order ≡ r → (b : Bool) → ltb e.key.seqno f.key.seqno ≡ b → by_ordering r Outside (cond b Newer Older) Inside ≡ Older → (f.key.user_key ≡ e.key.user_key) × (f.key.seqno ≤ e.key.seqno)
      go Less is b lt h = absurd (cc h)
      go Equal is true lt h = absurd (cc h)
      go Equal is false lt h = (end_same end f.key.user_key e.key.user_key is, ltb-false e.key.seqno f.key.seqno lt)
      go Greater is b lt h = absurd (cc h)

-- ---- the entries of all cursors, around one that loses its entry

-- what stands before the entry at an end, and after it
abbrev ahead : End → List Entry → List Entry
ahead Front t = []
ahead Back t = t

abbrev behind : End → List Entry → List Entry
behind Front t = t
behind Back t = []

around : (end : End) (s : List Entry) (e : Entry) (t : List Entry) → IsTaken end s e t → s ≡ ahead end t ++ e ∷ behind end t
around Front s e t h = h
around Back s e t h = h

left_over : (end : End) (t : List Entry) → ahead end t ++ behind end t ≡ t
left_over Front t = refl
left_over Back t = append-nil t

module _ (end : End) (cs : List SeenCursor) (at : ℕ) (e : Entry) (new : SeenCursor) (lt : at < length cs) (taken : (d : SeenCursor) → IsTaken end (get_or cs at d).left e new.left) where
  abbrev pub firsts_of : List Entry
  firsts_of = left_of (take at cs) ++ ahead end new.left

  abbrev pub others_of : List Entry
  others_of = behind end new.left ++ left_of (drop (suc at) cs)

  abbrev own : SeenCursor
  own = get_or cs at new

  whole : cs ≡ take at cs ++ own ∷ drop (suc at) cs
  whole = let next : at + 1 ≡ suc at = omega arith in sym (take-append-drop at cs) ∙ ap (λ l. take at cs ++ l) (drop_more cs at new lt ∙ ap (λ n. own ∷ drop n cs) next)

  middle : (x : Entry → List Entry) (a p b q : List Entry) (l : List Entry) → l ≡ p ++ (x e ++ b) → a ++ (l ++ q) ≡ (a ++ p) ++ (x e ++ (b ++ q))
  middle x a p b q l h = ap (λ l. a ++ (l ++ q)) h ∙ ap (λ l. a ++ l) (append_assoc p (x e ++ b) q ∙ ap (λ l. p ++ l) (append_assoc (x e) b q)) ∙ sym (append_assoc a p (x e ++ (b ++ q)))

  pub left_with : left_of cs ≡ firsts_of ++ e ∷ others_of
  left_with =
      ap left_of whole ∙ flat_map-append (λ c. c.left) (take at cs) (own ∷ drop (suc at) cs)
      ∙ middle (λ x. x ∷ []) (left_of (take at cs)) (ahead end new.left) (behind end new.left) (left_of (drop (suc at) cs)) own.left (around end own.left e new.left (taken new))

  pub left_without : left_of (set cs at new) ≡ firsts_of ++ others_of
  left_without =
      ap left_of (set_split cs at new lt) ∙ flat_map-append (λ c. c.left) (take at cs) (new ∷ drop (suc at) cs)
      ∙ middle (λ x. []) (left_of (take at cs)) (ahead end new.left) (behind end new.left) (left_of (drop (suc at) cs)) new.left (sym (left_over end new.left))

  pub fewer : length (left_of (set cs at new)) + 1 ≡ length (left_of cs)
  fewer =
      let a = ap length left_without ∙ length-append firsts_of others_of in
      let b = ap length left_with ∙ length-append firsts_of (e ∷ others_of) in
      omega arith

  pub owns_less : (d : SeenCursor) → new.held ≤ (get_or cs at d).held → held_in (set cs at new) ≤ held_in cs
  owns_less d le = let sum = sum_by-set (λ c. c.held) cs at new d lt in omega arith

  same_from : (d : SeenCursor) → new.held ≤ (get_or cs at d).held → shown_list (firsts_of ++ e ∷ others_of) ≡ shown_list (firsts_of ++ others_of) → ShowSame cs (set cs at new)
  same_from d le same = record {
    count = length-set cs at new;
    shown = ap shown_list left_without ∙ sym same ∙ ap shown_list (sym left_with);
    left = let less = fewer in omega arith;
    held = owns_less d le;
  }

  in_left : (xs : List SeenCursor) (i : ℕ) (d : SeenCursor) (f : Entry) → i < length xs → Contains (get_or xs i d).left f → Contains (left_of xs) f
  in_left [] i d f lt there = absurd (omega (arith, lt))
  in_left (x ∷ xs) zero d f lt there = Contains-append_left x.left (left_of xs) f there
  in_left (x ∷ xs) (suc i) d f lt there = Contains-append_right x.left (left_of xs) f (in_left xs i d f (omega (arith, lt)) there)

  -- the entry of a cursor before this one hides its entry
  pub dropped_behind : (d : SeenCursor) → new.held ≤ (get_or cs at d).held → (i : ℕ) (f : Entry) → i < at → Contains (get_or cs i d).left f → f.key.user_key ≡ e.key.user_key → e.key.seqno ≤ f.key.seqno → ShowSame cs (set cs at new)
  dropped_behind d le i f before there same newer =
      let in_first : i < length (take at cs) = rw (length-take-le at cs (omega (arith, lt))) before in
      let here : Contains (left_of (take at cs)) f = in_left (take at cs) i d f in_first (subst (λ c. Contains c.left f) (sym (get_or-take at cs i d before)) there) in
      same_from d le (hidden_before firsts_of e others_of f (Contains-append_left (left_of (take at cs)) (ahead end new.left) f here) same newer)

  -- a newer entry of any other cursor hides it
  pub dropped_under : (d : SeenCursor) → new.held ≤ (get_or cs at d).held → (i : ℕ) (f : Entry) → i < length cs → (i ≡ at → ⊥) → Contains (get_or cs i d).left f → f.key.user_key ≡ e.key.user_key → e.key.seqno < f.key.seqno → ShowSame cs (set cs at new)
  dropped_under d le i f inside other there same newer =
      let long : i < length (set cs at new) = rw (length-set cs at new) inside in
      let here : Contains (left_of (set cs at new)) f = in_left (set cs at new) i d f long (subst (λ c. Contains c.left f) (sym (get_or-set_other cs at i new d other)) there) in
      same_from d le (hidden_by firsts_of e others_of f (subst (λ l. Contains l f) left_without here) same newer)

  all_left : (P : Entry → Type 0) (xs : List SeenCursor) → ((j : ℕ) (d : SeenCursor) → j < length xs → All P (get_or xs j d).left) → All P (left_of xs)
  all_left P [] h = All-nil P
  all_left P (x ∷ xs) h = All-append P x.left (left_of xs) (h 0 x (omega arith)) (all_left P xs (λ j d lt. h (suc j) d (omega (arith, lt))))

  -- nothing else has the key of its entry: what is shown of that is at the end
  pub outermost_taken : ((d : SeenCursor) → Rises by_key (get_or cs at d).left) → ((j : ℕ) (d : SeenCursor) → j < length cs → (j ≡ at → ⊥) → AllInside end e.key.user_key (get_or cs j d).left)
      → shown_list (left_of cs) ≡ with_end end (filter is_value (e ∷ [])) (shown_list (left_of (set cs at new)))
  outermost_taken rises others =
      ap shown_list left_with
      ∙ outermost_shown end firsts_of e others_of (subst (AllInside end e.key.user_key) left_without (all_left (λ f. end_cmp end e.key.user_key f.key.user_key ≡ Less) (set cs at new) each))
      ∙ ap (λ l. with_end end (filter is_value (e ∷ [])) (shown_list l)) (sym left_without)
    where
      each : (j : ℕ) (d : SeenCursor) → j < length (set cs at new) → AllInside end e.key.user_key (get_or (set cs at new) j d).left
      each j d inside = elim (cases_eq j at) [
        | inl same ↦ subst (λ c. AllInside end e.key.user_key c.left) (sym (ap (λ i. get_or (set cs at new) i d) same ∙ get_or-set_same cs at new d lt)) (rest_inside end (get_or cs at d).left e new.left (rises d) (taken d))
        | inr other ↦ subst (λ c. AllInside end e.key.user_key c.left) (sym (get_or-set_other cs at j new d other)) (others j d (rw (sym (length-set cs at new)) inside) other)
      ]

-- ---- one cursor more

module _ (end : End) (cs : List SeenCursor) (n : ℕ) where
  -- nothing is left of it
  pub none_more : (outer : Option ℕ) → IsOutermost end cs n outer → ((d : SeenCursor) → (get_or cs n d).left ≡ []) → IsOutermost end cs (n + 1) outer
  none_more None h none = λ j d lt. elim (cases_eq j n) [
    | inl same ↦ ap (λ i. (get_or cs i d).left) same ∙ none d
    | inr other ↦ h j d (omega (arith, lt, other))
  ]
  none_more (Some at) h none = record {
    before = let low = h.before in omega arith;
    item = h.item;
    there = h.there;
    others = λ j d lt apart. elim (cases_eq j n) [
      | inl same ↦ subst (AllInside end h.item.key.user_key) (sym (ap (λ i. (get_or cs i d).left) same ∙ none d)) (All-nil (λ f. end_cmp end h.item.key.user_key f.key.user_key ≡ Less))
      | inr other ↦ h.others j d (omega (arith, lt, other)) apart
    ];
  }

  module _ (e : Entry) (item : (d : SeenCursor) → end_item end (get_or cs n d).left ≡ Some e) where
    -- it is the first of which something is left
    pub first_more : IsOutermost end cs n None → IsAlone end cs (n + 1) n
    first_more h = record {
      before = omega arith;
      item = e;
      there = item;
      others = λ j d lt apart. subst (AllInside end e.key.user_key) (sym (h j d (omega (arith, lt, apart)))) (All-nil (λ f. end_cmp end e.key.user_key f.key.user_key ≡ Less));
    }

    module _ (at : ℕ) (h : IsAlone end cs n at) where
      -- its entry stands outside
      pub outside_more : ((d : SeenCursor) → Rises by_key (get_or cs at d).left) → end_cmp end e.key.user_key h.item.key.user_key ≡ Less → IsAlone end cs (n + 1) n
      outside_more rises less = record {
        before = omega arith;
        item = e;
        there = item;
        others = λ j d lt apart. elim (cases_eq j at) [
          | inl same ↦ subst (λ i. AllInside end e.key.user_key (get_or cs i d).left) (sym same) (all_inside end e.key.user_key (get_or cs at d).left h.item (rises d) (h.there d) less)
          | inr other ↦ inside_more end e.key.user_key h.item.key.user_key (get_or cs j d).left less (h.others j d (omega (arith, lt, apart)) other)
        ];
      }

      -- or inside
      pub inside_too : ((d : SeenCursor) → Rises by_key (get_or cs n d).left) → end_cmp end h.item.key.user_key e.key.user_key ≡ Less → IsAlone end cs (n + 1) at
      inside_too rises less = record {
        before = let low = h.before in omega arith;
        item = h.item;
        there = h.there;
        others = λ j d lt apart. elim (cases_eq j n) [
          | inl same ↦ subst (λ i. AllInside end h.item.key.user_key (get_or cs i d).left) (sym same) (all_inside end h.item.key.user_key (get_or cs n d).left e (rises d) (item d) less)
          | inr other ↦ h.others j d (omega (arith, lt, other)) apart
        ];
      }

      module _ (new : SeenCursor) (lt : n < length cs) (same_key : e.key.user_key ≡ h.item.key.user_key) where
        -- it has the same key, and loses its entry
        pub older_gone : ((d : SeenCursor) → AllInside end e.key.user_key new.left) → IsAlone end (set cs n new) (n + 1) at
        older_gone inside = record {
          before = let low = h.before in omega arith;
          item = h.item;
          there = λ d. ap (λ c. end_item end c.left) (get_or-set_other cs n at new d (let low = h.before in λ q. omega (arith, low, q))) ∙ h.there d;
          others = λ j d more apart. elim (cases_eq j n) [
            | inl same ↦ subst (λ c. AllInside end h.item.key.user_key c.left) (sym (ap (λ i. get_or (set cs n new) i d) same ∙ get_or-set_same cs n new d lt)) (subst (λ k. AllInside end k new.left) same_key (inside d))
            | inr other ↦ subst (λ c. AllInside end h.item.key.user_key c.left) (sym (get_or-set_other cs n j new d other)) (h.others j d (omega (arith, more, other)) apart)
          ];
        }

        -- or the other one loses its own
        pub newer_stays : ((d : SeenCursor) → AllInside end h.item.key.user_key new.left) → IsAlone end (set cs at new) (n + 1) n
        newer_stays inside = record {
          before = omega arith;
          item = e;
          there = λ d. ap (λ c. end_item end c.left) (get_or-set_other cs at n new d (let low = h.before in λ q. omega (arith, low, q))) ∙ item d;
          others = λ j d more apart. elim (cases_eq j at) [
            | inl same ↦ subst (λ c. AllInside end e.key.user_key c.left) (sym (ap (λ i. get_or (set cs at new) i d) same ∙ get_or-set_same cs at new d (let low = h.before in omega (arith, lt)))) (subst (λ k. AllInside end k new.left) (sym same_key) (inside d))
            | inr other ↦ subst (λ c. AllInside end e.key.user_key c.left) (sym (get_or-set_other cs at j new d other)) (subst (λ k. AllInside end k (get_or cs j d).left) (sym same_key) (h.others j d (omega (arith, more, apart)) other))
          ];
        }

-- ---- steps, one after the other

pub same_then : (a b c : List SeenCursor) → ShowSame a b → ShowSame b c → ShowSame a c
same_then a b c h k = record {
  count = k.count ∙ h.count;
  shown = k.shown ∙ h.shown;
  left = let one = h.left in let two = k.left in omega arith;
  held = let one = h.held in let two = k.held in omega arith;
}

-- nothing is left of any
pub nothing_left : (cs : List SeenCursor) → IsOutermost Front cs (length cs) None → left_of cs ≡ []
nothing_left [] h = refl
nothing_left (c ∷ cs) h = ap (λ l. l ++ left_of cs) (h 0 c (omega arith)) ∙ nothing_left cs (λ j d lt. h (suc j) d (omega (arith, lt)))

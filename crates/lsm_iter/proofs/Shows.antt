-- What entries show, and what is left of it once an entry is gone.
use Rattle.std.proofs.Common.{◌≡◌, ◌<◌, ◌≤◌, Bool, true, false, cond, List, [], ◌∷◌, ◌++◌, filter, Option, Some, None, option_to_list, refl, sym, ap, ◌∙◌, subst, arith, inl, inr, ltb, append-nil}
use Rattle.std.specs.List.{All, Contains}
use Rattle.std.specs.declared.cmp.Ordering.{Ordering}
use Rattle.std.specs.declared.cmp.Ordering.TheVariants.{Less, Equal, Greater}
use Rattle.std.specs.Ordering.{is_eq}
use Rattle.std.specs.Cmp.{Equal-is}
use Rattle.std.proofs.lemmas.Cmp.{nat_list_cmp_total}
use Rattle.std.proofs.lemmas.Bool.{ltb-false, lt-ltb, le-ltb}
use Rattle.std.proofs.lemmas.List.Elements.{All-weaker, All-append, All-contains, All-cons, All-filter, All-nil, All-head, All-tail, Contains-append_cases, filter-append}
use Rattle.lsm_below.specs.Keys.{Bytes, bytes_cmp, is_same}
use Rattle.lsm_below.specs.Entries.{Entry, stack, is_value, later}
use Rattle.lsm_below.specs.Streams.{is_of}
use Rattle.lsm_below.specs.Sorted.{Rises}
use Rattle.lsm_iter.specs.Shown.{by_key, IsNewestOf}
use Rattle.lsm_iter.specs.Ends.{IsTaken}
use Rattle.lsm_iter.specs.Left.{newest_in, shown_at, shown_list}
use Rattle.lsm_iter.specs.Outermost.{end_cmp, AllInside}
use Rattle.lsm_iter.specs.declared.tree_iter.End.{End}
use Rattle.lsm_iter.specs.declared.tree_iter.End.TheVariants.{Front, Back}
use Rattle.lsm_iter.proofs.Rises.{rises_filter}
use Rattle.lsm_iter.proofs.Shown.{filter_has, filter_swap, of_itself}
use Rattle.lsm_iter.proofs.Newest.{newer, turned, one_key, none_above, newest_append, newest_is, rises_shown, stacks_shown, shown_all}

-- ---- a list that rises is known by what it has of each key

head_same : (x y : Entry) (xs ys : List Entry) → x ∷ xs ≡ y ∷ ys → x ≡ y
head_same x y xs ys h = cc h

tail_same : (x y : Entry) (xs ys : List Entry) → x ∷ xs ≡ y ∷ ys → xs ≡ ys
tail_same x y xs ys h = cc h

own_stack : (x : Entry) (xs : List Entry) → stack x.key.user_key (x ∷ xs) ≡ x ∷ stack x.key.user_key xs
own_stack x xs = ap (λ b. cond b (x ∷ stack x.key.user_key xs) (stack x.key.user_key xs)) (of_itself x.key.user_key)

not_there : (x y : Entry) (xs ys : List Entry) → bytes_cmp x.key.user_key y.key.user_key ≡ Less → All (λ g. by_key y g ≡ Less) ys → stack x.key.user_key (x ∷ xs) ≡ stack x.key.user_key (y ∷ ys) → ⊥
not_there x y xs ys less rises same =
    let k = x.key.user_key in
    let none : stack k ys ≡ [] = none_above k ys (All-weaker (λ g. by_key y g ≡ Less) (λ g. bytes_cmp k g.key.user_key ≡ Less) (λ g l. nat_list_cmp_total.trans k y.key.user_key g.key.user_key less l) ys rises) in
    let gone : stack k (y ∷ ys) ≡ [] = ap (λ r. cond (is_eq r) (y ∷ stack k ys) (stack k ys)) less ∙ none in
    let bad : x ∷ stack k xs ≡ [] = sym (own_stack x xs) ∙ same ∙ gone in
    cc bad

tails : (x : Entry) (xs ys : List Entry) (k : Bytes) → (b : Bool) → cond b (x ∷ stack k xs) (stack k xs) ≡ cond b (x ∷ stack k ys) (stack k ys) → stack k xs ≡ stack k ys
tails x xs ys k true h = tail_same x x (stack k xs) (stack k ys) h
tails x xs ys k false h = h

pub one_list : (xs ys : List Entry) → Rises by_key xs → Rises by_key ys → ((k : Bytes) → stack k xs ≡ stack k ys) → xs ≡ ys
one_list [] [] h k same = refl
one_list [] (y ∷ ys) h k same = absurd (let bad : [] ≡ y ∷ stack y.key.user_key ys = same y.key.user_key ∙ own_stack y ys in cc bad)
one_list (x ∷ xs) [] h k same = absurd (let bad : x ∷ stack x.key.user_key xs ≡ [] = sym (own_stack x xs) ∙ same x.key.user_key in cc bad)
one_list (x ∷ xs) (y ∷ ys) h k same = go (λ rest. one_list xs ys h.1 k.1 rest) (bytes_cmp x.key.user_key y.key.user_key) refl
  where
    go : (((q : Bytes) → stack q xs ≡ stack q ys) → xs ≡ ys) → (r : Ordering) → bytes_cmp x.key.user_key y.key.user_key ≡ r → x ∷ xs ≡ y ∷ ys
    go ih Less is = absurd (not_there x y xs ys is k.0 (same x.key.user_key))
    go ih Equal is =
        let key : x.key.user_key ≡ y.key.user_key = one_key x.key.user_key y.key.user_key is in
        let one : x ≡ y = head_same x y (stack y.key.user_key xs) (stack y.key.user_key ys)
        (sym (ap (λ q. stack q (x ∷ xs)) (sym key) ∙ own_stack x xs ∙ ap (λ q. x ∷ stack q xs) key) ∙ same y.key.user_key ∙ own_stack y ys) in
        let rest : xs ≡ ys = ih (λ q. tails x xs ys q (is_of q x) (same q ∙ ap (λ z. stack q (z ∷ ys)) (sym one))) in
        ap (λ l. x ∷ l) rest ∙ ap (λ z. z ∷ ys) one
    go ih Greater is = absurd (not_there y x ys xs (turned x.key.user_key y.key.user_key Greater is) h.0 (sym (same y.key.user_key)))

-- entries of which each key has the same newest one show the same list
pub same_shown : (xs ys : List Entry) → ((k : Bytes) → newest_in (stack k xs) ≡ newest_in (stack k ys)) → shown_list xs ≡ shown_list ys
same_shown xs ys same =
    one_list (shown_list xs) (shown_list ys) (rises_shown xs) (rises_shown ys)
    (λ k. stacks_shown k xs ∙ ap (λ o. filter is_value (option_to_list o)) (same k) ∙ sym (stacks_shown k ys))

-- ---- an entry that a newer one hides

-- of two entries an earlier one that is no older stays the newest
later_stays : (g f : Entry) (o : Option Entry) → f.key.seqno ≤ g.key.seqno → later g (later f o) ≡ later g o
later_stays g f None le = ap (λ b. cond b (Some f) (Some g)) (le-ltb g.key.seqno f.key.seqno le)
later_stays g f (Some h) le = go (ltb f.key.seqno h.key.seqno) refl
  where
    go : (b : Bool) → ltb f.key.seqno h.key.seqno ≡ b → later g (cond b (Some h) (Some f)) ≡ later g (Some h)
    go true is = refl
    go false is =
        let low = ltb-false f.key.seqno h.key.seqno is in
        ap (λ b. cond b (Some f) (Some g)) (le-ltb g.key.seqno f.key.seqno le) ∙ sym (ap (λ b. cond b (Some h) (Some g)) (le-ltb g.key.seqno h.key.seqno (omega arith)))

none_in : (xs : List Entry) (e : Entry) → xs ≡ [] → Contains xs e → ⊥
none_in xs e none there = omega (arith, (subst (λ l. Contains l e) none there).1)

-- where an earlier entry is no older, or any other one is newer, an entry isn't missed
module _ (xs : List Entry) (f : Entry) (ys : List Entry) where
  behind_older : (e : Entry) → Contains xs e → f.key.seqno ≤ e.key.seqno → newest_in (xs ++ f ∷ ys) ≡ newest_in (xs ++ ys)
  behind_older e there le =
      newest_append xs (f ∷ ys) ∙ go (newest_in xs) refl ∙ sym (newest_append xs ys)
    where
      go : (o : Option Entry) → newest_in xs ≡ o → newer o (later f (newest_in ys)) ≡ newer o (newest_in ys)
      go None is = absurd (none_in xs e (subst (λ o. IsNewestOf xs o) is (newest_is xs)) there)
      go (Some g) is =
          let top = subst (λ o. IsNewestOf xs o) is (newest_is xs) in
          let up = All-contains (λ h. h.key.seqno ≤ g.key.seqno) xs e top.1 there in
          later_stays g f (newest_in ys) (omega arith)

  below_newer : (e : Entry) → Contains (xs ++ ys) e → f.key.seqno < e.key.seqno → newest_in (xs ++ f ∷ ys) ≡ newest_in (xs ++ ys)
  below_newer e there lt = elim (Contains-append_cases xs ys e there) [
    | inl early ↦ behind_older e early (omega (arith, lt))
    | inr late ↦ newest_append xs (f ∷ ys) ∙ ap (newer (newest_in xs)) (go late (newest_in ys) refl) ∙ sym (newest_append xs ys)
  ]
    where
      go : Contains ys e → (o : Option Entry) → newest_in ys ≡ o → later f o ≡ o
      go late None is = absurd (none_in ys e (subst (λ o. IsNewestOf ys o) is (newest_is ys)) late)
      go late (Some g) is =
          let top = subst (λ o. IsNewestOf ys o) is (newest_is ys) in
          let up = All-contains (λ h. h.key.seqno ≤ g.key.seqno) ys e top.1 late in
          ap (λ b. cond b (Some g) (Some f)) (lt-ltb f.key.seqno g.key.seqno (omega (arith, lt)))

-- a key's entries, where an entry is taken out of a list
module _ (xs : List Entry) (f : Entry) (ys : List Entry) where
  pub other_stack : (k : Bytes) → is_of k f ≡ false → stack k (xs ++ f ∷ ys) ≡ stack k (xs ++ ys)
  other_stack k other =
      filter-append (is_of k) xs (f ∷ ys) ∙ ap (λ b. stack k xs ++ cond b (f ∷ stack k ys) (stack k ys)) other ∙ sym (filter-append (is_of k) xs ys)

  pub own_key : (k : Bytes) → is_of k f ≡ true → stack k (xs ++ f ∷ ys) ≡ stack k xs ++ f ∷ stack k ys
  own_key k of = filter-append (is_of k) xs (f ∷ ys) ∙ ap (λ b. stack k xs ++ cond b (f ∷ stack k ys) (stack k ys)) of

  -- an entry that an earlier one of its key hides, or any newer one, isn't missed
  unseen : ((k : Bytes) → is_of k f ≡ true → newest_in (stack k xs ++ f ∷ stack k ys) ≡ newest_in (stack k xs ++ stack k ys)) → shown_list (xs ++ f ∷ ys) ≡ shown_list (xs ++ ys)
  unseen hides = same_shown (xs ++ f ∷ ys) (xs ++ ys) (λ k. go k (is_of k f) refl)
    where
      go : (k : Bytes) (b : Bool) → is_of k f ≡ b → newest_in (stack k (xs ++ f ∷ ys)) ≡ newest_in (stack k (xs ++ ys))
      go k true is = ap newest_in (own_key k is) ∙ hides k is ∙ ap newest_in (sym (filter-append (is_of k) xs ys))
      go k false is = ap newest_in (other_stack k is)

  of_same : (e : Entry) (k : Bytes) → e.key.user_key ≡ f.key.user_key → is_of k f ≡ true → is_of k e ≡ true
  of_same e k same of = ap (is_same k) same ∙ of

  pub hidden_before : (e : Entry) → Contains xs e → e.key.user_key ≡ f.key.user_key → f.key.seqno ≤ e.key.seqno → shown_list (xs ++ f ∷ ys) ≡ shown_list (xs ++ ys)
  hidden_before e there same le = unseen (λ k of. behind_older (stack k xs) f (stack k ys) e (filter_has (is_of k) xs e there (of_same e k same of)) le)

  pub hidden_by : (e : Entry) → Contains (xs ++ ys) e → e.key.user_key ≡ f.key.user_key → f.key.seqno < e.key.seqno → shown_list (xs ++ f ∷ ys) ≡ shown_list (xs ++ ys)
  hidden_by e there same lt = unseen (λ k of. below_newer (stack k xs) f (stack k ys) e
      (subst (λ l. Contains l e) (filter-append (is_of k) xs ys) (filter_has (is_of k) (xs ++ ys) e there (of_same e k same of))) lt)

-- ---- an entry whose key is outermost, and no other entry's

-- what is shown, with what is shown of an outermost key at its end
abbrev pub with_end : End → List Entry → List Entry → List Entry
with_end Front one rest = one ++ rest
with_end Back one rest = rest ++ one

none_inside : (end : End) (k : Bytes) (es : List Entry) → AllInside end k es → stack k es ≡ []
none_inside end k [] h = refl
none_inside end k (e ∷ es) h =
    ap (λ b. cond b (e ∷ stack k es) (stack k es)) (other end (All-head (λ f. end_cmp end k f.key.user_key ≡ Less) e es h)) ∙ none_inside end k es (All-tail (λ f. end_cmp end k f.key.user_key ≡ Less) e es h)
  where
    other : (end : End) → end_cmp end k e.key.user_key ≡ Less → is_of k e ≡ false
    other Front h = ap is_eq h
    other Back h = ap is_eq (turned e.key.user_key k Less h)

rises_append : (xs ys : List Entry) → Rises by_key xs → Rises by_key ys → All (λ x. All (λ y. by_key x y ≡ Less) ys) xs → Rises by_key (xs ++ ys)
rises_append [] ys h k apart = k
rises_append (x ∷ xs) ys h k apart = (
  All-append (λ y. by_key x y ≡ Less) xs ys h.0 (All-head (λ x. All (λ y. by_key x y ≡ Less) ys) x xs apart),
  rises_append xs ys h.1 k (All-tail (λ x. All (λ y. by_key x y ≡ Less) ys) x xs apart),
)

shown_one : (e : Entry) → Rises by_key (filter is_value (e ∷ []))
shown_one e = rises_filter by_key is_value (e ∷ []) (All-nil (λ f. by_key e f ≡ Less), tt)

append_none : (xs ys : List Entry) → xs ++ ys ≡ [] → (xs ≡ []) × (ys ≡ [])
append_none [] ys h = (refl, h)
append_none (x ∷ xs) ys h = absurd (cc h)

module _ (end : End) (xs : List Entry) (e : Entry) (ys : List Entry) (inside : AllInside end e.key.user_key (xs ++ ys)) where
  abbrev one : List Entry
  one = filter is_value (e ∷ [])

  abbrev rest : List Entry
  rest = shown_list (xs ++ ys)

  rest_inside : AllInside end e.key.user_key rest
  rest_inside = shown_all (λ f. end_cmp end e.key.user_key f.key.user_key ≡ Less) (xs ++ ys) inside

  split_rises : (end : End) → AllInside end e.key.user_key rest → Rises by_key (with_end end one rest)
  split_rises Front h = rises_append one rest (shown_one e) (rises_shown (xs ++ ys)) (All-filter is_value (λ x. All (λ y. by_key x y ≡ Less) rest) (e ∷ []) (All-cons (λ x. All (λ y. by_key x y ≡ Less) rest) e [] h (All-nil (λ x. All (λ y. by_key x y ≡ Less) rest))))
  split_rises Back h = rises_append rest one (rises_shown (xs ++ ys)) (shown_one e) (All-weaker (λ f. bytes_cmp f.key.user_key e.key.user_key ≡ Less) (λ x. All (λ y. by_key x y ≡ Less) one) (λ f less. All-filter is_value (λ y. by_key f y ≡ Less) (e ∷ []) (All-cons (λ y. by_key f y ≡ Less) e [] less (All-nil (λ y. by_key f y ≡ Less)))) rest h)

  stack_end : (end : End) (k : Bytes) → stack k (with_end end one rest) ≡ with_end end (stack k one) (stack k rest)
  stack_end Front k = filter-append (is_of k) one rest
  stack_end Back k = filter-append (is_of k) rest one

  with_none : (end : End) (l : List Entry) → with_end end l [] ≡ l
  with_none Front l = append-nil l
  with_none Back l = refl

  none_with : (end : End) (l : List Entry) → with_end end [] l ≡ l
  none_with Front l = refl
  none_with Back l = append-nil l

  stacks : (k : Bytes) → (b : Bool) → is_of k e ≡ b → shown_at k (xs ++ e ∷ ys) ≡ with_end end (stack k one) (shown_at k (xs ++ ys))
  stacks k true of =
      let key : k ≡ e.key.user_key = one_key k e.key.user_key ((Equal-is (bytes_cmp k e.key.user_key)).0 of) in
      let gone : stack k (xs ++ ys) ≡ [] = ap (λ q. stack q (xs ++ ys)) key ∙ none_inside end e.key.user_key (xs ++ ys) inside in
      let both = append_none (stack k xs) (stack k ys) (sym (filter-append (is_of k) xs ys) ∙ gone) in
      let alone : stack k (xs ++ e ∷ ys) ≡ e ∷ [] = own_key xs e ys k of ∙ ap (λ l. l ++ e ∷ stack k ys) both.0 ∙ ap (λ l. e ∷ l) both.1 in
      let lhs : shown_at k (xs ++ e ∷ ys) ≡ one = ap (λ l. filter is_value (option_to_list (newest_in l))) alone in
      let rest : shown_at k (xs ++ ys) ≡ [] = ap (λ l. filter is_value (option_to_list (newest_in l))) gone in
      let own : stack k one ≡ one = filter_swap (is_of k) is_value (e ∷ []) ∙ ap (λ b. filter is_value (cond b (e ∷ []) [])) of in
      lhs ∙ sym (ap (with_end end (stack k one)) rest ∙ with_none end (stack k one) ∙ own)
  stacks k false other =
      let own : stack k one ≡ [] = filter_swap (is_of k) is_value (e ∷ []) ∙ ap (λ b. filter is_value (cond b (e ∷ []) [])) other in
      ap (λ l. filter is_value (option_to_list (newest_in l))) (other_stack xs e ys k other) ∙ sym (ap (λ l. with_end end l (shown_at k (xs ++ ys))) own ∙ none_with end (shown_at k (xs ++ ys)))

  pub outermost_shown : shown_list (xs ++ e ∷ ys) ≡ with_end end (filter is_value (e ∷ [])) (shown_list (xs ++ ys))
  outermost_shown =
      one_list (shown_list (xs ++ e ∷ ys)) (with_end end one rest) (rises_shown (xs ++ e ∷ ys)) (split_rises end rest_inside)
      (λ k. stacks_shown k (xs ++ e ∷ ys) ∙ stacks k (is_of k e) refl ∙ ap (with_end end (stack k one)) (sym (stacks_shown k (xs ++ ys))) ∙ sym (stack_end end k))

-- with an entry shown, it is taken; with none, nothing is
pub end_taken : (end : End) (s one rest : List Entry) (e : Entry) → s ≡ with_end end one rest → e ∷ [] ≡ one → IsTaken end s e rest
end_taken Front s item rest e h is = h ∙ ap (λ l. l ++ rest) (sym is)
end_taken Back s item rest e h is = h ∙ ap (λ l. rest ++ l) (sym is)

pub end_kept : (end : End) (s one rest : List Entry) → s ≡ with_end end one rest → [] ≡ one → s ≡ rest
end_kept Front s item rest h is = h ∙ ap (λ l. l ++ rest) (sym is)
end_kept Back s item rest h is = h ∙ ap (λ l. rest ++ l) (sym is) ∙ append-nil rest

pub end_some : (end : End) (one rest : List Entry) → with_end end one rest ≡ [] → one ≡ []
end_some Front one rest h = (append_none one rest h).0
end_some Back one rest h = (append_none rest one h).1

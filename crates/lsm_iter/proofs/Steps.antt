-- A step of one cursor, and of the one with the outermost key.
use Rattle.std.proofs.Common.{◌≡◌, ◌≢◌, ℕ, ◌<◌, ◌≤◌, true, cond, Option, None, Some, Result, Ok, Err, OnErr, List, [], ◌∷◌, MatchOption, option_to_list, filter, get_or, set, map, length, refl, sym, ap, ◌∙◌, subst, arith}
use Rattle.std.proofs.lemmas.List.{get_or_default}
use Rattle.lsm_below.specs.Entries.{Entry, is_value}
use Rattle.lsm_below.specs.Sorted.{Rises}
use Rattle.lsm_iter.specs.Shown.{by_key}
use Rattle.lsm_iter.specs.Ends.{IsTaken}
use Rattle.lsm_iter.specs.Left.{SeenCursor, left_of, held_in, shown_list, end_item, Takes, TakesValue}
use Rattle.lsm_iter.specs.Outermost.{IsAlone, IsOutermost, ShowSame}
use Rattle.lsm_iter.specs.declared.tree_iter.End.{End}
use Rattle.lsm_iter.proofs.Shows.{with_end, end_taken, end_kept, end_some}
use Rattle.lsm_iter.proofs.Alone.{item_taken, outermost_taken, fewer, owns_less, nothing_left}
use Rattle.lsm_iter.proofs.Compared.{seen_alone, seen_same}

pub on_err : {A E : Type 0} (r : Result A E) (P : Type 0) → P → OnErr r P
on_err (Ok a) P p = tt
on_err (Err e) P p = p

-- ---- one cursor

module _ (end : End) (s t : List Entry) where
  -- an entry is taken, of which the value is known
  pub takes_value : (v : Option Entry) → Takes end s (end_item end s) t → option_to_list v ≡ filter is_value (option_to_list (end_item end s)) → TakesValue end s v t
  takes_value v taken is = go (end_item end s) taken is
    where
      none_of : (v : Option Entry) → option_to_list v ≡ [] → v ≡ None
      none_of None h = refl
      none_of (Some e) h = absurd (cc h)

      go : (o : Option Entry) → Takes end s o t → option_to_list v ≡ filter is_value (option_to_list o) → MatchOption o ((v ≡ None) × (s ≡ []) × (t ≡ [])) (λ e. IsTaken end s e t × (option_to_list v ≡ filter is_value (e ∷ [])))
      go None taken is = (none_of v is, taken.0, taken.1)
      go (Some e) taken is = (taken, is)

-- ---- the cursor with the outermost key

-- a step of the cursor with the outermost key
module _ (end : End) (cs : List SeenCursor) (at : ℕ) (h : IsAlone end cs (length cs) at) (new : SeenCursor) (v : Option Entry) (cursor : SeenCursor) (takes : TakesValue end (get_or cs at cursor).left v new.left) (rises : Rises by_key (get_or cs at cursor).left) (le : new.held ≤ (get_or cs at cursor).held) where
  both : IsTaken end (get_or cs at cursor).left h.item new.left × (option_to_list v ≡ filter is_value (h.item ∷ []))
  both = subst (λ o. MatchOption o ((v ≡ None) × ((get_or cs at cursor).left ≡ []) × (new.left ≡ [])) (λ e. IsTaken end (get_or cs at cursor).left e new.left × (option_to_list v ≡ filter is_value (e ∷ [])))) (h.there cursor) takes

  taken : (d : SeenCursor) → IsTaken end (get_or cs at d).left h.item new.left
  taken d = subst (λ c. IsTaken end c.left h.item new.left) (get_or_default cs at cursor d h.before) both.0

  pub step : shown_list (left_of cs) ≡ with_end end (option_to_list v) (shown_list (left_of (set cs at new)))
  step =
      outermost_taken end cs at h.item new h.before taken (λ d. subst (λ c. Rises by_key c.left) (get_or_default cs at cursor d h.before) rises) h.others
      ∙ ap (λ l. with_end end l (shown_list (left_of (set cs at new)))) (sym both.1)

  step_fewer : length (left_of (set cs at new)) < length (left_of cs)
  step_fewer = let less = fewer end cs at h.item new h.before taken in omega arith

  step_owns : held_in (set cs at new) ≤ held_in cs
  step_owns = owns_less end cs at h.item new h.before taken cursor le

-- a value at the end of the outermost one is shown
value_shown : (end : End) (cs : List SeenCursor) (at : ℕ) (h : IsAlone end cs (length cs) at) (cursor : SeenCursor) (e : Entry) → Rises by_key (get_or cs at cursor).left → end_item end (get_or cs at cursor).left ≡ Some e → is_value e ≡ true → shown_list (left_of cs) ≢ []
value_shown end cs at h cursor e rises item value none =
    let taken = item_taken end (get_or cs at cursor).left e item in
    let new : SeenCursor = record { left = taken.0; held = 0 } in
    let same : h.item ≡ e = one_some h.item e (sym (h.there cursor) ∙ item) in
    let one : filter is_value (h.item ∷ []) ≡ e ∷ [] = ap (λ x. filter is_value (x ∷ [])) same ∙ ap (λ b. cond b (e ∷ []) []) value in
    let bad : e ∷ [] ≡ [] = end_some end (e ∷ []) (shown_list (left_of (set cs at new))) (ap (λ l. with_end end l (shown_list (left_of (set cs at new)))) (sym one) ∙ sym (outermost_taken end cs at h.item new h.before
    (λ d. subst (λ c. IsTaken end c.left h.item new.left) (get_or_default cs at cursor d h.before) (subst (λ x. IsTaken end (get_or cs at cursor).left x new.left) (sym same) taken.1))
    (λ d. subst (λ c. Rises by_key c.left) (get_or_default cs at cursor d h.before) rises) h.others) ∙ none) in
    cc bad
  where
    one_some : (x y : Entry) → Some x ≡ Some y → x ≡ y
    one_some x y h = cc h

-- ---- a turn of the loop that takes what readers show

-- one of the readers lost its entry: where that is a value, it is taken of what they show, else they show the same
pub record IsTurn (end : End) (was now : List SeenCursor) (v : Option Entry) : Type 0 where
  pub taken : (e : Entry) → v ≡ Some e → IsTaken end (shown_list (left_of was)) e (shown_list (left_of now))
  pub kept : v ≡ None → shown_list (left_of was) ≡ shown_list (left_of now)
  pub fewer : length (left_of now) < length (left_of was)
  pub held : held_in now ≤ held_in was

-- readers that show what they did, and the place of the one with the outermost key
module _ (end : End) (was cs : List SeenCursor) (o : Option ℕ) (same : ShowSame (map (λ c. c) was) (map (λ c. c) cs)) (outer : IsOutermost end (map (λ c. c) cs) (length cs) o) where
  before : ShowSame was cs
  before = seen_same was cs same

  pub none_shown : o ≡ None → (shown_list (left_of was) ≡ []) × (shown_list (left_of cs) ≡ [])
  none_shown is =
      let gone : shown_list (left_of cs) ≡ [] = ap shown_list (nothing_left cs (subst (IsOutermost end cs (length cs)) is (seen_alone end cs o outer))) in
      (sym before.shown ∙ gone, gone)

  module _ (at : ℕ) (is : o ≡ Some at) (cursor : SeenCursor) (rises : Rises by_key (get_or cs at cursor).left) where
    alone : IsAlone end cs (length cs) at
    alone = subst (IsOutermost end cs (length cs)) is (seen_alone end cs o outer)

    pub some_shown : (e : Entry) → end_item end (get_or cs at cursor).left ≡ Some e → is_value e ≡ true → shown_list (left_of was) ≢ []
    some_shown e item value = λ none. value_shown end cs at alone cursor e rises item value (before.shown ∙ none)

    pub turn : (new : SeenCursor) (v : Option Entry) → TakesValue end (get_or cs at cursor).left v new.left → new.held ≤ (get_or cs at cursor).held → IsTurn end was (set cs at new) v
    turn new v takes held = record {
      taken = λ e one. end_taken end (shown_list (left_of was)) (option_to_list v) now e shown (ap option_to_list (sym one));
      kept = λ none. end_kept end (shown_list (left_of was)) (option_to_list v) now shown (ap option_to_list (sym none));
      fewer = let left = before.left in let less = step_fewer end cs at alone new v cursor takes rises held in omega arith;
      held = let owned = before.held in let owns = step_owns end cs at alone new v cursor takes rises held in omega arith;
    }
      where
        now : List Entry
        now = shown_list (left_of (set cs at new))

        shown : shown_list (left_of was) ≡ with_end end (option_to_list v) now
        shown = sym before.shown ∙ step end cs at alone new v cursor takes rises held

-- A journal in the counter's order is in order.
use Rattle.std.proofs.Common.{◌≡◌, ℕ, ◌+◌, ◌<◌, ◌≤◌, max, Bool, true, false, cond, ◌&&◌, ◌||◌, List, [], ◌∷◌, ◌++◌, fold, refl, sym, ap, ◌∙◌, subst, arith, append_assoc}
use Rattle.std.specs.List.{AllByRecursion, list_any}
use Rattle.std.proofs.lemmas.Grind.{fold-append}
use Rattle.lsm_below.specs.Keys.{Bytes, is_same}
use Rattle.lsm_below.specs.Entries.{Entry, is_weak, is_value, stack, above, values}
use Rattle.lsm_model.specs.Journal.{Event, MayCome, InOrderFrom, sets_of, sets_after, floor, floor_after, next_of, next_after, next_number, next_number_after}
use Rattle.lsm_model.specs.Views.{EachPair}
use Rattle.lsm_model.specs.declared.journal.JournalEntry.TheVariants.{Write, Clear, Install, Dropped, Mark, Read}
use Rattle.lsm_model.specs.Counted.{Counted, events_of, counter_after, NeverFalls, IsDrawn, StandsAbove, OfWrite, removes_weakly, CountedIsInOrder}
use Rattle.lsm_below.specs.Each.{each_both}
use Rattle.lsm_model.proofs.Lists.{fold_push}
use Rattle.lsm_model.proofs.Journals.{same_itself}

-- ---- the counter stands above all sequence numbers so far

counter_above : (x : Event) (n c d : ℕ) → n ≤ c → c ≤ d → IsDrawn x d → next_number_after n x ≤ counter_after x d
counter_above (Write e) n c d h l q = omega arith
counter_above (Clear m) n c d h l q = omega arith
counter_above (Install m) n c d h l q = omega arith
counter_above (Dropped ranges m) n c d h l q = omega arith
counter_above (Mark w) n c d h l q = omega arith
counter_above (Read at question answer) n c d h l q = omega arith

-- ---- a write's sequence number is above what the journal before it asks

pub record IsAbove (opened : List Entry) (before : List Event) (e : Entry) : Type 0 where
  pub installs : floor before ≤ e.key.seqno
  pub own : next_of e.key.user_key opened before ≤ e.key.seqno

floor_more : (x : Event) (n : ℕ) (e : Entry) → n ≤ e.key.seqno → StandsAbove x e → floor_after n x ≤ e.key.seqno
floor_more (Write f) n e h q = h
floor_more (Clear m) n e h q = omega arith
floor_more (Install m) n e h q = omega arith
floor_more (Dropped ranges m) n e h q = h
floor_more (Mark w) n e h q = h
floor_more (Read at question answer) n e h q = h

own_more : (x : Event) (n : ℕ) (e : Entry) → n ≤ e.key.seqno → StandsAbove x e → next_after e.key.user_key n x ≤ e.key.seqno
own_more (Write f) n e h q = elim (is_same e.key.user_key f.key.user_key) as (λ b. (b ≡ true → f.key.seqno < e.key.seqno) → cond b (max n (f.key.seqno + 1)) n ≤ e.key.seqno) [
  | true ↦ λ l. let z = l refl in omega arith
  | false ↦ λ l. h
] q
own_more (Clear m) n e h q = h
own_more (Install m) n e h q = h
own_more (Dropped ranges m) n e h q = h
own_more (Mark w) n e h q = h
own_more (Read at question answer) n e h q = h

above_more : (opened : List Entry) (before : List Event) (x y : Event) → OfWrite (IsAbove opened before) y → OfWrite (StandsAbove x) y → OfWrite (IsAbove opened (before ++ x ∷ [])) y
above_more opened before x (Write e) h q = record {
  installs = rw (fold_push floor_after 0 before x) (floor_more x (floor before) e h.installs q);
  own = rw (fold_push (next_after e.key.user_key) (above (stack e.key.user_key opened)) before x) (own_more x (next_of e.key.user_key opened before) e h.own q);
}
above_more opened before x (Clear n) h q = tt
above_more opened before x (Install n) h q = tt
above_more opened before x (Dropped ranges n) h q = tt
above_more opened before x (Mark w) h q = tt
above_more opened before x (Read at question answer) h q = tt

-- ---- values and weak removals

sets_step : (k : Bytes) (n : ℕ) (x : Event) → n ≤ sets_after k n x
sets_step k n (Write e) = elim (is_same k e.key.user_key && is_value e) as (λ b. n ≤ cond b (n + 1) n) [ true ↦ omega arith | false ↦ omega arith ]
sets_step k n (Clear m) = omega arith
sets_step k n (Install m) = omega arith
sets_step k n (Dropped ranges m) = omega arith
sets_step k n (Mark w) = omega arith
sets_step k n (Read at question answer) = omega arith

sets_grow : (k : Bytes) (n : ℕ) (more : List Event) → n ≤ fold (sets_after k) n more
sets_grow k n [] = omega arith
sets_grow k n (x ∷ more) = let a = sets_step k n x in let b = sets_grow k (sets_after k n x) more in omega arith

pub or_true : (b : Bool) → (b || true) ≡ true
or_true true = refl
or_true false = refl

weak_here : (k : Bytes) (before more : List Event) (x : Event) → removes_weakly k x ≡ true → list_any (removes_weakly k) (before ++ x ∷ more) ≡ true
weak_here k [] more x h = ap (λ b. b || list_any (removes_weakly k) more) h
weak_here k (y ∷ before) more x h = ap (λ b. removes_weakly k y || b) (weak_here k before more x h) ∙ or_true (removes_weakly k y)

abbrev Single : List Entry → List Event → Type 0
Single opened journal = (k : Bytes) → list_any (removes_weakly k) journal ≡ true → sets_of k opened journal ≤ 1

single_here : (opened : List Entry) (before more : List Event) (e : Entry) → Single opened (before ++ Write e ∷ more) → is_weak e ≡ true → sets_of e.key.user_key opened before ≤ 1
single_here opened before more e single weak =
    let k = e.key.user_key in
    let here : removes_weakly k (Write e) ≡ true = ap (λ b. b && is_weak e) (same_itself k) ∙ weak in
    let all = single k (weak_here k before more (Write e) here) in
    let grown : sets_of k opened before ≤ sets_of k opened (before ++ Write e ∷ more) = rw (fold-append (sets_after k) (values (stack k opened)) before (Write e ∷ more)) (sets_grow k (sets_of k opened before) (Write e ∷ more)) in
    omega arith

-- ---- event by event

may_come : (opened : List Entry) (before more : List Event) (x : Event) (c d : ℕ) → next_number opened before ≤ c → c ≤ d → IsDrawn x d → OfWrite (IsAbove opened before) x → Single opened (before ++ x ∷ more) → MayCome opened before x
may_come opened before more (Write e) c d n l q high single = record { after_installs = high.installs; after_own = high.own; single = single_here opened before more e single }
may_come opened before more (Clear m) c d n l q high single = omega arith
may_come opened before more (Install m) c d n l q high single = omega arith
may_come opened before more (Dropped ranges m) c d n l q high single = tt
may_come opened before more (Mark w) c d n l q high single = tt
may_come opened before more (Read at question answer) c d n l q high single = tt

ordered_from : (opened : List Entry) (before : List Event) (c : ℕ) (rest : List Counted) → next_number opened before ≤ c → NeverFalls c rest → AllByRecursion (λ x. IsDrawn x.event x.counter) rest → EachPair (λ x y. OfWrite (StandsAbove x.event) y.event) rest
    → AllByRecursion (λ x. OfWrite (IsAbove opened before) x.event) rest → Single opened (before ++ events_of rest) → InOrderFrom opened before (events_of rest)
ordered_from opened before c [] n rises drawn pairs high single = tt
ordered_from opened before c (x ∷ rest) n rises drawn pairs high single =
    let now = before ++ x.event ∷ [] in
    let counted : next_number opened now ≤ counter_after x.event x.counter = rw (fold_push next_number_after (above opened) before x.event) (counter_above x.event (next_number opened before) c x.counter n rises.0 drawn.0) in
    let still : AllByRecursion (λ y. OfWrite (IsAbove opened now) y.event) rest = each_both (λ y. OfWrite (IsAbove opened before) y.event) (λ y. OfWrite (StandsAbove x.event) y.event) _ (λ y a b. above_more opened before x.event y.event a b) rest high.1 pairs.0 in
    let alone : Single opened (now ++ events_of rest) = subst (Single opened) (sym (append_assoc before (x.event ∷ []) (events_of rest))) single in (
      may_come opened before (events_of rest) x.event c x.counter n rises.0 drawn.0 high.0 single,
      ordered_from opened now (counter_after x.event x.counter) rest counted rises.1 drawn.1 pairs.1 still alone,
    )

first_above : (opened : List Entry) (x : Event) → OfWrite (λ e. above (stack e.key.user_key opened) ≤ e.key.seqno) x → OfWrite (IsAbove opened []) x
first_above opened (Write e) h = record { installs = omega arith; own = h }
first_above opened (Clear n) h = tt
first_above opened (Install n) h = tt
first_above opened (Dropped ranges n) h = tt
first_above opened (Mark w) h = tt
first_above opened (Read at question answer) h = tt

all_first : (opened : List Entry) (journal : List Counted) → AllByRecursion (λ x. OfWrite (λ e. above (stack e.key.user_key opened) ≤ e.key.seqno) x.event) journal → AllByRecursion (λ x. OfWrite (IsAbove opened []) x.event) journal
all_first opened [] h = tt
all_first opened (x ∷ journal) h = (first_above opened x.event h.0, all_first opened journal h.1)

pub counted_is_in_order : CountedIsInOrder
counted_is_in_order opened journal h = ordered_from opened [] (above opened) journal (omega arith) h.counter h.drawn h.earlier (all_first opened journal h.over_opened) h.single

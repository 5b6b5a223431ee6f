-- Calls whose numbers rise keep a journal in order.
use Rattle.std.proofs.Common.{◌≡◌, ◌⊎◌, ⊎_elim, ℕ, ◌+◌, ◌<◌, ◌≤◌, max, Bool, true, false, ◌&&◌, cond, List, [], ◌∷◌, ◌++◌, fold, map, filter, length, refl, sym, ap, ◌∙◌, subst, arith, append-nil, append_assoc}
use Rattle.std.specs.List.{AllByRecursion}
use Rattle.std.proofs.lemmas.Grind.{fold-append}
use Rattle.lsm_below.specs.Keys.{Bytes, is_same}
use Rattle.lsm_below.specs.Entries.{Entry, above, stack, values, is_value, is_weak}
use Rattle.lsm_below.specs.Members.{IsIn}
use Rattle.lsm_below.specs.Orders.{same_swap}
use Rattle.lsm_model.specs.Journal.{Event, InOrder, next_after, next_of, next_number_after, next_number, floor_after, floor, sets_after, sets_of}
use Rattle.lsm_model.specs.Views.{EachPair}
use Rattle.lsm_model.specs.Laws.{MapsAreRead}
use Rattle.lsm_model.specs.declared.journal.JournalEntry.TheVariants.{Write, Clear, Install, Dropped, Mark, Read}
use Rattle.lsm_model.proofs.Journals.{next_of-le, floor-le, in_order_push}
use Rattle.lsm_run_model.specs.Outcomes.{Told, journal_of}
use Rattle.lsm_run_model.specs.Rising.{Drawing, Silent, Own, Raises, Reserves, Draws, Standing, At, UpTo, IsWhere, most, moved, unused, MayDraw, RisesFrom, Asks, times, WeakOnce, IsUnnumbered, IsBatch, IsCommitted, UsesNumbers, UsesKeys, EachUses, StandsBelow, StaysInOrder, RisingIsInOrder}

-- ---- keys

-- keys that differ do so the other way round
each_back : (e : Entry) (es : List Entry) → AllByRecursion (λ f. is_same e.key.user_key f.key.user_key ≡ false) es → AllByRecursion (λ f. is_same f.key.user_key e.key.user_key ≡ false) es
each_back e [] h = tt
each_back e (f ∷ es) h = (same_swap f.key.user_key e.key.user_key ∙ h.0, each_back e es h.1)

pairs_back : (es : List Entry) → EachPair (λ e f. is_same e.key.user_key f.key.user_key ≡ false) es → EachPair (λ e f. is_same f.key.user_key e.key.user_key ≡ false) es
pairs_back [] h = tt
pairs_back (e ∷ es) h = (each_back e es h.0, pairs_back es h.1)

module _ (maps : MapsAreRead) (opened : List Entry) where
  -- ---- events

  -- what stands in order, below a number
  abbrev IsBelow : List Event → ℕ → Type 0
  IsBelow journal n = InOrder opened journal × (next_number opened journal ≤ n)

  number_more : (journal : List Event) (x : Event) → next_number opened (journal ++ x ∷ []) ≡ next_number_after (next_number opened journal) x
  number_more journal x = fold-append next_number_after (above opened) journal (x ∷ [])

  unnumbered_one : (journal : List Event) (x : Event) (n : ℕ) → IsUnnumbered x → IsBelow journal n → IsBelow (journal ++ x ∷ []) n
  unnumbered_one journal (Write e) n u h = absurd u
  unnumbered_one journal (Clear m) n u h = absurd u
  unnumbered_one journal (Install m) n u h = absurd u
  unnumbered_one journal (Dropped ranges m) n u h = (in_order_push opened journal (Dropped ranges m) h.0 tt, let e = number_more journal (Dropped ranges m) in let l = h.1 in omega arith)
  unnumbered_one journal (Mark w) n u h = (in_order_push opened journal (Mark w) h.0 tt, let e = number_more journal (Mark w) in let l = h.1 in omega arith)
  unnumbered_one journal (Read s question told) n u h = (in_order_push opened journal (Read s question told) h.0 tt, let e = number_more journal (Read s question told) in let l = h.1 in omega arith)

  unnumbered : (journal events : List Event) (n : ℕ) → AllByRecursion IsUnnumbered events → IsBelow journal n → IsBelow (journal ++ events) n
  unnumbered journal [] n u h = subst (λ j. IsBelow j n) (sym (append-nil journal)) h
  unnumbered journal (x ∷ events) n u h = subst (λ j. IsBelow j n) (append_assoc journal (x ∷ []) events) (unnumbered (journal ++ x ∷ []) events n u.1 (unnumbered_one journal x n u.0 h))

  -- one write, of a key that was set once at most where it is removed weakly
  abbrev IsSpent : List Event → Entry → Type 0
  IsSpent journal e = is_weak e ≡ true → sets_of e.key.user_key opened journal ≤ 1

  write_one : (journal : List Event) (e : Entry) (n : ℕ) → e.key.seqno ≡ n → IsSpent journal e → floor journal ≤ n → next_of e.key.user_key opened journal ≤ n → InOrder opened journal → InOrder opened (journal ++ Write e ∷ [])
  write_one journal e n is spent f own o = in_order_push opened journal (Write e) o (record { after_installs = omega arith; after_own = omega arith; single = spent })

  own_write : (journal : List Event) (e : Entry) (n : ℕ) → e.key.seqno ≡ n → IsSpent journal e → IsBelow journal n → IsBelow (journal ++ Write e ∷ []) (n + 1)
  own_write journal e n is spent h =
      let f = floor-le opened journal in
      let own = next_of-le e.key.user_key opened journal in
      let l = h.1 in
      let to = number_more journal (Write e) in (write_one journal e n is spent (omega arith) (omega arith) h.0, omega arith)

  -- a batch: each write's key is another one than those before
  floor_write : (journal : List Event) (e : Entry) → floor (journal ++ Write e ∷ []) ≡ floor journal
  floor_write journal e = fold-append floor_after 0 journal (Write e ∷ [])

  next_other : (k : Bytes) (journal : List Event) (e : Entry) → is_same k e.key.user_key ≡ false → next_of k opened (journal ++ Write e ∷ []) ≡ next_of k opened journal
  next_other k journal e other = fold-append (next_after k) (above (stack k opened)) journal (Write e ∷ []) ∙ ap (λ b. cond b (max (next_of k opened journal) (e.key.seqno + 1)) (next_of k opened journal)) other

  others_low : (journal : List Event) (e : Entry) (n : ℕ) (es : List Entry) → AllByRecursion (λ f. is_same f.key.user_key e.key.user_key ≡ false) es → AllByRecursion (λ f. next_of f.key.user_key opened journal ≤ n) es
      → AllByRecursion (λ f. next_of f.key.user_key opened (journal ++ Write e ∷ []) ≤ n) es
  others_low journal e n [] d l = tt
  others_low journal e n (f ∷ es) d l = (let is = next_other f.key.user_key journal e d.0 in let a = l.0 in omega arith, others_low journal e n es d.1 l.1)

  sets_other : (k : Bytes) (journal : List Event) (e : Entry) → is_same k e.key.user_key ≡ false → sets_of k opened (journal ++ Write e ∷ []) ≡ sets_of k opened journal
  sets_other k journal e other = fold-append (sets_after k) (values (stack k opened)) journal (Write e ∷ []) ∙ ap (λ b. cond (b && is_value e) (sets_of k opened journal + 1) (sets_of k opened journal)) other

  others_spent : (journal : List Event) (e : Entry) (es : List Entry) → AllByRecursion (λ f. is_same f.key.user_key e.key.user_key ≡ false) es → AllByRecursion (IsSpent journal) es → AllByRecursion (IsSpent (journal ++ Write e ∷ [])) es
  others_spent journal e [] d s = tt
  others_spent journal e (f ∷ es) d s = ((λ weak. let is = sets_other f.key.user_key journal e d.0 in let a = s.0 weak in omega arith), others_spent journal e es d.1 s.1)

  batch : (journal : List Event) (n : ℕ) (es : List Entry) → AllByRecursion (λ e. e.key.seqno ≡ n) es → EachPair (λ e f. is_same f.key.user_key e.key.user_key ≡ false) es → AllByRecursion (IsSpent journal) es → floor journal ≤ n
      → AllByRecursion (λ f. next_of f.key.user_key opened journal ≤ n) es → next_number opened journal ≤ n + 1 → InOrder opened journal → IsBelow (journal ++ map Write es) (n + 1)
  batch journal n [] p d s f l top o = subst (λ j. IsBelow j (n + 1)) (sym (append-nil journal)) (o, top)
  batch journal n (e ∷ es) p d s f l top o =
      let is = p.0 in
      let fs = floor_write journal e in
      let to = number_more journal (Write e) in
      subst (λ j. IsBelow j (n + 1)) (append_assoc journal (Write e ∷ []) (map Write es))
      (batch (journal ++ Write e ∷ []) n es p.1 d.1 (others_spent journal e es d.0 s.1) (omega arith) (others_low journal e n es d.0 l.1) (omega arith) (write_one journal e n is s.0 f l.0 o))

  each_low : (journal : List Event) (n : ℕ) (es : List Entry) → next_number opened journal ≤ n → AllByRecursion (λ f. next_of f.key.user_key opened journal ≤ n) es
  each_low journal n [] l = tt
  each_low journal n (e ∷ es) l = (let a = next_of-le e.key.user_key opened journal in omega arith, each_low journal n es l)

  -- an install or a clear
  committed : (journal : List Event) (x : Event) (n : ℕ) → (x ≡ Install n) ⊎ (x ≡ Clear n) → IsBelow journal n → IsBelow (journal ++ x ∷ []) (n + 1)
  committed journal x n is h =
      let l = h.1 in
      ⊎_elim
      (λ (e : x ≡ Install n). subst (λ y. IsBelow (journal ++ y ∷ []) (n + 1)) (sym e) (in_order_push opened journal (Install n) h.0 l, let to = number_more journal (Install n) in omega arith))
      (λ (e : x ≡ Clear n). subst (λ y. IsBelow (journal ++ y ∷ []) (n + 1)) (sym e) (in_order_push opened journal (Clear n) h.0 l, let to = number_more journal (Clear n) in omega arith))
      is

  -- ---- keys that are set

  in_times : (k x : Bytes) (keys : List Bytes) → IsIn x keys → is_same k x ≡ true → 1 ≤ times k keys
  in_times k x [] i e = absurd i
  in_times k x (y ∷ keys) i e = ⊎_elim
      (λ (is : y ≡ x). let same : is_same k y ≡ true = subst (λ z. is_same k z ≡ true) (sym is) e in subst (λ b. 1 ≤ length (cond b (y ∷ filter (is_same k) keys) (filter (is_same k) keys))) (sym same) (omega arith))
      (λ (j : IsIn x keys). let l = in_times k x keys j e in elim (is_same k y) as (λ b. 1 ≤ length (cond b (y ∷ filter (is_same k) keys) (filter (is_same k) keys))) [ true ↦ omega arith | false ↦ l ])
      i

  times_append : (k : Bytes) (xs ys : List Bytes) → times k (xs ++ ys) ≡ times k xs + times k ys
  times_append k [] ys = omega arith
  times_append k (x ∷ xs) ys =
      let l = times_append k xs ys in
      elim (is_same k x) as (λ b. length (cond b (x ∷ filter (is_same k) (xs ++ ys)) (filter (is_same k) (xs ++ ys))) ≡ length (cond b (x ∷ filter (is_same k) xs) (filter (is_same k) xs)) + times k ys) [
        | true ↦ omega arith
        | false ↦ l
      ]

  -- events that are no writes set none
  unset : (k : Bytes) (m : ℕ) (events : List Event) → AllByRecursion IsUnnumbered events → fold (sets_after k) m events ≡ m
  unset k m [] u = refl
  unset k m (Write e ∷ events) u = absurd u.0
  unset k m (Clear n ∷ events) u = absurd u.0
  unset k m (Install n ∷ events) u = absurd u.0
  unset k m (Dropped ranges n ∷ events) u = unset k m events u.1
  unset k m (Mark w ∷ events) u = unset k m events u.1
  unset k m (Read s question told ∷ events) u = unset k m events u.1

  unset_commit : (k : Bytes) (m n : ℕ) (events : List Event) → IsCommitted n events → fold (sets_after k) m events ≡ m
  unset_commit k m n events w =
      ap (λ es. fold (sets_after k) m es) w.are
      ∙ fold-append (sets_after k) m w.front (w.event ∷ w.back)
      ∙ ap (λ q. fold (sets_after k) q (w.event ∷ w.back)) (unset k m w.front w.before)
      ∙ ⊎_elim
      (λ (e : w.event ≡ Install n). ap (λ x. fold (sets_after k) (sets_after k m x) w.back) e)
      (λ (e : w.event ≡ Clear n). ap (λ x. fold (sets_after k) (sets_after k m x) w.back) e)
      w.is
      ∙ unset k m w.back w.after

  others_unset : (k : Bytes) (m : ℕ) (es : List Entry) → AllByRecursion (λ f. is_same k f.key.user_key ≡ false) es → fold (sets_after k) m (map Write es) ≡ m
  others_unset k m [] d = refl
  others_unset k m (f ∷ es) d = ap (λ b. fold (sets_after k) (cond (b && is_value f) (m + 1) m) (map Write es)) d.0 ∙ others_unset k m es d.1

  same_differs : (k : Bytes) (e : Entry) (es : List Entry) → is_same k e.key.user_key ≡ true → AllByRecursion (λ f. is_same e.key.user_key f.key.user_key ≡ false) es → AllByRecursion (λ f. is_same k f.key.user_key ≡ false) es
  same_differs k e es same d = subst (λ q. AllByRecursion (λ f. is_same q f.key.user_key ≡ false) es) (sym (maps.same_key k e.key.user_key same)) d

  -- a batch sets a key once at most
  batch_sets : (k : Bytes) (m : ℕ) (keys : List Bytes) (es : List Entry) → EachPair (λ e f. is_same e.key.user_key f.key.user_key ≡ false) es → AllByRecursion (λ e. is_value e ≡ true → IsIn e.key.user_key keys) es → fold (sets_after k) m (map Write es) ≤ m + times k keys
  batch_sets k m keys [] d among = omega arith
  batch_sets k m keys (e ∷ es) d among = by_same (λ n. batch_sets k n keys es d.1 among.1) (is_same k e.key.user_key) refl
    where
      by_value : is_same k e.key.user_key ≡ true → (v : Bool) → is_value e ≡ v → cond v (m + 1) m ≤ m + times k keys
      by_value same true v = let l = in_times k e.key.user_key keys (among.0 v) same in omega arith
      by_value same false v = omega arith

      by_same : ((n : ℕ) → fold (sets_after k) n (map Write es) ≤ n + times k keys) → (b : Bool) → is_same k e.key.user_key ≡ b → fold (sets_after k) m (map Write (e ∷ es)) ≤ m + times k keys
      by_same others true same =
          let one : sets_after k m (Write e) ≡ cond (is_value e) (m + 1) m = ap (λ b. cond (b && is_value e) (m + 1) m) same in
          let rest = others_unset k (sets_after k m (Write e)) es (same_differs k e es same d.0) in
          let l = by_value same (is_value e) refl in omega arith
      by_same others false same =
          let one : sets_after k m (Write e) ≡ m = ap (λ b. cond (b && is_value e) (m + 1) m) same in
          let l = others (sets_after k m (Write e)) in omega arith

  each_in : (P : Bytes → Type 0) (x : Bytes) (xs : List Bytes) → AllByRecursion P xs → IsIn x xs → P x
  each_in P x [] h i = absurd i
  each_in P x (y ∷ ys) h i = ⊎_elim (λ (e : y ≡ x). subst P e h.0) (λ (j : IsIn x ys). each_in P x ys h.1 j) i

  -- ---- one call

  module _ (call : Asks) (journal : List Event) (old low : ℕ) (c : Standing) (set : List Bytes) (stands : StandsBelow opened journal old low set) (is_where : IsWhere c old) (once : AllByRecursion (λ k. values (stack k opened) + times k set ≤ 1) call.weak) where
    spent : (e : Entry) → (is_weak e ≡ true → IsIn e.key.user_key call.weak) → IsSpent journal e
    spent e among weak =
        let a = each_in (λ k. values (stack k opened) + times k set ≤ 1) e.key.user_key call.weak once (among weak) in
        let b = stands.sets e.key.user_key in omega arith

    all_spent : (es : List Entry) → UsesKeys call (map Write es) → AllByRecursion (IsSpent journal) es
    all_spent [] u = tt
    all_spent (e ∷ es) u = (spent e u.0.1, all_spent es u.1)

    all_set : (es : List Entry) → UsesKeys call (map Write es) → AllByRecursion (λ e. is_value e ≡ true → IsIn e.key.user_key call.sets) es
    all_set [] u = tt
    all_set (e ∷ es) u = (u.0.0, all_set es u.1)

    at_most : (c : Standing) → IsWhere c old → old ≤ most c
    at_most (At n) is = omega arith
    at_most (UpTo n) is = is

    -- the keys that it sets are among its own
    sets_more : (events : List Event) → ((k : Bytes) → fold (sets_after k) (sets_of k opened journal) events ≤ sets_of k opened journal + times k call.sets) → (k : Bytes) → sets_of k opened (journal ++ events) ≤ values (stack k opened) + times k (call.sets ++ set)
    sets_more events more k =
        let to = fold-append (sets_after k) (values (stack k opened)) journal events in
        let a = more k in
        let b = stands.sets k in
        let t = times_append k call.sets set in omega arith

    -- what stands after it
    pub record Went (events : List Event) (new : ℕ) (d : Drawing) : Type 0 where
      pub below : StandsBelow opened (journal ++ events) new (unused d low c) (call.sets ++ set)
      pub at : IsWhere (moved d c) new

    none_set : (k : Bytes) → fold (sets_after k) (sets_of k opened journal) [] ≤ sets_of k opened journal + times k call.sets
    none_set k = omega arith

    no_event : (events : List Event) (new : ℕ) (d : Drawing) → events ≡ [] → next_number opened journal ≤ new → next_number opened journal ≤ unused d low c → IsWhere (moved d c) new → Went events new d
    no_event events new d none counted used at = subst (λ es. Went es new d) (sym none) (record {
      below = record {
        order = subst (InOrder opened) (sym (append-nil journal)) stands.order;
        counted = subst (λ j. next_number opened j ≤ new) (sym (append-nil journal)) counted;
        used = subst (λ j. next_number opened j ≤ unused d low c) (sym (append-nil journal)) used;
        sets = sets_more [] none_set;
      };
      at = at;
    })

    silent : (events : List Event) (new : ℕ) → UsesNumbers Silent events old new → Went events new Silent
    silent events new u =
        let counted = unnumbered journal events old u.0 (stands.order, stands.counted) in
        let used = unnumbered journal events low u.0 (stands.order, stands.used) in
        let same = u.1 in
        let l = counted.1 in
        record {
          below = record { order = counted.0; counted = omega arith; used = used.1; sets = sets_more events (λ k. let e = unset k (sets_of k opened journal) events u.0 in omega arith) };
          at = subst (IsWhere c) (sym same) is_where;
        }

    drawn : (events : List Event) (new : ℕ) → UsesNumbers Draws events old new → UsesKeys call events → Went events new Draws
    drawn events new u keys =
        let m = at_most c is_where in
        let h = stands.counted in
        ⊎_elim
        (λ q.
        let b = unnumbered journal events old q.0 (stands.order, h) in
        let l = b.1 in
        let up = q.1 in
        let one = q.2 in
        record {
          below = record { order = b.0; counted = omega arith; used = omega arith; sets = sets_more events (λ k. let e = unset k (sets_of k opened journal) events q.0 in omega arith) };
          at = omega arith;
        })
        (λ q.
        let is = q.0 in
        ⊎_elim
        (λ (w : IsBatch old events).
        let own = subst (UsesKeys call) w.are keys in
        let b = subst (λ es. IsBelow (journal ++ es) (old + 1)) (sym w.are)
        (batch journal old w.entries w.numbered (pairs_back w.entries w.distinct) (all_spent w.entries own) (let f = floor-le opened journal in omega arith) (each_low journal old w.entries h) (omega arith) stands.order) in
        let l = b.1 in
        record {
          below = record {
            order = b.0;
            counted = omega arith;
            used = omega arith;
            sets = sets_more events (λ k. subst (λ es. fold (sets_after k) (sets_of k opened journal) es ≤ sets_of k opened journal + times k call.sets) (sym w.are) (batch_sets k (sets_of k opened journal) call.sets w.entries w.distinct (all_set w.entries own)));
          };
          at = omega arith;
        })
        (λ (w : IsCommitted old events).
        let b = subst (λ es. IsBelow (journal ++ es) (old + 1)) (sym w.are) (at_commit w) in
        let l = b.1 in
        record {
          below = record { order = b.0; counted = omega arith; used = omega arith; sets = sets_more events (λ k. let e = unset_commit k (sets_of k opened journal) old events w in omega arith) };
          at = omega arith;
        })
        q.1)
        u
      where
        at_commit : (w : IsCommitted old events) → IsBelow (journal ++ (w.front ++ w.event ∷ w.back)) (old + 1)
        at_commit w =
            let a = unnumbered journal w.front old w.before (stands.order, stands.counted) in
            let b = committed (journal ++ w.front) w.event old w.is a in
            let d = unnumbered ((journal ++ w.front) ++ w.event ∷ []) w.back (old + 1) w.after b in
            subst (λ j. IsBelow j (old + 1)) (append_assoc (journal ++ w.front) (w.event ∷ []) w.back ∙ append_assoc journal w.front (w.event ∷ w.back)) d

    owned : (n counter : ℕ) (events : List Event) (new : ℕ) → c ≡ At counter → low ≤ n → n < counter → UsesNumbers (Own n) events old new → UsesKeys call events → Went events new (Own n)
    owned n counter events new at l h u keys =
        let same = u.1 in
        let here : old ≡ counter = subst (λ d. IsWhere d old) at is_where in
        let below = stands.used in
        let to : IsWhere c new = subst (IsWhere c) (sym same) is_where in
        ⊎_elim
        (λ (none : events ≡ []). no_event events new (Own n) none (omega arith) (omega arith) to)
        (λ (w : (e : Entry) × (events ≡ Write e ∷ []) × (e.key.seqno ≡ n)).
        let own = subst (UsesKeys call) w.1 keys in
        let b = own_write journal w.0 n w.2 (spent w.0 own.0.1) (stands.order, omega arith) in
        let top = b.1 in
        subst (λ es. Went es new (Own n)) (sym w.1) (record {
          below = record { order = b.0; counted = omega arith; used = top; sets = sets_more (Write w.0 ∷ []) (λ k. batch_sets k (sets_of k opened journal) call.sets (w.0 ∷ []) (tt, tt) (own.0.0, tt)) };
          at = to;
        }))
        u.0

  -- ---- calls

  one_call : (call : Asks) (journal : List Event) (old low : ℕ) (c : Standing) (set : List Bytes) (stands : StandsBelow opened journal old low set) (is_where : IsWhere c old) (once : AllByRecursion (λ k. values (stack k opened) + times k set ≤ 1) call.weak)
      (events : List Event) (new : ℕ) (d : Drawing) → MayDraw d low c → UsesNumbers d events old new → UsesKeys call events → Went call journal old low c set stands is_where once events new d
  one_call call journal old low c set s w once events new Silent may u keys = silent call journal old low c set s w once events new u
  one_call call journal old low (At counter) set s w once events new (Own n) may u keys = owned call journal old low (At counter) set s w once n counter events new refl may.0 may.1 u keys
  one_call call journal old low (UpTo counter) set s w once events new (Own n) may u keys = absurd may
  one_call call journal old low c set s w once events new (Raises n) may u keys =
      let m = at_most call journal old low c set s w once c w in
      let is = u.1 (omega arith) in
      let counted = s.counted in
      no_event call journal old low c set s w once events new (Raises n) u.0 (omega arith) s.used is
  one_call call journal old low (At counter) set s w once events new Reserves may u keys =
      let is = u.1 (omega arith) in
      let counted = s.counted in
      no_event call journal old low (At counter) set s w once events new Reserves u.0 (omega arith) s.used (omega arith)
  one_call call journal old low (UpTo counter) set s w once events new Reserves may u keys =
      let is = u.1 (omega arith) in
      let counted = s.counted in
      no_event call journal old low (UpTo counter) set s w once events new Reserves u.0 (omega arith) s.used (omega arith)
  one_call call journal old low c set s w once events new Draws may u keys = drawn call journal old low c set s w once events new u keys

  pub rising : {R : Type 0} (journal : List Event) (calls : List Asks) (told : List (Told R)) (counter low : ℕ) (c : Standing) (set : List Bytes) (counters : List ℕ)
      → StandsBelow opened journal counter low set → IsWhere c counter → RisesFrom low c (map (λ call. call.drawing) calls) → WeakOnce opened set calls → EachUses calls told counter counters → StaysInOrder opened (journal ++ journal_of told) c calls
  rising journal [] [] counter low c set [] s w r once u = subst (λ j. StaysInOrder opened j c []) (sym (append-nil journal)) (record { order = s.order; below = let a = s.counted in let b = up_to c counter w in omega arith })
    where
      up_to : (c : Standing) (counter : ℕ) → IsWhere c counter → counter ≤ most c
      up_to (At n) counter is = omega arith
      up_to (UpTo n) counter is = is
  rising journal [] [] counter low c set (new ∷ counters) s w r once u = absurd u
  rising journal [] (t ∷ told) counter low c set counters s w r once u = absurd u
  rising journal (call ∷ calls) [] counter low c set counters s w r once u = absurd u
  rising journal (call ∷ calls) (t ∷ told) counter low c set [] s w r once u = absurd u
  rising journal (call ∷ calls) (t ∷ told) counter low c set (new ∷ counters) s w r once u =
      let went = one_call call journal counter low c set s w once.0 t.entries new call.drawing r.0 u.0 u.1 in
      let rest = rising (journal ++ t.entries) calls told new (unused call.drawing low c) (moved call.drawing c) (call.sets ++ set) counters went.below went.at r.1 once.1 u.2 in
      subst (λ j. StaysInOrder opened j c (call ∷ calls)) (append_assoc journal t.entries (journal_of told)) (record { order = rest.order; below = rest.below })

pub rising_is_in_order : MapsAreRead → (R : Type 0) → RisingIsInOrder R
rising_is_in_order maps R opened journal calls told counter low c set counters s w r once u = rising maps opened journal calls told counter low c set counters s w r once u

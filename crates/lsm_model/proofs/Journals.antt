-- The replay at one key, and what one more event does.
use Rattle.std.proofs.Math.Bool.{and-true, and-false}
use Rattle.std.specs.Cmp.{Equal-is}
use Rattle.std.proofs.Common.{◌≡◌, ℕ, ◌+◌, ◌≤◌, max, true, false, cond, ◌&&◌, List, [], ◌∷◌, ◌++◌, None, fold, refl, sym, ap, ◌∙◌, subst, arith, append-nil, append_assoc, ltb, ltb-false, is_eq}
use Rattle.std.specs.Cmp.Lexicographic.{nat_list_cmp_total}
use Rattle.std.specs.FinMap.{get, empty, get-insert, get-remove, get-empty, slice_cmp-IsAntisymmetric, nat_cmp-IsAntisymmetric}
use Rattle.std.proofs.lemmas.Cmp.{tied_itself}
use Rattle.std.proofs.lemmas.Grind.{fold-append}
use Rattle.lsm_below.specs.Keys.{Bytes, is_same, bytes_cmp}
use Rattle.lsm_below.specs.Entries.{Entry, value_by, value_of, above, stack}
use Rattle.lsm_below.specs.declared.value_type.ValueType.{ValueType}
use Rattle.lsm_below.specs.declared.value_type.ValueType.TheVariants.{Value, Tombstone, WeakTombstone}
use Rattle.lsm_model.specs.Journal.{changed_by, Event, Map, changed, map_after, replay, value_after, replay_at, next_after, next_of, next_number_after, next_number, floor_after, floor, kept_after, is_kept, MayCome, InOrderFrom, InOrder}
use Rattle.lsm_model.specs.declared.journal.JournalEntry.TheVariants.{Write, Clear, Install, Dropped, Mark, Read}

pub same_key : (k q : Bytes) → is_same k q ≡ true → k ≡ q
same_key k q h = slice_cmp-IsAntisymmetric nat_cmp-IsAntisymmetric k q ((Equal-is (bytes_cmp k q)).0 h)

pub same_itself : (k : Bytes) → is_same k k ≡ true
same_itself k = ap is_eq (tied_itself nat_list_cmp_total k)

get-changed_by : (m : Map) (q : Bytes) (c : ValueType) (v k : Bytes) → get (changed_by m q c v) k ≡ cond (is_same k q) (value_by c v) (get m k)
get-changed_by m q Value v k = get-insert nat_list_cmp_total m q v k
get-changed_by m q Tombstone v k = get-remove nat_list_cmp_total m q k
get-changed_by m q WeakTombstone v k = get-remove nat_list_cmp_total m q k

pub get-changed : (m : Map) (e : Entry) (k : Bytes) → get (changed m e) k ≡ cond (is_same k e.key.user_key) (value_of e) (get m k)
get-changed m e k = get-changed_by m e.key.user_key e.key.value_type e.value k

-- one event, on the map and at a key
get-map_after : (s : ℕ) (m : Map) (x : Event) (k : Bytes) → get (map_after s m x) k ≡ value_after k s (get m k) x
get-map_after s m (Write e) k =
    elim (ltb e.key.seqno s) as (λ b. get (cond b (changed m e) m) k ≡ cond (is_same k e.key.user_key && b) (value_of e) (get m k)) [
      | true ↦ rw (and-true (is_same k e.key.user_key)) (get-changed m e k)
      | false ↦ rw (and-false (is_same k e.key.user_key)) refl
    ]
get-map_after s m (Clear n) k =
    elim (ltb n s) as (λ b. get (cond b empty m) k ≡ cond b None (get m k)) [ true ↦ get-empty bytes_cmp k | false ↦ refl ]
get-map_after s m (Install n) k = refl
get-map_after s m (Dropped ranges n) k = refl
get-map_after s m (Mark w) k = refl
get-map_after s m (Read at question answer) k = refl

-- the replay as a map, read at a key, is the replay at the key
pub get-replay : (s : ℕ) (m : Map) (journal : List Event) (k : Bytes) → get (replay m journal s) k ≡ replay_at k s (get m k) journal
get-replay s m [] k = refl
get-replay s m (x ∷ journal) k = get-replay s (map_after s m x) journal k ∙ ap (λ v. replay_at k s v journal) (get-map_after s m x k)

pub above_stack : (k : Bytes) (es : List Entry) → above (stack k es) ≤ above es
above_stack k [] = omega arith
above_stack k (e ∷ es) =
    let ih = above_stack k es in
    elim (is_same k e.key.user_key) as (λ b. above (cond b (e ∷ stack k es) (stack k es)) ≤ max (e.key.seqno + 1) (above es)) [ true ↦ omega arith | false ↦ omega arith ]

next_step : (k : Bytes) (n m : ℕ) (x : Event) → n ≤ m → next_after k n x ≤ next_number_after m x
next_step k n m (Write e) h = elim (is_same k e.key.user_key) as (λ b. cond b (max n (e.key.seqno + 1)) n ≤ max m (e.key.seqno + 1)) [ true ↦ omega arith | false ↦ omega arith ]
next_step k n m (Clear c) h = omega arith
next_step k n m (Install c) h = omega arith
next_step k n m (Dropped ranges c) h = h
next_step k n m (Mark w) h = h
next_step k n m (Read at question answer) h = h

next_steps : (k : Bytes) (n m : ℕ) (journal : List Event) → n ≤ m → fold (next_after k) n journal ≤ fold next_number_after m journal
next_steps k n m [] h = h
next_steps k n m (x ∷ journal) h = next_steps k (next_after k n x) (next_number_after m x) journal (next_step k n m x h)

-- no key's sequence numbers pass those of all
pub next_of-le : (k : Bytes) (opened : List Entry) (journal : List Event) → next_of k opened journal ≤ next_number opened journal
next_of-le k opened journal = next_steps k _ _ journal (above_stack k opened)

floor_steps : (n m : ℕ) (journal : List Event) → n ≤ m → fold floor_after n journal ≤ fold next_number_after m journal
floor_steps n m [] h = h
floor_steps n m (x ∷ journal) h = floor_steps (floor_after n x) (next_number_after m x) journal (floor_step n m x h)
  where
    floor_step : (n m : ℕ) (x : Event) → n ≤ m → floor_after n x ≤ next_number_after m x
    floor_step n m (Write e) h = omega arith
    floor_step n m (Clear c) h = omega arith
    floor_step n m (Install c) h = omega arith
    floor_step n m (Dropped ranges c) h = h
    floor_step n m (Mark w) h = h
    floor_step n m (Read at question answer) h = h

pub floor-le : (opened : List Entry) (journal : List Event) → floor journal ≤ next_number opened journal
floor-le opened journal = floor_steps 0 (above opened) journal (omega arith)

-- numbers that calls take grow
pub numbers_grow : (n : ℕ) (journal : List Event) → n ≤ fold next_number_after n journal
numbers_grow n [] = omega arith
numbers_grow n (x ∷ journal) = let a = one x in let b = numbers_grow (next_number_after n x) journal in omega arith
  where
    one : (x : Event) → n ≤ next_number_after n x
    one (Write e) = omega arith
    one other = omega arith

in_order_last_from : (opened : List Entry) (before journal : List Event) (x : Event) → InOrderFrom opened before (journal ++ x ∷ []) → MayCome opened (before ++ journal) x
in_order_last_from opened before [] x h = subst (λ js. MayCome opened js x) (sym (append-nil before)) h.0
in_order_last_from opened before (y ∷ journal) x h = subst (λ js. MayCome opened js x) (append_assoc before (y ∷ []) journal) (in_order_last_from opened (before ++ y ∷ []) journal x h.1)

in_order_front_from : (opened : List Entry) (before journal more : List Event) → InOrderFrom opened before (journal ++ more) → InOrderFrom opened before journal
in_order_front_from opened before [] more h = tt
in_order_front_from opened before (y ∷ journal) more h = (h.0, in_order_front_from opened (before ++ y ∷ []) journal more h.1)

-- in an ordered journal the last event may come, and what is before others is in order
pub in_order_last : (opened : List Entry) (journal : List Event) (x : Event) → InOrder opened (journal ++ x ∷ []) → MayCome opened journal x
in_order_last opened journal x h = in_order_last_from opened [] journal x h

pub in_order_front : (opened : List Entry) (journal more : List Event) → InOrder opened (journal ++ more) → InOrder opened journal
in_order_front opened journal more h = in_order_front_from opened [] journal more h

-- what may come last keeps a journal in order
pub in_order_push : (opened : List Entry) (journal : List Event) (x : Event) → InOrder opened journal → MayCome opened journal x → InOrder opened (journal ++ x ∷ [])
in_order_push opened journal x o m = from [] journal o m
  where
    from : (before journal : List Event) → InOrderFrom opened before journal → MayCome opened (before ++ journal) x → InOrderFrom opened before (journal ++ x ∷ [])
    from before [] o m = (subst (λ j. MayCome opened j x) (append-nil before) m, tt)
    from before (y ∷ journal) o m = (o.0, from (before ++ y ∷ []) journal o.1 (subst (λ j. MayCome opened j x) (sym (append_assoc before (y ∷ []) journal)) m))

pub not_kept : (s : ℕ) (more : List Event) → fold (kept_after s) false more ≡ false
not_kept s [] = refl
not_kept s (Write e ∷ more) = not_kept s more
not_kept s (Clear n ∷ more) = not_kept s more
not_kept s (Install n ∷ more) = not_kept s more
not_kept s (Dropped ranges n ∷ more) = not_kept s more
not_kept s (Read at question told ∷ more) = not_kept s more
not_kept s (Mark w ∷ more) = elim (ltb s w) as (λ b. fold (kept_after s) (cond b false false) more ≡ false) [ true ↦ not_kept s more | false ↦ not_kept s more ]

-- no kept snapshot is below a watermark of the journal
pub marked : (s w : ℕ) (journal more : List Event) → is_kept s (journal ++ (Mark w ∷ more)) ≡ true → w ≤ s
marked s w journal more h =
    let k : fold (kept_after s) (cond (ltb s w) false (is_kept s journal)) more ≡ true = rw (fold-append (kept_after s) true journal (Mark w ∷ more)) at h in
    elim (ltb s w) as (λ b. ltb s w ≡ b → fold (kept_after s) (cond b false (is_kept s journal)) more ≡ true → w ≤ s) [
      | true ↦ λ q z. let bad : false ≡ true = sym (not_kept s more) ∙ z in absurd (cc bad)
      | false ↦ λ q z. ltb-false s w q
    ] refl k

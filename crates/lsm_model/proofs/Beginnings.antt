-- What stands in and after each sealed memtable shows a beginning of the calls. At one key.
use Rattle.std.proofs.Common.{◌≡◌, ℕ, ◌<◌, ◌≤◌, Bool, true, false, cond, List, [], ◌∷◌, ◌++◌, Option, None, fold, take, drop, length, refl, sym, ap, ap₂, ◌∙◌, subst, arith, flat_map, append_assoc}
use Rattle.std.specs.List.{AllByRecursion}
use Rattle.std.proofs.lemmas.List.{take-append-le, drop-append-le}
use Rattle.std.proofs.lemmas.Grind.{flat_map-append, fold-append}
use Rattle.lsm_below.specs.Keys.{Bytes, is_same}
use Rattle.lsm_below.specs.Entries.{Entry, value_of, stack, above, values, keep, IsSingle}
use Rattle.lsm_model.specs.Journal.{Event, in_any}
use Rattle.lsm_model.specs.Views.{Memtables, Placed, seen}
use Rattle.lsm_model.specs.Beginnings.{spared_after, spoiled_after, is_spared, Note, FlushedIds, sealed_at, greatest, covered}
use Rattle.lsm_model.specs.declared.journal.JournalEntry.TheVariants.{Write, Clear, Install, Dropped, Mark, Read}
use Rattle.lsm_model.proofs.Lists.{each_sub, sub_append, sub_itself}
use Rattle.lsm_model.proofs.Stacks.{stack-append, seen_first, keep_same_behind, keep_sub, single_right}
use Rattle.lsm_model.proofs.Merges.{of_tables}
use Rattle.lsm_model.proofs.Runs.{each_above}

-- a key's value after an event; every call counts, whatever its sequence number
abbrev pub begun_after : Bytes → Option Bytes → Event → Option Bytes
begun_after k v (Write e) = cond (is_same k e.key.user_key) (value_of e) v
begun_after k v (Clear n) = None
begun_after k v (Install n) = v
begun_after k v (Dropped ranges n) = v
begun_after k v (Mark w) = v
begun_after k v (Read at question told) = v

abbrev pub begun : Bytes → Option Bytes → List Event → Option Bytes
begun k start front = fold (begun_after k) start front

-- what the newest entry of a key shows
abbrev pub newest : List Entry → Option Bytes
newest [] = None
newest (e ∷ es) = value_of e

pub newest_seen : (s : ℕ) (es : List Entry) → AllByRecursion (λ e. e.key.seqno < s) es → newest es ≡ seen s es
newest_seen s [] h = refl
newest_seen s (e ∷ es) h = sym (seen_first s e es h.0)

abbrev pub is_spared_at : Bytes → List Event → ℕ → Bool
is_spared_at k journal place = is_spared k (take place journal) (drop place journal)

-- these entries of a key show the beginning up to the place
abbrev pub Begins : Bytes → Option Bytes → List Event → ℕ → List Entry → Type 0
Begins k start journal place es = is_spared_at k journal place ≡ true → newest es ≡ begun k start (take place journal)

-- ---- the journal grows

spared_before : (k : Bytes) (b : Bool) (x : Event) → spoiled_after k b x ≡ true → b ≡ true
spared_before k b (Write e) h = h
spared_before k b (Clear n) h = h
spared_before k b (Install n) h = h
spared_before k b (Dropped ranges n) h = elim (in_any k ranges) as (λ c. cond c false b ≡ true → b ≡ true) [ true ↦ λ q. absurd (cc q) | false ↦ λ q. q ] h
spared_before k b (Mark w) h = h
spared_before k b (Read at question told) h = h

-- what is spared by more events was spared before
pub spared_all : (k : Bytes) (b : Bool) (more : List Event) → fold (spoiled_after k) b more ≡ true → b ≡ true
spared_all k b [] h = h
spared_all k b (x ∷ more) h = spared_before k b x (spared_all k (spoiled_after k b x) more h)

pub spared_more : (k : Bytes) (front back more : List Event) → is_spared k front (back ++ more) ≡ fold (spoiled_after k) (is_spared k front back) more
spared_more k front back more = fold-append (spoiled_after k) (fold (spared_after k) true front) back more

pub spared_at_more : (k : Bytes) (journal more : List Event) (place : ℕ) → place ≤ length journal → is_spared_at k (journal ++ more) place ≡ fold (spoiled_after k) (is_spared_at k journal place) more
spared_at_more k journal more place h =
    ap₂ (λ (front back : List Event). is_spared k front back) (take-append-le place journal more h) (drop-append-le place journal more h) ∙ spared_more k (take place journal) (drop place journal) more

pub begins_more : (k : Bytes) (start : Option Bytes) (journal more : List Event) (place : ℕ) (es : List Entry) → place ≤ length journal → Begins k start journal place es → Begins k start (journal ++ more) place es
begins_more k start journal more place es h b safe =
    b (spared_all k (is_spared_at k journal place) more (sym (spared_at_more k journal more place h) ∙ safe)) ∙ ap (begun k start) (sym (take-append-le place journal more h))

-- ---- what a compaction keeps

keep_newest : (w : ℕ) (evict : Bool) (before part rest : List Entry) → IsSingle (before ++ (part ++ rest)) → AllByRecursion (λ e. e.key.seqno < above (before ++ (part ++ rest))) (before ++ (keep w evict part ++ rest)) → (evict ≡ true → values rest ≡ 0) → newest (before ++ (keep w evict part ++ rest)) ≡ newest (before ++ (part ++ rest))
keep_newest w evict before part rest single below q =
    let all = before ++ (part ++ rest) in
    newest_seen (above all) _ below ∙ keep_same_behind (above all) w evict before part rest single (each_above all) q ∙ sym (newest_seen (above all) all (each_above all))

-- the newest entry shows the same where a part is replaced by what a compaction keeps of it
pub keep_newest_sub : (w : ℕ) (evict : Bool) (before part rest : List Entry) → IsSingle (before ++ (part ++ rest)) → (evict ≡ true → values rest ≡ 0) → newest (before ++ (keep w evict part ++ rest)) ≡ newest (before ++ (part ++ rest))
keep_newest_sub w evict before part rest single q =
    let all = before ++ (part ++ rest) in
    keep_newest w evict before part rest single (each_sub (λ e. e.key.seqno < above all) (sub_append (sub_itself before) (sub_append (keep_sub w evict part) (sub_itself rest))) (each_above all)) q

-- ---- memtables, each with its place

-- the tables show the beginning that is covered, and with each sealed memtable the one up to its place
abbrev pub Tails : Bytes → Option Bytes → List Event → List Note → Memtables → List Placed → List ℕ → Type 0
Tails k start journal notes mems tables [] = Begins k start journal (covered notes) (of_tables k tables)
Tails k start journal notes mems tables (m ∷ sealed) = Begins k start journal (sealed_at notes m) (stack k (flat_map mems (m ∷ sealed)) ++ of_tables k tables) × Tails k start journal notes mems tables sealed

-- places fall from the newest memtable on, down to what is covered
abbrev pub Fall : List Note → ℕ → List ℕ → Type 0
Fall notes upto [] = covered notes ≤ upto
Fall notes upto (m ∷ sealed) = (sealed_at notes m ≤ upto) × Fall notes (sealed_at notes m) sealed

pub fall_covered : (notes : List Note) (upto : ℕ) (sealed : List ℕ) → Fall notes upto sealed → covered notes ≤ upto
fall_covered notes upto [] h = h
fall_covered notes upto (m ∷ sealed) h = let r = fall_covered notes (sealed_at notes m) sealed h.1 in let q = h.0 in omega arith

pub fall_greatest : (notes : List Note) (upto : ℕ) (ids : List ℕ) → Fall notes upto ids → greatest notes ids ≤ upto
fall_greatest notes upto [] h = omega arith
fall_greatest notes upto (m ∷ ids) h = let r = fall_greatest notes (sealed_at notes m) ids h.1 in let q = h.0 in omega arith

-- the same places, with other notes
pub fall_kept : (notes other : List Note) (upto more : ℕ) (sealed : List ℕ) → upto ≤ more → covered other ≡ covered notes → AllByRecursion (λ m. sealed_at other m ≡ sealed_at notes m) sealed → Fall notes upto sealed → Fall other more sealed
fall_kept notes other upto more [] l c same h = omega arith
fall_kept notes other upto more (m ∷ sealed) l c same h =
    let e = same.0 in let q = h.0 in
    (omega arith, fall_kept notes other (sealed_at notes m) (sealed_at other m) sealed (omega arith) c same.1 h.1)

single_tail : (k : Bytes) (mems : Memtables) (m : ℕ) (ids : List ℕ) (rest : List Entry) → IsSingle (stack k (flat_map mems (m ∷ ids)) ++ rest) → IsSingle (stack k (flat_map mems ids) ++ rest)
single_tail k mems m ids rest h = single_right (stack k (mems m)) (stack k (flat_map mems ids) ++ rest) (rw (← append_assoc (stack k (mems m)) (stack k (flat_map mems ids)) rest, ← stack-append k (mems m) (flat_map mems ids)) h)

pub stack_same : (k : Bytes) (mems other : Memtables) (ids : List ℕ) → AllByRecursion (λ m. stack k (other m) ≡ stack k (mems m)) ids → stack k (flat_map other ids) ≡ stack k (flat_map mems ids)
stack_same k mems other [] h = refl
stack_same k mems other (m ∷ ids) h = stack-append k (other m) (flat_map other ids) ∙ ap₂ (λ (xs ys : List Entry). xs ++ ys) h.0 (stack_same k mems other ids h.1) ∙ sym (stack-append k (mems m) (flat_map mems ids))

-- what is after any entries shows the same in the new tables, for keys that are spared at the place
abbrev pub ShowsBehind : Bytes → List Event → ℕ → List Placed → List Placed → Type 0
ShowsBehind k journal upto old new = (place : ℕ) (before : List Entry) → place ≤ upto → is_spared_at k journal place ≡ true → IsSingle (before ++ of_tables k old) → newest (before ++ of_tables k new) ≡ newest (before ++ of_tables k old)

-- A step that leaves the sealed memtables and their places, and tables that show the same.
pub tails_kept : (k : Bytes) (start : Option Bytes) (journal more : List Event) (notes other : List Note) (mems mems' : Memtables) (old new : List Placed) (upto : ℕ) (sealed : List ℕ)
    → upto ≤ length journal → covered other ≡ covered notes
    → AllByRecursion (λ m. sealed_at other m ≡ sealed_at notes m) sealed
    → AllByRecursion (λ m. stack k (mems' m) ≡ stack k (mems m)) sealed
    → ShowsBehind k (journal ++ more) (length journal) old new
    → IsSingle (stack k (flat_map mems sealed) ++ of_tables k old)
    → Fall notes upto sealed
    → Tails k start journal notes mems old sealed → Tails k start (journal ++ more) other mems' new sealed
tails_kept k start journal more notes other mems mems' old new upto [] l c places stacks same single fall h =
    let b : covered notes ≤ length journal = omega arith in
    subst (λ p. Begins k start (journal ++ more) p (of_tables k new)) (sym c)
    (λ safe. same (covered notes) [] b safe single ∙ begins_more k start journal more (covered notes) (of_tables k old) b h safe)
tails_kept k start journal more notes other mems mems' old new upto (m ∷ sealed) l c places stacks same single fall h =
    let f = fall.0 in
    let b : sealed_at notes m ≤ length journal = omega arith in
    let before = stack k (flat_map mems (m ∷ sealed)) in (
      subst (λ p. Begins k start (journal ++ more) p (stack k (flat_map mems' (m ∷ sealed)) ++ of_tables k new)) (sym places.0)
          (λ safe. ap (λ es. newest (es ++ of_tables k new)) (stack_same k mems mems' (m ∷ sealed) stacks)
          ∙ same (sealed_at notes m) before b safe single ∙ begins_more k start journal more (sealed_at notes m) (before ++ of_tables k old) b h.0 safe),
      tails_kept k start journal more notes other mems mems' old new (sealed_at notes m) sealed b c places.1 stacks.1 same (single_tail k mems m sealed (of_tables k old) single) fall.1 h.1,
    )

-- A flush: the covered place moves to that of its newest memtable.
pub flush_tails : (k : Bytes) (start : Option Bytes) (journal more : List Event) (notes : List Note) (mems : Memtables) (old new : List Placed) (w upto : ℕ) (newer job : List ℕ)
    → upto ≤ length journal
    → of_tables k new ≡ keep w false (stack k (flat_map mems job)) ++ of_tables k old
    → IsSingle (stack k (flat_map mems (newer ++ job)) ++ of_tables k old)
    → Fall notes upto (newer ++ job)
    → Tails k start journal notes mems old (newer ++ job) → Tails k start (journal ++ more) (FlushedIds job ∷ notes) mems new newer
flush_tails k start journal more notes mems old new w upto [] [] l made single fall h =
    let b : covered notes ≤ length journal = omega arith in
    subst (λ p. Begins k start (journal ++ more) p (of_tables k new)) (omega arith)
    (λ safe. ap newest made ∙ begins_more k start journal more (covered notes) (of_tables k old) b h safe)
flush_tails k start journal more notes mems old new w upto [] (j ∷ job) l made single fall h =
    let f = fall.0 in
    let b : sealed_at notes j ≤ length journal = omega arith in
    let c = fall_covered notes (sealed_at notes j) job fall.1 in
    let g = fall_greatest notes (sealed_at notes j) job fall.1 in
    subst (λ p. Begins k start (journal ++ more) p (of_tables k new)) (omega arith)
    (λ safe. ap newest made ∙ keep_newest_sub w false [] (stack k (flat_map mems (j ∷ job))) (of_tables k old) single (λ z. absurd (cc z))
    ∙ begins_more k start journal more (sealed_at notes j) (stack k (flat_map mems (j ∷ job)) ++ of_tables k old) b h.0 safe)
flush_tails k start journal more notes mems old new w upto (m ∷ newer) job l made single fall h =
    let f = fall.0 in
    let b : sealed_at notes m ≤ length journal = omega arith in
    let x = stack k (flat_map mems (m ∷ newer)) in
    let c = stack k (flat_map mems job) in
    let t = of_tables k old in
    let parts : stack k (flat_map mems ((m ∷ newer) ++ job)) ++ t ≡ x ++ (c ++ t) =
    ap (λ es. es ++ t) (ap (stack k) (flat_map-append mems (m ∷ newer) job) ∙ stack-append k (flat_map mems (m ∷ newer)) (flat_map mems job)) ∙ append_assoc x c t in (
      λ safe. ap (λ es. newest (x ++ es)) made ∙ keep_newest_sub w false x c t (subst IsSingle parts single) (λ z. absurd (cc z)) ∙ ap newest (sym parts)
          ∙ begins_more k start journal more (sealed_at notes m) (stack k (flat_map mems ((m ∷ newer) ++ job)) ++ t) b h.0 safe,
      flush_tails k start journal more notes mems old new w (sealed_at notes m) newer job b made (single_tail k mems m (newer ++ job) t single) fall.1 h.1,
    )

-- the places that are left fall down to what the flush covers
pub flush_fall : (notes : List Note) (upto : ℕ) (newer job : List ℕ) → Fall notes upto (newer ++ job) → Fall (FlushedIds job ∷ notes) upto newer
flush_fall notes upto [] job h = let c = fall_covered notes upto job h in let g = fall_greatest notes upto job h in omega arith
flush_fall notes upto (m ∷ newer) job h = (h.0, flush_fall notes (sealed_at notes m) newer job h.1)

-- what the tables alone show
pub tails_tables : (k : Bytes) (start : Option Bytes) (journal : List Event) (notes : List Note) (mems : Memtables) (tables : List Placed) (sealed : List ℕ) → Tails k start journal notes mems tables sealed → Begins k start journal (covered notes) (of_tables k tables)
tails_tables k start journal notes mems tables [] h = h
tails_tables k start journal notes mems tables (m ∷ sealed) h = tails_tables k start journal notes mems tables sealed h.1

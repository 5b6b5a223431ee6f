-- Calls whose sequence numbers rise, and that their journal is in order then.
use Rattle.std.specs.Prelude.{◌≡◌, ◌⊎◌, ◌↔◌, ℕ, ◌+◌, ◌<◌, ◌≤◌, ◌^◌, true, false, List, [], ◌∷◌, ◌++◌, map, filter, length}
use Rattle.std.specs.List.{AllByRecursion}
use Rattle.lsm_below.specs.Keys.{Bytes, is_same}
use Rattle.lsm_below.specs.Entries.{Entry, is_value, is_weak, stack, values}
use Rattle.lsm_below.specs.Members.{IsIn}
use Rattle.lsm_model.specs.Journal.{Event, InOrder, next_number, sets_of}
use Rattle.lsm_model.specs.Counted.{OfWrite}
use Rattle.lsm_model.specs.Views.{EachPair}
use Rattle.lsm_model.specs.declared.journal.JournalEntry.TheVariants.{Write, Clear, Install, Dropped, Mark, Read}
use Rattle.lsm_run_model.specs.Outcomes.{Told, without_low_reads, journal_of}

-- ---- numbers

-- what a call does with sequence numbers
pub data Drawing : Type 0 where
  -- none is used
  Silent : Drawing
  -- a write under this one
  Own : ℕ → Drawing
  -- the counter is put at this one, or stays above it
  Raises : ℕ → Drawing
  -- the counter's next one is drawn, for a write to come
  Reserves : Drawing
  -- the counter's next one may be drawn and used
  Draws : Drawing

-- where the counter stands
pub data Standing : Type 0 where
  -- here
  At : ℕ → Standing
  -- here or below
  UpTo : ℕ → Standing

-- it stands there
abbrev pub IsWhere : Standing → ℕ → Type 0
IsWhere (At n) counter = counter ≡ n
IsWhere (UpTo n) counter = counter ≤ n

-- the greatest number at which it may stand
abbrev pub most : Standing → ℕ
most (At n) = n
most (UpTo n) = n

-- where it stands after a call
abbrev pub moved : Drawing → Standing → Standing
moved Silent c = c
moved (Own n) c = c
moved (Raises n) c = At n
moved Reserves (At n) = At (n + 1)
moved Reserves (UpTo n) = UpTo (n + 1)
moved Draws c = UpTo (most c + 1)

-- all numbers that were used are below this one, after a call
abbrev pub unused : Drawing → ℕ → Standing → ℕ
unused Silent low c = low
unused (Own n) low c = n + 1
unused (Raises n) low c = low
unused Reserves low c = low
unused Draws low c = most c + 1

-- a write's number is below the counter, and none that was used so far is as great; the counter isn't put back; and it has a next number
abbrev pub MayDraw : Drawing → ℕ → Standing → Type 0
MayDraw Silent low c = Unit {0}
MayDraw (Own n) low (At counter) = (low ≤ n) × (n < counter)
MayDraw (Own n) low (UpTo counter) = ⊥
MayDraw (Raises n) low c = most c ≤ n
MayDraw Reserves low c = most c < 2 ^ 63
MayDraw Draws low c = Unit {0}

-- the numbers of the calls rise: those that were used before are below this one, and the counter stands so
abbrev pub RisesFrom : ℕ → Standing → List Drawing → Type 0
RisesFrom low c [] = Unit {0}
RisesFrom low c (call ∷ calls) = MayDraw call low c × RisesFrom (unused call low c) (moved call c) calls

-- the counter stands there at most in the end
abbrev pub highest : Standing → List Drawing → ℕ
highest c [] = most c
highest c (call ∷ calls) = highest (moved call c) calls

-- ---- keys

-- what a call asks of the order: what it does with sequence numbers, which keys it may set, and which it may remove weakly
pub record Asks : Type 0 where
  pub drawing : Drawing
  pub sets : List Bytes
  pub weak : List Bytes

-- how often a key is among these
abbrev pub times : Bytes → List Bytes → ℕ
times k keys = length (filter (is_same k) keys)

-- a key that is removed weakly was set once at most: by the calls before, of which these are the keys, or in what was opened
abbrev pub WeakOnce : List Entry → List Bytes → List Asks → Type 0
WeakOnce opened before [] = Unit {0}
WeakOnce opened before (call ∷ calls) = AllByRecursion (λ k. values (stack k opened) + times k before ≤ 1) call.weak × WeakOnce opened (call.sets ++ before) calls

-- ---- what they do

-- an event without a sequence number that counts for the order
abbrev pub IsUnnumbered : Event → Type 0
IsUnnumbered (Write e) = ⊥
IsUnnumbered (Clear n) = ⊥
IsUnnumbered (Install n) = ⊥
IsUnnumbered (Dropped ranges n) = Unit {0}
IsUnnumbered (Mark w) = Unit {0}
IsUnnumbered (Read s question told) = Unit {0}

-- a batch under this number, no two of whose writes are of one key
pub record IsBatch (n : ℕ) (events : List Event) : Type 0 where
  pub entries : List Entry
  pub are : events ≡ map Write entries
  pub numbered : AllByRecursion (λ e. e.key.seqno ≡ n) entries
  pub distinct : EachPair (λ e f. is_same e.key.user_key f.key.user_key ≡ false) entries

-- an install or a clear under this number, among events without one
pub record IsCommitted (n : ℕ) (events : List Event) : Type 0 where
  pub front : List Event
  pub event : Event
  pub back : List Event
  pub are : events ≡ front ++ event ∷ back
  pub before : AllByRecursion IsUnnumbered front
  pub is : (event ≡ Install n) ⊎ (event ≡ Clear n)
  pub after : AllByRecursion IsUnnumbered back

-- what a call adds to the journal, and the counter before and after it
abbrev pub UsesNumbers : Drawing → List Event → ℕ → ℕ → Type 0
UsesNumbers Silent events old new = AllByRecursion IsUnnumbered events × (new ≡ old)
UsesNumbers (Own n) events old new = ((events ≡ []) ⊎ ((e : Entry) × (events ≡ Write e ∷ []) × (e.key.seqno ≡ n))) × (new ≡ old)
UsesNumbers (Raises n) events old new = (events ≡ []) × (old ≤ n → new ≡ n)
UsesNumbers Reserves events old new = (events ≡ []) × (old < 2 ^ 63 → new ≡ old + 1)
UsesNumbers Draws events old new = (AllByRecursion IsUnnumbered events × (old ≤ new) × (new ≤ old + 1)) ⊎ ((new ≡ old + 1) × (IsBatch old events ⊎ IsCommitted old events))

-- what it sets and what it removes weakly is among its keys
abbrev pub UsesKeys : Asks → List Event → Type 0
UsesKeys call events = AllByRecursion (OfWrite (λ e. (is_value e ≡ true → IsIn e.key.user_key call.sets) × (is_weak e ≡ true → IsIn e.key.user_key call.weak))) events

-- along a chain of counters each call does so
abbrev pub EachUses : {R : Type 0} → List Asks → List (Told R) → ℕ → List ℕ → Type 0
EachUses [] [] old [] = Unit {0}
EachUses (call ∷ calls) (told ∷ more) old (new ∷ counters) = UsesNumbers call.drawing told.entries old new × UsesKeys call told.entries × EachUses calls more new counters
EachUses calls told old counters = ⊥

-- ---- what follows

-- a journal in order, below the counter and this number, over calls that set these keys
pub record StandsBelow (opened : List Entry) (journal : List Event) (counter low : ℕ) (set : List Bytes) : Type 0 where
  pub order : InOrder opened journal
  pub counted : next_number opened journal ≤ counter
  pub used : next_number opened journal ≤ low
  pub sets : (k : Bytes) → sets_of k opened journal ≤ values (stack k opened) + times k set

-- after a journal in order, below the counter, calls whose numbers rise, and which remove weakly what was set once at most, keep it in
-- order, below the number at which the counter stands at most in the end
pub record StaysInOrder (opened : List Entry) (journal : List Event) (c : Standing) (calls : List Asks) : Type 0 where
  pub order : InOrder opened journal
  pub below : next_number opened journal ≤ highest c (map (λ call. call.drawing) calls)

abbrev pub RisingIsInOrder : Type 0 → Type 0
RisingIsInOrder R = (opened : List Entry) (journal : List Event) (calls : List Asks) (told : List (Told R)) (counter low : ℕ) (c : Standing) (set : List Bytes) (counters : List ℕ)
    → StandsBelow opened journal counter low set → IsWhere c counter → RisesFrom low c (map (λ call. call.drawing) calls) → WeakOnce opened set calls
    → EachUses calls told counter counters → StaysInOrder opened (journal ++ journal_of told) c calls

-- a journal is in order just where it is so without its low reads, and its next number is the same
pub record OrderWithoutReads : Type 0 where
  pub order : (opened : List Entry) (journal : List Event) → InOrder opened journal ↔ InOrder opened (without_low_reads opened journal)
  pub number : (opened : List Entry) (journal : List Event) → next_number opened (without_low_reads opened journal) ≡ next_number opened journal

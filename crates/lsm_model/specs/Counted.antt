-- The order of calls as callers keep it, by what the counter said: from it follows that a journal is in order.
use Rattle.std.specs.Prelude.{◌≡◌, ℕ, ◌+◌, ◌<◌, ◌≤◌, Bool, true, false, ◌&&◌, List, [], ◌∷◌, map}
use Rattle.std.specs.List.{AllByRecursion, list_any}
use Rattle.lsm_below.specs.Keys.{Bytes, is_same}
use Rattle.lsm_below.specs.Entries.{Entry, is_weak, stack, above}
use Rattle.lsm_model.specs.Journal.{Event, InOrder, sets_of}
use Rattle.lsm_model.specs.Views.{EachPair}
use Rattle.lsm_model.specs.declared.journal.JournalEntry.TheVariants.{Write, Clear, Install, Dropped, Mark, Read}

-- an event, and where the counter stood at its time
pub record Counted : Type 0 where
  pub event : Event
  pub counter : ℕ

-- the events alone
abbrev pub events_of : List Counted → List Event
events_of journal = map (λ x. x.event) journal

-- ---- the counter

-- where the counter stands after an event: an install or a clear drew the sequence number at which it stood
abbrev pub counter_after : Event → ℕ → ℕ
counter_after (Write e) c = c
counter_after (Clear n) c = c + 1
counter_after (Install n) c = c + 1
counter_after (Dropped ranges n) c = c
counter_after (Mark w) c = c
counter_after (Read at question answer) c = c

-- from this sequence number on the counter never falls
abbrev pub NeverFalls : ℕ → List Counted → Type 0
NeverFalls c [] = Unit {0}
NeverFalls c (x ∷ journal) = (c ≤ x.counter) × NeverFalls (counter_after x.event x.counter) journal

-- a write's sequence number is below the counter, that of an install or a clear is the counter's
abbrev pub IsDrawn : Event → ℕ → Type 0
IsDrawn (Write e) c = e.key.seqno < c
IsDrawn (Clear n) c = n ≡ c
IsDrawn (Install n) c = n ≡ c
IsDrawn (Dropped ranges n) c = Unit {0}
IsDrawn (Mark w) c = Unit {0}
IsDrawn (Read at question answer) c = Unit {0}

-- ---- a write, and what came earlier

-- an entry's sequence number is not below an earlier install or clear, and above an earlier write of its key
abbrev pub StandsAbove : Event → Entry → Type 0
StandsAbove (Write f) e = is_same e.key.user_key f.key.user_key ≡ true → f.key.seqno < e.key.seqno
StandsAbove (Clear n) e = n ≤ e.key.seqno
StandsAbove (Install n) e = n ≤ e.key.seqno
StandsAbove (Dropped ranges n) e = Unit {0}
StandsAbove (Mark w) e = Unit {0}
StandsAbove (Read at question answer) e = Unit {0}

-- what P asks of an event's entry, if it is a write
abbrev pub OfWrite : (Entry → Type 0) → Event → Type 0
OfWrite P (Write e) = P e
OfWrite P (Clear n) = Unit {0}
OfWrite P (Install n) = Unit {0}
OfWrite P (Dropped ranges n) = Unit {0}
OfWrite P (Mark w) = Unit {0}
OfWrite P (Read at question answer) = Unit {0}

-- does the event remove the key weakly?
abbrev pub removes_weakly : Bytes → Event → Bool
removes_weakly k (Write e) = is_same k e.key.user_key && is_weak e
removes_weakly k (Clear n) = false
removes_weakly k (Install n) = false
removes_weakly k (Dropped ranges n) = false
removes_weakly k (Mark w) = false
removes_weakly k (Read at question answer) = false

-- ---- the order

-- a journal in the order that counter and keys ask for; sequence numbers and values that were opened count as earlier ones
pub record InCountedOrder (opened : List Entry) (journal : List Counted) : Type 0 where
  -- the counter stands above all sequence numbers that were opened, and never falls
  pub counter : NeverFalls (above opened) journal
  pub drawn : AllByRecursion (λ x. IsDrawn x.event x.counter) journal
  -- each write's sequence number is not below any earlier install or clear, and above each earlier one of its key
  pub earlier : EachPair (λ x y. OfWrite (StandsAbove x.event) y.event) journal
  pub over_opened : AllByRecursion (λ x. OfWrite (λ e. above (stack e.key.user_key opened) ≤ e.key.seqno) x.event) journal
  -- a key that is ever removed weakly is set once at most
  pub single : (k : Bytes) → list_any (removes_weakly k) (events_of journal) ≡ true → sets_of k opened (events_of journal) ≤ 1

-- a journal in that order is in order, event by event
abbrev pub CountedIsInOrder : Type 0
CountedIsInOrder = (opened : List Entry) (journal : List Counted) → InCountedOrder opened journal → InOrder opened (events_of journal)

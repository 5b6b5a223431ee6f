-- A tree with the journal of its calls, and what always holds of it.
use Rattle.std.specs.Prelude.{◌≡◌, ℕ, ◌<◌, ◌≤◌, ◌⊎◌, ◌↔◌, ◌++◌, List, [], Result, Err, IsErrOf}
use Rattle.std.specs.BTreeMap.{BTreeMap}
use Rattle.std.specs.List.{AllByRecursion}
use Rattle.lsm_model.specs.Views.{Placed, held}
use Rattle.lsm_model.specs.Beginnings.{shown_by}
use Rattle.lsm_below.specs.Keys.{Bytes}
use Rattle.lsm_below.specs.Entries.{above}
use Rattle.lsm_model.specs.declared.journal.JournalEntry.{JournalEntry}
use Rattle.lsm_model.specs.Journal.{Event, InOrder, next_number, floor}
use Rattle.lsm_model.specs.Steps.{ReadsEqualReplay, StaysAt}
use Rattle.lsm_model.specs.Sound.{Holds}
use Rattle.lsm_below.specs.declared.error.Error.{Error}
use Rattle.lsm_below.specs.declared.error.Error.TheVariants.{OutOfMemory, OutOfOrder}
use Rattle.lsm_state.specs.Core.{Core, Seen, state_of}
use Rattle.lsm_state.specs.Calls.{RefusesRead}
use Rattle.lsm_state.specs.Kept.{IsKeptTree}
use Rattle.lsm_state.specs.CompactionDeeds.{IsMarkedIn}
use Rattle.lsm_state.specs.CompactionReads.{AreSparedBy}
use Rattle.lsm_recorded.specs.declared.marks.Mark.{Mark}
use Rattle.lsm_recorded.specs.Marks.{mark_of, mark_in}

-- a tree, its journal, and the tables that it was opened with: what they show is the map that the replay starts from
pub record SeenRecorded (S : Type 0) : Type 0 where
  pub tree : Seen S
  pub journal : List JournalEntry
  pub opened : List Placed

-- the watermark of each open merge is marked in the journal
abbrev pub AreMarked : List Event → Core → Type 0
AreMarked journal c = AllByRecursion (λ m. IsMarkedIn m.settings.watermark journal) c.merges.underway

-- what always holds of a tree with its journal
pub record IsRecorded (opened : List Placed) (least : ℕ) (marks : BTreeMap Bytes Mark) (low : ℕ) (c : Core) (journal : List Event) : Type 0 where
  -- every read so far agrees with the replay, every view equals it, and kept snapshots are answered
  pub reads : ReadsEqualReplay (held opened) (shown_by opened) (state_of journal c)
  -- from which the next step goes on
  pub holds : Holds (held opened) (shown_by opened) (state_of journal c)
  -- the journal is in order, below the counter
  pub order : InOrder (held opened) journal
  pub counted : next_number (held opened) journal ≤ c.seqno
  -- what is kept beside it is that of the tables and the journal
  pub least_is : least ≡ above (held opened)
  pub floored : low ≡ floor journal
  pub noted : (k : Bytes) → mark_of marks k ≡ mark_in (held opened) journal k
  -- no snapshot that is kept is below the watermark of an open merge
  pub marked : AreMarked journal c

-- what it tells its callers: each read of it agrees with the replay before it, its writes are in order, below the counter, and the
-- watermark of each open merge is marked
pub record IsKeptRecorded {S : Type 0} (t : SeenRecorded S) : Type 0 where
  pub tree : IsKeptTree t.tree.core
  pub reads : ReadsEqualReplay (held t.opened) (shown_by t.opened) (state_of t.journal t.tree.core)
  pub in_order : InOrder (held t.opened) t.journal
  pub counted : next_number (held t.opened) t.journal ≤ t.tree.core.seqno
  pub marked : AreMarked t.journal t.tree.core

-- a refusal of the journal's own, or what the tree below replied
abbrev pub OwnOr : {A : Type 0} → Result A Error → Type 0 → Type 0
OwnOr r P = (r ≡ Err OutOfOrder) ⊎ ((r ≡ Err OutOfMemory) ⊎ P)

-- what each snapshot sees stays, where it finds a super version before and after
abbrev pub Stays : Core → Core → Type 0
Stays old new = (s : ℕ) → StaysAt s (state_of [] old) (state_of [] new)

-- the same of the snapshots up to a sequence number
abbrev pub StaysTo : ℕ → Core → Core → Type 0
StaysTo n old new = (s : ℕ) → s ≤ n → StaysAt s (state_of [] old) (state_of [] new)

-- the same of the snapshots that what is appended to the journal spares: each, but those above the number of a drop
abbrev pub StaysBehind : List Event → List Event → Core → Core → Type 0
StaysBehind journal journal' old new = (events : List Event) → journal' ≡ journal ++ events → (s : ℕ) → AreSparedBy events s → StaysAt s (state_of [] old) (state_of [] new)

-- a read below a sequence number that was opened is out of order, whatever else would be wrong; each other one is refused as
-- the tree refuses it
pub record RefusesRecorded {A : Type 0} (least : ℕ) (c : Core) (s : ℕ) (r : Result A Error) : Type 0 where
  pub out_of_order : IsErrOf r OutOfOrder ↔ s < least
  pub refuses : least ≤ s → RefusesRead c s r

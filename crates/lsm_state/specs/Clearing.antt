-- A clear, as a call and as the theories see it, and how unflushed entries are forgotten.
use Rattle.std.specs.Prelude.{◌≡◌, ◌⊎◌, ◌↔◌, ℕ, ◌+◌, ◌-◌, ◌^◌, ◌≤◌, true, List, [], ◌∷◌, ◌++◌, length, Result, Ok, Err, OnOk, OnErr, IfOk, IfErr, IsErrOf, IsSome}
use Rattle.lsm_below.specs.Entries.{Entry}
use Rattle.lsm_below.specs.declared.error.Error.{Error}
use Rattle.lsm_below.specs.declared.error.Error.TheVariants.{OutOfMemory, Store, CommitUnknown, Unrecoverable, OutOfNumbers}
use Rattle.lsm_model.specs.Journal.{Event}
use Rattle.lsm_model.specs.Steps.{Cleared}
use Rattle.lsm_model.specs.Beginnings.{Note, ClearedTo, ClearLost, Done, Lost, Deeds}
use Rattle.lsm_model.specs.declared.journal.JournalEntry.TheVariants.{Clear}
use Rattle.lsm_memtable.specs.Memtables.{new_memtable}
use Rattle.lsm_versions.specs.Levels.{empty_levels}
use Rattle.lsm_parts.specs.declared.version.super_version.SuperVersion.{SuperVersion}
use Rattle.lsm_parts.specs.History.{SeenHistory}
use Rattle.lsm_parts.specs.Held.{first_entries}
use Rattle.lsm_state.specs.Core.{Core, state_of}
use Rattle.lsm_state.specs.Commits.{counted, committed, doubted, fresh_in}
use Rattle.lsm_parts.specs.Held.{from_id}
use Rattle.lsm_state.specs.Cleaning.{oldest_named}
use Rattle.lsm_state.specs.Deeds.{saved_of, IsNoDeed}
use Rattle.lsm_state.specs.CompactionReads.{SparesReads, IsAny, AreSparedBy}

-- ---- the call

-- a super version without entries: a new active memtable, no sealed ones, and the next version, without tables, from whose
-- number on a log is read
abbrev pub cleared_in : Core → SuperVersion
cleared_in c = record { active_memtable = c.next_memtable; sealed_memtables = []; version = record { id = c.history.latest.version.id + 1; log_from = c.seqno; levels = empty_levels }; seqno = c.seqno }

-- the tree after a clear: older super versions, an open flush and open merges stay
abbrev pub cleared : Core → Core
cleared c = committed (cleared_in c) (fresh_in true c)

-- what a clear answers and does
pub record Clears (r : Result ℕ Error) (old new : Core) : Type 0 where
  -- the answer is the number that the commit used
  pub ok : IfOk r (λ n. (n ≡ old.seqno) × (new ≡ cleared old))
  pub unknown : IsErrOf r CommitUnknown → new ≡ doubted (cleared_in old) old
  -- after a commit of unknown outcome, and only there
  pub unrecoverable : IsErrOf r Unrecoverable ↔ IsSome old.lost
  -- refused otherwise, it changes nothing but that the number may be used
  pub before : IsErrOf r Unrecoverable ⊎ IsErrOf r OutOfNumbers → new ≡ old
  pub store : IsErrOf r Store → new ≡ counted old
  pub memory : IsErrOf r OutOfMemory → (new ≡ old) ⊎ (new ≡ counted old)
  pub out_of_numbers : IsErrOf r OutOfNumbers → (2 ^ 63 ≤ old.seqno) ⊎ ((2 ^ 63 ≤ old.next_memtable) ⊎ (old.history.latest.version.id ≡ 2 ^ 64 - 1))
  pub only : IfErr r (λ e. ((e ≡ OutOfMemory) ⊎ (e ≡ Store)) ⊎ ((e ≡ CommitUnknown) ⊎ ((e ≡ OutOfNumbers) ⊎ (e ≡ Unrecoverable))))

-- ---- as the theories see it

-- whatever the journal and the notes, an answered clear is a clear, which covers the place after it
abbrev pub IsClearDeed : ℕ → Core → Core → Type 0
IsClearDeed n old new = (opened : List Entry) (journal : List Event) (notes : List Note)
    → Deeds opened (saved_of journal notes old) (Done (Cleared n old.next_memtable) ∷ []) (saved_of (journal ++ Clear n ∷ []) (ClearedTo (length journal + 1) ∷ notes) new)

-- one of unknown outcome tells nothing, and is noted at its place
abbrev pub IsLostClear : Core → Core → Type 0
IsLostClear old new = (would : Core) × ((opened : List Entry) (journal : List Event) (notes : List Note)
    → Deeds opened (saved_of journal notes old) (Lost (Cleared old.seqno old.next_memtable) (state_of (journal ++ Clear old.seqno ∷ []) would) ∷ []) (saved_of journal (ClearLost old.seqno (length journal) ∷ notes) new))

-- any other refusal is no deed
pub record ClearDeeds (r : Result ℕ Error) (old new : Core) : Type 0 where
  pub done : IfOk r (λ n. IsClearDeed n old new)
  pub lost : IsErrOf r CommitUnknown → IsLostClear old new
  pub refused : IfErr r (λ e. (e ≡ CommitUnknown → ⊥) → IsNoDeed old new)

-- ---- what is left of reads

-- what is told of a clear: the clear, where it is answered
abbrev pub clear_events : Result ℕ Error → List Event
clear_events (Ok n) = Clear n ∷ []
clear_events (Err e) = []

-- after a clear reads are right where they were; an answered one spares the snapshots that aren't above its number, a refused
-- one all
pub record ClearsKeepReads : Type 0 where
  pub clears : (r : Result ℕ Error) (old new : Core) → ClearDeeds r old new → SparesReads IsAny (clear_events r) (AreSparedBy (clear_events r)) old new

-- ---- unflushed entries

-- the history whose latest super version has a new active memtable of this id, and no sealed ones; its number and its tables stay
abbrev pub flushed_only : ℕ → SeenHistory → SeenHistory
flushed_only id h = record { latest = record { active_memtable = id; sealed_memtables = []; version = h.latest.version; seqno = h.latest.seqno }; older = h.older }

-- the tree that forgot what isn't flushed: memtables that no super version names any more go
abbrev pub forgotten : Core → Core
forgotten c = record c { memtables = from_id (oldest_named (flushed_only c.next_memtable c.history)) (new_memtable c.next_memtable ∷ c.memtables); history = flushed_only c.next_memtable c.history; next_memtable = c.next_memtable + 1 }

-- what forgetting the unflushed entries answers and does
pub record ForgetsUnflushed (r : Result Unit Error) (old new : Core) : Type 0 where
  -- nothing, where nothing was written to the active memtable
  pub nothing : first_entries old.memtables ≡ [] → (r ≡ Ok tt) × (new ≡ old)
  pub ok : (first_entries old.memtables ≡ [] → ⊥) → OnOk r (new ≡ forgotten old)
  -- refused, it changes nothing
  pub err : OnErr r (new ≡ old)
  pub out_of_numbers : IsErrOf r OutOfNumbers → 2 ^ 63 ≤ old.next_memtable
  pub only : IfErr r (λ e. (e ≡ OutOfMemory) ⊎ (e ≡ OutOfNumbers))

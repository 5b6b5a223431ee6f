-- What each call of a tree does and answers.
use Rattle.std.specs.Prelude.{◌≡◌, ℕ, ◌≤◌, ◌-◌, ◌^◌, min, length, ◌⊎◌, List, [], ◌∷◌, ◌++◌, map, Option, Some, None, Result, Ok, Err, IfOk, IfErr, IfSome, OnOk, OnErr, IsErrOf, ◌↔◌, if◌then◌else◌}
use Rattle.lsm_below.specs.Keys.{Bytes}
use Rattle.lsm_below.specs.Entries.{Entry, above, is_tombstone_type}
use Rattle.lsm_model.specs.Journal.{Event}
use Rattle.lsm_model.specs.Views.{SuperVersion, sources, walk, shown, found_at}
use Rattle.lsm_model.specs.Steps.{Step, Run, Wrote, Rotated, Asked}
use Rattle.lsm_model.specs.Ops.{op_entries}
use Rattle.lsm_model.specs.declared.op.Op.{Op}
use Rattle.lsm_model.specs.declared.journal.JournalEntry.TheVariants.{Write, Read}
use Rattle.lsm_model.specs.declared.question.Question.TheVariants.{Get}
use Rattle.lsm_model.specs.declared.question.Answer.TheVariants.{Found}
use Rattle.lsm_memtable.specs.Memtables.{entry_size}
use Rattle.lsm_below.specs.declared.error.Error.{Error}
use Rattle.lsm_below.specs.declared.error.Error.TheVariants.{OutOfMemory, OutOfNumbers, SnapshotTooOld}
use Rattle.lsm_versions.specs.declared.config.TheConstants.{LIMIT}
use Rattle.lsm_parts.specs.Held.{entries_of, first_size, first_entries}
use Rattle.lsm_state.specs.Core.{Core, state_of, latest_of, older_of, written_core, written_all, drawn_core, rotated_core}
use Rattle.lsm_state.specs.Refusals.{entry_refusal, batch_refusal}

-- ---- calls as steps of the theory

-- whatever the journal, a write of this entry
abbrev pub IsWriteStep : Entry → Core → Core → Type 0
IsWriteStep e old new = (opened : List Entry) (journal : List Event) → Step opened (state_of journal old) (Wrote e) (state_of (journal ++ Write e ∷ []) new)

-- whatever the journal, a write of each entry in turn
abbrev pub IsWriteRun : List Entry → Core → Core → Type 0
IsWriteRun es old new = (opened : List Entry) (journal : List Event) → Run opened (state_of journal old) (map Wrote es) (state_of (journal ++ map Write es) new)

-- whatever the journal, a rotation to this memtable
abbrev pub IsRotateStep : ℕ → Core → Core → Type 0
IsRotateStep id old new = (opened : List Entry) (journal : List Event) → Step opened (state_of journal old) (Rotated id) (state_of journal new)

-- whatever the journal, an answered get
abbrev pub IsGetStep : Core → Bytes → ℕ → Option Bytes → Type 0
IsGetStep c k s v = (opened : List Entry) (journal : List Event) → above opened ≤ s → Step opened (state_of journal c) (Asked s (Get k)) (state_of (journal ++ Read s (Get k) (Found v) ∷ []) c)

-- ---- writes

-- a write of an entry, which answers the bytes that it counts and those of the active memtable
pub record Appends (e : Entry) (r : Result (ℕ × ℕ) Error) (old new : Core) : Type 0 where
  pub sizes : IfOk r (λ s. (s.0 ≡ entry_size e) × (s.1 ≡ first_size new.memtables))
  pub core : OnOk r (new ≡ written_core e old)
  pub step : OnOk r (IsWriteStep e old new)
  -- refused, it changes nothing
  pub unchanged : OnErr r (new ≡ old)
  -- where a reason holds the first one is told, and where none holds only memory may be missing
  pub told : IfSome (entry_refusal e) (λ x. r ≡ Err x)
  pub memory : entry_refusal e ≡ None → IfErr r (λ x. x ≡ OutOfMemory)

-- a write of a batch under the next sequence number, all of it or none
pub record WritesBatch (ops : List (Bytes × Op)) (r : Result ℕ Error) (old new : Core) : Type 0 where
  pub number : IfOk r (λ n. n ≡ old.seqno)
  pub core : OnOk r (new ≡ drawn_core (written_all (op_entries old.seqno ops) old))
  pub run : OnOk r (IsWriteRun (op_entries old.seqno ops) old new)
  -- refused, it changes nothing and uses no sequence number
  pub unchanged : OnErr r (new ≡ old)
  -- where a reason holds the first one is told, unless memory is missing, and where none holds only memory may be
  pub told : IfSome (batch_refusal old.seqno ops) (λ x. (r ≡ Err x) ⊎ (r ≡ Err OutOfMemory))
  pub memory : batch_refusal old.seqno ops ≡ None → IfErr r (λ x. x ≡ OutOfMemory)

-- ---- reads

-- why a read is refused: `SnapshotTooOld` exactly where no super version is found for the snapshot, else only for want of memory
pub record RefusesRead {A : Type 0} (c : Core) (s : ℕ) (r : Result A Error) : Type 0 where
  pub too_old : IsErrOf r SnapshotTooOld ↔ (found_at s (latest_of c) (older_of c) ≡ None)
  pub only : IfErr r (λ e. (e ≡ SnapshotTooOld) ⊎ (e ≡ OutOfMemory))

-- the same of a read that takes no memory
pub record RefusesOld {A : Type 0} (c : Core) (s : ℕ) (r : Result A Error) : Type 0 where
  pub too_old : IsErrOf r SnapshotTooOld ↔ (found_at s (latest_of c) (older_of c) ≡ None)
  pub only : IfErr r (λ e. e ≡ SnapshotTooOld)

-- what a read of a key finds: the entry at which a walk over the sources of its super version stops
abbrev pub Finds : Core → Bytes → ℕ → Option Entry → Type 0
Finds c k s e = (sv : SuperVersion) × (found_at s (latest_of c) (older_of c) ≡ Some sv) × (e ≡ walk k s (sources (entries_of c.memtables) sv))

-- what a get answers: the value that the entry gives
abbrev pub Gives : Core → Bytes → ℕ → Option Bytes → Type 0
Gives c k s v = (sv : SuperVersion) × (found_at s (latest_of c) (older_of c) ≡ Some sv) × (v ≡ shown (walk k s (sources (entries_of c.memtables) sv)))

-- the bytes of a value, up to 2^32 - 1
abbrev pub value_size : Bytes → ℕ
value_size v = min (length v) (2 ^ 32 - 1)

-- an entry that isn't a tombstone
abbrev pub live : Option Entry → Option Entry
live None = None
live (Some e) = if is_tombstone_type e.key.value_type then None else Some e

-- the same, of the entry itself: none for a tombstone
abbrev pub GivesEntry : Core → Bytes → ℕ → Option Entry → Type 0
GivesEntry c k s e = (sv : SuperVersion) × (found_at s (latest_of c) (older_of c) ≡ Some sv) × (e ≡ live (walk k s (sources (entries_of c.memtables) sv)))

-- ---- rotation

-- none where nothing was written to the active memtable, else the id of the one that was sealed
abbrev pub Rotates : Core → Option ℕ → Core → Type 0
Rotates old None new = (first_entries old.memtables ≡ []) × (new ≡ old)
Rotates old (Some id) new = (first_entries old.memtables ≡ [] → ⊥) × (id ≡ old.history.latest.active_memtable) × (new ≡ rotated_core old) × IsRotateStep old.next_memtable old new

-- a rotation: there is nothing to seal, or the active memtable is sealed; it is refused, and nothing changes, only where no id is left
-- for the one in its place, or for want of memory
pub record SealsActive (r : Result (Option ℕ) Error) (old new : Core) : Type 0 where
  pub ok : IfOk r (λ id. Rotates old id new)
  pub empty : first_entries old.memtables ≡ [] → r ≡ Ok None
  pub err : OnErr r (new ≡ old)
  pub out_of_numbers : IsErrOf r OutOfNumbers → LIMIT ≤ old.next_memtable
  -- where no id is left, it is answered only where there is nothing to seal
  pub told : LIMIT ≤ old.next_memtable → IfOk r (λ _. first_entries old.memtables ≡ [])
  pub only : IfErr r (λ e. (e ≡ OutOfNumbers) ⊎ (e ≡ OutOfMemory))

-- ---- numbers

-- a number is drawn from a counter, unless that stands at 2^63 or above: then nothing changes
pub record Draws (counter : Core → ℕ) (drawn : Core → Core) (r : Result ℕ Error) (old new : Core) : Type 0 where
  pub ok : IfOk r (λ n. n ≡ counter old)
  pub used : OnOk r (new ≡ drawn old)
  pub err : OnErr r (new ≡ old)
  pub out_of_numbers : IsErrOf r OutOfNumbers ↔ LIMIT ≤ counter old
  pub only : IfErr r (λ e. e ≡ OutOfNumbers)

-- A flush and a clear of a logged tree.
use Rattle.std.specs.Prelude.{◌≡◌, ◌⊎◌, ℕ, true, false, [], Option, Some, None, Result, Ok, Err, OnOk, IfOk, IfErr, IfSome}
use Rattle.lsm_below.specs.declared.error.Error.{Error}
use Rattle.lsm_below.specs.declared.error.Error.TheVariants.{Unrecoverable, AfterCommit}
use Rattle.lsm_store.specs.World.{Image, World, LeavesOnly}
use Rattle.lsm_commit.specs.Foreign.{KeepsForeign}
use Rattle.lsm_commit.specs.Stored.{IsStored, HoldsOneOf}
use Rattle.lsm_flush.specs.declared.jobs.Registered.{Registered}
use Rattle.lsm_state.specs.Core.{Core, versions_left, written_of}
use Rattle.lsm_state.specs.Calls.{Rotates}
use Rattle.lsm_state.specs.Clearing.{Clears, ClearDeeds}
use Rattle.lsm_flush.specs.Jobs.{SeenJob, SeenMerged, SeenWritten}
use Rattle.lsm_state.specs.Flushes.{sealed_ids, spent, Begins, WritesTables, Registers}
use Rattle.lsm_state.specs.WholeFlushes.{Flushes, RefusesRotation}
use Rattle.lsm_logged.specs.Keeping.{SeenLogged, is_unsure}
use Rattle.lsm_logged.specs.Removing.{log_from_of, Forgets, HasOldOrPassed}

-- ---- what becomes of the log

-- the numbers that are known: all of them, or those that the version has not passed
abbrev pub KeepsNumbers : {S : Type 0} → SeenLogged S → SeenLogged S → Type 0
KeepsNumbers old new = (new.numbers ≡ old.numbers) ⊎ Forgets (log_from_of new.core) old.numbers new.numbers

-- at each moment of a commit, and of the removal after it, names that are none of the tree's own are as they were, or the version on
-- the disk is the new one, and records that it has passed may be gone
abbrev pub IsEither : World → Core → Image → Type 0
IsEither w new image = KeepsForeign w image ⊎ (HoldsOneOf (versions_left new) image × HasOldOrPassed w (log_from_of new) image)

abbrev pub RemovesBehind : World → World → Core → Core → Type 0
RemovesBehind w w' old new = IsStored w (versions_left old) (written_of old) → LeavesOnly w w' (IsEither w new)

-- what became of a flush, once records are removed after it
pub record CleansLog {S : Type 0} (flushed r : Registered) (old new : SeenLogged S) : Type 0 where
  pub core : new.core ≡ old.core
  pub doubted : new.doubted ≡ old.doubted
  pub installed : r.installed ≡ flushed.installed
  pub cleaned : r.cleaned ≡ true → flushed.cleaned ≡ true
  pub numbers : KeepsNumbers old new
  pub forgets : r.installed ≡ true → r.cleaned ≡ true → Forgets (log_from_of new.core) old.numbers new.numbers

-- ---- a flush

-- what the tree told of a flush, where records that aren't removed count as not cleaned up
abbrev pub IsFlushSaid : Result (Option (ℕ × Registered)) Error → Result (Option (ℕ × Registered)) Error → Type 0
IsFlushSaid (Ok None) r = r ≡ Ok None
IsFlushSaid (Ok (Some p)) r = (b : Registered) × (r ≡ Ok (Some (p.0, b))) × (b.installed ≡ p.1.installed) × (b.cleaned ≡ true → p.1.cleaned ≡ true)
IsFlushSaid (Err e) r = r ≡ Err e

-- a record's outcome is unknown, and something is sealed: nothing is done
pub record RefusesFlush {S : Type 0} (r : Result (Option (ℕ × Registered)) Error) (old new : SeenLogged S) : Type 0 where
  pub doubted : old.doubted ≡ true
  pub sealed : sealed_ids old.core ≡ [] → ⊥
  pub refused : r ≡ Err Unrecoverable
  pub same : new ≡ old

-- else it is the tree's flush
pub record FlushesTree {S : Type 0} (w : ℕ) (r : Result (Option (ℕ × Registered)) Error) (old new : SeenLogged S) : Type 0 where
  pub sure : (old.doubted ≡ false) ⊎ (sealed_ids old.core ≡ [])
  pub told : Result (Option (ℕ × Registered)) Error
  pub flushes : Flushes w told old.core new.core
  pub said : IsFlushSaid told r
  pub doubted : new.doubted ≡ old.doubted
  pub numbers : KeepsNumbers old new
  -- after a whole clean-up no number is kept that the version has passed
  pub forgets : IfOk r (λ a. IfSome a (λ p. p.1.cleaned ≡ true → Forgets (log_from_of new.core) old.numbers new.numbers))

abbrev pub FlushesLogged : {S : Type 0} → ℕ → Result (Option (ℕ × Registered)) Error → SeenLogged S → SeenLogged S → Type 0
FlushesLogged w r old new = RefusesFlush r old new ⊎ FlushesTree w r old new

-- the active memtable is sealed, and the rest stays
pub record Seals {S : Type 0} (id : Option ℕ) (old mid : SeenLogged S) : Type 0 where
  pub rotates : Rotates old.core id mid.core
  pub store : mid.store ≡ old.store
  pub numbers : mid.numbers ≡ old.numbers
  pub doubt : mid.doubted ≡ old.doubted

-- a rotation, and then a flush: the answer and the refusal name the memtable that is sealed. Where the rotation is refused, nothing
-- changes
pub record FlushesBoth {S : Type 0} (w : ℕ) (r : Result (Option ℕ × Option (ℕ × Registered)) (Error × Option ℕ)) (old new : SeenLogged S) : Type 0 where
  pub ok : IfOk r (λ a. (mid : SeenLogged S) × Seals a.0 old mid × FlushesLogged w (Ok a.1) mid new)
  pub err : IfErr r (λ e. (RefusesRotation e.1 e.0 old.core new.core × (new ≡ old)) ⊎ ((mid : SeenLogged S) × Seals e.1 old mid × FlushesLogged w (Err e.0) mid new))

-- what the tree told of a job that was registered, where records that aren't removed count as not cleaned up
abbrev pub IsRegistrySaid : Result Registered Error → Result Registered Error → Type 0
IsRegistrySaid (Ok a) r = (b : Registered) × (r ≡ Ok b) × (b.installed ≡ a.installed) × (b.cleaned ≡ true → a.cleaned ≡ true)
IsRegistrySaid (Err e) r = r ≡ Err e

-- ---- a clear

-- what the tree told of a clear, where records weren't removed after it or were
abbrev pub IsClearSaid : Result ℕ Error → Result ℕ Error → Type 0
IsClearSaid (Ok n) r = (r ≡ Ok n) ⊎ (r ≡ Err AfterCommit)
IsClearSaid (Err e) r = r ≡ Err e

pub record ClearsTree {S : Type 0} (r : Result ℕ Error) (old new : SeenLogged S) : Type 0 where
  pub told : Result ℕ Error
  pub clears : Clears told old.core new.core
  pub deeds : ClearDeeds told old.core new.core
  pub said : IsClearSaid told r
  pub doubted : new.doubted ≡ old.doubted
  pub numbers : KeepsNumbers old new
  pub forgets : OnOk r (Forgets (log_from_of new.core) old.numbers new.numbers)

pub record ClearsLogged {S : Type 0} (r : Result ℕ Error) (old new : SeenLogged S) : Type 0 where
  -- where an outcome is unknown, and only there, it is `Unrecoverable`, and nothing is done
  pub unsure : is_unsure old ≡ true → (r ≡ Err Unrecoverable) × (new ≡ old)
  pub tree : is_unsure old ≡ false → ClearsTree r old new

-- ---- a flush in parts

-- beginning one: a record's outcome is unknown, and something is sealed, or it is the tree's call, and the log stays
pub record BeginsLogged {S : Type 0} (r : Result (Option SeenJob) Error) (old new : SeenLogged S) : Type 0 where
  pub doubted : old.doubted ≡ true → (sealed_ids old.core ≡ [] → ⊥) → (r ≡ Err Unrecoverable) × (new ≡ old)
  pub begins : (old.doubted ≡ false) ⊎ (sealed_ids old.core ≡ []) → Begins r old.core new.core
  pub store : new.store ≡ old.store
  pub numbers : new.numbers ≡ old.numbers
  pub doubt : new.doubted ≡ old.doubted

-- writing its tables: a record's outcome is unknown, and the job comes back, or it is the tree's call
pub record WritesJobLogged {S : Type 0} (job : SeenMerged) (r : Result SeenWritten (Error × SeenMerged)) (old new : SeenLogged S) : Type 0 where
  pub doubted : old.doubted ≡ true → (r ≡ Err (Unrecoverable, job)) × (new ≡ old)
  pub writes : old.doubted ≡ false → WritesTables job r old.core new.core
  pub numbers : new.numbers ≡ old.numbers
  pub doubt : new.doubted ≡ old.doubted

-- installing it: the job is spent whatever is answered
pub record RegistersLogged {S : Type 0} (job : SeenWritten) (r : Result Registered Error) (old new : SeenLogged S) : Type 0 where
  pub doubted : old.doubted ≡ true → (r ≡ Err Unrecoverable) × (new.core ≡ spent job.job.number old.core)
  pub registers : old.doubted ≡ false → (told : Result Registered Error) × Registers job told old.core new.core × IsRegistrySaid told r
  pub numbers : KeepsNumbers old new
  pub doubt : new.doubted ≡ old.doubted

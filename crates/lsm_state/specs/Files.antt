-- What a flush, a compaction or a clear does to the files of a tree. `causes`: the store is blamed only where a call of it failed.
-- `gone`: after a whole clean-up no file is left of what went. `rests`: where nothing is installed, and nothing refused, no call of
-- the store is made. `refused`: no table's file is left of what was written, unless a call of the store failed, or a version may
-- name it. `no_call`: after a commit of unknown outcome no call of the store is made. `flush_open`: nor is one while a flush is open.
use Rattle.std.specs.Prelude.{◌≡◌, ◌⊎◌, ℕ, ◌<◌, ◌^◌, true, false, map, Option, None, IsSome, Result, Ok, IfOk, IfErr, IfSome, IsErrOf}
use Rattle.lsm_below.specs.declared.error.Error.{Error}
use Rattle.lsm_below.specs.declared.error.Error.TheVariants.{CommitUnknown, OutOfNumbers, TooManyRuns}
use Rattle.lsm_store.specs.World.{World}
use Rattle.lsm_commit.specs.Causes.{HasCause, Blames}
use Rattle.lsm_flush.specs.Jobs.{SeenMerged, SeenWritten}
use Rattle.lsm_flush.specs.declared.jobs.Registered.{Registered}
use Rattle.lsm_compaction.specs.Merges.{SeenCompaction}
use Rattle.lsm_state.specs.declared.compaction.Begun.{Begun}
use Rattle.lsm_state.specs.declared.compaction.Begun.TheVariants.{Installed, Job}
use Rattle.lsm_state.specs.declared.compaction.Finished.{Finished}
use Rattle.lsm_state.specs.declared.compaction.Finished.TheVariants.{Installed as Done}
use Rattle.lsm_state.specs.Core.{Seen}
use Rattle.lsm_state.specs.Causes.{BlamesBeside, BlamesOrUnclean, BlamesOrUncleanFlush, BlamesOrUncleanBehind, BlamesEnd}
use Rattle.lsm_state.specs.Cleaning.{LeavesNoFiles, LeavesNoVersions, RemovesDrawn, RemovesRefused, RemovesTables}
use Rattle.lsm_state.specs.Commits.{Upholds}
use Rattle.lsm_state.specs.Compactions.{InstallsOrRests, EndsOrRests}
use Rattle.lsm_state.specs.Flushes.{IsCurrent}

-- a crash leaves a version that the tree had or has, and what is none of its own stays
abbrev pub KeepsFiles : {S : Type 0} → Type 0 → (S → World) → Seen S → Seen S → Type 0
KeepsFiles tells world old new = tells → Upholds (world old.store) (world new.store) old.core new.core

-- ---- a flush

-- its tables are written
pub record WritesFiles {S : Type 0} (r : Result SeenWritten (Error × SeenMerged)) (tells : Type 0) (world : S → World) (old new : Seen S) : Type 0 where
  pub causes : HasCause (BlamesBeside r) (world old.store) (world new.store)
  pub refused : tells → old.core.next_table < 2 ^ 63 → IfErr r (λ e. RemovesDrawn old.core.next_table new.core.next_table (world old.store) (world new.store))
  pub no_call : IsSome old.core.lost → new.store ≡ old.store

-- they are registered; refused, the files of a current job go where the counter or the level was full
pub record RegistersFiles {S : Type 0} (job : SeenWritten) (r : Result Registered Error) (tells : Type 0) (world : S → World) (old new : Seen S) : Type 0 where
  pub causes : HasCause (BlamesOrUnclean r) (world old.store) (world new.store)
  pub gone : tells → IfOk r (λ a. a.installed ≡ true → a.cleaned ≡ true → LeavesNoVersions (world new.store) old.core.history new.core.history)
  pub rests : IfOk r (λ a. a.installed ≡ false → new.store ≡ old.store)
  pub refused : tells → IsCurrent job old.core → IsErrOf r OutOfNumbers ⊎ IsErrOf r TooManyRuns → RemovesTables (map (λ t. t.id) job.tables) (world old.store) (world new.store)
  pub no_call : IsSome old.core.lost → new.store ≡ old.store

-- all of it in one call
pub record FlushesFiles {S : Type 0} (r : Result (Option (ℕ × Registered)) Error) (tells : Type 0) (world : S → World) (old new : Seen S) : Type 0 where
  pub causes : HasCause (BlamesOrUncleanFlush r) (world old.store) (world new.store)
  pub gone : tells → IfOk r (λ a. IfSome a (λ p. p.1.cleaned ≡ true → LeavesNoVersions (world new.store) old.core.history new.core.history))
  pub rests : IfOk r (λ a. a ≡ None → new.store ≡ old.store)
  pub refused : tells → old.core.next_table < 2 ^ 63 → IfErr r (λ e. (e ≡ CommitUnknown → ⊥) → RemovesDrawn old.core.next_table new.core.next_table (world old.store) (world new.store))
  pub no_call : IsSome old.core.lost → new.store ≡ old.store
  pub flush_open : IsSome old.core.flush → new.store ≡ old.store

-- so after a rotation
pub record FlushesActiveFiles {S : Type 0} (r : Result (Option ℕ × Option (ℕ × Registered)) (Error × Option ℕ)) (tells : Type 0) (world : S → World) (old new : Seen S) : Type 0 where
  pub causes : HasCause (BlamesOrUncleanBehind r) (world old.store) (world new.store)
  pub gone : tells → IfOk r (λ a. IfSome a.1 (λ p. p.1.cleaned ≡ true → LeavesNoVersions (world new.store) old.core.history new.core.history))
  pub rests : IfOk r (λ a. a.1 ≡ None → new.store ≡ old.store)
  pub refused : tells → old.core.next_table < 2 ^ 63 → IfErr r (λ e. (e.0 ≡ CommitUnknown → ⊥) → RemovesDrawn old.core.next_table new.core.next_table (world old.store) (world new.store))
  pub no_call : IsSome old.core.lost → new.store ≡ old.store
  pub flush_open : IsSome old.core.flush → new.store ≡ old.store

-- ---- a compaction

-- it begins
pub record BeginsFiles {S : Type 0} (r : Result Begun Error) (tells : Type 0) (world : S → World) (old new : Seen S) : Type 0 where
  pub causes : HasCause (Blames r) (world old.store) (world new.store)
  pub gone : tells → r ≡ Ok Installed → LeavesNoFiles (world new.store) old.core.history new.core.history
  pub rests : IfOk r (λ b. InstallsOrRests b old.store new.store)
  pub no_call : IsSome old.core.lost → new.store ≡ old.store

-- it ends
pub record FinishesFiles {S : Type 0} (r : Result Finished Error) (tells : Type 0) (world : S → World) (old new : Seen S) : Type 0 where
  pub causes : HasCause (Blames r) (world old.store) (world new.store)
  pub gone : tells → r ≡ Ok Done → LeavesNoFiles (world new.store) old.core.history new.core.history
  pub rests : IfOk r (λ f. EndsOrRests f old.store new.store)
  pub refused : tells → RemovesRefused r old.core new.core (world old.store) (world new.store)
  pub no_call : IsSome old.core.lost → new.store ≡ old.store

-- all of it in one call
pub record CompactsFiles {S : Type 0} (r : Result Begun Error) (tells : Type 0) (world : S → World) (old new : Seen S) : Type 0 where
  pub causes : HasCause (Blames r) (world old.store) (world new.store)
  pub gone : tells → r ≡ Ok Installed → LeavesNoFiles (world new.store) old.core.history new.core.history
  pub rests : IfOk r (λ b. InstallsOrRests b old.store new.store)
  pub refused : tells → RemovesRefused r old.core new.core (world old.store) (world new.store)
  pub no_call : IsSome old.core.lost → new.store ≡ old.store

-- what follows of how it began
pub record FollowsFiles {S : Type 0} (begun r : Result Begun Error) (tells : Type 0) (world : S → World) (old new : Seen S) : Type 0 where
  pub causes : HasCause (BlamesEnd begun r) (world old.store) (world new.store)
  pub gone : tells → (job : SeenCompaction) → begun ≡ Ok (Job job) → r ≡ Ok Installed → LeavesNoFiles (world new.store) old.core.history new.core.history
  pub done : begun ≡ Ok Installed → new.store ≡ old.store
  pub rests : IfOk r (λ b. InstallsOrRests b old.store new.store)
  pub refused : tells → RemovesRefused r old.core new.core (world old.store) (world new.store)
  pub no_call : IsSome old.core.lost → new.store ≡ old.store

-- ---- a clear

pub record ClearsFiles {S : Type 0} (r : Result ℕ Error) (tells : Type 0) (world : S → World) (old new : Seen S) : Type 0 where
  pub causes : HasCause (Blames r) (world old.store) (world new.store)
  pub no_call : IsSome old.core.lost → new.store ≡ old.store

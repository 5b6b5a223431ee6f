-- How a version takes the place of the latest one, outside a flush.
use Rattle.std.specs.Prelude.{◌≡◌, ℕ, ◌+◌, ◌^◌, ◌≤◌, None, Bool, true, List, Result, ◌⊎◌, OnOk, IfErr, IsErrOf}
use Rattle.std.specs.List.{AllByRecursion}
use Rattle.lsm_below.specs.declared.error.Error.{Error}
use Rattle.lsm_below.specs.declared.error.Error.TheVariants.{OutOfMemory, Store, CommitUnknown, OutOfNumbers, TooManyRuns, AfterCommit}
use Rattle.lsm_model.specs.Steps.{among}
use Rattle.lsm_versions.specs.Levels.{SeenVersion, all_of}
use Rattle.lsm_store.specs.World.{World}
use Rattle.lsm_commit.specs.Stored.{IsStored, AreOnDisk}
use Rattle.lsm_commit.specs.Commits.{AreOthers}
use Rattle.lsm_parts.specs.declared.version.super_version.SuperVersion.{SuperVersion}
use Rattle.lsm_parts.specs.History.{SeenHistory, versions_of}
use Rattle.lsm_state.specs.Kept.{KeepsTables}
use Rattle.lsm_state.specs.Core.{Core, versions_left, written_of}
use Rattle.lsm_state.specs.Commits.{counted, committed, doubted}
use Rattle.lsm_state.specs.Cleaning.{Cleans, IsUnnamed}

-- ---- super versions

-- a super version with another version, under another number: its memtables stay
abbrev pub with_version : ℕ → SeenVersion → SuperVersion → SuperVersion
with_version n v sv = record sv { version = v; seqno = n }

-- the super version that the install of a version makes
abbrev pub next_in : Core → SeenVersion → SuperVersion
next_in c v = with_version c.seqno v c.history.latest

-- the history with a version in front
abbrev pub history_with : SeenVersion → Core → SeenHistory
history_with v c = record { latest = next_in c v; older = versions_of c.history }

-- ---- outcomes

-- the tree after a version is installed, and maintenance after it came to its end or not
abbrev pub IsInstalled : SeenVersion → ℕ → Bool → Core → Core → Type 0
IsInstalled v w whole old new = Cleans w whole (committed (next_in old v) old) new

-- the tree after an install of unknown outcome
abbrev pub IsDoubted : SeenVersion → Core → Core → Type 0
IsDoubted v old new = new ≡ doubted (next_in old v) old

-- a version that may be installed, after which the files of the tables of these ids may go
pub record MaySettle (v : SeenVersion) (gone : List ℕ) (c : Core) : Type 0 where
  pub certain : c.lost ≡ None
  pub id : v.id ≡ c.history.latest.version.id + 1
  pub tables : KeepsTables c.flush (history_with v c) c.next_table
  pub spares : AreOthers gone (written_of c)
  pub others : AreOthers gone (all_of v.levels)
  -- of the tables that the latest version names and this one doesn't none is left out
  pub covers : AllByRecursion (λ t. IsUnnamed (all_of v.levels) t.id → among gone t.id ≡ true) (all_of c.history.latest.version.levels)

-- where the files of a tree are stored, those of a version's tables are on the disk
abbrev pub HasItsTables : World → Core → SeenVersion → Type 0
HasItsTables w c v = IsStored w (versions_left c) (written_of c) → AreOnDisk w (all_of v.levels)

-- what installing a version answers and does
pub record Settles (v : SeenVersion) (w : ℕ) (r : Result Unit Error) (old new : Core) : Type 0 where
  pub ok : OnOk r (IsInstalled v w true old new)
  -- it stands, and what is after it wasn't cleaned up to the end
  pub after : IsErrOf r AfterCommit → (whole : Bool) × IsInstalled v w whole old new
  pub unknown : IsErrOf r CommitUnknown → IsDoubted v old new
  -- refused otherwise, it changes nothing but that a number may be used
  pub numbers : IsErrOf r OutOfNumbers → (new ≡ old) × (2 ^ 63 ≤ old.seqno)
  pub store : IsErrOf r Store → new ≡ counted old
  pub memory : IsErrOf r OutOfMemory → (new ≡ old) ⊎ (new ≡ counted old)
  pub only : IfErr r (λ e. ((e ≡ OutOfMemory) ⊎ ((e ≡ Store) ⊎ (e ≡ CommitUnknown))) ⊎ ((e ≡ OutOfNumbers) ⊎ (e ≡ AfterCommit)))

-- what a call answers and does that makes such a version, and installs it
pub record SettlesSome {T : Type 0} (IsMade : SeenVersion → Type 0) (w : ℕ) (r : Result T Error) (old new : Core) : Type 0 where
  pub ok : OnOk r ((v : SeenVersion) × IsMade v × IsInstalled v w true old new)
  pub after : IsErrOf r AfterCommit → (v : SeenVersion) × IsMade v × (whole : Bool) × IsInstalled v w whole old new
  pub unknown : IsErrOf r CommitUnknown → (v : SeenVersion) × IsMade v × IsDoubted v old new
  pub before : IsErrOf r OutOfNumbers ⊎ IsErrOf r TooManyRuns → new ≡ old
  -- a file of a table or of the version wasn't written
  pub store : IsErrOf r Store → (new ≡ old) ⊎ (new ≡ counted old)
  pub memory : IsErrOf r OutOfMemory → (new ≡ old) ⊎ (new ≡ counted old)

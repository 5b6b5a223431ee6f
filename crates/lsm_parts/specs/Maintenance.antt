-- What maintenance leaves of a history, and of the files of its versions.
use Rattle.std.specs.Prelude.{◌≡◌, ◌≢◌, ◌↔◌, ℕ, ◌+◌, ◌<◌, ◌≤◌, List, [], ◌∷◌, take, drop, length, None, Option, Result, OnOk, if◌then◌else◌, nat_lt}
use Rattle.std.specs.List.{AllByRecursion}
use Rattle.lsm_below.specs.declared.error.Error.{Error}
use Rattle.lsm_store.specs.World.{World}
use Rattle.lsm_tables.specs.Tables.{SeenTable}
use Rattle.lsm_versions.specs.Levels.{SeenVersion}
use Rattle.lsm_manifest.specs.Names.{version_name}
use Rattle.lsm_commit.specs.Stored.{IsStored, Leaves}
use Rattle.lsm_parts.specs.declared.version.super_version.SuperVersion.{SuperVersion}
use Rattle.lsm_parts.specs.History.{SeenHistory}

-- how many of some super versions, newest first, are needed: those down to the first one that is numbered below w
abbrev pub needed_of : ℕ → List SuperVersion → ℕ
needed_of w [] = 0
needed_of w (sv ∷ older) = if nat_lt sv.seqno w then 1 else needed_of w older + 1

-- how many of a history's older ones
abbrev pub needed : ℕ → SeenHistory → ℕ
needed w h = if nat_lt h.latest.seqno w then 0 else needed_of w h.older

-- the oldest super versions were forgotten, none that is needed; all others, if it came to its end
pub record Forgets (w : ℕ) (r : Result Unit Error) (old new : SeenHistory) : Type 0 where
  pub latest : new.latest ≡ old.latest
  pub older : new.older ≡ take (length new.older) old.older
  pub enough : needed w old ≤ length new.older
  pub all : OnOk r (length new.older ≡ needed w old)

-- ---- files

-- of each super version that was forgotten the version's file is absent, where its id is below the latest one's
abbrev pub AreGone : World → SeenHistory → SeenHistory → Type 0
AreGone w old new = AllByRecursion (λ sv. sv.version.id < old.latest.version.id → w.gives (version_name sv.version.id) ≡ None) (drop (length new.older) old.older)

-- the name of no version below this id
abbrev pub IsNoOlder : ℕ → List ℕ → Type 0
IsNoOlder id n = (i : ℕ) → i < id → n ≢ version_name i

-- beside files of versions below this id nothing has changed
pub record KeepsNewer (id : ℕ) (old new : World) : Type 0 where
  pub may : (n : List ℕ) (c : Option (List ℕ)) → IsNoOlder id n → new.may n c ↔ old.may n c
  pub gives : (n : List ℕ) → IsNoOlder id n → new.gives n ≡ old.gives n

-- whatever versions are stored, none of an id below this one, they stay so, and a crash meanwhile leaves one of them
abbrev pub KeepsVersions : ℕ → World → World → Type 0
KeepsVersions id old new = (versions : List SeenVersion) (unnamed : List SeenTable) → IsStored old versions unnamed → AllByRecursion (λ v. id ≤ v.id) versions → IsStored new versions unnamed × Leaves old new versions

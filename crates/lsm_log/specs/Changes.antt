-- What putting and removing records makes of a store.
use Rattle.std.specs.Prelude.{◌≡◌, ◌≢◌, ◌⊎◌, ℕ, ◌<◌, List, Option, Some, None, Result, OnOk, IsErrOf}
use Rattle.lsm_below.specs.Keys.{Bytes}
use Rattle.lsm_below.specs.declared.error.Error.{Error}
use Rattle.lsm_below.specs.declared.error.Error.TheVariants.{OutOfMemory, Store, CommitUnknown}
use Rattle.lsm_store.specs.World.{Image, World, Only, OldOr, Same}
use Rattle.lsm_store.specs.Synced.{Leaves, KeepsOthers, IsBeside}
use Rattle.lsm_log.specs.LogNames.{record_name}

-- ---- a record that is put

-- by what the call answers: after Ok the record's file has these bytes, whatever comes; where the outcome is unknown a crash
-- leaves what it could have left before, or these bytes; after another refusal nothing has changed; each other name is as it was
pub record PutsRecord {T : Type 0} (number : ℕ) (bytes : Bytes) (old new : World) (r : Result T Error) : Type 0 where
  pub ok : OnOk r (Leaves (record_name number) (Only (Some bytes)) old new × (new.gives (record_name number) ≡ Some bytes))
  pub unknown : IsErrOf r CommitUnknown → Leaves (record_name number) (OldOr (old.may (record_name number)) (Some bytes)) old new
  pub memory : IsErrOf r OutOfMemory → Same old new
  pub nothing : IsErrOf r Store → Same old new
  pub keeps : KeepsOthers (record_name number) old new

-- the record's file has what it could have before, or these bytes; each other name has what it could
pub record IsPut (number : ℕ) (bytes : Bytes) (old : World) (image : Image) : Type 0 where
  pub here : old.may (record_name number) (image (record_name number)) ⊎ (image (record_name number) ≡ Some bytes)
  pub elsewhere : IsBeside (record_name number) old image

-- ---- records that are removed

-- the name of the file of a record whose number has P
abbrev pub IsOneOf : (ℕ → Type 0) → List ℕ → Type 0
IsOneOf P n = (k : ℕ) × P k × (n ≡ record_name k)

-- the name of none of them
abbrev pub IsNoneOf : (ℕ → Type 0) → List ℕ → Type 0
IsNoneOf P n = (k : ℕ) → P k → n ≢ record_name k

-- the record's number is below this one
abbrev pub IsBelow : ℕ → ℕ → Type 0
IsBelow from k = k < from

-- some of these records are removed, other names give what they gave, and a crash leaves nothing that it could not leave before
pub record ClearsRecords (P : ℕ → Type 0) (old new : World) : Type 0 where
  pub may : (n : List ℕ) (c : Option (List ℕ)) → new.may n c → old.may n c ⊎ ((c ≡ None) × IsOneOf P n)
  pub gives : (n : List ℕ) → IsNoneOf P n → new.gives n ≡ old.gives n

-- each name has what it could have before, or it is that of one of these records, and absent
abbrev pub AreCleared : (ℕ → Type 0) → World → Image → Type 0
AreCleared P old image = (n : List ℕ) → old.may n (image n) ⊎ ((image n ≡ None) × IsOneOf P n)

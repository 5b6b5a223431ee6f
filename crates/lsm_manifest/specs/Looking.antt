-- What a store holds of a tree, before anything is changed.
use Rattle.std.specs.Prelude.{◌≡◌, ℕ, Bool, true, false, List, Some, None, Result, Ok, Err, IsSome, OnOk, map, codes}
use Rattle.std.specs.String.{string_bytes}
use Rattle.lsm_store.specs.World.{Image, World, Same, Lists, LeavesOnly}
use Rattle.lsm_manifest.specs.declared.fault.Fault.{Fault}
use Rattle.lsm_manifest.specs.declared.fault.Fault.TheVariants.{Unrecoverable, InvalidVersion}
use Rattle.lsm_manifest.specs.declared.fault.OpenError.{OpenError}
use Rattle.lsm_manifest.specs.declared.fault.OpenError.TheVariants as opening
use Rattle.lsm_manifest.specs.declared.kinds.NameKind.TheVariants.{Refused}
use Rattle.lsm_manifest.specs.declared.opening.Opened.{Opened}
use Rattle.lsm_manifest.specs.declared.found.Found.{Found}
use Rattle.lsm_manifest.specs.Kinds.{kind_of, is_orphan}
use Rattle.lsm_manifest.specs.Names.{current_name}
use Rattle.lsm_manifest.specs.Spelling.{IsFileFrom}
use Rattle.lsm_manifest.specs.Recovery.{StoreOnly}
use Rattle.lsm_manifest.specs.Versions.{named_levels, file_of, first_version}
use Rattle.lsm_versions.specs.Levels.{empty_levels}
use Rattle.lsm_manifest.specs.Persist.{IsOldOrNew, IsPersisted}
use Rattle.lsm_manifest.specs.Clearing.{IsCleared, Clears}
use Rattle.lsm_manifest.specs.Opening.{FilesFault, IsFound, ReadsFrom}

-- what is told of a tree: a new one without `current`, else what it leads to
abbrev pub FindsIn : Bool → Image → Found → Type 0
FindsIn true image f = (image current_name ≡ None) × (f.opened ≡ record { version = first_version; next_table_id = 0 })
FindsIn false image f = IsFound image f.opened.version.id f.opened.version.levels f.opened.next_table_id f.ids.items

-- found in this image, in which nothing is wrong
pub record IsFoundIn (image : Image) (f : Found) : Type 0 where
  pub no_version : image (codes "version") ≡ None
  pub names : Lists image (map string_bytes f.names.items)
  pub finds : FindsIn f.is_new image f

-- the first thing that is wrong
pub data LookFault (image : Image) (f : Fault) : Type 0 where
  -- of an older format
  Older : IsSome (image (codes "version")) → f ≡ InvalidVersion 1 → LookFault image f
  -- what `current` leads to
  BadFiles : image (codes "version") ≡ None → IsSome (image current_name) → FilesFault image f → LookFault image f
  -- without `current`, a name in the folder of tables
  BadNew : (n : List ℕ) → image (codes "version") ≡ None → image current_name ≡ None → kind_of n ≡ Refused → IsSome (image n) → f ≡ Unrecoverable → LookFault image f

-- what comes of looking
abbrev pub LooksInto : Image → Result Found OpenError → Type 0
LooksInto image (Ok f) = IsFoundIn image f
LooksInto image (Err opening.OutOfMemory) = Unit {0}
LooksInto image (Err opening.Store) = Unit {0}
LooksInto image (Err opening.CommitUnknown) = ⊥
LooksInto image (Err (opening.Fault f)) = LookFault image f

-- found in a store, which was left as it was
pub record Looks (old new : World) (f : Found) : Type 0 where
  pub found : IsFoundIn old.gives f
  pub from : IsSome (old.gives current_name) → ReadsFrom old.gives f.opened.version
  pub same : Same old new

-- ---- and then

-- no file of it is found to be wrong
abbrev pub NoFault : {T : Type 0} → Result T OpenError → Type 0
NoFault (Ok _) = Unit {0}
NoFault (Err opening.OutOfMemory) = Unit {0}
NoFault (Err opening.Store) = Unit {0}
NoFault (Err opening.CommitUnknown) = Unit {0}
NoFault (Err (opening.Fault f)) = ⊥

-- what no version names, beside the one that was found
abbrev pub orphan_of : Found → List ℕ → Bool
orphan_of f = is_orphan f.opened.version.id f.ids.items

-- orphans of what was found are removed
pub record ClearsFor {T : Type 0} (f : Found) (old new : World) (r : Result T OpenError) : Type 0 where
  pub only : StoreOnly r
  pub any_moment : LeavesOnly old new (IsCleared (orphan_of f) old)
  pub clears : Clears (orphan_of f) old new
  pub removed : OnOk r (Lists old.gives (map string_bytes f.names.items) → (n : List ℕ) → orphan_of f n ≡ true → new.gives n ≡ None)

-- the first version is made the current one
pub record PersistsFirst {T : Type 0} (old new : World) (r : Result T OpenError) : Type 0 where
  pub any_moment : LeavesOnly old new (IsOldOrNew 0 (file_of first_version) old)
  pub persisted : OnOk r (IsPersisted 0 (file_of first_version) old new)
  pub names : OnOk r (IsFileFrom (Some 0) (named_levels empty_levels) (file_of first_version))

-- what comes of it
abbrev pub FinishesIn : Bool → Found → World → World → Result Opened OpenError → Type 0
FinishesIn true f old new r = (f.opened.version ≡ first_version) → PersistsFirst old new r
FinishesIn false f old new r = ClearsFor f old new r

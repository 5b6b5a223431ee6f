-- What opening asks and leaves of a tree's files.
use Rattle.std.specs.Prelude.{ℕ, List, [], ◌∷◌, Ok}
use Rattle.lsm_store.specs.World.{World, IsOnDisk}
use Rattle.lsm_tables.specs.Tables.{SeenTable}
use Rattle.lsm_versions.specs.Levels.{SeenVersion}
use Rattle.lsm_manifest.specs.declared.opening.Opened.{Opened}
use Rattle.lsm_manifest.specs.Opening.{Opens, LeavesStanding}
use Rattle.lsm_manifest.specs.Ready.{IsReady}
use Rattle.lsm_commit.specs.Stored.{IsStored}
use Rattle.lsm_commit.specs.Foreign.{IsForeign, Passes}

-- where a tree's files are stored, the store is ready to be opened
abbrev pub StoredIsReady : (S : Type 0) → (S → World) → Type 0
StoredIsReady S world = (store : S) (versions : List SeenVersion) (written : List SeenTable) → IsStored (world store) versions written → IsReady (world store)

-- after the opening of a ready store the version that is opened is stored
abbrev pub OpeningStores : (S : Type 0) → (S → World) → Type 0
OpeningStores S world = (old new : S) (o : Opened) → IsReady (world old) → Opens (world old) (world new) (Ok o) → IsStored (world new) (o.version ∷ []) []

-- an opening that is answered passes foreign names
abbrev pub OpeningsPass : (S : Type 0) → (S → World) → Type 0
OpeningsPass S world = (old new : S) (o : Opened) → Opens (world old) (world new) (Ok o) → LeavesStanding (world old) (world new) → Passes (world old) (world new)

-- after an opening that is answered a crash leaves of a foreign name just what reads gave, where not any bytes of it could be left
abbrev pub OpeningsSettle : (S : Type 0) → (S → World) → Type 0
OpeningsSettle S world = (old new : S) (o : Opened) → Opens (world old) (world new) (Ok o) → (n : List ℕ) → IsForeign n → IsOnDisk (world old) (world new) n

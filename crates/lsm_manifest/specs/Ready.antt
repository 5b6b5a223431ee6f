-- What opening asks of a store that a process left, be it by a crash or without one, and what it leaves of it.
use Rattle.std.specs.Prelude.{◌≡◌, ◌⊎◌, ℕ, List, [], Option, Some, None, Ok, codes}
use Rattle.std.specs.List.{AllByRecursion}
use Rattle.lsm_store.specs.World.{Image, World, IsImage, LeavesOnly}
use Rattle.lsm_versions.specs.Levels.{Levels as SeenLevels, empty_levels}
use Rattle.lsm_manifest.specs.declared.kinds.NameKind.TheVariants.{Refused}
use Rattle.lsm_manifest.specs.declared.opening.Opened.{Opened}
use Rattle.lsm_manifest.specs.Names.{current_name, version_name, table_name}
use Rattle.lsm_manifest.specs.Kinds.{kind_of}
use Rattle.lsm_manifest.specs.Recovery.{Levels, IsNamed}
use Rattle.lsm_manifest.specs.Opening.{Opens, LeavesStanding}
use Rattle.lsm_manifest.specs.Finding.{Finds, IsSettled}

-- in whatever a crash may leave opening finds tables: the same ones where `current` is the same, and none at all where there may be
-- no `current`
pub record IsReady (w : World) : Type 0 where
  pub found : (image : Image) → IsImage w.may image → (ts : SeenLevels) × Finds image ts
  pub once : (a b : Image) (ts : SeenLevels) → IsImage w.may a → IsImage w.may b → b current_name ≡ a current_name → Finds a ts → Finds b ts
  pub none : (a b : Image) (ts : SeenLevels) → IsImage w.may a → IsImage w.may b → b current_name ≡ None → Finds a ts → ts ≡ empty_levels

-- ---- what follows: each the contract of a function in `ready.rt`

-- a crash may leave anything but this of the name
abbrev pub NeverHas : World → List ℕ → Option (List ℕ) → Type 0
NeverHas w n c = ¬ w.may n c

-- of `current`, of the file of the version that it names and of that one's tables not any bytes can be left
pub record KeepsNamed (w : World) (id : ℕ) (ls : Levels) : Type 0 where
  pub current : NeverHas w current_name (Some [])
  pub version : NeverHas w (version_name id) None
  pub tables : AllByRecursion (λ l. AllByRecursion (λ r. AllByRecursion (λ t. NeverHas w (table_name t.id) None) r) l) ls

-- no crash brings back a name that opening refuses
pub record BringsGoodNames (w : World) : Type 0 where
  pub no_version : (c : Option (List ℕ)) → w.may (codes "version") c → c ≡ None
  pub in_tables : (n : List ℕ) (c : Option (List ℕ)) → kind_of n ≡ Refused → w.may n c → c ≡ None

-- where the names that are read have one possible content each, the store is ready, and whatever a crash leaves has the tables that
-- reads find
pub record SettledStands (w : World) (ts : SeenLevels) : Type 0 where
  pub ready : IsReady w
  pub finds : (image : Image) → IsImage w.may image → Finds image ts

abbrev pub SettledIsReady : (S : Type 0) → (S → World) → Type 0
SettledIsReady S world = (store : S) (ts : SeenLevels) → IsSettled (world store) → Finds (world store).gives ts → SettledStands (world store) ts

abbrev pub ReadyKeepsNamed : (S : Type 0) → (S → World) → Type 0
ReadyKeepsNamed S world = (store : S) (id : ℕ) (ls : Levels) → IsReady (world store) → IsNamed (world store).gives id ls → KeepsNamed (world store) id ls

abbrev pub ReadyHasGoodNames : (S : Type 0) → (S → World) → Type 0
ReadyHasGoodNames S world = (store : S) → IsReady (world store) → BringsGoodNames (world store)

-- what could be left before, or an image with these tables
abbrev pub IsOldOrRead : World → SeenLevels → Image → Type 0
IsOldOrRead old ts image = IsImage old.may image ⊎ Finds image ts

-- opening a ready store leaves at each moment what could be left before it, or the tables that it read; after an Ok these alone; and
-- whatever it answers, a store that is ready to be opened again
pub record OpeningLeaves (old new : World) (ts : SeenLevels) : Type 0 where
  pub meanwhile : LeavesOnly old new (IsOldOrRead old ts)
  pub again : IsReady new

abbrev pub OpeningLeavesRead : (S : Type 0) → (S → World) → Type 0
OpeningLeavesRead S world = (old new : S) (ts : SeenLevels) → IsReady (world old) → Finds (world old).gives ts → LeavesStanding (world old) (world new) → OpeningLeaves (world old) (world new) ts

abbrev pub OpenedLeavesRead : (S : Type 0) → (S → World) → Type 0
OpenedLeavesRead S world = (old new : S) (ts : SeenLevels) (o : Opened) → IsReady (world old) → Finds (world old).gives ts → Opens (world old) (world new) (Ok o) → (image : Image) → IsImage (world new).may image → Finds image ts

-- What an image stands for: the tables that opening finds in it, and the map that they show.
use Rattle.std.specs.Prelude.{◌≡◌, ℕ, ◌≤◌, ◌^◌, false, List, Option, None, IsSome, Result, Ok, Err, codes}
use Rattle.std.specs.List.{AllByRecursion}
use Rattle.lsm_below.specs.declared.error.Error.{Error}
use Rattle.lsm_below.specs.declared.error.Error.TheVariants as error
use Rattle.lsm_below.specs.Keys.{Bytes}
use Rattle.lsm_below.specs.Entries.{above, stack, IsOrdered, IsSingle}
use Rattle.lsm_store.specs.World.{Image, World}
use Rattle.lsm_model.specs.Journal.{Map}
use Rattle.lsm_model.specs.Views.{held, view}
use Rattle.lsm_model.specs.Beginnings.{Stands, shown_by}
use Rattle.lsm_versions.specs.Levels.{Levels as SeenLevels, empty_levels, placed_of, tables_shown}
use Rattle.lsm_manifest.specs.declared.opening.Opened.{Opened}
use Rattle.lsm_manifest.specs.declared.kinds.NameKind.TheVariants.{Refused}
use Rattle.lsm_manifest.specs.Names.{current_name, version_name, table_name}
use Rattle.lsm_manifest.specs.Kinds.{kind_of, is_orphan}
use Rattle.lsm_manifest.specs.Spelling.{ids_of, IsLayout}
use Rattle.lsm_manifest.specs.Recovery.{Levels, IsNamed}
use Rattle.lsm_manifest.specs.Standing.{HasGoodNames, HasSmallNumbers, StandsFor}
use Rattle.lsm_manifest.specs.Pinned.{IsFixed, IsPinned}
use Rattle.lsm_manifest.specs.Opening.{OpensFiles, OpensNew}
use Rattle.lsm_manifest.specs.Told.{Told, TellsOpen}

-- the tables that opening finds in an image: those of the version that it stands for, and without `current` none
pub data Finds (image : Image) (ts : SeenLevels) : Type 0 where
  Named : (id : ℕ) (ls : Levels) → StandsFor image id ls ts → Finds image ts
  Nothing : image current_name ≡ None → HasGoodNames image → ts ≡ empty_levels → Finds image ts

-- the image stands for this map: sequence numbers fall along the tables that opening finds in it, no weak tombstone in them
-- stands over two values of its key, and the map is what they show
pub record StandsForMap (image : Image) (m : Map) : Type 0 where
  pub levels : SeenLevels
  pub found : Finds image levels
  pub ordered : IsOrdered (tables_shown levels)
  pub single : (k : Bytes) → IsSingle (stack k (held (placed_of levels)))
  pub shows : m ≡ view (2 ^ 64) (tables_shown levels)

-- `current`, the file that it names and that one's tables have one possible content each, and no crash brings back a name
-- that opening refuses
pub record IsSettled (w : World) : Type 0 where
  pub current : IsFixed w current_name
  pub named : (id : ℕ) (ls : Levels) → IsNamed w.gives id ls → IsPinned w id ls
  pub no_version : (c : Option (List ℕ)) → w.may (codes "version") c → c ≡ None
  pub in_tables : (n : List ℕ) (c : Option (List ℕ)) → kind_of n ≡ Refused → w.may n c → c ≡ None

-- an entry that opening finds is numbered 2^63 or more
abbrev pub HasGreatNumber : Image → Type 0
HasGreatNumber image = (ts : SeenLevels) × Finds image ts × (HasSmallNumbers ts → ⊥)

-- why an image that stands is refused: for want of memory, where a store call failed (replacing `current` only for a new tree),
-- or for a sequence number of 2^63 or more
abbrev pub RefusesFound : Image → Error → Type 0
RefusesFound image error.OutOfMemory = Unit {0}
RefusesFound image error.Store = Unit {0}
RefusesFound image error.CommitUnknown = image current_name ≡ None
RefusesFound image error.OutOfNumbers = HasGreatNumber image
RefusesFound image _ = ⊥

-- what comes of opening what stands: the tables that are found, or such a refusal
abbrev pub OpensFound : Image → SeenLevels → Result Opened Error → Type 0
OpensFound image ts (Ok o) = o.version.levels ≡ ts
OpensFound image ts (Err e) = RefusesFound image e

-- what is told where `current` is there, and where it isn't
abbrev pub TellsFiles : Image → Result Opened Error → Type 0
TellsFiles image r = image (codes "version") ≡ None → IsSome (image current_name) → Told TellsOpen (OpensFiles image) r

abbrev pub TellsNew : World → World → Result Opened Error → Type 0
TellsNew old new r = old.gives (codes "version") ≡ None → old.gives current_name ≡ None → Told TellsOpen (OpensNew old new) r

-- ---- what opening reads

-- the images have the same in `current`, in the file of the version that it names and those of its tables, and in the names that
-- opening refuses
pub record AgreesInRead (a b : Image) : Type 0 where
  pub current : b current_name ≡ a current_name
  pub version : (id : ℕ) (ls : Levels) → IsNamed a id ls → b (version_name id) ≡ a (version_name id)
  pub tables : (id : ℕ) (ls : Levels) → IsNamed a id ls → AllByRecursion (λ l. AllByRecursion (λ r. AllByRecursion (λ t. b (table_name t.id) ≡ a (table_name t.id)) r) l) ls
  pub no_version : b (codes "version") ≡ a (codes "version")
  pub in_tables : (n : List ℕ) → kind_of n ≡ Refused → b n ≡ a n

-- beside a version of these levels no orphan is `current`, its file, or one of its tables' files
pub record SparesNamed (id : ℕ) (ls : Levels) : Type 0 where
  pub current : is_orphan id (ids_of ls) current_name ≡ false
  pub version : is_orphan id (ids_of ls) (version_name id) ≡ false
  pub tables : AllByRecursion (λ l. AllByRecursion (λ r. AllByRecursion (λ t. is_orphan id (ids_of ls) (table_name t.id) ≡ false) r) l) ls

-- ---- what follows: each the contract of a function in `finding.rt`

-- opening finds one list of tables in an image
abbrev pub FoundOnce : Type 0
FoundOnce = (image : Image) (xs ys : SeenLevels) → Finds image xs → Finds image ys → xs ≡ ys

-- an image stands for one map
abbrev pub MapIsOne : Type 0
MapIsOne = (image : Image) (m n : Map) → StandsForMap image m → StandsForMap image n → m ≡ n

-- what is found is opened
abbrev pub OpeningFinds : (S : Type 0) → (S → World) → Type 0
OpeningFinds S world = (old new : S) (ts : SeenLevels) (r : Result Opened Error) → Finds (world old).gives ts → TellsFiles (world old).gives r → TellsNew (world old) (world new) r → OpensFound (world old).gives ts r

-- what is found is numbered below 2^64
abbrev pub FoundNumbersFit : Type 0
FoundNumbersFit = (image : Image) (ts : SeenLevels) → Finds image ts → above (held (placed_of ts)) ≤ 2 ^ 64

-- an image in which tables are found that stand, as the theory of crashes has it, stands for the map that they show
abbrev pub FoundTablesShow : Type 0
FoundTablesShow = (image : Image) (ts : SeenLevels) → Finds image ts → Stands (placed_of ts) → StandsForMap image (shown_by (placed_of ts))

-- what a version names is no orphan beside it
abbrev pub NamedFilesStay : Type 0
NamedFilesStay = (id : ℕ) (ls : Levels) → IsLayout ls → SparesNamed id ls

-- images that differ only in names that opening doesn't read stand for the same
abbrev pub UnreadNamesDontMatter : Type 0
UnreadNamesDontMatter = (a b : Image) → AgreesInRead a b → ((ts : SeenLevels) → Finds a ts → Finds b ts) × ((m : Map) → StandsForMap a m → StandsForMap b m)

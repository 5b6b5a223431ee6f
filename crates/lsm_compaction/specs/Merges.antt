-- The inputs of a merge, its job, and what it makes.
use Rattle.std.specs.Prelude.{◌≡◌, ℕ, Bool, ◌==◌, List, [], ◌∷◌, ◌++◌, map, flat_map}
use Rattle.std.specs.List.{AllByRecursion}
use Rattle.lsm_below.specs.Keys.{Bytes}
use Rattle.lsm_below.specs.Entries.{Entry}
use Rattle.lsm_below.specs.Kept.{IsKeptOf}
use Rattle.lsm_below.specs.Optimizes.{tables_of}
use Rattle.lsm_below.specs.Runs.{IsRun}
use Rattle.lsm_tables.specs.Cutting.{IsWritable, AreImagesOf, IsCutting}
use Rattle.lsm_tables.specs.Image.{IsTable, image}
use Rattle.lsm_tables.specs.Tables.{SeenTable}
use Rattle.lsm_versions.specs.Levels.{range, AreCovered, HasOwnIds, chosen_in, in_front}
use Rattle.lsm_versions.specs.Chosen.{AreIdsOf, Keeps}
use Rattle.lsm_compaction.specs.declared.settings.MergeSettings.{MergeSettings}

-- ---- inputs

-- the entries of a run's tables, table by table
abbrev pub run_entries : List SeenTable → List Entry
run_entries run = flat_map (λ t. t.entries) run

-- the entries of runs, each run a source
abbrev pub sources_in : List (List SeenTable) → List (List Entry)
sources_in runs = map run_entries runs

-- what runs have of the tables of these ids, without runs of none
abbrev pub inputs_in : List ℕ → List (List SeenTable) → List (List SeenTable)
inputs_in ids [] = []
inputs_in ids (run ∷ runs) = in_front (chosen_in ids run) (inputs_in ids runs)

-- a run, each of whose tables is one, and holds only keys of its range
pub record IsSoundRun (run : List SeenTable) : Type 0 where
  pub sorted : IsRun range run
  pub tables : AllByRecursion (λ t. IsTable t.entries) run
  pub covered : AreCovered run

-- ---- files

-- the contents of files, with that of a table where there are entries for one
abbrev pub with_last : ℕ → List Bytes → List Entry → List Bytes
with_last made_at files [] = files
with_last made_at files (e ∷ es) = files ++ image made_at (e ∷ es) ∷ []

-- the content of the file of some table that was made at this moment
pub record IsFileOf (made_at : ℕ) (file : Bytes) : Type 0 where
  pub entries : List Entry
  pub table : IsTable entries
  pub spelled : file ≡ image made_at entries

-- ---- jobs

-- tombstones are evicted in the last level, and nowhere above it
abbrev pub evicts : MergeSettings → Bool
evicts s = s.dest_level == 6

-- the job of a merge: its number, the ids of its tables, these by runs from the newest, and its settings
pub record SeenCompaction : Type 0 where
  pub number : ℕ
  pub ids : List ℕ
  pub inputs : List (List SeenTable)
  pub settings : MergeSettings

-- a job that was merged: the contents of its files
pub record SeenCompacted : Type 0 where
  pub job : SeenCompaction
  pub files : List Bytes

-- the ids are those of the tables, none of which stands twice
pub record IsJob (job : SeenCompaction) : Type 0 where
  pub ids : AreIdsOf job.ids (tables_of job.inputs)
  pub own_ids : HasOwnIds (tables_of job.inputs)

-- entries are what a compaction keeps of runs
abbrev pub AreKept : MergeSettings → List (List SeenTable) → List Entry → Type 0
AreKept s inputs kept = IsKeptOf (sources_in inputs) s.watermark (evicts s) kept

-- contents of files are those of the tables into which what is kept of runs is cut
pub record AreFilesOf (s : MergeSettings) (inputs : List (List SeenTable)) (files : List Bytes) : Type 0 where
  pub entries : List Entry
  pub kept : AreKept s inputs entries
  pub writable : IsWritable entries
  pub images : AreImagesOf s.target_size s.made_at entries files

-- tables of these ids and of this moment hold what the files do, one for each file in turn
pub record HoldFiles (made_at : ℕ) (contents : List Bytes) (given : List ℕ) (tables : List SeenTable) : Type 0 where
  pub ids : map (λ t. t.id) tables ≡ given
  pub made : AllByRecursion (λ t. t.created_at ≡ made_at) tables
  pub each : AllByRecursion (λ t. IsTable t.entries) tables
  pub spelled : map (λ t. image t.created_at t.entries) tables ≡ contents

-- tables of these ids are those of the files of a merge: they hold what is kept, and are a run
pub record AreTablesOf (job : SeenCompaction) (contents : List Bytes) (given : List ℕ) (tables : List SeenTable) : Type 0 where
  pub files : HoldFiles job.settings.made_at contents given tables
  pub kept : AreKept job.settings job.inputs (run_entries tables)
  pub keeps : Keeps job.settings.watermark (evicts job.settings) (tables_of job.inputs) tables
  pub cut : IsCutting job.settings.target_size (run_entries tables) (map (λ t. t.entries) tables)
  pub run : IsRun range tables

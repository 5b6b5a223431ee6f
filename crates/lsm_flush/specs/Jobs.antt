-- What is kept of memtables, and the jobs of a flush.
use Rattle.std.specs.Prelude.{ℕ, ◌+◌, ◌-◌, ◌^◌, max, min, false, List, [], ◌∷◌, Option, Some, None, map, flat_map}
use Rattle.std.specs.List.{AllByRecursion}
use Rattle.lsm_below.specs.Entries.{Entry}
use Rattle.lsm_below.specs.Kept.{IsKeptOf}
use Rattle.lsm_memtable.specs.Memtables.{SeenMemtable, highest_of}
use Rattle.lsm_below.specs.Runs.{IsRun}
use Rattle.lsm_tables.specs.Cutting.{IsWritable}
use Rattle.lsm_tables.specs.Tables.{SeenTable}
use Rattle.lsm_versions.specs.Levels.{range}
use Rattle.lsm_flush.specs.declared.merging.Kept.{Kept}
use Rattle.lsm_flush.specs.declared.merging.Kept.TheVariants.{Whole, Listed}

-- the entries of memtables
abbrev pub entries_in : List SeenMemtable → List (List Entry)
entries_in memtables = map (λ m. m.entries) memtables

-- entries are what a compaction at a watermark keeps of sources, and evicts nothing
abbrev pub KeptOf : List (List Entry) → ℕ → List Entry → Type 0
KeptOf sources w kept = IsKeptOf sources w false kept

-- the entries of the first source
abbrev pub first_source : List (List Entry) → List Entry
first_source [] = []
first_source (es ∷ sources) = es

-- what is kept of sources: the first one whole, or a list
abbrev pub kept_in : List (List Entry) → Kept → List Entry
kept_in sources Whole = first_source sources
kept_in sources (Listed list) = list.items

-- memtables of which tables can be written
abbrev pub AreWritable : List SeenMemtable → Type 0
AreWritable memtables = AllByRecursion (λ m. IsWritable m.entries) memtables

-- ---- jobs

-- the ids of memtables
abbrev pub ids_in : List SeenMemtable → List ℕ
ids_in memtables = map (λ m. m.id) memtables

-- the number after one, 0 for none
abbrev pub after : Option ℕ → ℕ
after None = 0
after (Some n) = min (n + 1) (2 ^ 64 - 1)

-- the number after all that sources have, 0 where they have nothing
abbrev pub passed_by : List (List Entry) → ℕ
passed_by [] = 0
passed_by (es ∷ sources) = max (after (highest_of es)) (passed_by sources)

-- the job of a flush: its number, and its memtables from the newest with their entries
pub record SeenJob : Type 0 where
  pub number : ℕ
  pub ids : List ℕ
  pub sources : List (List Entry)

-- a job that was merged: the watermark, and what is kept of the memtables
pub record SeenMerged : Type 0 where
  pub job : SeenJob
  pub watermark : ℕ
  pub entries : List Entry

-- a job whose tables are written
pub record SeenWritten : Type 0 where
  pub job : SeenJob
  pub watermark : ℕ
  pub tables : List SeenTable

-- an open flush: its number, its memtables from the newest, and the tables that were written for it
pub record SeenOpen : Type 0 where
  pub number : ℕ
  pub ids : List ℕ
  pub written : List SeenTable

-- the job of these memtables
abbrev pub job_of : ℕ → List SeenMemtable → SeenJob
job_of number memtables = record { number = number; ids = ids_in memtables; sources = entries_in memtables }

-- what is merged holds what is kept of the job, and may be written
pub record IsMergedFrom (job : SeenJob) (w : ℕ) (entries : List Entry) : Type 0 where
  pub kept : KeptOf job.sources w entries
  pub writable : IsWritable entries

-- the tables hold what is kept of the job, and are a run
pub record IsWrittenFrom (job : SeenJob) (w : ℕ) (tables : List SeenTable) : Type 0 where
  pub kept : KeptOf job.sources w (flat_map (λ t. t.entries) tables)
  pub run : IsRun range tables

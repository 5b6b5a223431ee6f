-- The tables into which a list is cut are a run.
use Rattle.std.proofs.Common.{◌≡◌, true, List, [], ◌∷◌, map}
use Rattle.std.specs.List.{AllByRecursion}
use Rattle.lsm_below.specs.Keys.{is_below}
use Rattle.lsm_below.specs.Entries.{Entry}
use Rattle.lsm_below.specs.Runs.{IsRun}
use Rattle.lsm_tables.specs.Cutting.{CutsAreRuns}
use Rattle.lsm_tables.specs.Tables.{SeenTable, range_of}
use Rattle.lsm_versions.specs.Levels.{range}
use Rattle.lsm_versions.specs.Installs.{CutTablesAreRuns}

from_map : (P : List Entry → Type 0) (ts : List SeenTable) → AllByRecursion P (map (λ t. t.entries) ts) → AllByRecursion (λ t. P t.entries) ts
from_map P [] h = tt
from_map P (t ∷ ts) h = (h.0, from_map P ts h.1)

tables_run : (ts : List SeenTable) → IsRun range_of (map (λ t. t.entries) ts) → IsRun range ts
tables_run [] h = tt
tables_run (t ∷ ts) h = (h.0, from_map (λ es. is_below (range t).max (range_of es).min ≡ true) ts h.1, tables_run ts h.2)

pub cut_tables_are_runs : CutsAreRuns → CutTablesAreRuns
cut_tables_are_runs law target es ts rises cut = tables_run ts (law target es (map (λ t. t.entries) ts) rises cut)

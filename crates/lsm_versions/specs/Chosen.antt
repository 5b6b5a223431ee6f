-- Tables that are chosen by their ids, and what a merge of them has to hold.
use Rattle.std.specs.Prelude.{◌≡◌, ℕ, Bool, true, List, map, flat_map, ◌==◌}
use Rattle.std.specs.List.{list_any, AllByRecursion}
use Rattle.std.specs.List.Sorted.{IsPermutation}
use Rattle.lsm_below.specs.Keys.{Bytes}
use Rattle.lsm_below.specs.Entries.{Entry, stack, keep, IsFalling}
use Rattle.lsm_tables.specs.Tables.{SeenTable}
use Rattle.lsm_model.specs.Steps.{among}
use Rattle.lsm_versions.specs.Levels.{Levels, all_of}

-- does a table of the levels have this id?
abbrev pub is_there : Levels → ℕ → Bool
is_there levels id = list_any (λ t. t.id == id) (all_of levels)

-- each of these ids is that of a table
abbrev pub AreThere : Levels → List ℕ → Type 0
AreThere levels ids = AllByRecursion (λ id. is_there levels id ≡ true) ids

-- these are the ids of these tables
abbrev pub AreIdsOf : List ℕ → List SeenTable → Type 0
AreIdsOf ids ts = (i : ℕ) → among ids i ≡ among (map (λ t. t.id) ts) i

-- a run holds of each key what a compaction keeps of these tables, in whatever order they come
abbrev pub Keeps : ℕ → Bool → List SeenTable → List SeenTable → Type 0
Keeps w evict inputs run = (k : Bytes) (es : List Entry) → IsFalling es → IsPermutation (flat_map (λ t. stack k t.entries) inputs) es → stack k (flat_map (λ t. t.entries) run) ≡ keep w evict es

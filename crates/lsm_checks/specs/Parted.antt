-- A run, parted by a choice of tables.
use Rattle.std.specs.Prelude.{ℕ, ◌+◌, Bool, ◌&&◌, ◌||◌, List, [], ◌∷◌, ◌++◌, map, ◌==◌, nat_lt, nat_le}
use Rattle.std.specs.List.{list_any}
use Rattle.lsm_below.specs.Ranges.{overlap}
use Rattle.lsm_tables.specs.Tables.{SeenTable}
use Rattle.lsm_versions.specs.Levels.{Levels, range, chosen_in, left_in}
use Rattle.lsm_checks.specs.declared.parted_run.Fault.{Fault}
use Rattle.lsm_checks.specs.declared.parted_run.Fault.TheVariants.{OutOfOrder, StandsBelow}

-- the level of a run, its chosen tables and the others
pub record Parted : Type 0 where
  pub level : ℕ
  pub chosen : List SeenTable
  pub left : List SeenTable

abbrev pub part_of : List ℕ → ℕ → List SeenTable → Parted
part_of ids level run = record { level = level; chosen = chosen_in ids run; left = left_in ids run }

-- the runs of levels, level by level
abbrev pub parted_from : List ℕ → ℕ → Levels → List Parted
parted_from ids n [] = []
parted_from ids n (runs ∷ levels) = map (part_of ids n) runs ++ parted_from ids (n + 1) levels

-- a table of the first overlaps one of the second
abbrev pub meets : List SeenTable → List SeenTable → Bool
meets ts us = list_any (λ t. list_any (λ u. overlap (range t) (range u)) us) ts

-- what may be wrong between the tables of two runs, of which p stands before q
abbrev pub is_wrong : Fault → ℕ → Parted → Parted → Bool
is_wrong OutOfOrder to p q = (nat_le to p.level && meets q.chosen p.left) || (nat_lt q.level to && meets p.chosen q.left)
is_wrong StandsBelow to p q = (to == 6 && q.level == 6) && meets p.chosen q.left

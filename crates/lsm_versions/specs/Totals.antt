-- What is counted of tables together.
use Rattle.std.specs.Prelude.{◌≡◌, ℕ, List, [], ◌∷◌, length, max, sum_by}
use Rattle.lsm_below.specs.Sums.{capped}
use Rattle.lsm_tables.specs.Tables.{SeenTable, greatest, tombstones, weak_tombstones, reclaimable}
use Rattle.lsm_versions.specs.declared.totals.Totals.{Totals}
use Rattle.lsm_versions.specs.Levels.{Levels, bytes_of, all_of, IsVersion}

-- the greatest sequence number of an entry, 0 where there is none
abbrev pub greatest_of : List SeenTable → ℕ
greatest_of [] = 0
greatest_of (t ∷ ts) = max (greatest t.entries) (greatest_of ts)

-- how many tables and entries there are, the bytes of the files, and what is counted of the entries: sums up to 2^64 - 1
abbrev pub totals_of : List SeenTable → Totals
totals_of ts = record {
  tables = capped (length ts);
  items = capped (sum_by (λ t. length t.entries) ts);
  bytes = capped (bytes_of ts);
  highest = greatest_of ts;
  tombstones = capped (sum_by (λ t. tombstones t.entries) ts);
  weak_tombstones = capped (sum_by (λ t. weak_tombstones t.entries) ts);
  reclaimable = capped (sum_by (λ t. reclaimable t.entries) ts);
}

-- what a version keeps: levels as those of every version, and what is counted of their tables
pub record IsKeptVersion (levels : Levels) (totals : Totals) : Type 0 where
  pub levels_are : IsVersion levels
  pub totals_are : totals ≡ totals_of (all_of levels)

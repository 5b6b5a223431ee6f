-- Tables that a range may read.
use Rattle.lsm_below.specs.Entries.{entry_cmp}
use Rattle.lsm_below.specs.Sorted.{Rises}
use Rattle.lsm_tables.specs.Tables.{SeenTable, IsCovered, range_of}

-- the entries of a table rise, and lie in its range
pub record IsSound (t : SeenTable) : Type 0 where
  pub rises : Rises entry_cmp t.entries
  pub covered : IsCovered t.entries (range_of t.entries)

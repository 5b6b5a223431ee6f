use Rattle.std.proofs.Common.{◌≡◌, ◌+◌}
use Rattle.lsm_below.specs.Optimizes.{tables_of}
use Rattle.lsm_below.specs.Sums.{capped}
use Rattle.lsm_versions.specs.Levels.{bytes_of}
use Rattle.lsm_versions.proofs.level.GenericLevel+Table.size.Given as goal

-- the bytes so far, and those of what is left
abbrev pub invariant-loop-table : goal.invariant-loop-table
invariant-loop-table l = record {
  fits : l.size ≡ capped l.size;
  sum : capped (l.size + bytes_of l.table-iterator) ≡ capped (bytes_of (tables_of l.self));
}

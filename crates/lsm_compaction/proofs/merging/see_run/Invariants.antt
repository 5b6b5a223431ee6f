use Rattle.std.proofs.Common.{take}
use Rattle.std.specs.List.{AllByRecursion}
use Rattle.lsm_tables.specs.Image.{IsTable}
use Rattle.lsm_versions.specs.Levels.{AreCovered}
use Rattle.lsm_compaction.proofs.merging.see_run.Given as goal

abbrev pub invariant-loop-table : goal.invariant-loop-table
invariant-loop-table l = record {
  tables : AllByRecursion (λ t. IsTable t.entries) (take l.table-index l.tables);
  covered : AreCovered (take l.table-index l.tables);
}

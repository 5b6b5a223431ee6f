use Rattle.std.proofs.Common.{take}
use Rattle.lsm_compaction.specs.Merges.{HoldFiles}
use Rattle.lsm_compaction.proofs.jobs.tables_at.Given as goal

abbrev pub invariant-loop-at : goal.invariant-loop-at
invariant-loop-at l = HoldFiles l.made_at (take l.at l.files) (take l.at l.ids) l.tables.items

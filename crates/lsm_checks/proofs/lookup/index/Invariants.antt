use Rattle.std.proofs.Common.{nat_eq, take}
use Rattle.std.specs.HashMap.{get}
use Rattle.lsm_checks.specs.Choices.{IsIndex}
use Rattle.lsm_checks.proofs.lookup.index.Given as goal

abbrev pub invariant-loop-table : goal.invariant-loop-table
invariant-loop-table l = IsIndex (take l.table-index l.tables) (λ i. get nat_eq l.by_id i)

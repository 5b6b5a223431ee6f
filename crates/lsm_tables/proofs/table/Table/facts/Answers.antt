use Rattle.std.proofs.Common.{subst}
use Rattle.lsm_tables.specs.Tables.{SeenTable, IsCovered, range_of}
use Rattle.lsm_tables.proofs.Covering.{covered}
use Rattle.lsm_tables.proofs.table.Table.facts.Goals as goal

pub returns-clause-covered : goal.returns-clause-covered
returns-clause-covered c = subst (λ (t : SeenTable). IsCovered t.entries (range_of t.entries)) c.self.view_is (covered c.keys_are_ordered.ensures c.entries_are_ordered.ensures _ c.self.invariant.table.rises)

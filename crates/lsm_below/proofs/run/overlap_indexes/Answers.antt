use Rattle.std.proofs.Common.{arith}
use Rattle.lsm_below.specs.Runs.{is_short_of, starts_in}
use Rattle.lsm_below.proofs.Cuts.{span, none_between}
use Rattle.lsm_below.proofs.run.overlap_indexes.Goals as goal

pub returns-then-start-end : goal.returns-then-start-end
returns-then-start-end g c = span (λ t. is_short_of c.args.lower.now (g.T.Ranged.range t)) (λ t. starts_in c.args.upper.now (g.T.Ranged.range t)) c.args.tables.now c.count_short-start.result c.count_started-end.result c.count_short-start.ensures c.count_started-end.ensures (omega arith)

pub returns-else-start-end : goal.returns-else-start-end
returns-else-start-end g c = none_between (λ t. is_short_of c.args.lower.now (g.T.Ranged.range t)) (λ t. starts_in c.args.upper.now (g.T.Ranged.range t)) c.args.tables.now c.count_short-start.result c.count_started-end.result c.count_short-start.ensures c.count_started-end.ensures (omega arith)

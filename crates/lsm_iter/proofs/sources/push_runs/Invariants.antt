use Rattle.std.proofs.Common.{map, take}
use Rattle.lsm_below.specs.Optimizes.{tables_of as all_tables}
use Rattle.lsm_iter.specs.Reads.{at}
use Rattle.lsm_iter.specs.Puts.{PutsCursors}
use Rattle.lsm_iter.proofs.sources.push_runs.Given as goal

abbrev pub invariant-loop-run : goal.invariant-loop-run
invariant-loop-run g l = PutsCursors l.bounds.0 l.bounds.1 (map (λ t. at l.below t.entries) (all_tables (take l.run-index l.runs))) 0 (map g.R.Reader.seen l.fn.readers.items) (map g.R.Reader.seen l.readers.items)

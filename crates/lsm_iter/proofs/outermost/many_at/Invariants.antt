use Rattle.std.proofs.Common.{map}
use Rattle.lsm_iter.specs.Outermost.{IsOutermost, ShowSame}
use Rattle.lsm_iter.proofs.outermost.many_at.Given as goal

abbrev pub invariant-loop-at : goal.invariant-loop-at
invariant-loop-at g l = record {
  outer : IsOutermost l.end (map g.R.Reader.seen l.readers) l.at l.outer;
  same : ShowSame (map g.R.Reader.seen l.fn.readers) (map g.R.Reader.seen l.readers);
}

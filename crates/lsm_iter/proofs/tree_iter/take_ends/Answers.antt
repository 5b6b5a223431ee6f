use Rattle.std.proofs.Common.{arith}
use Rattle.std.proofs.lemmas.List.{take_more}
use Rattle.lsm_iter.specs.declared.tree_iter.End.TheVariants.{Front}
use Rattle.lsm_iter.proofs.Ends.{ends_more}
use Rattle.lsm_iter.proofs.tree_iter.take_ends.Goals as goal

pub loop-end-preserved : goal.loop-end-preserved
loop-end-preserved c = record {
  taken = rw (take_more c.args.turns.now c.loop-end.end-index Front c.loop-end-test.true, c.in-Ok.ensures.items)
      (ends_more c.args.iter.now.left c.loop-end.iter.left c.take_end-pair.new.iter.left _ c.loop-end.pairs.items _ c.take_end-pair.result c.loop-end.invariant.taken c.take_end-pair.ensures);
  count = omega (arith, c.in-Ok.ensures.len);
  room = omega (arith, c.in-Ok.ensures.capacity);
}

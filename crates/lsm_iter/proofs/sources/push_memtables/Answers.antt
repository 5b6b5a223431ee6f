use Rattle.std.proofs.Common.{map, subst, arith}
use Rattle.std.proofs.lemmas.List.{take_all}
use Rattle.lsm_iter.specs.Reads.{at}
use Rattle.lsm_iter.specs.Puts.{PutsCursors, owned_of}
use Rattle.lsm_iter.proofs.Puts.{memtable_put}
use Rattle.lsm_iter.proofs.sources.push_memtables.Goals as goal

pub loop-memtable-preserved : goal.loop-memtable-preserved
loop-memtable-preserved g c =
    memtable_put g.R.Reader.copies c.args.bounds.now.0 c.args.bounds.now.1 c.args.below c.args.memtables.now c.loop-memtable.memtable-index c.memtable-item.result (map g.R.Reader.seen c.args.readers.now.items) (map g.R.Reader.seen c.loop-memtable.readers.items) (map g.R.Reader.seen c.push_memtable.new.readers.items)
    c.loop-memtable-test.true c.memtable-item.is c.loop-memtable.invariant c.in_ok-push_memtable.ensures

pub returns : goal.returns
returns g c =
    subst (λ ms. PutsCursors c.args.bounds.now.0 c.args.bounds.now.1 (map (λ m. at c.args.below m.now.entries) ms) (owned_of g.R.Reader.copies c.args.bounds.now.0 c.args.bounds.now.1 (map (λ m. at c.args.below m.now.entries) ms)) (map g.R.Reader.seen c.args.readers.now.items) (map g.R.Reader.seen c.loop-memtable.readers.items))
    (take_all c.loop-memtable.memtable-index c.args.memtables.now (omega (arith, c.loop-memtable-test.false))) c.loop-memtable.invariant

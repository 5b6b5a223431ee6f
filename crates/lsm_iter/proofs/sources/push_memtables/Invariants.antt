use Rattle.std.proofs.Common.{map, take}
use Rattle.lsm_iter.specs.Reads.{at}
use Rattle.lsm_iter.specs.Puts.{PutsCursors, owned_of}
use Rattle.lsm_iter.proofs.sources.push_memtables.Given as goal

abbrev pub invariant-loop-memtable : goal.invariant-loop-memtable
invariant-loop-memtable g l = PutsCursors l.bounds.0 l.bounds.1 (map (λ m. at l.below m.now.entries) (take l.memtable-index l.memtables)) (owned_of g.R.Reader.copies l.bounds.0 l.bounds.1 (map (λ m. at l.below m.now.entries) (take l.memtable-index l.memtables))) (map g.R.Reader.seen l.fn.readers.items) (map g.R.Reader.seen l.readers.items)

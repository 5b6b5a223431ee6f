use Rattle.std.proofs.Common.{map, take}
use Rattle.lsm_versions.specs.Levels.{all_of}
use Rattle.lsm_iter.specs.Reads.{at}
use Rattle.lsm_iter.specs.Puts.{PutsCursors}
use Rattle.lsm_iter.proofs.sources.push_levels.Given as goal

abbrev pub invariant-loop-level : goal.invariant-loop-level
invariant-loop-level g l = PutsCursors l.bounds.0 l.bounds.1 (map (λ t. at l.below t.entries) (all_of (take l.level-index l.levels))) 0 (map g.R.Reader.seen l.fn.readers.items) (map g.R.Reader.seen l.readers.items)

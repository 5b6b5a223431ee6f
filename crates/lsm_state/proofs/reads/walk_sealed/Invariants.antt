use Rattle.std.proofs.Common.{◌≡◌, map, reverse, length}
use Rattle.lsm_model.specs.Views.{walk}
use Rattle.lsm_parts.specs.Held.{entries_of}
use Rattle.lsm_state.proofs.reads.walk_sealed.Given as goal

abbrev pub invariant-loop-id : goal.invariant-loop-id
invariant-loop-id l =
    walk l.key l.snapshot (map (entries_of l.memtables) (reverse l.sealed)) ≡ walk l.key l.snapshot (map (entries_of l.memtables) (reverse l.rest))

abbrev pub decreases-loop-id : goal.decreases-loop-id
decreases-loop-id l = length l.rest

use Rattle.std.proofs.Common.{◌≡◌, take, map, flat_map}
use Rattle.std.specs.List.{All}
use Rattle.lsm_below.specs.Entries.{HasBytes}
use Rattle.lsm_iter.specs.Joined.{joined, AreFull}
use Rattle.lsm_iter.proofs.Disjoint.{left_in}
use Rattle.lsm_iter.proofs.parts.Parts.new.Given as goal

abbrev pub invariant-loop-table : goal.invariant-loop-table
invariant-loop-table g l =
    record {
      bytes : All HasBytes (joined (map g.P.Part.left l.parts.items));
      full : AreFull (map g.P.Part.left l.parts.items);
      joined : joined (map g.P.Part.left l.parts.items) ≡ flat_map (left_in l.bounds.0 l.bounds.1 l.below) (take l.table-index l.table-items);
    }

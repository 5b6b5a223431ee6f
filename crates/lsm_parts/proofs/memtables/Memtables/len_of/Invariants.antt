use Rattle.std.proofs.Common.{◌≡◌, length, flat_map, take}
use Rattle.lsm_below.specs.Sums.{capped}
use Rattle.lsm_parts.specs.Held.{entries_of}
use Rattle.lsm_parts.proofs.memtables.Memtables.len_of.Given as goal

abbrev pub invariant-loop-id : goal.invariant-loop-id
invariant-loop-id l = l.len ≡ capped (length (flat_map (entries_of l.self) (take l.id-index l.ids)))

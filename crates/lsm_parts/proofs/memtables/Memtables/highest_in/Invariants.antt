use Rattle.std.proofs.Common.{◌≡◌, flat_map, take}
use Rattle.lsm_memtable.specs.Memtables.{highest_of}
use Rattle.lsm_parts.specs.Held.{entries_of}
use Rattle.lsm_parts.proofs.memtables.Memtables.highest_in.Given as goal

abbrev pub invariant-loop-id : goal.invariant-loop-id
invariant-loop-id l = l.highest ≡ highest_of (flat_map (entries_of l.self) (take l.id-index l.ids))

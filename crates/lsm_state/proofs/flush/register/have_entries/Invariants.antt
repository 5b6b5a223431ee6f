use Rattle.std.proofs.Common.{◌≡◌, map, take}
use Rattle.lsm_flush.specs.Jobs.{ids_in, entries_in}
use Rattle.lsm_parts.specs.Held.{entries_of}
use Rattle.lsm_state.proofs.flush.register.have_entries.Given as goal

-- as far as they were compared, they are the same
abbrev pub invariant-loop-memtable : goal.invariant-loop-memtable
invariant-loop-memtable l = entries_in (take l.memtable-index l.memtables) ≡ map (entries_of l.held) (ids_in (take l.memtable-index l.memtables))

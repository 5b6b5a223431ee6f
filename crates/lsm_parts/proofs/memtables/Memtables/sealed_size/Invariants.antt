use Rattle.std.proofs.Common.{◌≡◌, take, sum_by}
use Rattle.lsm_below.specs.Sums.{capped}
use Rattle.lsm_parts.specs.Held.{size_at}
use Rattle.lsm_parts.proofs.memtables.Memtables.sealed_size.Given as goal

abbrev pub invariant-loop-id : goal.invariant-loop-id
invariant-loop-id l = l.size ≡ capped (sum_by (size_at l.self) (take l.id-index l.ids))

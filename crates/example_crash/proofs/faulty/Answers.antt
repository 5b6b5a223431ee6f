use Rattle.std.proofs.Common.{None, sym, subst}
use Rattle.lsm_runs.specs.Memory.{MemStore, world_of}
use Rattle.lsm_runs.specs.World.{Begins}
use Rattle.example_crash.proofs.faulty.Goals as goal

pub returns : goal.returns
returns c = subst (λ (s : MemStore). Begins (λ n. None) (world_of s)) (sym c.fail.ensures) c.new-store.ensures.world

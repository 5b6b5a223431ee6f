use Rattle.std.proofs.Common.{take}
use Rattle.std.specs.List.{AllByRecursion}
use Rattle.lsm_log_runs.specs.Memory.{world_of}
use Rattle.lsm_log_runs.specs.Lives.{IsUsualCall}
use Rattle.lsm_runs.specs.Compacting.{strategies_of}
use Rattle.lsm_runs.specs.Dropping.{Allowance, AllowsDrops, allowed}
use Rattle.example_lives.specs.declared.lives.Life.{Life}
use Rattle.example_lives.proofs.Remembering.{SoFar, CrashesSoFar}
use Rattle.example_lives.proofs.lives.live_again.Given as goal

abbrev pub invariant-loop-life : goal.invariant-loop-life
invariant-loop-life g l = record {
  so_far : (may : Allowance) → AllowsDrops (allowed may) (strategies_of (λ b. (goal.CompactionStrategy-dyn g (b.vtable, b.value)).may_choose b.value) (λ b. (goal.CompactionStrategy-dyn g (b.vtable, b.value)).may_refuse b.value) l.strategies)
      → AllByRecursion (λ (x : Life). AllByRecursion IsUsualCall x.steps.items) l.lives → SoFar (allowed may) (world_of l.store) (take l.life-index l.lives) l.all.items;
  crashes : CrashesSoFar (take l.life-index l.lives) l.all.items;
}

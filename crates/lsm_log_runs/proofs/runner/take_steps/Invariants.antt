use Rattle.std.proofs.Common.{◌≡◌, length, take}
use Rattle.lsm_runs.specs.Compacting.{strategies_of}
use Rattle.lsm_log_runs.specs.Doing.{StepDoes}
use Rattle.lsm_log_runs.specs.LoggedRuns.{RanThrough}
use Rattle.lsm_log_runs.specs.Slots.{beside}
use Rattle.lsm_log_runs.proofs.runner.take_steps.Given as goal

-- the steps so far ran
abbrev pub invariant-loop-step : goal.invariant-loop-step
invariant-loop-step g l = record {
  ran : RanThrough (StepDoes (strategies_of (λ b. (goal.CompactionStrategy-dyn g (b.vtable, b.value)).may_choose b.value) (λ b. (goal.CompactionStrategy-dyn g (b.vtable, b.value)).may_refuse b.value) l.strategies) g.S.Store.tells g.S.Store.world) g.S.Store.world
      (take l.step-index l.steps) l.replies.items (beside l.fn.tree l.fn.slots) (beside l.tree l.slots);
  many : length l.replies.items ≡ l.step-index;
}

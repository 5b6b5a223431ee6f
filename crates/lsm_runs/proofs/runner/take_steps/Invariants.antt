use Rattle.std.proofs.Common.{◌≡◌, length, take}
use Rattle.lsm_commit.specs.Foreign.{Passes}
use Rattle.lsm_runs.specs.Causes.{EachHasCause}
use Rattle.lsm_runs.specs.Chains.{point, RanTo}
use Rattle.lsm_runs.specs.Compacting.{strategies_of}
use Rattle.lsm_runs.specs.Files.{StaysStored}
use Rattle.lsm_runs.specs.Runs.{Ran}
use Rattle.lsm_runs.specs.Slots.{beside}
use Rattle.lsm_runs.specs.Unknown.{RanUnknown}
use Rattle.lsm_runs.proofs.runner.take_steps.Given as goal

-- the steps so far ran
abbrev pub invariant-loop-step : goal.invariant-loop-step
invariant-loop-step g l = record {
  ran : Ran (strategies_of (λ b. (goal.CompactionStrategy-dyn g (b.vtable, b.value)).may_choose b.value) (λ b. (goal.CompactionStrategy-dyn g (b.vtable, b.value)).may_refuse b.value) l.strategies)
      (take l.step-index l.steps) l.outcomes.items (beside l.fn.state.core l.fn.slots) (beside l.state.core l.slots);
  unknown : RanUnknown (strategies_of (λ b. (goal.CompactionStrategy-dyn g (b.vtable, b.value)).may_choose b.value) (λ b. (goal.CompactionStrategy-dyn g (b.vtable, b.value)).may_refuse b.value) l.strategies)
      (take l.step-index l.steps) l.outcomes.items (beside l.fn.state.core l.fn.slots) (beside l.state.core l.slots) l.fn.state.store l.state.store;
  causes : EachHasCause g.S.Store.world l.outcomes.items l.fn.state.store l.state.store;
  many : length l.outcomes.items ≡ l.step-index;
  stored : g.S.Store.tells → StaysStored (g.S.Store.world l.fn.state.store) (g.S.Store.world l.state.store) l.fn.state.core l.state.core;
  passes : g.S.Store.tells → Passes (g.S.Store.world l.fn.state.store) (g.S.Store.world l.state.store);
  along : g.S.Store.tells → RanTo g.S.Store.world (strategies_of (λ b. (goal.CompactionStrategy-dyn g (b.vtable, b.value)).may_choose b.value) (λ b. (goal.CompactionStrategy-dyn g (b.vtable, b.value)).may_refuse b.value) l.strategies)
      (take l.step-index l.steps) l.outcomes.items (point l.fn.state l.fn.slots) (point l.state l.slots);
}

use Rattle.std.proofs.Common.{◌≡◌}
use Rattle.lsm_state.specs.Core.{Core}
use Rattle.lsm_runs.specs.Slots.{GivesUpAll}
use Rattle.lsm_runs.proofs.runner.jobs.give_up_all.Given as goal

-- what is left to be given up
abbrev pub invariant-loop-place : goal.invariant-loop-place
invariant-loop-place g l = record {
  core : (new : Core) → GivesUpAll l.place-iterator l.state.core new → GivesUpAll l.fn.slots.entries l.fn.state.core new;
  store : l.state.store ≡ l.fn.state.store;
}

use Rattle.lsm_state.specs.Core.{Core}
use Rattle.lsm_runs.specs.Slots.{GivesUpAll}
use Rattle.lsm_log_runs.specs.Slots.{StaysBeside}
use Rattle.lsm_log_runs.proofs.runner.jobs.give_up_all.Given as goal

-- what is left to be given up
abbrev pub invariant-loop-place : goal.invariant-loop-place
invariant-loop-place g l = record {
  core : (new : Core) → GivesUpAll l.place-iterator l.tree.core new → GivesUpAll l.fn.slots.entries l.fn.tree.core new;
  rest : StaysBeside l.fn.tree l.tree;
}

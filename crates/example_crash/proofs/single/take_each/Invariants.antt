use Rattle.std.proofs.Common.{◌≡◌, ◌++◌, ℕ, List, take, length}
use Rattle.lsm_runs.specs.Memory.{MemStore}
use Rattle.lsm_runs.specs.Journal.{Map}
use Rattle.lsm_runs.specs.declared.steps.Step.{Step}
use Rattle.lsm_runs.specs.Compacting.{strategies_of}
use Rattle.lsm_runs.specs.Dropping.{Allowance, AllowsDrops, allowed}
use Rattle.lsm_runs.specs.Told.{Told}
use Rattle.example_crash.specs.Single.{HasTaken}
use Rattle.example_crash.proofs.single.take_each.Given as goal

-- the steps so far were taken
abbrev pub invariant-loop-at : goal.invariant-loop-at
invariant-loop-at g l = record {
  many : length l.outcomes.items ≡ l.at;
  taken : (may : Allowance) → AllowsDrops (allowed may) (strategies_of (λ b. (goal.CompactionStrategy-dyn g (b.vtable, b.value)).may_choose b.value) (λ b. (goal.CompactionStrategy-dyn g (b.vtable, b.value)).may_refuse b.value) l.strategies) → (m : Map) (was : MemStore) (from : ℕ) (before : List Step) (told : List Told) → HasTaken (allowed may) m was from before told l.fn.tree → HasTaken (allowed may) m was from (before ++ take l.at l.steps) (told ++ l.outcomes.items) l.tree;
}

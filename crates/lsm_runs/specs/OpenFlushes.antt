-- Which flush was begun last in each slot, as calls and replies tell it.
use Rattle.std.specs.Prelude.{ℕ, List, [], if◌then◌else◌, ◌==◌}
use Rattle.lsm_runs.specs.declared.steps.JobStep.TheVariants.{BeginFlush, RunFlush}
use Rattle.lsm_runs.specs.declared.steps.Step.{Step}
use Rattle.lsm_runs.specs.declared.steps.Step.TheVariants.{AtSlot}
use Rattle.lsm_runs.specs.declared.steps.Reply.{Reply}
use Rattle.lsm_runs.specs.declared.steps.Reply.TheVariants.{Begun, Done}

-- the flush that was begun last in a slot: its memtables, and the watermark at which it was merged, 0 before that
pub record BegunFlush : Type 0 where
  pub ids : List ℕ
  pub watermark : ℕ

-- before the first call
abbrev pub none_begun : ℕ → BegunFlush
none_begun n = record { ids = []; watermark = 0 }

-- a flush is begun of all that are sealed, and merged at the watermark that its step names
abbrev pub begun_after : List ℕ → Step → Reply → (ℕ → BegunFlush) → ℕ → BegunFlush
begun_after sealed (AtSlot slot BeginFlush) (Begun b) begun n = if n == slot then record { ids = sealed; watermark = 0 } else begun n
begun_after sealed (AtSlot slot (RunFlush w)) Done begun n = if n == slot then record { ids = (begun slot).ids; watermark = w } else begun n
begun_after sealed step reply begun n = begun n

-- From the calls on jobs to the replay of a journal, and to what they leave.
use Rattle.std.proofs.Common.{◌≡◌, inl, inr, ℕ, List, [], ◌++◌, Option, Some, None, option_map, refl, sym, ap, ◌∙◌, subst}
use Rattle.std.proofs.lemmas.Bool.Decides.{eqb_tells}
use Rattle.lsm_model.specs.Soundness.{Soundness}
use Rattle.lsm_model.specs.Journal.{Event}
use Rattle.lsm_flush.specs.Jobs.{SeenJob}
use Rattle.lsm_state.specs.declared.compaction.Options.{Options}
use Rattle.lsm_state.specs.Core.{Core}
use Rattle.lsm_journal.specs.NotedReads.{NotedCompactionsKeepReads}
use Rattle.lsm_runs.specs.declared.slots.Job.{Job}
use Rattle.lsm_runs.specs.declared.slots.Job.TheVariants.{Begun as BegunJob}
use Rattle.lsm_runs.specs.declared.steps.JobStep.{JobStep}
use Rattle.lsm_runs.specs.declared.steps.JobStep.TheVariants.{BeginFlush, RunFlush, FlushToTables, RegisterTables, AbandonFlush, BeginCompaction, RunCompaction, FinishCompaction, AbandonCompaction}
use Rattle.lsm_runs.specs.declared.steps.Reply.{Reply}
use Rattle.lsm_runs.specs.declared.steps.Reply.TheVariants.{Begun, Done, Registered, NoStrategy, NoJob, SlotInUse, Refused}
use Rattle.lsm_runs.specs.Slots.{Stage, at_first, merge_in}
use Rattle.lsm_runs.specs.Flushing.{IsIdle, TakesBegin, TakesRun, TakesTables, TakesRegister, TakesAbandon}
use Rattle.lsm_runs.specs.Compacting.{Strategies, TakesBeginCompaction, TakesRunCompaction, TakesFinish, TakesAbandonCompaction}
use Rattle.lsm_runs.specs.JobSteps.{TakesJob, TakesInSlot}
use Rattle.lsm_runs.proofs.FlushReplays.{KeepsRun, idle, begin_keeps, run_keeps, tables_keep, register_keeps, abandon_keeps}
use Rattle.lsm_runs.proofs.Keeping.{KeepLaws, KeepsAfter, keeps_flush}
use Rattle.lsm_runs.proofs.CompactionReplays.{IsMarkedAt, free_marked, stays_marked, begun_marked, begin_after, run_after, finish_after, abandon_after}

pub flush_after : (journal events : List Event) (old new : Core) → KeepsRun events old new → KeepsAfter journal events old new
flush_after journal events old new k = keeps_flush journal events old new k.0 k.1

pub idle_after : (theory : Soundness) (journal events : List Event) (old new : Core) → events ≡ [] → new ≡ old → KeepsAfter journal events old new
idle_after theory journal events old new none is = flush_after journal events old new (idle theory events old new none is)

-- ---- what such a call leaves of reads

module _ (laws : KeepLaws) where
  pub job_after : (strategies : Strategies) (step : JobStep) (reply : Reply) (journal events : List Event) (was is : Option Job) (old new : Core) → IsMarkedAt journal was → TakesJob strategies step reply events was is old new → KeepsAfter journal events old new
  job_after strategies BeginFlush reply journal events was is old new m t = flush_after journal events old new (begin_keeps laws.theory laws.flushes reply events was is old new t)
  job_after strategies (RunFlush w) reply journal events was is old new m t = flush_after journal events old new (run_keeps laws.theory laws.flushes w reply events was is old new t)
  job_after strategies FlushToTables reply journal events was is old new m t = flush_after journal events old new (tables_keep laws.theory laws.flushes reply events was is old new t)
  job_after strategies RegisterTables reply journal events was is old new m t = flush_after journal events old new (register_keeps laws.theory laws.flushes reply events was is old new t)
  job_after strategies AbandonFlush reply journal events was is old new m t = flush_after journal events old new (abandon_keeps laws.theory laws.flushes reply events was is old new t)
  job_after strategies (BeginCompaction at o) reply journal events was is old new m t = begin_after laws.compactions (idle_after laws.theory) strategies at o reply journal events was is old new t
  job_after strategies RunCompaction reply journal events was is old new m t = run_after laws.compactions (idle_after laws.theory) reply journal events was is old new t
  job_after strategies FinishCompaction reply journal events was is old new m t = finish_after laws.compactions (idle_after laws.theory) reply journal events was is old new m t
  job_after strategies AbandonCompaction reply journal events was is old new m t = abandon_after laws.compactions (idle_after laws.theory) reply journal events was is old new t

-- ---- the watermarks of merges whose jobs wait

-- that of each is marked
abbrev pub AreMarked : List Event → (ℕ → Option Job) → Type 0
AreMarked journal jobs = (n : ℕ) → IsMarkedAt journal (jobs n)

pub first_marked_behind : (journal : List Event) (c : Core) → AreMarked journal ((at_first c).jobs)
first_marked_behind journal c n = free_marked journal None refl

pub first_marked : (c : Core) → AreMarked [] ((at_first c).jobs)
first_marked c = first_marked_behind [] c

module _ (laws : NotedCompactionsKeepReads) (journal events : List Event) (was is : Option Job) where
  idle_marked : (old new : Core) → IsIdle events was is old new → IsMarkedAt journal was → IsMarkedAt (journal ++ events) is
  idle_marked old new t m = stays_marked laws journal events was is (ap merge_in t.1) m

  begin_marked : (reply : Reply) (old new : Core) → TakesBegin reply events was is old new → IsMarkedAt journal was → IsMarkedAt (journal ++ events) is
  begin_marked (Begun b) old new t m = go t.2.0 t.2.1
    where
      go : (job : Option SeenJob) → is ≡ option_map BegunJob job → IsMarkedAt (journal ++ events) is
      go None here = free_marked (journal ++ events) is (ap merge_in here)
      go (Some job) here = free_marked (journal ++ events) is (ap merge_in here)
  begin_marked (Refused x) old new t m = idle_marked old new t.0 m
  begin_marked SlotInUse old new t m = idle_marked old new t.0 m
  begin_marked reply old new t m = absurd t

  run_marked : (w : ℕ) (reply : Reply) (old new : Core) → TakesRun w reply events was is old new → IsMarkedAt journal was → IsMarkedAt (journal ++ events) is
  run_marked w Done old new t m = free_marked (journal ++ events) is (ap merge_in t.2.2)
  run_marked w (Refused x) old new t m = idle_marked old new t.0 m
  run_marked w NoJob old new t m = idle_marked old new t.0 m
  run_marked w reply old new t m = absurd t

  tables_marked : (reply : Reply) (old new : Core) → TakesTables reply events was is old new → IsMarkedAt journal was → IsMarkedAt (journal ++ events) is
  tables_marked Done old new t m = free_marked (journal ++ events) is (ap merge_in t.1.3)
  tables_marked (Refused x) old new t m = stays_marked laws journal events was is (ap merge_in t.1.2) m
  tables_marked NoJob old new t m = idle_marked old new t.0 m
  tables_marked reply old new t m = absurd t

  register_marked : (reply : Reply) (old new : Core) → TakesRegister reply events was is old new → IsMarkedAt journal was → IsMarkedAt (journal ++ events) is
  register_marked (Registered a) old new t m = free_marked (journal ++ events) is (ap merge_in t.2)
  register_marked (Refused x) old new t m = free_marked (journal ++ events) is (ap merge_in t.2)
  register_marked NoJob old new t m = idle_marked old new t.0 m
  register_marked reply old new t m = absurd t

  abandon_marked : (reply : Reply) (old new : Core) → TakesAbandon reply events was is old new → IsMarkedAt journal was → IsMarkedAt (journal ++ events) is
  abandon_marked Done old new t m = free_marked (journal ++ events) is (ap merge_in t.1.2)
  abandon_marked NoJob old new t m = idle_marked old new t.0 m
  abandon_marked reply old new t m = absurd t

  compaction_marked : (strategies : Strategies) (at : ℕ) (o : Options) (reply : Reply) (old new : Core) → TakesBeginCompaction strategies at o reply events was is old new → IsMarkedAt journal was → IsMarkedAt (journal ++ events) is
  compaction_marked strategies at o SlotInUse old new t m = idle_marked old new t.0 m
  compaction_marked strategies at o NoStrategy old new t m = idle_marked old new t.0 m
  compaction_marked strategies at o reply old new t m = begun_marked laws journal events t.answer o t.begun is old new t.begins t.waits

  compacted_marked : (reply : Reply) (old new : Core) → TakesRunCompaction reply events was is old new → IsMarkedAt journal was → IsMarkedAt (journal ++ events) is
  compacted_marked Done old new t m = stays_marked laws journal events was is (ap merge_in t.2.2 ∙ sym (ap merge_in t.2.1)) m
  compacted_marked (Refused x) old new t m = idle_marked old new t.0 m
  compacted_marked NoJob old new t m = idle_marked old new t.0 m
  compacted_marked reply old new t m = absurd t

  finished_marked : (reply : Reply) (old new : Core) → TakesFinish reply events was is old new → IsMarkedAt journal was → IsMarkedAt (journal ++ events) is
  finished_marked NoJob old new t m = idle_marked old new t.0 m
  finished_marked reply old new t m = free_marked (journal ++ events) is (ap merge_in t.free)

  given_marked : (reply : Reply) (old new : Core) → TakesAbandonCompaction reply events was is old new → IsMarkedAt journal was → IsMarkedAt (journal ++ events) is
  given_marked Done old new t m = free_marked (journal ++ events) is (ap merge_in t.1.2)
  given_marked NoJob old new t m = idle_marked old new t.0 m
  given_marked reply old new t m = absurd t

  job_marked : (strategies : Strategies) (step : JobStep) (reply : Reply) (old new : Core) → TakesJob strategies step reply events was is old new → IsMarkedAt journal was → IsMarkedAt (journal ++ events) is
  job_marked strategies BeginFlush reply old new t m = begin_marked reply old new t m
  job_marked strategies (RunFlush w) reply old new t m = run_marked w reply old new t m
  job_marked strategies FlushToTables reply old new t m = tables_marked reply old new t m
  job_marked strategies RegisterTables reply old new t m = register_marked reply old new t m
  job_marked strategies AbandonFlush reply old new t m = abandon_marked reply old new t m
  job_marked strategies (BeginCompaction at o) reply old new t m = compaction_marked strategies at o reply old new t m
  job_marked strategies RunCompaction reply old new t m = compacted_marked reply old new t m
  job_marked strategies FinishCompaction reply old new t m = finished_marked reply old new t m
  job_marked strategies AbandonCompaction reply old new t m = given_marked reply old new t m

-- the same jobs, after a longer journal
pub still_marked : (laws : NotedCompactionsKeepReads) (journal events : List Event) (was is : ℕ → Option Job) → is ≡ was → AreMarked journal was → AreMarked (journal ++ events) is
still_marked laws journal events was is same m n = stays_marked laws journal events (was n) (is n) (ap (λ (jobs : ℕ → Option Job). merge_in (jobs n)) same) (m n)

pub slot_marked : (laws : NotedCompactionsKeepReads) (strategies : Strategies) (slot : ℕ) (step : JobStep) (reply : Reply) (journal events : List Event) (old new : Stage) → TakesInSlot strategies slot step reply events old new → AreMarked journal old.jobs → AreMarked (journal ++ events) new.jobs
slot_marked laws strategies slot step reply journal events old new t m n = elim (eqb_tells n slot) [
  | inl e ↦ subst (λ k. IsMarkedAt (journal ++ events) (new.jobs k)) (sym e.1) (job_marked laws journal events (old.jobs slot) (new.jobs slot) strategies step reply old.core new.core t.0 (m slot))
  | inr e ↦ stays_marked laws journal events (old.jobs n) (new.jobs n) (ap merge_in (t.1 n e.1)) (m n)
]

-- What the steps of a run are to the theory of crashes.
use Rattle.std.proofs.Common.{◌≡◌, List, [], ◌++◌, Option, refl, sym, subst}
use Rattle.std.specs.declared.ops.Bound.TheVariants.{Unbounded}
use Rattle.lsm_below.specs.Entries.{Entry}
use Rattle.lsm_model.specs.Journal.{Event, Map, InOrder}
use Rattle.lsm_model.specs.Beginnings.{Note}
use Rattle.lsm_model.specs.declared.question.Question.TheVariants.{Between, Prefix as AskPrefix}
use Rattle.lsm_state.specs.Core.{Core}
use Rattle.lsm_state.specs.Listing.{Lists, ListsPrefix}
use Rattle.lsm_runs.specs.declared.slots.Job.{Job}
use Rattle.lsm_runs.specs.declared.steps.JobStep.{JobStep}
use Rattle.lsm_runs.specs.declared.steps.JobStep.TheVariants.{BeginFlush, RunFlush, FlushToTables, RegisterTables, AbandonFlush, BeginCompaction, RunCompaction, FinishCompaction, AbandonCompaction}
use Rattle.lsm_runs.specs.declared.steps.Step.{Step as Call}
use Rattle.lsm_runs.specs.declared.steps.Step.TheVariants.{Insert, Remove, RemoveWeak, AppendEntry, Write, Get, GetInternalEntry, ContainsKey, SizeOf, Range, Iter, Prefix, Len, IsEmpty, FirstKeyValue, LastKeyValue, RotateMemtable, Next, Set, FetchMax, AtSlot, Flush, FlushActiveMemtable, Compact, DoCompaction, MajorCompact, DropRange, Clear, ClearActiveMemtable, GetNextTableId, SetMoment, Count as CountOf, IsUncertain, IsCompacting, TreeType}
use Rattle.lsm_runs.specs.declared.steps.Reply.{Reply}
use Rattle.lsm_runs.specs.Compacting.{Strategies}
use Rattle.lsm_runs.specs.JobSteps.{TakesJob}
use Rattle.lsm_runs.specs.Noting.{job_notes, alone_notes, notes_of}
use Rattle.lsm_runs.specs.Runs.{Takes, TakesAlone, without_low_reads}
use Rattle.lsm_runs.specs.Slots.{Stage}
use Rattle.lsm_runs.proofs.CallDeeds.{none, entry_deeds, batch_deeds, rotate_deeds, next_deeds, counter_deeds, clear_deeds, get_deeds, get_entry_deeds, pairs_deeds}
use Rattle.lsm_runs.proofs.Clearing.{clear_after}
use Rattle.lsm_runs.proofs.CompactionReplays.{IsMarkedAt, compact_after, major_after, drop_after, table_id_after}
use Rattle.lsm_runs.proofs.FlushDeeds.{register_deeds, begin_deeds, run_deeds, tables_deeds, abandon_deeds, moment_deeds, flush_deeds, active_deeds}
use Rattle.lsm_runs.proofs.FlushReplays.{flush_keeps, active_keeps, moment_keeps}
use Rattle.lsm_runs.proofs.JobReplays.{idle_after, job_after, AreMarked}
use Rattle.lsm_runs.proofs.Keeping.{KeepLaws, AreNoReads, marked_without}
use Rattle.lsm_runs.proofs.MergeDeeds.{begin_compaction_deeds, run_compaction_deeds, finish_deeds, abandon_compaction_deeds, table_id_deeds, compact_deeds, major_deeds, drop_deeds}
use Rattle.lsm_runs.proofs.StepDeeds.{HasDeeds, IsRight}

module _ (laws : KeepLaws) (strategies : Strategies) (opened : List Entry) (start : Map) (journal : List Event) (notes : List Note) where
  -- the journal that counts
  abbrev before : List Event
  before = without_low_reads opened journal

  module _ (old new : Core) (right : IsRight opened start before old) where
    abbrev Goal : List Event → List Note → Type 0
    Goal events noted = HasDeeds opened before notes events noted old new

    -- all of the events count
    all : (events : List Event) (noted : List Note) → AreNoReads events → Goal events noted → Goal (without_low_reads opened events) noted
    all events noted unread d = subst (λ es. Goal es noted) (sym (unread opened)) d

    job_deeds : (step : JobStep) (reply : Reply) (events : List Event) (was is : Option Job) → IsMarkedAt before was → TakesJob strategies step reply events was is old new → Goal events (job_notes step reply was)
    job_deeds BeginFlush reply events was is m t = begin_deeds laws.theory opened start before notes old new right reply events was is t
    job_deeds (RunFlush w) reply events was is m t = run_deeds laws.theory opened start before notes old new right w reply events was is t
    job_deeds FlushToTables reply events was is m t = tables_deeds laws.theory opened start before notes old new right reply events was is t
    job_deeds RegisterTables reply events was is m t = register_deeds laws.theory opened start before notes old new right reply events was is t
    job_deeds AbandonFlush reply events was is m t = abandon_deeds laws.theory opened start before notes old new right reply events was is t
    job_deeds (BeginCompaction at o) reply events was is m t = begin_compaction_deeds laws.theory opened start before notes old new right strategies at o reply events was is t
    job_deeds RunCompaction reply events was is m t = run_compaction_deeds laws.theory opened start before notes old new right reply events was is t
    job_deeds FinishCompaction reply events was is m t = finish_deeds laws.theory opened start before notes old new right reply events was is m t
    job_deeds AbandonCompaction reply events was is m t = abandon_compaction_deeds laws.theory opened start before notes old new right reply events was is t

    alone_deeds : (x : Call) (reply : Reply) (events : List Event) → (x ≡ ClearActiveMemtable → ⊥) → InOrder opened (before ++ without_low_reads opened events) → TakesAlone strategies x reply events old new → Goal (without_low_reads opened events) (alone_notes x reply old before)
    alone_deeds (Insert k v n) reply events plain order t = entry_deeds laws.theory opened start before notes old new right _ reply events t
    alone_deeds (Remove k n) reply events plain order t = entry_deeds laws.theory opened start before notes old new right _ reply events t
    alone_deeds (RemoveWeak k n) reply events plain order t = entry_deeds laws.theory opened start before notes old new right _ reply events t
    alone_deeds (AppendEntry e) reply events plain order t = entry_deeds laws.theory opened start before notes old new right _ reply events t
    alone_deeds (Write ops) reply events plain order t = batch_deeds laws.theory opened start before notes old new right ops reply events t
    alone_deeds (Get k s) reply events plain order t = get_deeds laws.theory opened start before notes old new right k s reply events t
    alone_deeds (GetInternalEntry k s) reply events plain order t = get_entry_deeds laws.theory opened start before notes old new right k s reply events t
    alone_deeds (ContainsKey k s) reply events plain order t = none laws.theory opened start before notes old new right events t.0 t.1
    alone_deeds (SizeOf k s) reply events plain order t = none laws.theory opened start before notes old new right events t.0 t.1
    alone_deeds (Range low high s) reply events plain order t = pairs_deeds laws.theory opened start before notes old new right (Between low high) (Lists old low high s) s reply events t
    alone_deeds (Iter s) reply events plain order t = pairs_deeds laws.theory opened start before notes old new right (Between Unbounded Unbounded) (Lists old Unbounded Unbounded s) s reply events t
    alone_deeds (Prefix p s) reply events plain order t = pairs_deeds laws.theory opened start before notes old new right (AskPrefix p) (ListsPrefix old p s) s reply events t
    alone_deeds (Len s) reply events plain order t = none laws.theory opened start before notes old new right events t.0 t.1
    alone_deeds (IsEmpty s) reply events plain order t = none laws.theory opened start before notes old new right events t.0 t.1
    alone_deeds (FirstKeyValue s) reply events plain order t = none laws.theory opened start before notes old new right events t.0 t.1
    alone_deeds (LastKeyValue s) reply events plain order t = none laws.theory opened start before notes old new right events t.0 t.1
    alone_deeds RotateMemtable reply events plain order t = rotate_deeds laws.theory opened start before notes old new right reply events t
    alone_deeds (Next counter) reply events plain order t = next_deeds laws.theory opened start before notes old new right counter reply events t
    alone_deeds (Set counter n) reply events plain order t = counter_deeds laws.theory opened start before notes old new right counter _ reply events t
    alone_deeds (FetchMax counter n) reply events plain order t = counter_deeds laws.theory opened start before notes old new right counter _ reply events t
    alone_deeds (Flush w) reply events plain order t = all events _ (flush_keeps laws.theory laws.flushes w reply events old new t).0 (flush_deeds laws.theory opened start before notes old new right w reply events t)
    alone_deeds (FlushActiveMemtable w) reply events plain order t =
        let unread = (active_keeps laws.theory laws.flushes w reply events old new t).0 in
        all events _ unread (active_deeds laws.theory opened start before notes old new right w reply events (subst (λ es. InOrder opened (before ++ es)) (unread opened) order) t)
    alone_deeds (Compact at w) reply events plain order t =
        let unread = (compact_after laws.compactions (idle_after laws.theory) strategies at _ reply journal events old new t).unread in
        all events [] unread (compact_deeds laws.theory laws.compactions opened start before notes old new right strategies at _ reply events (subst (λ es. InOrder opened (before ++ es)) (unread opened) order) t)
    alone_deeds (DoCompaction at o) reply events plain order t =
        let unread = (compact_after laws.compactions (idle_after laws.theory) strategies at o reply journal events old new t).unread in
        all events [] unread (compact_deeds laws.theory laws.compactions opened start before notes old new right strategies at o reply events (subst (λ es. InOrder opened (before ++ es)) (unread opened) order) t)
    alone_deeds (MajorCompact target w) reply events plain order t =
        let unread = (major_after laws.compactions (idle_after laws.theory) target w reply journal events old new t).unread in
        all events [] unread (major_deeds laws.theory laws.compactions opened start before notes old new right target w reply events (subst (λ es. InOrder opened (before ++ es)) (unread opened) order) t)
    alone_deeds (DropRange low high) reply events plain order t =
        let unread = (drop_after laws.compactions (idle_after laws.theory) _ reply journal events old new t).unread in
        all events [] unread (drop_deeds laws.theory laws.compactions opened start before notes old new right _ reply events (subst (λ es. InOrder opened (before ++ es)) (unread opened) order) t)
    alone_deeds Clear reply events plain order t = all events _ (clear_after laws.clears reply journal events old new t).unread (clear_deeds laws.theory opened start before notes old new right reply events t)
    alone_deeds ClearActiveMemtable reply events plain order t = absurd (plain refl)
    alone_deeds GetNextTableId reply events plain order t = all events [] (table_id_after laws.compactions (idle_after laws.theory) reply journal events old new t).unread (table_id_deeds laws.theory opened start before notes old new right reply events t)
    alone_deeds IsCompacting reply events plain order t = none laws.theory opened start before notes old new right events t.0 t.1
    alone_deeds (SetMoment n) reply events plain order t = all events [] (moment_keeps laws.theory laws.flushes n reply events old new t).0 (moment_deeds laws.theory opened start before notes old new right n reply events t)
    alone_deeds (CountOf what) reply events plain order t = none laws.theory opened start before notes old new right events t.0 t.1
    alone_deeds IsUncertain reply events plain order t = none laws.theory opened start before notes old new right events t.0 t.1
    alone_deeds TreeType reply events plain order t = none laws.theory opened start before notes old new right events t.0 t.1
    alone_deeds (AtSlot slot step) reply events plain order t = absurd t

  step_marked : (place : Option Job) → IsMarkedAt journal place → IsMarkedAt before place
  step_marked place m job waits = marked_without opened job.settings.watermark journal before refl (m job waits)

  pub step_deeds : (x : Call) (reply : Reply) (events : List Event) (old new : Stage) → (x ≡ ClearActiveMemtable → ⊥) → IsRight opened start before old.core → AreMarked journal old.jobs → InOrder opened (before ++ without_low_reads opened events) → Takes strategies x reply events old new
      → HasDeeds opened before notes (without_low_reads opened events) (notes_of x reply old before) old.core new.core
  step_deeds (AtSlot slot step) reply events old new plain right m order t =
      let unread = (job_after laws strategies step reply journal events (old.jobs slot) (new.jobs slot) old.core new.core (m slot) t.0).unread in
      all old.core new.core right events _ unread (job_deeds old.core new.core right step reply events (old.jobs slot) (new.jobs slot) (step_marked (old.jobs slot) (m slot)) t.0)
  step_deeds x reply events old new plain right m order t = alone_deeds old.core new.core right x reply events plain order t.0

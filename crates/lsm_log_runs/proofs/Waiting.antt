-- What waits in the slots, beside what was called.
use Rattle.std.proofs.Common.{◌≡◌, ⊎_elim, ◌⊎◌, inl, inr, ℕ, Bool, true, false, cond, List, [], ◌∷◌, ◌++◌, Option, Some, None, IsSome, is_some, option_map, Result, Ok, Err, refl, sym, ap, ◌∙◌, subst, eq-eqb}
use Rattle.std.proofs.lemmas.Bool.Decides.{eqb_tells}
use Rattle.lsm_below.specs.Ranges.{Range}
use Rattle.lsm_below.specs.declared.error.Error.{Error}
use Rattle.lsm_below.specs.declared.error.Error.TheVariants.{OutOfMemory, Unrecoverable}
use Rattle.lsm_model.specs.Journal.{Event}
use Rattle.lsm_model.specs.declared.journal.JournalEntry.TheVariants.{Mark}
use Rattle.lsm_logged.specs.Levels.{SeenVersion}
use Rattle.lsm_logged.specs.Jobs.{SeenJob, SeenMerged, SeenWritten}
use Rattle.lsm_logged.specs.Merges.{SeenCompaction}
use Rattle.lsm_run_model.specs.Outcomes.{sealed_in}
use Rattle.lsm_journal.specs.NotedReads.{NotedCompactionsKeepReads}
use Rattle.lsm_logged.specs.Why.{Why}
use Rattle.lsm_pick.specs.declared.choice.Choice.{Choice}
use Rattle.lsm_pick.specs.declared.choice.Choice.TheVariants.{DoNothing, Move, Merge, Drop}
use Rattle.lsm_pick.specs.declared.choice.ChooseError.{ChooseError}
use Rattle.lsm_state.specs.CompactionDeeds.{IsMarkedIn}
use Rattle.lsm_state.specs.Compactions.{Relation, reason_of, job_for, Does, BeginsChoice, BeginsCompaction, error_of}
use Rattle.lsm_state.specs.Core.{Core}
use Rattle.lsm_state.specs.Flushes.{sealed_ids, Begins}
use Rattle.lsm_state.specs.declared.compaction.Begun.{Begun as HowBegun}
use Rattle.lsm_state.specs.declared.compaction.Begun.TheVariants.{DidNothing, Declined, Installed, Job as MergeJob}
use Rattle.lsm_state.specs.declared.compaction.Options.{Options}
use Rattle.lsm_runs.specs.declared.slots.Job.{Job}
use Rattle.lsm_runs.specs.declared.slots.Job.TheVariants.{Begun as BegunJob}
use Rattle.lsm_runs.specs.declared.steps.JobStep.{JobStep}
use Rattle.lsm_runs.specs.declared.steps.JobStep.TheVariants.{BeginFlush, RunFlush, FlushToTables, RegisterTables, AbandonFlush, BeginCompaction, RunCompaction, FinishCompaction, AbandonCompaction}
use Rattle.lsm_runs.specs.declared.steps.Reply.{Reply}
use Rattle.lsm_runs.specs.declared.steps.Reply.TheVariants.{Begun, Done, Registered, NoStrategy, NoJob, SlotInUse, Refused}
use Rattle.lsm_runs.specs.Compacting.{Strategies, reply_of, job_of, TakesRunCompaction}
use Rattle.lsm_runs.specs.Flushing.{TakesRun}
use Rattle.lsm_runs.specs.OpenFlushes.{BegunFlush}
use Rattle.lsm_runs.specs.Slots.{flush_in, merge_in}
use Rattle.lsm_logged.specs.Asking.{Asks}
use Rattle.lsm_logged.specs.Flushing.{BeginsLogged, WritesJobLogged}
use Rattle.lsm_logged.specs.Keeping.{SeenLogged}
use Rattle.lsm_log_runs.specs.Adds.{AddsBegun, AddsMerged, AddsCompaction, AddsRegister, AddsMerge, AddsJob}
use Rattle.lsm_log_runs.specs.JobSteps.{IsIdle, TakesBegin, TakesTables, TakesRegister, TakesAbandon, TakesBeginCompaction, TakesFinish, TakesAbandonCompaction, TakesJob}
use Rattle.lsm_log_runs.specs.Pasts.{LogPast, with_slot, with_begun}
use Rattle.lsm_log_runs.specs.Standing.{mark_in, WaitsAt, AreWaiting}
use Rattle.lsm_log_runs.proofs.Growing.{Grows}

-- ---- what waits

no_flush : (o : Option SeenJob) (a : SeenJob) → o ≡ None → o ≡ Some a → ⊥
no_flush o a none some = cc

no_mark : (o : Option ℕ) (w : ℕ) → o ≡ None → o ≡ Some w → ⊥
no_mark o w none some = cc

one_mark : (o : Option ℕ) (v w : ℕ) → o ≡ Some v → o ≡ Some w → v ≡ w
one_mark o v w first second = cc

one_flush : (o : Option SeenJob) (a b : SeenJob) → o ≡ Some a → o ≡ Some b → a ≡ b
one_flush o a b first second = cc

no_merge : (o : Option SeenCompaction) (a : SeenCompaction) → o ≡ None → o ≡ Some a → ⊥
no_merge o a none some = cc

one_merge : (o : Option SeenCompaction) (a b : SeenCompaction) → o ≡ Some a → o ≡ Some b → a ≡ b
one_merge o a b first second = cc

-- nothing, a flush that isn't merged or is, a merge, or the same as before
none_waits : (flush : BegunFlush) (journal : List Event) (place : Option Job) → place ≡ None → WaitsAt flush journal place
none_waits flush journal place none = record {
  begun = λ job at. absurd (no_flush (flush_in place) job (ap flush_in none) at);
  merged = λ w at. absurd (no_mark (mark_in place) w (ap mark_in none) at);
  marked = λ job at. absurd (no_merge (merge_in place) job (ap merge_in none) at);
}

begun_waits : (flush : BegunFlush) (journal : List Event) (place : Option Job) (job : SeenJob) → place ≡ Some (BegunJob job) → job.ids ≡ flush.ids → WaitsAt flush journal place
begun_waits flush journal place job there is = record {
  begun = λ other at. ap (λ (j : SeenJob). j.ids) (one_flush (flush_in place) other job at (ap flush_in there)) ∙ is;
  merged = λ w at. absurd (no_mark (mark_in place) w (ap mark_in there) at);
  marked = λ other at. absurd (no_merge (merge_in place) other (ap merge_in there) at);
}

flush_waits : (flush : BegunFlush) (journal : List Event) (place : Option Job) (job : SeenJob) (w : ℕ) → flush_in place ≡ Some job → mark_in place ≡ Some w → merge_in place ≡ None → job.ids ≡ flush.ids → w ≡ flush.watermark → WaitsAt flush journal place
flush_waits flush journal place job w there mark none is at_mark = record {
  begun = λ other at. ap (λ (j : SeenJob). j.ids) (one_flush (flush_in place) other job at there) ∙ is;
  merged = λ v at. one_mark (mark_in place) v w at mark ∙ at_mark;
  marked = λ other at. absurd (no_merge (merge_in place) other none at);
}

merge_waits : (flush : BegunFlush) (journal : List Event) (place : Option Job) (job : SeenCompaction) → flush_in place ≡ None → mark_in place ≡ None → merge_in place ≡ Some job → IsMarkedIn job.settings.watermark journal → WaitsAt flush journal place
merge_waits flush journal place job none unmarked there marked = record {
  begun = λ other at. absurd (no_flush (flush_in place) other none at);
  merged = λ w at. absurd (no_mark (mark_in place) w unmarked at);
  marked = λ other at. subst (λ (j : SeenCompaction). IsMarkedIn j.settings.watermark journal) (one_merge (merge_in place) job other there at) marked;
}

same_waits : (flush : BegunFlush) (journal : List Event) (was is : Option Job) → flush_in is ≡ flush_in was → mark_in is ≡ mark_in was → merge_in is ≡ merge_in was → WaitsAt flush journal was → WaitsAt flush journal is
same_waits flush journal was is job mark merge w = record {
  begun = λ other at. w.begun other (sym job ∙ at);
  merged = λ v at. w.merged v (sym mark ∙ at);
  marked = λ other at. w.marked other (sym merge ∙ at);
}

pub first_waiting : (past : LogPast) → AreWaiting past (λ n. None)
first_waiting past n = none_waits (past.begun n) past.journal None refl

-- as more is called
pub grown_waits : (laws : NotedCompactionsKeepReads) (Other : ℕ → Type 0) (past next : LogPast) → Grows Other past next → (n : ℕ) → Other n → (was is : Option Job) → is ≡ was → WaitsAt (past.begun n) past.journal was → WaitsAt (next.begun n) next.journal is
grown_waits laws Other past next g n other was is same w = record {
  begun = λ job at. w.begun job (sym (ap flush_in same) ∙ at) ∙ sym (ap (λ (f : BegunFlush). f.ids) (g.begun n other));
  merged = λ v at. w.merged v (sym (ap mark_in same) ∙ at) ∙ sym (ap (λ (f : BegunFlush). f.watermark) (g.begun n other));
  marked = λ job at. subst (IsMarkedIn job.settings.watermark) (sym g.journal) (laws.lasts job.settings.watermark past.journal g.events (w.marked job (sym (ap merge_in same) ∙ at)));
}

-- ---- what a call begins

-- a flush is begun as the tree begins it
pub begins_of : {S : Type 0} (job : Option SeenJob) (old new : SeenLogged S) → BeginsLogged (Ok job) old new → Begins (Ok job) old.core new.core
begins_of job old new b = b.begins (sure old.doubted refl (sealed_ids old.core) refl)
  where
    sure : (d : Bool) → old.doubted ≡ d → (ids : List ℕ) → sealed_ids old.core ≡ ids → (old.doubted ≡ false) ⊎ (sealed_ids old.core ≡ [])
    sure false is ids at = inl is
    sure true is [] at = inr at
    sure true is (i ∷ ids) at = let z = (b.doubted is (λ e. let y : ◌≡◌ {A = List ℕ} (i ∷ ids) [] = sym at ∙ e in cc y)).0 in absurd (cc z)

-- a merge that is begun has the watermark of its options
merge_mark : {S : Type 0} (may_choose : Relation Choice) (may_refuse : Relation ChooseError) (o : Options) (job : SeenCompaction) (old new : SeenLogged S) → Asks (Ok (MergeJob job)) old new (BeginsCompaction may_choose may_refuse o (Ok (MergeJob job)) old.core new.core) → job.settings.watermark ≡ o.mvcc_gc_watermark
merge_mark may_choose may_refuse o job old new asks = by_doubt old.doubted refl
  where
    refused : (e : Error) → ◌≡◌ {A = Result HowBegun Error} (Ok (MergeJob job)) (Err e) → ⊥
    refused e h = cc h

    same_job : (a b : SeenCompaction) → ◌≡◌ {A = HowBegun} (MergeJob a) (MergeJob b) → a ≡ b
    same_job a b h = cc h

    done : (choice : Choice) → Does choice o (Ok (MergeJob job)) old.core new.core → job.settings.watermark ≡ o.mvcc_gc_watermark
    done DoNothing d = absurd (cc d.0)
    done (Move input) d = absurd (cc d.ok)
    done (Merge input) d = ap (λ (j : SeenCompaction). j.settings.watermark) (same_job job (job_for input o old.core) d.job)
    done (Drop ids) d = absurd (cc d.ok)

    declined : (why : Why) → ◌≡◌ {A = Result HowBegun Error} (Ok (MergeJob job)) (Ok (Declined why)) → ⊥
    declined why h = cc h

    chosen : (choice : Choice) → BeginsChoice choice o (Ok (MergeJob job)) old.core new.core → old.core.lost ≡ None → (why : Option Why) → reason_of choice old.core ≡ why → job.settings.watermark ≡ o.mvcc_gc_watermark
    chosen choice b certain None is = done choice (b.does certain is)
    chosen choice b certain (Some why) is = ⊎_elim (λ h. absurd (declined why h)) (λ h. absurd (refused OutOfMemory h)) (b.declines why certain is).0

    by_lost : BeginsCompaction may_choose may_refuse o (Ok (MergeJob job)) old.core new.core → (l : Option SeenVersion) → old.core.lost ≡ l → job.settings.watermark ≡ o.mvcc_gc_watermark
    by_lost b None certain = ⊎_elim (λ c. chosen c.0 c.2 certain (reason_of c.0 old.core) refl) (λ r. absurd (refused (error_of r.0) r.2)) (b.chosen certain)
    by_lost b (Some v) is = absurd (refused Unrecoverable (b.unrecoverable.1 (subst (λ (p : Option SeenVersion). IsSome p) (sym is) refl)))

    by_doubt : (d : Bool) → old.doubted ≡ d → job.settings.watermark ≡ o.mvcc_gc_watermark
    by_doubt true is = absurd (refused Unrecoverable (asks.doubted is).0)
    by_doubt false is = by_lost (asks.call is) old.core.lost refl

-- ---- a call on the job in a slot

module _ {S : Type 0} (laws : NotedCompactionsKeepReads) (May : List Range → Type 0) (c slot : ℕ) (past next : LogPast) (was is : Option Job) (here : WaitsAt (past.begun slot) past.journal was) (old new : SeenLogged S) where
  abbrev Goal : Type 0
  Goal = WaitsAt (next.begun slot) next.journal is

  -- nothing is added, and the slot has a job of the same flush or merge
  stays : next ≡ past → flush_in is ≡ flush_in was → mark_in is ≡ mark_in was → merge_in is ≡ merge_in was → Goal
  stays same flush mark merge = subst (λ (p : LogPast). WaitsAt (p.begun slot) p.journal is) (sym same) (same_waits (past.begun slot) past.journal was is flush mark merge here)

  idle : next ≡ past → IsIdle was is old new → Goal
  idle same t = stays same (ap flush_in t.0) (ap mark_in t.0) (ap merge_in t.0)

  freed : is ≡ None → Goal
  freed free = none_waits (next.begun slot) next.journal is free

  -- what is begun in the slot
  here_is : (flush : BegunFlush) → (with_slot slot flush past).begun slot ≡ flush
  here_is flush = ap (λ b. cond b flush (past.begun slot)) (eq-eqb slot slot refl)

  begin_waits : sealed_ids old.core ≡ sealed_in past.notes → (reply : Reply) → TakesBegin reply was is old new → AddsBegun slot reply past next → Goal
  begin_waits sealed (Begun b) t adds = go b t.1.0 t.1.1 t.1.2 t.1.3 adds
    where
      begun_here : (job : SeenJob) → is ≡ Some (BegunJob job) → Begins (Ok (Some job)) old.core new.core → WaitsAt ((with_begun slot past).begun slot) past.journal is
      begun_here job at begins = begun_waits ((with_begun slot past).begun slot) past.journal is job at
          (ap (λ (j : SeenJob). j.ids) begins.begins.0 ∙ sealed ∙ sym (ap (λ (f : BegunFlush). f.ids) (here_is (record { ids = sealed_in past.notes; watermark = 0 }))))

      go : (b : Bool) (job : Option SeenJob) → is ≡ option_map BegunJob job → b ≡ is_some job → BeginsLogged (Ok job) old new → AddsBegun slot (Begun b) past next → Goal
      go true (Some job) at some begins adds = subst (λ (p : LogPast). WaitsAt (p.begun slot) p.journal is) (sym adds) (begun_here job at (begins_of (Some job) old new begins))
      go true None at some begins adds = absurd (cc some)
      go false (Some job) at some begins adds = absurd (cc some)
      go false None at some begins adds = freed at
  begin_waits sealed (Refused x) t adds = stays adds (ap flush_in t.0) (ap mark_in t.0) (ap merge_in t.0)
  begin_waits sealed SlotInUse t adds = idle adds t.0
  begin_waits sealed reply t adds = absurd t

  run_waits : (w : ℕ) (reply : Reply) (a b : Core) → TakesRun w reply [] was is a b → AddsMerged slot w reply past next → Goal
  run_waits w Done a b t adds =
      let job = t.2.0 in
      let flush : BegunFlush = record { ids = (past.begun slot).ids; watermark = w } in
      subst (λ (p : LogPast). WaitsAt (p.begun slot) p.journal is) (sym adds)
      (subst (λ f. WaitsAt f past.journal is) (sym (here_is flush))
      (flush_waits flush past.journal is job.job job.watermark (ap flush_in t.2.2) (ap mark_in t.2.2) (ap merge_in t.2.2) (here.begun job.job (ap flush_in t.2.1)) t.2.3))
  run_waits w (Refused x) a b t same = stays same (ap flush_in t.0.1) (ap mark_in t.0.1) (ap merge_in t.0.1)
  run_waits w NoJob a b t same = stays same (ap flush_in t.0.1) (ap mark_in t.0.1) (ap merge_in t.0.1)
  run_waits w reply a b t same = absurd t

  tables_waits : (reply : Reply) → TakesTables reply was is old new → next ≡ past → Goal
  tables_waits Done t same =
      let job = t.0 in
      let made = t.1 in
      subst (λ (p : LogPast). WaitsAt (p.begun slot) p.journal is) (sym same)
      (let of = of_job job made t.4 old.doubted refl in
      flush_waits (past.begun slot) past.journal is made.job made.watermark (ap flush_in t.3) (ap mark_in t.3) (ap merge_in t.3) (ap (λ (j : SeenJob). j.ids) of.0 ∙ here.begun job.job (ap flush_in t.2)) (of.1 ∙ here.merged job.watermark (ap mark_in t.2)))
    where
      of_job : (job : SeenMerged) (made : SeenWritten) → WritesJobLogged job (Ok made) old new → (d : Bool) → old.doubted ≡ d → (made.job ≡ job.job) × (made.watermark ≡ job.watermark)
      of_job job made writes true at = let z = (writes.doubted at).0 in absurd (cc z)
      of_job job made writes false at = let of = (writes.writes at).of_job in (of.0, of.1)
  tables_waits (Refused x) t same = stays same (ap flush_in t.2) (ap mark_in t.2) (ap merge_in t.2)
  tables_waits NoJob t same = idle same t.0
  tables_waits reply t same = absurd t

  register_waits : (reply : Reply) → TakesRegister reply was is old new → AddsRegister c slot reply past next → Goal
  register_waits (Registered a) t adds = freed t.2
  register_waits (Refused x) t adds = freed t.2
  register_waits NoJob t adds = idle adds t.0
  register_waits reply t adds = absurd t

  abandon_waits : (reply : Reply) → TakesAbandon reply was is old new → next ≡ past → Goal
  abandon_waits Done t same = freed t.2
  abandon_waits NoJob t same = idle same t.0
  abandon_waits reply t same = absurd t

  compaction_waits : (strategies : Strategies) (at : ℕ) (o : Options) (reply : Reply) → TakesBeginCompaction strategies at o reply was is old new → AddsCompaction May c o.mvcc_gc_watermark reply past next → Goal
  compaction_waits strategies at o SlotInUse t adds = idle adds t.0
  compaction_waits strategies at o NoStrategy t adds = idle adds t.0
  compaction_waits strategies at o reply t adds = go t.begun t.waits t.begins (subst (λ r. AddsCompaction May c o.mvcc_gc_watermark r past next) t.told adds)
    where
      go : (begun : Result HowBegun Error) → is ≡ job_of begun → Asks begun old new (BeginsCompaction (strategies.may_choose at) (strategies.may_refuse at) o begun old.core new.core) → AddsCompaction May c o.mvcc_gc_watermark (reply_of begun) past next → Goal
      go (Ok (MergeJob job)) there asks adds =
          subst (λ (p : LogPast). WaitsAt (p.begun slot) p.journal is) (sym adds) (merge_waits (past.begun slot) (past.journal ++ Mark o.mvcc_gc_watermark ∷ []) is job (ap flush_in there) (ap mark_in there) (ap merge_in there)
          (subst (λ n. IsMarkedIn n (past.journal ++ Mark o.mvcc_gc_watermark ∷ [])) (sym (merge_mark (strategies.may_choose at) (strategies.may_refuse at) o job old new asks)) (laws.marked o.mvcc_gc_watermark past.journal [])))
      go (Ok DidNothing) there asks adds = freed there
      go (Ok (Declined why)) there asks adds = freed there
      go (Ok Installed) there asks adds = freed there
      go (Err x) there asks adds = freed there

  run_merge_waits : (reply : Reply) (a b : Core) → TakesRunCompaction reply [] was is a b → next ≡ past → Goal
  run_merge_waits Done a b t same = stays same (ap flush_in t.2.2 ∙ sym (ap flush_in t.2.1)) (ap mark_in t.2.2 ∙ sym (ap mark_in t.2.1)) (ap merge_in t.2.2 ∙ sym (ap merge_in t.2.1))
  run_merge_waits (Refused x) a b t same = stays same (ap flush_in t.0.1) (ap mark_in t.0.1) (ap merge_in t.0.1)
  run_merge_waits NoJob a b t same = stays same (ap flush_in t.0.1) (ap mark_in t.0.1) (ap merge_in t.0.1)
  run_merge_waits reply a b t same = absurd t

  finish_waits : (reply : Reply) → TakesFinish reply was is old new → AddsMerge c reply past next → Goal
  finish_waits NoJob t adds = idle adds t.0
  finish_waits reply t adds = freed t.free

  abandon_merge_waits : (reply : Reply) → TakesAbandonCompaction reply was is old new → next ≡ past → Goal
  abandon_merge_waits Done t same = freed t.2
  abandon_merge_waits NoJob t same = idle same t.0
  abandon_merge_waits reply t same = absurd t

  pub job_waits : sealed_ids old.core ≡ sealed_in past.notes → (strategies : Strategies) (step : JobStep) (reply : Reply) → TakesJob strategies step reply was is old new → AddsJob May c slot step reply past next → Goal
  job_waits sealed strategies BeginFlush reply t adds = begin_waits sealed reply t adds
  job_waits sealed strategies (RunFlush w) reply t adds = run_waits w reply old.core new.core t.0 adds
  job_waits sealed strategies FlushToTables reply t adds = tables_waits reply t adds
  job_waits sealed strategies RegisterTables reply t adds = register_waits reply t adds
  job_waits sealed strategies AbandonFlush reply t adds = abandon_waits reply t adds
  job_waits sealed strategies (BeginCompaction at o) reply t adds = compaction_waits strategies at o reply t adds
  job_waits sealed strategies RunCompaction reply t adds = run_merge_waits reply old.core new.core t.0 adds
  job_waits sealed strategies FinishCompaction reply t adds = finish_waits reply t adds
  job_waits sealed strategies AbandonCompaction reply t adds = abandon_merge_waits reply t adds

-- ---- all slots

pub still_waiting : (laws : NotedCompactionsKeepReads) (past next : LogPast) (was is : ℕ → Option Job) → Grows (λ n. Unit {0}) past next → is ≡ was → AreWaiting past was → AreWaiting next is
still_waiting laws past next was is g same w n = grown_waits laws (λ m. Unit {0}) past next g n tt (was n) (is n) (ap (λ (jobs : ℕ → Option Job). jobs n) same) (w n)

pub slot_waiting : (laws : NotedCompactionsKeepReads) (slot : ℕ) (past next : LogPast) (was is : ℕ → Option Job) → Grows (λ n. n ≡ slot → ⊥) past next → ((n : ℕ) → (n ≡ slot → ⊥) → is n ≡ was n) → WaitsAt (next.begun slot) next.journal (is slot) → AreWaiting past was → AreWaiting next is
slot_waiting laws slot past next was is g others here w n = elim (eqb_tells n slot) [
  | inl e ↦ subst (λ m. WaitsAt (next.begun m) next.journal (is m)) (sym e.1) here
  | inr e ↦ grown_waits laws (λ m. m ≡ slot → ⊥) past next g n e.1 (was n) (is n) (others n e.1) (w n)
]

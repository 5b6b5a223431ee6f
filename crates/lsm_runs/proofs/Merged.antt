-- At which watermark a flush whose job waits was merged, as calls and replies tell it.
use Rattle.std.proofs.Common.{◌≡◌, inl, inr, ℕ, ◌==◌, cond, List, [], Option, Some, None, option_map, Result, Ok, refl, sym, ap, ◌∙◌, subst}
use Rattle.std.proofs.lemmas.Bool.Decides.{eqb_tells}
use Rattle.lsm_below.specs.declared.error.Error.{Error}
use Rattle.lsm_model.specs.Journal.{Event}
use Rattle.lsm_flush.specs.Jobs.{SeenJob}
use Rattle.lsm_state.specs.declared.compaction.Options.{Options}
use Rattle.lsm_state.specs.declared.compaction.Begun.{Begun}
use Rattle.lsm_state.specs.declared.compaction.Begun.TheVariants.{Job as BegunMerge}
use Rattle.lsm_state.specs.Core.{Core}
use Rattle.lsm_runs.specs.declared.slots.Job.{Job}
use Rattle.lsm_runs.specs.declared.slots.Job.TheVariants.{Begun as BegunJob, Merged, Written, Compaction, Compacted}
use Rattle.lsm_runs.specs.declared.steps.JobStep.{JobStep}
use Rattle.lsm_runs.specs.declared.steps.JobStep.TheVariants as job
use Rattle.lsm_runs.specs.declared.steps.Step.{Step as Call}
use Rattle.lsm_runs.specs.declared.steps.Step.TheVariants as step
use Rattle.lsm_runs.specs.declared.steps.Reply.{Reply}
use Rattle.lsm_runs.specs.declared.steps.Reply.TheVariants as reply
use Rattle.lsm_runs.specs.Compacting.{Strategies, TakesBeginCompaction, TakesRunCompaction, TakesFinish, TakesAbandonCompaction, job_of}
use Rattle.lsm_runs.specs.Flushing.{TakesTables, TakesRegister, TakesAbandon}
use Rattle.lsm_runs.specs.JobSteps.{TakesJob, TakesInSlot}
use Rattle.lsm_runs.specs.OpenFlushes.{BegunFlush, none_begun, begun_after}
use Rattle.lsm_runs.specs.Runs.{Takes}
use Rattle.lsm_runs.specs.Slots.{Stage, at_first}

-- the watermark of a flush that was merged, if one waits in a place
abbrev pub merged_at : Option Job → Option ℕ
merged_at None = None
merged_at (Some (BegunJob job)) = None
merged_at (Some (Merged job)) = Some job.watermark
merged_at (Some (Written job)) = Some job.watermark
merged_at (Some (Compaction job)) = None
merged_at (Some (Compacted job)) = None

-- each was merged at the watermark that is known of its slot
abbrev pub AreMerged : (ℕ → BegunFlush) → (ℕ → Option Job) → Type 0
AreMerged begun jobs = (n : ℕ) (w : ℕ) → merged_at (jobs n) ≡ Some w → w ≡ (begun n).watermark

none_is : {o : Option ℕ} {w : ℕ} → o ≡ None → o ≡ Some w → ⊥
none_is {w = w} absent there = let bad : None ≡ Some w = sym absent ∙ there in absurd (cc bad)

pub first_merged : (c : Core) → AreMerged none_begun ((at_first c).jobs)
first_merged c n w waits = absurd (none_is refl waits)

-- what waits tells it itself
abbrev flush_at : Option ℕ → BegunFlush
flush_at None = record { ids = []; watermark = 0 }
flush_at (Some w) = record { ids = []; watermark = w }

abbrev pub merged_in : (ℕ → Option Job) → ℕ → BegunFlush
merged_in jobs n = flush_at (merged_at (jobs n))

pub own_merged : (jobs : ℕ → Option Job) → AreMerged (merged_in jobs) jobs
own_merged jobs n w waits = sym (ap (λ o. (flush_at o).watermark) waits)

-- ---- one place

-- what waits there as merged waited there so before
abbrev Stays : Option Job → Option Job → Type 0
Stays was is = (w : ℕ) → merged_at is ≡ Some w → merged_at was ≡ Some w

module _ (was is : Option Job) where
  same_stays : is ≡ was → Stays was is
  same_stays same w waits = sym (ap merged_at same) ∙ waits

  none_stays : merged_at is ≡ None → Stays was is
  none_stays none w waits = absurd (none_is none waits)

  module _ (events : List Event) (old new : Core) where
    begin_stays : (o : Option SeenJob) → is ≡ option_map BegunJob o → Stays was is
    begin_stays None here = none_stays (ap merged_at here)
    begin_stays (Some mine) here = none_stays (ap merged_at here)

    tables_stay : (r : Reply) → TakesTables r events was is old new → Stays was is
    tables_stay reply.Done t = λ w waits. ap merged_at t.1.2 ∙ ap (λ v. Some v) (sym t.1.4.of_job.1) ∙ sym (ap merged_at t.1.3) ∙ waits
    tables_stay (reply.Refused x) t = same_stays t.1.2
    tables_stay reply.NoJob t = same_stays t.0.1
    tables_stay r t = absurd t

    register_stays : (r : Reply) → TakesRegister r events was is old new → Stays was is
    register_stays (reply.Registered a) t = none_stays (ap merged_at t.2)
    register_stays (reply.Refused x) t = none_stays (ap merged_at t.2)
    register_stays reply.NoJob t = same_stays t.0.1
    register_stays r t = absurd t

    abandon_stays : (r : Reply) → TakesAbandon r events was is old new → Stays was is
    abandon_stays reply.Done t = none_stays (ap merged_at t.1.2)
    abandon_stays reply.NoJob t = same_stays t.0.1
    abandon_stays r t = absurd t

    begun_merge : (r : Result Begun Error) → is ≡ job_of r → Stays was is
    begun_merge (Ok (BegunMerge job)) waits = none_stays (ap merged_at waits)
    begun_merge r waits = none_stays (ap merged_at waits)

    merge_begin_stays : (strategies : Strategies) (at : ℕ) (o : Options) (r : Reply) → TakesBeginCompaction strategies at o r events was is old new → Stays was is
    merge_begin_stays strategies at o reply.SlotInUse t = same_stays t.0.1
    merge_begin_stays strategies at o reply.NoStrategy t = same_stays t.0.1
    merge_begin_stays strategies at o r t = begun_merge t.begun t.waits

    merge_run_stays : (r : Reply) → TakesRunCompaction r events was is old new → Stays was is
    merge_run_stays reply.Done t = none_stays (ap merged_at t.2.2)
    merge_run_stays (reply.Refused x) t = same_stays t.0.1
    merge_run_stays reply.NoJob t = same_stays t.0.1
    merge_run_stays r t = absurd t

    finish_stays : (r : Reply) → TakesFinish r events was is old new → Stays was is
    finish_stays reply.NoJob t = same_stays t.0.1
    finish_stays r t = none_stays (ap merged_at t.free)

    merge_abandon_stays : (r : Reply) → TakesAbandonCompaction r events was is old new → Stays was is
    merge_abandon_stays reply.Done t = none_stays (ap merged_at t.1.2)
    merge_abandon_stays reply.NoJob t = same_stays t.0.1
    merge_abandon_stays r t = absurd t

-- ---- slots

module _ (begun : ℕ → BegunFlush) (old new : ℕ → Option Job) (slot : ℕ) (others : (n : ℕ) → (n ≡ slot → ⊥) → new n ≡ old n) (known : AreMerged begun old) where
  stay_merged : Stays (old slot) (new slot) → AreMerged begun new
  stay_merged stays n w waits = elim (eqb_tells n slot) [
    | inl e ↦ known n w (subst (λ k. merged_at (old k) ≡ Some w) (sym e.1) (stays w (subst (λ k. merged_at (new k) ≡ Some w) e.1 waits)))
    | inr e ↦ known n w (sym (ap merged_at (others n e.1)) ∙ waits)
  ]

  now_merged : (flush : BegunFlush) → ((w : ℕ) → merged_at (new slot) ≡ Some w → w ≡ flush.watermark) → AreMerged (λ n. cond (n == slot) flush (begun n)) new
  now_merged flush mine n w waits = elim (eqb_tells n slot) [
    | inl e ↦ mine w (subst (λ k. merged_at (new k) ≡ Some w) e.1 waits) ∙ sym (ap (λ b. (cond b flush (begun n)).watermark) e.0)
    | inr e ↦ known n w (sym (ap merged_at (others n e.1)) ∙ waits) ∙ sym (ap (λ b. (cond b flush (begun n)).watermark) e.0)
  ]

module _ (strategies : Strategies) (sealed : List ℕ) (begun : ℕ → BegunFlush) (slot : ℕ) (events : List Event) (old new : Stage) (known : AreMerged begun old.jobs) where
  begin_merged : (r : Reply) → TakesInSlot strategies slot job.BeginFlush r events old new → AreMerged (begun_after sealed (step.AtSlot slot job.BeginFlush) r begun) new.jobs
  begin_merged (reply.Begun b) t =
      now_merged begun old.jobs new.jobs slot t.1 known (record { ids = sealed; watermark = 0 }) (λ w waits. absurd (none_is (ap merged_at t.0.1) (begin_stays (old.jobs slot) (new.jobs slot) events old.core new.core t.0.2.0 t.0.2.1 w waits)))
  begin_merged (reply.Refused x) t = stay_merged begun old.jobs new.jobs slot t.1 known (same_stays (old.jobs slot) (new.jobs slot) t.0.0.1)
  begin_merged reply.SlotInUse t = stay_merged begun old.jobs new.jobs slot t.1 known (same_stays (old.jobs slot) (new.jobs slot) t.0.0.1)
  begin_merged r t = absurd t.0

  run_merged : (w : ℕ) (r : Reply) → TakesInSlot strategies slot (job.RunFlush w) r events old new → AreMerged (begun_after sealed (step.AtSlot slot (job.RunFlush w)) r begun) new.jobs
  run_merged w reply.Done t = now_merged begun old.jobs new.jobs slot t.1 known (record { ids = (begun slot).ids; watermark = w }) mine
    where
      mine : (v : ℕ) → merged_at (new.jobs slot) ≡ Some v → v ≡ w
      mine v waits = let same : Some t.0.2.0.watermark ≡ Some v = sym (ap merged_at t.0.2.2) ∙ waits in let is_mine : t.0.2.0.watermark ≡ v = cc same in sym is_mine ∙ t.0.2.3
  run_merged w (reply.Refused x) t = stay_merged begun old.jobs new.jobs slot t.1 known (same_stays (old.jobs slot) (new.jobs slot) t.0.0.1)
  run_merged w reply.NoJob t = stay_merged begun old.jobs new.jobs slot t.1 known (same_stays (old.jobs slot) (new.jobs slot) t.0.0.1)
  run_merged w r t = absurd t.0

  job_stays : (x : JobStep) (r : Reply) → (x ≡ job.BeginFlush → ⊥) → ((w : ℕ) → x ≡ job.RunFlush w → ⊥) → TakesJob strategies x r events (old.jobs slot) (new.jobs slot) old.core new.core → Stays (old.jobs slot) (new.jobs slot)
  job_stays job.BeginFlush r begins runs t = absurd (begins refl)
  job_stays (job.RunFlush w) r begins runs t = absurd (runs w refl)
  job_stays job.FlushToTables r begins runs t = tables_stay (old.jobs slot) (new.jobs slot) events old.core new.core r t
  job_stays job.RegisterTables r begins runs t = register_stays (old.jobs slot) (new.jobs slot) events old.core new.core r t
  job_stays job.AbandonFlush r begins runs t = abandon_stays (old.jobs slot) (new.jobs slot) events old.core new.core r t
  job_stays (job.BeginCompaction at o) r begins runs t = merge_begin_stays (old.jobs slot) (new.jobs slot) events old.core new.core strategies at o r t
  job_stays job.RunCompaction r begins runs t = merge_run_stays (old.jobs slot) (new.jobs slot) events old.core new.core r t
  job_stays job.FinishCompaction r begins runs t = finish_stays (old.jobs slot) (new.jobs slot) events old.core new.core r t
  job_stays job.AbandonCompaction r begins runs t = merge_abandon_stays (old.jobs slot) (new.jobs slot) events old.core new.core r t

  slot_merged : (x : JobStep) (r : Reply) → TakesInSlot strategies slot x r events old new → AreMerged (begun_after sealed (step.AtSlot slot x) r begun) new.jobs
  slot_merged job.BeginFlush r t = begin_merged r t
  slot_merged (job.RunFlush w) r t = run_merged w r t
  slot_merged x r t = stay_merged begun old.jobs new.jobs slot t.1 known (job_stays x r (λ e. cc e) (λ w e. cc e) t.0)

same_merged : (begun : ℕ → BegunFlush) (old new : ℕ → Option Job) → new ≡ old → AreMerged begun old → AreMerged begun new
same_merged begun old new same known n w waits = known n w (sym (ap (λ (jobs : ℕ → Option Job). merged_at (jobs n)) same) ∙ waits)

pub takes_merged : (strategies : Strategies) (sealed : List ℕ) (begun : ℕ → BegunFlush) (x : Call) (r : Reply) (events : List Event) (old new : Stage) → AreMerged begun old.jobs → Takes strategies x r events old new
    → AreMerged (begun_after sealed x r begun) new.jobs
takes_merged strategies sealed begun (step.AtSlot slot x) r events old new known t = slot_merged strategies sealed begun slot events old new known x r t
takes_merged strategies sealed begun x r events old new known t = same_merged begun old.jobs new.jobs t.1 known

-- What a call on the job in a slot leads to.
use Rattle.std.proofs.Common.{◌≡◌, inl, inr, ℕ, Bool, true, false, List, [], ◌∷◌, ◌++◌, Option, Result, Ok, Err, refl, sym, ap, ◌∙◌, subst}
use Rattle.lsm_below.specs.Entries.{Entry}
use Rattle.lsm_below.specs.declared.error.Error.{Error}
use Rattle.lsm_below.specs.declared.error.Error.TheVariants.{CommitUnknown, AfterCommit}
use Rattle.lsm_store.specs.World.{World}
use Rattle.lsm_model.specs.Steps.{Maintained}
use Rattle.lsm_model.specs.Views.{Placed}
use Rattle.lsm_model.specs.declared.journal.JournalEntry.TheVariants.{Install}
use Rattle.lsm_commit.specs.Foreign.{AtRest}
use Rattle.lsm_logged.specs.Jobs.{SeenWritten}
use Rattle.lsm_logged.specs.Registered.{Registered as Registry}
use Rattle.lsm_logged.specs.Merges.{SeenCompaction}
use Rattle.lsm_log_model.specs.Logs.{IsCertain, Act, Did, CommitLost}
use Rattle.lsm_log_model.specs.Records.{LogImage, logged, opened_by}
use Rattle.lsm_runs.specs.declared.slots.Job.{Job}
use Rattle.lsm_runs.specs.declared.steps.JobStep.{JobStep}
use Rattle.lsm_runs.specs.declared.steps.JobStep.TheVariants.{BeginFlush, RunFlush, FlushToTables, RegisterTables, AbandonFlush, BeginCompaction, RunCompaction, FinishCompaction, AbandonCompaction}
use Rattle.lsm_runs.specs.declared.steps.Reply.{Reply}
use Rattle.lsm_runs.specs.declared.steps.Reply.TheVariants.{Begun, Done, Registered, NoJob, Refused}
use Rattle.lsm_runs.specs.Compacting.{Strategies, end_reply_of}
use Rattle.lsm_runs.specs.Slots.{flush_in, merge_in}
use Rattle.lsm_runs.proofs.Merged.{merged_at}
use Rattle.lsm_state.specs.CompactionDeeds.{IsMarkedIn}
use Rattle.lsm_state.specs.Flushes.{flush_of}
use Rattle.lsm_state.specs.declared.compaction.Finished.{Finished}
use Rattle.lsm_state.specs.declared.compaction.Finished.TheVariants.{Installed as IsFinished, Declined as Over}
use Rattle.lsm_state.proofs.Upholding.{upheld_still}
use Rattle.lsm_logged.specs.Acting.{LeadsBy, ActsByRegister, ActsByMerge, merging}
use Rattle.lsm_logged.specs.Keeping.{SeenLogged}
use Rattle.lsm_logged.proofs.NoActs.{unsure_not}
use Rattle.lsm_log_runs.specs.Adds.{AddsBegun, AddsMerged, AddsRegistry, AddsRegister, AddsMerge, AddsJob}
use Rattle.lsm_log_runs.specs.declared.steps.LogStep.TheVariants.{AtSlot}
use Rattle.lsm_log_runs.specs.Dropping.{DropsBy}
use Rattle.lsm_log_runs.specs.Doing.{ActsNothing, ActsRegister, ActsMerge, ActsJob}
use Rattle.lsm_log_runs.specs.Pasts.{LogPast, with_flushed, with_doubt, with_begun, with_merged, with_install, with_unknown}
use Rattle.lsm_log_runs.specs.Standing.{StandsLogged, WaitsAt}
use Rattle.lsm_log_runs.proofs.CommitLeads.{compact_leads}
use Rattle.lsm_log_runs.proofs.Leading.{Reading, Stores, StepFiles, same_led}
use Rattle.lsm_log_runs.proofs.Orders.{order_merged}
use Rattle.lsm_log_runs.proofs.StepLeads.{LeadsOn, answered, fresh, holds, none_done, quietly, flushed, unknown}

module _ {S : Type 0} (world : S → World) (reading : Reading) (between : Stores world) (image : LogImage) (past : LogPast) (old new : SeenLogged S) (s : StandsLogged world image past old) (stored : StepFiles world old new) (rest : AtRest (world new.store)) where
  abbrev opened : List Entry
  opened = opened_by image

  abbrev w : World
  w = world old.store

  abbrev w' : World
  w' = world new.store

  abbrev Leads : (LogPast → Type 0) → Type 0
  Leads = LeadsOn world reading between image past old new s stored

  -- ---- nothing

  abbrev Nowhere : Type 0
  Nowhere = LeadsBy opened past.journal past.notes s.log [] w w' old new

  nowhere : ActsNothing w w' old new → Nowhere
  nowhere (inl same) = subst (λ (t : SeenLogged S). LeadsBy opened past.journal past.notes s.log [] w (world t.store) old t) (sym same)
      (unsure_not world (record { store = old.store; core = old.core }) old.numbers old.doubted old refl (upheld_still w old.core old.core refl refl (subst (λ (t : SeenLogged S). AtRest (world t.store)) same rest)) opened past.journal past.notes s.log s.is s.keeps)
  nowhere (inr not) = not opened past.journal past.notes s.log s.is s.keeps

  still : (Added : LogPast → Type 0) → Added past → Nowhere → Leads Added
  still Added added l = none_done world reading between image past old new s stored rest Added added l

  -- ---- a flush

  begin_leads : (slot : ℕ) (reply : Reply) → Nowhere → Leads (AddsBegun slot reply past)
  begin_leads slot (Begun true) l = (
    with_begun slot past,
    refl,
    quietly world reading between image past old new s stored rest (with_begun slot past) [] tt tt l refl refl s.came.order (λ known. subst IsCertain (sym l.done) (s.came.certain known)),
  )
  begin_leads slot (Begun false) l = still (AddsBegun slot (Begun false) past) refl l
  begin_leads slot reply l = still (AddsBegun slot reply past) refl l

  merge_flush_leads : (slot n : ℕ) (reply : Reply) → Nowhere → Leads (AddsMerged slot n reply past)
  merge_flush_leads slot n Done l = (
    with_merged slot n past,
    refl,
    quietly world reading between image past old new s stored rest (with_merged slot n past) [] tt tt l refl refl s.came.order (λ known. subst IsCertain (sym l.done) (s.came.certain known)),
  )
  merge_flush_leads slot n reply l = still (AddsMerged slot n reply past) refl l

  module _ (slot : ℕ) (job : SeenWritten) (ids : job.job.ids ≡ (past.begun slot).ids) (mark : job.watermark ≡ (past.begun slot).watermark) where
    installed : (a : Registry) (b : Bool) → a.installed ≡ b → ActsByRegister job (Ok a) w w' old new opened past.journal past.notes s.log → Leads (AddsRegistry old.core.seqno slot b past)
    installed a true is acts =
        let f = flushed world reading between image past old new s stored rest job.job.ids job.watermark (flush_of job) refl (acts.installed is) in
        (f.0, f.1 ∙ ap (λ i. with_flushed i job.watermark old.core.seqno past) ids ∙ ap (λ m. with_flushed (past.begun slot).ids m old.core.seqno past) mark, f.2)
    installed a false is acts = still (AddsRegistry old.core.seqno slot false past) refl (acts.stale is)

    refused : (x : Error) → ActsByRegister job (Err x) w w' old new opened past.journal past.notes s.log → Leads (AddsRegister old.core.seqno slot (Refused x) past)
    refused CommitUnknown acts = let u = unknown world reading between image past old new s stored rest job.watermark (flush_of job) (acts.unknown refl) in (u.0, u.1 ∙ ap (λ m. with_doubt m [] past) mark, u.2)
    refused x acts = still (AddsRegister old.core.seqno slot (Refused x) past) refl (acts.refused (λ e. cc e))

  register_leads : (slot : ℕ) (reply : Reply) (was : Option Job) → WaitsAt (past.begun slot) past.journal was → ActsRegister reply was w w' old new → Leads (AddsRegister old.core.seqno slot reply past)
  register_leads slot (Registered a) was waits acts =
      installed slot acts.0 (waits.begun acts.0.job (ap flush_in acts.1)) (waits.merged acts.0.watermark (ap merged_at acts.1)) a a.installed refl (acts.2 opened (logged image) past.journal past.notes s.log s.is s.keeps s.next (holds world reading between image past old new s stored))
  register_leads slot (Refused x) was waits acts =
      refused slot acts.0 (waits.begun acts.0.job (ap flush_in acts.1)) (waits.merged acts.0.watermark (ap merged_at acts.1)) x (acts.2 opened (logged image) past.journal past.notes s.log s.is s.keeps s.next (holds world reading between image past old new s stored))
  register_leads slot reply was waits acts = (past, refl, same_led world reading between image past old new s rest acts)

  -- ---- the end of a merge

  merged : (job : SeenCompaction) → ((made : List Placed) × LeadsBy opened (past.journal ++ Install old.core.seqno ∷ []) past.notes s.log (Did (merging job made) ∷ (Did (Maintained job.settings.watermark) ∷ [])) w w' old new)
      → Leads (λ next. next ≡ with_install old.core.seqno past)
  merged job l =
      let next = with_install old.core.seqno past in
      let acts : List Act = Did (merging job l.0) ∷ (Did (Maintained job.settings.watermark) ∷ []) in (
        next,
        refl,
        quietly world reading between image past old new s stored rest next acts (tt, (tt, tt)) (refl, tt) l.1 refl refl (order_merged opened past.journal s.came.order old.core.seqno (fresh world reading between image past old new s stored))
            (λ known. answered opened s.log acts l.1.log (tt, (tt, tt)) l.1.done (s.came.certain known)),
      )

  ends : (job : SeenCompaction) → IsMarkedIn job.settings.watermark past.journal → (end : Result Finished Error) → ActsByMerge job end w w' old new opened past.journal past.notes s.log → Leads (AddsMerge old.core.seqno (end_reply_of end) past)
  ends job marked (Ok IsFinished) a = merged job (a.done (inl refl) marked)
  ends job marked (Ok (Over why)) a = still (AddsMerge old.core.seqno (end_reply_of (Ok (Over why))) past) refl (a.told (λ e. cc e))
  ends job marked (Err AfterCommit) a = merged job (a.done (inr refl) marked)
  ends job marked (Err CommitUnknown) a =
      let l = a.lost refl in (
        with_unknown past,
        refl,
        quietly world reading between image past old new s stored rest (with_unknown past) (CommitLost (merging job l.0) l.1 ∷ []) (tt, tt) tt l.2 refl refl s.came.order (λ known. absurd (cc known)),
      )
  ends job marked (Err x) a = still (AddsMerge old.core.seqno (end_reply_of (Err x)) past) refl (a.refused (λ e. cc e) (λ e. cc e))

  merge_leads : (slot : ℕ) (reply : Reply) (was : Option Job) → WaitsAt (past.begun slot) past.journal was → ActsMerge reply was w w' old new → Leads (AddsMerge old.core.seqno reply past)
  merge_leads slot NoJob was waits acts = (past, refl, same_led world reading between image past old new s rest acts)
  merge_leads slot reply was waits acts =
      let end = acts.2 in
      subst (λ r. Leads (AddsMerge old.core.seqno r past)) (sym end.1)
      (ends acts.0.job (waits.marked acts.0.job (ap merge_in acts.1)) end.0 (end.2 opened (logged image) past.journal past.notes s.log s.is s.keeps s.next (holds world reading between image past old new s stored)))

  -- ---- by calls

  module _ (strategies : Strategies) (slot : ℕ) where
    abbrev Added : JobStep → Reply → LogPast → Type 0
    Added step reply = AddsJob (DropsBy strategies old.core (AtSlot slot step)) old.core.seqno slot step reply past

    pub job_leads : (step : JobStep) (reply : Reply) (was : Option Job) → WaitsAt (past.begun slot) past.journal was → ActsJob strategies step reply was w w' old new → Leads (Added step reply)
    job_leads BeginFlush reply was waits acts = begin_leads slot reply (nowhere acts)
    job_leads (RunFlush n) reply was waits acts = merge_flush_leads slot n reply (nowhere acts)
    job_leads FlushToTables reply was waits acts = still (Added FlushToTables reply) refl (nowhere acts)
    job_leads RegisterTables reply was waits acts = register_leads slot reply was waits acts
    job_leads AbandonFlush reply was waits acts = still (Added AbandonFlush reply) refl (nowhere acts)
    job_leads (BeginCompaction at o) reply was waits acts = compact_leads world reading between image past old new s stored rest (strategies.may_choose at) o.mvcc_gc_watermark reply acts
    job_leads RunCompaction reply was waits acts = still (Added RunCompaction reply) refl (nowhere acts)
    job_leads FinishCompaction reply was waits acts = merge_leads slot reply was waits acts
    job_leads AbandonCompaction reply was waits acts = still (Added AbandonCompaction reply) refl (nowhere acts)

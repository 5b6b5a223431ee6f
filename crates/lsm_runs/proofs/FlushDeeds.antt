-- What the calls of a flush are to the theory of crashes.
use Rattle.std.proofs.Common.{◌≡◌, ◌⊎◌, ⊎_elim, inl, inr, ℕ, Bool, true, false, cond, List, [], ◌∷◌, ◌++◌, Option, Some, None, IsSome, Result, Ok, Err, IsErrOf, refl, sym, ap, ◌∙◌, subst, append-nil}
use Rattle.std.proofs.lemmas.List.{reverse-append}
use Rattle.lsm_below.specs.Entries.{Entry}
use Rattle.lsm_below.specs.declared.error.Error.{Error}
use Rattle.lsm_below.specs.declared.error.Error.TheVariants.{OutOfMemory, Store, CommitUnknown, Unrecoverable, OutOfNumbers, TooManyRuns}
use Rattle.lsm_model.specs.Soundness.{Soundness}
use Rattle.lsm_model.specs.Journal.{Event, Map, InOrder}
use Rattle.lsm_model.specs.Steps.{Marked, Maintained}
use Rattle.lsm_model.specs.Beginnings.{Note, FlushedIds, Done, Lost}
use Rattle.lsm_model.specs.declared.journal.JournalEntry.TheVariants.{Mark, Install}
use Rattle.lsm_flush.specs.Jobs.{SeenWritten}
use Rattle.lsm_flush.specs.declared.jobs.Registered.{Registered as Outcome}
use Rattle.lsm_state.specs.Core.{Core, state_of}
use Rattle.lsm_state.specs.Calls.{Rotates}
use Rattle.lsm_state.specs.Commits.{counted}
use Rattle.lsm_state.specs.Deeds.{saved_of, HasOrder}
use Rattle.lsm_state.specs.Flushes.{sealed_ids, spent, Registers, flush_of, IsFlushDeed, IsLostFlush}
use Rattle.lsm_state.specs.FlushReads.{register_events, flush_events}
use Rattle.lsm_state.specs.WholeFlushes.{Flushes, InstallsWhole, RefusesRotation}
use Rattle.lsm_runs.specs.declared.slots.Job.{Job}
use Rattle.lsm_runs.specs.declared.steps.JobStep.TheVariants.{RegisterTables}
use Rattle.lsm_runs.specs.declared.steps.Reply.{Reply}
use Rattle.lsm_runs.specs.declared.steps.Reply.TheVariants.{Begun, Done as NothingMore, Registered, Flushed, FlushedActive, RefusedActive, NoJob, SlotInUse, Refused}
use Rattle.lsm_runs.specs.declared.steps.Step.TheVariants.{Flush, FlushActiveMemtable}
use Rattle.lsm_journal.specs.NotedFlushes.{FlushesNoted, FlushesRotated}
use Rattle.lsm_runs.specs.Flushing.{TakesBegin, TakesRun, TakesTables, TakesRegister, TakesAbandon, TakesFlush, TakesFlushActive, TakesMoment}
use Rattle.lsm_runs.specs.Noting.{sealed_note, sealed_behind, flushed_note, job_notes, alone_notes}
use Rattle.lsm_runs.proofs.CallDeeds.{rotated_deeds}
use Rattle.lsm_runs.proofs.StepDeeds.{HasDeeds, IsRight, IsSame, idle, nothing, no_deed, mark, order_of, right_behind, then}

-- what a flush notes
abbrev noted_flush : Result (Option (ℕ × Outcome)) Error → List ℕ → List Note
noted_flush (Ok a) ids = flushed_note ids a
noted_flush (Err e) ids = []

module _ (theory : Soundness) (opened : List Entry) (start : Map) (journal : List Event) (notes : List Note) where
  module _ (old new : Core) (right : IsRight opened start journal old) where
    abbrev Goal : List Event → List Note → Type 0
    Goal events noted = HasDeeds opened journal notes events noted old new

    ordered : HasOrder old
    ordered = order_of theory opened start journal old right.holds

    marks : (w : ℕ) → IsSame old new → Goal (Mark w ∷ []) []
    marks w same = mark opened journal notes old new w (Mark w ∷ []) refl same right.distinct

    -- an installed flush
    installed : (w : ℕ) (job : SeenWritten) → job.watermark ≡ w → IsFlushDeed job old new → Goal (Mark w ∷ (Install old.seqno ∷ [])) (FlushedIds job.job.ids ∷ [])
    installed w job is deed = subst (λ v. Goal (Mark v ∷ (Install old.seqno ∷ [])) (FlushedIds job.job.ids ∷ [])) is (Done (Marked job.watermark) ∷ (Done (flush_of job) ∷ (Done (Maintained job.watermark) ∷ [])), deed opened journal notes ordered)

    -- one of unknown outcome
    lost : (w : ℕ) (job : SeenWritten) → job.watermark ≡ w → IsLostFlush job old new → Goal (Mark w ∷ []) []
    lost w job is deed = subst (λ v. Goal (Mark v ∷ []) []) is (Done (Marked job.watermark) ∷ (Lost (flush_of job) (state_of (journal ++ Mark job.watermark ∷ (Install old.seqno ∷ [])) deed.0) ∷ []), deed.1 opened journal notes ordered)

    -- ---- registering a job

    spent_same : (n : ℕ) → (new ≡ spent n old) ⊎ (new ≡ counted (spent n old)) → IsSame old new
    spent_same n is j ns = ⊎_elim (λ h. ap (saved_of j ns) h) (λ h. ap (saved_of j ns) h) is

    refused_same : (job : SeenWritten) (e : Error) → Registers job (Err e) old new → (e ≡ CommitUnknown → ⊥) → IsSame old new
    refused_same job e r known =
        let error : (f : Error) → e ≡ f → IsErrOf {T = Outcome} (Err e) f = λ f h. ap Err h in
        let n = job.job.number in
        ⊎_elim
        (⊎_elim
        (λ (m : e ≡ OutOfMemory). spent_same n (r.memory (error OutOfMemory m)))
        (⊎_elim
        (λ (s : e ≡ Store). spent_same n (inr (r.store (error Store s))))
        (λ (u : e ≡ CommitUnknown). absurd (known u))))
        (⊎_elim
        (λ (u : e ≡ Unrecoverable). spent_same n (inl (r.before (inl (error Unrecoverable u)))))
        (⊎_elim
        (λ (o : e ≡ OutOfNumbers). spent_same n (inl (r.before (inr (inl (error OutOfNumbers o))))))
        (λ (t : e ≡ TooManyRuns). spent_same n (inl (r.before (inr (inr (error TooManyRuns t))))))))
        r.only

    refused_job : (job : SeenWritten) (e : Error) → Registers job (Err e) old new → (e ≡ CommitUnknown → IsLostFlush job old new) → Goal (Mark job.watermark ∷ []) []
    refused_job job CommitUnknown r deed = lost job.watermark job refl (deed refl)
    refused_job job e r deed = marks job.watermark (refused_same job e r (λ h. cc h))

    answered_job : (job : SeenWritten) (a : Outcome) (b : Bool) → a.installed ≡ b → Registers job (Ok a) old new → (a.installed ≡ true → IsFlushDeed job old new)
        → Goal (cond b (Mark job.watermark ∷ (Install old.seqno ∷ [])) (Mark job.watermark ∷ [])) (cond b (FlushedIds job.job.ids ∷ []) [])
    answered_job job a true is r deed = installed job.watermark job refl (deed is)
    answered_job job a false is r deed = marks job.watermark (spent_same job.job.number (inl (r.stale is).1.1))

    pub register_deeds : (reply : Reply) (events : List Event) (was is : Option Job) → TakesRegister reply events was is old new → Goal events (job_notes RegisterTables reply was)
    register_deeds (Registered a) events was is t =
        subst (λ es. Goal es (job_notes RegisterTables (Registered a) was)) (sym t.3) (subst (λ (w : Option Job). Goal (register_events t.0.watermark old.seqno (Ok a)) (job_notes RegisterTables (Registered a) w)) (sym t.1) (answered_job t.0 a a.installed refl t.4 t.5))
    register_deeds (Refused x) events was is t = subst (λ es. Goal es []) (sym t.3) (refused_job t.0 x t.4 (λ u. t.6 (ap Err u)))
    register_deeds NoJob events was is t = idle opened journal notes old new events t.0.0 t.0.2
    register_deeds reply events was is t = absurd t

    -- ---- the other calls on a job

    pub begin_deeds : (reply : Reply) (events : List Event) (was is : Option Job) → TakesBegin reply events was is old new → Goal events []
    begin_deeds (Begun b) events was is t = no_deed opened journal notes old new events t.0 t.3
    begin_deeds (Refused x) events was is t = idle opened journal notes old new events t.0.0 t.0.2
    begin_deeds SlotInUse events was is t = idle opened journal notes old new events t.0.0 t.0.2
    begin_deeds reply events was is t = absurd t

    pub run_deeds : (w : ℕ) (reply : Reply) (events : List Event) (was is : Option Job) → TakesRun w reply events was is old new → Goal events []
    run_deeds w NothingMore events was is t = idle opened journal notes old new events t.0 t.1
    run_deeds w (Refused x) events was is t = idle opened journal notes old new events t.0.0 t.0.2
    run_deeds w NoJob events was is t = idle opened journal notes old new events t.0.0 t.0.2
    run_deeds w reply events was is t = absurd t

    pub tables_deeds : (reply : Reply) (events : List Event) (was is : Option Job) → TakesTables reply events was is old new → Goal events []
    tables_deeds NothingMore events was is t = no_deed opened journal notes old new events t.0 t.2
    tables_deeds (Refused x) events was is t = no_deed opened journal notes old new events t.0 t.2
    tables_deeds NoJob events was is t = idle opened journal notes old new events t.0.0 t.0.2
    tables_deeds reply events was is t = absurd t

    pub abandon_deeds : (reply : Reply) (events : List Event) (was is : Option Job) → TakesAbandon reply events was is old new → Goal events []
    abandon_deeds NothingMore events was is t = no_deed opened journal notes old new events t.0 t.2
    abandon_deeds NoJob events was is t = idle opened journal notes old new events t.0.0 t.0.2
    abandon_deeds reply events was is t = absurd t

    pub moment_deeds : (n : ℕ) (reply : Reply) (events : List Event) → TakesMoment n reply events old new → Goal events []
    moment_deeds n NothingMore events t = no_deed opened journal notes old new events t.0 t.2
    moment_deeds n reply events t = absurd t

    -- ---- a flush in one call

    rest_same : (e : Error) (w : ℕ) → Flushes w (Err e) old new → (e ≡ CommitUnknown → ⊥) → IsSame old new
    rest_same e w f known j ns = ap (saved_of j ns) (f.err.rest ∙ ap (λ l. record old { next_job = new.next_job; next_table = new.next_table; seqno = new.seqno; lost = l }) (f.known known))

    refused_flush : (w : ℕ) (marked : Bool) (e : Error) → Flushes w (Err e) old new → (e ≡ CommitUnknown → marked ≡ true) → Goal (flush_events w old.seqno marked (Err e)) []
    refused_flush w true CommitUnknown f m = let d = f.unknown refl in lost w d.job d.whole.watermark d.deeds
    refused_flush w false CommitUnknown f m = absurd (cc (m refl))
    refused_flush w true e f m = marks w (rest_same e w f (λ h. cc h))
    refused_flush w false e f m = nothing opened journal notes old new [] refl (rest_same e w f (λ h. cc h))

    whole_flush : (w : ℕ) (p : ℕ × Outcome) → InstallsWhole w p.0 p.1 old new → Goal (Mark w ∷ (Install old.seqno ∷ [])) (FlushedIds (sealed_ids old) ∷ [])
    whole_flush w p i =
        subst (λ ids. Goal (Mark w ∷ (Install old.seqno ∷ [])) (FlushedIds ids ∷ [])) (ap (λ j. j.ids) i.whole.of_sealed) (installed w i.job i.whole.watermark i.deeds)

    answered_flush : (w : ℕ) (marked : Bool) (a : Option (ℕ × Outcome)) → Flushes w (Ok a) old new → (IsSome a → marked ≡ true) → (marked ≡ true → IsSome a) → Goal (flush_events w old.seqno marked (Ok a)) (flushed_note (sealed_ids old) a)
    answered_flush w false None f m n = idle opened journal notes old new [] refl (f.some refl).1
    answered_flush w true None f m n = absurd (cc (n refl))
    answered_flush w true (Some p) f m n = whole_flush w p f.installs
    answered_flush w false (Some p) f m n = absurd (cc (m refl))

    pub noted_deeds : (w : ℕ) (r : Result (Option (ℕ × Outcome)) Error) (events : List Event) → FlushesNoted w r events old new → Goal events (noted_flush r (sealed_ids old))
    noted_deeds w (Ok a) events t = subst (λ es. Goal es (flushed_note (sealed_ids old) a)) (sym t.1) (answered_flush w t.0 a t.2 t.3.ok.0 t.3.ok.1)
    noted_deeds w (Err e) events t = subst (λ es. Goal es []) (sym t.1) (refused_flush w t.0 e t.2 (λ u. t.3.registered (inl (ap Err u))))

    pub flush_deeds : (w : ℕ) (reply : Reply) (events : List Event) → TakesFlush w reply events old new → Goal events (alone_notes (Flush w) reply old journal)
    flush_deeds w (Flushed a) events t = noted_deeds w (Ok a) events t
    flush_deeds w (Refused x) events t = noted_deeds w (Err x) events t
    flush_deeds w reply events t = absurd t

-- ---- after a rotation

module _ (theory : Soundness) (opened : List Entry) (start : Map) (journal : List Event) (notes : List Note) (old new : Core) (right : IsRight opened start journal old) where
  -- the memtables that are sealed then
  behind : (id : Option ℕ) (mid : Core) → Rotates old id mid → sealed_ids mid ≡ sealed_behind id old
  behind None mid r = ap sealed_ids r.1
  behind (Some id) mid r =
      let active = old.history.latest.active_memtable in
      ap sealed_ids r.2 ∙ (reverse-append old.history.latest.sealed_memtables (active ∷ []) ∙ ap (λ (i : ℕ). i ∷ sealed_ids old) (sym r.1))

  rotated : (w : ℕ) (id : Option ℕ) (r : Result (Option (ℕ × Outcome)) Error) (events : List Event) → InOrder opened (journal ++ events) → FlushesRotated w id r events old new
      → HasDeeds opened journal notes events (noted_flush r (sealed_behind id old) ++ sealed_note id journal) old new
  rotated w id r events order t =
      let mid = t.0 in
      let first = rotated_deeds theory opened start journal notes old mid right id t.1 in
      let front : InOrder opened (journal ++ []) = subst (InOrder opened) (sym (append-nil journal)) (theory.kept.front opened journal events order) in
      let there = right_behind theory opened start journal notes [] (sealed_note id journal) old mid first front right in
      let second = noted_deeds theory opened start (journal ++ []) (sealed_note id journal ++ notes) mid new there w r events t.2 in
      let named = subst (λ ids. HasDeeds opened (journal ++ []) (sealed_note id journal ++ notes) events (noted_flush r ids) mid new) (behind id mid t.1) second in
      then opened journal notes [] events (sealed_note id journal) (noted_flush r (sealed_behind id old)) old mid new first named

  pub active_deeds : (w : ℕ) (reply : Reply) (events : List Event) → InOrder opened (journal ++ events) → TakesFlushActive w reply events old new → HasDeeds opened journal notes events (alone_notes (FlushActiveMemtable w) reply old journal) old new
  active_deeds w (FlushedActive id a) events order t = rotated w id (Ok a) events order t
  active_deeds w (RefusedActive id x) events order t = ⊎_elim
      (λ (none : (events ≡ []) × RefusesRotation id x old new). subst (λ (i : Option ℕ). HasDeeds opened journal notes events (sealed_note i journal) old new) (sym none.1.none) (idle opened journal notes old new events none.0 none.1.unchanged))
      (λ (some : FlushesRotated w id (Err x) events old new). rotated w id (Err x) events order some)
      t
  active_deeds w reply events order t = absurd t

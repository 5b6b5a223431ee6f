-- What the calls on jobs make of the open flush.
use Rattle.std.proofs.Common.{◌≡◌, ℕ, Bool, true, false, cond, ◌==◌, ◌⊎◌, inl, inr, ⊎_elim, List, [], Option, Some, None, is_some, option_map, IfSome, Result, Ok, Err, refl, sym, ap, ◌∙◌, subst}
use Rattle.std.proofs.lemmas.Bool.{ne_eqb}
use Rattle.std.proofs.lemmas.Bool.Decides.{eqb_tells}
use Rattle.lsm_below.specs.declared.error.Error.{Error}
use Rattle.lsm_below.specs.declared.error.Error.TheVariants.{OutOfMemory, Store, CommitUnknown, Unrecoverable, OutOfNumbers, FlushOpen, TooManyRuns}
use Rattle.lsm_model.specs.Journal.{Event}
use Rattle.lsm_tables.specs.Tables.{SeenTable}
use Rattle.lsm_versions.specs.Levels.{SeenVersion}
use Rattle.lsm_flush.specs.Jobs.{SeenJob, SeenWritten, SeenOpen}
use Rattle.lsm_flush.specs.declared.jobs.Registered.{Registered as Outcome}
use Rattle.lsm_compaction.specs.Merges.{SeenCompaction}
use Rattle.lsm_state.specs.declared.compaction.Options.{Options}
use Rattle.lsm_state.specs.declared.compaction.Begun.{Begun as BegunOf}
use Rattle.lsm_state.specs.declared.compaction.Begun.TheVariants.{DidNothing, Declined, Installed, Job as BegunMerge}
use Rattle.lsm_state.specs.Core.{Core}
use Rattle.lsm_state.specs.Commits.{counted}
use Rattle.lsm_state.specs.Flushes.{Begins, Registers, sealed_ids, spent, spent_in, noted_in}
use Rattle.lsm_runs.specs.declared.slots.Job.{Job}
use Rattle.lsm_runs.specs.declared.slots.Job.TheVariants.{Begun as BegunJob, Merged, Written, Compaction, Compacted}
use Rattle.lsm_runs.specs.declared.steps.JobStep.{JobStep}
use Rattle.lsm_runs.specs.declared.steps.JobStep.TheVariants.{BeginFlush, RunFlush, FlushToTables, RegisterTables, AbandonFlush, BeginCompaction, RunCompaction, FinishCompaction, AbandonCompaction}
use Rattle.lsm_runs.specs.declared.steps.Reply.{Reply}
use Rattle.lsm_runs.specs.declared.steps.Reply.TheVariants.{Done, Begun, Registered, NoStrategy, NoJob, SlotInUse, Refused}
use Rattle.lsm_runs.specs.Flushing.{IsIdle, TakesBegin, TakesRun, TakesTables, TakesRegister, RegistersFrom, TakesAbandon}
use Rattle.lsm_runs.specs.Compacting.{Strategies, job_of, TakesBeginCompaction, TakesRunCompaction, TakesFinish, TakesAbandonCompaction}
use Rattle.lsm_runs.specs.JobSteps.{TakesJob}
use Rattle.lsm_runs.specs.Slots.{Stage, at_first, merge_in, number_in, WaitsFor, KeepsOpen}
use Rattle.lsm_runs.proofs.CompactionRest.{KeepsOpenWork, kept_by, begun_work, begun_flush, finished_work, spends_work, ended_flush}

-- equal trees have one open flush
pub one_flush : (c d : Core) → c ≡ d → c.flush ≡ d.flush
one_flush c d e = ap (λ (x : Core). x.flush) e

-- ---- what a call on a job makes of the open flush

-- the flush of another number stays
pub spent_other : (n : ℕ) (f : SeenOpen) → (f.number ≡ n → ⊥) → spent_in n (Some f) ≡ Some f
spent_other n f other = ap (λ b. cond b None (Some f)) (ne_eqb f.number n other)

noted_other : (n : ℕ) (tables : List SeenTable) (f : SeenOpen) → (f.number ≡ n → ⊥) → noted_in n tables (Some f) ≡ Some f
noted_other n tables f other = ap (λ b. cond b (Some (record f { written = tables })) (Some f)) (ne_eqb f.number n other)

-- one whose tables are written keeps its number
noted_number : (n : ℕ) (tables : List SeenTable) (f : SeenOpen) → (g : SeenOpen) × (noted_in n tables (Some f) ≡ Some g) × (g.number ≡ f.number)
noted_number n tables f = go (f.number == n)
  where
    go : (b : Bool) → (g : SeenOpen) × (cond b (Some (record f { written = tables })) (Some f) ≡ Some g) × (g.number ≡ f.number)
    go true = (record f { written = tables }, refl, refl)
    go false = (f, refl, refl)

-- a job that is registered is spent, whatever is answered, and nothing else is
pub registered_work : (job : SeenWritten) (r : Result Outcome Error) (old new : Core) → Registers job r old new → KeepsOpenWork (spent job.job.number old) new
registered_work job (Ok a) old new f = go a.installed refl
  where
    go : (b : Bool) → a.installed ≡ b → KeepsOpenWork (spent job.job.number old) new
    go true is = kept_by (spent job.job.number old) _ new (f.installs is).1.cleans.rest (refl, refl)
    go false is = kept_by (spent job.job.number old) _ new (f.stale is).1.1 (refl, refl)
registered_work job (Err x) old new f = ⊎_elim known others f.only
  where
    before : (new ≡ spent job.job.number old) → KeepsOpenWork (spent job.job.number old) new
    before is = kept_by (spent job.job.number old) (spent job.job.number old) new is (refl, refl)

    numbered : (new ≡ counted (spent job.job.number old)) → KeepsOpenWork (spent job.job.number old) new
    numbered is = kept_by (spent job.job.number old) (counted (spent job.job.number old)) new is (refl, refl)

    known : ((x ≡ OutOfMemory) ⊎ ((x ≡ Store) ⊎ (x ≡ CommitUnknown))) → KeepsOpenWork (spent job.job.number old) new
    known (inl e) = ⊎_elim before numbered (f.memory (ap Err e))
    known (inr (inl e)) = numbered (f.store (ap Err e))
    known (inr (inr e)) = kept_by (spent job.job.number old) _ new (f.unknown (ap Err e)).1.is (refl, refl)

    others : ((x ≡ Unrecoverable) ⊎ ((x ≡ OutOfNumbers) ⊎ (x ≡ TooManyRuns))) → KeepsOpenWork (spent job.job.number old) new
    others (inl e) = before (f.before (inl (ap Err e)))
    others (inr (inl e)) = before (f.before (inr (inl (ap Err e))))
    others (inr (inr e)) = before (f.before (inr (inr (ap Err e))))

-- a flush is begun where none is open
begun_alone : (job : SeenJob) (old new : Core) → Begins (Ok (Some job)) old new → old.flush ≡ None
begun_alone job old new b = go old.flush refl old.lost refl
  where
    some_sealed : sealed_ids old ≡ [] → ⊥
    some_sealed e = let is : ◌≡◌ {A = Result (Option SeenJob) Error} (Ok (Some job)) (Ok None) = b.none e in cc

    go : (o : Option SeenOpen) → old.flush ≡ o → (l : Option SeenVersion) → old.lost ≡ l → old.flush ≡ None
    go None is l lost = is
    go (Some f) is None lost = let e : ◌≡◌ {A = Result (Option SeenJob) Error} (Ok (Some job)) (Err FlushOpen) = b.flush_open.1 (some_sealed, (lost, ap is_some is)) in absurd (cc)
    go (Some f) is (Some v) lost = let e : ◌≡◌ {A = Result (Option SeenJob) Error} (Ok (Some job)) (Err Unrecoverable) = b.unrecoverable.1 (some_sealed, ap is_some lost) in absurd (cc)

-- ---- the flush of the start, and the job that waits

pub none_isnt : (o : Option ℕ) (n : ℕ) → o ≡ None → o ≡ Some n → ⊥
none_isnt o n none some = cc

-- where each job of a flush waited before, none of it waits where none did
none_waits : (start : Option SeenOpen) (was is : ℕ → Option Job) → ((f : SeenOpen) → WaitsFor f is → WaitsFor f was) → IfSome start (λ f. WaitsFor f was → ⊥) → IfSome start (λ f. WaitsFor f is → ⊥)
none_waits None was is back h = tt
none_waits (Some f) was is back h = λ w. h (back f w)

none_open : (start : Option SeenOpen) (jobs : ℕ → Option Job) → start ≡ None → IfSome start (λ f. WaitsFor f jobs → ⊥)
none_open start jobs none = subst (λ o. IfSome o (λ f. WaitsFor f jobs → ⊥)) (sym none) tt

pub start_open : (c : Core) → KeepsOpen c.flush (at_first c)
start_open c = inl (refl, go c.flush)
  where
    go : (o : Option SeenOpen) → IfSome o (λ f. WaitsFor f (λ n. None) → ⊥)
    go None = tt
    go (Some f) = λ w. none_isnt None f.number refl w.1

-- the flush that was open at the start isn't one whose job waits
spent_start : (start flush : Option SeenOpen) (jobs : ℕ → Option Job) (slot n : ℕ) → number_in (jobs slot) ≡ Some n → flush ≡ start → IfSome start (λ f. WaitsFor f jobs → ⊥) → spent_in n flush ≡ start
spent_start None flush jobs slot n here is none = ap (spent_in n) is
spent_start (Some f) flush jobs slot n here is none = ap (spent_in n) is ∙ spent_other n f (λ e. none (slot, here ∙ ap (λ (m : ℕ). Some m) (sym e)))

noted_start : (start flush : Option SeenOpen) (jobs : ℕ → Option Job) (slot n : ℕ) (tables : List SeenTable) → number_in (jobs slot) ≡ Some n → flush ≡ start → IfSome start (λ f. WaitsFor f jobs → ⊥) → noted_in n tables flush ≡ start
noted_start None flush jobs slot n tables here is none = ap (noted_in n tables) is
noted_start (Some f) flush jobs slot n tables here is none = ap (noted_in n tables) is ∙ noted_other n tables f (λ e. none (slot, here ∙ ap (λ (m : ℕ). Some m) (sym e)))

-- ---- calls on a job

-- the same flush is open, and each slot has a job of the same one
pub still_open : (start : Option SeenOpen) (old new : Stage) → new.core.flush ≡ old.core.flush → ((n : ℕ) → number_in (new.jobs n) ≡ number_in (old.jobs n)) → KeepsOpen start old → KeepsOpen start new
still_open start old new flush same k = elim k [
  | inl l ↦ inl (flush ∙ l.0, none_waits start old.jobs new.jobs (λ f w. (w.0, sym (same w.0) ∙ w.1)) l.1)
  | inr r ↦ inr (r.0, (r.1.0, flush ∙ r.1.1, (r.1.2.0, same r.1.2.0 ∙ r.1.2.1)))
]

-- the job of a merge is of no flush
waits_apart : (begun : Result BegunOf Error) → number_in (job_of begun) ≡ None
waits_apart (Ok (BegunMerge job)) = refl
waits_apart (Ok DidNothing) = refl
waits_apart (Ok (Declined why)) = refl
waits_apart (Ok Installed) = refl
waits_apart (Err e) = refl

merge_apart : (place : Option Job) (job : SeenCompaction) → merge_in place ≡ Some job → number_in place ≡ None
merge_apart place job is = go place is
  where
    no_merge : ◌≡◌ {A = Option SeenCompaction} None (Some job) → ⊥
    no_merge e = cc

    go : (p : Option Job) → merge_in p ≡ Some job → number_in p ≡ None
    go None e = refl
    go (Some (Compaction merge)) e = refl
    go (Some (Compacted merge)) e = refl
    go (Some (BegunJob flush)) e = absurd (no_merge e)
    go (Some (Merged flush)) e = absurd (no_merge e)
    go (Some (Written flush)) e = absurd (no_merge e)

module _ (start : Option SeenOpen) (slot : ℕ) (old new : Stage) (others : (n : ℕ) → (n ≡ slot → ⊥) → new.jobs n ≡ old.jobs n) where
  same_numbers : number_in (new.jobs slot) ≡ number_in (old.jobs slot) → (n : ℕ) → number_in (new.jobs n) ≡ number_in (old.jobs n)
  same_numbers here n = elim (eqb_tells n slot) [
    | inl e ↦ subst (λ m. number_in (new.jobs m) ≡ number_in (old.jobs m)) (sym e.1) here
    | inr e ↦ ap number_in (others n e.1)
  ]

  -- the flush that is begun is the one whose job waits
  begun_open : (f : SeenOpen) → old.core.flush ≡ None → new.core.flush ≡ Some f → number_in (new.jobs slot) ≡ Some f.number → KeepsOpen start old → KeepsOpen start new
  begun_open f none is waits k = elim k [
    | inl l ↦ inr (sym l.0 ∙ none, (f, is, (slot, waits)))
    | inr r ↦ absurd (none_isnt (option_map (λ (g : SeenOpen). g.number) old.core.flush) r.1.0.number (ap (option_map (λ (g : SeenOpen). g.number)) none) (ap (option_map (λ (g : SeenOpen). g.number)) r.1.1))
  ]

  noted_open : (n : ℕ) (tables : List SeenTable) → new.core.flush ≡ noted_in n tables old.core.flush → number_in (old.jobs slot) ≡ Some n → number_in (new.jobs slot) ≡ number_in (old.jobs slot) → KeepsOpen start old → KeepsOpen start new
  noted_open n tables flush here there k = elim k [
    | inl l ↦ inl (flush ∙ noted_start start old.core.flush old.jobs slot n tables here l.0 l.1, none_waits start old.jobs new.jobs (λ f w. (w.0, sym (same_numbers there w.0) ∙ w.1)) l.1)
    | inr r ↦
        let g = noted_number n tables r.1.0 in
        inr (r.0, (g.0, flush ∙ ap (noted_in n tables) r.1.1 ∙ g.1, (r.1.2.0, same_numbers there r.1.2.0 ∙ r.1.2.1 ∙ ap (λ (m : ℕ). Some m) (sym g.2))))
  ]

  -- a job that waits beside a slot that is free now waited there before
  waited : new.jobs slot ≡ None → (f : SeenOpen) → WaitsFor f new.jobs → WaitsFor f old.jobs
  waited free f w = elim (eqb_tells w.0 slot) [
    | inl e ↦ absurd (none_isnt (number_in (new.jobs w.0)) f.number (ap number_in (subst (λ m. new.jobs m ≡ None) (sym e.1) free)) w.1)
    | inr e ↦ (w.0, sym (ap number_in (others w.0 e.1)) ∙ w.1)
  ]

  -- the open flush is spent with its job, or the job was that of another one
  spent_waiting : (n : ℕ) (f : SeenOpen) → start ≡ None → new.core.flush ≡ spent_in n old.core.flush → number_in (old.jobs slot) ≡ Some n → old.core.flush ≡ Some f → WaitsFor f old.jobs → KeepsOpen start new
  spent_waiting n f none flush here is w = elim (eqb_tells f.number n) [
    | inl e ↦ inl (flush ∙ ap (spent_in n) is ∙ ap (λ b. cond b None (Some f)) e.0 ∙ sym none, none_open start new.jobs none)
    | inr e ↦
        let elsewhere : w.0 ≡ slot → ⊥ = λ at. e.1 (one_number (number_in (old.jobs slot)) f.number n (subst (λ m. number_in (old.jobs m) ≡ Some f.number) at w.1) here) in
        inr (none, (f, flush ∙ ap (spent_in n) is ∙ ap (λ b. cond b None (Some f)) e.0, (w.0, ap number_in (others w.0 elsewhere) ∙ w.1)))
  ]
    where
      one_number : (o : Option ℕ) (a b : ℕ) → o ≡ Some a → o ≡ Some b → a ≡ b
      one_number o a b x y = cc

  spent_open : (n : ℕ) → new.core.flush ≡ spent_in n old.core.flush → number_in (old.jobs slot) ≡ Some n → new.jobs slot ≡ None → KeepsOpen start old → KeepsOpen start new
  spent_open n flush here free k = elim k [
    | inl l ↦ inl (flush ∙ spent_start start old.core.flush old.jobs slot n here l.0 l.1, none_waits start old.jobs new.jobs (waited free) l.1)
    | inr r ↦ spent_waiting n r.1.0 r.0 flush here r.1.1 r.1.2
  ]

  idle_open : (events : List Event) → IsIdle events (old.jobs slot) (new.jobs slot) old.core new.core → KeepsOpen start old → KeepsOpen start new
  idle_open events t k = still_open start old new (one_flush new.core old.core t.2) (same_numbers (ap number_in t.1)) k

  begin_open : (reply : Reply) (events : List Event) → TakesBegin reply events (old.jobs slot) (new.jobs slot) old.core new.core → KeepsOpen start old → KeepsOpen start new
  begin_open (Begun b) events t k = go t.2.0 t.2.1 t.2.3
    where
      go : (job : Option SeenJob) → new.jobs slot ≡ option_map BegunJob job → Begins (Ok job) old.core new.core → KeepsOpen start new
      go None is begins = still_open start old new (one_flush new.core old.core (begins.some refl).1) (same_numbers (ap number_in is ∙ sym (ap number_in t.1))) k
      go (Some job) is begins =
          begun_open (record { number = old.core.next_job; ids = sealed_ids old.core; written = [] }) (begun_alone job old.core new.core begins) (one_flush new.core _ begins.begins.1) (ap number_in is ∙ ap (λ (j : SeenJob). Some j.number) begins.begins.0) k
  begin_open (Refused x) events t k = idle_open events t.0 k
  begin_open SlotInUse events t k = idle_open events t.0 k
  begin_open reply events t k = absurd t

  run_open : (w : ℕ) (reply : Reply) (events : List Event) → TakesRun w reply events (old.jobs slot) (new.jobs slot) old.core new.core → KeepsOpen start old → KeepsOpen start new
  run_open w Done events t k = still_open start old new (one_flush new.core old.core t.1) (same_numbers (ap number_in t.2.2 ∙ sym (ap number_in t.2.1))) k
  run_open w (Refused x) events t k = idle_open events t.0 k
  run_open w NoJob events t k = idle_open events t.0 k
  run_open w reply events t k = absurd t

  tables_open : (reply : Reply) (events : List Event) → TakesTables reply events (old.jobs slot) (new.jobs slot) old.core new.core → KeepsOpen start old → KeepsOpen start new
  tables_open Done events t k =
      let wrote = t.1.4 in
      noted_open t.1.0.job.number t.1.1.tables (one_flush new.core _ wrote.ok) (ap number_in t.1.2) (ap number_in t.1.3 ∙ ap (λ (j : SeenJob). Some j.number) wrote.of_job.0 ∙ sym (ap number_in t.1.2)) k
  tables_open (Refused x) events t k = still_open start old new (one_flush new.core _ t.1.3.err) (same_numbers (ap number_in t.1.2)) k
  tables_open NoJob events t k = idle_open events t.0 k
  tables_open reply events t k = absurd t

  registers_open : (r : Result Outcome Error) (events : List Event) → RegistersFrom r events (old.jobs slot) (new.jobs slot) old.core new.core → KeepsOpen start old → KeepsOpen start new
  registers_open r events t k = spent_open t.0.job.number (registered_work t.0 r old.core new.core t.4).0 (ap number_in t.1) t.2 k

  register_open : (reply : Reply) (events : List Event) → TakesRegister reply events (old.jobs slot) (new.jobs slot) old.core new.core → KeepsOpen start old → KeepsOpen start new
  register_open (Registered a) events t k = registers_open (Ok a) events t k
  register_open (Refused x) events t k = registers_open (Err x) events t k
  register_open NoJob events t k = idle_open events t.0 k
  register_open reply events t k = absurd t

  abandon_open : (reply : Reply) (events : List Event) → TakesAbandon reply events (old.jobs slot) (new.jobs slot) old.core new.core → KeepsOpen start old → KeepsOpen start new
  abandon_open Done events t k = spent_open t.1.0.number (one_flush new.core _ t.1.3) (ap (option_map (λ (job : SeenJob). job.number)) t.1.1) t.1.2 k
  abandon_open NoJob events t k = idle_open events t.0 k
  abandon_open reply events t k = absurd t

  compaction_open : (strategies : Strategies) (at : ℕ) (o : Options) (reply : Reply) (events : List Event) → TakesBeginCompaction strategies at o reply events (old.jobs slot) (new.jobs slot) old.core new.core → KeepsOpen start old → KeepsOpen start new
  compaction_open strategies at o SlotInUse events t k = idle_open events t.0 k
  compaction_open strategies at o NoStrategy events t k = idle_open events t.0 k
  compaction_open strategies at o reply events t k =
      still_open start old new (begun_flush t.begun old.core new.core (begun_work t.answer o t.begun events old.core new.core t.begins)) (same_numbers (ap number_in t.waits ∙ waits_apart t.begun ∙ sym (ap number_in t.free))) k

  run_compaction_open : (reply : Reply) (events : List Event) → TakesRunCompaction reply events (old.jobs slot) (new.jobs slot) old.core new.core → KeepsOpen start old → KeepsOpen start new
  run_compaction_open Done events t k = still_open start old new (one_flush new.core old.core t.1) (same_numbers (ap number_in t.2.2 ∙ sym (ap number_in t.2.1))) k
  run_compaction_open (Refused x) events t k = idle_open events t.0 k
  run_compaction_open NoJob events t k = idle_open events t.0 k
  run_compaction_open reply events t k = absurd t

  finish_open : (reply : Reply) (events : List Event) → TakesFinish reply events (old.jobs slot) (new.jobs slot) old.core new.core → KeepsOpen start old → KeepsOpen start new
  finish_open NoJob events t k = idle_open events t.0 k
  finish_open reply events t k =
      still_open start old new (ended_flush t.job.job old.core new.core (finished_work t.job.job t.end old.core new.core t.ends.0)) (same_numbers (ap number_in t.free ∙ sym (ap number_in t.waited))) k

  abandon_compaction_open : (reply : Reply) (events : List Event) → TakesAbandonCompaction reply events (old.jobs slot) (new.jobs slot) old.core new.core → KeepsOpen start old → KeepsOpen start new
  abandon_compaction_open Done events t k =
      still_open start old new (ended_flush t.1.0 old.core new.core (spends_work t.1.0 old.core new.core t.1.3)) (same_numbers (ap number_in t.1.2 ∙ sym (merge_apart (old.jobs slot) t.1.0 t.1.1))) k
  abandon_compaction_open NoJob events t k = idle_open events t.0 k
  abandon_compaction_open reply events t k = absurd t

  pub job_open : (strategies : Strategies) (step : JobStep) (reply : Reply) (events : List Event) → TakesJob strategies step reply events (old.jobs slot) (new.jobs slot) old.core new.core → KeepsOpen start old → KeepsOpen start new
  job_open strategies BeginFlush reply events t k = begin_open reply events t k
  job_open strategies (RunFlush w) reply events t k = run_open w reply events t k
  job_open strategies FlushToTables reply events t k = tables_open reply events t k
  job_open strategies RegisterTables reply events t k = register_open reply events t k
  job_open strategies AbandonFlush reply events t k = abandon_open reply events t k
  job_open strategies (BeginCompaction at o) reply events t k = compaction_open strategies at o reply events t k
  job_open strategies RunCompaction reply events t k = run_compaction_open reply events t k
  job_open strategies FinishCompaction reply events t k = finish_open reply events t k
  job_open strategies AbandonCompaction reply events t k = abandon_compaction_open reply events t k

-- What the steps of a run note, by their kinds, their replies and what was noted before.
use Rattle.std.proofs.Common.{◌≡◌, inl, inr, ℕ, zero, suc, ◌≤◌, arith, ◌==◌, cond, List, [], ◌∷◌, ◌++◌, Option, Some, None, option_map, take, Result, Ok, refl, sym, ap, ◌∙◌, subst, append-nil, append_assoc}
use Rattle.std.proofs.lemmas.Bool.Decides.{eqb_tells}
use Rattle.lsm_below.specs.Entries.{Entry}
use Rattle.lsm_below.specs.declared.error.Error.{Error}
use Rattle.lsm_below.specs.declared.error.Error.TheVariants.{CommitUnknown}
use Rattle.lsm_store.specs.World.{World}
use Rattle.lsm_model.specs.Journal.{Event}
use Rattle.lsm_flush.specs.Jobs.{SeenJob}
use Rattle.lsm_state.specs.declared.compaction.Options.{Options}
use Rattle.lsm_state.specs.declared.compaction.Begun.{Begun}
use Rattle.lsm_state.specs.declared.compaction.Begun.TheVariants.{Job as BegunMerge}
use Rattle.lsm_state.specs.Core.{Core}
use Rattle.lsm_state.specs.Flushes.{Begins, sealed_ids}
use Rattle.lsm_run_model.specs.declared.noted.Noted.TheVariants as note
use Rattle.lsm_run_model.specs.Outcomes.{Past, after, after_all, sealed_in, without_low_reads}
use Rattle.lsm_run_model.specs.Outcomes as out
use Rattle.lsm_run_model.specs.Moments.{last_of}
use Rattle.lsm_runs.specs.declared.slots.Job.{Job}
use Rattle.lsm_runs.specs.declared.slots.Job.TheVariants.{Begun as BegunJob}
use Rattle.lsm_runs.specs.declared.steps.JobStep.{JobStep}
use Rattle.lsm_runs.specs.declared.steps.JobStep.TheVariants as job
use Rattle.lsm_runs.specs.declared.steps.Step.{Step as Call}
use Rattle.lsm_runs.specs.declared.steps.Step.TheVariants as step
use Rattle.lsm_runs.specs.declared.steps.Reply.{Reply}
use Rattle.lsm_runs.specs.declared.steps.Reply.TheVariants as reply
use Rattle.lsm_runs.specs.Adds.{Adds}
use Rattle.lsm_runs.specs.Dropping.{may_drop}
use Rattle.lsm_runs.specs.Compacting.{Strategies, TakesBeginCompaction, TakesRunCompaction, TakesFinish, TakesAbandonCompaction, job_of}
use Rattle.lsm_runs.specs.Chains.{Point, RanAlong}
use Rattle.lsm_runs.specs.Flushing.{TakesRun, TakesTables, TakesRegister, TakesAbandon}
use Rattle.lsm_runs.specs.JobSteps.{TakesJob, TakesInSlot}
use Rattle.lsm_runs.specs.Moments.{job_noted, alone_noted, noted_of, outcome_of, outcomes_of}
use Rattle.lsm_runs.specs.Notes.{NotesRotation, NotesFlush, NotesFlushActive, NotesClear, JobNotes, Notes, EachTells}
use Rattle.lsm_runs.specs.Noting.{ids_in}
use Rattle.lsm_runs.specs.OpenFlushes.{BegunFlush, none_begun, begun_after}
use Rattle.lsm_runs.specs.Runs.{Takes}
use Rattle.lsm_runs.specs.Slots.{Stage, at_first, flush_in}
use Rattle.lsm_runs.specs.Told.{Told}
use Rattle.lsm_runs.proofs.Adds.{takes_adds}
use Rattle.lsm_runs.proofs.Merged.{AreMerged, takes_merged}

-- ---- flushes whose jobs wait

-- each is of the memtables that are known of its slot
abbrev pub AreBegun : (ℕ → BegunFlush) → (ℕ → Option Job) → Type 0
AreBegun begun jobs = (n : ℕ) (job : SeenJob) → flush_in (jobs n) ≡ Some job → job.ids ≡ (begun n).ids

none_is : {A : Type 0} {o : Option A} {x : A} → o ≡ None → o ≡ Some x → ⊥
none_is absent there = let bad : None ≡ Some _ = sym absent ∙ there in absurd (cc bad)

pub first_begun : (c : Core) → AreBegun none_begun ((at_first c).jobs)
first_begun c n job waits = absurd (none_is refl waits)

-- the flush that waits in a place waited there before
abbrev Stays : Option Job → Option Job → Type 0
Stays was is = (job : SeenJob) → flush_in is ≡ Some job → flush_in was ≡ Some job

module _ (was is : Option Job) where
  same_stays : is ≡ was → Stays was is
  same_stays same job waits = sym (ap flush_in same) ∙ waits

  none_stays : flush_in is ≡ None → Stays was is
  none_stays none job waits = absurd (none_is none waits)

  one_stays : (o : Option SeenJob) → flush_in was ≡ o → flush_in is ≡ o → Stays was is
  one_stays o before now job waits = before ∙ sym now ∙ waits

  module _ (events : List Event) (old new : Core) where
    run_stays : (w : ℕ) (r : Reply) → TakesRun w r events was is old new → Stays was is
    run_stays w reply.Done t = one_stays (Some t.2.0.job) (ap flush_in t.2.1) (ap flush_in t.2.2)
    run_stays w (reply.Refused x) t = same_stays t.0.1
    run_stays w reply.NoJob t = same_stays t.0.1
    run_stays w r t = absurd t

    tables_stay : (r : Reply) → TakesTables r events was is old new → Stays was is
    tables_stay reply.Done t = one_stays (Some t.1.0.job) (ap flush_in t.1.2) (ap flush_in t.1.3 ∙ ap (λ j. Some j) t.1.4.of_job.0)
    tables_stay (reply.Refused x) t = same_stays t.1.2
    tables_stay reply.NoJob t = same_stays t.0.1
    tables_stay r t = absurd t

    register_stays : (r : Reply) → TakesRegister r events was is old new → Stays was is
    register_stays (reply.Registered a) t = none_stays (ap flush_in t.2)
    register_stays (reply.Refused x) t = none_stays (ap flush_in t.2)
    register_stays reply.NoJob t = same_stays t.0.1
    register_stays r t = absurd t

    abandon_stays : (r : Reply) → TakesAbandon r events was is old new → Stays was is
    abandon_stays reply.Done t = none_stays (ap flush_in t.1.2)
    abandon_stays reply.NoJob t = same_stays t.0.1
    abandon_stays r t = absurd t

    begun_merge : (r : Result Begun Error) → is ≡ job_of r → Stays was is
    begun_merge (Ok (BegunMerge job)) waits = none_stays (ap flush_in waits)
    begun_merge r waits = none_stays (ap flush_in waits)

    merge_begin_stays : (strategies : Strategies) (at : ℕ) (o : Options) (r : Reply) → TakesBeginCompaction strategies at o r events was is old new → Stays was is
    merge_begin_stays strategies at o reply.SlotInUse t = same_stays t.0.1
    merge_begin_stays strategies at o reply.NoStrategy t = same_stays t.0.1
    merge_begin_stays strategies at o r t = begun_merge t.begun t.waits

    merge_run_stays : (r : Reply) → TakesRunCompaction r events was is old new → Stays was is
    merge_run_stays reply.Done t = none_stays (ap flush_in t.2.2)
    merge_run_stays (reply.Refused x) t = same_stays t.0.1
    merge_run_stays reply.NoJob t = same_stays t.0.1
    merge_run_stays r t = absurd t

    finish_stays : (r : Reply) → TakesFinish r events was is old new → Stays was is
    finish_stays reply.NoJob t = same_stays t.0.1
    finish_stays r t = none_stays (ap flush_in t.free)

    merge_abandon_stays : (r : Reply) → TakesAbandonCompaction r events was is old new → Stays was is
    merge_abandon_stays reply.Done t = none_stays (ap flush_in t.1.2)
    merge_abandon_stays reply.NoJob t = same_stays t.0.1
    merge_abandon_stays r t = absurd t

    -- a flush that is begun is of all that are sealed
    begins_sealed : (o : Option SeenJob) → is ≡ option_map BegunJob o → Begins (Ok o) old new → (job : SeenJob) → flush_in is ≡ Some job → job.ids ≡ sealed_ids old
    begins_sealed None here b job waits = absurd (none_is (ap flush_in here) waits)
    begins_sealed (Some mine) here b job waits =
        let same : Some mine ≡ Some job = sym (ap flush_in here) ∙ waits in
        let is_mine : mine ≡ job = cc same in
        ap (λ (j : SeenJob). j.ids) (sym is_mine) ∙ ap (λ (j : SeenJob). j.ids) b.begins.0

-- ---- slots

module _ (begun : ℕ → BegunFlush) (old new : ℕ → Option Job) (slot : ℕ) (others : (n : ℕ) → (n ≡ slot → ⊥) → new n ≡ old n) (known : AreBegun begun old) where
  stay_begun : Stays (old slot) (new slot) → AreBegun begun new
  stay_begun stays n job waits = elim (eqb_tells n slot) [
    | inl e ↦ known n job (subst (λ k. flush_in (old k) ≡ Some job) (sym e.1) (stays job (subst (λ k. flush_in (new k) ≡ Some job) e.1 waits)))
    | inr e ↦ known n job (sym (ap flush_in (others n e.1)) ∙ waits)
  ]

  now_begun : (flush : BegunFlush) → ((job : SeenJob) → flush_in (new slot) ≡ Some job → job.ids ≡ flush.ids) → AreBegun (λ n. cond (n == slot) flush (begun n)) new
  now_begun flush mine n job waits = elim (eqb_tells n slot) [
    | inl e ↦ mine job (subst (λ k. flush_in (new k) ≡ Some job) e.1 waits) ∙ sym (ap (λ b. (cond b flush (begun n)).ids) e.0)
    | inr e ↦ known n job (sym (ap flush_in (others n e.1)) ∙ waits) ∙ sym (ap (λ b. (cond b flush (begun n)).ids) e.0)
  ]

  -- of a flush of the memtables that are known already
  again_begun : (flush : BegunFlush) → flush.ids ≡ (begun slot).ids → Stays (old slot) (new slot) → AreBegun (λ n. cond (n == slot) flush (begun n)) new
  again_begun flush same stays = now_begun flush (λ job waits. known slot job (stays job waits) ∙ sym same)

module _ (strategies : Strategies) (begun : ℕ → BegunFlush) (slot : ℕ) (events : List Event) (old new : Stage) (known : AreBegun begun old.jobs) where
  begin_begun : (r : Reply) → TakesInSlot strategies slot job.BeginFlush r events old new → AreBegun (begun_after (sealed_ids old.core) (step.AtSlot slot job.BeginFlush) r begun) new.jobs
  begin_begun (reply.Begun b) t = now_begun begun old.jobs new.jobs slot t.1 known (record { ids = sealed_ids old.core; watermark = 0 }) (begins_sealed (old.jobs slot) (new.jobs slot) events old.core new.core t.0.2.0 t.0.2.1 t.0.2.3)
  begin_begun (reply.Refused x) t = stay_begun begun old.jobs new.jobs slot t.1 known (same_stays (old.jobs slot) (new.jobs slot) t.0.0.1)
  begin_begun reply.SlotInUse t = stay_begun begun old.jobs new.jobs slot t.1 known (same_stays (old.jobs slot) (new.jobs slot) t.0.0.1)
  begin_begun r t = absurd t.0

  run_begun : (w : ℕ) (r : Reply) → TakesInSlot strategies slot (job.RunFlush w) r events old new → AreBegun (begun_after (sealed_ids old.core) (step.AtSlot slot (job.RunFlush w)) r begun) new.jobs
  run_begun w reply.Done t = again_begun begun old.jobs new.jobs slot t.1 known (record { ids = (begun slot).ids; watermark = w }) refl (run_stays (old.jobs slot) (new.jobs slot) events old.core new.core w reply.Done t.0)
  run_begun w (reply.Refused x) t = stay_begun begun old.jobs new.jobs slot t.1 known (same_stays (old.jobs slot) (new.jobs slot) t.0.0.1)
  run_begun w reply.NoJob t = stay_begun begun old.jobs new.jobs slot t.1 known (same_stays (old.jobs slot) (new.jobs slot) t.0.0.1)
  run_begun w r t = absurd t.0

  job_stays : (x : JobStep) (r : Reply) → (x ≡ job.BeginFlush → ⊥) → TakesJob strategies x r events (old.jobs slot) (new.jobs slot) old.core new.core → Stays (old.jobs slot) (new.jobs slot)
  job_stays job.BeginFlush r other t = absurd (other refl)
  job_stays (job.RunFlush w) r other t = run_stays (old.jobs slot) (new.jobs slot) events old.core new.core w r t
  job_stays job.FlushToTables r other t = tables_stay (old.jobs slot) (new.jobs slot) events old.core new.core r t
  job_stays job.RegisterTables r other t = register_stays (old.jobs slot) (new.jobs slot) events old.core new.core r t
  job_stays job.AbandonFlush r other t = abandon_stays (old.jobs slot) (new.jobs slot) events old.core new.core r t
  job_stays (job.BeginCompaction at o) r other t = merge_begin_stays (old.jobs slot) (new.jobs slot) events old.core new.core strategies at o r t
  job_stays job.RunCompaction r other t = merge_run_stays (old.jobs slot) (new.jobs slot) events old.core new.core r t
  job_stays job.FinishCompaction r other t = finish_stays (old.jobs slot) (new.jobs slot) events old.core new.core r t
  job_stays job.AbandonCompaction r other t = merge_abandon_stays (old.jobs slot) (new.jobs slot) events old.core new.core r t

  slot_begun : (x : JobStep) (r : Reply) → TakesInSlot strategies slot x r events old new → AreBegun (begun_after (sealed_ids old.core) (step.AtSlot slot x) r begun) new.jobs
  slot_begun job.BeginFlush r t = begin_begun r t
  slot_begun (job.RunFlush w) r t = run_begun w r t
  slot_begun x r t = stay_begun begun old.jobs new.jobs slot t.1 known (job_stays x r (λ e. cc e) t.0)

same_begun : (begun : ℕ → BegunFlush) (old new : ℕ → Option Job) → new ≡ old → AreBegun begun old → AreBegun begun new
same_begun begun old new same known n job waits = known n job (sym (ap (λ (jobs : ℕ → Option Job). flush_in (jobs n)) same) ∙ waits)

takes_begun : (strategies : Strategies) (begun : ℕ → BegunFlush) (x : Call) (r : Reply) (events : List Event) (old new : Stage) → AreBegun begun old.jobs → Takes strategies x r events old new → AreBegun (begun_after (sealed_ids old.core) x r begun) new.jobs
takes_begun strategies begun (step.AtSlot slot x) r events old new known t = slot_begun strategies begun slot events old new known x r t
takes_begun strategies begun x r events old new known t = same_begun begun old.jobs new.jobs t.1 known

-- ---- what a step notes

rotation_notes : (r : Reply) (c : Core) → NotesRotation r (alone_noted step.RotateMemtable r c)
rotation_notes (reply.Sealed id) c = refl
rotation_notes r c = refl

flush_notes : (w : ℕ) (r : Reply) (c : Core) → NotesFlush (sealed_ids c) r (alone_noted (step.Flush w) r c)
flush_notes w (reply.Flushed a) c = refl
flush_notes w r c = refl

active_notes : (w : ℕ) (r : Reply) (c : Core) → NotesFlushActive (sealed_ids c) r (alone_noted (step.FlushActiveMemtable w) r c)
active_notes w (reply.FlushedActive None a) c = refl
active_notes w (reply.FlushedActive (Some id) a) c = refl
active_notes w (reply.RefusedActive id x) c = refl
active_notes w r c = refl

clear_notes : (r : Reply) (c : Core) → NotesClear r (alone_noted step.Clear r c)
clear_notes (reply.Cleared n) c = refl
clear_notes (reply.Refused CommitUnknown) c = (c.seqno, refl)
clear_notes (reply.Refused x) c = refl
clear_notes r c = refl

registration_notes : (ids : List ℕ) (r : Reply) (events : List Event) (was is : Option Job) (old new : Core) → ((job : SeenJob) → flush_in was ≡ Some job → job.ids ≡ ids) → TakesRegister r events was is old new
    → JobNotes ids job.RegisterTables r (job_noted job.RegisterTables r was)
registration_notes ids (reply.Registered a) events was is old new known t = ap (λ mine. cond a.installed (note.Flushed mine ∷ []) []) (ap ids_in t.1 ∙ known t.0.job (ap flush_in t.1))
registration_notes ids r events was is old new known t = refl

job_notes : (strategies : Strategies) (ids : List ℕ) (x : JobStep) (r : Reply) (events : List Event) (was is : Option Job) (old new : Core) → ((job : SeenJob) → flush_in was ≡ Some job → job.ids ≡ ids) → TakesJob strategies x r events was is old new
    → JobNotes ids x r (job_noted x r was)
job_notes strategies ids job.RegisterTables r events was is old new known t = registration_notes ids r events was is old new known t
job_notes strategies ids x r events was is old new known t = refl

takes_notes : (strategies : Strategies) (begun : ℕ → BegunFlush) (x : Call) (r : Reply) (events : List Event) (old new : Stage) → AreBegun begun old.jobs → Takes strategies x r events old new → Notes (sealed_ids old.core) begun x r (noted_of x r old)
takes_notes strategies begun step.RotateMemtable r events old new known t = rotation_notes r old.core
takes_notes strategies begun (step.Flush w) r events old new known t = flush_notes w r old.core
takes_notes strategies begun (step.FlushActiveMemtable w) r events old new known t = active_notes w r old.core
takes_notes strategies begun step.Clear r events old new known t = clear_notes r old.core
takes_notes strategies begun (step.AtSlot slot x) r events old new known t = job_notes strategies (begun slot).ids x r events (old.jobs slot) (new.jobs slot) old.core new.core (known slot) t.0
takes_notes strategies begun x r events old new known t = refl

-- ---- runs

module _ (strategies : Strategies) (opened : List Entry) {F : Type 0} (world : F → World) where
  -- where at each place before the end the notes tell what is sealed
  pub each_tells : (many : ℕ) (xs : List Call) (ts : List Told) (past : Past) (begun : ℕ → BegunFlush) (old : Point F) (points : List (Point F)) → RanAlong world strategies xs ts old points → AreBegun begun old.stage.jobs → AreMerged begun old.stage.jobs
      → ((k : ℕ) → k ≤ many → sealed_in (after_all opened past (take k (outcomes_of xs ts old points))).notes ≡ sealed_ids (last_of old (take k points)).stage.core)
      → EachTells (may_drop strategies) opened past begun (take many xs) (take many (outcomes_of xs ts old points))
  each_tells zero xs ts past begun old points r known merged sealed = tt
  each_tells (suc many) [] [] past begun old [] r known merged sealed = tt
  each_tells (suc many) (x ∷ xs) (t ∷ ts) past begun old (mid ∷ points) r known merged sealed =
      let ids = sealed_ids old.stage.core in
      let outcome = outcome_of x t old.stage in
      let next = after opened past outcome in
      let here : sealed_in past.notes ≡ ids = sealed 0 (omega arith) in
      let known' = takes_begun strategies begun x t.reply t.entries old.stage mid.stage known r.0 in
      let merged' = takes_merged strategies ids begun x t.reply t.entries old.stage mid.stage merged r.0 in
      let rest = each_tells many xs ts next (begun_after ids x t.reply begun) mid points r.2 known' merged' (λ k low. sealed (suc k) (omega (low, arith))) in
      subst
      (λ these. Adds (may_drop strategies) begun x t.reply t.entries × Notes these begun x t.reply outcome.notes × EachTells (may_drop strategies) opened next (begun_after these x t.reply begun) (take many xs) (take many (outcomes_of xs ts mid points)))
      (sym here)
      (takes_adds strategies begun x t.reply t.entries old.stage mid.stage merged r.0, takes_notes strategies begun x t.reply t.entries old.stage mid.stage known r.0, rest)
  each_tells (suc many) xs ts past begun old points r known merged sealed = absurd r

-- ---- journals of the first so many

module _ (opened : List Entry) where
  -- what a longer journal has more
  abbrev Longer : List Event → List Event → Type 0
  Longer short long = (more : List Event) × (long ≡ short ++ more)

  grows : (outcomes : List (out.Told Reply)) (past : Past) → Longer past.journal (after_all opened past outcomes).journal
  grows [] past = ([], sym (append-nil past.journal))
  grows (o ∷ outcomes) past =
      let later = grows outcomes (after opened past o) in
      (without_low_reads opened o.entries ++ later.0, later.1 ∙ append_assoc past.journal (without_low_reads opened o.entries) later.0)

  pub front_grows : (k many : ℕ) (outcomes : List (out.Told Reply)) (past : Past) → k ≤ many → Longer (after_all opened past (take k outcomes)).journal (after_all opened past (take many outcomes)).journal
  front_grows zero many outcomes past low = grows (take many outcomes) past
  front_grows (suc k) zero outcomes past low = absurd (omega (low, arith))
  front_grows (suc k) (suc many) [] past low = ([], sym (append-nil past.journal))
  front_grows (suc k) (suc many) (o ∷ outcomes) past low = front_grows k many outcomes (after opened past o) (omega (low, arith))

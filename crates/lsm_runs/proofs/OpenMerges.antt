-- A run leaves the flush and the merges open that were open at its start.
use Rattle.std.proofs.Common.{◌≡◌, inl, inr, ℕ, ◌+◌, ◌<◌, ◌≤◌, ◌==◌, cond, not, List, [], ◌∷◌, ◌++◌, Option, Some, None, option_map, Result, Ok, Err, refl, sym, ap, ◌∙◌, subst, arith, append-nil, append_assoc}
use Rattle.std.specs.List.{AllByRecursion}
use Rattle.std.proofs.lemmas.Bool.Decides.{eqb_tells}
use Rattle.lsm_below.specs.Each.{each_append, each_weaker, each_filter}
use Rattle.lsm_below.specs.Members.{IsIn}
use Rattle.lsm_below.specs.declared.error.Error.{Error}
use Rattle.lsm_model.specs.Journal.{Event}
use Rattle.lsm_flush.specs.Jobs.{SeenJob}
use Rattle.lsm_flush.specs.declared.jobs.Registered.{Registered as Outcome}
use Rattle.lsm_compaction.specs.Merges.{SeenCompaction}
use Rattle.lsm_compaction.specs.OpenMerges.{SeenOpenMerge, SeenMerges, IsMergeOf, without, AreOpen}
use Rattle.lsm_state.specs.declared.compaction.Options.{Options}
use Rattle.lsm_state.specs.declared.compaction.Begun.{Begun as BegunOf}
use Rattle.lsm_state.specs.declared.compaction.Begun.TheVariants.{DidNothing, Declined, Installed, Job as BegunMerge}
use Rattle.lsm_state.specs.Core.{Core}
use Rattle.lsm_state.specs.Flushes.{Begins}
use Rattle.lsm_runs.specs.declared.slots.Job.{Job}
use Rattle.lsm_runs.specs.declared.slots.Job.TheVariants.{Begun as BegunJob, Merged, Written, Compaction, Compacted}
use Rattle.lsm_runs.specs.declared.steps.JobStep.{JobStep}
use Rattle.lsm_runs.specs.declared.steps.JobStep.TheVariants.{BeginFlush, RunFlush, FlushToTables, RegisterTables, AbandonFlush, BeginCompaction, RunCompaction, FinishCompaction, AbandonCompaction}
use Rattle.lsm_runs.specs.declared.steps.Step.{Step}
use Rattle.lsm_runs.specs.declared.steps.Step.TheVariants.{AtSlot}
use Rattle.lsm_runs.specs.declared.steps.Reply.{Reply}
use Rattle.lsm_runs.specs.declared.steps.Reply.TheVariants.{Done, Begun, Registered, NoStrategy, NoJob, SlotInUse, Refused}
use Rattle.lsm_runs.specs.Told.{Told}
use Rattle.lsm_runs.specs.Flushing.{IsIdle, TakesBegin, TakesRun, TakesTables, TakesRegister, RegistersFrom, TakesAbandon}
use Rattle.lsm_runs.specs.Compacting.{Strategies, job_of, TakesBeginCompaction, TakesRunCompaction, TakesFinish, TakesAbandonCompaction}
use Rattle.lsm_runs.specs.JobSteps.{TakesJob}
use Rattle.lsm_runs.specs.Runs.{Takes, Ran}
use Rattle.lsm_runs.specs.Slots.{Stage, at_first, flush_in, merge_in, number_in, KeepsOpen, HasJob, KeepsMerges}
use Rattle.lsm_runs.proofs.CompactionRest.{OpensJob, newest, LeavesBegun, LeavesEnded, AreBelow, without_start, in_right, begun_work, finished_work, spends_work}
use Rattle.lsm_runs.proofs.OpenFlush.{registered_work, start_open, still_open, job_open}
use Rattle.lsm_runs.proofs.OpenWork.{alone_work}

pub no_merge : (o : Option SeenCompaction) (job : SeenCompaction) → o ≡ None → o ≡ Some job → ⊥
no_merge o job none some = cc

pub one_merge : (o : Option SeenCompaction) (a b : SeenCompaction) → o ≡ Some a → o ≡ Some b → a ≡ b
one_merge o a b first second = cc

-- ---- the open merges stay

-- a job that waited waits still, where each slot has one of the same merge
wait_still : (was is : ℕ → Option Job) → ((n : ℕ) → merge_in (is n) ≡ merge_in (was n)) → (merges : List SeenOpenMerge) → AllByRecursion (λ m. HasJob m was) merges → AllByRecursion (λ m. HasJob m is) merges
wait_still was is same merges h = each_weaker (λ m. HasJob m was) (λ m. HasJob m is) (λ m w. (w.0, w.1, same w.0 ∙ w.2, w.3)) merges h

below_still : (old new : SeenMerges) → new.underway ≡ old.underway → old.next ≤ new.next → AreBelow old.next old.underway → AreBelow new.next new.underway
below_still old new same rises below =
    subst (AreBelow new.next) (sym same) (each_weaker (λ m. m.number < old.next) (λ m. m.number < new.next) (λ m lt. omega arith) old.underway below)

pub still_merged : (start : SeenMerges) (old new : Stage) → new.core.merges.underway ≡ old.core.merges.underway → old.core.merges.next ≤ new.core.merges.next → ((n : ℕ) → merge_in (new.jobs n) ≡ merge_in (old.jobs n)) → KeepsMerges start old → KeepsMerges start new
still_merged start old new stay rises same k = record {
  own = k.own;
  underway = stay ∙ k.underway;
  wait = wait_still old.jobs new.jobs same k.own k.wait;
  later = λ n job waits. k.later n job (sym (same n) ∙ waits);
  first = k.first;
  below = below_still old.core.merges new.core.merges stay rises k.below;
  next = let a = k.next in omega arith;
}

pub start_merged : (c : Core) → AreOpen c.merges → KeepsMerges c.merges (at_first c)
start_merged c apart = record {
  own = [];
  underway = sym (append-nil c.merges.underway);
  wait = tt;
  later = λ n job waits. absurd (no_merge None job refl waits);
  first = apart.below;
  below = apart.below;
  next = omega arith;
}

-- ---- a merge is begun, or ends

module _ (start : SeenMerges) (slot : ℕ) (old new : Stage) (others : (n : ℕ) → (n ≡ slot → ⊥) → new.jobs n ≡ old.jobs n) (k : KeepsMerges start old) where
  -- a job in another slot waits still
  elsewhere : (m : SeenOpenMerge) (w : HasJob m old.jobs) → (w.0 ≡ slot → ⊥) → HasJob m new.jobs
  elsewhere m w apart = (w.0, w.1, ap merge_in (others w.0 apart) ∙ w.2, w.3)

  -- a merge is opened whose job waits in the slot
  pub opened_merged : (job : SeenCompaction) → merge_in (old.jobs slot) ≡ None → merge_in (new.jobs slot) ≡ Some job → OpensJob job old.core new.core → KeepsMerges start new
  opened_merged job free here o = record {
    own = k.own ++ newest job old.core new.core o ∷ [];
    underway = same_underway ∙ ap (λ ms. ms ++ newest job old.core new.core o ∷ []) k.underway ∙ append_assoc start.underway k.own (newest job old.core new.core o ∷ []);
    wait = each_append (λ x. HasJob x new.jobs) k.own (newest job old.core new.core o ∷ []) (each_weaker (λ x. HasJob x old.jobs) (λ x. HasJob x new.jobs) (λ x w. elsewhere x w (λ e. apart x w e)) k.own k.wait) ((slot, job, here, o.is), tt);
    later = later;
    first = k.first;
    below = subst (AreBelow new.core.merges.next) (sym same_underway) (each_append (λ x. x.number < new.core.merges.next) old.core.merges.underway (newest job old.core new.core o ∷ []) (each_weaker (λ x. x.number < old.core.merges.next) (λ x. x.number < new.core.merges.next) (λ x lt. let n = next_is in omega arith) old.core.merges.underway k.below) ((let n = next_is in omega arith), tt));
    next = let a = k.next in let n = next_is in omega arith;
  }
    where
      same_underway : new.core.merges.underway ≡ old.core.merges.underway ++ newest job old.core new.core o ∷ []
      same_underway = ap (λ (ms : SeenMerges). ms.underway) o.merges

      next_is : new.core.merges.next ≡ old.core.merges.next + 1
      next_is = ap (λ (ms : SeenMerges). ms.next) o.merges

      apart : (x : SeenOpenMerge) (w : HasJob x old.jobs) → w.0 ≡ slot → ⊥
      apart x w e = no_merge (merge_in (old.jobs w.0)) w.1 (subst (λ n. merge_in (old.jobs n) ≡ None) (sym e) free) w.2

      later : (n : ℕ) (j : SeenCompaction) → merge_in (new.jobs n) ≡ Some j → start.next ≤ j.number
      later n j waits = elim (eqb_tells n slot) [
        | inl e ↦
            let same = one_merge (merge_in (new.jobs slot)) job j here (subst (λ i. merge_in (new.jobs i) ≡ Some j) e.1 waits) in
            let number : j.number ≡ old.core.merges.next = ap (λ (x : SeenCompaction). x.number) (sym same) ∙ o.number in
            let a = k.next in omega arith
        | inr e ↦ k.later n j (sym (ap merge_in (others n e.1)) ∙ waits)
      ]

  -- where a slot is free its job waits no longer, and none of the others' went
  freed_later : merge_in (new.jobs slot) ≡ None → (n : ℕ) (j : SeenCompaction) → merge_in (new.jobs n) ≡ Some j → start.next ≤ j.number
  freed_later free n j waits = elim (eqb_tells n slot) [
    | inl e ↦ absurd (no_merge (merge_in (new.jobs slot)) j free (subst (λ i. merge_in (new.jobs i) ≡ Some j) e.1 waits))
    | inr e ↦ k.later n j (sym (ap merge_in (others n e.1)) ∙ waits)
  ]

  -- those of another number than the job's
  left_waiting : (job : SeenCompaction) → merge_in (old.jobs slot) ≡ Some job → (own : List SeenOpenMerge) → AllByRecursion (λ m. HasJob m old.jobs) own → AllByRecursion (λ m. HasJob m new.jobs) (without job.number own)
  left_waiting job here [] h = tt
  left_waiting job here (m ∷ own) h = elim (eqb_tells m.number job.number) [
    | inl e ↦ subst (λ b. AllByRecursion (λ x. HasJob x new.jobs) (cond (not b) (m ∷ without job.number own) (without job.number own))) (sym e.0) (left_waiting job here own h.1)
    | inr e ↦ subst (λ b. AllByRecursion (λ x. HasJob x new.jobs) (cond (not b) (m ∷ without job.number own) (without job.number own))) (sym e.0)
        (elsewhere m h.0 (λ at. e.1 (numbers m h.0 at)), left_waiting job here own h.1)
  ]
    where
      numbers : (x : SeenOpenMerge) (w : HasJob x old.jobs) → w.0 ≡ slot → x.number ≡ job.number
      numbers x w at = w.3.number ∙ ap (λ (j : SeenCompaction). j.number) (one_merge (merge_in (old.jobs slot)) w.1 job (subst (λ n. merge_in (old.jobs n) ≡ Some w.1) at w.2) here)

  -- none is one of the job, which isn't open
  none_waiting : (job : SeenCompaction) → merge_in (old.jobs slot) ≡ Some job → (own : List SeenOpenMerge) → ((m : SeenOpenMerge) → IsIn m own → IsMergeOf job m → ⊥) → AllByRecursion (λ m. HasJob m old.jobs) own → AllByRecursion (λ m. HasJob m new.jobs) own
  none_waiting job here [] apart h = tt
  none_waiting job here (m ∷ own) apart h = (
    elsewhere m h.0 (λ at. apart m (inl refl) (subst (λ j. IsMergeOf j m) (one_merge (merge_in (old.jobs slot)) h.0.1 job (subst (λ n. merge_in (old.jobs n) ≡ Some h.0.1) at h.0.2) here) h.0.3)),
    none_waiting job here own (λ x at. apart x (inr at)) h.1,
  )

  -- the merge of the slot's job ends
  pub ended_merged : (job : SeenCompaction) → merge_in (old.jobs slot) ≡ Some job → merge_in (new.jobs slot) ≡ None → LeavesEnded job old.core new.core → KeepsMerges start new
  ended_merged job here free (inl e) = record {
    own = without job.number k.own;
    underway = same_underway ∙ ap (without job.number) k.underway ∙ without_start start k.own job.number k.first (k.later slot job here);
    wait = left_waiting job here k.own k.wait;
    later = freed_later free;
    first = k.first;
    below = subst (λ (ms : SeenMerges). AreBelow ms.next ms.underway) (sym e.1.1) (each_filter (λ m. m.number < old.core.merges.next) (λ m. not (m.number == job.number)) old.core.merges.underway k.below);
    next = subst (λ (ms : SeenMerges). start.next ≤ ms.next) (sym e.1.1) k.next;
  }
    where
      same_underway : new.core.merges.underway ≡ without job.number old.core.merges.underway
      same_underway = ap (λ (ms : SeenMerges). ms.underway) e.1.1
  ended_merged job here free (inr e) = record {
    own = k.own;
    underway = ap (λ (ms : SeenMerges). ms.underway) e.1.1 ∙ k.underway;
    wait = none_waiting job here k.own (λ m at of. e.0 (m, subst (IsIn m) (sym k.underway) (in_right m start.underway k.own at), of)) k.wait;
    later = freed_later free;
    first = k.first;
    below = subst (λ (ms : SeenMerges). AreBelow ms.next ms.underway) (sym e.1.1) k.below;
    next = subst (λ (ms : SeenMerges). start.next ≤ ms.next) (sym e.1.1) k.next;
  }

  -- ---- calls on a job

  -- the open merges stay, and the slot has a job of the same merge, or of none before and after
  same_slot : (mid : Core) → new.core ≡ mid → mid.merges ≡ old.core.merges → merge_in (new.jobs slot) ≡ merge_in (old.jobs slot) → KeepsMerges start new
  same_slot mid is stay same = still_merged start old new (ap (λ (ms : SeenMerges). ms.underway) merges) (subst (λ (ms : SeenMerges). old.core.merges.next ≤ ms.next) (sym merges) (omega arith)) here k
    where
      merges : new.core.merges ≡ old.core.merges
      merges = ap (λ (c : Core). c.merges) is ∙ stay

      here : (n : ℕ) → merge_in (new.jobs n) ≡ merge_in (old.jobs n)
      here n = elim (eqb_tells n slot) [
        | inl e ↦ subst (λ m. merge_in (new.jobs m) ≡ merge_in (old.jobs m)) (sym e.1) same
        | inr e ↦ ap merge_in (others n e.1)
      ]

  idle_merged : (events : List Event) → IsIdle events (old.jobs slot) (new.jobs slot) old.core new.core → KeepsMerges start new
  idle_merged events t = same_slot old.core t.2 refl (ap merge_in t.1)

  begin_merged : (reply : Reply) (events : List Event) → TakesBegin reply events (old.jobs slot) (new.jobs slot) old.core new.core → KeepsMerges start new
  begin_merged (Begun b) events t = go t.2.0 t.2.1 t.2.3
    where
      go : (job : Option SeenJob) → new.jobs slot ≡ option_map BegunJob job → Begins (Ok job) old.core new.core → KeepsMerges start new
      go None is begins = same_slot old.core (begins.some refl).1 refl (ap merge_in is ∙ sym (ap merge_in t.1))
      go (Some job) is begins = same_slot _ begins.begins.1 refl (ap merge_in is ∙ sym (ap merge_in t.1))
  begin_merged (Refused x) events t = idle_merged events t.0
  begin_merged SlotInUse events t = idle_merged events t.0
  begin_merged reply events t = absurd t

  run_merged : (w : ℕ) (reply : Reply) (events : List Event) → TakesRun w reply events (old.jobs slot) (new.jobs slot) old.core new.core → KeepsMerges start new
  run_merged w Done events t = same_slot old.core t.1 refl (ap merge_in t.2.2 ∙ sym (ap merge_in t.2.1))
  run_merged w (Refused x) events t = idle_merged events t.0
  run_merged w NoJob events t = idle_merged events t.0
  run_merged w reply events t = absurd t

  tables_merged : (reply : Reply) (events : List Event) → TakesTables reply events (old.jobs slot) (new.jobs slot) old.core new.core → KeepsMerges start new
  tables_merged Done events t = let wrote = t.1.4 in same_slot _ wrote.ok refl (ap merge_in t.1.3 ∙ sym (ap merge_in t.1.2))
  tables_merged (Refused x) events t = same_slot _ t.1.3.err refl (ap merge_in t.1.2)
  tables_merged NoJob events t = idle_merged events t.0
  tables_merged reply events t = absurd t

  registers_merged : (r : Result Outcome Error) (events : List Event) → RegistersFrom r events (old.jobs slot) (new.jobs slot) old.core new.core → KeepsMerges start new
  registers_merged r events t = same_slot new.core refl (registered_work t.0 r old.core new.core t.4).1 (ap merge_in t.2 ∙ sym (ap merge_in t.1))

  register_merged : (reply : Reply) (events : List Event) → TakesRegister reply events (old.jobs slot) (new.jobs slot) old.core new.core → KeepsMerges start new
  register_merged (Registered a) events t = registers_merged (Ok a) events t
  register_merged (Refused x) events t = registers_merged (Err x) events t
  register_merged NoJob events t = idle_merged events t.0
  register_merged reply events t = absurd t

  -- a place of a flush's job has none of a merge
  flush_apart : (place : Option Job) (job : SeenJob) → flush_in place ≡ Some job → merge_in place ≡ None
  flush_apart place job is = go place is
    where
      no_flush : ◌≡◌ {A = Option SeenJob} None (Some job) → ⊥
      no_flush e = cc

      go : (p : Option Job) → flush_in p ≡ Some job → merge_in p ≡ None
      go None e = refl
      go (Some (BegunJob flush)) e = refl
      go (Some (Merged flush)) e = refl
      go (Some (Written flush)) e = refl
      go (Some (Compaction merge)) e = absurd (no_flush e)
      go (Some (Compacted merge)) e = absurd (no_flush e)

  abandon_merged : (reply : Reply) (events : List Event) → TakesAbandon reply events (old.jobs slot) (new.jobs slot) old.core new.core → KeepsMerges start new
  abandon_merged Done events t = same_slot _ t.1.3 refl (ap merge_in t.1.2 ∙ sym (flush_apart (old.jobs slot) t.1.0 t.1.1))
  abandon_merged NoJob events t = idle_merged events t.0
  abandon_merged reply events t = absurd t

  -- a merge that doesn't become a job waits nowhere
  job_none : (r : Result BegunOf Error) → ((job : SeenCompaction) → r ≡ Ok (BegunMerge job) → ⊥) → merge_in (job_of r) ≡ None
  job_none (Ok (BegunMerge job)) other = absurd (other job refl)
  job_none (Ok DidNothing) other = refl
  job_none (Ok (Declined why)) other = refl
  job_none (Ok Installed) other = refl
  job_none (Err e) other = refl

  begun_merged : (r : Result BegunOf Error) → old.jobs slot ≡ None → new.jobs slot ≡ job_of r → LeavesBegun r old.core new.core → KeepsMerges start new
  begun_merged r free is (inl b) = same_slot new.core refl b.0.1 (ap merge_in is ∙ job_none r b.1 ∙ sym (ap merge_in free))
  begun_merged r free is (inr b) = opened_merged b.0 (ap merge_in free) (ap merge_in is ∙ ap (λ x. merge_in (job_of x)) b.1) b.2

  compaction_merged : (strategies : Strategies) (at : ℕ) (o : Options) (reply : Reply) (events : List Event) → TakesBeginCompaction strategies at o reply events (old.jobs slot) (new.jobs slot) old.core new.core → KeepsMerges start new
  compaction_merged strategies at o SlotInUse events t = idle_merged events t.0
  compaction_merged strategies at o NoStrategy events t = idle_merged events t.0
  compaction_merged strategies at o reply events t = begun_merged t.begun t.free t.waits (begun_work t.answer o t.begun events old.core new.core t.begins)

  run_compaction_merged : (reply : Reply) (events : List Event) → TakesRunCompaction reply events (old.jobs slot) (new.jobs slot) old.core new.core → KeepsMerges start new
  run_compaction_merged Done events t = same_slot old.core t.1 refl (ap merge_in t.2.2 ∙ sym (ap merge_in t.2.1))
  run_compaction_merged (Refused x) events t = idle_merged events t.0
  run_compaction_merged NoJob events t = idle_merged events t.0
  run_compaction_merged reply events t = absurd t

  finish_merged : (reply : Reply) (events : List Event) → TakesFinish reply events (old.jobs slot) (new.jobs slot) old.core new.core → KeepsMerges start new
  finish_merged NoJob events t = idle_merged events t.0
  finish_merged reply events t = ended_merged t.job.job (ap merge_in t.waited) (ap merge_in t.free) (finished_work t.job.job t.end old.core new.core t.ends.0)

  given_merged : (reply : Reply) (events : List Event) → TakesAbandonCompaction reply events (old.jobs slot) (new.jobs slot) old.core new.core → KeepsMerges start new
  given_merged Done events t = ended_merged t.1.0 t.1.1 (ap merge_in t.1.2) (spends_work t.1.0 old.core new.core t.1.3)
  given_merged NoJob events t = idle_merged events t.0
  given_merged reply events t = absurd t

  job_merged : (strategies : Strategies) (step : JobStep) (reply : Reply) (events : List Event) → TakesJob strategies step reply events (old.jobs slot) (new.jobs slot) old.core new.core → KeepsMerges start new
  job_merged strategies BeginFlush reply events t = begin_merged reply events t
  job_merged strategies (RunFlush w) reply events t = run_merged w reply events t
  job_merged strategies FlushToTables reply events t = tables_merged reply events t
  job_merged strategies RegisterTables reply events t = register_merged reply events t
  job_merged strategies AbandonFlush reply events t = abandon_merged reply events t
  job_merged strategies (BeginCompaction at o) reply events t = compaction_merged strategies at o reply events t
  job_merged strategies RunCompaction reply events t = run_compaction_merged reply events t
  job_merged strategies FinishCompaction reply events t = finish_merged reply events t
  job_merged strategies AbandonCompaction reply events t = given_merged reply events t

-- ---- a run

-- the open flush is that of the start, and so are the open merges, but for those whose jobs wait
abbrev pub KeepsStart : Core → Stage → Type 0
KeepsStart start s = KeepsOpen start.flush s × KeepsMerges start.merges s

pub start_kept : (c : Core) → AreOpen c.merges → KeepsStart c (at_first c)
start_kept c apart = (start_open c, start_merged c apart)

takes_kept : (strategies : Strategies) (start : Core) (x : Step) (reply : Reply) (events : List Event) (old new : Stage) → Takes strategies x reply events old new → KeepsStart start old → KeepsStart start new
takes_kept strategies start (AtSlot slot step) reply events old new t k = (job_open start.flush slot old new t.1 strategies step reply events t.0 k.0, job_merged start.merges slot old new t.1 k.1 strategies step reply events t.0)
takes_kept strategies start x reply events old new t k =
    let w = alone_work strategies x reply events old.core new.core k.1.below t.0 in
    (still_open start.flush old new w.flush (λ n. ap (λ (jobs : ℕ → Option Job). number_in (jobs n)) t.1) k.0, still_merged start.merges old new w.underway w.next (λ n. ap (λ (jobs : ℕ → Option Job). merge_in (jobs n)) t.1) k.1)

pub ran_kept : (strategies : Strategies) (start : Core) (xs : List Step) (ts : List Told) (old new : Stage) → Ran strategies xs ts old new → KeepsStart start old → KeepsStart start new
ran_kept strategies start [] [] old new r k = subst (KeepsStart start) (sym r) k
ran_kept strategies start [] (t ∷ ts) old new r k = absurd r
ran_kept strategies start (x ∷ xs) [] old new r k = absurd r
ran_kept strategies start (x ∷ xs) (t ∷ ts) old new r k = ran_kept strategies start xs ts r.0 new r.2 (takes_kept strategies start x t.reply t.entries old r.0 r.1 k)

-- From the flushes of a run to the replay of its journal, and to what they leave.
use Rattle.std.proofs.Common.{◌≡◌, ℕ, Bool, true, false, cond, ◌==◌, nat_lt, ⊎_elim, List, [], ◌∷◌, Option, Some, None, Result, Ok, Err, find, refl, sym, ◌∙◌, subst, append-nil}
use Rattle.lsm_below.specs.Entries.{Entry}
use Rattle.lsm_below.specs.declared.error.Error.{Error}
use Rattle.lsm_model.specs.Soundness.{Soundness}
use Rattle.lsm_model.specs.Journal.{Event, Map, InOrder}
use Rattle.lsm_model.specs.Views.{SuperVersion, found_at, front}
use Rattle.lsm_model.specs.Steps.{Rotated, StaysAt}
use Rattle.lsm_model.specs.Sound.{Holds}
use Rattle.lsm_model.specs.declared.journal.JournalEntry.TheVariants.{Mark, Install}
use Rattle.lsm_flush.specs.declared.jobs.Registered.{Registered as Outcome}
use Rattle.lsm_state.specs.Core.{Core, state_of, latest_of, older_of, rotated_core}
use Rattle.lsm_state.specs.Calls.{Rotates}
use Rattle.lsm_state.specs.FlushReads.{KeepsReads, FlushesKeepReads, register_events, flush_events}
use Rattle.lsm_state.specs.WholeFlushes.{RefusesRotation}
use Rattle.lsm_runs.specs.declared.slots.Job.{Job}
use Rattle.lsm_runs.specs.declared.steps.Reply.{Reply}
use Rattle.lsm_runs.specs.declared.steps.Reply.TheVariants.{Begun, Done, Registered, Flushed, FlushedActive, RefusedActive, NoJob, SlotInUse, Refused}
use Rattle.lsm_journal.specs.NotedFlushes.{FlushesNoted, FlushesRotated}
use Rattle.lsm_runs.specs.Flushing.{TakesBegin, TakesRun, TakesTables, TakesRegister, RegistersFrom, TakesAbandon, TakesFlush, TakesFlushActive, TakesMoment}
use Rattle.lsm_runs.specs.Runs.{without_low_reads}
use Rattle.lsm_runs.proofs.Keeping.{AreNoReads}

-- no event is a read, and reads are right after them where they were
abbrev pub KeepsRun : List Event → Core → Core → Type 0
KeepsRun events old new = AreNoReads events × KeepsReads events old new

-- ---- the events of flushes

unread_registered : (w n : ℕ) (r : Result Outcome Error) (opened : List Entry) → without_low_reads opened (register_events w n r) ≡ register_events w n r
unread_registered w n (Ok a) opened =
    elim a.installed as (λ b. without_low_reads opened (cond b (Mark w ∷ (Install n ∷ [])) (Mark w ∷ [])) ≡ cond b (Mark w ∷ (Install n ∷ [])) (Mark w ∷ [])) [ true ↦ refl | false ↦ refl ]
unread_registered w n (Err e) opened = refl

unread_flushed : (w n : ℕ) (marked : Bool) (r : Result (Option (ℕ × Outcome)) Error) (opened : List Entry) → without_low_reads opened (flush_events w n marked r) ≡ flush_events w n marked r
unread_flushed w n false r opened = refl
unread_flushed w n true (Ok a) opened = refl
unread_flushed w n true (Err e) opened = refl

-- ---- rotation

-- another super version of the same number is found as well
pub other_found : (s : ℕ) (a b : SuperVersion) (older : List SuperVersion) (sv : SuperVersion) → b.number ≡ a.number → found_at s a older ≡ Some sv → (v : SuperVersion) × (found_at s b older ≡ Some v)
other_found s a b older sv same found =
    elim (s == 0) as (λ z. cond z (Some (front a older)) (find (λ (x : SuperVersion). nat_lt x.number s) (a ∷ older)) ≡ Some sv → (v : SuperVersion) × (cond z (Some (front b older)) (find (λ (x : SuperVersion). nat_lt x.number s) (b ∷ older)) ≡ Some v)) [
      | true ↦ λ f. (front b older, refl)
      | false ↦ λ f. let l = looked (nat_lt a.number s) f in (l.0, subst (λ n. cond (nat_lt n s) (Some b) (find (λ (x : SuperVersion). nat_lt x.number s) older) ≡ Some l.0) (sym same) l.1)
    ] found
  where
    looked : (z : Bool) → cond z (Some a) (find (λ (x : SuperVersion). nat_lt x.number s) older) ≡ Some sv → (v : SuperVersion) × (cond z (Some b) (find (λ (x : SuperVersion). nat_lt x.number s) older) ≡ Some v)
    looked true f = (b, refl)
    looked false f = (sv, f)

rotated_found : (old : Core) (id : Option ℕ) (mid : Core) → Rotates old id mid → (s : ℕ) (sv : SuperVersion) → found_at s (latest_of old) (older_of old) ≡ Some sv → (v : SuperVersion) × (found_at s (latest_of mid) (older_of mid) ≡ Some v)
rotated_found old None mid r s sv found = (sv, rw r.1 found)
rotated_found old (Some id) mid r s sv found =
    let v = other_found s (latest_of old) (latest_of (rotated_core old)) (older_of old) sv refl found in
    (v.0, rw r.2 v.1)

module _ (theory : Soundness) where
  rotated_holds : (opened : List Entry) (start : Map) (journal : List Event) (old : Core) (id : Option ℕ) (mid : Core) → Rotates old id mid → InOrder opened journal → Holds opened start (state_of journal old) → Holds opened start (state_of journal mid)
  rotated_holds opened start journal old None mid r order h = rw r.1 h
  rotated_holds opened start journal old (Some id) mid r order h = theory.kept.step opened start (state_of journal old) (Rotated old.next_memtable) (state_of journal mid) (r.3 opened journal) order h

  rotated_stays : (opened : List Entry) (start : Map) (journal : List Event) (old : Core) (id : Option ℕ) (mid : Core) → Rotates old id mid → InOrder opened journal → Holds opened start (state_of journal old) → (s : ℕ) → StaysAt s (state_of [] old) (state_of [] mid)
  rotated_stays opened start journal old None mid r order h s = subst (λ c. StaysAt s (state_of [] old) (state_of [] c)) (sym r.1) (theory.spares.same s (state_of [] old) (state_of [] old) refl refl refl)
  rotated_stays opened start journal old (Some id) mid r order h s = theory.spares.step opened start s (state_of journal old) (Rotated old.next_memtable) (state_of journal mid) (r.3 opened journal) order tt h

  -- what keeps reads after a rotation keeps them with it
  rotated_keeps : (events : List Event) (old : Core) (id : Option ℕ) (mid new : Core) → Rotates old id mid → KeepsReads events mid new → KeepsReads events old new
  rotated_keeps events old id mid new r k = record {
    right = λ opened start journal order h. k.right opened start journal order (rotated_holds opened start journal old id mid r (theory.kept.front opened journal events order) h);
    stays = λ opened start journal order h s sv sv' found found'.
        let front = theory.kept.front opened journal events order in
        let v = rotated_found old id mid r s sv found in
        rotated_stays opened start journal old id mid r front h s sv v.0 found v.1
        ∙ k.stays opened start journal order (rotated_holds opened start journal old id mid r front h) s v.0 sv' v.1 found';
  }

  -- ---- each call

  nothing : (old new : Core) → new ≡ old → KeepsReads [] old new
  nothing old new is = subst (λ c. KeepsReads [] old c) (sym is) (record {
    right = λ opened start journal order h. subst (λ j. Holds opened start (state_of j old)) (sym (append-nil journal)) h;
    stays = λ opened start journal order h s. theory.spares.same s (state_of [] old) (state_of [] old) refl refl refl;
  })

  pub silent : (events : List Event) (old new : Core) → events ≡ [] → KeepsReads [] old new → KeepsRun events old new
  silent events old new none k = subst (λ es. KeepsRun es old new) (sym none) ((λ opened. refl), k)

  pub idle : (events : List Event) (old new : Core) → events ≡ [] → new ≡ old → KeepsRun events old new
  idle events old new none is = silent events old new none (nothing old new is)

  module _ (laws : FlushesKeepReads) where
    pub begin_keeps : (reply : Reply) (events : List Event) (was is : Option Job) (old new : Core) → TakesBegin reply events was is old new → KeepsRun events old new
    begin_keeps (Begun b) events was is old new t = silent events old new t.0 (laws.silent old new t.3)
    begin_keeps (Refused x) events was is old new t = idle events old new t.0.0 t.0.2
    begin_keeps SlotInUse events was is old new t = idle events old new t.0.0 t.0.2
    begin_keeps reply events was is old new t = absurd t

    pub run_keeps : (w : ℕ) (reply : Reply) (events : List Event) (was is : Option Job) (old new : Core) → TakesRun w reply events was is old new → KeepsRun events old new
    run_keeps w Done events was is old new t = idle events old new t.0 t.1
    run_keeps w (Refused x) events was is old new t = idle events old new t.0.0 t.0.2
    run_keeps w NoJob events was is old new t = idle events old new t.0.0 t.0.2
    run_keeps w reply events was is old new t = absurd t

    pub tables_keep : (reply : Reply) (events : List Event) (was is : Option Job) (old new : Core) → TakesTables reply events was is old new → KeepsRun events old new
    tables_keep Done events was is old new t = silent events old new t.0 (laws.silent old new t.2)
    tables_keep (Refused x) events was is old new t = silent events old new t.0 (laws.silent old new t.2)
    tables_keep NoJob events was is old new t = idle events old new t.0.0 t.0.2
    tables_keep reply events was is old new t = absurd t

    registered : (r : Result Outcome Error) (events : List Event) (was is : Option Job) (old new : Core) → RegistersFrom r events was is old new → KeepsRun events old new
    registered r events was is old new t = subst (λ es. KeepsRun es old new) (sym t.3) (unread_registered t.0.watermark old.seqno r, laws.registers t.0 r old new t.4 t.5)

    pub register_keeps : (reply : Reply) (events : List Event) (was is : Option Job) (old new : Core) → TakesRegister reply events was is old new → KeepsRun events old new
    register_keeps (Registered a) events was is old new t = registered (Ok a) events was is old new t
    register_keeps (Refused x) events was is old new t = registered (Err x) events was is old new t
    register_keeps NoJob events was is old new t = idle events old new t.0.0 t.0.2
    register_keeps reply events was is old new t = absurd t

    pub abandon_keeps : (reply : Reply) (events : List Event) (was is : Option Job) (old new : Core) → TakesAbandon reply events was is old new → KeepsRun events old new
    abandon_keeps Done events was is old new t = silent events old new t.0 (laws.silent old new t.2)
    abandon_keeps NoJob events was is old new t = idle events old new t.0.0 t.0.2
    abandon_keeps reply events was is old new t = absurd t

    noted : (w : ℕ) (r : Result (Option (ℕ × Outcome)) Error) (events : List Event) (old new : Core) → FlushesNoted w r events old new → KeepsRun events old new
    noted w r events old new t = subst (λ es. KeepsRun es old new) (sym t.1) (unread_flushed w old.seqno t.0 r, laws.flushes w t.0 r old new t.2 t.3)

    pub flush_keeps : (w : ℕ) (reply : Reply) (events : List Event) (old new : Core) → TakesFlush w reply events old new → KeepsRun events old new
    flush_keeps w (Flushed a) events old new t = noted w (Ok a) events old new t
    flush_keeps w (Refused x) events old new t = noted w (Err x) events old new t
    flush_keeps w reply events old new t = absurd t

    rotated : (w : ℕ) (id : Option ℕ) (r : Result (Option (ℕ × Outcome)) Error) (events : List Event) (old new : Core) → FlushesRotated w id r events old new → KeepsRun events old new
    rotated w id r events old new t = let k = noted w r events t.0 new t.2 in (k.0, rotated_keeps events old id t.0 new t.1 k.1)

    pub active_keeps : (w : ℕ) (reply : Reply) (events : List Event) (old new : Core) → TakesFlushActive w reply events old new → KeepsRun events old new
    active_keeps w (FlushedActive id a) events old new t = rotated w id (Ok a) events old new t
    active_keeps w (RefusedActive id x) events old new t = ⊎_elim
        (λ (none : (events ≡ []) × RefusesRotation id x old new). idle events old new none.0 none.1.unchanged)
        (λ (some : FlushesRotated w id (Err x) events old new). rotated w id (Err x) events old new some)
        t
    active_keeps w reply events old new t = absurd t

    pub moment_keeps : (n : ℕ) (reply : Reply) (events : List Event) (old new : Core) → TakesMoment n reply events old new → KeepsRun events old new
    moment_keeps n Done events old new t = silent events old new t.0 (laws.silent old new t.2)
    moment_keeps n reply events old new t = absurd t

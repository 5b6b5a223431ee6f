-- What a flush leaves of reads.
use Rattle.std.proofs.Common.{◌≡◌, ◌⊎◌, ⊎_elim, inl, inr, ℕ, Bool, true, false, cond, List, [], ◌∷◌, ◌++◌, Option, Some, None, Result, Ok, Err, IfOk, IsErrOf, refl, sym, ap, subst, append-nil}
use Rattle.lsm_below.specs.declared.error.Error.{Error}
use Rattle.lsm_below.specs.declared.error.Error.TheVariants.{OutOfMemory, Store, CommitUnknown, Unrecoverable, OutOfNumbers, TooManyRuns}
use Rattle.lsm_model.specs.Journal.{Event}
use Rattle.lsm_model.specs.Steps.{Marked, Flushed, Maintained, StaysAt}
use Rattle.lsm_model.specs.Sound.{Holds}
use Rattle.lsm_model.specs.Soundness.{Soundness}
use Rattle.lsm_model.specs.Views.{Placed}
use Rattle.lsm_model.specs.Beginnings.{Note, FlushedIds, Done}
use Rattle.lsm_model.specs.declared.journal.JournalEntry.TheVariants.{Mark, Install}
use Rattle.lsm_versions.specs.Levels.{placed_in}
use Rattle.lsm_flush.specs.Jobs.{SeenWritten}
use Rattle.lsm_flush.specs.declared.jobs.Registered.{Registered}
use Rattle.lsm_state.specs.Core.{Core, state_of}
use Rattle.lsm_state.specs.Commits.{counted}
use Rattle.lsm_state.specs.Deeds.{saved_of, AreDone}
use Rattle.lsm_state.specs.Flushes.{Registers, Doubts, IsFlushDeed, spent}
use Rattle.lsm_state.specs.WholeFlushes.{Flushes, MarksFlush, LeavesRest, InstallsWhole}
use Rattle.lsm_state.specs.FlushReads.{register_events, flush_events, KeepsReads, FlushesKeepReads}

-- to reads the two are the same
abbrev Same : Core → Core → Type 0
Same old new = (journal : List Event) → state_of journal new ≡ state_of journal old

module _ (theory : Soundness) where
  same_stays : (old new : Core) → Same old new → (s : ℕ) → StaysAt s (state_of [] old) (state_of [] new)
  same_stays old new same s = subst (StaysAt s (state_of [] old)) (sym (same [])) (theory.spares.same s (state_of [] old) (state_of [] old) refl refl refl)

  nothing_keeps : (old new : Core) → Same old new → KeepsReads [] old new
  nothing_keeps old new same = record {
    right = λ opened start journal order holds. subst (λ j. Holds opened start (state_of j new)) (sym (append-nil journal)) (subst (Holds opened start) (sym (same journal)) holds);
    stays = λ opened start journal order holds. same_stays old new same;
  }

  mark_keeps : (w : ℕ) (old new : Core) → Same old new → KeepsReads (Mark w ∷ []) old new
  mark_keeps w old new same = record {
    right = λ opened start journal order holds.
        subst (Holds opened start) (sym (same (journal ++ Mark w ∷ []))) (theory.kept.step opened start (state_of journal old) (Marked w) (state_of (journal ++ Mark w ∷ []) old) refl order holds);
    stays = λ opened start journal order holds. same_stays old new same;
  }

  done_keeps : (w v : ℕ) (ids : List ℕ) (made : List Placed) (events : List Event) (noted : List Note) (old new : Core) → AreDone w (Flushed v ids made) events noted old new → KeepsReads (Mark w ∷ events) old new
  done_keeps w v ids made events noted old new done = record {
    right = λ opened start journal order holds.
        theory.kept.deeds opened start (saved_of journal [] old) (Done (Marked w) ∷ (Done (Flushed v ids made) ∷ (Done (Maintained w) ∷ []))) (saved_of (journal ++ Mark w ∷ events) (noted ++ []) new)
        (done opened journal [] ((theory.right.reads opened start (state_of journal old) holds).ordered.0)) order holds;
    stays = λ opened start journal order holds s.
        theory.spares.commits opened start s w (Flushed v ids made) (saved_of journal [] old) (saved_of (journal ++ Mark w ∷ events) (noted ++ []) new) refl
        (done opened journal [] ((theory.right.reads opened start (state_of journal old) holds).ordered.0)) order (λ mid after step is. tt) holds;
  }

  deed_keeps : (job : SeenWritten) (old new : Core) → IsFlushDeed job old new → KeepsReads (Mark job.watermark ∷ (Install old.seqno ∷ [])) old new
  deed_keeps job old new deed = done_keeps job.watermark job.watermark job.job.ids (placed_in 0 job.tables) (Install old.seqno ∷ []) (FlushedIds job.job.ids ∷ []) old new deed

  -- ---- registering a job

  counted_same : (n : ℕ) (old new : Core) → (new ≡ spent n old) ⊎ (new ≡ counted (spent n old)) → Same old new
  counted_same n old new is journal = ⊎_elim (λ h. ap (state_of journal) h) (λ h. ap (state_of journal) h) is

  doubted_same : (job : SeenWritten) (old new : Core) → Doubts job (spent job.job.number old) new → Same old new
  doubted_same job old new d journal = ap (state_of journal) d.is

  refused_same : (job : SeenWritten) (e : Error) (old new : Core) → Registers job (Err e) old new → Same old new
  refused_same job e old new r =
      let error : (f : Error) → e ≡ f → IsErrOf {T = Registered} (Err e) f = λ f h. ap Err h in
      let n = job.job.number in
      ⊎_elim
      (⊎_elim
      (λ (m : e ≡ OutOfMemory). counted_same n old new (r.memory (error OutOfMemory m)))
      (⊎_elim
      (λ (s : e ≡ Store). counted_same n old new (inr (r.store (error Store s))))
      (λ (u : e ≡ CommitUnknown). doubted_same job old new (r.unknown (error CommitUnknown u)).1)))
      (⊎_elim
      (λ (u : e ≡ Unrecoverable). counted_same n old new (inl (r.before (inl (error Unrecoverable u)))))
      (⊎_elim
      (λ (o : e ≡ OutOfNumbers). counted_same n old new (inl (r.before (inr (inl (error OutOfNumbers o))))))
      (λ (t : e ≡ TooManyRuns). counted_same n old new (inl (r.before (inr (inr (error TooManyRuns t))))))))
      r.only

  answered_keeps : (job : SeenWritten) (a : Registered) (b : Bool) (old new : Core) → a.installed ≡ b → Registers job (Ok a) old new → (a.installed ≡ true → IsFlushDeed job old new) → KeepsReads (register_events job.watermark old.seqno (Ok a)) old new
  answered_keeps job a true old new is r deed =
      subst (λ c. KeepsReads (cond c (Mark job.watermark ∷ (Install old.seqno ∷ [])) (Mark job.watermark ∷ [])) old new) (sym is) (deed_keeps job old new (deed is))
  answered_keeps job a false old new is r deed =
      subst (λ c. KeepsReads (cond c (Mark job.watermark ∷ (Install old.seqno ∷ [])) (Mark job.watermark ∷ [])) old new) (sym is) (mark_keeps job.watermark old new (counted_same job.job.number old new (inl (r.stale is).1.1)))

  registers : (job : SeenWritten) (r : Result Registered Error) (old new : Core) → Registers job r old new → IfOk r (λ a. a.installed ≡ true → IsFlushDeed job old new) → KeepsReads (register_events job.watermark old.seqno r) old new
  registers job (Ok a) old new r deed = answered_keeps job a a.installed old new refl r deed
  registers job (Err e) old new r deed = mark_keeps job.watermark old new (refused_same job e old new r)

  -- ---- a flush in one call

  rest_same : (old new : Core) → LeavesRest old new → Same old new
  rest_same old new l journal = ap (state_of journal) l.rest

  is_job : (w : ℕ) (size : ℕ) (a : Registered) (old new : Core) → InstallsWhole w size a old new → KeepsReads (Mark w ∷ (Install old.seqno ∷ [])) old new
  is_job w size a old new i = subst (λ v. KeepsReads (Mark v ∷ (Install old.seqno ∷ [])) old new) i.whole.watermark (deed_keeps i.job old new i.deeds)

  flushes : (w : ℕ) (marked : Bool) (r : Result (Option (ℕ × Registered)) Error) (old new : Core) → Flushes w r old new → MarksFlush w marked r old new → KeepsReads (flush_events w old.seqno marked r) old new
  flushes w false (Err e) old new f m = nothing_keeps old new (rest_same old new f.err)
  flushes w true (Err e) old new f m = mark_keeps w old new (rest_same old new f.err)
  flushes w false (Ok None) old new f m = nothing_keeps old new (λ journal. ap (state_of journal) (f.some refl).1)
  flushes w true (Ok None) old new f m = absurd (cc (m.ok.1 refl))
  flushes w false (Ok (Some p)) old new f m = absurd (clash (m.ok.0 refl))
    where
      clash : false ≡ true → ⊥
      clash e = cc e
  flushes w true (Ok (Some p)) old new f m = is_job w p.0 p.1 old new f.installs

  pub flushes_keep_reads : FlushesKeepReads
  flushes_keep_reads = record {
    silent = λ old new none. nothing_keeps old new (λ journal. ap (λ t. t.state) (none [] journal []));
    registers = registers;
    flushes = flushes;
  }

-- What the calls of a flush keep of a tree with its journal.
use Rattle.std.proofs.Common.{cond, ◌≡◌, ℕ, ◌+◌, ◌≤◌, Bool, true, false, List, [], ◌∷◌, ◌++◌, Option, Some, None, Result, Ok, Err, inl, inr, ⊎_elim, fold, refl, sym, ap, ◌∙◌, subst, arith, append-nil}
use Rattle.std.specs.BTreeMap.{BTreeMap}
use Rattle.lsm_below.specs.Keys.{Bytes}
use Rattle.lsm_below.specs.declared.error.Error.{Error}
use Rattle.lsm_below.specs.declared.error.Error.TheVariants.{OutOfMemory, Store, CommitUnknown, Unrecoverable, OutOfNumbers, TooManyRuns}
use Rattle.lsm_model.specs.Soundness.{Soundness}
use Rattle.lsm_model.specs.Journal.{Event, floor_after}
use Rattle.lsm_model.specs.Views.{Placed}
use Rattle.lsm_model.specs.declared.journal.JournalEntry.{JournalEntry}
use Rattle.lsm_model.specs.declared.journal.JournalEntry.TheVariants.{Install, Mark as Watermark}
use Rattle.lsm_flush.specs.Jobs.{SeenJob, SeenMerged, SeenWritten}
use Rattle.lsm_flush.specs.declared.jobs.Registered.{Registered}
use Rattle.lsm_state.specs.Core.{Core, state_of}
use Rattle.lsm_state.specs.CompactionReads.{SparesReads, IsAny, IsAnySnapshot}
use Rattle.lsm_state.specs.FlushReads.{register_events, flush_events, KeepsReads, FlushesKeepReads}
use Rattle.lsm_state.specs.Flushes.{Begins, WritesTables, Registers, spent}
use Rattle.lsm_state.specs.Commits.{counted}
use Rattle.lsm_state.specs.WholeFlushes.{Flushes, MarksFlush, RefusesRotation, FlushesActive}
use Rattle.lsm_journal.specs.NotedFlushes.{FlushesNoted as TellsFlush, FlushesRotated, FlushesActiveNoted, RegistersNoted as TellsRegister}
use Rattle.lsm_recorded.specs.declared.marks.Mark.{Mark}
use Rattle.lsm_recorded.specs.Passes.{Notes}
use Rattle.lsm_recorded.specs.Recorded.{IsRecorded, Stays}
use Rattle.lsm_recorded.specs.Flushing.{FlushesNoted, NotesBehind, NotesNothing, NotesActive}
use Rattle.lsm_recorded.proofs.CompactingLemmas.{events_recorded}
use Rattle.lsm_recorded.proofs.FlushedFiles.{stays_behind}
use Rattle.lsm_recorded.proofs.GoingOn.{GoesOn}
use Rattle.lsm_recorded.proofs.RecordedLemmas.{recorded_rotate, rotate_spares}
use Rattle.lsm_recorded.proofs.Telling.{silent_recorded}
use Rattle.lsm_recorded.proofs.Watermarks.{same_marked, still_marked}

-- ---- the counter, and the open merges

-- the counter is at this number or above, and the open merges stay
abbrev pub Goes : ℕ → Core → Core → Type 0
Goes n old new = (n ≤ new.seqno) × (new.merges ≡ old.merges)

-- where all else stays
still_goes : (old new : Core) → new.seqno ≡ old.seqno → new.merges ≡ old.merges → Goes old.seqno old new
still_goes old new q same = (omega (arith, q), same)

pub begins_goes : (r : Result (Option SeenJob) Error) (old new : Core) → Begins r old new → Goes old.seqno old new
begins_goes (Ok None) old new b = let is = (b.some refl).1 in still_goes old new (ap (λ (c : Core). c.seqno) is) (ap (λ (c : Core). c.merges) is)
begins_goes (Ok (Some job)) old new b = let is = b.begins.1 in still_goes old new (ap (λ (c : Core). c.seqno) is) (ap (λ (c : Core). c.merges) is)
begins_goes (Err e) old new b = still_goes old new (ap (λ (c : Core). c.seqno) b.err) (ap (λ (c : Core). c.merges) b.err)

pub writes_goes : (job : SeenMerged) (r : Result SeenWritten (Error × SeenMerged)) (old new : Core) → WritesTables job r old new → Goes old.seqno old new
writes_goes job (Ok x) old new w = still_goes old new (ap (λ (c : Core). c.seqno) w.ok) (ap (λ (c : Core). c.merges) w.ok)
writes_goes job (Err e) old new w = still_goes old new (ap (λ (c : Core). c.seqno) w.err) (ap (λ (c : Core). c.merges) w.err)

pub spent_goes : (n : ℕ) (old new : Core) → new ≡ spent n old → Goes old.seqno old new
spent_goes n old new is = still_goes old new (ap (λ (c : Core). c.seqno) is) (ap (λ (c : Core). c.merges) is)

-- a flush in one call that is refused
refused_goes : (w : ℕ) (e : Error) (old new : Core) → Flushes w (Err e) old new → Goes old.seqno old new
refused_goes w e old new f =
    let le : old.seqno ≤ new.seqno = ⊎_elim (λ (q : new.seqno ≡ old.seqno). let le : old.seqno ≤ new.seqno = omega (arith, q) in le) (λ (q : new.seqno ≡ old.seqno + 1). let le : old.seqno ≤ new.seqno = omega (arith, q) in le) f.err.seqno in
    (le, ap (λ (c : Core). c.merges) f.err.rest)

-- ---- what is told

nothing_goes : (old new : Core) → Goes old.seqno old new → GoesOn [] old new
nothing_goes old new goes = record { told = tt; next = goes.0; marked = λ journal. still_marked old new journal [] goes.1 }

mark_goes : (w : ℕ) (old new : Core) → Goes old.seqno old new → GoesOn (Watermark w ∷ []) old new
mark_goes w old new goes = record { told = tt; next = goes.0; marked = λ journal. still_marked old new journal (Watermark w ∷ []) goes.1 }

install_goes : (w : ℕ) (old new : Core) → Goes (old.seqno + 1) old new → GoesOn (Watermark w ∷ (Install old.seqno ∷ [])) old new
install_goes w old new goes = let le = goes.0 in record { told = (refl, refl); next = omega (arith, le); marked = λ journal. still_marked old new journal (Watermark w ∷ (Install old.seqno ∷ [])) goes.1 }

-- whatever a job that is registered is answered
registers_go : (job : SeenWritten) (r : Result Registered Error) (old new : Core) → Registers job r old new → GoesOn (register_events job.watermark old.seqno r) old new
registers_go job (Ok a) old new r = by_case a.installed refl
  where
    by_case : (b : Bool) → a.installed ≡ b → GoesOn (cond a.installed (Watermark job.watermark ∷ (Install old.seqno ∷ [])) (Watermark job.watermark ∷ [])) old new
    by_case true is =
        let rest = (r.installs is).1.cleans.rest in
        let q : new.seqno ≡ old.seqno + 1 = ap (λ (c : Core). c.seqno) rest in
        subst (λ b. GoesOn (cond b (Watermark job.watermark ∷ (Install old.seqno ∷ [])) (Watermark job.watermark ∷ [])) old new) (sym is) (install_goes job.watermark old new (omega (arith, q), ap (λ (c : Core). c.merges) rest))
    by_case false is =
        let rest = (r.stale is).1.1 in
        subst (λ b. GoesOn (cond b (Watermark job.watermark ∷ (Install old.seqno ∷ [])) (Watermark job.watermark ∷ [])) old new) (sym is) (mark_goes job.watermark old new (still_goes old new (ap (λ (c : Core). c.seqno) rest) (ap (λ (c : Core). c.merges) rest)))
registers_go job (Err e) old new r =
    mark_goes job.watermark old new
    (⊎_elim
    (⊎_elim
    (λ (m : e ≡ OutOfMemory). ⊎_elim same more (r.memory (ap Err m)))
    (⊎_elim
    (λ (s : e ≡ Store). more (r.store (ap Err s)))
    (λ (u : e ≡ CommitUnknown). let rest = (r.unknown (ap Err u)).1.is in let q : new.seqno ≡ old.seqno + 1 = ap (λ (c : Core). c.seqno) rest in (omega (arith, q), ap (λ (c : Core). c.merges) rest))))
    (⊎_elim
    (λ (u : e ≡ Unrecoverable). same (r.before (inl (ap Err u))))
    (⊎_elim
    (λ (o : e ≡ OutOfNumbers). same (r.before (inr (inl (ap Err o)))))
    (λ (t : e ≡ TooManyRuns). same (r.before (inr (inr (ap Err t)))))))
    r.only)
  where
    same : new ≡ spent job.job.number old → Goes old.seqno old new
    same h = spent_goes job.job.number old new h

    more : new ≡ counted (spent job.job.number old) → Goes old.seqno old new
    more h = let q : new.seqno ≡ old.seqno + 1 = ap (λ (c : Core). c.seqno) h in (omega (arith, q), ap (λ (c : Core). c.merges) h)

-- the same of a flush in one call
by_mark : (w : ℕ) (marked : Bool) (r : Result (Option (ℕ × Registered)) Error) (old new : Core) → Flushes w r old new → MarksFlush w marked r old new → GoesOn (flush_events w old.seqno marked r) old new
by_mark w false (Ok None) old new f m = let is = (f.some refl).1 in nothing_goes old new (still_goes old new (ap (λ (c : Core). c.seqno) is) (ap (λ (c : Core). c.merges) is))
by_mark w false (Ok (Some p)) old new f m = absurd (cc (m.ok.0 refl))
by_mark w false (Err e) old new f m = nothing_goes old new (refused_goes w e old new f)
by_mark w true (Ok None) old new f m = absurd (cc (m.ok.1 refl))
by_mark w true (Ok (Some p)) old new f m =
    let rest = f.installs.installs.cleans.rest in
    let q : new.seqno ≡ old.seqno + 1 = ap (λ (c : Core). c.seqno) rest in
    install_goes w old new (omega (arith, q), ap (λ (c : Core). c.merges) rest)
by_mark w true (Err e) old new f m = mark_goes w old new (refused_goes w e old new f)

-- ---- what is kept

-- reads that it keeps are all spared
all_spared : (events : List Event) (old new : Core) → KeepsReads events old new → SparesReads IsAny events IsAnySnapshot old new
all_spared events old new keeps = record {
  right = λ opened start journal before order holds. keeps.right opened start journal order holds;
  stays = λ opened start journal before order holds s spared. keeps.stays opened start journal order holds s;
}

module _ (opened : List Placed) (least : ℕ) (marks : BTreeMap Bytes Mark) (theory : Soundness) where
  -- a call that keeps reads after what it tells keeps what always holds
  told_keeps : (low low' : ℕ) (old new : Core) (journal journal' es : List Event) → KeepsReads es old new → GoesOn es old new → journal' ≡ journal ++ es → low' ≡ fold floor_after low es → IsRecorded opened least marks low old journal → IsRecorded opened least marks low' new journal' × Stays old new
  told_keeps low low' old new journal journal' es keeps goes told floored h =
      let t = events_recorded opened least marks theory low low' old new journal journal' IsAny IsAnySnapshot es (all_spared es old new keeps) tt goes told floored h in
      (t.0, λ s. t.1 s tt)

  -- one that tells nothing
  pub unnoted_recorded : (low : ℕ) (old new : Core) (journal : List Event) → KeepsReads [] old new → Goes old.seqno old new → IsRecorded opened least marks low old journal → IsRecorded opened least marks low new journal × Stays old new
  unnoted_recorded low old new journal keeps goes r = silent_recorded opened least marks theory low old new journal (all_spared [] old new keeps) goes.0 (same_marked old new journal goes.1 r.marked) r

  module _ (law : FlushesKeepReads) (low low' : ℕ) (journal journal' es : List Event) (told : journal' ≡ journal ++ es) (floored : low' ≡ fold floor_after low es) where
    pub register_recorded : (job : SeenWritten) (r : Result Registered Error) (old new : Core) → TellsRegister job r es old new → IsRecorded opened least marks low old journal → IsRecorded opened least marks low' new journal' × Stays old new
    register_recorded job r old new n h =
        told_keeps low low' old new journal journal' es (subst (λ l. KeepsReads l old new) (sym n.told) (law.registers job r old new n.registers n.deeds)) (subst (λ l. GoesOn l old new) (sym n.told) (registers_go job r old new n.registers)) told floored h

    pub flush_recorded : (w : ℕ) (r : Result (Option (ℕ × Registered)) Error) (old new : Core) → TellsFlush w r es old new → IsRecorded opened least marks low old journal → IsRecorded opened least marks low' new journal' × Stays old new
    flush_recorded w r old new f h =
        told_keeps low low' old new journal journal' es (subst (λ l. KeepsReads l old new) (sym f.1) (law.flushes w f.0 r old new f.2 f.3)) (subst (λ l. GoesOn l old new) (sym f.1) (by_mark w f.0 r old new f.2 f.3)) told floored h

    -- after a rotation
    rotated_recorded : (w : ℕ) (id : Option ℕ) (r : Result (Option (ℕ × Registered)) Error) (old new : Core) → FlushesRotated w id r es old new → IsRecorded opened least marks low old journal → IsRecorded opened least marks low' new journal' × Stays old new
    rotated_recorded w id r old new t h =
        let mid = t.0 in
        let behind = flush_recorded w r mid new t.2 (recorded_rotate opened least theory marks low old mid journal id h t.1) in
        (behind.0, stays_behind old mid new id t.1 (rotate_spares opened least theory marks low old mid journal id h t.1) behind.1)

    -- where nothing is done or told
    refused_recorded : (old new : Core) → es ≡ [] → new ≡ old → IsRecorded opened least marks low old journal → IsRecorded opened least marks low' new journal' × Stays old new
    refused_recorded old new none same h =
        let still : journal' ≡ journal = told ∙ ap (λ l. journal ++ l) none ∙ append-nil journal in
        let low_still : low' ≡ low = floored ∙ ap (fold floor_after low) none in
        subst (λ c. IsRecorded opened least marks low' c journal' × Stays old c) (sym same)
        (subst (λ l. IsRecorded opened least marks l old journal') (sym low_still) (subst (IsRecorded opened least marks low old) (sym still) h), λ s. theory.spares.same s (state_of [] old) (state_of [] old) refl refl refl)

    pub active_recorded : (w : ℕ) (r : Result (Option ℕ × Option (ℕ × Registered)) (Error × Option ℕ)) (old new : Core) → FlushesActiveNoted w r es old new → IsRecorded opened least marks low old journal → IsRecorded opened least marks low' new journal' × Stays old new
    active_recorded w (Ok a) old new f h = rotated_recorded w a.0 (Ok a.1) old new f.ok h
    active_recorded w (Err e) old new f h =
        ⊎_elim
        (λ (none : (es ≡ []) × RefusesRotation e.1 e.0 old new). refused_recorded old new none.0 none.1.unchanged h)
        (λ (some : FlushesRotated w e.1 (Err e.0) es old new). rotated_recorded w e.1 (Err e.0) old new some h)
        f.err

-- ---- what is noted

-- a flush in one call, whose entries are appended
pub flush_notes : (w : ℕ) (r : Result (Option (ℕ × Registered)) Error) (events : List Event) (old new : Core) (journal journal' : List JournalEntry) (pass pass' : List (ℕ × JournalEntry)) → TellsFlush w r events old new → Notes events journal journal' pass pass' → FlushesNoted w r old new journal journal' pass pass'
flush_notes w r events old new journal journal' pass pass' f notes = record { flushes = f.2; marked = f.0; marks = f.3; noted = subst (λ es. Notes es journal journal' pass pass') f.1 notes }

module _ (w : ℕ) (events : List Event) (old new : Core) (journal journal' : List JournalEntry) (pass pass' : List (ℕ × JournalEntry)) (notes : Notes events journal journal' pass pass') where
  notes_behind : (id : Option ℕ) (r : Result (Option (ℕ × Registered)) Error) → FlushesRotated w id r events old new → NotesBehind w id r old new journal journal' pass pass'
  notes_behind id r t = record { mid = t.0; rotates = t.1; flushes = flush_notes w r events t.0 new journal journal' pass pass' t.2 notes }

  notes_nothing : (id : Option ℕ) (e : Error) → events ≡ [] → RefusesRotation id e old new → NotesNothing id e old new journal journal' pass pass'
  notes_nothing id e none refuses =
      let still = subst (λ es. Notes es journal journal' pass pass') none notes in
      record { rotation = refuses; journal_stays = still.behind ∙ append-nil journal; pass_stays = still.passed ∙ append-nil pass }

  -- one of the active memtable
  pub active_notes : (r : Result (Option ℕ × Option (ℕ × Registered)) (Error × Option ℕ)) → FlushesActiveNoted w r events old new → NotesActive w r old new journal journal' pass pass'
  active_notes (Ok a) f = record { ok = notes_behind a.0 (Ok a.1) f.ok; err = tt }
  active_notes (Err e) f = record {
    ok = tt;
    err = ⊎_elim
        (λ (none : (events ≡ []) × RefusesRotation e.1 e.0 old new). inl (notes_nothing e.1 e.0 none.0 none.1))
        (λ (some : FlushesRotated w e.1 (Err e.0) events old new). inr (notes_behind e.1 (Err e.0) some))
        f.err;
  }

-- what it answers and does
pub active_does : (w : ℕ) (r : Result (Option ℕ × Option (ℕ × Registered)) (Error × Option ℕ)) (events : List Event) (old new : Core) → FlushesActiveNoted w r events old new → FlushesActive w r old new
active_does w (Ok a) events old new f = record { ok = record { mid = f.ok.0; rotates = f.ok.1; flushes = f.ok.2.2 }; err = tt }
active_does w (Err e) events old new f = record {
  ok = tt;
  err = ⊎_elim
      (λ (none : (events ≡ []) × RefusesRotation e.1 e.0 old new). inl none.1)
      (λ (some : FlushesRotated w e.1 (Err e.0) events old new). inr (record { mid = some.0; rotates = some.1; flushes = some.2.2 }))
      f.err;
}

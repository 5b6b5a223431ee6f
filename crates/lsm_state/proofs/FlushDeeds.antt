-- What registering a flush does, as deeds of the theory of crashes.
use Rattle.std.proofs.Common.{◌≡◌, ℕ, ◌≤◌, Bool, true, false, List, [], ◌∷◌, ◌++◌, map, length, None, option_to_list, Err, refl, sym, ap, ◌∙◌, subst, append_assoc, append-nil}
use Rattle.lsm_below.specs.Entries.{Entry}
use Rattle.lsm_below.specs.declared.error.Error.{Error}
use Rattle.lsm_below.specs.declared.error.Error.TheVariants.{CommitUnknown}
use Rattle.lsm_model.specs.Journal.{Event}
use Rattle.lsm_model.specs.Views.{HasDistinctIds}
use Rattle.lsm_model.specs.Steps.{Step, Marked, Maintained}
use Rattle.lsm_model.specs.Beginnings.{Note, FlushedIds, IsDone, IsLost}
use Rattle.lsm_model.specs.declared.journal.JournalEntry.TheVariants.{Install, Mark}
use Rattle.lsm_model.proofs.Journals.{marked}
use Rattle.lsm_versions.specs.Levels.{all_of, placed_of}
use Rattle.lsm_versions.specs.Installs.{FlushesAreSteps}
use Rattle.lsm_flush.specs.Jobs.{SeenWritten, IsWrittenFrom}
use Rattle.lsm_parts.specs.declared.version.super_version.SuperVersion.{SuperVersion}
use Rattle.lsm_state.specs.Kept.{IsKeptTree}
use Rattle.lsm_state.specs.Core.{Core, state_of, written_by}
use Rattle.lsm_state.specs.Commits.{committed, doubted}
use Rattle.lsm_state.specs.Cleaning.{Cleans}
use Rattle.lsm_state.specs.Deeds.{saved_of, IsNoDeed, IsMarkDeed}
use Rattle.lsm_state.specs.WholeFlushes.{Flushes}
use Rattle.lsm_state.specs.Flushes.{IsCurrent, IsFlushed, spent, flush_of, IsFlushDeed, IsLostFlush}
use Rattle.lsm_state.specs.FlushLaws.{FlushesAreDeeds}
use Rattle.lsm_state.proofs.Distinct.{distinct_placed, own_behind}
use Rattle.lsm_state.proofs.Forgetting.{cleaned_step}
use Rattle.lsm_state.proofs.FlushSteps.{flush_step, names_older}

-- ---- marks

pub clash : false ≡ true → ⊥
clash e = cc e

latest_distinct : (c : Core) → IsKeptTree c → HasDistinctIds (placed_of c.history.latest.version.levels)
latest_distinct c kept = distinct_placed c.history.latest.version.levels (own_behind (written_by c.flush) (all_of c.history.latest.version.levels) kept.tables.own_ids)

pub mark_done : (w n : ℕ) (c : Core) → IsKeptTree c → (opened : List Entry) (journal : List Event) (notes : List Note) → IsDone opened (saved_of journal notes c) (Marked w) (saved_of (journal ++ Mark w ∷ []) notes (spent n c))
mark_done w n c kept opened journal notes = record { answered = refl; certain = λ e. absurd (clash e); step = refl; distinct = latest_distinct c kept; notes = refl; others = refl }

-- a job that is spent is the mark alone
mark_deed : (w n : ℕ) (c : Core) → IsKeptTree c → IsMarkDeed w c (spent n c)
mark_deed w n c kept opened journal notes = (saved_of (journal ++ Mark w ∷ []) notes (spent n c), mark_done w n c kept opened journal notes, refl)

-- ---- a flush

pub none_other : (c : Core) → c.lost ≡ None → map (λ v. placed_of v.levels) (option_to_list c.lost) ≡ []
none_other c certain = ap (λ o. map (λ v. placed_of v.levels) (option_to_list o)) certain

module _ (law : FlushesAreSteps) (job : SeenWritten) (c : Core) (kept : IsKeptTree c) (certain : c.lost ≡ None) (written : IsWrittenFrom job.job job.watermark job.tables) (current : IsCurrent job c) (next : SuperVersion) (flushed : IsFlushed job (spent job.job.number c) next) where
  goes_on : (journal more : List Event) → (journal ++ Mark job.watermark ∷ []) ++ more ≡ journal ++ Mark job.watermark ∷ more
  goes_on journal more = append_assoc journal (Mark job.watermark ∷ []) more

  next_distinct : HasDistinctIds (placed_of next.version.levels)
  next_distinct = distinct_placed next.version.levels flushed.own_ids

  step_on : (opened : List Entry) (journal : List Event) → Step opened (state_of (journal ++ Mark job.watermark ∷ []) c) (flush_of job) (state_of (journal ++ Mark job.watermark ∷ (Install c.seqno ∷ [])) (committed next (spent job.job.number c)))
  step_on opened journal =
      subst (λ j. Step opened (state_of (journal ++ Mark job.watermark ∷ []) c) (flush_of job) (state_of j (committed next (spent job.job.number c)))) (goes_on journal (Install c.seqno ∷ []))
      (flush_step job c current written next flushed law opened (journal ++ Mark job.watermark ∷ []))

  flush_done : (opened : List Entry) (journal : List Event) (notes : List Note) → IsDone opened (saved_of (journal ++ Mark job.watermark ∷ []) notes c) (flush_of job) (saved_of (journal ++ Mark job.watermark ∷ (Install c.seqno ∷ [])) (FlushedIds job.job.ids ∷ notes) (committed next (spent job.job.number c)))
  flush_done opened journal notes = record {
    answered = refl;
    certain = λ e. none_other c certain;
    step = step_on opened journal;
    distinct = next_distinct;
    notes = refl;
    others = refl;
  }

  maintained_done : (whole : Bool) (new : Core) → Cleans job.watermark whole (committed next (spent job.job.number c)) new → (opened : List Entry) (journal : List Event) (notes : List Note)
      → IsDone opened (saved_of (journal ++ Mark job.watermark ∷ (Install c.seqno ∷ [])) notes (committed next (spent job.job.number c))) (Maintained job.watermark) (saved_of (journal ++ Mark job.watermark ∷ (Install c.seqno ∷ [])) notes new)
  maintained_done whole new cleans opened journal notes = record {
    answered = refl;
    certain = λ e. absurd (clash e);
    step = cleaned_step job.watermark c.history.latest.active_memtable whole (committed next (spent job.job.number c)) new
        (names_older c.history.latest.active_memtable (length job.job.ids) c.history.latest next c.history.older flushed.active flushed.sealed kept.ids.older) cleans (journal ++ Mark job.watermark ∷ (Install c.seqno ∷ [])) (λ s. marked s job.watermark journal (Install c.seqno ∷ []));
    distinct = subst (λ sv. HasDistinctIds (placed_of sv.version.levels)) (sym cleans.history.latest) next_distinct;
    notes = refl;
    others = ap (λ d. map (λ v. placed_of v.levels) (option_to_list d.lost)) cleans.rest;
  }

  pub flush_deed : (whole : Bool) (new : Core) → Cleans job.watermark whole (committed next (spent job.job.number c)) new → IsFlushDeed job c new
  flush_deed whole new cleans opened journal notes order = (
    saved_of (journal ++ Mark job.watermark ∷ []) notes (spent job.job.number c),
    mark_done job.watermark job.job.number c kept opened journal notes,
    (
      saved_of (journal ++ Mark job.watermark ∷ (Install c.seqno ∷ [])) (FlushedIds job.job.ids ∷ notes) (committed next (spent job.job.number c)),
      flush_done opened journal notes,
      (
        saved_of (journal ++ Mark job.watermark ∷ (Install c.seqno ∷ [])) (FlushedIds job.job.ids ∷ notes) new,
        maintained_done whole new cleans opened journal (FlushedIds job.job.ids ∷ notes),
        refl,
      ),
    ),
  )

  flush_lost : (opened : List Entry) (journal : List Event) (notes : List Note)
      → IsLost opened (saved_of (journal ++ Mark job.watermark ∷ []) notes c) (flush_of job) (state_of (journal ++ Mark job.watermark ∷ (Install c.seqno ∷ [])) (committed next (spent job.job.number c))) (saved_of (journal ++ Mark job.watermark ∷ []) notes (doubted next (spent job.job.number c)))
  flush_lost opened journal notes = record {
    commits = refl;
    certain = none_other c certain;
    step = step_on opened journal;
    distinct = next_distinct;
    state = ap (λ j. state_of j c) (sym (append-nil (journal ++ Mark job.watermark ∷ [])));
    notes = refl;
    others = refl;
  }

  pub lost_deed : (new : Core) → new ≡ doubted next (spent job.job.number c) → IsLostFlush job c new
  lost_deed new is = (
    committed next (spent job.job.number c),
    λ opened journal notes order. (
      saved_of (journal ++ Mark job.watermark ∷ []) notes (spent job.job.number c),
      mark_done job.watermark job.job.number c kept opened journal notes,
      (
        saved_of (journal ++ Mark job.watermark ∷ []) notes (doubted next (spent job.job.number c)),
        flush_lost opened journal notes,
        ap (saved_of (journal ++ Mark job.watermark ∷ []) notes) is,
      ),
    ),
  )

-- ---- a flush that is refused

refused_deeds : (w : ℕ) (e : Error) (old new : Core) → IsKeptTree old → Flushes w (Err e) old new → (e ≡ CommitUnknown → ⊥) → IsNoDeed old new × IsMarkDeed w old new
refused_deeds w e old new kept flushes known =
    let is : new ≡ record old { next_job = new.next_job; next_table = new.next_table; seqno = new.seqno; lost = old.lost } =
    subst (λ l. new ≡ record old { next_job = new.next_job; next_table = new.next_table; seqno = new.seqno; lost = l }) (flushes.known known) flushes.err.rest in
    let same : (journal : List Event) (notes : List Note) → saved_of journal notes new ≡ saved_of journal notes old = λ journal notes. ap (saved_of journal notes) is in
    (λ opened journal notes. same journal notes, λ opened journal notes. (saved_of (journal ++ Mark w ∷ []) notes old, mark_done w 0 old kept opened journal notes, same (journal ++ Mark w ∷ []) notes))

-- ---- the law

pub flushes_are_deeds : FlushesAreSteps → FlushesAreDeeds
flushes_are_deeds law = record {
  installed = λ job whole old new kept certain written current installs. flush_deed law job old kept certain written current installs.next installs.flushed whole new installs.cleans;
  lost = λ job old new kept certain written current doubts. lost_deed law job old kept certain written current doubts.next doubts.flushed new doubts.is;
  refused = refused_deeds;
  spends = mark_deed;
}

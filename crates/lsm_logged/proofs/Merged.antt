-- The end of a merge, and a compaction in one call, as acts of the theory.
use Rattle.std.proofs.Common.{◌≡◌, ◌⊎◌, ⊎_elim, inl, inr, ℕ, ◌+◌, max, Bool, true, List, [], ◌∷◌, ◌++◌, Option, Some, None, IsSome, Result, Ok, Err, IfOk, IfErr, OnOk, IsErrOf, refl, sym, ap, ◌∙◌, subst, arith, append_assoc}
use Rattle.lsm_below.specs.declared.error.Error.{Error}
use Rattle.lsm_below.specs.declared.error.Error.TheVariants.{OutOfMemory, Store, CommitUnknown, Unrecoverable, OutOfNumbers, TooManyRuns, AfterCommit}
use Rattle.lsm_checks.specs.declared.choice.Why.{Why}
use Rattle.lsm_checks.specs.declared.choice.Why.TheVariants.{UnknownJob}
use Rattle.lsm_compaction.specs.Merges.{SeenCompaction}
use Rattle.lsm_model.specs.Journal.{Event}
use Rattle.lsm_model.specs.Steps.{Marked, Maintained}
use Rattle.lsm_model.specs.Beginnings.{Saved, Done, Lost, Deeds}
use Rattle.lsm_model.specs.declared.journal.JournalEntry.TheVariants.{Install, Mark}
use Rattle.lsm_versions.specs.Levels.{SeenVersion}
use Rattle.lsm_parts.specs.declared.version.super_version.SuperVersion.{SuperVersion}
use Rattle.lsm_state.specs.declared.compaction.Finished.{Finished}
use Rattle.lsm_state.specs.declared.compaction.Finished.TheVariants.{Declined as Over, Installed as Whole}
use Rattle.lsm_state.specs.Core.{Core, state_of}
use Rattle.lsm_state.specs.Flushes.{with_next_table}
use Rattle.lsm_state.specs.Deeds.{saved_of, HasOrder, IsNoDeed, IsMarkDeed, AreDone}
use Rattle.lsm_state.specs.Settling.{IsInstalled}
use Rattle.lsm_state.specs.Compactions.{closed, InstallsMerge, IsMergedInto, Ends, EndsFor, Finishes}
use Rattle.lsm_state.specs.CompactionDeeds.{AreLostTelling, IsMarkedIn, merge_of, IsMergeDeed, IsLostMerge}
use Rattle.lsm_model.proofs.Journals.{marked}
use Rattle.lsm_logged.specs.Removing.{log_from_of}
use Rattle.lsm_logged.proofs.Compacted.{Stays, stays_same}
use Rattle.lsm_logged.proofs.RegisterActs.{was_certain}

-- ---- the end of a merge

abbrev Ended : Result Finished Error → Type 0
Ended r = (r ≡ Ok Whole) ⊎ (IsErrOf r AfterCommit ⊎ IsErrOf r CommitUnknown)

abbrev pub IsOver : Result Finished Error → Type 0
IsOver r = (r ≡ Ok Whole → ⊥) × (IsErrOf r AfterCommit → ⊥) × (IsErrOf r CommitUnknown → ⊥)

-- an answer that is one thing isn't another
not_both : (r x y : Result Finished Error) → (x ≡ y → ⊥) → r ≡ x → r ≡ y → ⊥
not_both r x y apart a b = apart (sym a ∙ b)

no_end : (r x : Result Finished Error) → (x ≡ Ok Whole → ⊥) → (x ≡ Err AfterCommit → ⊥) → (x ≡ Err CommitUnknown → ⊥) → Ended r → r ≡ x → ⊥
no_end r x a b c h e = ⊎_elim (not_both r x (Ok Whole) a e) (λ m. ⊎_elim (not_both r x (Err AfterCommit) b e) (not_both r x (Err CommitUnknown) c e) m) h

-- an installed merge
pub record IsIn (mid new : Core) : Type 0 where
  pub certain : mid.lost ≡ None
  pub counter : new.seqno ≡ mid.seqno + 1
  pub lost : new.lost ≡ None
  pub from : log_from_of new ≡ log_from_of mid

-- one of unknown outcome
pub record IsInDoubt (mid new : Core) : Type 0 where
  pub certain : mid.lost ≡ None
  pub v : SeenVersion
  pub lost : new.lost ≡ Some v
  pub version : v.log_from ≡ log_from_of mid
  pub counter : new.seqno ≡ mid.seqno + 1
  pub from : log_from_of new ≡ log_from_of mid

module _ (job : SeenCompaction) (r : Result Finished Error) (mid new : Core) (finishes : Finishes job r mid new) where
  ended : Ended r → (mid.lost ≡ None) × InstallsMerge job r (closed job.number mid) new
  ended h =
      let certain = was_certain {T = Finished} r mid (λ k. no_end r (Err Unrecoverable) (λ z. cc z) (λ z. cc z) (λ z. cc z) h k) finishes.unrecoverable.1 in
      (certain, ⊎_elim (λ n. absurd (no_end r (Ok (Over UnknownJob)) (λ z. cc z) (λ z. cc z) (λ z. cc z) h n.1.0)) (λ e. by_end e.1) (finishes.ends certain))
    where
      by_reason : (why : Option Why) → EndsFor job why r (closed job.number mid) new → InstallsMerge job r (closed job.number mid) new
      by_reason None e = e.0
      by_reason (Some why) e = absurd (no_end r (Ok (Over why)) (λ z. cc z) (λ z. cc z) (λ z. cc z) h e.0)

      by_end : Ends job r (closed job.number mid) new → InstallsMerge job r (closed job.number mid) new
      by_end e = ⊎_elim (λ m. absurd (no_end r (Err OutOfMemory) (λ z. cc z) (λ z. cc z) (λ z. cc z) h m.0)) (λ w. by_reason w.0 w.2) e

  pub over : IsOver r → Stays mid new
  over free = by_lost mid.lost refl
    where
      unsettled : (i : InstallsMerge job r (closed job.number mid) new) → (IfOk r (λ f. f ≡ Whole)) → (s : Result Finished Error) → r ≡ s → Stays mid new
      unsettled i whole (Ok f) is = absurd (free.0 (is ∙ ap (λ (x : Finished). Ok x) (subst (λ (x : Result Finished Error). IfOk x (λ f. f ≡ Whole)) is whole)))
      unsettled i whole (Err e) is = let only = subst (λ (x : Result Finished Error). IfErr x (λ e. ((e ≡ OutOfMemory) ⊎ ((e ≡ Store) ⊎ (e ≡ CommitUnknown))) ⊎ ((e ≡ OutOfNumbers) ⊎ ((e ≡ TooManyRuns) ⊎ (e ≡ AfterCommit))))) is i.only in
          let told = λ (x : Error) (m : e ≡ x). is ∙ ap (λ (y : Error). Err y) m in
          ⊎_elim
          (⊎_elim
          (λ m. ⊎_elim (λ q. (ap log_from_of q, ap (λ (c : Core). c.lost) q)) (λ q. (ap log_from_of q, ap (λ (c : Core). c.lost) q)) (i.settles.memory (told OutOfMemory m)))
          (⊎_elim (λ m. ⊎_elim (λ q. (ap log_from_of q, ap (λ (c : Core). c.lost) q)) (λ q. (ap log_from_of q, ap (λ (c : Core). c.lost) q)) (i.settles.store (told Store m))) (λ m. absurd (free.2 (told CommitUnknown m)))))
          (⊎_elim
          (λ m. let q = i.settles.before (inl (told OutOfNumbers m)) in (ap log_from_of q, ap (λ (c : Core). c.lost) q))
          (⊎_elim (λ m. let q = i.settles.before (inr (told TooManyRuns m)) in (ap log_from_of q, ap (λ (c : Core). c.lost) q)) (λ m. absurd (free.1 (told AfterCommit m)))))
          only

      by_reason : (why : Option Why) → EndsFor job why r (closed job.number mid) new → Stays mid new
      by_reason None e = unsettled e.0 e.1 r refl
      by_reason (Some why) e = (ap log_from_of e.1, ap (λ (c : Core). c.lost) e.1)

      by_lost : (l : Option SeenVersion) → mid.lost ≡ l → Stays mid new
      by_lost None is = ⊎_elim (λ n. stays_same mid new n.1.1) (λ e. ⊎_elim (λ m. (ap log_from_of m.1, ap (λ (c : Core). c.lost) m.1)) (λ w. by_reason w.0 w.2) e.1) (finishes.ends is)
      by_lost (Some v) is = ⊎_elim (λ s. (ap log_from_of s.1, ap (λ (c : Core). c.lost) s.1)) (λ s. stays_same mid new s.1) (finishes.uncertain (subst (λ (p : Option SeenVersion). IsSome p) (sym is) refl))

  put_in : (old : Core) (v : SeenVersion) (whole : Bool) → old.seqno ≡ mid.seqno → old.lost ≡ mid.lost → log_from_of old ≡ log_from_of mid → mid.lost ≡ None → v.log_from ≡ max (log_from_of old) 0 → IsInstalled v job.settings.watermark whole old new → IsIn mid new
  put_in old v whole n l f certain version i = record {
    certain = certain;
    counter = ap (λ (c : Core). c.seqno) i.rest ∙ ap (λ k. k + 1) n;
    lost = ap (λ (c : Core). c.lost) i.rest ∙ l ∙ certain;
    from = let e = ap (λ (sv : SuperVersion). sv.version.log_from) i.history.latest in omega (arith, e, version, f);
  }

  pub is_in : (r ≡ Ok Whole) ⊎ IsErrOf r AfterCommit → IsIn mid new
  is_in h = ⊎_elim
      (λ (e : r ≡ Ok Whole).
      let m = ended (inl e) in
      let s = subst (λ (x : Result Finished Error). OnOk x ((v : SeenVersion) × IsMergedInto mid.next_table job mid.history.latest.version v × IsInstalled v job.settings.watermark true (with_next_table m.1.table (closed job.number mid)) new)) e m.1.settles.ok in
      put_in (with_next_table m.1.table (closed job.number mid)) s.0 true refl refl refl m.0 s.1.next.log_from s.2)
      (λ (a : IsErrOf r AfterCommit).
      let m = ended (inr (inl a)) in
      let s = m.1.settles.after a in
      put_in (with_next_table m.1.table (closed job.number mid)) s.0 s.2 refl refl refl m.0 s.1.next.log_from s.3)
      h

  pub in_doubt : IsErrOf r CommitUnknown → IsInDoubt mid new
  in_doubt u =
      let m = ended (inr (inr u)) in
      let s = m.1.settles.unknown u in
      record {
        certain = m.0;
        v = s.0;
        lost = ap (λ (c : Core). c.lost) s.2;
        version = let e = s.1.next.log_from in omega (arith, e);
        counter = ap (λ (c : Core). c.seqno) s.2;
        from = ap log_from_of s.2;
      }

-- ---- after the mark of its beginning

module _ (job : SeenCompaction) (old mid new : Core) (mark : IsMarkDeed job.settings.watermark old mid) (number : mid.seqno ≡ old.seqno) (order : HasOrder old → HasOrder mid) where
  abbrev w : ℕ
  w = job.settings.watermark

  is_marked : (journal : List Event) → IsMarkedIn w (journal ++ Mark w ∷ [])
  is_marked journal s h = marked s w journal [] h

  told : (journal : List Event) → (journal ++ Mark w ∷ []) ++ Install mid.seqno ∷ [] ≡ journal ++ Mark w ∷ (Install old.seqno ∷ [])
  told journal = append_assoc journal (Mark w ∷ []) (Install mid.seqno ∷ []) ∙ ap (λ n. journal ++ Mark w ∷ (Install n ∷ [])) number

  pub merged_done : (deed : IsMergeDeed job mid new) → AreDone w (merge_of job deed.0) (Install old.seqno ∷ []) [] old new
  merged_done deed opened journal notes in_order =
      let m = mark opened journal notes in
      let acts = Done (merge_of job deed.0) ∷ (Done (Maintained w) ∷ []) in
      let d = deed.1 opened (journal ++ Mark w ∷ []) notes (order in_order) (is_marked journal) in
      let there = subst (λ j. Deeds opened (saved_of (journal ++ Mark w ∷ []) notes mid) acts (saved_of j notes new)) (told journal) d in
      (m.0, m.1, subst (λ (s : Saved). Deeds opened s acts (saved_of (journal ++ Mark w ∷ (Install old.seqno ∷ [])) notes new)) m.2 there)

  pub merged_lost : (deed : IsLostMerge job mid new) → AreLostTelling w (merge_of job deed.0) [] (Install old.seqno ∷ []) old deed.1 new
  merged_lost deed opened journal notes in_order =
      let m = mark opened journal notes in
      let d = deed.2 opened (journal ++ Mark w ∷ []) notes (order in_order) in
      let there = subst (λ j. Deeds opened (saved_of (journal ++ Mark w ∷ []) notes mid) (Lost (merge_of job deed.0) (state_of j deed.1) ∷ []) (saved_of (journal ++ Mark w ∷ []) notes new)) (told journal) d in
      (m.0, m.1, subst (λ (s : Saved). Deeds opened s (Lost (merge_of job deed.0) (state_of (journal ++ Mark w ∷ (Install old.seqno ∷ [])) deed.1) ∷ []) (saved_of (journal ++ Mark w ∷ []) notes new)) m.2 there)

  -- nothing more is done
  pub mark_alone : IsNoDeed mid new → IsMarkDeed w old new
  mark_alone none opened journal notes = subst (λ (s : Saved). Deeds opened (saved_of journal notes old) (Done (Marked w) ∷ []) s) (sym (none opened (journal ++ Mark w ∷ []) notes)) (mark opened journal notes)

-- After what a compaction tells of itself, the counter is above what it told, and the watermarks of open merges are marked.
use Rattle.std.proofs.Common.{◌≡◌, ℕ, ◌+◌, ◌≤◌, List, [], ◌∷◌, ◌++◌, Option, Some, None, IsSome, Result, Ok, Err, IfOk, IfErr, OnOk, IsErrOf, inl, inr, ◌⊎◌, ⊎_elim, fold, refl, sym, ap, ◌∙◌, subst, arith, append-nil, append_assoc}
use Rattle.lsm_below.specs.declared.error.Error.{Error}
use Rattle.lsm_below.specs.declared.error.Error.TheVariants.{OutOfMemory, Store, CommitUnknown, Unrecoverable, OutOfNumbers, TooManyRuns, AfterCommit}
use Rattle.lsm_model.specs.Journal.{Event, next_number_after}
use Rattle.lsm_model.specs.declared.journal.JournalEntry.TheVariants.{Install, Mark}
use Rattle.lsm_versions.specs.Levels.{SeenVersion}
use Rattle.lsm_checks.specs.declared.choice.Why.{Why}
use Rattle.lsm_checks.specs.declared.choice.Why.TheVariants.{UnknownJob}
use Rattle.lsm_checks.specs.declared.input.Input.{Input}
use Rattle.lsm_compaction.specs.Merges.{SeenCompaction}
use Rattle.lsm_compaction.specs.OpenMerges.{SeenMerges, SeenOpenMerge}
use Rattle.lsm_pick.specs.declared.choice.Choice.{Choice}
use Rattle.lsm_pick.specs.declared.choice.Choice.TheVariants.{DoNothing, Move, Merge, Drop}
use Rattle.lsm_state.specs.declared.compaction.Options.{Options}
use Rattle.lsm_state.specs.declared.compaction.Begun.{Begun}
use Rattle.lsm_state.specs.declared.compaction.Begun.TheVariants.{DidNothing, Declined, Installed, Job}
use Rattle.lsm_state.specs.declared.compaction.Finished.{Finished}
use Rattle.lsm_state.specs.declared.compaction.Finished.TheVariants.{Declined as Over, Installed as Done}
use Rattle.lsm_state.specs.Core.{Core}
use Rattle.lsm_state.specs.Settling.{SettlesSome}
use Rattle.lsm_state.specs.Flushes.{with_next_table}
use Rattle.lsm_state.specs.Compactions.{IsMovedTo, IsNotMoved, IsDroppedFrom, IsNotDropped, IsMergedInto, reason_of, settings_of, closed, OpensMerge, InstallsChoice, Does, BeginsChoice, InstallsMerge, EndsFor, Ends, Spends, Finishes}
use Rattle.lsm_state.specs.CompactionReads.{ranges_told, TellsChoice, TellsMerge}
use Rattle.lsm_state.specs.WholeCompactions.{told_end, Completes, Follows}
use Rattle.lsm_journal.specs.Noted.{BeginsAnswer, EndsNoted, TellsBehind, CompactsAnswer}
use Rattle.lsm_journal.specs.NotedReads.{NotedCompactionsKeepReads}
use Rattle.lsm_recorded.specs.Recorded.{AreMarked}
use Rattle.lsm_recorded.proofs.Telling.{IsTold}
use Rattle.lsm_recorded.proofs.Watermarks.{still_marked, closed_marked, opened_marked}

-- after these events
pub record GoesOn (events : List Event) (old new : Core) : Type 0 where
  pub told : IsTold old.seqno events
  pub next : fold next_number_after old.seqno events ≤ new.seqno
  pub marked : (journal : List Event) → AreMarked journal old → AreMarked (journal ++ events) new

-- after a version that was to be installed
pub record Settled {T : Type 0} (r : Result T Error) (old new : Core) : Type 0 where
  pub ok : OnOk r (old.seqno + 1 ≤ new.seqno)
  pub after : IsErrOf r AfterCommit → old.seqno + 1 ≤ new.seqno
  pub rises : old.seqno ≤ new.seqno
  pub merges : new.merges ≡ old.merges

abbrev Rises : Core → Core → Type 0
Rises old new = (old.seqno ≤ new.seqno) × (new.merges ≡ old.merges)

abbrev IsOutcome : Error → Type 0
IsOutcome e = ((e ≡ OutOfMemory) ⊎ ((e ≡ Store) ⊎ (e ≡ CommitUnknown))) ⊎ ((e ≡ OutOfNumbers) ⊎ ((e ≡ TooManyRuns) ⊎ (e ≡ AfterCommit)))

settled : {T : Type 0} (P : SeenVersion → Type 0) (w : ℕ) (r : Result T Error) (old new : Core) → SettlesSome P w r old new → IfErr r IsOutcome → Settled r old new
settled {T} P w (Ok x) old new s only =
    let rest = s.ok.2.rest in
    let q : new.seqno ≡ old.seqno + 1 = ap (λ (c : Core). c.seqno) rest in
    let le : old.seqno + 1 ≤ new.seqno = omega (arith, q) in
    record { ok = le; after = λ h. le; rises = omega (arith, q); merges = ap (λ (c : Core). c.merges) rest }
settled {T} P w (Err e) old new s only =
    ⊎_elim
    (⊎_elim
    (λ (m : e ≡ OutOfMemory). not_done (λ h. let z = sym m ∙ h in absurd (cc z)) (⊎_elim same more (s.memory (ap Err m))))
    (⊎_elim
    (λ (m : e ≡ Store). not_done (λ h. let z = sym m ∙ h in absurd (cc z)) (⊎_elim same more (s.store (ap Err m))))
    (λ (m : e ≡ CommitUnknown). not_done (λ h. let z = sym m ∙ h in absurd (cc z)) (let is = (s.unknown (ap Err m)).2 in let q : new.seqno ≡ old.seqno + 1 = ap (λ (c : Core). c.seqno) is in (omega (arith, q), ap (λ (c : Core). c.merges) is)))))
    (⊎_elim
    (λ (m : e ≡ OutOfNumbers). not_done (λ h. let z = sym m ∙ h in absurd (cc z)) (same (s.before (inl (ap Err m)))))
    (⊎_elim
    (λ (m : e ≡ TooManyRuns). not_done (λ h. let z = sym m ∙ h in absurd (cc z)) (same (s.before (inr (ap Err m)))))
    (λ (m : e ≡ AfterCommit).
    let rest = (s.after (ap Err m)).3.rest in
    let q : new.seqno ≡ old.seqno + 1 = ap (λ (c : Core). c.seqno) rest in
    done (omega (arith, q)) (ap (λ (c : Core). c.merges) rest))))
    only
  where
    same : new ≡ old → Rises old new
    same h = let q : new.seqno ≡ old.seqno = ap (λ (c : Core). c.seqno) h in (omega (arith, q), ap (λ (c : Core). c.merges) h)

    more : new ≡ record old { seqno = old.seqno + 1 } → Rises old new
    more h = let q : new.seqno ≡ old.seqno + 1 = ap (λ (c : Core). c.seqno) h in (omega (arith, q), ap (λ (c : Core). c.merges) h)

    not_done : (e ≡ AfterCommit → ⊥) → Rises old new → Settled {T = T} (Err e) old new
    not_done other h = record { ok = tt; after = λ z. absurd (other (cc z)); rises = h.0; merges = h.1 }

    done : old.seqno + 1 ≤ new.seqno → new.merges ≡ old.merges → Settled {T = T} (Err e) old new
    done le is = record { ok = tt; after = λ z. le; rises = omega (arith, le); merges = is }

-- ---- a choice

module _ (w : ℕ) (old new : Core) where
  abbrev full : Choice → List Event
  full choice = Mark w ∷ (ranges_told choice old ++ Install old.seqno ∷ [])

  full_told : (choice : Choice) → IsTold old.seqno (full choice)
  full_told DoNothing = (refl, refl)
  full_told (Move input) = (refl, refl)
  full_told (Merge input) = (refl, refl)
  full_told (Drop ids) = (refl, refl)

  full_next : (choice : Choice) → old.seqno + 1 ≤ new.seqno → fold next_number_after old.seqno (full choice) ≤ new.seqno
  full_next DoNothing le = omega (arith, le)
  full_next (Move input) le = omega (arith, le)
  full_next (Merge input) le = omega (arith, le)
  full_next (Drop ids) le = omega (arith, le)

  ranges_are_told : (choice : Choice) → IsTold old.seqno (Mark w ∷ ranges_told choice old)
  ranges_are_told DoNothing = tt
  ranges_are_told (Move input) = tt
  ranges_are_told (Merge input) = tt
  ranges_are_told (Drop ids) = tt

  ranges_next : (choice : Choice) → old.seqno ≤ new.seqno → fold next_number_after old.seqno (Mark w ∷ ranges_told choice old) ≤ new.seqno
  ranges_next DoNothing le = le
  ranges_next (Move input) le = le
  ranges_next (Merge input) le = le
  ranges_next (Drop ids) le = le

  module _ (events : List Event) where
    abbrev Goal : Type 0
    Goal = GoesOn events old new

    at : (es : List Event) → events ≡ es → GoesOn es old new → Goal
    at es is goal = subst (λ l. GoesOn l old new) (sym is) goal

    -- the mark alone
    mark_goes : events ≡ Mark w ∷ [] → old.seqno ≤ new.seqno → new.merges ≡ old.merges → Goal
    mark_goes is le same = at (Mark w ∷ []) is (record { told = tt; next = le; marked = λ journal. still_marked old new journal (Mark w ∷ []) same })

    mark_same : events ≡ Mark w ∷ [] → new ≡ old → Goal
    mark_same is same = let q : new.seqno ≡ old.seqno = ap (λ (c : Core). c.seqno) same in mark_goes is (omega (arith, q)) (ap (λ (c : Core). c.merges) same)

    full_goes : (choice : Choice) → events ≡ full choice → old.seqno + 1 ≤ new.seqno → new.merges ≡ old.merges → Goal
    full_goes choice is le same = at (full choice) is (record { told = full_told choice; next = full_next choice le; marked = λ journal. still_marked old new journal (full choice) same })

    ranges_go : (choice : Choice) → events ≡ Mark w ∷ ranges_told choice old → old.seqno ≤ new.seqno → new.merges ≡ old.merges → Goal
    ranges_go choice is le same = at (Mark w ∷ ranges_told choice old) is (record { told = ranges_are_told choice; next = ranges_next choice le; marked = λ journal. still_marked old new journal (Mark w ∷ ranges_told choice old) same })

    -- what was to be installed
    installs_go : (choice : Choice) (P : SeenVersion → Type 0) (Q : Error → Type 0) (r : Result Begun Error) → InstallsChoice P Q w r old new → TellsChoice choice w r old events → Goal
    installs_go choice P Q (Ok b) i tells =
        let s = settled P w (Ok b) old new i.settles i.only in
        full_goes choice (tells.done (inl (ap Ok i.ok))) s.ok s.merges
    installs_go choice P Q (Err e) i tells =
        ⊎_elim
        (⊎_elim
        (λ (m : e ≡ OutOfMemory). refused (λ h. let z = sym m ∙ h in absurd (cc z)) (λ h. let z = sym m ∙ h in absurd (cc z)))
        (⊎_elim
        (λ (m : e ≡ Store). refused (λ h. let z = sym m ∙ h in absurd (cc z)) (λ h. let z = sym m ∙ h in absurd (cc z)))
        (λ (m : e ≡ CommitUnknown). ranges_go choice (tells.lost (ap Err m)) s.rises s.merges)))
        (⊎_elim
        (λ (m : e ≡ OutOfNumbers). refused (λ h. let z = sym m ∙ h in absurd (cc z)) (λ h. let z = sym m ∙ h in absurd (cc z)))
        (⊎_elim
        (λ (m : e ≡ TooManyRuns). refused (λ h. let z = sym m ∙ h in absurd (cc z)) (λ h. let z = sym m ∙ h in absurd (cc z)))
        (λ (m : e ≡ AfterCommit). full_goes choice (tells.done (inr (ap Err m))) (s.after (ap Err m)) s.merges)))
        i.only
      where
        s : Settled {T = Begun} (Err e) old new
        s = settled P w (Err e) old new i.settles i.only

        refused : (e ≡ AfterCommit → ⊥) → (e ≡ CommitUnknown → ⊥) → Goal
        refused after lost = mark_goes (tells.refused after lost) s.rises s.merges

    -- the answers that aren't installed
    says : (choice : Choice) (r : Result Begun Error) (b : Begun) → r ≡ Ok b → (b ≡ Installed → ⊥) → TellsChoice choice w r old events → events ≡ Mark w ∷ []
    says choice r b is other tells = (subst (λ x. TellsChoice choice w x old events) is tells).told other

    fails : (choice : Choice) (r : Result Begun Error) (e : Error) → r ≡ Err e → (e ≡ AfterCommit → ⊥) → (e ≡ CommitUnknown → ⊥) → TellsChoice choice w r old events → events ≡ Mark w ∷ []
    fails choice r e is after lost tells = (subst (λ x. TellsChoice choice w x old events) is tells).refused after lost

-- a merge is opened
opens_goes : NotedCompactionsKeepReads → (events : List Event) (choice : Choice) (o : Options) (r : Result Begun Error) (input : Input) (old new : Core) → OpensMerge input o r old new → TellsChoice choice o.mvcc_gc_watermark r old events → GoesOn events old new
opens_goes law events choice o (Ok b) input old new m tells =
    let w = o.mvcc_gc_watermark in
    let alone = tells.told (λ h. let z = sym m.job ∙ h in absurd (cc z)) in
    let q : new.seqno ≡ old.seqno = ap (λ (c : Core). c.seqno) m.ok in
    let one : SeenOpenMerge = record { number = old.merges.next; ids = input.table_ids.keys; settings = settings_of input o } in
    at w old new events (Mark w ∷ []) alone (record { told = tt; next = omega (arith, q); marked = λ journal. opened_marked old new journal (Mark w ∷ []) one (ap (λ (c : Core). c.merges.underway) m.ok) (law.marked w journal []) })
opens_goes law events choice o (Err e) input old new m tells =
    let other : (e ≡ AfterCommit → ⊥) × (e ≡ CommitUnknown → ⊥) =
    ⊎_elim (λ (x : e ≡ OutOfMemory). (λ h. let z = sym x ∙ h in absurd (cc z), λ h. let z = sym x ∙ h in absurd (cc z))) (λ (x : e ≡ OutOfNumbers). (λ h. let z = sym x ∙ h in absurd (cc z), λ h. let z = sym x ∙ h in absurd (cc z))) m.only in
    mark_same o.mvcc_gc_watermark old new events (tells.refused other.0 other.1) m.err

does_go : NotedCompactionsKeepReads → (events : List Event) (choice : Choice) (o : Options) (r : Result Begun Error) (old new : Core) → Does choice o r old new → TellsChoice choice o.mvcc_gc_watermark r old events → GoesOn events old new
does_go law events DoNothing o r old new does tells = mark_same o.mvcc_gc_watermark old new events (says o.mvcc_gc_watermark old new events DoNothing r DidNothing does.0 (λ h. absurd (cc h)) tells) does.1
does_go law events (Move input) o r old new does tells = installs_go o.mvcc_gc_watermark old new events (Move input) (IsMovedTo input old.history.latest.version) (IsNotMoved input old.history.latest.version) r does tells
does_go law events (Merge input) o r old new does tells = opens_goes law events (Merge input) o r input old new does tells
does_go law events (Drop ids) o r old new does tells = installs_go o.mvcc_gc_watermark old new events (Drop ids) (IsDroppedFrom ids.keys old.history.latest.version) (IsNotDropped ids.keys old.history.latest.version) r does tells

choice_goes : NotedCompactionsKeepReads → (choice : Choice) (o : Options) (r : Result Begun Error) (events : List Event) (old new : Core) → BeginsChoice choice o r old new → TellsChoice choice o.mvcc_gc_watermark r old events → GoesOn events old new
choice_goes law choice o r events old new b tells = by_lost old.lost refl
  where
    by_reason : old.lost ≡ None → (reason : Option Why) → reason_of choice old ≡ reason → GoesOn events old new
    by_reason none None is = does_go law events choice o r old new (b.does none is) tells
    by_reason none (Some why) is =
        let d = b.declines why none is in
        let alone : events ≡ Mark o.mvcc_gc_watermark ∷ [] = ⊎_elim
        (λ (h : r ≡ Ok (Declined why)). says o.mvcc_gc_watermark old new events choice r (Declined why) h (λ z. absurd (cc z)) tells)
        (λ (h : r ≡ Err OutOfMemory). fails o.mvcc_gc_watermark old new events choice r OutOfMemory h (λ z. absurd (cc z)) (λ z. absurd (cc z)) tells) d.0 in
        mark_same o.mvcc_gc_watermark old new events alone d.1

    by_lost : (lost : Option SeenVersion) → old.lost ≡ lost → GoesOn events old new
    by_lost None is = by_reason is (reason_of choice old) refl
    by_lost (Some v) is =
        let some : IsSome old.lost = subst IsSome (sym is) refl in
        mark_same o.mvcc_gc_watermark old new events (fails o.mvcc_gc_watermark old new events choice r Unrecoverable (b.unrecoverable.1 some) (λ z. absurd (cc z)) (λ z. absurd (cc z)) tells) (b.uncertain some)

pub begins_go : NotedCompactionsKeepReads → (answer : Result Choice Error) (o : Options) (r : Result Begun Error) (events : List Event) (old new : Core) → BeginsAnswer answer o r events old new → GoesOn events old new
begins_go law (Ok choice) o r events old new b = choice_goes law choice o r events old new b.0 b.2
begins_go law (Err e) o r events old new b = mark_same o.mvcc_gc_watermark old new events b.1 b.2

-- ---- the end of a merge

nothing_goes : (events : List Event) (old new : Core) → events ≡ [] → old.seqno ≤ new.seqno → ((journal : List Event) → AreMarked journal old → AreMarked (journal ++ []) new) → GoesOn events old new
nothing_goes events old new is le marked = subst (λ l. GoesOn l old new) (sym is) (record { told = tt; next = le; marked = marked })

same_goes : (events : List Event) (old new : Core) → events ≡ [] → new ≡ old → GoesOn events old new
same_goes events old new is same = let q : new.seqno ≡ old.seqno = ap (λ (c : Core). c.seqno) same in nothing_goes events old new is (omega (arith, q)) (λ journal. still_marked old new journal [] (ap (λ (c : Core). c.merges) same))

closed_goes : (events : List Event) (old new : Core) (n : ℕ) → events ≡ [] → new ≡ closed n old → GoesOn events old new
closed_goes events old new n is same = let q : new.seqno ≡ old.seqno = ap (λ (c : Core). c.seqno) same in nothing_goes events old new is (omega (arith, q)) (λ journal. closed_marked old new journal [] n (ap (λ (c : Core). c.merges.underway) same))

pub spends_go : (job : SeenCompaction) (events : List Event) (old new : Core) → events ≡ [] → Spends job old new → GoesOn events old new
spends_go job events old new is s = ⊎_elim (λ h. closed_goes events old new job.number is h.1) (λ h. same_goes events old new is h.1) s

module _ (job : SeenCompaction) (events : List Event) (old new : Core) where
  installed_goes : (n : ℕ) → events ≡ Install old.seqno ∷ [] → old.seqno + 1 ≤ new.seqno → new.merges ≡ (closed n old).merges → GoesOn events old new
  installed_goes n is le same =
      subst (λ l. GoesOn l old new) (sym is) (record { told = (refl, refl); next = omega (arith, le); marked = λ journal. closed_marked old new journal (Install old.seqno ∷ []) n (ap (λ (ms : SeenMerges). ms.underway) same) })

  -- a merge that no reason declines
  merge_goes : (n : ℕ) (r : Result Finished Error) → InstallsMerge job r (closed n old) new → IfOk r (λ f. f ≡ Done) → TellsMerge r old events → GoesOn events old new
  merge_goes n (Ok f) i done tells =
      let s = settled (IsMergedInto old.next_table job old.history.latest.version) job.settings.watermark (Ok f) (with_next_table i.table (closed n old)) new i.settles i.only in
      installed_goes n (tells.done (inl (ap Ok done))) s.ok s.merges
  merge_goes n (Err e) i done tells =
      ⊎_elim
      (⊎_elim
      (λ (m : e ≡ OutOfMemory). quietly (tells.refused (λ h. let z = sym m ∙ h in absurd (cc z)) (λ h. let z = sym m ∙ h in absurd (cc z))))
      (⊎_elim
      (λ (m : e ≡ Store). quietly (tells.refused (λ h. let z = sym m ∙ h in absurd (cc z)) (λ h. let z = sym m ∙ h in absurd (cc z))))
      (λ (m : e ≡ CommitUnknown). quietly (tells.lost (ap Err m)))))
      (⊎_elim
      (λ (m : e ≡ OutOfNumbers). quietly (tells.refused (λ h. let z = sym m ∙ h in absurd (cc z)) (λ h. let z = sym m ∙ h in absurd (cc z))))
      (⊎_elim
      (λ (m : e ≡ TooManyRuns). quietly (tells.refused (λ h. let z = sym m ∙ h in absurd (cc z)) (λ h. let z = sym m ∙ h in absurd (cc z))))
      (λ (m : e ≡ AfterCommit). installed_goes n (tells.done (inr (ap Err m))) (s.after (ap Err m)) s.merges)))
      i.only
    where
      s : Settled {T = Finished} (Err e) (with_next_table i.table (closed n old)) new
      s = settled (IsMergedInto old.next_table job old.history.latest.version) job.settings.watermark (Err e) (with_next_table i.table (closed n old)) new i.settles i.only

      quietly : events ≡ [] → GoesOn events old new
      quietly is = nothing_goes events old new is s.rises (λ journal. closed_marked old new journal [] n (ap (λ (ms : SeenMerges). ms.underway) s.merges))

  finishes_go : (r : Result Finished Error) → Finishes job r old new → TellsMerge r old events → GoesOn events old new
  finishes_go r f tells = by_lost old.lost refl
    where
      says : (x : Finished) → r ≡ Ok x → (x ≡ Done → ⊥) → events ≡ []
      says x is other = (subst (λ q. TellsMerge q old events) is tells).told other

      fails : (e : Error) → r ≡ Err e → (e ≡ AfterCommit → ⊥) → (e ≡ CommitUnknown → ⊥) → events ≡ []
      fails e is after lost = (subst (λ q. TellsMerge q old events) is tells).refused after lost

      by_reason : (why : Option Why) → EndsFor job why r (closed job.number old) new → GoesOn events old new
      by_reason None h = merge_goes job.number r h.0 h.1 tells
      by_reason (Some why) h = closed_goes events old new job.number (says (Over why) h.0 (λ z. absurd (cc z))) h.1

      by_end : Ends job r (closed job.number old) new → GoesOn events old new
      by_end h = ⊎_elim (λ x. closed_goes events old new job.number (fails OutOfMemory x.0 (λ z. absurd (cc z)) (λ z. absurd (cc z))) x.1) (λ x. by_reason x.0 x.2) h

      by_lost : (lost : Option SeenVersion) → old.lost ≡ lost → GoesOn events old new
      by_lost None is = ⊎_elim (λ x. same_goes events old new (says (Over UnknownJob) x.1.0 (λ z. absurd (cc z))) x.1.1) (λ x. by_end x.1) (f.ends is)
      by_lost (Some v) is =
          let some : IsSome old.lost = subst IsSome (sym is) refl in
          spends_go job events old new (fails Unrecoverable (f.unrecoverable.1 some) (λ z. absurd (cc z)) (λ z. absurd (cc z))) (f.uncertain some)

pub ends_go : (job : SeenCompaction) (r : Result Finished Error) (events : List Event) (old new : Core) → EndsNoted job r events old new → GoesOn events old new
ends_go job r events old new e = finishes_go job events old new r e.0 e.2

-- ---- in one call

-- nothing is told after the beginning of a merge that isn't installed
untold_behind : (job : SeenCompaction) (r : Result Begun Error) (c : Core) (events : List Event) → (r ≡ Ok Installed → ⊥) → (r ≡ Err AfterCommit → ⊥) → TellsBehind (Ok (Job job)) r c events → events ≡ []
untold_behind job r c events ok after tells = ⊎_elim (λ x. absurd (⊎_elim ok after x.0)) (λ x. x.2) tells

-- what a merge tells after its beginning is what its end tells
behind_tells : (job : SeenCompaction) (end : Result Finished Error) (r : Result Begun Error) (c : Core) (events : List Event) → r ≡ told_end end → TellsBehind (Ok (Job job)) r c events → TellsMerge end c events
behind_tells job (Ok Done) r c events is tells = record {
  done = λ h. ⊎_elim (λ x. x.1) (λ x. absurd (x.0 is)) tells;
  lost = λ h. absurd (cc h);
  told = λ other. absurd (other refl);
  refused = tt;
}
behind_tells job (Ok (Over why)) r c events is tells =
    let none : events ≡ [] = untold_behind job r c events (λ h. let z = sym is ∙ h in absurd (cc z)) (λ h. let z = sym is ∙ h in absurd (cc z)) tells in
    record { done = λ h. absurd (⊎_elim (λ (q : ◌≡◌ {A = Result Finished Error} (Ok (Over why)) (Ok Done)). let z : ⊥ = absurd (cc q) in z) (λ (q : ◌≡◌ {A = Result Finished Error} (Ok (Over why)) (Err AfterCommit)). let z : ⊥ = absurd (cc q) in z) h); lost = λ h. none; told = λ other. none; refused = tt }
behind_tells job (Err e) r c events is tells = record {
  done = λ h. ⊎_elim (λ (q : ◌≡◌ {A = Result Finished Error} (Err e) (Ok Done)). absurd (cc q)) (λ (q : ◌≡◌ {A = Result Finished Error} (Err e) (Err AfterCommit)). ⊎_elim (λ x. x.1) (λ x. absurd (x.1 (is ∙ ap told_end q))) tells) h;
  lost = λ q. untold_behind job r c events (λ h. let z = sym is ∙ h in absurd (cc z)) (λ h. let z = sym (is ∙ ap told_end q) ∙ h in absurd (cc z)) tells;
  told = tt;
  refused = λ after lost. untold_behind job r c events (λ h. let z = sym is ∙ h in absurd (cc z)) (λ h. after (failed (sym is ∙ h))) tells;
}
  where
    failed : ◌≡◌ {A = Result Begun Error} (Err e) (Err AfterCommit) → e ≡ AfterCommit
    failed h = cc h

completes_go : (job : SeenCompaction) (r : Result Begun Error) (events : List Event) (old new : Core) → Completes job r old new → TellsBehind (Ok (Job job)) r old events → GoesOn events old new
completes_go job r events old new completes tells =
    ⊎_elim
    (λ x. spends_go job events old new (untold_behind job r old events (λ h. let z = sym x.0 ∙ h in absurd (cc z)) (λ h. let z = sym x.0 ∙ h in absurd (cc z)) tells) x.1)
    (λ x. finishes_go job events old new x.0 x.1 (behind_tells job x.0 r old events x.3 tells))
    completes

-- after the beginning of a merge, which leaves the counter
goes_behind : (w : ℕ) (behind : List Event) (old mid new : Core) → mid.seqno ≡ old.seqno → GoesOn (Mark w ∷ []) old mid → GoesOn behind mid new → GoesOn (Mark w ∷ behind) old new
goes_behind w behind old mid new same first second = record {
  told = subst (λ n. IsTold n behind) same second.told;
  next = subst (λ n. fold next_number_after n behind ≤ new.seqno) same second.next;
  marked = λ journal h. subst (λ j. AreMarked j new) (append_assoc journal (Mark w ∷ []) behind) (second.marked (journal ++ Mark w ∷ []) (first.marked journal h));
}

-- a job is a merge that was opened, which leaves the counter
job_counter : (choice : Choice) (o : Options) (job : SeenCompaction) (old mid : Core) → BeginsChoice choice o (Ok (Job job)) old mid → mid.seqno ≡ old.seqno
job_counter choice o job old mid b = by_lost old.lost refl
  where
    does : (c : Choice) → Does c o (Ok (Job job)) old mid → mid.seqno ≡ old.seqno
    does DoNothing d = absurd (cc d.0)
    does (Move input) d = absurd (cc d.ok)
    does (Merge input) d = ap (λ (c : Core). c.seqno) d.ok
    does (Drop ids) d = absurd (cc d.ok)

    by_reason : old.lost ≡ None → (reason : Option Why) → reason_of choice old ≡ reason → mid.seqno ≡ old.seqno
    by_reason none None is = does choice (b.does none is)
    by_reason none (Some why) is = ap (λ (c : Core). c.seqno) (b.declines why none is).1

    by_lost : (lost : Option SeenVersion) → old.lost ≡ lost → mid.seqno ≡ old.seqno
    by_lost None is = by_reason is (reason_of choice old) refl
    by_lost (Some v) is = ap (λ (c : Core). c.seqno) (b.uncertain (subst IsSome (sym is) refl))

module _ (law : NotedCompactionsKeepReads) (choice : Choice) (o : Options) (old : Core) where
  -- where nothing comes after
  front_goes : (begun : Result Begun Error) (front behind : List Event) (mid new : Core) → BeginsChoice choice o begun old mid → TellsChoice choice o.mvcc_gc_watermark begun old front → behind ≡ [] → new ≡ mid → GoesOn (front ++ behind) old new
  front_goes begun front behind mid new b tells none same =
      subst (λ l. GoesOn (front ++ l) old new) (sym none) (subst (λ c. GoesOn (front ++ []) old c) (sym same) (subst (λ l. GoesOn l old mid) (sym (append-nil front)) (choice_goes law choice o begun front old mid b tells)))

  follows_go : (begun r : Result Begun Error) (front behind : List Event) (mid new : Core) → BeginsChoice choice o begun old mid → TellsChoice choice o.mvcc_gc_watermark begun old front → Follows begun r mid new → TellsBehind begun r mid behind → GoesOn (front ++ behind) old new
  follows_go (Ok DidNothing) r front behind mid new b tells follows more = front_goes (Ok DidNothing) front behind mid new b tells more follows.1
  follows_go (Ok (Declined why)) r front behind mid new b tells follows more = front_goes (Ok (Declined why)) front behind mid new b tells more follows.1
  follows_go (Ok Installed) r front behind mid new b tells follows more = front_goes (Ok Installed) front behind mid new b tells more follows.1
  follows_go (Err e) r front behind mid new b tells follows more = front_goes (Err e) front behind mid new b tells more follows.1
  follows_go (Ok (Job job)) r front behind mid new b tells follows more =
      let w = o.mvcc_gc_watermark in
      let alone : front ≡ Mark w ∷ [] = tells.told (λ h. absurd (cc h)) in
      let first = subst (λ l. GoesOn l old mid) alone (choice_goes law choice o (Ok (Job job)) front old mid b tells) in
      subst (λ l. GoesOn (l ++ behind) old new) (sym alone) (goes_behind w behind old mid new (job_counter choice o job old mid b) first (completes_go job r behind mid new follows more))

pub compacts_go : NotedCompactionsKeepReads → (answer : Result Choice Error) (o : Options) (r : Result Begun Error) (events : List Event) (old new : Core) → CompactsAnswer answer o r events old new → GoesOn events old new
compacts_go law (Ok choice) o r events old new c =
    subst (λ l. GoesOn l old new) (sym c.told) (follows_go law choice o old c.compacts.begun r c.front c.behind c.compacts.mid new c.compacts.begins c.begins c.compacts.follows c.follows)
compacts_go law (Err e) o r events old new c = begins_go law (Err e) o r events old new c

-- What compactions leave of reads, beside what they tell.
use Rattle.std.proofs.Common.{◌≡◌, ⊎_elim, Option, None, Some, IsSome, ℕ, ◌≤◌, true, false, cond, ltb, List, [], ◌∷◌, ◌++◌, refl, sym, ap, ◌∙◌, subst, append_assoc, append-nil, Result, Ok, Err, IsErrOf, arith}
use Rattle.std.proofs.lemmas.Grind.{fold-append}
use Rattle.lsm_below.specs.declared.error.Error.{Error}
use Rattle.lsm_below.specs.declared.error.Error.TheVariants.{OutOfMemory, Unrecoverable, CommitUnknown, AfterCommit}
use Rattle.lsm_model.specs.Soundness.{Soundness}
use Rattle.lsm_model.specs.Journal.{Event, InOrder, is_kept, kept_after}
use Rattle.lsm_model.specs.Steps.{Marked, StaysAt}
use Rattle.lsm_model.specs.Sound.{Holds}
use Rattle.lsm_model.specs.declared.journal.JournalEntry.TheVariants.{Mark}
use Rattle.lsm_versions.specs.Levels.{SeenVersion}
use Rattle.lsm_checks.specs.declared.choice.Why.{Why}
use Rattle.lsm_checks.specs.declared.choice.Why.TheVariants.{UnknownJob}
use Rattle.lsm_checks.specs.declared.input.Input.{Input}
use Rattle.lsm_compaction.specs.Merges.{SeenCompaction}
use Rattle.lsm_pick.specs.declared.choice.Choice.{Choice}
use Rattle.lsm_state.specs.declared.compaction.Options.{Options}
use Rattle.lsm_state.specs.declared.compaction.Begun.{Begun}
use Rattle.lsm_state.specs.declared.compaction.Begun.TheVariants.{DidNothing, Declined, Installed, Job}
use Rattle.lsm_state.specs.declared.compaction.Finished.{Finished}
use Rattle.lsm_state.specs.declared.compaction.Finished.TheVariants.{Declined as Over, Installed as Done}
use Rattle.lsm_state.specs.Core.{Core, state_of}
use Rattle.lsm_state.specs.Compactions.{BeginsChoice, Finishes, Spends, job_for}
use Rattle.lsm_state.specs.CompactionDeeds.{MergeDeeds, IsMarkedIn}
use Rattle.lsm_state.specs.CompactionReads.{SparesReads, IsAny, AreSparedBy, IsAnySnapshot, TellsMerge, TellsChoice, CompactionsKeepReads}
use Rattle.lsm_state.specs.Deeds.{IsNoDeed}
use Rattle.lsm_state.specs.WholeCompactions.{told_end, Follows}
use Rattle.lsm_state.proofs.CompactionDeeds.{still_marked}
use Rattle.lsm_state.proofs.Wholes.{same_job}
use Rattle.lsm_journal.specs.Noted.{BeginsAnswer, EndsNoted, TellsBehind, CompactsNoted, CompactsAnswer}
use Rattle.lsm_journal.specs.NotedReads.{IsMarkedFor, NotedCompactionsKeepReads}
use Rattle.lsm_journal.proofs.Compacting.{IsOpened, job_begun}

-- ---- marks

mark_last : (w : ℕ) (journal : List Event) → IsMarkedIn w (journal ++ Mark w ∷ [])
mark_last w journal s kept =
    let is : cond (ltb s w) false (is_kept s journal) ≡ true = sym (fold-append (kept_after s) true journal (Mark w ∷ [])) ∙ kept in
    elim (ltb s w) as (λ b. ltb s w ≡ b → cond b false (is_kept s journal) ≡ true → w ≤ s) [
      | true ↦ λ e h. absurd (cc h)
      | false ↦ λ e h. grind (arith)
    ] refl is

marked : (w : ℕ) (journal more : List Event) → IsMarkedIn w (journal ++ Mark w ∷ more)
marked w journal more = subst (IsMarkedIn w) (append_assoc journal (Mark w ∷ []) more) (still_marked w (journal ++ Mark w ∷ []) more (mark_last w journal))

-- ---- jobs

-- a job has the watermark of its options
job_mark : (o : Options) (old : Core) (job : SeenCompaction) (input : Input) → ◌≡◌ {A = Begun} (Job job) (Job (job_for input o old)) → job.settings.watermark ≡ o.mvcc_gc_watermark
job_mark o old job input h = ap (λ (j : SeenCompaction). j.settings.watermark) (same_job job (job_for input o old) h)

module _ (theory : Soundness) (laws : CompactionsKeepReads) where
  -- ---- nothing, and a mark

  silent : (old new : Core) → IsNoDeed old new → SparesReads IsAny [] IsAnySnapshot old new
  silent old new none = record {
    right = λ opened start journal before order holds.
        subst (λ j. Holds opened start (state_of j new)) (sym (append-nil journal)) (subst (Holds opened start) (sym (ap (λ t. t.state) (none opened journal []))) holds);
    stays = λ opened start journal before order holds s spared.
        let is = ap (λ t. t.state) (none opened [] []) in
        theory.spares.same s (state_of [] old) (state_of [] new) (ap (λ t. t.mems) is) (ap (λ t. t.latest) is) (ap (λ t. t.older) is);
  }

  mark : (w : ℕ) (IsSpared : ℕ → Type 0) (c : Core) → SparesReads IsAny (Mark w ∷ []) IsSpared c c
  mark w IsSpared c = record {
    right = λ opened start journal before order holds. theory.kept.step opened start (state_of journal c) (Marked w) (state_of (journal ++ Mark w ∷ []) c) refl order holds;
    stays = λ opened start journal before order holds s spared. theory.spares.same s (state_of [] c) (state_of [] c) refl refl refl;
  }

  -- ---- beginning

  begins : (answer : Result Choice Error) (o : Options) (r : Result Begun Error) (events : List Event) (old new : Core) → BeginsAnswer answer o r events old new → SparesReads IsAny events (AreSparedBy events) old new
  begins (Ok choice) o r events old new b = laws.choices choice o.mvcc_gc_watermark r old new events b.1 b.2
  begins (Err e) o r events old new b =
      subst (λ es. SparesReads IsAny es (AreSparedBy es) old new) (sym b.1) (subst (λ c. SparesReads IsAny (Mark o.mvcc_gc_watermark ∷ []) (AreSparedBy (Mark o.mvcc_gc_watermark ∷ [])) old c) (sym b.2) (mark o.mvcc_gc_watermark (AreSparedBy (Mark o.mvcc_gc_watermark ∷ [])) old))

  -- ---- finishing

  -- under a premise that says more
  where_marked : (IsBefore IsEarlier : List Event → Type 0) (events : List Event) (IsSpared : ℕ → Type 0) (old new : Core) → ((journal : List Event) → IsEarlier journal → IsBefore journal) → SparesReads IsBefore events IsSpared old new → SparesReads IsEarlier events IsSpared old new
  where_marked IsBefore IsEarlier events IsSpared old new gives k = record {
    right = λ opened start journal before order holds. k.right opened start journal (gives journal before) order holds;
    stays = λ opened start journal before order holds s spared. k.stays opened start journal (gives journal before) order holds s spared;
  }

  module _ (job : SeenCompaction) (events : List Event) (old new : Core) where
    -- nothing is installed, and nothing told
    nothing : events ≡ [] → IsNoDeed old new → SparesReads (IsMarkedFor job old) events IsAnySnapshot old new
    nothing none deed = subst (λ es. SparesReads (IsMarkedFor job old) es IsAnySnapshot old new) (sym none) (where_marked IsAny (IsMarkedFor job old) [] IsAnySnapshot old new (λ journal before. tt) (silent old new deed))

    over : (r : Result Finished Error) (why : Why) → r ≡ Ok (Over why) → MergeDeeds job r old new → TellsMerge r old events → SparesReads (IsMarkedFor job old) events IsAnySnapshot old new
    over (Ok f) why is deeds tells = let other : f ≡ Done → ⊥ = λ h. cc (h, is) in nothing (tells.told other) (deeds.told other)
    over (Err e) why is deeds tells = absurd (cc is)

    uncertain : (r : Result Finished Error) → IsErrOf r Unrecoverable → MergeDeeds job r old new → TellsMerge r old events → SparesReads (IsMarkedFor job old) events IsAnySnapshot old new
    uncertain (Ok f) is deeds tells = absurd (cc is)
    uncertain (Err e) is deeds tells =
        let after : e ≡ AfterCommit → ⊥ = λ h. cc (h, is) in
        let known : e ≡ CommitUnknown → ⊥ = λ h. cc (h, is) in
        nothing (tells.refused after known) (deeds.refused after known)

    ends : (r : Result Finished Error) → EndsNoted job r events old new → SparesReads (IsMarkedFor job old) events IsAnySnapshot old new
    ends r e = by_lost old.lost refl
      where
        by_lost : (l : Option SeenVersion) → old.lost ≡ l → SparesReads (IsMarkedFor job old) events IsAnySnapshot old new
        by_lost None certain = ⊎_elim
            (λ h. over r UnknownJob h.1.0 e.1 e.2)
            (λ h. where_marked (IsMarkedIn job.settings.watermark) (IsMarkedFor job old) events IsAnySnapshot old new (λ journal marks. marks h.0) (laws.merges job r old new events e.1 e.2))
            (e.0.ends certain)
        by_lost (Some v) is = uncertain r (e.0.unrecoverable.1 (subst IsSome (sym is) refl)) e.1 e.2

  -- ---- in one call

  -- the end of a merge, by what the whole compaction replies
  tells_end : (end : Result Finished Error) (c : Core) (events : List Event) (job : SeenCompaction) → TellsBehind (Ok (Job job)) (told_end end) c events → TellsMerge end c events
  tells_end (Ok Done) c events job t = ⊎_elim
      (λ h. record { done = λ _. h.1; lost = λ e. absurd (cc e); told = λ no. absurd (no refl); refused = tt })
      (λ h. absurd (h.0 refl))
      t
  tells_end (Ok (Over why)) c events job t = ⊎_elim
      (λ h. absurd (⊎_elim (λ e. cc e) (λ e. cc e) h.0))
      (λ h. record { done = λ d. absurd (⊎_elim (λ e. cc e) (λ e. cc e) d); lost = λ e. h.2; told = λ no. h.2; refused = tt })
      t
  tells_end (Err e) c events job t = ⊎_elim
      (λ h. record { done = λ d. h.1; lost = λ k. absurd (⊎_elim (λ x. cc x) (λ x. cc (x, k)) h.0); told = tt; refused = λ after known. absurd (⊎_elim (λ x. cc x) (λ x. after (same_error AfterCommit x)) h.0) })
      (λ h. record { done = λ d. absurd (⊎_elim (λ x. cc x) (λ x. h.1 (ap Err (ended_error AfterCommit x))) d); lost = λ k. h.2; told = tt; refused = λ after known. h.2 })
      t
    where
      same_error : (x : Error) → ◌≡◌ {A = Result Begun Error} (Err e) (Err x) → e ≡ x
      same_error x h = cc h

      ended_error : (x : Error) → ◌≡◌ {A = Result Finished Error} (Err e) (Err x) → e ≡ x
      ended_error x h = cc h

  module _ (choice : Choice) (o : Options) (r : Result Begun Error) (events : List Event) (old new : Core) (n : CompactsNoted choice o r events old new) where
    abbrev w : ℕ
    w = o.mvcc_gc_watermark

    abbrev mid : Core
    mid = n.compacts.mid

    first : SparesReads IsAny n.front (AreSparedBy n.front) old mid
    first = laws.choices choice w n.compacts.begun old mid n.front n.compacts.deeds n.begins

    -- nothing follows
    alone : new ≡ mid → n.behind ≡ [] → SparesReads IsAny events (AreSparedBy events) old new
    alone same none =
        let is : events ≡ n.front = n.told ∙ ap (λ es. n.front ++ es) none ∙ append-nil n.front in
        subst (λ c. SparesReads IsAny events (AreSparedBy events) old c) (sym same) (subst (λ es. SparesReads IsAny es (AreSparedBy es) old mid) (sym is) first)

    module _ (job : SeenCompaction) (is : n.compacts.begun ≡ Ok (Job job)) where
      opens : IsOpened choice o job old mid
      opens = job_begun choice o job old mid (subst (λ b. BeginsChoice choice o b old mid) is n.compacts.begins)

      marks : n.front ≡ Mark w ∷ []
      marks = (subst (λ b. TellsChoice choice w b old n.front) is n.begins).told (λ h. cc h)

      watermark : job.settings.watermark ≡ w
      watermark = job_mark o old job opens.input opens.opens.job

      -- a job changes nothing that reads see
      same_state : (journal : List Event) → state_of journal mid ≡ state_of journal old
      same_state journal = ap (state_of journal) opens.opens.ok

      behind_tells : TellsBehind (Ok (Job job)) r mid n.behind
      behind_tells = subst (λ b. TellsBehind b r mid n.behind) is n.follows

      second : SparesReads (IsMarkedIn w) n.behind IsAnySnapshot mid new
      second = ⊎_elim
          (λ (given : (r ≡ Err OutOfMemory) × Spends job mid new × IsNoDeed mid new). given_up given.0 given.2)
          (λ (done : (end : Result Finished Error) × Finishes job end mid new × MergeDeeds job end mid new × (r ≡ told_end end)). subst (λ x. SparesReads (IsMarkedIn x) n.behind IsAnySnapshot mid new) watermark (laws.merges job done.0 mid new n.behind done.2 (tells_end done.0 mid n.behind job (subst (λ x. TellsBehind (Ok (Job job)) x mid n.behind) done.3 behind_tells))))
          (subst (λ b. Follows b r mid new) is n.compacts.follows)
        where
          given_up : r ≡ Err OutOfMemory → IsNoDeed mid new → SparesReads (IsMarkedIn w) n.behind IsAnySnapshot mid new
          given_up e deed =
              let none : n.behind ≡ [] = ⊎_elim (λ h. absurd (⊎_elim (λ x. cc (sym e ∙ x)) (λ x. cc (sym e ∙ x)) h.0)) (λ h. h.2) behind_tells in
              subst (λ es. SparesReads (IsMarkedIn w) es IsAnySnapshot mid new) (sym none) (where_marked IsAny (IsMarkedIn w) [] IsAnySnapshot mid new (λ journal before. tt) (silent mid new deed))

      joined : (journal : List Event) → journal ++ events ≡ (journal ++ Mark w ∷ []) ++ n.behind
      joined journal = ap (λ es. journal ++ es) (n.told ∙ ap (λ es. es ++ n.behind) marks) ∙ sym (append_assoc journal (Mark w ∷ []) n.behind)

      merged : SparesReads IsAny events (AreSparedBy events) old new
      merged = record {
        right = λ opened start journal before order holds.
            let order' : InOrder opened ((journal ++ Mark w ∷ []) ++ n.behind) = subst (InOrder opened) (joined journal) order in
            let here : Holds opened start (state_of (journal ++ Mark w ∷ []) mid) = subst (λ es. Holds opened start (state_of (journal ++ es) mid)) marks (first.right opened start journal tt (subst (λ es. InOrder opened (journal ++ es)) (sym marks) (theory.kept.front opened (journal ++ Mark w ∷ []) n.behind order')) holds) in
            subst (λ j. Holds opened start (state_of j new)) (sym (joined journal)) (second.right opened start (journal ++ Mark w ∷ []) (mark_last w journal) order' here);
        stays = λ opened start journal before order holds s spared.
            let order' : InOrder opened ((journal ++ Mark w ∷ []) ++ n.behind) = subst (InOrder opened) (joined journal) order in
            let here : Holds opened start (state_of (journal ++ Mark w ∷ []) mid) = subst (λ es. Holds opened start (state_of (journal ++ es) mid)) marks (first.right opened start journal tt (subst (λ es. InOrder opened (journal ++ es)) (sym marks) (theory.kept.front opened (journal ++ Mark w ∷ []) n.behind order')) holds) in
            subst (λ t. StaysAt s t (state_of [] new)) (same_state []) (second.stays opened start (journal ++ Mark w ∷ []) (mark_last w journal) order' here s tt);
      }

    by_begun : (begun : Result Begun Error) → n.compacts.begun ≡ begun → SparesReads IsAny events (AreSparedBy events) old new
    by_begun (Ok (Job job)) is = merged job is
    by_begun (Ok DidNothing) is = alone (subst (λ b. Follows b r mid new) is n.compacts.follows).1 (subst (λ b. TellsBehind b r mid n.behind) is n.follows)
    by_begun (Ok (Declined why)) is = alone (subst (λ b. Follows b r mid new) is n.compacts.follows).1 (subst (λ b. TellsBehind b r mid n.behind) is n.follows)
    by_begun (Ok Installed) is = alone (subst (λ b. Follows b r mid new) is n.compacts.follows).1 (subst (λ b. TellsBehind b r mid n.behind) is n.follows)
    by_begun (Err e) is = alone (subst (λ b. Follows b r mid new) is n.compacts.follows).1 (subst (λ b. TellsBehind b r mid n.behind) is n.follows)

  compacts : (answer : Result Choice Error) (o : Options) (r : Result Begun Error) (events : List Event) (old new : Core) → CompactsAnswer answer o r events old new → SparesReads IsAny events (AreSparedBy events) old new
  compacts (Ok choice) o r events old new n = by_begun choice o r events old new n n.compacts.begun refl
  compacts (Err e) o r events old new b = begins (Err e) o r events old new b

  -- ---- what becomes a job marks its watermark

  job_marks : (answer : Result Choice Error) (o : Options) (job : SeenCompaction) (events : List Event) (old new : Core) → BeginsAnswer answer o (Ok (Job job)) events old new → (job.settings.watermark ≡ o.mvcc_gc_watermark) × (events ≡ Mark o.mvcc_gc_watermark ∷ [])
  job_marks (Ok choice) o job events old new b = let opens = job_begun choice o job old new b.0 in (job_mark o old job opens.input opens.opens.job, b.2.told (λ h. cc h))
  job_marks (Err e) o job events old new b = absurd (cc b.0)

  pub noted_keep_reads : NotedCompactionsKeepReads
  noted_keep_reads = record {
    begins = begins;
    compacts = compacts;
    ends = λ job r events old new e. ends job events old new r e;
    silent = silent;
    marks = job_marks;
    marked = marked;
    lasts = still_marked;
  }

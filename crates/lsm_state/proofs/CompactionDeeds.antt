-- What a compaction does, as deeds of the theory of crashes.
use Rattle.std.proofs.Common.{◌≡◌, ℕ, ◌⊎◌, inl, inr, ⊎_elim, Bool, true, false, List, [], ◌∷◌, ◌++◌, map, fold, option_to_list, Option, None, Some, IsSome, Result, Ok, Err, IfOk, OnOk, IfErr, IsErrOf, refl, sym, ap, ◌∙◌, subst, append_assoc, append-nil}
use Rattle.std.proofs.lemmas.Grind.{fold-append}
use Rattle.lsm_below.specs.declared.error.Error.{Error}
use Rattle.lsm_below.specs.declared.error.Error.TheVariants.{OutOfMemory, Store, CommitUnknown, OutOfNumbers, TooManyRuns, AfterCommit, Unrecoverable}
use Rattle.lsm_below.specs.Entries.{Entry}
use Rattle.lsm_model.specs.Journal.{Event, is_kept, kept_after}
use Rattle.lsm_model.specs.Views.{HasDistinctIds}
use Rattle.lsm_model.specs.Steps.{State, Action, Step, Maintained, Moved, DroppedTables}
use Rattle.lsm_model.specs.Beginnings.{Note, Deeds, Done, Lost, IsDone, is_commit, is_lost, noted_by, noted_lost, told_lost}
use Rattle.lsm_model.specs.declared.journal.JournalEntry.TheVariants.{Mark, Install}
use Rattle.lsm_model.proofs.Journals.{not_kept, marked}
use Rattle.lsm_versions.specs.Levels.{SeenVersion, HasOwnIds, all_of, placed_in, placed_of}
use Rattle.lsm_versions.specs.Installs.{MovesAreSteps, DropsAreSteps}
use Rattle.lsm_checks.specs.declared.choice.Why.{Why}
use Rattle.lsm_checks.specs.declared.choice.Why.TheVariants.{UnknownJob}
use Rattle.lsm_checks.specs.declared.input.Input.{Input}
use Rattle.lsm_checks.specs.Endings.{MergesOfInputsAreSteps}
use Rattle.lsm_compaction.specs.Merges.{SeenCompaction, evicts}
use Rattle.lsm_below.specs.Optimizes.{tables_of}
use Rattle.lsm_pick.specs.declared.choice.Choice.{Choice}
use Rattle.lsm_pick.specs.declared.choice.Choice.TheVariants.{DoNothing, Move, Merge, Drop}
use Rattle.lsm_parts.specs.History.{versions_of}
use Rattle.lsm_state.specs.declared.compaction.Options.{Options}
use Rattle.lsm_state.specs.declared.compaction.Begun.{Begun}
use Rattle.lsm_state.specs.declared.compaction.Begun.TheVariants.{DidNothing, Declined, Installed, Job}
use Rattle.lsm_state.specs.declared.compaction.Finished.{Finished}
use Rattle.lsm_state.specs.declared.compaction.Finished.TheVariants.{Declined as Over, Installed as Ended}
use Rattle.lsm_state.specs.Kept.{NameOlder, IsKeptTree}
use Rattle.lsm_state.specs.Core.{Core, state_of}
use Rattle.lsm_state.specs.Commits.{counted, committed, doubted}
use Rattle.lsm_state.specs.Cleaning.{Cleans}
use Rattle.lsm_state.specs.Deeds.{saved_of, IsNoDeed, IsMarkDeed, AreDone}
use Rattle.lsm_state.specs.Flushes.{with_next_table}
use Rattle.lsm_state.specs.Settling.{next_in, IsInstalled, IsDoubted, SettlesSome}
use Rattle.lsm_state.specs.Compactions.{levels_of, reason_of, IsMovedTo, IsDroppedFrom, IsNotMoved, IsNotDropped, IsMergedInto, InstallsChoice, OpensMerge, InstallsMerge, EndsFor, Ends, Spends, closed, job_for, Does, BeginsChoice, Finishes}
use Rattle.lsm_state.specs.CompactionDeeds.{AreLostTelling, dropped_by, IsChoiceDeed, IsLostChoice, ChoiceDeeds, IsMarkedIn, merge_of, IsMergeDeed, IsLostMerge, MergeDeeds, CompactionsAreDeeds}
use Rattle.lsm_state.proofs.Distinct.{distinct_placed}
use Rattle.lsm_state.proofs.Forgetting.{cleaned_step}
use Rattle.lsm_state.proofs.FlushSteps.{names_older}
use Rattle.lsm_state.proofs.FlushDeeds.{clash, mark_done, none_other}

-- ---- marks

-- a snapshot that is kept after more events is kept before them
kept_before : (s : ℕ) (journal more : List Event) → is_kept s (journal ++ more) ≡ true → is_kept s journal ≡ true
kept_before s journal more h =
    let k : fold (kept_after s) (is_kept s journal) more ≡ true = sym (fold-append (kept_after s) true journal more) ∙ h in
    elim (is_kept s journal) as (λ b. fold (kept_after s) b more ≡ true → b ≡ true) [ true ↦ λ _. refl | false ↦ λ z. absurd (clash (sym (not_kept s more) ∙ z)) ] k

pub still_marked : (w : ℕ) (journal more : List Event) → IsMarkedIn w journal → IsMarkedIn w (journal ++ more)
still_marked w journal more h s k = h s (kept_before s journal more k)

-- ---- an install of any kind

-- an action that puts a version in place, notes nothing, and tells some events where it is answered, and where it isn't
pub record Puts (c : Core) (v : SeenVersion) (action : Action) (events told : List Event) : Type 0 where
  pub certain : c.lost ≡ None
  pub named : NameOlder c.history.latest.active_memtable (versions_of c.history)
  pub own_ids : HasOwnIds (all_of v.levels)
  pub commits : is_commit action ≡ true
  pub answered : is_lost action ≡ false
  pub silent : (s : State) → noted_by s action ≡ []
  pub quiet : (s : State) → noted_lost s action ≡ []
  pub tells : (journal : List Event) → told_lost (state_of journal c) action (state_of (journal ++ events) (committed (next_in c v) c)) ≡ told
  pub step : (opened : List Entry) (journal : List Event) → Step opened (state_of journal c) action (state_of (journal ++ events) (committed (next_in c v) c))

module _ (c : Core) (v : SeenVersion) (action : Action) (events told : List Event) (puts : Puts c v action events told) where
  abbrev after : Core
  after = committed (next_in c v) c

  done_on : (opened : List Entry) (journal : List Event) (notes : List Note) → IsDone opened (saved_of journal notes c) action (saved_of (journal ++ events) notes after)
  done_on opened journal notes = record {
    answered = puts.answered;
    certain = λ e. none_other c puts.certain;
    step = puts.step opened journal;
    distinct = distinct_placed v.levels puts.own_ids;
    notes = ap (λ l. l ++ notes) (sym (puts.silent (state_of journal c)));
    others = refl;
  }

  maintained_on : (w : ℕ) (whole : Bool) (new : Core) → Cleans w whole after new → (opened : List Entry) (journal : List Event) (notes : List Note) → IsMarkedIn w journal
      → IsDone opened (saved_of journal notes after) (Maintained w) (saved_of journal notes new)
  maintained_on w whole new cleans opened journal notes marks = record {
    answered = refl;
    certain = λ e. absurd (clash e);
    step = cleaned_step w c.history.latest.active_memtable whole after new (names_older c.history.latest.active_memtable 0 c.history.latest (next_in c v) c.history.older refl refl puts.named) cleans journal marks;
    distinct = subst (λ sv. HasDistinctIds (placed_of sv.version.levels)) (sym cleans.history.latest) (distinct_placed v.levels puts.own_ids);
    notes = refl;
    others = ap (λ d. map (λ u. placed_of u.levels) (option_to_list d.lost)) cleans.rest;
  }

  -- the action and the maintenance
  behind : (w : ℕ) (whole : Bool) (new : Core) → IsInstalled v w whole c new → (opened : List Entry) (journal : List Event) (notes : List Note) → IsMarkedIn w journal
      → Deeds opened (saved_of journal notes c) (Done action ∷ (Done (Maintained w) ∷ [])) (saved_of (journal ++ events) notes new)
  behind w whole new cleans opened journal notes marks = (
    saved_of (journal ++ events) notes after,
    done_on opened journal notes,
    (saved_of (journal ++ events) notes new, maintained_on w whole new cleans opened (journal ++ events) notes (still_marked w journal events marks), refl),
  )

  lost_on : (opened : List Entry) (journal : List Event) (notes : List Note) (new : Core) → IsDoubted v c new
      → Deeds opened (saved_of journal notes c) (Lost action (state_of (journal ++ events) after) ∷ []) (saved_of (journal ++ told) notes new)
  lost_on opened journal notes new is = (
    saved_of (journal ++ told) notes (doubted (next_in c v) c),
    record {
      commits = puts.commits;
      certain = none_other c puts.certain;
      step = puts.step opened journal;
      distinct = distinct_placed v.levels puts.own_ids;
      state = ap (λ l. state_of (journal ++ l) c) (sym (puts.tells journal));
      notes = ap (λ l. l ++ notes) (sym (puts.quiet (state_of journal c)));
      others = refl;
    },
    ap (saved_of (journal ++ told) notes) is,
  )

  -- after a mark
  module _ (kept : IsKeptTree c) (w : ℕ) where
    goes_on : (journal more : List Event) → (journal ++ Mark w ∷ []) ++ more ≡ journal ++ Mark w ∷ more
    goes_on journal more = append_assoc journal (Mark w ∷ []) more

    pub done_marked : (whole : Bool) (new : Core) → IsInstalled v w whole c new → AreDone w action events [] c new
    done_marked whole new cleans opened journal notes order = (
      saved_of (journal ++ Mark w ∷ []) notes c,
      mark_done w 0 c kept opened journal notes,
      subst (λ j. Deeds opened (saved_of (journal ++ Mark w ∷ []) notes c) (Done action ∷ (Done (Maintained w) ∷ [])) (saved_of j notes new)) (goes_on journal events)
          (behind w whole new cleans opened (journal ++ Mark w ∷ []) notes (λ s. marked s w journal [])),
    )

    pub lost_marked : (new : Core) → IsDoubted v c new → AreLostTelling w action told events c after new
    lost_marked new is opened journal notes order = (
      saved_of (journal ++ Mark w ∷ []) notes c,
      mark_done w 0 c kept opened journal notes,
      subst (λ j. Deeds opened (saved_of (journal ++ Mark w ∷ []) notes c) (Lost action (state_of j after) ∷ []) (saved_of (journal ++ Mark w ∷ told) notes new)) (goes_on journal events)
          (subst (λ j. Deeds opened (saved_of (journal ++ Mark w ∷ []) notes c) (Lost action (state_of ((journal ++ Mark w ∷ []) ++ events) after) ∷ []) (saved_of j notes new)) (goes_on journal told)
          (lost_on opened (journal ++ Mark w ∷ []) notes new is)),
    )

-- ---- outcomes

pub ok_no_err : {T : Type 0} (x : T) (e : Error) → IsErrOf (Ok x) e → ⊥
ok_no_err x e h = cc h

pub err_is : {T : Type 0} (a b : Error) → IsErrOf {T = T} (Err a) b → a ≡ b
err_is a b h = cc h

-- what is the same to the theories
abbrev pub LooksSame : Core → Core → Type 0
LooksSame old new = (journal : List Event) (notes : List Note) → saved_of journal notes new ≡ saved_of journal notes old

pub looks_same : (old new : Core) → (new ≡ old) ⊎ (new ≡ counted old) → LooksSame old new
looks_same old new is journal notes = ⊎_elim (λ (same : new ≡ old). ap (saved_of journal notes) same) (λ (drawn : new ≡ counted old). ap (saved_of journal notes) drawn) is

-- what follows of each outcome of an install
record Outcome {T : Type 0} (r : Result T Error) (Installs Loses Nothing : Type 0) : Type 0 where
  ok : OnOk r Installs
  after : IsErrOf r AfterCommit → Installs
  unknown : IsErrOf r CommitUnknown → Loses
  other : IfErr r (λ e. (e ≡ AfterCommit → ⊥) → (e ≡ CommitUnknown → ⊥) → Nothing)

abbrev IsUsual : Error → Type 0
IsUsual e = ((e ≡ OutOfMemory) ⊎ ((e ≡ Store) ⊎ (e ≡ CommitUnknown))) ⊎ ((e ≡ OutOfNumbers) ⊎ ((e ≡ TooManyRuns) ⊎ (e ≡ AfterCommit)))

outcome : {T : Type 0} (r : Result T Error) (IsMade : SeenVersion → Type 0) (w : ℕ) (old new : Core) → SettlesSome IsMade w r old new → IfErr r IsUsual → (Installs Loses Nothing : Type 0)
    → ((v : SeenVersion) → IsMade v → (whole : Bool) → IsInstalled v w whole old new → Installs) → ((v : SeenVersion) → IsMade v → IsDoubted v old new → Loses) → (LooksSame old new → Nothing) → Outcome r Installs Loses Nothing
outcome (Ok x) IsMade w old new s usual Installs Loses Nothing installs loses nothing = record {
  ok = installs s.ok.0 s.ok.1 true s.ok.2;
  after = λ h. absurd (ok_no_err x AfterCommit h);
  unknown = λ h. absurd (ok_no_err x CommitUnknown h);
  other = tt;
}
outcome (Err e) IsMade w old new s usual Installs Loses Nothing installs loses nothing = record {
  ok = tt;
  after = λ h. let one = s.after h in installs one.0 one.1 one.2 one.3;
  unknown = λ h. let one = s.unknown h in loses one.0 one.1 one.2;
  other = λ no_after known. nothing (looks_same old new (changed no_after known));
}
  where
    changed : (e ≡ AfterCommit → ⊥) → (e ≡ CommitUnknown → ⊥) → (new ≡ old) ⊎ (new ≡ counted old)
    changed no_after known =
        ⊎_elim (⊎_elim (λ (m : e ≡ OutOfMemory). s.memory (ap Err m)) (⊎_elim (λ (m : e ≡ Store). s.store (ap Err m)) (λ (m : e ≡ CommitUnknown). absurd (known m))))
        (⊎_elim (λ (m : e ≡ OutOfNumbers). inl (s.before (inl (ap Err m)))) (⊎_elim (λ (m : e ≡ TooManyRuns). inl (s.before (inr (ap Err m)))) (λ (m : e ≡ AfterCommit). absurd (no_after m)))) usual

any_ok : {T : Type 0} (r : Result T Error) (P : T → Type 0) → ((x : T) → P x) → IfOk r P
any_ok (Ok x) P f = f x
any_ok (Err e) P f = tt

any_err : {T : Type 0} (r : Result T Error) (P : Error → Type 0) → ((e : Error) → P e) → IfErr r P
any_err (Ok x) P f = tt
any_err (Err e) P f = f e

-- ---- choices

module _ (moves : MovesAreSteps) (drops : DropsAreSteps) (choice : Choice) (o : Options) (r : Result Begun Error) (old new : Core) (kept : IsKeptTree old) where
  abbrev w : ℕ
  w = o.mvcc_gc_watermark

  mark_only : LooksSame old new → IsMarkDeed w old new
  mark_only same opened journal notes = (saved_of (journal ++ Mark w ∷ []) notes old, mark_done w 0 old kept opened journal notes, same (journal ++ Mark w ∷ []) notes)

  -- nothing is installed
  still : LooksSame old new → (r ≡ Ok Installed → ⊥) → (IsErrOf r AfterCommit → ⊥) → (IsErrOf r CommitUnknown → ⊥) → ChoiceDeeds choice w r old new
  still same ok after unknown = record {
    told = any_ok r (λ b. (b ≡ Installed → ⊥) → IsMarkDeed w old new) (λ b no. mark_only same);
    refused = any_err r (λ e. (e ≡ AfterCommit → ⊥) → (e ≡ CommitUnknown → ⊥) → IsMarkDeed w old new) (λ e no known. mark_only same);
    done = ⊎_elim (λ (h : r ≡ Ok Installed). absurd (ok h)) (λ (h : IsErrOf r AfterCommit). absurd (after h));
    lost = λ h. absurd (unknown h);
  }

  -- a move or a drop is installed
  installs : (IsMade : SeenVersion → Type 0) (IsUnmade : Error → Type 0) → InstallsChoice IsMade IsUnmade w r old new → ((v : SeenVersion) → IsMade v → (whole : Bool) → IsInstalled v w whole old new → IsChoiceDeed choice w old new) → ((v : SeenVersion) → IsMade v → IsDoubted v old new → IsLostChoice choice w old new) → ChoiceDeeds choice w r old new
  installs IsMade IsUnmade made done lost = record {
    told = told_of r made.ok;
    refused = one.other;
    done = ⊎_elim (λ (h : r ≡ Ok Installed). subst (λ x. OnOk x (IsChoiceDeed choice w old new)) h one.ok) one.after;
    lost = one.unknown;
  }
    where
      one : Outcome r (IsChoiceDeed choice w old new) (IsLostChoice choice w old new) (IsMarkDeed w old new)
      one = outcome r IsMade w old new made.settles made.only (IsChoiceDeed choice w old new) (IsLostChoice choice w old new) (IsMarkDeed w old new) done lost mark_only

      told_of : (x : Result Begun Error) → IfOk x (λ b. b ≡ Installed) → IfOk x (λ b. (b ≡ Installed → ⊥) → IsMarkDeed w old new)
      told_of (Ok b) is = λ no. absurd (no is)
      told_of (Err e) is = tt

  module _ (certain : old.lost ≡ None) where
    move_puts : (input : Input) (v : SeenVersion) (made : IsMovedTo input old.history.latest.version v) → Puts old v (Moved input.dest_level input.table_ids.keys (placed_in input.dest_level made.moves.run)) (Install old.seqno ∷ []) []
    move_puts input v made = record {
      certain = certain;
      named = kept.ids.older;
      own_ids = made.own_ids;
      commits = refl;
      answered = refl;
      silent = λ s. refl;
      quiet = λ s. refl;
      tells = λ journal. refl;
      step = λ opened journal. moves opened old.seqno input.dest_level input.table_ids.keys made.moves.run (state_of journal old) (levels_of old) v.levels refl made.allowed made.moves.moved made.laid;
    }

    drop_puts : (ids : List ℕ) (v : SeenVersion) (made : IsDroppedFrom ids old.history.latest.version v) → Puts old v (DroppedTables ids) (dropped_by ids old ++ Install old.seqno ∷ []) (dropped_by ids old)
    drop_puts ids v made = record {
      certain = certain;
      named = kept.ids.older;
      own_ids = made.own_ids;
      commits = refl;
      answered = refl;
      silent = λ s. refl;
      quiet = λ s. refl;
      tells = λ journal. refl;
      step = λ opened journal. drops opened old.seqno ids (state_of journal old) (levels_of old) v.levels refl made.placed made.laid;
    }

-- each choice that no reason declines
does_deeds : (moves : MovesAreSteps) (drops : DropsAreSteps) (choice : Choice) (o : Options) (r : Result Begun Error) (old new : Core) (kept : IsKeptTree old) → old.lost ≡ None → Does choice o r old new → ChoiceDeeds choice o.mvcc_gc_watermark r old new
does_deeds moves drops DoNothing o r old new kept certain does =
    still moves drops DoNothing o r old new kept (looks_same old new (inl does.1))
    (λ h. other_answer (sym does.0 ∙ h)) (λ h. ok_no_err DidNothing AfterCommit (sym does.0 ∙ h)) (λ h. ok_no_err DidNothing CommitUnknown (sym does.0 ∙ h))
  where
    other_answer : ◌≡◌ {A = Result Begun Error} (Ok DidNothing) (Ok Installed) → ⊥
    other_answer e = cc e
does_deeds moves drops (Move input) o r old new kept certain does =
    installs moves drops (Move input) o r old new kept (IsMovedTo input old.history.latest.version) (IsNotMoved input old.history.latest.version) does
    (λ v made whole is. (made.moves.run, done_marked old v (Moved input.dest_level input.table_ids.keys (placed_in input.dest_level made.moves.run)) (Install old.seqno ∷ []) [] (move_puts moves drops (Move input) o r old new kept certain input v made) kept o.mvcc_gc_watermark whole new is))
    (λ v made is. (made.moves.run, committed (next_in old v) old, lost_marked old v (Moved input.dest_level input.table_ids.keys (placed_in input.dest_level made.moves.run)) (Install old.seqno ∷ []) [] (move_puts moves drops (Move input) o r old new kept certain input v made) kept o.mvcc_gc_watermark new is))
does_deeds moves drops (Merge input) o r old new kept certain does = by_answer r does
  where
    by_answer : (x : Result Begun Error) → OpensMerge input o x old new → ChoiceDeeds (Merge input) o.mvcc_gc_watermark x old new
    by_answer (Ok b) opens = still moves drops (Merge input) o (Ok b) old new kept (λ journal notes. ap (saved_of journal notes) opens.ok) (λ h. not_installed b opens.job h) (ok_no_err b AfterCommit) (ok_no_err b CommitUnknown)
      where
        not_installed : (x : Begun) → x ≡ Job (job_for input o old) → ◌≡◌ {A = Result Begun Error} (Ok x) (Ok Installed) → ⊥
        not_installed x is h = cc (is, h)
    by_answer (Err e) opens = still moves drops (Merge input) o (Err e) old new kept (looks_same old new (inl opens.err)) (λ h. cc h) (λ h. ⊎_elim (λ (m : e ≡ OutOfMemory). cc (m, h)) (λ (m : e ≡ OutOfNumbers). cc (m, h)) opens.only) (λ h. ⊎_elim (λ (m : e ≡ OutOfMemory). cc (m, h)) (λ (m : e ≡ OutOfNumbers). cc (m, h)) opens.only)
does_deeds moves drops (Drop ids) o r old new kept certain does =
    installs moves drops (Drop ids) o r old new kept (IsDroppedFrom ids.keys old.history.latest.version) (IsNotDropped ids.keys old.history.latest.version) does
    (λ v made whole is. done_marked old v (DroppedTables ids.keys) (dropped_by ids.keys old ++ Install old.seqno ∷ []) (dropped_by ids.keys old) (drop_puts moves drops (Drop ids) o r old new kept certain ids.keys v made) kept o.mvcc_gc_watermark whole new is)
    (λ v made is. (committed (next_in old v) old, lost_marked old v (DroppedTables ids.keys) (dropped_by ids.keys old ++ Install old.seqno ∷ []) (dropped_by ids.keys old) (drop_puts moves drops (Drop ids) o r old new kept certain ids.keys v made) kept o.mvcc_gc_watermark new is))

-- a refusal that leaves the tree as it is
refusal_deeds : (moves : MovesAreSteps) (drops : DropsAreSteps) (choice : Choice) (o : Options) (e : Error) (old new : Core) → IsKeptTree old → new ≡ old → (e ≡ AfterCommit → ⊥) → (e ≡ CommitUnknown → ⊥) → ChoiceDeeds choice o.mvcc_gc_watermark (Err e) old new
refusal_deeds moves drops choice o e old new kept same no_after known = still moves drops choice o (Err e) old new kept (looks_same old new (inl same)) (λ h. cc h) (λ h. no_after (err_is e AfterCommit h)) (λ h. known (err_is e CommitUnknown h))

choice_deeds : MovesAreSteps → DropsAreSteps → (choice : Choice) (o : Options) (r : Result Begun Error) (old new : Core) → IsKeptTree old → BeginsChoice choice o r old new → ChoiceDeeds choice o.mvcc_gc_watermark r old new
choice_deeds moves drops choice o r old new kept begins = by_lost old.lost refl
  where
    by_reason : old.lost ≡ None → (why : Option Why) → reason_of choice old ≡ why → ChoiceDeeds choice o.mvcc_gc_watermark r old new
    by_reason certain None is = does_deeds moves drops choice o r old new kept certain (begins.does certain is)
    by_reason certain (Some why) is =
        let told = begins.declines why certain is in
        ⊎_elim (λ (a : r ≡ Ok (Declined why)). still moves drops choice o r old new kept (looks_same old new (inl told.1)) (λ h. declined (sym a ∙ h)) (λ h. ok_no_err (Declined why) AfterCommit (sym a ∙ h)) (λ h. ok_no_err (Declined why) CommitUnknown (sym a ∙ h)))
        (λ (a : r ≡ Err OutOfMemory). subst (λ x. ChoiceDeeds choice o.mvcc_gc_watermark x old new) (sym a) (refusal_deeds moves drops choice o OutOfMemory old new kept told.1 (λ h. cc h) (λ h. cc h))) told.0
      where
        declined : ◌≡◌ {A = Result Begun Error} (Ok (Declined why)) (Ok Installed) → ⊥
        declined e = cc e

    by_answer : (x : Result Begun Error) → new ≡ old → IsErrOf x Unrecoverable → ChoiceDeeds choice o.mvcc_gc_watermark x old new
    by_answer (Ok b) same h = absurd (ok_no_err b Unrecoverable h)
    by_answer (Err e) same h = refusal_deeds moves drops choice o e old new kept same (λ (a : e ≡ AfterCommit). cc (a, h)) (λ (a : e ≡ CommitUnknown). cc (a, h))

    by_lost : (l : Option SeenVersion) → old.lost ≡ l → ChoiceDeeds choice o.mvcc_gc_watermark r old new
    by_lost None certain = by_reason certain (reason_of choice old) refl
    by_lost (Some v) is = let some : IsSome old.lost = subst IsSome (sym is) refl in by_answer r (begins.uncertain some) (begins.unrecoverable.1 some)

-- ---- merges

module _ (law : MergesOfInputsAreSteps) (job : SeenCompaction) (old : Core) (kept : IsKeptTree old) (certain : old.lost ≡ None) (table : ℕ) where
  -- the tree where the merge is closed, and its tables are written
  abbrev mid : Core
  mid = with_next_table table (closed job.number old)

  merge_puts : (v : SeenVersion) (made : IsMergedInto old.next_table job old.history.latest.version v) → Puts mid v (merge_of job made.run) (Install old.seqno ∷ []) []
  merge_puts v made = record {
    certain = certain;
    named = kept.ids.older;
    own_ids = made.own_ids;
    commits = refl;
    answered = refl;
    silent = λ s. refl;
    quiet = λ s. refl;
    tells = λ journal. refl;
    step = λ opened journal. law opened job.settings.watermark old.seqno job.settings.dest_level job.ids (evicts job.settings) (tables_of job.inputs) made.run (state_of journal old) (levels_of old) v.levels refl made.allowed made.covers made.placed made.laid made.same made.holds.keeps;
  }

  done_behind : (v : SeenVersion) (made : IsMergedInto old.next_table job old.history.latest.version v) (whole : Bool) (new : Core) → IsInstalled v job.settings.watermark whole mid new → IsMergeDeed job old new
  done_behind v made whole new is = (made.run, λ opened journal notes order marks. behind mid v (merge_of job made.run) (Install old.seqno ∷ []) [] (merge_puts v made) job.settings.watermark whole new is opened journal notes marks)

  lost_behind : (v : SeenVersion) (made : IsMergedInto old.next_table job old.history.latest.version v) (new : Core) → IsDoubted v mid new → IsLostMerge job old new
  lost_behind v made new is = (
    made.run,
    committed (next_in mid v) mid,
    λ opened journal notes order.
        subst (λ j. Deeds opened (saved_of journal notes old) (Lost (merge_of job made.run) (state_of (journal ++ Install old.seqno ∷ []) (committed (next_in mid v) mid)) ∷ []) (saved_of j notes new)) (append-nil journal)
        (lost_on mid v (merge_of job made.run) (Install old.seqno ∷ []) [] (merge_puts v made) opened journal notes new is),
  )

module _ (law : MergesOfInputsAreSteps) (job : SeenCompaction) (r : Result Finished Error) (old new : Core) (kept : IsKeptTree old) where
  silent_merge : LooksSame old new → (r ≡ Ok Ended → ⊥) → (IsErrOf r AfterCommit → ⊥) → (IsErrOf r CommitUnknown → ⊥) → MergeDeeds job r old new
  silent_merge same ok after unknown = record {
    told = any_ok r (λ b. (b ≡ Ended → ⊥) → IsNoDeed old new) (λ b no opened journal notes. same journal notes);
    refused = any_err r (λ e. (e ≡ AfterCommit → ⊥) → (e ≡ CommitUnknown → ⊥) → IsNoDeed old new) (λ e no known opened journal notes. same journal notes);
    done = ⊎_elim (λ (h : r ≡ Ok Ended). absurd (ok h)) (λ (h : IsErrOf r AfterCommit). absurd (after h));
    lost = λ h. absurd (unknown h);
  }

  installs_merge : old.lost ≡ None → InstallsMerge job r (closed job.number old) new → IfOk r (λ f. f ≡ Ended) → MergeDeeds job r old new
  installs_merge certain made ok = record {
    told = told_of r ok;
    refused = one.other;
    done = ⊎_elim (λ (h : r ≡ Ok Ended). subst (λ x. OnOk x (IsMergeDeed job old new)) h one.ok) one.after;
    lost = one.unknown;
  }
    where
      one : Outcome r (IsMergeDeed job old new) (IsLostMerge job old new) (IsNoDeed old new)
      one = outcome r (IsMergedInto old.next_table job old.history.latest.version) job.settings.watermark (with_next_table made.table (closed job.number old)) new made.settles made.only (IsMergeDeed job old new) (IsLostMerge job old new) (IsNoDeed old new)
          (λ v is whole done. done_behind law job old kept certain made.table v is whole new done) (λ v is lost. lost_behind law job old kept certain made.table v is new lost) (λ same opened journal notes. same journal notes)

      told_of : (x : Result Finished Error) → IfOk x (λ f. f ≡ Ended) → IfOk x (λ f. (f ≡ Ended → ⊥) → IsNoDeed old new)
      told_of (Ok f) is = λ no. absurd (no is)
      told_of (Err e) is = tt

  told_merge : (f : Finished) → r ≡ Ok f → LooksSame old new → (f ≡ Ended → ⊥) → MergeDeeds job r old new
  told_merge f a same other = silent_merge same (λ h. other (answers (sym a ∙ h))) (λ h. ok_no_err f AfterCommit (sym a ∙ h)) (λ h. ok_no_err f CommitUnknown (sym a ∙ h))
    where
      answers : ◌≡◌ {A = Result Finished Error} (Ok f) (Ok Ended) → f ≡ Ended
      answers e = cc e

  refused_merge : (e : Error) → r ≡ Err e → LooksSame old new → (e ≡ AfterCommit → ⊥) → (e ≡ CommitUnknown → ⊥) → MergeDeeds job r old new
  refused_merge e a same no_after known = silent_merge same (λ h. differ (sym a ∙ h)) (λ h. no_after (err_is e AfterCommit (sym a ∙ h))) (λ h. known (err_is e CommitUnknown (sym a ∙ h)))
    where
      differ : ◌≡◌ {A = Result Finished Error} (Err e) (Ok Ended) → ⊥
      differ h = cc h

  not_ended : (why : Why) → ◌≡◌ {A = Finished} (Over why) Ended → ⊥
  not_ended why h = cc h

  ends_deeds : old.lost ≡ None → Ends job r (closed job.number old) new → MergeDeeds job r old new
  ends_deeds certain = ⊎_elim
      (λ (m : (r ≡ Err OutOfMemory) × (new ≡ closed job.number old)). refused_merge OutOfMemory m.0 (λ journal notes. ap (saved_of journal notes) m.1) (λ h. cc h) (λ h. cc h))
      (λ m. by_reason m.0 m.2)
    where
      by_reason : (why : Option Why) → EndsFor job why r (closed job.number old) new → MergeDeeds job r old new
      by_reason None made = installs_merge certain made.0 made.1
      by_reason (Some why) told = told_merge (Over why) told.0 (λ journal notes. ap (saved_of journal notes) told.1) (not_ended why)

  pub merge_deeds : Finishes job r old new → MergeDeeds job r old new
  merge_deeds finishes = by_lost old.lost refl
    where
      spent : Spends job old new → LooksSame old new
      spent spends journal notes = ⊎_elim (λ m. ap (saved_of journal notes) m.1) (λ m. ap (saved_of journal notes) m.1) spends

      by_lost : (l : Option SeenVersion) → old.lost ≡ l → MergeDeeds job r old new
      by_lost None certain = ⊎_elim (λ m. told_merge (Over UnknownJob) m.1.0 (looks_same old new (inl m.1.1)) (not_ended UnknownJob)) (λ m. ends_deeds certain m.1) (finishes.ends certain)
      by_lost (Some v) is = let some : IsSome old.lost = subst IsSome (sym is) refl in by_answer r refl (finishes.unrecoverable.1 some) (finishes.uncertain some)
        where
          by_answer : (x : Result Finished Error) → r ≡ x → IsErrOf x Unrecoverable → Spends job old new → MergeDeeds job r old new
          by_answer (Ok f) a h spends = absurd (ok_no_err f Unrecoverable h)
          by_answer (Err e) a h spends = refused_merge e a (spent spends) (λ (b : e ≡ AfterCommit). cc (b, h)) (λ (b : e ≡ CommitUnknown). cc (b, h))

-- ---- the law

pub compactions_are_deeds : MovesAreSteps → DropsAreSteps → MergesOfInputsAreSteps → CompactionsAreDeeds
compactions_are_deeds moves drops merges = record { choices = choice_deeds moves drops; merges = λ job r old new kept finishes. merge_deeds merges job r old new kept finishes }

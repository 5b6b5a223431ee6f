-- What a compaction leaves of reads.
use Rattle.std.proofs.Common.{◌≡◌, inl, inr, ℕ, ◌≤◌, true, List, [], ◌∷◌, ◌++◌, Some, Result, Ok, Err, refl, sym, ap, ◌∙◌, subst, fold, append_assoc, append-nil}
use Rattle.std.proofs.lemmas.Grind.{fold-append}
use Rattle.lsm_below.specs.Entries.{Entry}
use Rattle.lsm_below.specs.declared.error.Error.{Error}
use Rattle.lsm_model.specs.Journal.{Event, Map, InOrder}
use Rattle.lsm_model.specs.Steps.{State, Action, Marked, Moved, DroppedTables, Maintained, Step, StaysAt, Spares}
use Rattle.lsm_model.specs.Sound.{Holds}
use Rattle.lsm_model.specs.Soundness.{Soundness}
use Rattle.lsm_model.specs.Views.{found_at}
use Rattle.lsm_model.specs.Beginnings.{Done, Lost, is_commit}
use Rattle.lsm_model.specs.declared.journal.JournalEntry.TheVariants.{Mark, Install}
use Rattle.lsm_model.proofs.DeedReads.{found_behind}
use Rattle.lsm_versions.specs.Levels.{placed_in}
use Rattle.lsm_compaction.specs.Merges.{SeenCompaction}
use Rattle.lsm_pick.specs.declared.choice.Choice.{Choice}
use Rattle.lsm_pick.specs.declared.choice.Choice.TheVariants.{DoNothing, Move, Merge, Drop}
use Rattle.lsm_state.specs.declared.compaction.Begun.{Begun}
use Rattle.lsm_state.specs.declared.compaction.Begun.TheVariants.{DidNothing, Declined, Installed, Job}
use Rattle.lsm_state.specs.declared.compaction.Finished.{Finished}
use Rattle.lsm_state.specs.declared.compaction.Finished.TheVariants.{Declined as Over, Installed as Ended}
use Rattle.lsm_state.specs.Core.{Core, state_of}
use Rattle.lsm_state.specs.Deeds.{saved_of, HasOrder, IsNoDeed, IsMarkDeed, AreDone}
use Rattle.lsm_state.specs.CompactionDeeds.{dropped_by, AreLostTelling, IsChoiceDeed, IsLostChoice, ChoiceDeeds, IsMarkedIn, merge_of, IsMergeDeed, IsLostMerge, MergeDeeds}
use Rattle.lsm_state.specs.CompactionReads.{ranges_told, TellsChoice, TellsMerge, SparesReads, IsAny, AreSparedBy, IsAnySnapshot, CompactionsKeepReads}
use Rattle.lsm_state.proofs.Outcomes.{Outcome, IsDone, IsLost, IsNothing, outcome_of}

-- ---- the last of some events

abbrev last : List Event → Event
last es = fold (λ a e. e) (Mark 0) es

last_behind : (es more : List Event) → last (es ++ more) ≡ fold (λ a e. e) (last es) more
last_behind es more = fold-append (λ a e. e) (Mark 0) es more

-- a drop is numbered as the install that is told after it
same_number : (before told : List Event) (d : Event) (n m : ℕ) → before ++ d ∷ (Install n ∷ []) ≡ told ++ Install m ∷ [] → n ≡ m
same_number before told d n m h = number (sym (last_behind before (d ∷ (Install n ∷ []))) ∙ ap last h ∙ last_behind told (Install m ∷ []))
  where
    number : ◌≡◌ {A = Event} (Install n) (Install m) → n ≡ m
    number e = cc e

module _ (theory : Soundness) where
  ordered : (c : Core) (opened : List Entry) (start : Map) (journal : List Event) → Holds opened start (state_of journal c) → HasOrder c
  ordered c opened start journal holds = (theory.right.reads opened start (state_of journal c) holds).ordered.0

  -- a state with another journal shows the same
  same_stays : (s : ℕ) (old new : State) (journal : List Event) → new ≡ record old { journal = journal } → StaysAt s old new
  same_stays s old new journal is = theory.spares.same s old new (ap (λ t. t.mems) is) (ap (λ t. t.latest) is) (ap (λ t. t.older) is)

  module _ (old new : Core) where
    -- ---- nothing, and a mark

    pub nothing : (IsBefore : List Event → Type 0) (IsSpared : ℕ → Type 0) → IsNoDeed old new → SparesReads IsBefore [] IsSpared old new
    nothing IsBefore IsSpared none = record {
      right = λ opened start journal before order holds.
          subst (λ j. Holds opened start (state_of j new)) (sym (append-nil journal)) (subst (Holds opened start) (sym (ap (λ t. t.state) (none opened journal []))) holds);
      stays = λ opened start journal before order holds s spared. same_stays s (state_of [] old) (state_of [] new) [] (ap (λ t. t.state) (none opened [] []));
    }

    mark : (w : ℕ) (IsSpared : ℕ → Type 0) → IsMarkDeed w old new → SparesReads IsAny (Mark w ∷ []) IsSpared old new
    mark w IsSpared deed = record {
      right = λ opened start journal before order holds.
          theory.kept.deeds opened start (saved_of journal [] old) (Done (Marked w) ∷ []) (saved_of (journal ++ Mark w ∷ []) [] new) (deed opened journal []) order holds;
      stays = λ opened start journal before order holds s spared. let d = deed opened [] [] in same_stays s (state_of [] old) (state_of (Mark w ∷ []) new) (Mark w ∷ []) (ap (λ t. t.state) d.2 ∙ d.1.step);
    }

    -- ---- a commit after its mark

    done : (w : ℕ) (action : Action) (events : List Event) (IsSpared : ℕ → Type 0) → is_commit action ≡ true → AreDone w action events [] old new
        → ((s : ℕ) → IsSpared s → (opened : List Entry) (journal : List Event) (mid after : State) → Step opened mid action after → after.journal ≡ journal ++ Mark w ∷ events → Spares action after s)
        → SparesReads IsAny (Mark w ∷ events) IsSpared old new
    done w action events IsSpared commit are spares = record {
      right = λ opened start journal before order holds.
          theory.kept.deeds opened start (saved_of journal [] old) (Done (Marked w) ∷ (Done action ∷ (Done (Maintained w) ∷ []))) (saved_of (journal ++ Mark w ∷ events) [] new)
          (are opened journal [] (ordered old opened start journal holds)) order holds;
      stays = λ opened start journal before order holds s spared.
          theory.spares.commits opened start s w action (saved_of journal [] old) (saved_of (journal ++ Mark w ∷ events) [] new) commit
          (are opened journal [] (ordered old opened start journal holds)) order (spares s spared opened journal) holds;
    }

    lost : (w : ℕ) (action : Action) (told events : List Event) (would : Core) (IsSpared : ℕ → Type 0) → AreLostTelling w action told events old would new → SparesReads IsAny (Mark w ∷ told) IsSpared old new
    lost w action told events would IsSpared are = record {
      right = λ opened start journal before order holds.
          theory.kept.deeds opened start (saved_of journal [] old) (Done (Marked w) ∷ (Lost action (state_of (journal ++ Mark w ∷ events) would) ∷ [])) (saved_of (journal ++ Mark w ∷ told) [] new)
          (are opened journal [] (ordered old opened start journal holds)) order holds;
      stays = λ opened start journal before order holds s spared.
          let d = are opened journal [] (ordered old opened start journal holds) in
          let is = ap (λ t. t.state) d.2.2 in
          theory.spares.same s (state_of journal old) (state_of (journal ++ Mark w ∷ told) new)
          (ap (λ (t : State). t.mems) is ∙ ap (λ (t : State). t.mems) d.2.1.state ∙ ap (λ (t : State). t.mems) d.1.step)
          (ap (λ (t : State). t.latest) is ∙ ap (λ (t : State). t.latest) d.2.1.state ∙ ap (λ (t : State). t.latest) d.1.step)
          (ap (λ (t : State). t.older) is ∙ ap (λ (t : State). t.older) d.2.1.state ∙ ap (λ (t : State). t.older) d.1.step);
    }

  -- ---- choices

  module _ (w : ℕ) (old new : Core) where
    abbrev Goal : List Event → Type 0
    Goal es = SparesReads IsAny es (AreSparedBy es) old new

    choice_done : (choice : Choice) → IsChoiceDeed choice w old new → Goal (Mark w ∷ (ranges_told choice old ++ Install old.seqno ∷ []))
    choice_done DoNothing d = absurd d
    choice_done (Move input) d = done old new w (Moved input.dest_level input.table_ids.keys (placed_in input.dest_level d.0)) (Install old.seqno ∷ []) (AreSparedBy (Mark w ∷ (Install old.seqno ∷ []))) refl d.1 (λ s spared opened journal mid after step is. tt)
    choice_done (Merge input) d = absurd d
    choice_done (Drop ids) d =
        done old new w (DroppedTables ids.keys) (dropped_by ids.keys old ++ Install old.seqno ∷ []) (AreSparedBy (Mark w ∷ (dropped_by ids.keys old ++ Install old.seqno ∷ []))) refl d
        (λ s spared opened journal mid after step is. subst (λ n. s ≤ n) (sym (same_number mid.journal (journal ++ Mark w ∷ dropped_by ids.keys old) _ after.latest.number old.seqno (sym step.commit.journal ∙ is ∙ sym (append_assoc journal (Mark w ∷ dropped_by ids.keys old) (Install old.seqno ∷ []))))) spared.1.0)

    choice_lost : (choice : Choice) → IsLostChoice choice w old new → Goal (Mark w ∷ ranges_told choice old)
    choice_lost DoNothing d = absurd d
    choice_lost (Move input) d = lost old new w (Moved input.dest_level input.table_ids.keys (placed_in input.dest_level d.0)) [] (Install old.seqno ∷ []) d.1 (AreSparedBy (Mark w ∷ [])) d.2
    choice_lost (Merge input) d = absurd d
    choice_lost (Drop ids) d = lost old new w (DroppedTables ids.keys) (dropped_by ids.keys old) (dropped_by ids.keys old ++ Install old.seqno ∷ []) d.0 (AreSparedBy (Mark w ∷ dropped_by ids.keys old)) d.1

    module _ (choice : Choice) (events : List Event) where
      at : (es : List Event) → events ≡ es → Goal es → Goal events
      at es is goal = subst Goal (sym is) goal

      choices : (r : Result Begun Error) → ChoiceDeeds choice w r old new → TellsChoice choice w r old events → Goal events
      choices (Ok Installed) deeds tells = at (Mark w ∷ (ranges_told choice old ++ Install old.seqno ∷ [])) (tells.done (inl refl)) (choice_done choice (deeds.done (inl refl)))
      choices (Ok DidNothing) deeds tells = at (Mark w ∷ []) (tells.told (λ h. cc h)) (mark old new w (AreSparedBy (Mark w ∷ [])) (deeds.told (λ h. cc h)))
      choices (Ok (Declined why)) deeds tells = at (Mark w ∷ []) (tells.told (λ h. cc h)) (mark old new w (AreSparedBy (Mark w ∷ [])) (deeds.told (λ h. cc h)))
      choices (Ok (Job job)) deeds tells = at (Mark w ∷ []) (tells.told (λ h. cc h)) (mark old new w (AreSparedBy (Mark w ∷ [])) (deeds.told (λ h. cc h)))
      choices (Err e) deeds tells = by_outcome (outcome_of e)
        where
          by_outcome : Outcome e → Goal events
          by_outcome (IsDone is) = at (Mark w ∷ (ranges_told choice old ++ Install old.seqno ∷ [])) (tells.done (inr (ap Err is))) (choice_done choice (deeds.done (inr (ap Err is))))
          by_outcome (IsLost is) = at (Mark w ∷ ranges_told choice old) (tells.lost (ap Err is)) (choice_lost choice (deeds.lost (ap Err is)))
          by_outcome (IsNothing after known) = at (Mark w ∷ []) (tells.refused after known) (mark old new w (AreSparedBy (Mark w ∷ [])) (deeds.refused after known))

  -- ---- merges

  module _ (job : SeenCompaction) (old new : Core) where
    abbrev watermark : ℕ
    watermark = job.settings.watermark

    merge_done : IsMergeDeed job old new → SparesReads (IsMarkedIn watermark) (Install old.seqno ∷ []) IsAnySnapshot old new
    merge_done deed = record {
      right = λ opened start journal marks order holds.
          theory.kept.deeds opened start (saved_of journal [] old) (Done (merge_of job deed.0) ∷ (Done (Maintained watermark) ∷ [])) (saved_of (journal ++ Install old.seqno ∷ []) [] new)
          (deed.1 opened journal [] (ordered old opened start journal holds) marks) order holds;
      stays = λ opened start journal marks order holds s spared.
          let d = deed.1 opened journal [] (ordered old opened start journal holds) marks in
          let put : State = d.0.state in
          let clean = d.2.1.step in
          let at = d.2.2 in
          let o3 : InOrder opened d.2.0.state.journal = subst (λ t. InOrder opened t.state.journal) at order in
          let o2 : InOrder opened put.journal = subst (InOrder opened) clean.journal o3 in
          let h2 : Holds opened start put = theory.kept.step opened start (state_of journal old) (merge_of job deed.0) put d.1.step o2 holds in
          subst (λ t. StaysAt s (state_of journal old) t.state) (sym at) (λ sv sv' found found'.
          let f = found_behind s put.latest (state_of journal old).latest (state_of journal old).older sv found in
          let f' : found_at s put.latest put.older ≡ Some (f.0) = ap (found_at s put.latest) d.1.step.commit.older ∙ f.1 in
          theory.spares.step opened start s (state_of journal old) (merge_of job deed.0) put d.1.step o2 tt holds sv f.0 found f'
          ∙ theory.spares.step opened start s put (Maintained watermark) d.2.0.state clean o3 tt h2 f.0 sv' f' found');
    }

    merge_lost : IsLostMerge job old new → SparesReads (IsMarkedIn watermark) [] IsAnySnapshot old new
    merge_lost deed = record {
      right = λ opened start journal marks order holds.
          subst (λ j. Holds opened start (state_of j new)) (sym (append-nil journal))
          (theory.kept.deeds opened start (saved_of journal [] old) (Lost (merge_of job deed.0) (state_of (journal ++ Install old.seqno ∷ []) deed.1) ∷ []) (saved_of journal [] new)
          (deed.2 opened journal [] (ordered old opened start journal holds)) (subst (InOrder opened) (append-nil journal) order) holds);
      stays = λ opened start journal marks order holds s spared.
          let d = deed.2 opened journal [] (ordered old opened start journal holds) in
          same_stays s (state_of journal old) (state_of journal new) (journal ++ []) (ap (λ t. t.state) d.2 ∙ d.1.state);
    }

    module _ (events : List Event) where
      abbrev Ends : List Event → Type 0
      Ends es = SparesReads (IsMarkedIn watermark) es IsAnySnapshot old new

      ends_at : (es : List Event) → events ≡ es → Ends es → Ends events
      ends_at es is goal = subst Ends (sym is) goal

      merges : (r : Result Finished Error) → MergeDeeds job r old new → TellsMerge r old events → Ends events
      merges (Ok Ended) deeds tells = ends_at (Install old.seqno ∷ []) (tells.done (inl refl)) (merge_done (deeds.done (inl refl)))
      merges (Ok (Over why)) deeds tells = ends_at [] (tells.told (λ h. cc h)) (nothing old new (IsMarkedIn watermark) IsAnySnapshot (deeds.told (λ h. cc h)))
      merges (Err e) deeds tells = by_outcome (outcome_of e)
        where
          by_outcome : Outcome e → Ends events
          by_outcome (IsDone is) = ends_at (Install old.seqno ∷ []) (tells.done (inr (ap Err is))) (merge_done (deeds.done (inr (ap Err is))))
          by_outcome (IsLost is) = ends_at [] (tells.lost (ap Err is)) (merge_lost (deeds.lost (ap Err is)))
          by_outcome (IsNothing after known) = ends_at [] (tells.refused after known) (nothing old new (IsMarkedIn watermark) IsAnySnapshot (deeds.refused after known))

  pub compactions_keep_reads : CompactionsKeepReads
  compactions_keep_reads = record {
    choices = λ choice w r old new events deeds tells. choices w old new choice events r deeds tells;
    merges = λ job r old new events deeds tells. merges job old new events r deeds tells;
  }

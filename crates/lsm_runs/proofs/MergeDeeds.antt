-- What the calls of a compaction are to the theory of crashes.
use Rattle.std.proofs.Common.{◌≡◌, ⊎_elim, inl, inr, ℕ, List, [], ◌∷◌, ◌++◌, Option, Result, Ok, Err, refl, sym, ap, ◌∙◌, subst, append-nil, append_assoc}
use Rattle.lsm_below.specs.Entries.{Entry}
use Rattle.lsm_below.specs.declared.error.Error.{Error}
use Rattle.lsm_below.specs.declared.error.Error.TheVariants.{OutOfMemory, CommitUnknown, AfterCommit}
use Rattle.lsm_model.specs.Soundness.{Soundness}
use Rattle.lsm_model.specs.Journal.{Event, Map, InOrder}
use Rattle.lsm_model.specs.Steps.{Action, Marked, Maintained, Moved, DroppedTables}
use Rattle.lsm_model.specs.Beginnings.{Note, Deed, Deeds, Done, Lost}
use Rattle.lsm_model.specs.declared.journal.JournalEntry.TheVariants.{Mark, Install}
use Rattle.lsm_versions.specs.Levels.{placed_in}
use Rattle.lsm_compaction.specs.Merges.{SeenCompaction}
use Rattle.lsm_pick.specs.declared.bounds.OwnedBounds.{OwnedBounds}
use Rattle.lsm_pick.specs.declared.choice.Choice.{Choice}
use Rattle.lsm_pick.specs.declared.choice.Choice.TheVariants.{DoNothing, Move, Merge, Drop}
use Rattle.lsm_pick.specs.declared.choice.ChooseError.{ChooseError}
use Rattle.lsm_state.specs.declared.compaction.Options.{Options}
use Rattle.lsm_state.specs.declared.compaction.Begun.{Begun}
use Rattle.lsm_state.specs.declared.compaction.Begun.TheVariants.{DidNothing, Declined, Installed, Job as BegunJob}
use Rattle.lsm_state.specs.declared.compaction.Finished.{Finished}
use Rattle.lsm_state.specs.declared.compaction.Finished.TheVariants.{Installed as IsFinished, Declined as Over}
use Rattle.lsm_state.specs.Core.{Core, state_of}
use Rattle.lsm_state.specs.Compactions.{Relation, Spends, Finishes}
use Rattle.lsm_state.specs.Deeds.{saved_of, HasOrder, IsNoDeed}
use Rattle.lsm_state.specs.CompactionDeeds.{ChoiceDeeds, IsChoiceDeed, IsLostChoice, IsMarkedIn, dropped_by, merge_of, IsMergeDeed, MergeDeeds, IsLostMerge}
use Rattle.lsm_state.specs.CompactionReads.{ranges_told, TellsChoice, TellsMerge}
use Rattle.lsm_state.specs.WholeCompactions.{Follows, told_end}
use Rattle.lsm_journal.specs.Noted.{BeginsAnswer, TellsBehind, CompactsNoted, CompactsAnswer}
use Rattle.lsm_journal.specs.NotedReads.{NotedCompactionsKeepReads}
use Rattle.lsm_runs.specs.declared.slots.Job.{Job}
use Rattle.lsm_runs.specs.declared.steps.Reply.{Reply}
use Rattle.lsm_runs.specs.declared.steps.Reply.TheVariants.{Number, Done as NothingMore, NoStrategy, NoJob, SlotInUse, Refused}
use Rattle.lsm_runs.specs.Slots.{merge_in}
use Rattle.lsm_runs.specs.Compacting.{Strategies, TakesBeginCompaction, TakesRunCompaction, TakesFinish, TakesAbandonCompaction, CompactsFrom, TakesCompact, TakesMajor, TakesDropRange, TakesTableId}
use Rattle.lsm_runs.proofs.CompactionReplays.{IsMarkedAt}
use Rattle.lsm_runs.proofs.StepDeeds.{HasDeeds, IsRight, still_same, idle, no_deed, mark, mark_deed, order_of, right_behind, then}

-- the end of a merge, by what the whole compaction replies
tells_end : (end : Result Finished Error) (c : Core) (events : List Event) (job : SeenCompaction) → TellsBehind (Ok (BegunJob job)) (told_end end) c events → TellsMerge end c events
tells_end (Ok IsFinished) c events job t = ⊎_elim
    (λ h. record { done = λ _. h.1; lost = λ e. absurd (cc e); told = λ no. absurd (no refl); refused = tt })
    (λ h. absurd (h.0 refl))
    t
tells_end (Ok (Over why)) c events job t = ⊎_elim
    (λ h. absurd (⊎_elim (λ e. cc e) (λ e. cc e) h.0))
    (λ h. record { done = λ d. absurd (⊎_elim (λ e. cc e) (λ e. cc e) d); lost = λ e. h.2; told = λ no. h.2; refused = tt })
    t
tells_end (Err AfterCommit) c events job t = ⊎_elim
    (λ h. record { done = λ d. h.1; lost = λ e. absurd (cc e); told = tt; refused = λ after known. absurd (after refl) })
    (λ h. absurd (h.1 refl))
    t
tells_end (Err e) c events job t = ⊎_elim
    (λ h. absurd (⊎_elim (λ x. cc x) (λ x. cc x) h.0))
    (λ h. record { done = λ d. absurd (⊎_elim (λ x. cc x) (λ x. cc x) d); lost = λ e. h.2; told = tt; refused = λ after known. h.2 })
    t

-- ---- one call

module _ (theory : Soundness) (opened : List Entry) (start : Map) (journal : List Event) (notes : List Note) (old new : Core) (right : IsRight opened start journal old) where
  abbrev Goal : List Event → Type 0
  Goal events = HasDeeds opened journal notes events [] old new

  ordered : HasOrder old
  ordered = order_of theory opened start journal old right.holds

  -- the deeds of a commit that is answered, and of one of unknown outcome
  abbrev done_of : ℕ → Action → List Deed
  done_of w action = Done (Marked w) ∷ (Done action ∷ (Done (Maintained w) ∷ []))

  abbrev lost_of : ℕ → Action → List Event → Core → List Deed
  lost_of w action events would = Done (Marked w) ∷ (Lost action (state_of (journal ++ Mark w ∷ events) would) ∷ [])

  -- ---- choices

  choice_done : (choice : Choice) (w : ℕ) → IsChoiceDeed choice w old new → Goal (Mark w ∷ (ranges_told choice old ++ Install old.seqno ∷ []))
  choice_done DoNothing w d = absurd d
  choice_done (Move input) w d = (done_of w (Moved input.dest_level input.table_ids.keys (placed_in input.dest_level d.0)), d.1 opened journal notes ordered)
  choice_done (Merge input) w d = absurd d
  choice_done (Drop ids) w d = (done_of w (DroppedTables ids.keys), d opened journal notes ordered)

  choice_lost : (choice : Choice) (w : ℕ) → IsLostChoice choice w old new → Goal (Mark w ∷ ranges_told choice old)
  choice_lost DoNothing w d = absurd d
  choice_lost (Move input) w d = (lost_of w (Moved input.dest_level input.table_ids.keys (placed_in input.dest_level d.0)) (Install old.seqno ∷ []) d.1, d.2 opened journal notes ordered)
  choice_lost (Merge input) w d = absurd d
  choice_lost (Drop ids) w d = (lost_of w (DroppedTables ids.keys) (dropped_by ids.keys old ++ Install old.seqno ∷ []) d.0, d.1 opened journal notes ordered)

  at : (events told : List Event) → events ≡ told → Goal told → Goal events
  at events told is goal = subst Goal (sym is) goal

  module _ (choice : Choice) (w : ℕ) (events : List Event) where
    choice_deeds : (r : Result Begun Error) → ChoiceDeeds choice w r old new → TellsChoice choice w r old events → Goal events
    choice_deeds (Ok Installed) d t = at events _ (t.done (inl refl)) (choice_done choice w (d.done (inl refl)))
    choice_deeds (Ok DidNothing) d t = mark_deed opened journal notes old new w events (t.told (λ h. cc h)) (d.told (λ h. cc h))
    choice_deeds (Ok (Declined why)) d t = mark_deed opened journal notes old new w events (t.told (λ h. cc h)) (d.told (λ h. cc h))
    choice_deeds (Ok (BegunJob job)) d t = mark_deed opened journal notes old new w events (t.told (λ h. cc h)) (d.told (λ h. cc h))
    choice_deeds (Err AfterCommit) d t = at events _ (t.done (inr refl)) (choice_done choice w (d.done (inr refl)))
    choice_deeds (Err CommitUnknown) d t = at events _ (t.lost refl) (choice_lost choice w (d.lost refl))
    choice_deeds (Err e) d t = mark_deed opened journal notes old new w events (t.refused (λ h. cc h) (λ h. cc h)) (d.refused (λ h. cc h) (λ h. cc h))

  answer_deeds : (answer : Result Choice Error) (o : Options) (r : Result Begun Error) (events : List Event) → BeginsAnswer answer o r events old new → Goal events
  answer_deeds (Ok choice) o r events b = choice_deeds choice o.mvcc_gc_watermark events r b.1 b.2
  answer_deeds (Err e) o r events b = mark opened journal notes old new o.mvcc_gc_watermark events b.1 (still_same old new b.2) right.distinct

  -- ---- merges

  merge_done : (job : SeenCompaction) → IsMergeDeed job old new → IsMarkedIn job.settings.watermark journal → Goal (Install old.seqno ∷ [])
  merge_done job d marked = (Done (merge_of job d.0) ∷ (Done (Maintained job.settings.watermark) ∷ []), d.1 opened journal notes ordered marked)

  merge_lost : (job : SeenCompaction) → IsLostMerge job old new → Goal []
  merge_lost job d =
      let ds = Lost (merge_of job d.0) (state_of (journal ++ Install old.seqno ∷ []) d.1) ∷ [] in
      (ds, subst (λ j. Deeds opened (saved_of journal notes old) ds (saved_of j notes new)) (sym (append-nil journal)) (d.2 opened journal notes ordered))

  merge_deeds : (job : SeenCompaction) (r : Result Finished Error) (events : List Event) → IsMarkedIn job.settings.watermark journal → MergeDeeds job r old new → TellsMerge r old events → Goal events
  merge_deeds job (Ok IsFinished) events marked d t = at events (Install old.seqno ∷ []) (t.done (inl refl)) (merge_done job (d.done (inl refl)) marked)
  merge_deeds job (Ok (Over why)) events marked d t = no_deed opened journal notes old new events (t.told (λ h. cc h)) (d.told (λ h. cc h))
  merge_deeds job (Err AfterCommit) events marked d t = at events (Install old.seqno ∷ []) (t.done (inr refl)) (merge_done job (d.done (inr refl)) marked)
  merge_deeds job (Err CommitUnknown) events marked d t = at events [] (t.lost refl) (merge_lost job (d.lost refl))
  merge_deeds job (Err e) events marked d t = no_deed opened journal notes old new events (t.refused (λ h. cc h) (λ h. cc h)) (d.refused (λ h. cc h) (λ h. cc h))

  -- ---- calls on a job

  pub begin_compaction_deeds : (strategies : Strategies) (at : ℕ) (o : Options) (reply : Reply) (events : List Event) (was is : Option Job) → TakesBeginCompaction strategies at o reply events was is old new → Goal events
  begin_compaction_deeds strategies at o SlotInUse events was is t = idle opened journal notes old new events t.0.0 t.0.2
  begin_compaction_deeds strategies at o NoStrategy events was is t = idle opened journal notes old new events t.0.0 t.0.2
  begin_compaction_deeds strategies at o reply events was is t = answer_deeds t.answer o t.begun events t.begins

  pub run_compaction_deeds : (reply : Reply) (events : List Event) (was is : Option Job) → TakesRunCompaction reply events was is old new → Goal events
  run_compaction_deeds NothingMore events was is t = idle opened journal notes old new events t.0 t.1
  run_compaction_deeds (Refused x) events was is t = idle opened journal notes old new events t.0.0 t.0.2
  run_compaction_deeds NoJob events was is t = idle opened journal notes old new events t.0.0 t.0.2
  run_compaction_deeds reply events was is t = absurd t

  pub finish_deeds : (reply : Reply) (events : List Event) (was is : Option Job) → IsMarkedAt journal was → TakesFinish reply events was is old new → Goal events
  finish_deeds NoJob events was is m t = idle opened journal notes old new events t.0.0 t.0.2
  finish_deeds reply events was is m t = merge_deeds t.job.job t.end events (m t.job.job (ap merge_in t.waited)) t.ends.1 t.ends.2

  pub abandon_compaction_deeds : (reply : Reply) (events : List Event) (was is : Option Job) → TakesAbandonCompaction reply events was is old new → Goal events
  abandon_compaction_deeds NothingMore events was is t = no_deed opened journal notes old new events t.0 t.2
  abandon_compaction_deeds NoJob events was is t = idle opened journal notes old new events t.0.0 t.0.2
  abandon_compaction_deeds reply events was is t = absurd t

  pub table_id_deeds : (reply : Reply) (events : List Event) → TakesTableId reply events old new → Goal events
  table_id_deeds (Number n) events t = no_deed opened journal notes old new events t.0 t.4
  table_id_deeds (Refused x) events t = idle opened journal notes old new events t.0 t.1
  table_id_deeds reply events t = absurd t

-- ---- in one call

module _ (theory : Soundness) (laws : NotedCompactionsKeepReads) (opened : List Entry) (start : Map) (journal : List Event) (notes : List Note) (old new : Core) (right : IsRight opened start journal old) where
  module _ (choice : Choice) (o : Options) (r : Result Begun Error) (events : List Event) (n : CompactsNoted choice o r events old new) (order : InOrder opened (journal ++ events)) where
    abbrev w : ℕ
    w = o.mvcc_gc_watermark

    abbrev mid : Core
    mid = n.compacts.mid

    first : HasDeeds opened journal notes n.front [] old mid
    first = choice_deeds theory opened start journal notes old mid right choice w n.front n.compacts.begun n.compacts.deeds n.begins

    -- nothing follows
    alone : new ≡ mid → n.behind ≡ [] → HasDeeds opened journal notes events [] old new
    alone same none =
        let is : events ≡ n.front = n.told ∙ ap (λ es. n.front ++ es) none ∙ append-nil n.front in
        subst (λ c. HasDeeds opened journal notes events [] old c) (sym same) (subst (λ es. HasDeeds opened journal notes es [] old mid) (sym is) first)

    module _ (job : SeenCompaction) (is : n.compacts.begun ≡ Ok (BegunJob job)) where
      begins : BeginsAnswer (Ok choice) o (Ok (BegunJob job)) n.front old mid
      begins = subst (λ b. BeginsAnswer (Ok choice) o b n.front old mid) is (n.compacts.begins, n.compacts.deeds, n.begins)

      marks : (job.settings.watermark ≡ w) × (n.front ≡ Mark w ∷ [])
      marks = laws.marks (Ok choice) o job n.front old mid begins

      behind_tells : TellsBehind (Ok (BegunJob job)) r mid n.behind
      behind_tells = subst (λ b. TellsBehind b r mid n.behind) is n.follows

      joined : journal ++ events ≡ (journal ++ n.front) ++ n.behind
      joined = ap (λ es. journal ++ es) n.told ∙ sym (append_assoc journal n.front n.behind)

      there : IsRight opened start (journal ++ n.front) mid
      there = right_behind theory opened start journal notes n.front [] old mid first (theory.kept.front opened (journal ++ n.front) n.behind (subst (InOrder opened) joined order)) right

      is_marked : IsMarkedIn job.settings.watermark (journal ++ n.front)
      is_marked = rw (marks.0, marks.1) (laws.marked w journal [])

      given_up : r ≡ Err OutOfMemory → IsNoDeed mid new → HasDeeds opened (journal ++ n.front) notes n.behind [] mid new
      given_up e deed =
          let none : n.behind ≡ [] = ⊎_elim (λ h. absurd (⊎_elim (λ x. cc (sym e ∙ x)) (λ x. cc (sym e ∙ x)) h.0)) (λ h. h.2) behind_tells in
          no_deed opened (journal ++ n.front) notes mid new n.behind none deed

      second : HasDeeds opened (journal ++ n.front) notes n.behind [] mid new
      second = ⊎_elim
          (λ (given : (r ≡ Err OutOfMemory) × Spends job mid new × IsNoDeed mid new). given_up given.0 given.2)
          (λ (d : (end : Result Finished Error) × Finishes job end mid new × MergeDeeds job end mid new × (r ≡ told_end end)).
          merge_deeds theory opened start (journal ++ n.front) notes mid new there job d.0 n.behind is_marked d.2 (tells_end d.0 mid n.behind job (subst (λ x. TellsBehind (Ok (BegunJob job)) x mid n.behind) d.3 behind_tells)))
          (subst (λ b. Follows b r mid new) is n.compacts.follows)

      merged : HasDeeds opened journal notes events [] old new
      merged = subst (λ es. HasDeeds opened journal notes es [] old new) (sym n.told) (then opened journal notes n.front n.behind [] [] old mid new first second)

    by_begun : (begun : Result Begun Error) → n.compacts.begun ≡ begun → HasDeeds opened journal notes events [] old new
    by_begun (Ok (BegunJob job)) is = merged job is
    by_begun (Ok DidNothing) is = alone (subst (λ b. Follows b r mid new) is n.compacts.follows).1 (subst (λ b. TellsBehind b r mid n.behind) is n.follows)
    by_begun (Ok (Declined why)) is = alone (subst (λ b. Follows b r mid new) is n.compacts.follows).1 (subst (λ b. TellsBehind b r mid n.behind) is n.follows)
    by_begun (Ok Installed) is = alone (subst (λ b. Follows b r mid new) is n.compacts.follows).1 (subst (λ b. TellsBehind b r mid n.behind) is n.follows)
    by_begun (Err e) is = alone (subst (λ b. Follows b r mid new) is n.compacts.follows).1 (subst (λ b. TellsBehind b r mid n.behind) is n.follows)

  -- a strategy's answer is done
  answers : (answer : Result Choice Error) (o : Options) (r : Result Begun Error) (events : List Event) → InOrder opened (journal ++ events) → CompactsAnswer answer o r events old new → HasDeeds opened journal notes events [] old new
  answers (Ok choice) o r events order n = by_begun choice o r events n order n.compacts.begun refl
  answers (Err e) o r events order b = answer_deeds theory opened start journal notes old new right (Err e) o r events b

  compacts : (may_choose : Relation Choice) (may_refuse : Relation ChooseError) (o : Options) (reply : Reply) (events : List Event) → InOrder opened (journal ++ events) → CompactsFrom may_choose may_refuse o reply events old new → HasDeeds opened journal notes events [] old new
  compacts may_choose may_refuse o reply events order t = answers t.answer o t.does.done events order t.does.compacts

  pub compact_deeds : (strategies : Strategies) (at : ℕ) (o : Options) (reply : Reply) (events : List Event) → InOrder opened (journal ++ events) → TakesCompact strategies at o reply events old new → HasDeeds opened journal notes events [] old new
  compact_deeds strategies at o NoStrategy events order t = idle opened journal notes old new events t.0 t.1
  compact_deeds strategies at o reply events order t = compacts _ _ o reply events order t.1

  pub major_deeds : (target w : ℕ) (reply : Reply) (events : List Event) → InOrder opened (journal ++ events) → TakesMajor target w reply events old new → HasDeeds opened journal notes events [] old new
  major_deeds target w reply events order t = compacts _ _ _ reply events order t

  pub drop_deeds : (bounds : OwnedBounds) (reply : Reply) (events : List Event) → InOrder opened (journal ++ events) → TakesDropRange bounds reply events old new → HasDeeds opened journal notes events [] old new
  drop_deeds bounds reply events order (inl t) = idle opened journal notes old new events t.3 t.4
  drop_deeds bounds reply events order (inr t) = compacts _ _ _ reply events order t.1

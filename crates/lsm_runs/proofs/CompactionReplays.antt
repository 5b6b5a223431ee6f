-- From the compactions of a run to the replay of its journal, and to what they leave.
use Rattle.std.proofs.Common.{◌≡◌, inl, inr, ℕ, List, [], ◌∷◌, ◌++◌, Option, Some, None, Result, Ok, Err, refl, sym, ap, ◌∙◌, subst}
use Rattle.lsm_below.specs.declared.error.Error.{Error}
use Rattle.lsm_below.specs.declared.error.Error.TheVariants.{CommitUnknown, AfterCommit}
use Rattle.lsm_model.specs.Journal.{Event}
use Rattle.lsm_model.specs.declared.journal.JournalEntry.TheVariants.{Mark, Install}
use Rattle.lsm_compaction.specs.Merges.{SeenCompaction}
use Rattle.lsm_pick.specs.declared.bounds.OwnedBounds.{OwnedBounds}
use Rattle.lsm_pick.specs.declared.choice.Choice.{Choice}
use Rattle.lsm_pick.specs.declared.choice.Choice.TheVariants.{DoNothing, Move, Merge, Drop}
use Rattle.lsm_pick.specs.declared.choice.ChooseError.{ChooseError}
use Rattle.lsm_state.specs.declared.compaction.Options.{Options}
use Rattle.lsm_state.specs.declared.compaction.Begun.{Begun}
use Rattle.lsm_state.specs.declared.compaction.Begun.TheVariants.{DidNothing, Declined, Installed, Job as BegunJob}
use Rattle.lsm_state.specs.declared.compaction.Finished.{Finished}
use Rattle.lsm_state.specs.declared.compaction.Finished.TheVariants.{Installed as IsFinished, Declined as Over}
use Rattle.lsm_state.specs.Core.{Core}
use Rattle.lsm_state.specs.Compactions.{Relation}
use Rattle.lsm_state.specs.Deeds.{IsNoDeed}
use Rattle.lsm_state.specs.CompactionDeeds.{IsMarkedIn}
use Rattle.lsm_state.specs.CompactionReads.{ranges_told, TellsChoice, TellsMerge}
use Rattle.lsm_journal.specs.Noted.{BeginsAnswer, TellsBehind, CompactsAnswer}
use Rattle.lsm_journal.specs.NotedReads.{NotedCompactionsKeepReads}
use Rattle.lsm_runs.specs.declared.slots.Job.{Job}
use Rattle.lsm_runs.specs.declared.steps.Reply.{Reply}
use Rattle.lsm_runs.specs.declared.steps.Reply.TheVariants.{Number, Done, NoStrategy, NoJob, SlotInUse, Refused}
use Rattle.lsm_runs.specs.Slots.{merge_in}
use Rattle.lsm_runs.specs.Compacting.{Strategies, job_of, BeginsFrom, TakesBeginCompaction, TakesRunCompaction, EndsFrom, TakesFinish, TakesAbandonCompaction, CompactsFrom, TakesCompact, TakesMajor, TakesDropRange, TakesTableId}
use Rattle.lsm_runs.specs.Runs.{without_low_reads}
use Rattle.lsm_run_model.proofs.LowReads.{without-append}
use Rattle.lsm_runs.proofs.Keeping.{AreNoReads, KeepsAfter, keeps_any, keeps_marked}
use Rattle.lsm_runs.proofs.OpenMerges.{one_merge, no_merge}

-- ---- the events of compactions

mark_unread : (w : ℕ) → AreNoReads (Mark w ∷ [])
mark_unread w opened = refl

whole_unread : (choice : Choice) (w n : ℕ) (c : Core) → AreNoReads (Mark w ∷ (ranges_told choice c ++ Install n ∷ []))
whole_unread DoNothing w n c opened = refl
whole_unread (Move input) w n c opened = refl
whole_unread (Merge input) w n c opened = refl
whole_unread (Drop ids) w n c opened = refl

lost_unread : (choice : Choice) (w : ℕ) (c : Core) → AreNoReads (Mark w ∷ ranges_told choice c)
lost_unread DoNothing w c opened = refl
lost_unread (Move input) w c opened = refl
lost_unread (Merge input) w c opened = refl
lost_unread (Drop ids) w c opened = refl

at : (events told : List Event) → events ≡ told → AreNoReads told → AreNoReads events
at events told is none = subst AreNoReads (sym is) none

choice_unread : (choice : Choice) (w : ℕ) (r : Result Begun Error) (c : Core) (events : List Event) → TellsChoice choice w r c events → AreNoReads events
choice_unread choice w (Ok Installed) c events t = at events _ (t.done (inl refl)) (whole_unread choice w c.seqno c)
choice_unread choice w (Ok DidNothing) c events t = at events _ (t.told (λ h. cc h)) (mark_unread w)
choice_unread choice w (Ok (Declined why)) c events t = at events _ (t.told (λ h. cc h)) (mark_unread w)
choice_unread choice w (Ok (BegunJob job)) c events t = at events _ (t.told (λ h. cc h)) (mark_unread w)
choice_unread choice w (Err AfterCommit) c events t = at events _ (t.done (inr refl)) (whole_unread choice w c.seqno c)
choice_unread choice w (Err CommitUnknown) c events t = at events _ (t.lost refl) (lost_unread choice w c)
choice_unread choice w (Err e) c events t = at events _ (t.refused (λ h. cc h) (λ h. cc h)) (mark_unread w)

merge_unread : (r : Result Finished Error) (c : Core) (events : List Event) → TellsMerge r c events → AreNoReads events
merge_unread (Ok IsFinished) c events t = at events (Install c.seqno ∷ []) (t.done (inl refl)) (λ opened. refl)
merge_unread (Ok (Over why)) c events t = at events [] (t.told (λ h. cc h)) (λ opened. refl)
merge_unread (Err AfterCommit) c events t = at events (Install c.seqno ∷ []) (t.done (inr refl)) (λ opened. refl)
merge_unread (Err CommitUnknown) c events t = at events [] (t.lost refl) (λ opened. refl)
merge_unread (Err e) c events t = at events [] (t.refused (λ h. cc h) (λ h. cc h)) (λ opened. refl)

behind_unread : (begun r : Result Begun Error) (c : Core) (events : List Event) → TellsBehind begun r c events → AreNoReads events
behind_unread (Ok (BegunJob job)) r c events (inl t) = at events (Install c.seqno ∷ []) t.1 (λ opened. refl)
behind_unread (Ok (BegunJob job)) r c events (inr t) = at events [] t.2 (λ opened. refl)
behind_unread (Ok DidNothing) r c events t = at events [] t (λ opened. refl)
behind_unread (Ok (Declined why)) r c events t = at events [] t (λ opened. refl)
behind_unread (Ok Installed) r c events t = at events [] t (λ opened. refl)
behind_unread (Err e) r c events t = at events [] t (λ opened. refl)

both_unread : (xs ys : List Event) → AreNoReads xs → AreNoReads ys → AreNoReads (xs ++ ys)
both_unread xs ys none more opened = without-append opened xs ys ∙ ap (λ zs. zs ++ without_low_reads opened ys) (none opened) ∙ ap (λ zs. xs ++ zs) (more opened)

begun_unread : (answer : Result Choice Error) (o : Options) (r : Result Begun Error) (events : List Event) (old new : Core) → BeginsAnswer answer o r events old new → AreNoReads events
begun_unread (Ok choice) o r events old new b = choice_unread choice o.mvcc_gc_watermark r old events b.2
begun_unread (Err e) o r events old new b = at events _ b.1 (mark_unread o.mvcc_gc_watermark)

compacted_unread : (answer : Result Choice Error) (o : Options) (r : Result Begun Error) (events : List Event) (old new : Core) → CompactsAnswer answer o r events old new → AreNoReads events
compacted_unread (Ok choice) o r events old new c =
    at events (c.front ++ c.behind) c.told (both_unread c.front c.behind (choice_unread choice o.mvcc_gc_watermark c.compacts.begun old c.front c.begins) (behind_unread c.compacts.begun r c.compacts.mid c.behind c.follows))
compacted_unread (Err e) o r events old new b = at events _ b.1 (mark_unread o.mvcc_gc_watermark)

-- ---- marks

-- the watermark of a merge whose job waits in a place is marked
abbrev pub IsMarkedAt : List Event → Option Job → Type 0
IsMarkedAt journal place = (job : SeenCompaction) → merge_in place ≡ Some job → IsMarkedIn job.settings.watermark journal

-- none waits there
pub free_marked : (journal : List Event) (is : Option Job) → merge_in is ≡ None → IsMarkedAt journal is
free_marked journal is none job waits = absurd (no_merge (merge_in is) job none waits)

module _ (laws : NotedCompactionsKeepReads) where
  -- that of the same merge stays marked
  pub stays_marked : (journal events : List Event) (was is : Option Job) → merge_in is ≡ merge_in was → IsMarkedAt journal was → IsMarkedAt (journal ++ events) is
  stays_marked journal events was is same m job waits = laws.lasts job.settings.watermark journal events (m job (sym same ∙ waits))

  job_marked : (journal events : List Event) (answer : Result Choice Error) (o : Options) (job : SeenCompaction) (old new : Core) → BeginsAnswer answer o (Ok (BegunJob job)) events old new → IsMarkedIn job.settings.watermark (journal ++ events)
  job_marked journal events answer o job old new b =
      let m = laws.marks answer o job events old new b in
      subst (λ es. IsMarkedIn job.settings.watermark (journal ++ es)) (sym m.1) (subst (λ w. IsMarkedIn w (journal ++ Mark o.mvcc_gc_watermark ∷ [])) (sym m.0) (laws.marked o.mvcc_gc_watermark journal []))

  -- that of a merge that is begun is marked
  pub begun_marked : (journal events : List Event) (answer : Result Choice Error) (o : Options) (r : Result Begun Error) (is : Option Job) (old new : Core) → BeginsAnswer answer o r events old new → is ≡ job_of r → IsMarkedAt (journal ++ events) is
  begun_marked journal events answer o (Ok (BegunJob job)) is old new b waits other there =
      subst (λ (j : SeenCompaction). IsMarkedIn j.settings.watermark (journal ++ events)) (one_merge (merge_in is) job other (ap merge_in waits) there) (job_marked journal events answer o job old new b)
  begun_marked journal events answer o (Ok DidNothing) is old new b waits other there = free_marked (journal ++ events) is (ap merge_in waits) other there
  begun_marked journal events answer o (Ok (Declined why)) is old new b waits other there = free_marked (journal ++ events) is (ap merge_in waits) other there
  begun_marked journal events answer o (Ok Installed) is old new b waits other there = free_marked (journal ++ events) is (ap merge_in waits) other there
  begun_marked journal events answer o (Err e) is old new b waits other there = free_marked (journal ++ events) is (ap merge_in waits) other there

  -- ---- calls on a job

  silent_after : (journal events : List Event) (old new : Core) → events ≡ [] → IsNoDeed old new → KeepsAfter journal events old new
  silent_after journal events old new none d =
      let k = laws.silent old new d in
      subst (λ es. KeepsAfter journal es old new) (sym none) (keeps_any journal [] old new (λ opened. refl) (record {
        right = k.right;
        stays = λ opened start before any order h s spared. k.stays opened start before any order h s tt;
      }))

  module _ (idle : (journal events : List Event) (old new : Core) → events ≡ [] → new ≡ old → KeepsAfter journal events old new) where
    begins_after : (strategies : Strategies) (at : ℕ) (o : Options) (reply : Reply) (journal events : List Event) (was is : Option Job) (old new : Core) → BeginsFrom strategies at o reply events was is old new → KeepsAfter journal events old new
    begins_after strategies at o reply journal events was is old new t =
        keeps_any journal events old new (begun_unread t.answer o t.begun events old new t.begins) (laws.begins t.answer o t.begun events old new t.begins)

    pub begin_after : (strategies : Strategies) (at : ℕ) (o : Options) (reply : Reply) (journal events : List Event) (was is : Option Job) (old new : Core) → TakesBeginCompaction strategies at o reply events was is old new → KeepsAfter journal events old new
    begin_after strategies at o SlotInUse journal events was is old new t = idle journal events old new t.0.0 t.0.2
    begin_after strategies at o NoStrategy journal events was is old new t = idle journal events old new t.0.0 t.0.2
    begin_after strategies at o reply journal events was is old new t = begins_after strategies at o reply journal events was is old new t

    pub run_after : (reply : Reply) (journal events : List Event) (was is : Option Job) (old new : Core) → TakesRunCompaction reply events was is old new → KeepsAfter journal events old new
    run_after Done journal events was is old new t = idle journal events old new t.0 t.1
    run_after (Refused x) journal events was is old new t = idle journal events old new t.0.0 t.0.2
    run_after NoJob journal events was is old new t = idle journal events old new t.0.0 t.0.2
    run_after reply journal events was is old new t = absurd t

    ends_after : (reply : Reply) (journal events : List Event) (was is : Option Job) (old new : Core) → IsMarkedAt journal was → EndsFrom reply events was is old new → KeepsAfter journal events old new
    ends_after reply journal events was is old new m t =
        keeps_marked t.job.job journal events old new (merge_unread t.end old events t.ends.2) (m t.job.job (ap merge_in t.waited)) (laws.ends t.job.job t.end events old new t.ends)

    pub finish_after : (reply : Reply) (journal events : List Event) (was is : Option Job) (old new : Core) → IsMarkedAt journal was → TakesFinish reply events was is old new → KeepsAfter journal events old new
    finish_after NoJob journal events was is old new m t = idle journal events old new t.0.0 t.0.2
    finish_after reply journal events was is old new m t = ends_after reply journal events was is old new m t

    pub abandon_after : (reply : Reply) (journal events : List Event) (was is : Option Job) (old new : Core) → TakesAbandonCompaction reply events was is old new → KeepsAfter journal events old new
    abandon_after Done journal events was is old new t = silent_after journal events old new t.0 t.2
    abandon_after NoJob journal events was is old new t = idle journal events old new t.0.0 t.0.2
    abandon_after reply journal events was is old new t = absurd t

    -- ---- in one call

    compacts_after : (may_choose : Relation Choice) (may_refuse : Relation ChooseError) (o : Options) (reply : Reply) (journal events : List Event) (old new : Core) → CompactsFrom may_choose may_refuse o reply events old new → KeepsAfter journal events old new
    compacts_after may_choose may_refuse o reply journal events old new t =
        keeps_any journal events old new (compacted_unread t.answer o t.does.done events old new t.does.compacts) (laws.compacts t.answer o t.does.done events old new t.does.compacts)

    pub compact_after : (strategies : Strategies) (at : ℕ) (o : Options) (reply : Reply) (journal events : List Event) (old new : Core) → TakesCompact strategies at o reply events old new → KeepsAfter journal events old new
    compact_after strategies at o NoStrategy journal events old new t = idle journal events old new t.0 t.1
    compact_after strategies at o reply journal events old new t = compacts_after _ _ o reply journal events old new t.1

    pub major_after : (target w : ℕ) (reply : Reply) (journal events : List Event) (old new : Core) → TakesMajor target w reply events old new → KeepsAfter journal events old new
    major_after target w reply journal events old new t = compacts_after _ _ _ reply journal events old new t

    pub drop_after : (bounds : OwnedBounds) (reply : Reply) (journal events : List Event) (old new : Core) → TakesDropRange bounds reply events old new → KeepsAfter journal events old new
    drop_after bounds reply journal events old new (inl t) = idle journal events old new t.3 t.4
    drop_after bounds reply journal events old new (inr t) = compacts_after _ _ _ reply journal events old new t.1

    pub table_id_after : (reply : Reply) (journal events : List Event) (old new : Core) → TakesTableId reply events old new → KeepsAfter journal events old new
    table_id_after (Number n) journal events old new t = silent_after journal events old new t.0 t.4
    table_id_after (Refused x) journal events old new t = idle journal events old new t.0 t.1
    table_id_after reply journal events old new t = absurd t

-- What calls keep of a tree with its journal that tell what they do, those of a compaction among them.
use Rattle.std.proofs.Common.{◌≡◌, ℕ, ◌++◌, List, [], Result, fold, refl, sym, subst, append-nil}
use Rattle.std.specs.BTreeMap.{BTreeMap}
use Rattle.lsm_below.specs.Keys.{Bytes}
use Rattle.lsm_below.specs.declared.error.Error.{Error}
use Rattle.lsm_model.specs.Soundness.{Soundness}
use Rattle.lsm_model.specs.Journal.{Event, floor_after}
use Rattle.lsm_model.specs.Steps.{StaysAt}
use Rattle.lsm_model.specs.Views.{Placed}
use Rattle.lsm_compaction.specs.Merges.{SeenCompaction}
use Rattle.lsm_pick.specs.declared.choice.Choice.{Choice}
use Rattle.lsm_state.specs.declared.compaction.Options.{Options}
use Rattle.lsm_state.specs.declared.compaction.Begun.{Begun}
use Rattle.lsm_state.specs.declared.compaction.Finished.{Finished}
use Rattle.lsm_state.specs.Core.{Core, state_of}
use Rattle.lsm_state.specs.Deeds.{IsNoDeed}
use Rattle.lsm_state.specs.Compactions.{Spends}
use Rattle.lsm_state.specs.CompactionReads.{SparesReads, IsAny, IsAnySnapshot, AreSparedBy}
use Rattle.lsm_journal.specs.Noted.{BeginsAnswer, EndsNoted, CompactsAnswer}
use Rattle.lsm_journal.specs.NotedReads.{IsMarkedFor, NotedCompactionsKeepReads}
use Rattle.lsm_recorded.specs.declared.marks.Mark.{Mark}
use Rattle.lsm_recorded.specs.Recorded.{IsRecorded, Stays, StaysBehind}
use Rattle.lsm_recorded.proofs.Watermarks.{open_marked}
use Rattle.lsm_recorded.proofs.Telling.{told_floor, told_recorded, stays_told}
use Rattle.lsm_recorded.proofs.GoingOn.{GoesOn, begins_go, ends_go, spends_go, compacts_go}

module _ (opened : List Placed) (least : ℕ) (marks : BTreeMap Bytes Mark) (theory : Soundness) (low low' : ℕ) (old new : Core) (journal journal' : List Event) where
  abbrev Before : Type 0
  Before = IsRecorded opened least marks low old journal

  abbrev Behind : Type 0
  Behind = IsRecorded opened least marks low' new journal'

  -- a call that tells these events
  pub events_recorded : (IsBefore : List Event → Type 0) (IsSpared : ℕ → Type 0) (es : List Event) → SparesReads IsBefore es IsSpared old new → IsBefore journal → GoesOn es old new → journal' ≡ journal ++ es → low' ≡ fold floor_after low es → Before → Behind × ((s : ℕ) → IsSpared s → StaysAt s (state_of [] old) (state_of [] new))
  events_recorded IsBefore IsSpared es spares before goes told floored r =
      let t = told_recorded opened least marks theory IsBefore IsSpared es low low' old new journal spares before goes.told goes.next (told_floor opened least marks low low' journal es r.floored floored) (goes.marked journal r.marked) r in
      (subst (λ j. IsRecorded opened least marks low' new j) (sym told) t.0, t.1)

  pub spared_recorded : (es : List Event) → SparesReads IsAny es (AreSparedBy es) old new → GoesOn es old new → journal' ≡ journal ++ es → low' ≡ fold floor_after low es → Before → Behind × StaysBehind journal journal' old new
  spared_recorded es spares goes told floored r =
      let t = events_recorded IsAny (AreSparedBy es) es spares tt goes told floored r in
      (t.0, subst (λ j. StaysBehind journal j old new) (sym told) (stays_told opened least marks journal es old new t.1))

  module _ (law : NotedCompactionsKeepReads) where
    pub begin_recorded : (answer : Result Choice Error) (o : Options) (r : Result Begun Error) (es : List Event) → BeginsAnswer answer o r es old new → journal' ≡ journal ++ es → low' ≡ fold floor_after low es → Before → Behind × StaysBehind journal journal' old new
    begin_recorded answer o r es begins told floored h = spared_recorded es (law.begins answer o r es old new begins) (begins_go law answer o r es old new begins) told floored h

    pub compact_recorded : (answer : Result Choice Error) (o : Options) (r : Result Begun Error) (es : List Event) → CompactsAnswer answer o r es old new → journal' ≡ journal ++ es → low' ≡ fold floor_after low es → Before → Behind × StaysBehind journal journal' old new
    compact_recorded answer o r es compacts told floored h = spared_recorded es (law.compacts answer o r es old new compacts) (compacts_go law answer o r es old new compacts) told floored h

    pub finish_recorded : (job : SeenCompaction) (r : Result Finished Error) (es : List Event) → EndsNoted job r es old new → journal' ≡ journal ++ es → low' ≡ fold floor_after low es → Before → Behind × Stays old new
    finish_recorded job r es ends told floored h =
        let t = events_recorded (IsMarkedFor job old) IsAnySnapshot es (law.ends job r es old new ends) (open_marked job old journal h.marked) (ends_go job r es old new ends) told floored h in
        (t.0, λ s. t.1 s tt)

-- a merge that is given up
pub abandon_recorded : (opened : List Placed) (least : ℕ) (marks : BTreeMap Bytes Mark) → Soundness → NotedCompactionsKeepReads → (low : ℕ) (old new : Core) (journal : List Event) (job : SeenCompaction) → IsNoDeed old new → Spends job old new → IsRecorded opened least marks low old journal
    → IsRecorded opened least marks low new journal × Stays old new
abandon_recorded opened least marks theory law low old new journal job none spends h =
    let t = events_recorded opened least marks theory low low old new journal journal IsAny IsAnySnapshot [] (law.silent old new none) tt (spends_go job [] old new refl spends) (sym (append-nil journal)) refl h in
    (t.0, λ s. t.1 s tt)

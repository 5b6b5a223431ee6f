-- Compactions, as the theories of reads and of crashes see them.
use Rattle.std.specs.Prelude.{◌≡◌, ◌⊎◌, ℕ, ◌≤◌, true, List, [], ◌∷◌, ◌++◌, Result, Ok, IfOk, IfErr, IsErrOf}
use Rattle.lsm_below.specs.declared.error.Error.{Error}
use Rattle.lsm_below.specs.declared.error.Error.TheVariants.{CommitUnknown, AfterCommit}
use Rattle.lsm_below.specs.Entries.{Entry}
use Rattle.lsm_model.specs.Journal.{Event, is_kept}
use Rattle.lsm_model.specs.Views.{ranges_of}
use Rattle.lsm_model.specs.Steps.{Action, Marked, Merged, Moved, DroppedTables, Maintained, among}
use Rattle.lsm_model.specs.Beginnings.{Note, Done, Lost, Deeds}
use Rattle.lsm_model.specs.declared.journal.JournalEntry.TheVariants.{Mark, Install, Dropped}
use Rattle.lsm_tables.specs.Tables.{SeenTable}
use Rattle.lsm_versions.specs.Levels.{placed_in, placed_of}
use Rattle.lsm_compaction.specs.Merges.{SeenCompaction, evicts}
use Rattle.lsm_pick.specs.declared.choice.Choice.{Choice}
use Rattle.lsm_pick.specs.declared.choice.Choice.TheVariants.{DoNothing, Move, Merge, Drop}
use Rattle.lsm_state.specs.declared.compaction.Options.{Options}
use Rattle.lsm_state.specs.declared.compaction.Begun.{Begun}
use Rattle.lsm_state.specs.declared.compaction.Begun.TheVariants.{Installed as IsInstalled}
use Rattle.lsm_state.specs.declared.compaction.Finished.{Finished}
use Rattle.lsm_state.specs.declared.compaction.Finished.TheVariants.{Installed as IsFinished}
use Rattle.lsm_state.specs.Core.{Core, state_of}
use Rattle.lsm_state.specs.Kept.{IsKeptTree}
use Rattle.lsm_state.specs.Deeds.{saved_of, HasOrder, IsNoDeed, IsMarkDeed, AreDone}
use Rattle.lsm_state.specs.Compactions.{levels_of, BeginsChoice, Finishes}

-- ---- moves and drops

-- those of a commit of unknown outcome, which tells these events after the mark, and would have told others
abbrev pub AreLostTelling : ℕ → Action → List Event → List Event → Core → Core → Core → Type 0
AreLostTelling w action told events old would new = (opened : List Entry) (journal : List Event) (notes : List Note) → HasOrder old
    → Deeds opened (saved_of journal notes old) (Done (Marked w) ∷ (Lost action (state_of (journal ++ Mark w ∷ events) would) ∷ [])) (saved_of (journal ++ Mark w ∷ told) notes new)

-- a drop tells the ranges of its tables
abbrev pub dropped_by : List ℕ → Core → List Event
dropped_by ids c = Dropped (ranges_of (among ids) (placed_of (levels_of c))) c.seqno ∷ []

-- an installed choice is the mark, the move or the drop, and the maintenance
abbrev pub IsChoiceDeed : Choice → ℕ → Core → Core → Type 0
IsChoiceDeed DoNothing w old new = ⊥
IsChoiceDeed (Move input) w old new = (run : List SeenTable) × AreDone w (Moved input.dest_level input.table_ids.keys (placed_in input.dest_level run)) (Install old.seqno ∷ []) [] old new
IsChoiceDeed (Merge input) w old new = ⊥
IsChoiceDeed (Drop ids) w old new = AreDone w (DroppedTables ids.keys) (dropped_by ids.keys old ++ Install old.seqno ∷ []) [] old new

-- one of unknown outcome is the mark and a lost move, or a lost drop, which is told
abbrev pub IsLostChoice : Choice → ℕ → Core → Core → Type 0
IsLostChoice DoNothing w old new = ⊥
IsLostChoice (Move input) w old new = (run : List SeenTable) × (would : Core) × AreLostTelling w (Moved input.dest_level input.table_ids.keys (placed_in input.dest_level run)) [] (Install old.seqno ∷ []) old would new
IsLostChoice (Merge input) w old new = ⊥
IsLostChoice (Drop ids) w old new = (would : Core) × AreLostTelling w (DroppedTables ids.keys) (dropped_by ids.keys old) (dropped_by ids.keys old ++ Install old.seqno ∷ []) old would new

-- beginning a choice is the mark alone, unless it is installed, or of unknown outcome
pub record ChoiceDeeds (choice : Choice) (w : ℕ) (r : Result Begun Error) (old new : Core) : Type 0 where
  pub told : IfOk r (λ b. (b ≡ IsInstalled → ⊥) → IsMarkDeed w old new)
  pub refused : IfErr r (λ e. (e ≡ AfterCommit → ⊥) → (e ≡ CommitUnknown → ⊥) → IsMarkDeed w old new)
  pub done : (r ≡ Ok IsInstalled) ⊎ IsErrOf r AfterCommit → IsChoiceDeed choice w old new
  pub lost : IsErrOf r CommitUnknown → IsLostChoice choice w old new

-- ---- merges

-- no kept snapshot is below a watermark
abbrev pub IsMarkedIn : ℕ → List Event → Type 0
IsMarkedIn w journal = (s : ℕ) → is_kept s journal ≡ true → w ≤ s

-- the action of the theory, where a run was made
abbrev pub merge_of : SeenCompaction → List SeenTable → Action
merge_of job run = Merged job.settings.watermark job.settings.dest_level job.ids (evicts job.settings) (placed_in job.settings.dest_level run)

-- after the mark of its beginning an installed merge is the merge and the maintenance
abbrev pub IsMergeDeed : SeenCompaction → Core → Core → Type 0
IsMergeDeed job old new = (run : List SeenTable) × ((opened : List Entry) (journal : List Event) (notes : List Note) → HasOrder old → IsMarkedIn job.settings.watermark journal
    → Deeds opened (saved_of journal notes old) (Done (merge_of job run) ∷ (Done (Maintained job.settings.watermark) ∷ [])) (saved_of (journal ++ Install old.seqno ∷ []) notes new))

-- one of unknown outcome tells nothing
abbrev pub IsLostMerge : SeenCompaction → Core → Core → Type 0
IsLostMerge job old new = (run : List SeenTable) × (would : Core) × ((opened : List Entry) (journal : List Event) (notes : List Note) → HasOrder old
    → Deeds opened (saved_of journal notes old) (Lost (merge_of job run) (state_of (journal ++ Install old.seqno ∷ []) would) ∷ []) (saved_of journal notes new))

-- the end of a merge is nothing, unless it is installed, or of unknown outcome
pub record MergeDeeds (job : SeenCompaction) (r : Result Finished Error) (old new : Core) : Type 0 where
  pub told : IfOk r (λ f. (f ≡ IsFinished → ⊥) → IsNoDeed old new)
  pub refused : IfErr r (λ e. (e ≡ AfterCommit → ⊥) → (e ≡ CommitUnknown → ⊥) → IsNoDeed old new)
  pub done : (r ≡ Ok IsFinished) ⊎ IsErrOf r AfterCommit → IsMergeDeed job old new
  pub lost : IsErrOf r CommitUnknown → IsLostMerge job old new

-- ---- the law

-- of a tree as every tree is
pub record CompactionsAreDeeds : Type 0 where
  pub choices : (choice : Choice) (o : Options) (r : Result Begun Error) (old new : Core) → IsKeptTree old → BeginsChoice choice o r old new → ChoiceDeeds choice o.mvcc_gc_watermark r old new
  pub merges : (job : SeenCompaction) (r : Result Finished Error) (old new : Core) → IsKeptTree old → Finishes job r old new → MergeDeeds job r old new

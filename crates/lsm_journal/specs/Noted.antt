-- Compactions, and what they add to a journal.
use Rattle.std.specs.Prelude.{◌≡◌, ◌⊎◌, ℕ, ◌-◌, List, [], ◌∷◌, ◌++◌, None, IsSome, Result, Ok, Err}
use Rattle.lsm_below.specs.declared.error.Error.{Error}
use Rattle.lsm_below.specs.declared.error.Error.TheVariants.{Unrecoverable, CommitUnknown, AfterCommit}
use Rattle.lsm_model.specs.Journal.{Event}
use Rattle.lsm_model.specs.declared.journal.JournalEntry.TheVariants.{Mark, Install}
use Rattle.lsm_compaction.specs.Merges.{SeenCompaction}
use Rattle.lsm_pick.specs.declared.choice.Choice.{Choice}
use Rattle.lsm_pick.specs.declared.choice.ChooseError.{ChooseError}
use Rattle.lsm_state.specs.declared.compaction.Options.{Options}
use Rattle.lsm_state.specs.declared.compaction.Begun.{Begun}
use Rattle.lsm_state.specs.declared.compaction.Begun.TheVariants.{Installed, Job}
use Rattle.lsm_state.specs.declared.compaction.Finished.{Finished}
use Rattle.lsm_state.specs.Core.{Core}
use Rattle.lsm_state.specs.Compactions.{Relation, MayAnswer, BeginsChoice, Finishes, error_of}
use Rattle.lsm_state.specs.CompactionDeeds.{ChoiceDeeds, MergeDeeds}
use Rattle.lsm_state.specs.CompactionReads.{ranges_told, TellsChoice, TellsMerge}
use Rattle.lsm_state.specs.WholeCompactions.{CompactsChoice}

-- ---- choosing

-- a strategy of these relations answers so; after a commit of unknown outcome it isn't asked
abbrev pub IsAnswerOf : Relation Choice → Relation ChooseError → Core → Result Choice Error → Type 0
IsAnswerOf may_choose may_refuse c (Ok choice) = (c.lost ≡ None) × MayAnswer may_choose c choice
IsAnswerOf may_choose may_refuse c (Err e) = (IsSome c.lost × (e ≡ Unrecoverable)) ⊎ ((c.lost ≡ None) × ((x : ChooseError) × MayAnswer may_refuse c x × (e ≡ error_of x)))

-- what is noted if it is done: of a choice the mark, the ranges of a drop, and the install; without one the mark
abbrev pub noted_of : Result Choice Error → ℕ → Core → List Event
noted_of (Ok choice) w c = Mark w ∷ (ranges_told choice c ++ Install c.seqno ∷ [])
noted_of (Err e) w c = Mark w ∷ []

-- how many of these entries come to be: all where a choice is installed, all but the install where that is unknown, else the mark
abbrev pub kept_of : Result Begun Error → ℕ → ℕ
kept_of (Ok Installed) n = n
kept_of (Ok begun) n = 1
kept_of (Err AfterCommit) n = n
kept_of (Err CommitUnknown) n = n - 1
kept_of (Err e) n = 1

-- ---- beginning

-- a choice is begun, with its deeds and what it tells; without one nothing changes but for the mark
abbrev pub BeginsAnswer : Result Choice Error → Options → Result Begun Error → List Event → Core → Core → Type 0
BeginsAnswer (Ok choice) o r events old new = BeginsChoice choice o r old new × ChoiceDeeds choice o.mvcc_gc_watermark r old new × TellsChoice choice o.mvcc_gc_watermark r old events
BeginsAnswer (Err e) o r events old new = (r ≡ Err e) × (events ≡ Mark o.mvcc_gc_watermark ∷ []) × (new ≡ old)

-- ---- finishing

-- a merge ends, with its deeds and what it tells
abbrev pub EndsNoted : SeenCompaction → Result Finished Error → List Event → Core → Core → Type 0
EndsNoted job r events old new = Finishes job r old new × MergeDeeds job r old new × TellsMerge r old events

-- ---- in one call

-- what it tells after its beginning: the install, where it was a merge and is installed in the end
abbrev pub TellsBehind : Result Begun Error → Result Begun Error → Core → List Event → Type 0
TellsBehind (Ok (Job job)) r c events = (((r ≡ Ok Installed) ⊎ (r ≡ Err AfterCommit)) × (events ≡ Install c.seqno ∷ [])) ⊎ (((r ≡ Ok Installed) → ⊥) × ((r ≡ Err AfterCommit) → ⊥) × (events ≡ []))
TellsBehind begun r c events = events ≡ []

-- a choice done in one call tells what its beginning tells, and after it what the end of its merge does
pub record CompactsNoted (choice : Choice) (o : Options) (r : Result Begun Error) (events : List Event) (old new : Core) : Type 0 where
  pub compacts : CompactsChoice choice o r old new
  pub front : List Event
  pub behind : List Event
  pub begins : TellsChoice choice o.mvcc_gc_watermark compacts.begun old front
  pub follows : TellsBehind compacts.begun r compacts.mid behind
  pub told : events ≡ front ++ behind

-- without a choice nothing changes but for the mark
abbrev pub CompactsAnswer : Result Choice Error → Options → Result Begun Error → List Event → Core → Core → Type 0
CompactsAnswer (Ok choice) o r events old new = CompactsNoted choice o r events old new
CompactsAnswer (Err e) o r events old new = BeginsAnswer (Err e) o r events old new

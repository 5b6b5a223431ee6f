-- A compaction in one call: begun, and a merge then done and finished.
use Rattle.std.specs.Prelude.{◌≡◌, ◌⊎◌, ℕ, Option, None, Some, IsSome, Result, Ok, Err, true, false}
use Rattle.lsm_below.specs.declared.error.Error.{Error}
use Rattle.lsm_below.specs.declared.error.Error.TheVariants.{OutOfMemory, Unrecoverable}
use Rattle.lsm_compaction.specs.Merges.{SeenCompaction}
use Rattle.lsm_pick.specs.declared.bounds.OwnedBounds.{OwnedBounds}
use Rattle.lsm_pick.specs.declared.choice.Choice.{Choice}
use Rattle.lsm_pick.specs.declared.choice.ChooseError.{ChooseError}
use Rattle.lsm_pick.specs.declared.choice.ChooseError.TheVariants.{OutOfMemory as NoMemory}
use Rattle.lsm_pick.specs.Simple.{MayMajor, MayDropRange, are_reversed}
use Rattle.lsm_state.specs.declared.compaction.Options.{Options}
use Rattle.lsm_state.specs.declared.compaction.Begun.{Begun}
use Rattle.lsm_state.specs.declared.compaction.Begun.TheVariants.{DidNothing, Declined, Installed, Job}
use Rattle.lsm_state.specs.declared.compaction.Finished.{Finished}
use Rattle.lsm_state.specs.declared.compaction.Finished.TheVariants.{Declined as Over, Installed as Done}
use Rattle.lsm_state.specs.Core.{Core}
use Rattle.lsm_state.specs.Compactions.{Relation, BeginsChoice, BeginsCompaction, Finishes, Spends}
use Rattle.lsm_state.specs.CompactionDeeds.{ChoiceDeeds, MergeDeeds}
use Rattle.lsm_state.specs.Deeds.{IsNoDeed}

-- ---- words

-- the end of a merge, as the whole compaction tells it
abbrev pub told_end : Result Finished Error → Result Begun Error
told_end (Ok Done) = Ok Installed
told_end (Ok (Over why)) = Ok (Declined why)
told_end (Err e) = Err e

-- what a compaction in one call answers, as its beginning would tell it: it is never a job
abbrev pub as_begun : Result (Option Finished) Error → Result Begun Error
as_begun (Ok None) = Ok DidNothing
as_begun (Ok (Some end)) = told_end (Ok end)
as_begun (Err e) = Err e

-- an open merge is done and finished, with its deeds, or given up where there was no memory to do it
abbrev pub Completes : SeenCompaction → Result Begun Error → Core → Core → Type 0
Completes job r old new = ((r ≡ Err OutOfMemory) × Spends job old new × IsNoDeed old new) ⊎ ((end : Result Finished Error) × Finishes job end old new × MergeDeeds job end old new × (r ≡ told_end end))

-- what follows of how a compaction began: a merge is completed, and all else stays
abbrev pub Follows : Result Begun Error → Result Begun Error → Core → Core → Type 0
Follows (Ok DidNothing) r mid new = (r ≡ Ok DidNothing) × (new ≡ mid)
Follows (Ok (Declined why)) r mid new = (r ≡ Ok (Declined why)) × (new ≡ mid)
Follows (Ok Installed) r mid new = (r ≡ Ok Installed) × (new ≡ mid)
Follows (Ok (Job job)) r mid new = Completes job r mid new
Follows (Err e) r mid new = (r ≡ Err e) × (new ≡ mid)

-- ---- calls

-- what a choice that is done in one call answers and does
pub record CompactsChoice (choice : Choice) (o : Options) (r : Result Begun Error) (old new : Core) : Type 0 where
  pub begun : Result Begun Error
  pub mid : Core
  pub begins : BeginsChoice choice o begun old mid
  pub deeds : ChoiceDeeds choice o.mvcc_gc_watermark begun old mid
  pub follows : Follows begun r mid new

-- what a compaction in one call answers and does
pub record Compacts (may_choose : Relation Choice) (may_refuse : Relation ChooseError) (o : Options) (r : Result Begun Error) (old new : Core) : Type 0 where
  pub begun : Result Begun Error
  pub mid : Core
  pub begins : BeginsCompaction may_choose may_refuse o begun old mid
  pub follows : Follows begun r mid new

-- at a watermark, and at the tree's moment
abbrev pub options_at : ℕ → Core → Options
options_at w c = record { mvcc_gc_watermark = w; moment = c.moment }

-- a strategy that refuses only for want of memory
abbrev pub only_memory : Relation ChooseError
only_memory config hidden version e = e ≡ NoMemory

abbrev pub major_choice : ℕ → Relation Choice
major_choice target config hidden version choice = MayMajor target hidden version.levels choice

abbrev pub drop_choice : OwnedBounds → Relation Choice
drop_choice bounds config hidden version choice = MayDropRange bounds hidden version.levels choice

-- what dropping a range answers and does: after a commit of unknown outcome nothing, and nothing where its bounds are reversed
pub record DropsRange (bounds : OwnedBounds) (r : Result Begun Error) (old new : Core) : Type 0 where
  pub uncertain : IsSome old.lost → (r ≡ Err Unrecoverable) × (new ≡ old)
  pub reversed : old.lost ≡ None → are_reversed bounds ≡ true → (r ≡ Ok DidNothing) × (new ≡ old)
  pub drops : old.lost ≡ None → are_reversed bounds ≡ false → Compacts (drop_choice bounds) only_memory (options_at 0 old) r old new

-- What a step does that compacts as the strategy at an index chooses, or begins that or ends it.
use Rattle.std.proofs.Common.{◌≡◌, ℕ, ◌<◌, List, Option, Some, Result, Ok, Err, slice_get, refl, sym, subst}
use Rattle.lsm_below.specs.declared.error.Error.{Error}
use Rattle.lsm_store.specs.World.{World}
use Rattle.lsm_logged.specs.Merges.{SeenCompacted}
use Rattle.lsm_pick.specs.declared.choice.Choice.{Choice}
use Rattle.lsm_pick.specs.declared.choice.ChooseError.{ChooseError}
use Rattle.lsm_runs.specs.declared.slots.Job.{Job}
use Rattle.lsm_runs.specs.declared.slots.Job.TheVariants.{Compacted as CompactedJob}
use Rattle.lsm_runs.specs.declared.steps.Reply.{Reply}
use Rattle.lsm_runs.specs.Compacting.{Strategies, strategies_of, relation_of, reply_of, end_reply_of}
use Rattle.lsm_state.specs.Compactions.{Relation}
use Rattle.lsm_state.specs.Dropping.{MayDropIds}
use Rattle.lsm_state.specs.WholeCompactions.{Compacts, options_at}
use Rattle.lsm_state.specs.declared.compaction.Begun.{Begun}
use Rattle.lsm_state.specs.declared.compaction.Begun.TheVariants.{DidNothing, Declined, Installed, Job as BegunJob}
use Rattle.lsm_state.specs.declared.compaction.Finished.{Finished}
use Rattle.lsm_state.specs.declared.compaction.Options.{Options}
use Rattle.lsm_logged.specs.Acting.{CompactsAct, MergesAct}
use Rattle.lsm_logged.specs.Asking.{Asks}
use Rattle.lsm_logged.specs.Keeping.{SeenLogged}
use Rattle.lsm_log_runs.specs.Doing.{ActsCompact, ActsMerge}
use Rattle.lsm_log_runs.specs.JobSteps.{BeginsFrom, TakesBeginCompaction}
use Rattle.lsm_log_runs.specs.LoggedRuns.{CompactionsAreSteps}
use Rattle.lsm_log_runs.specs.Runs.{TakesCompact}

-- a call that asks a strategy of a list asks the one at its index
pub asked_at : {B S : Type 0} (may_choose : B → Relation Choice) (may_refuse : B → Relation ChooseError) (list : List B) (at : ℕ) (strategy : B) (Call : Relation Choice → Relation ChooseError → Type 0) (begun : Result Begun Error) (old new : SeenLogged S)
    → slice_get list at ≡ Some strategy → Asks begun old new (Call (may_choose strategy) (may_refuse strategy)) → Asks begun old new (Call ((strategies_of may_choose may_refuse list).may_choose at) ((strategies_of may_choose may_refuse list).may_refuse at))
asked_at {B} may_choose may_refuse list at strategy Call begun old new is asks = subst (λ (o : Option B). Asks begun old new (Call (relation_of may_choose o) (relation_of may_refuse o))) (sym is) asks

-- so the relation of the strategy at an index is that of the strategy
pub acts_at : {B S : Type 0} (may_choose : B → Relation Choice) (may_refuse : B → Relation ChooseError) (list : List B) (at : ℕ) (strategy : B) (watermark : ℕ) (reply : Reply) (w w' : World) (old new : SeenLogged S)
    → slice_get list at ≡ Some strategy → ActsCompact (may_choose strategy) watermark reply w w' old new → ActsCompact ((strategies_of may_choose may_refuse list).may_choose at) watermark reply w w' old new
acts_at {B} may_choose may_refuse list at strategy watermark reply w w' old new is acts = subst (λ (o : Option B). ActsCompact (relation_of may_choose o) watermark reply w w' old new) (sym is) acts

module _ {S : Type 0} (old new : SeenLogged S) (reply : Reply) (begun : Result Begun Error) (told : reply ≡ reply_of begun) where
  pub compact_taken : (strategies : Strategies) (at watermark : ℕ) → at < strategies.count → Asks begun old new (Compacts (strategies.may_choose at) (strategies.may_refuse at) (options_at watermark old.core) begun old.core new.core) → TakesCompact strategies at watermark reply old new
  compact_taken strategies at watermark there asks = subst (λ r. TakesCompact strategies at watermark r old new) (sym told) (go begun asks)
    where
      go : (b : Result Begun Error) → Asks b old new (Compacts (strategies.may_choose at) (strategies.may_refuse at) (options_at watermark old.core) b old.core new.core) → TakesCompact strategies at watermark (reply_of b) old new
      go (Ok DidNothing) a = (there, (Ok DidNothing, refl, a))
      go (Ok (Declined why)) a = (there, (Ok (Declined why), refl, a))
      go (Ok Installed) a = (there, (Ok Installed, refl, a))
      go (Ok (BegunJob job)) a = (there, (Ok (BegunJob job), refl, a))
      go (Err x) a = (there, (Err x, refl, a))

  pub compact_acts : (w w' : World) (may : Relation Choice) (watermark : ℕ) → CompactsAct (MayDropIds may old.core) watermark begun w w' old new → ActsCompact may watermark reply w w' old new
  compact_acts w w' may watermark acts = subst (λ r. ActsCompact may watermark r w w' old new) (sym told) (go begun acts)
    where
      go : (b : Result Begun Error) → CompactsAct (MayDropIds may old.core) watermark b w w' old new → ActsCompact may watermark (reply_of b) w w' old new
      go (Ok DidNothing) a = (Ok DidNothing, refl, a)
      go (Ok (Declined why)) a = (Ok (Declined why), refl, a)
      go (Ok Installed) a = (Ok Installed, refl, a)
      go (Ok (BegunJob job)) a = (Ok (BegunJob job), refl, a)
      go (Err x) a = (Err x, refl, a)

  pub begun_taken : (strategies : Strategies) (at : ℕ) (o : Options) (was is : Option Job) → BeginsFrom strategies at o reply was is old new → TakesBeginCompaction strategies at o reply was is old new
  begun_taken strategies at o was is from = subst (λ r. TakesBeginCompaction strategies at o r was is old new) (sym told) (go begun (subst (λ r. BeginsFrom strategies at o r was is old new) told from))
    where
      go : (b : Result Begun Error) → BeginsFrom strategies at o (reply_of b) was is old new → TakesBeginCompaction strategies at o (reply_of b) was is old new
      go (Ok DidNothing) a = a
      go (Ok (Declined why)) a = a
      go (Ok Installed) a = a
      go (Ok (BegunJob job)) a = a
      go (Err x) a = a

-- so a call of one's own is the step that names the strategy's index
pub compact_step : {S : Type 0} (tells : Type 0) (strategies : Strategies) (world : S → World) → CompactionsAreSteps tells strategies world
compact_step tells strategies world at watermark begun jobs old new there asks acts stored = record {
  takes = (compact_taken old new (reply_of begun) begun refl strategies at watermark there asks, refl);
  acts = λ told. compact_acts old new (reply_of begun) begun refl (world old.store) (world new.store) (strategies.may_choose at) watermark (acts told);
  stored = stored;
}

-- the end of a merge
module _ {S : Type 0} (old new : SeenLogged S) (reply : Reply) (end : Result Finished Error) (told : reply ≡ end_reply_of end) (was : Option Job) where
  pub merge_acts : (w w' : World) (job : SeenCompacted) → was ≡ Some (CompactedJob job) → MergesAct job.job end w w' old new → ActsMerge reply was w w' old new
  merge_acts w w' job waited acts = subst (λ r. ActsMerge r was w w' old new) (sym told) (go end acts)
    where
      go : (e : Result Finished Error) → MergesAct job.job e w w' old new → ActsMerge (end_reply_of e) was w w' old new
      go (Ok f) a = (job, waited, (Ok f, refl, a))
      go (Err x) a = (job, waited, (Err x, refl, a))

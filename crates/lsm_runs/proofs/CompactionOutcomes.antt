-- Outcomes of compactions.
use Rattle.std.proofs.Common.{◌≡◌, ℕ, ◌<◌, List, Option, Some, Result, Ok, Err, slice_get, sym, subst}
use Rattle.lsm_below.specs.declared.error.Error.{Error}
use Rattle.lsm_model.specs.Journal.{Event}
use Rattle.lsm_pick.specs.declared.choice.Choice.{Choice}
use Rattle.lsm_pick.specs.declared.choice.ChooseError.{ChooseError}
use Rattle.lsm_state.specs.declared.compaction.Options.{Options}
use Rattle.lsm_state.specs.declared.compaction.Begun.{Begun}
use Rattle.lsm_state.specs.declared.compaction.Begun.TheVariants.{DidNothing, Declined, Installed, Job as BegunJob}
use Rattle.lsm_state.specs.Core.{Core}
use Rattle.lsm_state.specs.Compactions.{Relation}
use Rattle.lsm_journal.specs.Noted.{IsAnswerOf}
use Rattle.lsm_runs.specs.declared.slots.Job.{Job}
use Rattle.lsm_runs.specs.declared.steps.Reply.{Reply}
use Rattle.lsm_runs.specs.Compacting.{Strategies, strategies_of, relation_of, reply_of, BeginsFrom, TakesBeginCompaction, CompactsFrom, TakesCompact}

-- what a strategy of a list answered
pub asked_at : {B : Type 0} (may_choose : B → Relation Choice) (may_refuse : B → Relation ChooseError) (list : List B) (at : ℕ) (strategy : B) (c : Core) (answer : Result Choice Error) → slice_get list at ≡ Some strategy → IsAnswerOf (may_choose strategy) (may_refuse strategy) c answer → IsAnswerOf ((strategies_of may_choose may_refuse list).may_choose at) ((strategies_of may_choose may_refuse list).may_refuse at) c answer
asked_at may_choose may_refuse list at strategy c answer is h = subst (λ o. IsAnswerOf (relation_of may_choose o) (relation_of may_refuse o) c answer) (sym is) h

module _ (strategies : Strategies) (at : ℕ) (o : Options) (events : List Event) (old new : Core) where
  -- a compaction that was begun
  pub begun_taken : (was is : Option Job) (reply : Reply) (begun : Result Begun Error) → reply ≡ reply_of begun → BeginsFrom strategies at o reply events was is old new → TakesBeginCompaction strategies at o reply events was is old new
  begun_taken was is reply begun e t = subst (λ x. TakesBeginCompaction strategies at o x events was is old new) (sym e) (go begun (subst (λ x. BeginsFrom strategies at o x events was is old new) e t))
    where
      go : (r : Result Begun Error) → BeginsFrom strategies at o (reply_of r) events was is old new → TakesBeginCompaction strategies at o (reply_of r) events was is old new
      go (Ok DidNothing) b = b
      go (Ok (Declined why)) b = b
      go (Ok Installed) b = b
      go (Ok (BegunJob job)) b = b
      go (Err x) b = b

  -- one that was done in one call
  pub compacted_taken : (reply : Reply) (done : Result Begun Error) → reply ≡ reply_of done → at < strategies.count → CompactsFrom (strategies.may_choose at) (strategies.may_refuse at) o reply events old new → TakesCompact strategies at o reply events old new
  compacted_taken reply done e there t = subst (λ x. TakesCompact strategies at o x events old new) (sym e) (go done (subst (λ x. CompactsFrom (strategies.may_choose at) (strategies.may_refuse at) o x events old new) e t))
    where
      go : (r : Result Begun Error) → CompactsFrom (strategies.may_choose at) (strategies.may_refuse at) o (reply_of r) events old new → TakesCompact strategies at o (reply_of r) events old new
      go (Ok DidNothing) c = (there, c)
      go (Ok (Declined why)) c = (there, c)
      go (Ok Installed) c = (there, c)
      go (Ok (BegunJob job)) c = (there, c)
      go (Err x) c = (there, c)

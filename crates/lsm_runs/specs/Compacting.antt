-- What a step of a compaction may answer, add to the journal and do.
use Rattle.std.specs.Prelude.{◌≡◌, ◌⊎◌, ℕ, ◌+◌, ◌<◌, ◌≤◌, ◌^◌, true, false, List, [], length, slice_get, Option, Some, None, IsSome, Result, Ok, Err, ◌↔◌, IsTrue}
use Rattle.lsm_below.specs.declared.error.Error.{Error}
use Rattle.lsm_below.specs.declared.error.Error.TheVariants.{OutOfMemory, OutOfNumbers}
use Rattle.lsm_model.specs.Journal.{Event}
use Rattle.lsm_compaction.specs.Merges.{SeenCompaction, SeenCompacted, AreFilesOf}
use Rattle.lsm_compaction.specs.OpenMerges.{hides}
use Rattle.lsm_versions.specs.Levels.{all_of, HasOwnIds}
use Rattle.lsm_pick.specs.declared.bounds.OwnedBounds.{OwnedBounds}
use Rattle.lsm_pick.specs.declared.choice.Choice.{Choice}
use Rattle.lsm_pick.specs.declared.choice.ChooseError.{ChooseError}
use Rattle.lsm_pick.specs.Simple.{are_reversed}
use Rattle.lsm_state.specs.declared.compaction.Options.{Options}
use Rattle.lsm_state.specs.declared.compaction.Begun.{Begun}
use Rattle.lsm_state.specs.declared.compaction.Begun.TheVariants.{DidNothing, Declined, Installed, Job as BegunJob}
use Rattle.lsm_state.specs.declared.compaction.Finished.{Finished}
use Rattle.lsm_state.specs.Core.{Core}
use Rattle.lsm_state.specs.Deeds.{IsNoDeed}
use Rattle.lsm_state.specs.Flushes.{with_next_table}
use Rattle.lsm_state.specs.Compactions.{Relation, Spends, levels_of}
use Rattle.lsm_state.specs.WholeCompactions.{options_at, only_memory, major_choice, drop_choice}
use Rattle.lsm_journal.specs.Noted.{IsAnswerOf, BeginsAnswer, EndsNoted, CompactsAnswer}
use Rattle.lsm_runs.specs.declared.slots.Job.{Job}
use Rattle.lsm_runs.specs.declared.slots.Job.TheVariants.{Compaction, Compacted as CompactedJob}
use Rattle.lsm_runs.specs.declared.steps.Compacted.TheVariants.{DidNothing as NothingDone, Declined as DeclinedFor, Installed as IsInstalled, Waits}
use Rattle.lsm_runs.specs.declared.steps.Reply.{Reply}
use Rattle.lsm_runs.specs.declared.steps.Reply.TheVariants.{Number, Truth, Done, Compacted, Finished as Ended, NoStrategy, NoJob, SlotInUse, Refused}
use Rattle.lsm_runs.specs.Slots.{merge_in}
use Rattle.lsm_runs.specs.Flushing.{IsIdle}

-- ---- strategies

-- strategies by index: how many there are, and what each may choose, or why it may refuse to
pub record Strategies : Type 1 where
  pub count : ℕ
  pub may_choose : ℕ → Relation Choice
  pub may_refuse : ℕ → Relation ChooseError

-- the relation of the strategy in a place: where there is none, it allows nothing
abbrev pub relation_of : {B A : Type 0} → (B → Relation A) → Option B → Relation A
relation_of may None config hidden version x = ⊥
relation_of may (Some strategy) config hidden version x = may strategy config hidden version x

-- those of a list of strategies
abbrev pub strategies_of : {B : Type 0} → (B → Relation Choice) → (B → Relation ChooseError) → List B → Strategies
strategies_of may_choose may_refuse list = record {
  count = length list;
  may_choose = λ i. relation_of may_choose (slice_get list i);
  may_refuse = λ i. relation_of may_refuse (slice_get list i);
}

-- ---- replies

-- what is replied of a compaction
abbrev pub reply_of : Result Begun Error → Reply
reply_of (Ok DidNothing) = Compacted NothingDone
reply_of (Ok (Declined why)) = Compacted (DeclinedFor why)
reply_of (Ok Installed) = Compacted IsInstalled
reply_of (Ok (BegunJob job)) = Compacted Waits
reply_of (Err e) = Refused e

-- the job that waits then
abbrev pub job_of : Result Begun Error → Option Job
job_of (Ok (BegunJob job)) = Some (Compaction job)
job_of begun = None

-- of the end of a merge
abbrev pub end_reply_of : Result Finished Error → Reply
end_reply_of (Ok finished) = Ended finished
end_reply_of (Err e) = Refused e

-- ---- a call on the job in a slot: what waits there before it and after it, and the tree before it and after it

-- no merge that was begun, or done, waits there
abbrev pub HasNoCompaction : Option Job → Type 0
HasNoCompaction (Some (Compaction job)) = ⊥
HasNoCompaction job = Unit {0}

abbrev pub HasNoCompacted : Option Job → Type 0
HasNoCompacted (Some (CompactedJob job)) = ⊥
HasNoCompacted job = Unit {0}

-- what the strategy at an index answers is begun into a free slot, where the job of a merge waits then
pub record BeginsFrom (strategies : Strategies) (at : ℕ) (o : Options) (reply : Reply) (events : List Event) (was is : Option Job) (old new : Core) : Type 0 where
  pub there : at < strategies.count
  pub free : was ≡ None
  pub answer : Result Choice Error
  pub answered : IsAnswerOf (strategies.may_choose at) (strategies.may_refuse at) old answer
  pub begun : Result Begun Error
  pub begins : BeginsAnswer answer o begun events old new
  pub waits : is ≡ job_of begun
  pub told : reply ≡ reply_of begun

abbrev pub TakesBeginCompaction : Strategies → ℕ → Options → Reply → List Event → Option Job → Option Job → Core → Core → Type 0
TakesBeginCompaction strategies at o SlotInUse events was is old new = IsIdle events was is old new × IsSome was
TakesBeginCompaction strategies at o NoStrategy events was is old new = IsIdle events was is old new × (was ≡ None) × (strategies.count ≤ at)
TakesBeginCompaction strategies at o reply events was is old new = BeginsFrom strategies at o reply events was is old new

-- the merge of a job is done; refused, the job stays
abbrev pub TakesRunCompaction : Reply → List Event → Option Job → Option Job → Core → Core → Type 0
TakesRunCompaction Done events was is old new = (events ≡ []) × (new ≡ old) × ((job : SeenCompacted) × (was ≡ Some (Compaction job.job)) × (is ≡ Some (CompactedJob job)) × AreFilesOf job.job.settings job.job.inputs job.files)
TakesRunCompaction (Refused x) events was is old new = IsIdle events was is old new × (x ≡ OutOfMemory) × ((job : SeenCompaction) × (was ≡ Some (Compaction job)))
TakesRunCompaction NoJob events was is old new = IsIdle events was is old new × HasNoCompaction was
TakesRunCompaction reply events was is old new = ⊥

-- a merge that was done ends: its slot is free whatever is answered
pub record EndsFrom (reply : Reply) (events : List Event) (was is : Option Job) (old new : Core) : Type 0 where
  pub job : SeenCompacted
  pub waited : was ≡ Some (CompactedJob job)
  pub free : is ≡ None
  pub end : Result Finished Error
  pub ends : EndsNoted job.job end events old new
  pub told : reply ≡ end_reply_of end

abbrev pub TakesFinish : Reply → List Event → Option Job → Option Job → Core → Core → Type 0
TakesFinish NoJob events was is old new = IsIdle events was is old new × HasNoCompacted was
TakesFinish reply events was is old new = EndsFrom reply events was is old new

-- the job of a merge is given up, whether it was done or not
abbrev pub TakesAbandonCompaction : Reply → List Event → Option Job → Option Job → Core → Core → Type 0
TakesAbandonCompaction Done events was is old new = (events ≡ []) × ((job : SeenCompaction) × (merge_in was ≡ Some job) × (is ≡ None) × Spends job old new) × IsNoDeed old new
TakesAbandonCompaction NoJob events was is old new = IsIdle events was is old new × (merge_in was ≡ None)
TakesAbandonCompaction reply events was is old new = ⊥

-- ---- a compaction in one call

-- a strategy's answer is done
pub record DoesAnswer (answer : Result Choice Error) (o : Options) (reply : Reply) (events : List Event) (old new : Core) : Type 0 where
  pub done : Result Begun Error
  pub compacts : CompactsAnswer answer o done events old new
  pub told : reply ≡ reply_of done

-- what a strategy of these relations answers is done
pub record CompactsFrom (may_choose : Relation Choice) (may_refuse : Relation ChooseError) (o : Options) (reply : Reply) (events : List Event) (old new : Core) : Type 0 where
  pub answer : Result Choice Error
  pub answered : IsAnswerOf may_choose may_refuse old answer
  pub does : DoesAnswer answer o reply events old new

-- as the strategy at an index answers
abbrev pub TakesCompact : Strategies → ℕ → Options → Reply → List Event → Core → Core → Type 0
TakesCompact strategies at o NoStrategy events old new = (events ≡ []) × (new ≡ old) × (strategies.count ≤ at)
TakesCompact strategies at o reply events old new = (at < strategies.count) × CompactsFrom (strategies.may_choose at) (strategies.may_refuse at) o reply events old new

-- all tables are merged into the last level
abbrev pub TakesMajor : ℕ → ℕ → Reply → List Event → Core → Core → Type 0
TakesMajor target w reply events old new = CompactsFrom (major_choice target) only_memory (options_at w old) reply events old new

-- tables within bounds are dropped, where no id stands twice: nothing is done where the bounds are reversed, unless a commit of unknown
-- outcome came before
abbrev pub TakesDropRange : OwnedBounds → Reply → List Event → Core → Core → Type 0
TakesDropRange bounds reply events old new =
    ((old.lost ≡ None) × (are_reversed bounds ≡ true) × (reply ≡ Compacted NothingDone) × (events ≡ []) × (new ≡ old))
    ⊎ ((IsSome old.lost ⊎ (are_reversed bounds ≡ false)) × CompactsFrom (drop_choice bounds) only_memory (options_at 0 old) reply events old new × HasOwnIds (all_of (levels_of old)))

-- an id for a table is drawn: refused exactly where the next one is 2^63 or more
abbrev pub TakesTableId : Reply → List Event → Core → Core → Type 0
TakesTableId (Number n) events old new = (events ≡ []) × (n ≡ old.next_table) × (n < 2 ^ 63) × (new ≡ with_next_table (n + 1) old) × IsNoDeed old new
TakesTableId (Refused x) events old new = (events ≡ []) × (new ≡ old) × (x ≡ OutOfNumbers) × (2 ^ 63 ≤ old.next_table)
TakesTableId reply events old new = ⊥

-- whether an open merge works on a table
abbrev pub IsCompactingReply : Core → Reply → Type 0
IsCompactingReply c (Truth b) = IsTrue b ↔ ((i : ℕ) × (hides c.merges.underway i ≡ true))
IsCompactingReply c reply = ⊥

-- What a user may conclude of calls that he makes in a loop of his own, with a flush open over them.
use Rattle.std.specs.Prelude.{◌≡◌, ℕ, List, [], ◌∷◌, ◌++◌, length, take, OnOk}
use Rattle.std.specs.FinMap.{empty}
use Rattle.lsm_below.specs.Keys.{Bytes}
use Rattle.lsm_store.specs.Memory.{MemStore, may_of, world_of}
use Rattle.lsm_store.specs.World.{Image, IsImage, Begins}
use Rattle.lsm_model.specs.declared.op.Op.{Op}
use Rattle.lsm_runs.specs.Dropping.{Drops}
use Rattle.lsm_runs.specs.declared.steps.Reply.{Reply}
use Rattle.lsm_log_runs.specs.declared.steps.LogStep.{LogStep}
use Rattle.lsm_log_runs.specs.declared.steps.LogStep.TheVariants.{Write}
use Rattle.lsm_log_runs.specs.Images.{LogMayBeOpened}
use Rattle.lsm_log_runs.specs.Lives.{StillKept}
use Rattle.lsm_log_runs.specs.Pasts.{LogPast, nothing, acknowledged}
use Rattle.example_lives.specs.declared.own_loop.Around.{Around}
use Rattle.example_lives.specs.Remembering.{EachTakes}

-- the calls that were made, the batch between the others, and what they answered
abbrev pub steps_around : List LogStep → List (Bytes × Op) → List LogStep → Around → List LogStep
steps_around before ops after a = take (length a.before.replies.items) before ++ Write ops ∷ take (length a.after.replies.items) after

abbrev pub replies_around : Around → List Reply
replies_around a = a.before.replies.items ++ a.written ∷ a.after.replies.items

-- On a new tree all of them were made, unless memory ran out: step by step as in a life of one call. A store that takes up whatever a crash
-- leaves after them may be opened, as a beginning of them between batches with all that was acknowledged.
pub record LivesAround (May : Drops) (before : List LogStep) (ops : List (Bytes × Op)) (after : List LogStep) (a : Around) (store : MemStore) : Type 0 where
  pub all_before : OnOk a.before.ended (length a.before.replies.items ≡ length before)
  pub all_after : OnOk a.after.ended (length a.after.replies.items ≡ length after)
  pub past : LogPast
  pub last : ℕ
  pub takes : EachTakes May store.failures [] empty (steps_around before ops after a) (replies_around a) nothing 0 past last
  pub left : (next : MemStore) (image : Image) → IsImage (may_of store.files) image → Begins image (world_of next) → LogMayBeOpened (world_of next) × StillKept [] empty past (acknowledged past) last (world_of next)

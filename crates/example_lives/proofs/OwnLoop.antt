-- A run of one's own on a new store is a life from nothing.
use Rattle.std.proofs.Common.{◌≡◌, ℕ, ◌≤◌, max, List, [], ◌∷◌, ◌++◌, take, None, refl, sym, subst, arith}
use Rattle.std.specs.FinMap.{empty}
use Rattle.std.specs.List.{AllByRecursion}
use Rattle.lsm_below.specs.Each.{each_append}
use Rattle.lsm_below.specs.Keys.{Bytes}
use Rattle.lsm_commit.specs.Causes.{HasCause}
use Rattle.lsm_model.specs.declared.op.Op.{Op}
use Rattle.lsm_store.specs.Memory.{MemStore, may_of, world_of}
use Rattle.lsm_store.specs.World.{Image, IsImage, Begins}
use Rattle.lsm_log_model.specs.Records.{logged, opened_by}
use Rattle.lsm_logged.specs.Opening.{image_read}
use Rattle.lsm_run_model.specs.Moments.{last_of}
use Rattle.lsm_runs.specs.Causes.{ReplyBlames}
use Rattle.lsm_runs.specs.Compacting.{Strategies}
use Rattle.lsm_runs.specs.Dropping.{Drops}
use Rattle.lsm_runs.specs.declared.steps.Reply.{Reply}
use Rattle.lsm_log_runs.specs.declared.steps.LogStep.{LogStep}
use Rattle.lsm_log_runs.specs.declared.steps.LogStep.TheVariants.{Write}
use Rattle.lsm_log_runs.specs.Doing.{StepDoes}
use Rattle.lsm_log_runs.specs.LoggedRuns.{RunsBetween, StepsLead, RunsJoin}
use Rattle.lsm_log_runs.specs.Slots.{LogStage}
use Rattle.lsm_log_runs.specs.Images.{IsNumberedBelow, LogMayBeOpened}
use Rattle.lsm_log_runs.specs.Lives.{IsUsualCall, StillKept, AnyNumberOfLoggedLives}
use Rattle.lsm_log_runs.specs.Living.{opened_at, LivesLogged}
use Rattle.lsm_log_runs.specs.Pasts.{LogPast, nothing, acknowledged}
use Rattle.example_lives.specs.Remembering.{EachTakes}
use Rattle.example_lives.proofs.Remembering.{first_usual, each_takes, kept_by, reads_fresh, fresh, fresh_low}

-- what these steps leave of a new store
pub record FromNothing (May : Drops) (steps : List LogStep) (replies : List Reply) (is : MemStore) : Type 0 where
  pub past : LogPast
  pub last : ℕ
  pub takes : EachTakes May is.failures [] empty steps replies nothing 0 past last
  pub left : (next : MemStore) (image : Image) → IsImage (may_of is.files) image → Begins image (world_of next) → LogMayBeOpened (world_of next) × StillKept [] empty past (acknowledged past) last (world_of next)

pub from_nothing : (May : Drops) → AnyNumberOfLoggedLives May world_of → (was is : MemStore) (steps : List LogStep) (replies : List Reply) → Begins (λ n. None) (world_of was) → LivesLogged May world_of 0 steps replies was is → AllByRecursion IsUsualCall steps → FromNothing May steps replies is
from_nothing May any was is steps replies new life usual =
    let read = image_read life.version life.records in
    let none : (n : List ℕ) → (world_of was).gives n ≡ None = λ n. new.gives n in
    let same : read ≡ fresh = reads_fresh (world_of was).gives none life.version life.records life.read in
    let low : life.counter ≤ max 0 0 = life.starts 0 (subst (IsNumberedBelow 0) (sym same) fresh_low) in
    let zero : life.counter ≡ 0 = omega (arith, low) in
    let last = last_of (opened_at life.first life.counter) life.stages in
    let takes = each_takes May world_of (opened_by read) (logged read) steps replies (opened_at life.first life.counter) life.stages life.keeps usual in
    record {
      past = last.past;
      last = last.counter;
      takes =
          subst (λ i. EachTakes May is.failures (opened_by i) (logged i) steps replies nothing 0 last.past last.counter) same
          (subst (λ c. EachTakes May is.failures (opened_by read) (logged read) steps replies nothing c last.past last.counter) zero
          (subst (λ (s : MemStore). EachTakes May s.failures (opened_by read) (logged read) steps replies nothing life.counter last.past last.counter) life.ends takes));
      left = λ next image may begins.
          let kept = kept_by May any was is steps replies life usual next image may begins in
          (kept.1, subst (λ i. StillKept (opened_by i) (logged i) last.past (acknowledged last.past) last.counter (world_of next)) same kept.0);
    }

-- ---- calls of one's own between two runs

pub own_run : (strategies : Strategies) → StepsLead (Unit {0}) strategies world_of → RunsJoin (Unit {0}) strategies world_of → (before after : List LogStep) (first last : List Reply) (ops : List (Bytes × Op)) (w : Reply) (a b c d : LogStage MemStore)
    → RunsBetween (Unit {0}) strategies world_of before first a b → StepDoes strategies (Unit {0}) world_of (Write ops) w b c → HasCause (ReplyBlames w) (world_of b.tree.store) (world_of c.tree.store) → RunsBetween (Unit {0}) strategies world_of after last c d
    → RunsBetween (Unit {0}) strategies world_of (before ++ Write ops ∷ after) (first ++ w ∷ last) a d
own_run strategies leads joins before after first last ops w a b c d begins does cause ends =
    let one = (leads (Write ops ∷ []) (w ∷ []) b c (record { stages = c ∷ []; taken = (does, cause, tt); ends = refl })).0 in
    (joins before (Write ops ∷ after) first (w ∷ last) a b d begins (joins (Write ops ∷ []) after (w ∷ []) last b c d one ends).0).0

pub usual_around : (before after : List LogStep) (ops : List (Bytes × Op)) (n m : ℕ) → AllByRecursion IsUsualCall before → IsUsualCall (Write ops) → AllByRecursion IsUsualCall after → AllByRecursion IsUsualCall (take n before ++ Write ops ∷ take m after)
usual_around before after ops n m first own last = each_append IsUsualCall (take n before) (Write ops ∷ take m after) (first_usual n before first) (own, first_usual m after last)

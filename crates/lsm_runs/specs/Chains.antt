-- Runs over a store: a chain of trees and stores.
use Rattle.std.specs.Prelude.{◌≡◌, ℕ, List, [], ◌∷◌, Option, IsSome}
use Rattle.std.specs.BTreeMap.{BTreeMap}
use Rattle.lsm_store.specs.World.{World}
use Rattle.lsm_commit.specs.Causes.{HasCause}
use Rattle.lsm_state.specs.Core.{Core, Seen}
use Rattle.lsm_state.specs.Commits.{Upholds}
use Rattle.lsm_run_model.specs.Moments.{last_of}
use Rattle.lsm_runs.specs.declared.slots.Job.{Job}
use Rattle.lsm_runs.specs.declared.steps.Step.{Step}
use Rattle.lsm_runs.specs.declared.steps.Reply.{Reply}
use Rattle.lsm_runs.specs.Causes.{ReplyBlames}
use Rattle.lsm_runs.specs.Compacting.{Strategies}
use Rattle.lsm_runs.specs.Files.{LeavesFiles}
use Rattle.lsm_runs.specs.Runs.{Takes}
use Rattle.lsm_runs.specs.Slots.{Stage, beside}
use Rattle.lsm_runs.specs.Told.{Told}

-- a tree beside its slots, and its store
pub record Point (F : Type 0) : Type 0 where
  pub store : F
  pub stage : Stage

abbrev pub point : {F : Type 0} → Seen F → BTreeMap ℕ (Option Job) → Point F
point s slots = record { store = s.store; stage = beside s.core slots }

-- what a step leaves of the files: those of its trees, also while nothing is done after it; where it touches no store, that store, and so
-- where the outcome of a commit is unknown. And its reply blames the store only where a call of it failed meanwhile
pub record KeepsFiles {F : Type 0} (world : F → World) (x : Step) (reply : Reply) (was is : F) (old new : Core) : Type 0 where
  pub upholds : Upholds (world was) (world is) old new
  pub leaves : LeavesFiles world x was is old new
  pub stays : Upholds (world is) (world is) new new
  pub no_call : IsSome old.lost → is ≡ was
  pub cause : HasCause (ReplyBlames reply) (world was) (world is)

-- The steps, one after the other, lead along this chain with these outcomes: a tree and store for each, after the first. Each step keeps the
-- files of its trees, one that touches no store leaves it as it is, and a reply blames the store only where a call of it failed in that step.
abbrev pub RanAlong : {F : Type 0} → (F → World) → Strategies → List Step → List Told → Point F → List (Point F) → Type 0
RanAlong world strategies [] [] old [] = Unit {0}
RanAlong world strategies (x ∷ xs) (t ∷ ts) old (mid ∷ points) =
    Takes strategies x t.reply t.entries old.stage mid.stage × KeepsFiles world x t.reply old.store mid.store old.stage.core mid.stage.core × RanAlong world strategies xs ts mid points
RanAlong world strategies xs ts old points = ⊥

-- the steps lead so from one tree and store to another
pub record RanTo {F : Type 0} (world : F → World) (strategies : Strategies) (steps : List Step) (told : List Told) (old new : Point F) : Type 0 where
  pub points : List (Point F)
  pub ran : RanAlong world strategies steps told old points
  pub ends : last_of old points ≡ new

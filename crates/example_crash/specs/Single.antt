-- What a caller has who takes steps one by one, each by a run of its own: what he has taken so far is a life, as one run of it is.
use Rattle.std.specs.Prelude.{◌≡◌, ℕ, ◌≤◌, ◌^◌, max, List, [], map}
use Rattle.std.specs.List.{AllByRecursion}
use Rattle.lsm_runs.specs.Entries.{Entry, above}
use Rattle.lsm_runs.specs.Memory.{MemStore, may_of, world_of}
use Rattle.lsm_runs.specs.World.{Image, IsImage}
use Rattle.lsm_runs.specs.Journal.{Map, next_number}
use Rattle.lsm_runs.specs.Views.{held}
use Rattle.lsm_runs.specs.Levels.{Levels, placed_of}
use Rattle.lsm_runs.specs.Finding.{Finds, StandsForMap}
use Rattle.lsm_runs.specs.Ready.{IsReady}
use Rattle.lsm_runs.specs.Core.{Seen}
use Rattle.lsm_runs.specs.Outcomes.{nothing}
use Rattle.lsm_runs.specs.Outcomes as out
use Rattle.lsm_runs.specs.Rising.{At, RisesFrom, highest}
use Rattle.lsm_runs.specs.declared.steps.Step.{Step}
use Rattle.lsm_runs.specs.declared.steps.Reply.{Reply}
use Rattle.lsm_runs.specs.Causes.{EachHasCause}
use Rattle.lsm_runs.specs.Dropping.{Drops}
use Rattle.lsm_runs.specs.Drawing.{drawing_of, keys_weak}
use Rattle.lsm_runs.specs.Lives.{Rise, LivesInOrder}
use Rattle.lsm_runs.specs.Moments.{Reopens}
use Rattle.lsm_runs.specs.Notes.{EachTells}
use Rattle.lsm_runs.specs.OpenFlushes.{none_begun}
use Rattle.lsm_runs.specs.Runs.{IsPlainUse, EachAnswers, journal_of}
use Rattle.lsm_runs.specs.Told.{Told}
use Rattle.example_crash.specs.SoFar.{SoFar}
use Rattle.example_crash.specs.Survival.{IsLeftBy}

-- On a tree that was opened with these entries, and whose counter stood here, the steps forget nothing that isn't flushed, their numbers rise,
-- and a key that one of them removes weakly was set once at most. Usual steps do so on any tree (`IsUsual`); on a new one no entries are opened.
pub record KeepsOrder (opened : List Entry) (counter : ℕ) (steps : List Step) : Type 0 where
  pub plain : IsPlainUse steps
  pub rise : Rise opened counter steps

-- The same of steps without weak removals, on any tree that was opened with entries numbered below this, and whose counter was put above them.
pub record KeepsOrderAbove (low from : ℕ) (steps : List Step) : Type 0 where
  pub plain : IsPlainUse steps
  pub above_low : low ≤ from
  pub numbers : RisesFrom low (At from) (map drawing_of steps)
  pub weak : AllByRecursion (λ x. keys_weak x ≡ []) steps

-- opening takes the store, and it stands for the map
pub record MayBeOpened (store : MemStore) (m : Map) : Type 0 where
  pub ready : IsReady (world_of store)
  pub stands : StandsForMap (world_of store).gives m

-- A store that stood for the map was opened, with its counter at a number at least, and these steps were taken on it, which had these outcomes.
pub record HasLived (May : Drops) (m : Map) (was : MemStore) (from : ℕ) (steps : List Step) (told : List Told) (is : MemStore) : Type 0 where
  -- it is a life, as one run of all these steps is one: so a crash at any moment, also in a step, leaves a beginning
  pub lives : LivesInOrder May world_of from m steps told was is
  -- of each reply that blames the store a call of it failed in that step
  pub causes : EachHasCause world_of told was is
  -- Where they keep the order, what each adds and notes follows from its kind and its reply, each read answers the replay of the calls before
  -- it, and whatever a crash leaves now is opened again as a beginning of the calls, with each flush that was installed and each clear that
  -- was answered.
  pub tells : KeepsOrder lives.opened lives.counter steps → EachTells May lives.opened nothing none_begun steps lives.outcomes
  pub reads : KeepsOrder lives.opened lives.counter steps → EachAnswers lives.opened m [] steps told
  pub leaves : KeepsOrder lives.opened lives.counter steps → (image : Image) → IsImage (may_of is.files) image → (left : Map) × Reopens (2 ^ 63) image left × IsLeftBy lives.opened m lives.outcomes left
  -- of which all numbers are below the least above all that was used, and so below the one at which the counter stands at most
  pub below : KeepsOrder lives.opened lives.counter steps → (image : Image) → IsImage (may_of is.files) image → (levels : Levels) → Finds image levels → above (held (placed_of levels)) ≤ next_number lives.opened (journal_of told)
  pub rises : KeepsOrder lives.opened lives.counter steps → next_number lives.opened (journal_of told) ≤ highest (At lives.counter) (map drawing_of steps)
  -- and where the process ends now, the next one may open the store as it is
  pub ready : IsReady (world_of is)

-- a store that may be opened stands for what was left by calls with these outcomes, and is numbered below this
pub record ComesAfter (opened : List Entry) (start : Map) (outcomes : List (out.Told Reply)) (least : ℕ) (store : MemStore) : Type 0 where
  pub left : Map
  pub opens : MayBeOpened store left
  pub kept : IsLeftBy opened start outcomes left
  pub below : (levels : Levels) → Finds (world_of store).gives levels → above (held (placed_of levels)) ≤ least
  -- so that no opening is refused for a great number
  pub small : (levels : Levels) → Finds (world_of store).gives levels → above (held (placed_of levels)) ≤ 2 ^ 63

-- A tree has taken these steps one by one on such a store, each by a run of its own: so far it has lived, and may take more.
pub record HasTaken (May : Drops) (m : Map) (was : MemStore) (from : ℕ) (steps : List Step) (told : List Told) (tree : Seen MemStore) : Type 0 where
  pub lived : HasLived May m was from steps told tree.store
  pub opened : List Entry
  pub counter : ℕ
  pub starts : counter ≡ max from (above opened)
  pub so_far : SoFar May world_of m was opened counter steps told tree.store tree.core

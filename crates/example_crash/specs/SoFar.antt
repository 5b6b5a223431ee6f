-- What is known of a tree that was opened and took steps, each by a run of its own, so that its caller acts between them.
use Rattle.std.specs.Prelude.{◌≡◌, ℕ, ◌≤◌, ◌^◌, List, [], ◌∷◌, map, take, length}
use Rattle.std.specs.FinMap.{get}
use Rattle.lsm_runs.specs.Keys.{Bytes}
use Rattle.lsm_runs.specs.Entries.{Entry, above}
use Rattle.lsm_runs.specs.World.{World}
use Rattle.lsm_runs.specs.Journal.{Map, InOrder}
use Rattle.lsm_runs.specs.Sound.{Holds}
use Rattle.lsm_runs.specs.Views.{held, view_at}
use Rattle.lsm_runs.specs.Levels.{Levels, placed_of}
use Rattle.lsm_runs.specs.Finding.{Finds}
use Rattle.lsm_runs.specs.Ready.{OpeningLeaves}
use Rattle.lsm_runs.specs.Stored.{IsStored}
use Rattle.lsm_runs.specs.Core.{Core, state_of, versions_left, written_of}
use Rattle.lsm_runs.specs.Composing.{AreNumbered}
use Rattle.lsm_run_model.specs.Moments.{EachMoment, last_of}
use Rattle.lsm_runs.specs.Outcomes.{nothing, after_all}
use Rattle.lsm_runs.specs.Outcomes as out
use Rattle.lsm_runs.specs.Rising.{EachUses}
use Rattle.lsm_runs.specs.declared.steps.Step.{Step}
use Rattle.lsm_runs.specs.declared.steps.Reply.{Reply}
use Rattle.lsm_runs.specs.Drawing.{asks_of}
use Rattle.lsm_runs.specs.Lives.{told_of}
use Rattle.lsm_runs.specs.Moments.{Reopens, StandsAfter, EachReady}
use Rattle.lsm_runs.specs.Dropping.{Drops}
use Rattle.lsm_runs.specs.Notes.{EachTells}
use Rattle.lsm_runs.specs.OpenFlushes.{none_begun}
use Rattle.lsm_runs.specs.Runs.{IsPlainUse, EachAnswers, journal_of, without_low_reads}
use Rattle.lsm_runs.specs.Told.{Told}

-- where these steps are in plain use and in order: at each store of the chain, and inside each step, a crash leaves a beginning of the calls so
-- far, which holds what they covered; and what each adds and notes follows from its kind and its reply
abbrev pub LivesAlong : {F : Type 0} → Drops → (F → World) → (opened : List Entry) (start : Map) → List Step → List (out.Told Reply) → F → List F → Type 0
LivesAlong May world opened start steps outcomes first stores =
    let all = after_all opened nothing outcomes in
    IsPlainUse steps → InOrder opened all.journal
    → ((n : ℕ) → AreNumbered n opened all.journal → EachMoment (Reopens n) world opened start nothing outcomes first stores) × EachTells May opened nothing none_begun steps outcomes

-- and each answers what the replay does
abbrev pub AnswersSo : (opened : List Entry) (start : Map) → List Step → List Told → Type 0
AnswersSo opened start steps told = IsPlainUse steps → InOrder opened (journal_of told) → EachAnswers opened start [] steps told

-- A tree was opened on a store that stands for the map, with these entries, where its counter stood here, and took these steps one by one, which
-- had these outcomes.
pub record SoFar {F : Type 0} (May : Drops) (world : F → World) (m : Map) (was : F) (opened : List Entry) (counter : ℕ) (steps : List Step) (told : List Told) (is : F) (now : Core) : Type 0 where
  -- these were found, and show the map; the counter stood above them; and the store after opening
  pub found : (levels : Levels) → Finds (world was).gives levels → opened ≡ held (placed_of levels)
  pub starts : (k : Bytes) → get m k ≡ view_at k (above opened) (opened ∷ [])
  pub above_found : above opened ≤ counter
  pub first : F
  pub opening : (tables : Levels) → Finds (world was).gives tables → OpeningLeaves (world was) (world first) tables
  -- what each step answered and noted, the store after it, and where the counter stood then
  pub outcomes : List (out.Told Reply)
  pub stores : List F
  pub counters : List ℕ
  pub replies : map told_of outcomes ≡ told
  pub many_outcomes : length outcomes ≡ length steps
  pub many_stores : length stores ≡ length steps
  pub ends : last_of first stores ≡ is
  pub uses : EachUses (map asks_of steps) outcomes counter counters
  pub counts : last_of counter counters ≡ now.seqno
  pub numbered : AreNumbered (2 ^ 63) opened (after_all opened nothing outcomes).journal
  -- opening takes what a process leaves that ends at any moment, and its files are stored
  pub ready : EachReady world first stores
  pub stored : IsStored (world is) (versions_left now) (written_of now)
  -- of the first so many steps, whatever comes later
  pub along : (many : ℕ) → LivesAlong May world opened m (take many steps) (take many outcomes) first (take many stores)
  pub answers : (many : ℕ) → AnswersSo opened m (take many steps) (take many told)
  -- so calls may go on
  pub stands : IsPlainUse steps → InOrder opened (after_all opened nothing outcomes).journal → StandsAfter world opened m (after_all opened nothing outcomes) is now
  pub holds : IsPlainUse steps → InOrder opened (journal_of told) → Holds opened m (state_of (without_low_reads opened (journal_of told)) now)

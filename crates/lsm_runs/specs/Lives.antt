-- Life after life: a tree from its opening to its end, over the theory of runs.
use Rattle.std.specs.Prelude.{◌≡◌, ℕ, ◌+◌, ◌≤◌, ◌^◌, max, List, [], ◌∷◌, map, take}
use Rattle.std.specs.FinMap.{get}
use Rattle.lsm_below.specs.Keys.{Bytes}
use Rattle.lsm_below.specs.Entries.{Entry, above}
use Rattle.lsm_store.specs.World.{World}
use Rattle.lsm_model.specs.Journal.{Map, InOrder}
use Rattle.lsm_model.specs.Views.{view_at, held}
use Rattle.lsm_versions.specs.Levels.{Levels, placed_of}
use Rattle.lsm_manifest.specs.Finding.{Finds}
use Rattle.lsm_manifest.specs.Opening.{LeavesStanding}
use Rattle.lsm_manifest.specs.Ready.{IsReady, OpeningLeaves}
use Rattle.lsm_run_model.specs.Outcomes.{nothing, after_all}
use Rattle.lsm_run_model.specs.Outcomes as out
use Rattle.lsm_run_model.specs.Composing.{AreNumbered}
use Rattle.lsm_run_model.specs.Moments.{EachMoment, last_of}
use Rattle.lsm_run_model.specs.Lives.{End, EachShows, EndsIn, IsKill, Lived, OneLife, ManyLives}
use Rattle.lsm_run_model.specs.Rising.{At, RisesFrom, WeakOnce, EachUses}
use Rattle.lsm_runs.specs.declared.steps.Step.{Step}
use Rattle.lsm_runs.specs.declared.steps.Reply.{Reply}
use Rattle.lsm_runs.specs.Drawing.{drawing_of, asks_of}
use Rattle.lsm_runs.specs.Dropping.{Drops}
use Rattle.lsm_runs.specs.Moments.{Reopens}
use Rattle.lsm_runs.specs.Notes.{EachTells}
use Rattle.lsm_runs.specs.OpenFlushes.{none_begun}
use Rattle.lsm_runs.specs.Runs.{IsPlainUse, EachAnswers}
use Rattle.lsm_runs.specs.Told.{Told}

-- The calls of a life on a tree that was opened with these entries, which show the map, are steps in plain use: what each adds and notes
-- follows from its kind and its reply, and all they add is in order.
pub record AreSteps (May : Drops) (opened : List Entry) (start : Map) (told : List (out.Told Reply)) : Type 0 where
  pub starts : (k : Bytes) → get start k ≡ view_at k (above opened) (opened ∷ [])
  pub steps : List Step
  pub plain : IsPlainUse steps
  pub tells : EachTells May opened nothing none_begun steps told
  pub order : InOrder opened (after_all opened nothing told).journal

-- From what shows one of some maps, over any number of crashes and kills: each life starts from one of the maps that the life before left
-- open, and whatever it may leave shows one that it leaves open. What is found is numbered below 2^63, so that no opening is refused for it.
abbrev pub AnyNumberOfLives : {F : Type 0} → Drops → (F → World) → Type 0
AnyNumberOfLives May world = ManyLives Reply (AreSteps May) IsReady (Reopens (2 ^ 63)) world

-- A ready store that shows the map was being opened when a crash came, or when the process was killed: what the opening leaves at each moment,
-- whatever it was to answer, is a life that ended in its opening. `TreeState::open` says so much of the store after it, by `opens`.
abbrev pub OpeningsAreLives : {F : Type 0} → Drops → (F → World) → Type 0
OpeningsAreLives {F} May world = (was is : F) (m : Map) (end : End F) → IsReady (world was) → Reopens (2 ^ 63) (world was).gives m → EachShows (Reopens (2 ^ 63)) (world was) → LeavesStanding (world was) (world is) → EndsIn world (world was) (world is) end
    → OneLife Reply (AreSteps May) IsReady (Reopens (2 ^ 63)) world m was end

-- ---- one life

-- a life of these steps with these outcomes, of which the first ones had been answered when it ended
pub record LivedSo {F : Type 0} (May : Drops) (world : F → World) (opened : List Entry) (start : Map) (steps : List Step) (outcomes : List (out.Told Reply)) (many : ℕ) (end : End F) : Type 0 where
  pub life : Lived Reply (AreSteps May) IsReady (Reopens (2 ^ 63)) world start end
  pub opened_with : life.opened ≡ opened
  pub took : life.known.steps ≡ steps
  pub told : life.told ≡ outcomes
  pub answered : life.answered ≡ many

-- The first so many of some steps, in plain use and in order, are such a life, however it ended: by a crash in the steps that hadn't been
-- answered or after them, or because the process was killed in the last one of them or after it. After each step there is a store.
abbrev pub StepsAreLives : {F : Type 0} → Drops → (F → World) → (opened : List Entry) (start : Map) → List Step → List (out.Told Reply) → F → List F → Type 0
StepsAreLives {F} May world opened start steps told first stores = (many answered : ℕ) (end : End F) →
    let outcomes = take many told in
    let all = after_all opened nothing outcomes in
    IsPlainUse (take many steps) → InOrder opened all.journal → EndsIn world (world (last_of first (take answered (take many stores)))) (world (last_of first (take many stores))) end → (IsKill end → many ≤ answered + 1)
    → LivedSo May world opened start (take many steps) outcomes answered end

-- what callers see of an outcome
abbrev pub told_of : out.Told Reply → Told
told_of o = record { reply = o.reply; entries = o.entries }

-- A tree was opened on a store that stands for a map, and took steps, which had these outcomes: the first so many of them are a life.
pub record Lives {F : Type 0} (May : Drops) (world : F → World) (opened : List Entry) (m : Map) (steps : List Step) (outcomes : List (out.Told Reply)) (was is : F) : Type 0 where
  -- the stores after opening, and after each step
  pub first : F
  pub stores : List F
  pub ends : last_of first stores ≡ is
  -- while it was opened a crash left what it could before, or the tables that were read
  pub opening : (tables : Levels) → Finds (world was).gives tables → OpeningLeaves (world was) (world first) tables
  pub lives : StepsAreLives May world opened m steps outcomes first stores

-- ---- its order

-- the numbers of steps rise from where the counter stood, over what was opened, and a key that one of them removes weakly was set once at most
pub record Rise (opened : List Entry) (counter : ℕ) (steps : List Step) : Type 0 where
  pub numbers : RisesFrom (above opened) (At counter) (map drawing_of steps)
  pub weak : WeakOnce opened [] (map asks_of steps)

-- A tree lives so, over the entries that were found as it was opened; its counter started at this number, or just above them, and each step draws
-- what it asks for. Where the numbers of the first so many steps rise from there, their journal is in order; and where it is, and they are in
-- plain use, each answers as the replay does.
pub record LivesInOrder {F : Type 0} (May : Drops) (world : F → World) (from : ℕ) (m : Map) (steps : List Step) (told : List Told) (was is : F) : Type 0 where
  pub opened : List Entry
  pub found : (levels : Levels) → Finds (world was).gives levels → opened ≡ held (placed_of levels)
  pub outcomes : List (out.Told Reply)
  pub replies : map told_of outcomes ≡ told
  pub life : Lives May world opened m steps outcomes was is
  pub counter : ℕ
  pub starts : counter ≡ max from (above opened)
  -- where it stood after each step
  pub counters : List ℕ
  pub uses : EachUses (map asks_of steps) outcomes counter counters
  pub in_order : (many : ℕ) → Rise opened counter (take many steps) → InOrder opened (after_all opened nothing (take many outcomes)).journal
  pub answers : (many : ℕ) → IsPlainUse (take many steps) → InOrder opened (after_all opened nothing (take many outcomes)).journal → EachAnswers opened m [] (take many steps) (take many told)
  -- and what a crash leaves at each moment is numbered below whatever is above all that was found and written
  pub leaves : (many : ℕ) → let all = after_all opened nothing (take many outcomes) in
      IsPlainUse (take many steps) → InOrder opened all.journal → (n : ℕ) → AreNumbered n opened all.journal → EachMoment (Reopens n) world opened m nothing (take many outcomes) life.first (take many life.stores)

-- The outcomes of a run as the theory of runs has them, with their notes as values, and what a crash leaves at each moment of it.
use Rattle.std.specs.Prelude.{◌≡◌, ℕ, ◌<◌, ◌≤◌, ◌^◌, List, [], ◌∷◌, ◌++◌, Option, None, map, take, if◌then◌else◌}
use Rattle.std.specs.List.{AllByRecursion}
use Rattle.lsm_below.specs.Entries.{Entry, above}
use Rattle.lsm_below.specs.declared.error.Error.{Error}
use Rattle.lsm_below.specs.declared.error.Error.TheVariants.{CommitUnknown}
use Rattle.lsm_store.specs.World.{Image, World}
use Rattle.lsm_model.specs.Counted.{OfWrite}
use Rattle.lsm_model.specs.Journal.{Map, InOrder}
use Rattle.lsm_model.specs.Views.{Placed, held}
use Rattle.lsm_model.specs.Steps.{IsOpened}
use Rattle.lsm_versions.specs.Levels.{Levels, placed_of}
use Rattle.lsm_manifest.specs.Finding.{Finds, StandsForMap}
use Rattle.lsm_manifest.specs.Ready.{IsReady}
use Rattle.lsm_commit.specs.Stored.{IsStored}
use Rattle.lsm_state.specs.Core.{Core, state_of, versions_left, written_of}
use Rattle.lsm_state.specs.Deeds.{saved_of}
use Rattle.lsm_state.specs.Flushes.{sealed_ids}
use Rattle.lsm_run_model.specs.declared.noted.Noted.{Noted}
use Rattle.lsm_run_model.specs.declared.noted.Noted.TheVariants as note
use Rattle.lsm_run_model.specs.Outcomes.{Past, nothing, after_all}
use Rattle.lsm_run_model.specs.Outcomes as out
use Rattle.lsm_run_model.specs.Moments.{EachMoment, last_of}
use Rattle.lsm_run_model.specs.Composing.{CameAbout, AreNumbered}
use Rattle.lsm_run_model.specs.Lives.{LeavesReady}
use Rattle.lsm_run_model.specs.Rising.{EachUses}
use Rattle.lsm_runs.specs.declared.slots.Job.{Job}
use Rattle.lsm_runs.specs.declared.steps.JobStep.{JobStep}
use Rattle.lsm_runs.specs.declared.steps.JobStep.TheVariants.{RegisterTables}
use Rattle.lsm_runs.specs.declared.steps.Step.{Step}
use Rattle.lsm_runs.specs.declared.steps.Step.TheVariants.{RotateMemtable, AtSlot, Flush, FlushActiveMemtable, Clear}
use Rattle.lsm_runs.specs.declared.steps.Reply.{Reply}
use Rattle.lsm_runs.specs.declared.steps.Reply.TheVariants.{Sealed, Registered, Flushed, FlushedActive, RefusedActive, Cleared, Refused}
use Rattle.lsm_runs.specs.Compacting.{Strategies}
use Rattle.lsm_runs.specs.Chains.{Point, RanAlong}
use Rattle.lsm_runs.specs.Drawing.{asks_of}
use Rattle.lsm_runs.specs.Dropping.{Drops, may_drop}
use Rattle.lsm_runs.specs.Notes.{sealed_noted, flushed_noted, EachTells}
use Rattle.lsm_runs.specs.Noting.{sealed_behind, ids_in}
use Rattle.lsm_runs.specs.OpenFlushes.{none_begun}
use Rattle.lsm_runs.specs.Runs.{IsPlainUse, journal_of}
use Rattle.lsm_runs.specs.Slots.{Stage, Closes}
use Rattle.lsm_runs.specs.Told.{Told}

-- ---- notes without places

abbrev pub job_noted : JobStep → Reply → Option Job → List Noted
job_noted RegisterTables (Registered a) was = if a.installed then note.Flushed (ids_in was) ∷ [] else []
job_noted step reply was = []

abbrev pub lost_noted : Error → Core → List Noted
lost_noted CommitUnknown c = note.ClearUnknown c.seqno ∷ []
lost_noted other c = []

abbrev pub alone_noted : Step → Reply → Core → List Noted
alone_noted RotateMemtable (Sealed id) c = sealed_noted id
alone_noted (Flush w) (Flushed a) c = flushed_noted (sealed_ids c) a
alone_noted (FlushActiveMemtable w) (FlushedActive id a) c = flushed_noted (sealed_behind id c) a ++ sealed_noted id
alone_noted (FlushActiveMemtable w) (RefusedActive id x) c = sealed_noted id
alone_noted Clear (Cleared n) c = note.Cleared ∷ []
alone_noted Clear (Refused x) c = lost_noted x c
alone_noted step reply c = []

-- what a step notes, newest first
abbrev pub noted_of : Step → Reply → Stage → List Noted
noted_of (AtSlot slot step) reply s = job_noted step reply (s.jobs slot)
noted_of step reply s = alone_noted step reply s.core

-- ---- the outcomes along a chain

-- the outcome of a step
abbrev pub outcome_of : Step → Told → Stage → out.Told Reply
outcome_of x t s = record { reply = t.reply; entries = t.entries; notes = noted_of x t.reply s }

-- those of steps that were taken along a chain
abbrev pub outcomes_of : {F : Type 0} → List Step → List Told → Point F → List (Point F) → List (out.Told Reply)
outcomes_of (x ∷ xs) (t ∷ ts) old (mid ∷ points) = outcome_of x t old.stage ∷ outcomes_of xs ts mid points
outcomes_of xs ts old points = []

-- ---- what opening finds

-- opening takes the image, the tree shows this map, and what is found is numbered below this
pub record Reopens (n : ℕ) (image : Image) (m : Map) : Type 0 where
  pub stands : StandsForMap image m
  pub below : (levels : Levels) → Finds image levels → above (held (placed_of levels)) ≤ n

-- opening finds these tables in the image
abbrev pub FindsPlaced : Image → List Placed → Type 0
FindsPlaced image tables = (levels : Levels) × Finds image levels × (placed_of levels ≡ tables)

-- ---- what stands

-- what stands after the calls so far: the tree came about by them from entries that show the map, and its store holds its files
pub record StandsAfter {F : Type 0} (world : F → World) (opened : List Entry) (start : Map) (past : Past) (store : F) (c : Core) : Type 0 where
  pub came : CameAbout opened start (saved_of past.journal past.notes c)
  pub stored : IsStored (world store) (versions_left c) (written_of c)

-- a tree as opening left it stands so, over a store that holds its files
abbrev pub BeginsWith : {F : Type 0} → (F → World) → F → Core → Type 0
BeginsWith world store c = (opened : List Entry) (start : Map) → IsOpened opened start (state_of [] c) → c.lost ≡ None → IsStored (world store) (versions_left c) (written_of c) → StandsAfter world opened start nothing store c

-- opening takes the store, and so it does what a process leaves that ends then
abbrev pub StaysReady : {F : Type 0} → (F → World) → F → Type 0
StaysReady world store = IsReady (world store) × LeavesReady IsReady world store store

-- along a chain of stores it does so at each of them, and in each call between two of them
abbrev pub EachReady : {F : Type 0} → (F → World) → F → List F → Type 0
EachReady world was [] = StaysReady world was
EachReady world was (is ∷ stores) = StaysReady world was × LeavesReady IsReady world was is × EachReady world is stores

-- ---- each moment

-- After what was called so far, of the first so many steps, where these are in plain use and the journal stays in order, whatever comes
-- later: at each store of the chain a crash leaves a beginning of the calls so far, which holds all that is covered by then, and inside each
-- step one of the calls up to and with it, which holds what was covered before it; and the same stands after these steps.
abbrev pub HasMoments : {F : Type 0} → (F → World) → (opened : List Entry) (start : Map) → Past → List Step → List Told → Point F → List (Point F) → Type 0
HasMoments world opened start past steps told old points = (many : ℕ) →
    let outcomes = take many (outcomes_of steps told old points) in
    let all = after_all opened past outcomes in
    let last = last_of old (take many points) in
    IsPlainUse (take many steps) → StandsAfter world opened start past old.store old.stage.core → InOrder opened all.journal
    → ((n : ℕ) → AreNumbered n opened all.journal → EachMoment (Reopens n) world opened start past outcomes old.store (map (λ p. p.store) (take many points)))
    × StandsAfter world opened start all last.store last.stage.core

-- so it does after all of them
abbrev pub GoesOn : {F : Type 0} → (F → World) → (opened : List Entry) (start : Map) → Past → List Step → List Told → Point F → List (Point F) → F → Core → Type 0
GoesOn world opened start past steps told old points is new =
    let all = after_all opened past (outcomes_of steps told old points) in
    IsPlainUse steps → StandsAfter world opened start past old.store old.stage.core → InOrder opened all.journal → StandsAfter world opened start all is new

-- And what the first so many steps tell follows from their kinds and replies, and from what was noted before.
abbrev pub TellsSo : {F : Type 0} → Drops → (F → World) → (opened : List Entry) (start : Map) → Past → List Step → List Told → Point F → List (Point F) → Type 0
TellsSo May world opened start past steps told old points = (many : ℕ) →
    let outcomes = take many (outcomes_of steps told old points) in
    IsPlainUse (take many steps) → StandsAfter world opened start past old.store old.stage.core → InOrder opened (after_all opened past outcomes).journal
    → EachTells May opened past none_begun (take many steps) outcomes

-- a run from one tree and store to another has a chain between them
pub record RunHasMoments {F : Type 0} (world : F → World) (strategies : Strategies) (steps : List Step) (told : List Told) (old : Point F) (is : F) (new : Core) : Type 0 where
  pub points : List (Point F)
  pub ran : RanAlong world strategies steps told old points
  -- jobs that wait in the end are given up, and that calls no store
  pub ends : (last_of old points).store ≡ is
  pub closes : Closes (last_of old points).stage.core new
  -- what is written is numbered below 2^63
  pub small : AllByRecursion (OfWrite (λ e. e.key.seqno < 2 ^ 63)) (journal_of told)
  -- each step uses the numbers and the keys that it asks for, while the counter stood so
  pub uses : EachUses (map asks_of steps) (outcomes_of steps told old points) old.stage.core.seqno (map (λ p. p.stage.core.seqno) points)
  pub begins : BeginsWith world old.store old.stage.core
  -- a process may end at any moment, in a step or between two
  pub ready : IsStored (world old.store) (versions_left old.stage.core) (written_of old.stage.core) → EachReady world old.store (map (λ p. p.store) points)
  pub moments : (opened : List Entry) (start : Map) (past : Past) → HasMoments world opened start past steps told old points
  pub tells : (opened : List Entry) (start : Map) (past : Past) → TellsSo (may_drop strategies) world opened start past steps told old points
  pub goes_on : (opened : List Entry) (start : Map) (past : Past) → GoesOn world opened start past steps told old points is new

-- A tree from its opening on, and how it goes on.
use Rattle.std.specs.Prelude.{◌≡◌, ◌≤◌, ◌^◌, List, [], None, map}
use Rattle.lsm_below.specs.Entries.{Entry, above}
use Rattle.lsm_below.specs.Sums.{capped}
use Rattle.lsm_store.specs.World.{World}
use Rattle.lsm_model.specs.Journal.{Map, next_number}
use Rattle.lsm_model.specs.Steps.{IsOpened}
use Rattle.lsm_model.specs.Views.{held}
use Rattle.lsm_versions.specs.declared.config.Config.{Config}
use Rattle.lsm_versions.specs.Configs.{raised}
use Rattle.lsm_commit.specs.Stored.{IsStored}
use Rattle.lsm_state.specs.Core.{Core, latest_of, state_of, opened_core, versions_left, written_of}
use Rattle.lsm_state.specs.Opened.{StartsWith, found_entries}
use Rattle.lsm_runs.specs.declared.steps.Step.{Step}
use Rattle.lsm_runs.specs.After.{RunIsRight}
use Rattle.lsm_runs.specs.Chains.{Point}
use Rattle.lsm_runs.specs.Compacting.{Strategies}
use Rattle.lsm_runs.specs.Counting.{RunIsInOrder}
use Rattle.lsm_runs.specs.Drawing.{RunRises}
use Rattle.lsm_runs.specs.Dropping.{Allowance, AllowsDrops, allowed}
use Rattle.lsm_runs.specs.Lives.{StepsAreLives}
use Rattle.lsm_runs.specs.Moments.{outcomes_of, RunHasMoments}
use Rattle.lsm_runs.specs.Runs.{RanToEnd, RunEqualsReplay}
use Rattle.lsm_runs.specs.Slots.{at_first}
use Rattle.lsm_runs.specs.Told.{Told}
use Rattle.lsm_runs.specs.Unknown.{RunStops}

-- the entries that a tree was opened with
abbrev pub opened_in : Core → List Entry
opened_in c = held (latest_of c).tables

-- A tree was opened with this configuration, its counters just above what was found, or where the configuration says; and it took steps with
-- these outcomes, after which it is this one.
pub record OpensAndRuns (strategies : Strategies) (config : Config) (steps : List Step) (told : List Told) (new : Core) : Type 0 where
  pub first : Core
  pub opened : first ≡ opened_core (raised (capped (above (found_entries first))) config) first.history.latest.version first.next_table
  pub ran : RanToEnd strategies steps told first new

-- A tree was opened on a ready store that stands for the map, and took steps, after which it goes on.
pub record LivesOn {F : Type 0} (world : F → World) (strategies : Strategies) (m : Map) (steps : List Step) (told : List Told) (is : F) (new : Core) : Type 0 where
  -- as it opened, it showed the map, over a store that holds its files
  pub old : Core
  pub first : F
  pub starts : StartsWith m old
  pub certain : old.lost ≡ None
  pub stored : IsStored (world first) (versions_left old) (written_of old)
  -- both counters stood above what was found: the order of writes begins there
  pub counted : next_number (opened_in old) [] ≤ old.seqno
  pub visible : next_number (opened_in old) [] ≤ old.visible_seqno
  -- it took the steps: each answer is the replay's, no step changes what it is to leave, and where callers keep the order by the counter and
  -- their keys, or their numbers rise, the journal is in order
  pub ran : RanToEnd strategies steps told old new
  pub replays : RunEqualsReplay (opened_in old) m steps told old new
  pub right : RunIsRight strategies steps told old new
  pub in_order : RunIsInOrder strategies steps told old new
  pub rises : RunRises steps told old
  -- after a commit of unknown outcome none called the store
  pub unknown : RunStops strategies steps told first is old new
  -- what stands at each moment, and how calls go on
  pub moments : RunHasMoments world strategies steps told (record { store = first; stage = at_first old }) is new

-- A run on a tree as opening left it, over a store that holds its files, where what was opened is numbered below 2^63,
-- is a life, whatever allows what its strategies may drop.
abbrev pub RunsAreLives : {F : Type 0} → (F → World) → Strategies → Type 0
RunsAreLives {F} world strategies = (may : Allowance) → AllowsDrops (allowed may) strategies
    → (steps : List Step) (told : List Told) (old : Point F) (is : F) (new : Core) (run : RunHasMoments world strategies steps told old is new) (opened : List Entry) (start : Map)
    → IsOpened opened start (state_of [] old.stage.core) → old.stage.core.lost ≡ None → IsStored (world old.store) (versions_left old.stage.core) (written_of old.stage.core)
    → above opened ≤ 2 ^ 63 → StepsAreLives (allowed may) world opened start steps (outcomes_of steps told old run.points) old.store (map (λ p. p.store) run.points)

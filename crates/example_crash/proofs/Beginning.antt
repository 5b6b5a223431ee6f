-- A store in memory that is opened, before the first step.
use Rattle.std.proofs.Common.{◌≡◌, ℕ, ◌≤◌, ◌^◌, max, arith, List, [], Ok, take, length, sym, ap, subst}
use Rattle.lsm_runs.specs.Entries.{Entry, above}
use Rattle.lsm_runs.specs.Sums.{capped}
use Rattle.lsm_runs.specs.Memory.{MemStore, world_of}
use Rattle.lsm_runs.specs.World.{Begins}
use Rattle.lsm_runs.specs.Journal.{Map, next_number}
use Rattle.lsm_runs.specs.Views.{held}
use Rattle.lsm_runs.specs.Configs.{raised}
use Rattle.lsm_runs.specs.Levels.{Levels, placed_of, empty_levels}
use Rattle.lsm_runs.specs.Config.{Config}
use Rattle.lsm_runs.specs.Finding.{Finds, OpeningFinds}
use Rattle.lsm_runs.specs.Ready.{OpeningLeavesRead}
use Rattle.lsm_runs.specs.Standing.{HasSmallNumbers}
use Rattle.lsm_manifest.proofs.FindingLemmas.{nothing_in as none}
use Rattle.lsm_runs.specs.Core.{Core, opened_core}
use Rattle.lsm_runs.specs.Opened.{found_entries, OpensTree}
use Rattle.lsm_runs.specs.declared.steps.Step.{Step}
use Rattle.lsm_runs.specs.After.{RunIsRight}
use Rattle.lsm_runs.specs.Causes.{EachHasCause}
use Rattle.lsm_runs.specs.Compacting.{Strategies}
use Rattle.lsm_runs.specs.Files.{StaysStored}
use Rattle.lsm_runs.specs.Moments.{RunHasMoments}
use Rattle.lsm_runs.specs.Told.{Told}
use Rattle.lsm_runs.specs.Dropping.{Drops}
use Rattle.lsm_runs.proofs.Small.{found_low}
use Rattle.lsm_runs.proofs.Starting.{starts_above, found_same}
use Rattle.example_crash.specs.Single.{KeepsOrder, MayBeOpened, HasLived, HasTaken}
use Rattle.example_crash.proofs.Carried.{Laws, has_taken}
use Rattle.example_crash.proofs.Joining.{begun}
use Rattle.example_crash.proofs.Taking.{here, none_taken}

module _ (May : Drops) (laws : Laws) (finds : OpeningFinds MemStore world_of) (leaves : OpeningLeavesRead MemStore world_of) (strategies : Strategies) (was : MemStore) (config : Config) (first : MemStore) (old : Core)
    (opens : OpensTree world_of was (Ok (record { store = first; core = old }))) (core : old ≡ opened_core (raised (capped (above (found_entries old))) config) old.history.latest.version old.next_table) (small : HasSmallNumbers old.history.latest.version.levels) where
  pub has_opened : (m : Map) → MayBeOpened was m → next_number (found_entries old) [] ≤ old.seqno → (answers : List Told) (is : MemStore) (now : Core) → answers ≡ [] → RunHasMoments world_of strategies (take (length answers) []) answers (here May world_of first old) is now → RunIsRight strategies (take (length answers) []) answers old now
      → StaysStored (world_of first) (world_of is) old now → EachHasCause world_of answers was is → HasTaken May m was config.seqno [] [] (record { store = is; core = now })
  has_opened m may counted answers is now e run right stays causes =
      let nothing = none_taken May world_of strategies [] answers first is old now e run right in
      let shows = opens.shows m may.stands in
      has_taken May laws m was (found_entries old) old.seqno [] [] is now
      (begun May world_of laws.join laws.kept strategies m was first is old now (found_entries old) nothing.0 nothing.1 stays shows.starts (ap (λ (c : Core). c.lost) core) (opens.stored may.ready) (found_low old.history.latest.version.levels small) counted
      (found_same world_of finds was first old opens) (λ tables f. leaves was first tables may.ready f opens.leaves)) (subst (λ (ts : List Told). EachHasCause world_of ts was is) e causes) config.seqno (starts_above config old core small)

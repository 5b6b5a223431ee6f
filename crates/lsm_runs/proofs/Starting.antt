-- What an opening found, and where the counter of its tree starts.
use Rattle.std.proofs.Common.{◌≡◌, max, arith, Ok, ap}
use Rattle.lsm_below.specs.Entries.{above}
use Rattle.lsm_below.specs.Sums.{capped}
use Rattle.lsm_store.specs.World.{World}
use Rattle.lsm_model.specs.Views.{held}
use Rattle.lsm_versions.specs.declared.config.Config.{Config}
use Rattle.lsm_versions.specs.Configs.{raised}
use Rattle.lsm_versions.specs.Levels.{Levels, placed_of}
use Rattle.lsm_manifest.specs.Finding.{Finds, OpeningFinds}
use Rattle.lsm_manifest.specs.Standing.{HasSmallNumbers}
use Rattle.lsm_state.specs.Core.{Core, opened_core}
use Rattle.lsm_state.specs.Opened.{found_entries, OpensTree}
use Rattle.lsm_runs.proofs.Small.{found_low}

pub starts_above : (config : Config) (c : Core) → c ≡ opened_core (raised (capped (above (found_entries c))) config) c.history.latest.version c.next_table → HasSmallNumbers c.history.latest.version.levels → c.seqno ≡ max config.seqno (above (found_entries c))
starts_above config c core small =
    let is : c.seqno ≡ max config.seqno (capped (above (found_entries c))) = ap (λ (d : Core). d.seqno) core in
    let low = found_low c.history.latest.version.levels small in
    omega (arith, is, low)

pub found_same : {F : Type 0} (world : F → World) → OpeningFinds F world → (was first : F) (c : Core) → OpensTree world was (Ok (record { store = first; core = c })) → (levels : Levels) → Finds (world was).gives levels → found_entries c ≡ held (placed_of levels)
found_same world finds was first c opens levels found =
    ap (λ ls. held (placed_of ls)) (finds was first levels (Ok (record { version = c.history.latest.version; next_table_id = c.next_table })) found (λ none there. opens.opens.opens none there) (λ none absent. opens.opens.fresh none absent))

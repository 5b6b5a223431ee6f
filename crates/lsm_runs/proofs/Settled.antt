-- What an opening leaves of a settled store.
use Rattle.std.proofs.Common.{⊎_elim}
use Rattle.lsm_store.specs.World.{World, LeavesOnly}
use Rattle.lsm_store.specs.Moments.{weakened}
use Rattle.lsm_model.specs.Journal.{Map}
use Rattle.lsm_manifest.specs.Finding.{StandsForMap}
use Rattle.lsm_manifest.specs.Ready.{SettledStands}
use Rattle.lsm_state.specs.Opened.{IsOldOrFor}

-- what could be left before stands for the map too
pub settled_for : (old new : World) (m : Map) (s : StandsForMap old.gives m) → SettledStands old s.levels → LeavesOnly old new (IsOldOrFor old m) → LeavesOnly old new (λ image. StandsForMap image m)
settled_for old new m s settled left =
    weakened old new (IsOldOrFor old m) (λ image. StandsForMap image m) left
    (λ image is. ⊎_elim (λ was. record { levels = s.levels; found = settled.finds image was; ordered = s.ordered; single = s.single; shows = s.shows }) (λ stands. stands) is)

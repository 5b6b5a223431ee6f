-- What a crash left has one possible content for each name.
use Rattle.std.proofs.Common.{◌≡◌, ℕ, List, sym, subst}
use Rattle.lsm_below.specs.Entries.{Entry}
use Rattle.lsm_store.specs.World.{Image, World, IsImage, Begins}
use Rattle.lsm_store.specs.Moments.{image_same}
use Rattle.lsm_model.specs.Beginnings.{shown_by}
use Rattle.lsm_model.specs.Journal.{Map}
use Rattle.lsm_logged.specs.Levels.{placed_of}
use Rattle.lsm_manifest.specs.Finding.{StandsForMap, FoundTablesShow}
use Rattle.lsm_manifest.specs.Ready.{IsReady}
use Rattle.lsm_log_model.specs.Records.{LogStands}
use Rattle.lsm_logged.specs.Opening.{CanBeSettled}
use Rattle.lsm_log_runs.specs.Images.{HoldsLogged, Keeps, IsSmall, CanBeRead}
use Rattle.lsm_log_runs.specs.Lives.{StillKept}
use Rattle.lsm_log_runs.specs.Pasts.{LogPast}

-- reads give what was left
pub given_is : (w : World) (left : Image) → Begins left w → w.gives ≡ left
given_is w left begins = image_same left w.gives begins.gives

pub begins_given : (w : World) (left : Image) → Begins left w → Begins w.gives w
begins_given w left begins = subst (λ (image : Image). Begins image w) (sym (given_is w left begins)) begins

-- so each image that may be left is the one that reads give
pub only_given : (w : World) → Begins w.gives w → (image : Image) → IsImage w.may image → w.gives ≡ image
only_given w begins image may = sym (image_same w.gives image (λ n. (begins.may n (image n)).0 (may n)))

pub still_kept : (opened : List Entry) (start : Map) (past : LogPast) (least counter : ℕ) (w : World) → Begins w.gives w → Keeps opened start past least counter w.gives → StillKept opened start past least counter w
still_kept opened start past least counter w begins keeps image may = subst (Keeps opened start past least counter) (only_given w begins image may) keeps

pub still_small : (w : World) → Begins w.gives w → HoldsLogged IsSmall w.gives → (image : Image) → IsImage w.may image → HoldsLogged IsSmall image
still_small w begins small image may = subst (HoldsLogged IsSmall) (only_given w begins image may) small

-- where that one stands, the store can be read
pub crashed_reads : FoundTablesShow → (w : World) → ((image : Image) (m : Map) → StandsForMap image m → Begins image w → IsReady w) → ((image : Image) (from : ℕ) → Begins image w → CanBeSettled w from) → Begins w.gives w → HoldsLogged LogStands w.gives → CanBeRead w
crashed_reads shows w ready settles begins stands =
    let f = stands.finds in
    record {
      ready = ready w.gives (shown_by (placed_of f.version.levels)) (shows w.gives f.version.levels f.found f.stands) begins;
      stands = λ image may. subst (HoldsLogged LogStands) (only_given w begins image may) stands;
      settles = λ image v may reads. settles w.gives v.log_from begins;
    }

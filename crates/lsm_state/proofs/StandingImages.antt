-- What a crash leaves of a ready store while a tree is opened over it.
use Rattle.std.proofs.Common.{inl, inr, ⊎_elim, Result, Ok, Err}
use Rattle.std.specs.Prelude.{IfOk}
use Rattle.lsm_below.specs.declared.error.Error.{Error}
use Rattle.lsm_store.specs.World.{Image, World, IsImage, LeavesOnly}
use Rattle.lsm_store.specs.Moments.{weakened}
use Rattle.lsm_model.specs.Journal.{Map}
use Rattle.lsm_manifest.specs.Told.{Told, TellsOpen}
use Rattle.lsm_manifest.specs.Opening.{Opens, LeavesStanding}
use Rattle.lsm_manifest.specs.Finding.{Finds, StandsForMap}
use Rattle.lsm_manifest.specs.Ready.{IsReady, IsOldOrRead, OpeningLeavesRead, OpenedLeavesRead}
use Rattle.lsm_state.specs.Core.{Seen}
use Rattle.lsm_state.specs.Opened.{files_told, store_left, IsOldOrFor}

-- an image with the same tables stands for the same map
same_map : (a b : Image) (m : Map) (s : StandsForMap a m) → Finds b s.levels → StandsForMap b m
same_map a b m s found = record { levels = s.levels; found = found; ordered = s.ordered; single = s.single; shows = s.shows }

module _ {S : Type 0} (world : S → World) (store : S) (r : Result (Seen S) (Error × S)) (left : LeavesStanding (world store) (world (store_left r))) (ready : IsReady (world store)) where
  pub stands_for : OpeningLeavesRead S world → (m : Map) → StandsForMap (world store).gives m → LeavesOnly (world store) (world (store_left r)) (IsOldOrFor (world store) m)
  stands_for law m s =
      weakened (world store) (world (store_left r)) (IsOldOrRead (world store) s.levels) (IsOldOrFor (world store) m) (law store (store_left r) s.levels ready s.found left).meanwhile
      (λ image is. ⊎_elim (λ was. inl was) (λ found. inr (same_map (world store).gives image m s found)) is)

  pub again : OpeningLeavesRead S world → IsImage (world store).may (world store).gives → IsReady (world (store_left r))
  again law one = let f = ready.found (world store).gives one in (law store (store_left r) f.0 ready f.1 left).again

pub settles : {S : Type 0} (world : S → World) (store : S) (r : Result (Seen S) (Error × S)) → OpenedLeavesRead S world → IsReady (world store) → (m : Map) → StandsForMap (world store).gives m → Told TellsOpen (Opens (world store) (world (store_left r))) (files_told r)
    → IfOk r (λ t. (image : Image) → IsImage (world t.store).may image → StandsForMap image m)
settles world store (Ok t) law ready m s opens = λ image at. same_map (world store).gives image m s (law store t.store s.levels _ ready s.found opens image at)
settles world store (Err e) law ready m s opens = tt

-- What a crash leaves at each moment of a run.
use Rattle.std.specs.Prelude.{ℕ, List, [], ◌∷◌}
use Rattle.lsm_below.specs.Entries.{Entry}
use Rattle.lsm_store.specs.World.{Image, World, LeavesOnly}
use Rattle.lsm_model.specs.Journal.{Map}
use Rattle.lsm_model.specs.Beginnings.{IsBeginning, covered}
use Rattle.lsm_run_model.specs.Outcomes.{Told, Past, after}

-- opening finds in the image a map that is, outside dropped ranges, a beginning of these calls which reaches this far at least
pub record HoldsBeginning (Shows : Image → Map → Type 0) (start : Map) (past : Past) (least : ℕ) (image : Image) : Type 0 where
  pub map : Map
  pub shows : Shows image map
  pub begins : IsBeginning start past.journal past.notes least map

-- a crash now leaves an image that has P
abbrev pub LeavesNow : World → (Image → Type 0) → Type 0
LeavesNow w P = (image : Image) → w.since w.moment image → P image

-- Along a chain of stores, one after each call: at each of them a crash leaves a beginning of the calls so far, which holds all that
-- is covered by then; and inside a call one of the calls up to and with it, which holds all that was covered before it.
abbrev pub EachMoment : {F R : Type 0} → (Image → Map → Type 0) → (F → World) → List Entry → Map → Past → List (Told R) → F → List F → Type 0
EachMoment Shows world opened start past [] was [] = LeavesNow (world was) (HoldsBeginning Shows start past (covered past.notes))
EachMoment Shows world opened start past (told ∷ more) was (is ∷ stores) =
    LeavesNow (world was) (HoldsBeginning Shows start past (covered past.notes))
    × LeavesOnly (world was) (world is) (HoldsBeginning Shows start (after opened past told) (covered past.notes))
    × EachMoment Shows world opened start (after opened past told) more is stores
EachMoment Shows world opened start past [] was (is ∷ stores) = ⊥
EachMoment Shows world opened start past (told ∷ more) was [] = ⊥

-- the last store of a chain
abbrev pub last_of : {F : Type 0} → F → List F → F
last_of was [] = was
last_of was (is ∷ stores) = last_of is stores

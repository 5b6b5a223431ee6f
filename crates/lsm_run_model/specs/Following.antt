-- What follows of the moments of a run.
use Rattle.std.specs.Prelude.{◌≡◌, ◌⊎◌, ℕ, ◌≤◌, List, [], ◌∷◌, ◌++◌, take}
use Rattle.lsm_below.specs.Entries.{Entry}
use Rattle.lsm_store.specs.World.{Image, World, LeavesOnly}
use Rattle.lsm_model.specs.Journal.{Map, Event}
use Rattle.lsm_model.specs.Beginnings.{Note, IsBeginning, covered}
use Rattle.lsm_run_model.specs.Outcomes.{Told, Past, after_all}
use Rattle.lsm_run_model.specs.Moments.{HoldsBeginning, LeavesNow, EachMoment, last_of}

-- a beginning of the calls so far is one of more calls too
abbrev pub BeginningsGrow : Type 0
BeginningsGrow = (start : Map) (journal more : List Event) (notes extra : List Note) (least low : ℕ) (m : Map) → low ≤ least
    → IsBeginning start journal notes least m → IsBeginning start (journal ++ more) (extra ++ notes) low m

-- so over the whole run, measured by its whole journal, a crash leaves a beginning; and after it one that holds all that is covered
pub record LeavesWhole {F R : Type 0} (Shows : Image → Map → Type 0) (world : F → World) (opened : List Entry) (start : Map) (past : Past) (told : List (Told R)) (was is : F) : Type 0 where
  pub meanwhile : LeavesOnly (world was) (world is) (HoldsBeginning Shows start (after_all opened past told) (covered past.notes))
  pub then : LeavesNow (world is) (HoldsBeginning Shows start (after_all opened past told) (covered (after_all opened past told).notes))

-- What a crash left since a moment after the first of these calls, as the store tells it after the last: a beginning of all of them that
-- holds all that those first ones covered. With all of them answered it is what a crash leaves now.
abbrev pub MomentsSince : {F : Type 0} → Type 0 → (Image → Map → Type 0) → (F → World) → Type 0
MomentsSince {F} R Shows world = (opened : List Entry) (start : Map) (past : Past) (told : List (Told R)) (was : F) (stores : List F) (answered : ℕ)
    → EachMoment Shows world opened start past told was stores
    → (left : Image) → (world (last_of was stores)).since (world (last_of was (take answered stores))).moment left
    → HoldsBeginning Shows start (after_all opened past told) (covered (after_all opened past (take answered told)).notes) left

-- calls after calls: their moments are those of one run, and those of a run can be cut anywhere
pub record MomentsJoin {F : Type 0} (R : Type 0) (Shows : Image → Map → Type 0) (world : F → World) : Type 0 where
  pub join : (opened : List Entry) (start : Map) (past : Past) (told more : List (Told R)) (was : F) (stores others : List F)
      → EachMoment Shows world opened start past told was stores → EachMoment Shows world opened start (after_all opened past told) more (last_of was stores) others
      → EachMoment Shows world opened start past (told ++ more) was (stores ++ others)
  -- a run that is cut: the chain of its stores is too
  pub cut : (opened : List Entry) (start : Map) (past : Past) (told more : List (Told R)) (was : F) (chain : List F)
      → EachMoment Shows world opened start past (told ++ more) was chain
      → (stores : List F) × (others : List F) × (chain ≡ stores ++ others) × EachMoment Shows world opened start past told was stores × EachMoment Shows world opened start (after_all opened past told) more (last_of was stores) others

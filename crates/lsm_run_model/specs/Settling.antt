-- How an opening settles what a kill left: it puts the name that says where to look on the disk, and only then removes anything.
use Rattle.std.specs.Prelude.{◌≡◌, ◌⊎◌, ℕ, ◌≤◌, Bool, true, false, List, Option, None}
use Rattle.lsm_store.specs.World.{Image, World, IsImage, LeavesOnly, Narrows, IsOnDisk}
use Rattle.lsm_model.specs.Journal.{Map}
use Rattle.lsm_run_model.specs.Moments.{LeavesNow}
use Rattle.lsm_run_model.specs.Lives.{Killed, GivesOne, EndsIn, ShowsOld}

-- ---- moments

-- what stores that tell their content have in common
pub record TellsMoments {F : Type 0} (world : F → World) : Type 0 where
  pub gives_one : (store : F) → GivesOne (world store)
  pub counts_now : (store : F) (t : ℕ) (image : Image) → t ≤ (world store).moment → IsImage (world store).may image → (world store).since t image
  pub only_now : (store : F) (image : Image) → (world store).since (world store).moment image → IsImage (world store).may image

-- calls led from one store to another: what a crash might have left stays told
pub record Grows (old new : World) : Type 0 where
  pub later : old.moment ≤ new.moment
  pub since : (t : ℕ) (image : Image) → t ≤ old.moment → old.since t image → new.since t image

-- each store between two is one that a kill may leave there, the last one too
abbrev pub KillsAreMoments : {F : Type 0} → (F → World) → Type 0
KillsAreMoments {F} world = TellsMoments world → (old mid new : F) → Grows (world old) (world mid) → Grows (world mid) (world new) → EndsIn world (world old) (world new) (Killed mid)

-- ---- the opening

-- what opening reads of a store: the name that says where to look, the names that it would remove, and the map that it shows
pub record LooksAt (Shows : Image → Map → Type 0) (w : World) (name : List ℕ) (orphan : List ℕ → Bool) (m : Map) : Type 0 where
  -- whatever a crash leaves shows a map
  pub each : (image : Image) → IsImage w.may image → (x : Map) × Shows image x
  -- and where it has the name as reads give it, it is the map that is shown, also where orphans are gone
  pub read : (image : Image) → IsImage w.may image → image name ≡ w.gives name → Shows image m
  pub spared : (a b : Image) → IsImage w.may a → a name ≡ w.gives name → ((n : List ℕ) → (b n ≡ a n) ⊎ ((b n ≡ None) × (orphan n ≡ true))) → Shows a m → Shows b m
  pub kept : orphan name ≡ false

-- the name is on the disk as reads gave it, and meanwhile a crash left what it could before
pub record IsPut (name : List ℕ) (old new : World) : Type 0 where
  pub meanwhile : LeavesOnly old new (IsImage old.may)
  pub may : (n : List ℕ) (c : Option (List ℕ)) → new.may n c → old.may n c
  pub here : (c : Option (List ℕ)) → new.may name c → c ≡ old.gives name

-- each name has what it could have before, or it is an orphan and absent (`IsCleared` of lsm_manifest)
abbrev pub IsCleared : (List ℕ → Bool) → World → Image → Type 0
IsCleared orphan old image = (n : List ℕ) → old.may n (image n) ⊎ ((image n ≡ None) × (orphan n ≡ true))

-- what comes of an opening that puts the name on the disk, and then removes orphans
pub record Settled {F : Type 0} (Shows : Image → Map → Type 0) (world : F → World) (m : Map) (old mid new : F) : Type 0 where
  -- at each moment a crash leaves what shows a map that it might have left before
  pub meanwhile : LeavesOnly (world old) (world new) (ShowsOld Shows (world old))
  -- and from the first removal on what shows the map that was read
  pub then : LeavesOnly (world mid) (world new) (λ image. Shows image m)
  pub now : LeavesNow (world new) (λ image. Shows image m)

abbrev pub SettlingOpens : {F : Type 0} → (Image → Map → Type 0) → (F → World) → Type 0
SettlingOpens {F} Shows world = TellsMoments world → (old mid new : F) (name : List ℕ) (orphan : List ℕ → Bool) (m : Map) → LooksAt Shows (world old) name orphan m
    → IsPut name (world old) (world mid) → LeavesOnly (world mid) (world new) (IsCleared orphan (world mid)) → Settled Shows world m old mid new

-- one that fails before it has put the name leaves what could be left before
abbrev pub FailingOpens : {F : Type 0} → (Image → Map → Type 0) → (F → World) → Type 0
FailingOpens {F} Shows world = (old new : F) (name : List ℕ) (orphan : List ℕ → Bool) (m : Map) → LooksAt Shows (world old) name orphan m → LeavesOnly (world old) (world new) (IsImage (world old).may) → LeavesOnly (world old) (world new) (ShowsOld Shows (world old))

-- the store's call that settles names, whatever it answers, leaves meanwhile what a crash could leave before
abbrev pub NarrowingLeaves : {F : Type 0} → (F → World) → Type 0
NarrowingLeaves {F} world = TellsMoments world → (old new : F) → Narrows (world old) (world new) → LeavesOnly (world old) (world new) (IsImage (world old).may)

-- and where it answers Ok, it puts a name on the disk of which not any bytes could be left
abbrev pub SettlingPuts : {F : Type 0} → (F → World) → Type 0
SettlingPuts {F} world = TellsMoments world → (old new : F) (name : List ℕ) (impossible : Option (List ℕ)) → ¬ (world old).may name impossible
    → Narrows (world old) (world new) → IsOnDisk (world old) (world new) name → IsPut name (world old) (world new)

-- what is known of settling
pub record Settling {F : Type 0} (Shows : Image → Map → Type 0) (world : F → World) : Type 0 where
  pub kills : KillsAreMoments world
  pub opens : SettlingOpens Shows world
  pub fails : FailingOpens Shows world
  pub narrows : NarrowingLeaves world
  pub puts : SettlingPuts world

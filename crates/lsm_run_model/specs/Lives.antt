-- Life after life: a tree is opened on what the life before left, calls are made on it, and a crash comes at any moment, or the process
-- is killed, also in its opening.
use Rattle.std.specs.Prelude.{◌≡◌, ◌↔◌, ℕ, List, [], ◌∷◌, Option, take}
use Rattle.lsm_below.specs.Entries.{Entry}
use Rattle.lsm_below.specs.Members.{IsIn}
use Rattle.lsm_store.specs.World.{Image, World, IsImage, Begins, LeavesOnly}
use Rattle.lsm_model.specs.Journal.{Map}
use Rattle.lsm_model.specs.Beginnings.{IsBeginning, covered}
use Rattle.lsm_run_model.specs.Outcomes.{Told, nothing, after_all}
use Rattle.lsm_run_model.specs.Moments.{EachMoment, last_of}

-- ---- the end of a life

-- a crash left an image; or the process ended or was killed, and what it left is the store as it was at that moment
pub data End (F : Type 0) : Type 0 where
  Crashed : Image → End F
  Killed : F → End F

-- what a crash, now or later, may find there
abbrev pub MayBe : {F : Type 0} → (F → World) → End F → Image → Type 0
MayBe world (Crashed left) image = image ≡ left
MayBe world (Killed cut) image = IsImage (world cut).may image

-- what reads give is one of the images that a crash may leave
abbrev pub GivesOne : World → Type 0
GivesOne w = IsImage w.may w.gives

-- a store of the same files: reads give the same, and a crash may leave the same
pub record Resumes (old new : World) : Type 0 where
  pub gives : (n : List ℕ) → new.gives n ≡ old.gives n
  pub may : (n : List ℕ) (c : Option (List ℕ)) → new.may n c ↔ old.may n c

-- the next life's store: after a crash it has the image and nothing else, after a kill it is the one that was left
abbrev pub TakesUp : {F : Type 0} → (F → World) → End F → F → Type 0
TakesUp world (Crashed left) store = Begins left (world store)
TakesUp world (Killed cut) store = Resumes (world cut) (world store)

abbrev pub EndGives : {F : Type 0} → (F → World) → End F → Type 0
EndGives world (Crashed left) = Unit {0}
EndGives world (Killed cut) = GivesOne (world cut)

-- a life ended in what led from one store to another: all that it may have left is what a crash meanwhile may leave. A kill needs no more:
-- the store in the middle is any whose images are among those
pub record EndsIn {F : Type 0} (world : F → World) (was is : World) (end : End F) : Type 0 where
  pub each : (image : Image) → MayBe world end image → is.since was.moment image
  pub gives : EndGives world end

-- ---- what opening asks and promises

-- a process that is killed meanwhile leaves a store that opening takes
abbrev pub LeavesReady : {F : Type 0} → (World → Type 0) → (F → World) → F → F → Type 0
LeavesReady Ready world was is = (cut : _) → EndsIn world (world was) (world is) (Killed cut) → Ready (world cut)

-- the process was killed, or came to its end
abbrev pub IsKill : {F : Type 0} → End F → Type 0
IsKill (Crashed left) = ⊥
IsKill (Killed cut) = Unit {0}

-- the image shows a map that a crash before might have left
pub record ShowsOld (Shows : Image → Map → Type 0) (w : World) (image : Image) : Type 0 where
  pub map : Map
  pub shows : Shows image map
  pub old : Image
  pub possible : IsImage w.may old
  pub same : Shows old map

-- each image that may be left shows a map which has P
abbrev pub AllShow : (Image → Map → Type 0) → (Map → Type 0) → (Image → Type 0) → Type 0
AllShow Shows P Left = (image : Image) → Left image → (m : Map) × Shows image m × P m

-- whatever a crash leaves of a store shows a map
abbrev pub EachShows : (Image → Map → Type 0) → World → Type 0
EachShows Shows w = (image : Image) → IsImage w.may image → (m : Map) × Shows image m

-- ---- one life

-- what is known of the calls of a life: of their outcomes, beside the entries that were opened and the map that these show
abbrev pub Knowledge : Type 0 → Type 1
Knowledge R = List Entry → Map → List (Told R) → Type 0

-- A tree was opened on what shows the map, and calls were made on it whose outcomes are as is known of them; of these the first ones had been
-- answered when the life ended, in the rest or after them: one call where it ended in it, none where it ended between calls.
pub record Lived {F : Type 0} (R : Type 0) (Known : Knowledge R) (Ready : World → Type 0) (Shows : Image → Map → Type 0) (world : F → World) (m : Map) (end : End F) : Type 0 where
  pub opened : List Entry
  pub told : List (Told R)
  pub known : Known opened m told
  pub first : F
  pub stores : List F
  pub moments : EachMoment Shows world opened m nothing told first stores
  pub answered : ℕ
  pub ended : EndsIn world (world (last_of first (take answered stores))) (world (last_of first stores)) end
  pub ready : IsKill end → LeavesReady Ready world (last_of first (take answered stores)) (last_of first stores)

-- a life ends in the opening of its tree, whatever that then answers, or after it
pub data OneLife {F : Type 0} (R : Type 0) (Known : Knowledge R) (Ready : World → Type 0) (Shows : Image → Map → Type 0) (world : F → World) (m : Map) (begun : F) (end : End F) : Type 0 where
  Opening : (ended : F) → LeavesOnly (world begun) (world ended) (ShowsOld Shows (world begun)) → EndsIn world (world begun) (world ended) end → (IsKill end → LeavesReady Ready world begun ended) → OneLife R Known Ready Shows world m begun end
  Running : Lived R Known Ready Shows world m end → OneLife R Known Ready Shows world m begun end

-- ---- one after the other

-- a store took up what was left; and where opening takes it, reads of it give what shows a map, and whatever a crash leaves of it shows one,
-- the tree lives so
pub record Begun {F : Type 0} (R : Type 0) (Known : Knowledge R) (Ready : World → Type 0) (Shows : Image → Map → Type 0) (world : F → World) (before end : End F) : Type 0 where
  pub store : F
  pub takes : TakesUp world before store
  pub life : (m : Map) → Ready (world store) → Shows (world store).gives m → EachShows Shows (world store) → OneLife R Known Ready Shows world m store end

-- each life begins with what the one before left
abbrev pub LifeAfterLife : {F : Type 0} (R : Type 0) → Knowledge R → (World → Type 0) → (Image → Map → Type 0) → (F → World) → End F → List (End F) → Type 0
LifeAfterLife R Known Ready Shows world before [] = Unit {0}
LifeAfterLife R Known Ready Shows world before (end ∷ more) = Begun R Known Ready Shows world before end × LifeAfterLife R Known Ready Shows world end more

-- the maps that a life leaves open: those that were open before, where its opening was cut off; else beginnings of its calls which hold
-- all that those covered that had been answered
abbrev pub LeavesOpen : {F : Type 0} (R : Type 0) (Known : Knowledge R) (Ready : World → Type 0) (Shows : Image → Map → Type 0) (world : F → World) (m : Map) (begun : F) (end : End F) → (Map → Type 0) → OneLife R Known Ready Shows world m begun end → Map → Type 0
LeavesOpen R Known Ready Shows world m begun end P (Opening ended leaves came ready) next = P next
LeavesOpen R Known Ready Shows world m begun end P (Running life) next =
    let all = after_all life.opened nothing life.told in
    IsBeginning m all.journal all.notes (covered (after_all life.opened nothing (take life.answered life.told)).notes) next

-- each life finds a store that opening takes, which shows one of the maps that were open: from it the tree starts; and whatever a crash then
-- finds of what the life left shows one of the maps that it left open
abbrev pub AllGoWell : {F : Type 0} (R : Type 0) (Known : Knowledge R) (Ready : World → Type 0) (Shows : Image → Map → Type 0) (world : F → World) (P : Map → Type 0) (before : End F) (ends : List (End F)) → LifeAfterLife R Known Ready Shows world before ends → Type 0
AllGoWell R Known Ready Shows world P before [] lives = Unit {0}
AllGoWell R Known Ready Shows world P before (end ∷ more) lives =
    (m : Map) × (ready : Ready (world lives.0.store)) × (shows : Shows (world lives.0.store).gives m) × (each : EachShows Shows (world lives.0.store)) × P m
    × AllShow Shows (LeavesOpen R Known Ready Shows world m lives.0.store end P (lives.0.life m ready shows each)) (MayBe world end)
    × AllGoWell R Known Ready Shows world (LeavesOpen R Known Ready Shows world m lives.0.store end P (lives.0.life m ready shows each)) end more lives.1

-- opening takes what was left
abbrev pub EndReady : {F : Type 0} → (World → Type 0) → (F → World) → End F → Type 0
EndReady Ready world (Crashed left) = Unit {0}
EndReady Ready world (Killed cut) = Ready (world cut)

-- from what shows one of these maps, over any number of crashes and kills
abbrev pub ManyLives : {F : Type 0} (R : Type 0) → Knowledge R → (World → Type 0) → (Image → Map → Type 0) → (F → World) → Type 0
ManyLives {F} R Known Ready Shows world = (before : End F) (maps : List Map) → EndReady Ready world before → EndGives world before → AllShow Shows (λ m. IsIn m maps) (MayBe world before)
    → (ends : List (End F)) (lives : LifeAfterLife R Known Ready Shows world before ends) → AllGoWell R Known Ready Shows world (λ m. IsIn m maps) before ends lives

-- ---- what is known of a way of writing versions into files

-- a store that begins with an image which shows a map is taken by opening, and gives what shows the map
abbrev pub CrashesSettle : {F : Type 0} → (World → Type 0) → (Image → Map → Type 0) → (F → World) → Type 0
CrashesSettle {F} Ready Shows world = (store : F) (image : Image) (m : Map) → Shows image m → Begins image (world store) → Ready (world store) × Shows (world store).gives m

pub record Reads {F : Type 0} (Ready : World → Type 0) (Shows : Image → Map → Type 0) (world : F → World) : Type 0 where
  pub crashes : CrashesSettle Ready Shows world
  -- what opening takes is a matter of the files
  pub resumes : (old new : F) → Resumes (world old) (world new) → Ready (world old) → Ready (world new)
  -- and so is the map, of which an image shows one
  pub same : (a b : Image) (m : Map) → ((n : List ℕ) → b n ≡ a n) → Shows a m → Shows b m
  pub once : (image : Image) (m n : Map) → Shows image m → Shows image n → m ≡ n

abbrev pub LivesGoOn : {F : Type 0} (R : Type 0) → Knowledge R → (World → Type 0) → (Image → Map → Type 0) → (F → World) → Type 0
LivesGoOn R Known Ready Shows world = Reads Ready Shows world → ManyLives R Known Ready Shows world

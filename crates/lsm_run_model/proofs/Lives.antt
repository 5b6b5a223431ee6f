-- Life after life.
use Rattle.std.proofs.Common.{List, [], ◌∷◌, take, refl, subst}
use Rattle.lsm_below.specs.Members.{IsIn}
use Rattle.lsm_store.specs.World.{Image, World, IsImage}
use Rattle.lsm_model.specs.Journal.{Map}
use Rattle.lsm_model.specs.Beginnings.{covered}
use Rattle.lsm_run_model.specs.Outcomes.{nothing, after_all}
use Rattle.lsm_run_model.specs.Moments.{HoldsBeginning, last_of}
use Rattle.lsm_run_model.specs.Lives.{End, Crashed, Killed, MayBe, TakesUp, EndGives, EndsIn, IsKill, LeavesReady, Knowledge, AllShow, EachShows, Lived, OneLife, Opening, Running, LifeAfterLife, LeavesOpen, AllGoWell, EndReady, Reads, ManyLives}
use Rattle.lsm_run_model.proofs.Following.{moments_since}

module _ {F : Type 0} (R : Type 0) (Known : Knowledge R) (Ready : World → Type 0) (Shows : Image → Map → Type 0) (world : F → World) where
  left_holds : (m : Map) (end : End F) (life : Lived R Known Ready Shows world m end) (image : Image) → MayBe world end image
      → HoldsBeginning Shows m (after_all life.opened nothing life.told) (covered (after_all life.opened nothing (take life.answered life.told)).notes) image
  left_holds m end life image may = moments_since R Shows world life.opened m nothing life.told life.first life.stores life.answered life.moments image (life.ended.each image may)

  -- a kill in a call left a store that opening takes, of whose images reads give one
  pub record Goes (end : End F) : Type 0 where
    pub ready : EndReady Ready world end
    pub gives : EndGives world end

  goes : (was is : F) (end : End F) → EndsIn world (world was) (world is) end → (IsKill end → LeavesReady Ready world was is) → Goes end
  goes was is (Crashed left) ends ready = record { ready = tt; gives = tt }
  goes was is (Killed cut) ends ready = record { ready = ready tt cut ends; gives = ends.gives }

  life_goes : (m : Map) (begun : F) (end : End F) → OneLife R Known Ready Shows world m begun end → Goes end
  life_goes m begun end (Opening ended leaves came ready) = goes begun ended end came ready
  life_goes m begun end (Running life) = goes (last_of life.first (take life.answered life.stores)) (last_of life.first life.stores) end life.ended life.ready

  module _ (reads : Reads Ready Shows world) where
    -- what a store takes up shows what was left open, whatever a crash leaves of it, and reads give one of these
    pub record Taken (P : Map → Type 0) (store : F) : Type 0 where
      pub ready : Ready (world store)
      pub all : AllShow Shows P (IsImage (world store).may)
      pub map : Map
      pub shows : Shows (world store).gives map
      pub among : P map

    taken : (P : Map → Type 0) (before : End F) (store : F) → Goes before → AllShow Shows P (MayBe world before) → TakesUp world before store → Taken P store
    taken P (Crashed left) store can all begins =
        let one = all left refl in
        let here = reads.crashes store left one.0 one.1 begins in
        record {
          ready = here.0;
          all = λ image is. (one.0, reads.same left image one.0 (λ n. (begins.may n (image n)).0 (is n)) one.1, one.2);
          map = one.0;
          shows = here.1;
          among = one.2;
        }
    taken P (Killed cut) store can all resumes =
        let one = all (world cut).gives can.gives in
        record {
          ready = reads.resumes cut store resumes can.ready;
          all = λ image is. all image (λ n. (resumes.may n (image n)).0 (is n));
          map = one.0;
          shows = reads.same (world cut).gives (world store).gives one.0 resumes.gives one.1;
          among = one.2;
        }

    one_well : (P : Map → Type 0) (m : Map) (begun : F) (end : End F) (life : OneLife R Known Ready Shows world m begun end) → AllShow Shows P (IsImage (world begun).may)
        → AllShow Shows (LeavesOpen R Known Ready Shows world m begun end P life) (MayBe world end)
    one_well P m begun end (Opening ended leaves came ready) all image may =
        let s = leaves.each image (came.each image may) in
        let o = all s.old s.possible in
        (s.map, s.shows, subst P (reads.once s.old o.0 s.map o.1 s.same) o.2)
    one_well P m begun end (Running life) all image may = let h = left_holds m end life image may in (h.map, h.shows, h.begins)

    all_well : (P : Map → Type 0) (before : End F) → Goes before → AllShow Shows P (MayBe world before)
        → (ends : List (End F)) (lives : LifeAfterLife R Known Ready Shows world before ends) → AllGoWell R Known Ready Shows world P before ends lives
    all_well P before can all [] lives = tt
    all_well P before can all (end ∷ more) lives =
        let here = taken P before lives.0.store can all lives.0.takes in
        let each : EachShows Shows (world lives.0.store) = λ image is. let a = here.all image is in (a.0, a.1) in
        let life = lives.0.life here.map here.ready here.shows each in
        let left = one_well P here.map lives.0.store end life here.all in
        (here.map, here.ready, here.shows, each, here.among, left, all_well (LeavesOpen R Known Ready Shows world here.map lives.0.store end P life) end (life_goes here.map lives.0.store end life) left more lives.1)

  pub any_number : Reads Ready Shows world → ManyLives R Known Ready Shows world
  any_number reads before maps ready gives all ends lives = all_well reads (λ m. IsIn m maps) before (record { ready = ready; gives = gives }) all ends lives

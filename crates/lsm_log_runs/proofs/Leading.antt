-- How a call that leads by acts goes on from what stands, and what a crash leaves in it and after it.
use Rattle.std.proofs.Common.{◌≡◌, ◌⊎◌, ⊎_elim, inl, inr, ℕ, ◌≤◌, ◌^◌, true, List, [], ◌++◌, Option, refl, sym, ap, ◌∙◌, subst, arith}
use Rattle.std.specs.List.{AllByRecursion}
use Rattle.lsm_below.specs.Entries.{Entry}
use Rattle.lsm_store.specs.World.{Image, World, IsImage, LeavesOnly}
use Rattle.lsm_store.specs.Moments.{weakened}
use Rattle.lsm_model.specs.Journal.{Event, InOrder}
use Rattle.lsm_model.specs.Beginnings.{Note, Saved}
use Rattle.lsm_model.proofs.Crashes.{is_in_behind}
use Rattle.lsm_logged.specs.Levels.{SeenVersion}
use Rattle.lsm_manifest.specs.Finding.{FoundOnce, UnreadNamesDontMatter}
use Rattle.lsm_commit.specs.Foreign.{AtRest}
use Rattle.lsm_commit.specs.Opening.{StoredIsReady}
use Rattle.lsm_commit.specs.Stored.{HoldsOneOf}
use Rattle.lsm_log_model.specs.Logs.{Logged as Log, LostBatch, Act, MayLeave, IsCertain}
use Rattle.lsm_log_model.specs.Numbered.{AreBelow}
use Rattle.lsm_log_model.specs.Records.{LogImage, LogStands, logged, opened_by}
use Rattle.lsm_run_model.specs.Lives.{LeavesReady}
use Rattle.lsm_run_model.specs.Moments.{LeavesNow}
use Rattle.lsm_runs.specs.Files.{StaysStored}
use Rattle.lsm_runs.proofs.Members.{in_first}
use Rattle.lsm_runs.proofs.Readiness.{holding_ready}
use Rattle.lsm_state.specs.Core.{versions_left, written_of}
use Rattle.lsm_state.proofs.Upholding.{upheld_still}
use Rattle.lsm_logged.specs.Acting.{HoldsLog, LeadsBy}
use Rattle.lsm_logged.specs.Images.{RecordsAreThoseRead, VersionIsToldOnce}
use Rattle.lsm_logged.specs.Keeping.{SeenLogged, IsLogOf, KeepsLog}
use Rattle.lsm_logged.specs.Meanwhile.{ReadsVersion}
use Rattle.lsm_logged.specs.Opening.{CanBeSettled}
use Rattle.lsm_logged.proofs.NoActs.{unsure_not}
use Rattle.lsm_log_runs.specs.CameAbout.{LogCameAbout}
use Rattle.lsm_log_runs.specs.Images.{HoldsLogged, HoldsPast, Keeps, KeepsAll, IsSmall, LogMayBeOpened}
use Rattle.lsm_log_runs.specs.LoggedRuns.{SparesAnswers}
use Rattle.lsm_log_runs.specs.Pasts.{LogPast, acknowledged, past_of}
use Rattle.lsm_log_runs.specs.Stages.{StageKeeps}
use Rattle.lsm_log_runs.specs.Standing.{StandsLogged}
use Rattle.lsm_log_runs.proofs.Advancing.{Advances, advances_apart}
use Rattle.lsm_log_runs.proofs.Beside.{IsBeside, beside}
use Rattle.lsm_log_runs.proofs.Going.{Theory, tree_order, goes_on, counter_on, log_sound, left_stands, left_inside, left_now, left_whole, holds_on}
use Rattle.lsm_log_runs.proofs.Images.{held_weaker, holds_may, reads_no_lower}
use Rattle.lsm_log_runs.proofs.Numbers.{IsBatchBelow, acts_below}
use Rattle.lsm_log_runs.proofs.Settling.{stands_opens}
use Rattle.lsm_log_runs.proofs.Under.{Bounds}
use Rattle.lsm_log_runs.proofs.Sparing.{ForgetLast, acts_spared, spares_by}

-- what is known of images, beside the theory
pub record Reading : Type 0 where
  pub theory : Theory
  pub once : VersionIsToldOnce
  pub those : RecordsAreThoseRead
  pub found : FoundOnce
  pub unread : UnreadNamesDontMatter

-- what is known of a store between two lives
pub record Stores {S : Type 0} (world : S → World) : Type 0 where
  pub ready : StoredIsReady S world
  pub kept : (store : S) (log : Log) (from : ℕ) → KeepsLog (world store) log → log.log_from ≤ from → CanBeSettled (world store) from
  pub gives_one : (store : S) (name : List ℕ) → (world store).may name ((world store).gives name)
  pub counts_now : (store : S) (t : ℕ) (image : Image) → t ≤ (world store).moment → IsImage (world store).may image → (world store).since t image
  pub rests : (store : S) → AtRest (world store)

-- what is known of a step's files: they stay stored, and it makes at most one version
pub record StepFiles {S : Type 0} (world : S → World) (old new : SeenLogged S) : Type 0 where
  pub stays : StaysStored (world old.store) (world new.store) old.core new.core
  pub makes : Advances old.core new.core

-- of a version from before or after
pub either_holds : (xs ys : List SeenVersion) (image : Image) → HoldsOneOf xs image ⊎ HoldsOneOf ys image → HoldsOneOf (xs ++ ys) image
either_holds xs ys image (inl h) = (h.0, in_first h.0 xs ys h.1, h.2, h.3)
either_holds xs ys image (inr h) = (h.0, is_in_behind h.0 xs ys h.1, h.2, h.3)

-- what was called is that of the tree, part by part
pub past_eq : (t : Log) (p : LogPast) → t.tree.state.journal ≡ p.journal → t.tree.notes ≡ p.notes → t.reached ≡ p.reached → t.lost ≡ p.lost → past_of p.known p.begun t ≡ p
past_eq t p journal notes reached lost =
    ap (λ (j : List Event). record { journal = j; notes = t.tree.notes; reached = t.reached; lost = t.lost; known = p.known; begun = p.begun }) journal
    ∙ ap (λ (n : List Note). record { journal = p.journal; notes = n; reached = t.reached; lost = t.lost; known = p.known; begun = p.begun }) notes
    ∙ ap (λ (r : ℕ). record { journal = p.journal; notes = p.notes; reached = r; lost = t.lost; known = p.known; begun = p.begun }) reached
    ∙ ap (λ (l : Option LostBatch). record { journal = p.journal; notes = p.notes; reached = p.reached; lost = l; known = p.known; begun = p.begun }) lost

module _ {S : Type 0} (world : S → World) (reading : Reading) (between : Stores world) (image : LogImage) where
  abbrev opened : List Entry
  opened = opened_by image

  beside_it : (past : LogPast) (t : Log) → LogCameAbout image past t → IsBeside opened t
  beside_it past t came = beside opened image came.first came.acts t came.reopened came.done

  -- an image with a version of the tree and its log is one that the logged tree of the theory may leave
  held_may : (past : LogPast) (t : SeenLogged S) (log : Log) → LogCameAbout image past log → IsLogOf past.journal past.notes t.core t.doubted log → (left : Image) → HoldsLog t.core log left → HoldsLogged (MayLeave log) left
  held_may past t log came is left holds = holds_may reading.once reading.those past.journal past.notes t.core t.doubted log is (log_sound reading.theory image past log came) (beside_it past log came).other (λ x may. (left_stands reading.theory image past log x came may).stands) left holds

  low_read : (past : LogPast) (t : SeenLogged S) (log : Log) → LogCameAbout image past log → IsLogOf past.journal past.notes t.core t.doubted log → (left : Image) → HoldsLog t.core log left → (v : SeenVersion) → ReadsVersion left v → log.log_from ≤ v.log_from
  low_read past t log came is left holds v reads = reads_no_lower reading.once reading.those past.journal past.notes t.core t.doubted log is (log_sound reading.theory image past log came) (beside_it past log came).other (λ x may. (left_stands reading.theory image past log x came may).stands) left holds v reads

  -- ---- now

  -- a crash leaves the log beside a version
  leaves_log : (past : LogPast) (t : SeenLogged S) (s : StandsLogged world image past t) → AtRest (world t.store) → (left : Image) → (world t.store).since (world t.store).moment left → HoldsLog t.core s.log left
  leaves_log past t s rest left since =
      let w = world t.store in
      let l = unsure_not world (record { store = t.store; core = t.core }) t.numbers t.doubted t refl (upheld_still w t.core t.core refl refl rest) opened past.journal past.notes s.log s.is s.keeps in
      ⊎_elim (λ (h : HoldsLog t.core s.log left). h) (λ (h : HoldsLog t.core l.log left). subst (λ (x : Log). HoldsLog t.core x left) l.done h) ((l.moments s.stored).each left since)

  pub keeps_now : (past : LogPast) (t : SeenLogged S) → StandsLogged world image past t → AtRest (world t.store) → LeavesNow (world t.store) (Keeps opened (logged image) past (acknowledged past) t.core.seqno)
  keeps_now past t s rest left since =
      held_weaker (MayLeave s.log) (HoldsPast opened (logged image) past (acknowledged past) t.core.seqno) left (λ x may. left_now reading.theory image past s.log t.core.seqno x s.came (s.next, s.under) may)
      (held_may past t s.log s.came s.is left (leaves_log past t s rest left since))

  pub keeps_all : (past : LogPast) (t : SeenLogged S) → StandsLogged world image past t → AtRest (world t.store) → past.known ≡ true → LeavesNow (world t.store) (KeepsAll (logged image) past)
  keeps_all past t s rest known left since =
      held_weaker (MayLeave s.log) _ left (λ x may. left_whole reading.theory image past s.log x s.came known may)
      (held_may past t s.log s.came s.is left (leaves_log past t s rest left since))

  -- and another process opens the store
  pub opens_now : (past : LogPast) (t : SeenLogged S) → StandsLogged world image past t → AtRest (world t.store) → LogMayBeOpened (world t.store)
  opens_now past t s rest =
      let w = world t.store in
      let beside_versions : (left : Image) → IsImage w.may left → HoldsLog t.core s.log left = λ left may. leaves_log past t s rest left (between.counts_now t.store w.moment left (omega arith) may) in
      let leaves : (left : Image) → IsImage w.may left → HoldsLogged (MayLeave s.log) left = λ left may. held_may past t s.log s.came s.is left (beside_versions left may) in
      record {
        read = record {
          ready = between.ready t.store (versions_left t.core) (written_of t.core) s.stored;
          stands = λ left may. held_weaker (MayLeave s.log) LogStands left (λ x m. left_stands reading.theory image past s.log x s.came m) (leaves left may);
          settles = λ left v may reads. between.kept t.store s.log v.log_from s.keeps (low_read past t s.log s.came s.is left (beside_versions left may) v reads);
        };
        small = λ left may. held_weaker (MayLeave s.log) IsSmall left (λ x m. (left_now reading.theory image past s.log t.core.seqno x s.came (s.next, s.under) m).numbered (2 ^ 63) s.small) (leaves left may);
      }

  -- ---- a call

  -- what comes of it
  pub record Led (past next : LogPast) (old new : SeenLogged S) : Type 0 where
    pub stands : StandsLogged world image next new
    pub inside : LeavesOnly (world old.store) (world new.store) (Keeps opened (logged image) next (acknowledged past) new.core.seqno)
    pub then : StageKeeps world opened (logged image) (record { at = new.store; past = next; counter = new.core.seqno })
    pub versions : LeavesOnly (world old.store) (world new.store) (HoldsOneOf (versions_left old.core ++ versions_left new.core))
    pub spares : SparesAnswers past next old.core new.core

  -- what holds of a tree that stands
  pub stage_keeps : (past : LogPast) (t : SeenLogged S) → StandsLogged world image past t → AtRest (world t.store) → StageKeeps world opened (logged image) (record { at = t.store; past = past; counter = t.core.seqno })
  stage_keeps past t s rest = record { now = keeps_now past t s rest; whole = keeps_all past t s rest; again = opens_now past t s rest; small = s.small }

  -- so a process may be killed in it
  pub killed : (past next : LogPast) (old new : SeenLogged S) → StandsLogged world image past old → Advances old.core new.core → Led past next old new → LeavesReady LogMayBeOpened world old.store new.store
  killed past next old new s makes led cut ends =
      stands_opens reading.found reading.unread (world cut)
      (λ left may. held_weaker _ LogStands left (λ x holds. holds.recovers.stands) (led.inside.each left (ends.each left may)))
      (λ left may. held_weaker _ IsSmall left (λ x holds. holds.numbered (2 ^ 63) led.stands.small) (led.inside.each left (ends.each left may)))
      (holding_ready reading.found (versions_left old.core ++ versions_left new.core) (advances_apart old.core new.core makes s.apart) (world cut) (λ left may. led.versions.each left (ends.each left may)))

  module _ (past next : LogPast) (old new : SeenLogged S) (s : StandsLogged world image past old) (acts : List Act) (l : LeadsBy opened next.journal next.notes s.log acts (world old.store) (world new.store) old new) (is : past_of next.known next.begun l.log ≡ next)
      (order : InOrder opened next.journal) (certain : next.known ≡ true → IsCertain l.log) (stored : StepFiles world old new) (small : AllByRecursion (IsBatchBelow (2 ^ 63)) acts) where
    came_on : LogCameAbout image next l.log
    came_on = goes_on reading.theory image past next s.log l.log acts s.came l.done order is certain

    small_on : AreBelow (2 ^ 63) opened next.journal next.lost
    small_on =
        let before = subst (λ (p : LogPast). AreBelow (2 ^ 63) opened p.journal p.lost) (sym s.came.past_is) s.small in
        subst (λ (p : LogPast). AreBelow (2 ^ 63) opened p.journal p.lost) is (acts_below (2 ^ 63) opened s.log acts l.log l.done small before)

    bounds_on : Bounds opened l.log new.core.seqno
    bounds_on = counter_on reading.theory image past next s.log l.log acts old.core.seqno new.core.seqno s.came l.done is order (s.next, s.under) l.counter l.drawn

    pub stands_on : StandsLogged world image next new
    stands_on = record {
      log = l.log;
      came = came_on;
      is = l.is;
      keeps = l.keeps;
      next = bounds_on.0;
      under = bounds_on.1;
      stored = stored.stays s.stored;
      apart = λ v w i j. advances_apart old.core new.core stored.makes s.apart v w (is_in_behind v (versions_left old.core) (versions_left new.core) i) (is_in_behind w (versions_left old.core) (versions_left new.core) j);
      small = small_on;
    }

    holds_in : (left : LogImage) → MayLeave s.log left ⊎ MayLeave l.log left → HoldsPast opened (logged image) next (acknowledged past) new.core.seqno left
    holds_in left may = left_inside reading.theory image past next s.log l.log acts old.core.seqno new.core.seqno left s.came (s.next, s.under) bounds_on l.counter l.done is order may

    left_in : (left : Image) → HoldsLog old.core s.log left ⊎ HoldsLog new.core l.log left → Keeps opened (logged image) next (acknowledged past) new.core.seqno left
    left_in left either = ⊎_elim
        (λ (h : HoldsLog old.core s.log left). held_weaker (MayLeave s.log) (HoldsPast opened (logged image) next (acknowledged past) new.core.seqno) left (λ x may. holds_in x (inl may)) (held_may past old s.log s.came s.is left h))
        (λ (h : HoldsLog new.core l.log left). held_weaker (MayLeave l.log) (HoldsPast opened (logged image) next (acknowledged past) new.core.seqno) left (λ x may. holds_in x (inr may)) (held_may next new l.log came_on l.is left h))
        either

    pub spared : ForgetLast acts → SparesAnswers past next old.core new.core
    spared last =
        spares_by past next old.core new.core s.log.tree.state l.log.tree.state (ap (λ (t : Saved). t.state) s.is.tree) (ap (λ (t : Saved). t.state) l.is.tree)
        (acts_spared reading.theory.sound opened (logged image) acts last s.log l.log l.done (tree_order reading.theory image next l.log is order) (holds_on reading.theory image past s.log s.came))

    pub leads_on : ForgetLast acts → AtRest (world new.store) → Led past next old new
    leads_on last rest = record {
      stands = stands_on;
      inside = weakened (world old.store) (world new.store) (λ left. HoldsLog old.core s.log left ⊎ HoldsLog new.core l.log left) (Keeps opened (logged image) next (acknowledged past) new.core.seqno) (l.moments s.stored) left_in;
      then = stage_keeps next new stands_on rest;
      versions = weakened (world old.store) (world new.store) (λ left. HoldsLog old.core s.log left ⊎ HoldsLog new.core l.log left) (HoldsOneOf (versions_left old.core ++ versions_left new.core)) (l.moments s.stored)
          (λ left either. either_holds (versions_left old.core) (versions_left new.core) left (⊎_elim (λ (h : HoldsLog old.core s.log left). inl h.0) (λ (h : HoldsLog new.core l.log left). inr h.0) either));
      spares = spared last;
    }

  -- where nothing is done
  pub nothing_stands : (past : LogPast) (old new : SeenLogged S) (s : StandsLogged world image past old) → LeadsBy opened past.journal past.notes s.log [] (world old.store) (world new.store) old new → StepFiles world old new → StandsLogged world image past new
  nothing_stands past old new s l stored =
      stands_on past past old new s [] l (ap (past_of past.known past.begun) l.done ∙ s.came.past_is) s.came.order (λ known. subst IsCertain (sym l.done) (s.came.certain known)) stored tt

  pub nothing_led : (past : LogPast) (old new : SeenLogged S) (s : StandsLogged world image past old) → LeadsBy opened past.journal past.notes s.log [] (world old.store) (world new.store) old new → StepFiles world old new → AtRest (world new.store) → Led past past old new
  nothing_led past old new s l stored rest =
      leads_on past past old new s [] l (ap (past_of past.known past.begun) l.done ∙ s.came.past_is) s.came.order (λ known. subst IsCertain (sym l.done) (s.came.certain known)) stored tt tt rest

  -- where the tree is as it was
  pub still_led : (past : LogPast) (old : SeenLogged S) → StandsLogged world image past old → AtRest (world old.store) → Led past past old old
  still_led past old s rest =
      let w = world old.store in
      nothing_led past old old s (unsure_not world (record { store = old.store; core = old.core }) old.numbers old.doubted old refl (upheld_still w old.core old.core refl refl rest) opened past.journal past.notes s.log s.is s.keeps) (record { stays = λ h. h; makes = inl refl }) rest

  pub same_led : (past : LogPast) (old new : SeenLogged S) → StandsLogged world image past old → AtRest (world new.store) → new ≡ old → Led past past old new
  same_led past old new s rest is = subst (λ (t : SeenLogged S). Led past past old t) (sym is) (still_led past old s (subst (λ (t : SeenLogged S). AtRest (world t.store)) is rest))

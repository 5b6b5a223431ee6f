-- What each life leaves begins the next one.
use Rattle.std.proofs.Common.{◌≡◌, ◌⊎◌, inl, inr, ℕ, ◌≤◌, List, [], ◌∷◌, refl, sym, subst, arith}
use Rattle.std.specs.List.{AllByRecursion}
use Rattle.lsm_below.specs.Each.{each_weaker}
use Rattle.lsm_below.specs.Entries.{Entry}
use Rattle.lsm_store.specs.World.{Image, World, IsImage}
use Rattle.lsm_model.specs.Journal.{Event, Map}
use Rattle.lsm_model.specs.declared.op.Op.TheVariants.{Weak}
use Rattle.lsm_log_model.specs.Records.{LogImage, logged, opened_by}
use Rattle.lsm_logged.specs.Opening.{image_read}
use Rattle.lsm_manifest.specs.Finding.{FoundOnce, UnreadNamesDontMatter}
use Rattle.lsm_run_model.specs.Lives.{End, Crashed, Killed, EndsIn, TakesUp, LeavesReady}
use Rattle.lsm_run_model.specs.Moments.{last_of}
use Rattle.lsm_runs.specs.declared.steps.Reply.{Reply}
use Rattle.lsm_runs.specs.Dropping.{Drops}
use Rattle.lsm_log_runs.specs.declared.steps.LogStep.{LogStep}
use Rattle.lsm_log_runs.specs.declared.steps.LogStep.TheVariants.{Write}
use Rattle.lsm_log_runs.specs.Images.{Keeps, LogMayBeOpened}
use Rattle.lsm_log_runs.specs.Lives.{IsUsualCall, before_last, LoggedLife, GoesWell, OpeningLife, OpeningsAreLoggedLives, LoggedLives, LeavesWell, AllGoWell}
use Rattle.lsm_log_runs.specs.Living.{opened_at, EachKeeps, CrashedLogsOpen}
use Rattle.lsm_log_runs.specs.Pasts.{acknowledged}
use Rattle.lsm_log_runs.specs.Stages.{CalledStage, MayBeTried, StageKeeps}
use Rattle.lsm_log_runs.specs.Trying.{IsOverOne}
use Rattle.lsm_log_runs.proofs.Crashed.{given_is, begins_given, still_kept}
use Rattle.lsm_log_runs.proofs.Settling.{less_opens}

-- a usual step may be tried
pub tried : (opened : List Entry) (journal : List Event) (x : LogStep) → IsUsualCall x → MayBeTried opened journal x
tried opened journal (Write ops) usual = each_weaker (λ p. p.1 ≡ Weak → ⊥) (IsOverOne opened journal) (λ p none weak. absurd (none weak)) ops usual
tried opened journal x usual = tt

module _ {F : Type 0} (May : Drops) (world : F → World) (only_now : (store : F) (image : Image) → (world store).since (world store).moment image → IsImage (world store).may image) (once : FoundOnce) (unread : UnreadNamesDontMatter) (crashes : CrashedLogsOpen world) where
  -- what holds of the last stage of usual steps, and in the last step
  record Reached (opened : List Entry) (start : Map) (before last : CalledStage F) : Type 0 where
    later : (world before.at).moment ≤ (world last.at).moment
    inside : (image : Image) → (world last.at).since (world before.at).moment image → Keeps opened start last.past (acknowledged before.past) last.counter image
    then : StageKeeps world opened start last
    kills : LeavesReady LogMayBeOpened world before.at last.at

  reach : (opened : List Entry) (start : Map) (steps : List LogStep) (replies : List Reply) (before was : CalledStage F) (stages : List (CalledStage F)) → EachKeeps May world opened start steps replies was stages → AllByRecursion IsUsualCall steps → Reached opened start before was
      → Reached opened start (before_last before was stages) (last_of was stages)
  reach opened start [] [] before was [] each usual here = here
  reach opened start (x ∷ steps) (r ∷ replies) before was (is ∷ stages) each usual here =
      let one = each (tried opened was.past.journal x usual.0) in
      let k = one.0 in
      reach opened start steps replies was is stages one.1 usual.1 (record { later = k.inside.later; inside = k.inside.each; then = k.then; kills = k.kills })
  reach opened start [] [] before was (is ∷ stages) each usual here = absurd each
  reach opened start [] (r ∷ replies) before was stages each usual here = absurd each
  reach opened start (x ∷ steps) [] before was stages each usual here = absurd each
  reach opened start (x ∷ steps) (r ∷ replies) before was [] each usual here = absurd each

  -- what a kill leaves where nothing is done
  still_kills : (store : F) → LogMayBeOpened (world store) → LeavesReady LogMayBeOpened world store store
  still_kills store may cut ends = less_opens once unread (world store) (world cut) (λ image at. only_now store image (ends.each image at)) may

  goes_well : (was next : F) (l : LoggedLife May world was next) → GoesWell May world was next l
  goes_well was next l = by l.then.end l.then.ends l.then.takes
    where
      left : LogImage
      left = image_read l.life.version l.life.records

      first : CalledStage F
      first = opened_at l.life.first l.life.counter

      before : CalledStage F
      before = before_last first first l.life.stages

      last : CalledStage F
      last = last_of first l.life.stages

      reached : Reached (opened_by left) (logged left) before last
      reached = reach (opened_by left) (logged left) l.steps l.replies first first l.life.stages l.life.keeps l.usual
          (record { later = omega arith; inside = l.life.begins.now; then = l.life.begins; kills = still_kills l.life.first l.life.begins.again })

      -- the last store is that in which the life ended
      ends_so : (end : End F) → EndsIn world (world before.at) (world l.is) end → EndsIn world (world before.at) (world last.at) end
      ends_so end = subst (λ (f : F). EndsIn world (world before.at) (world f) end) (sym l.life.ends)

      behind : (image : Image) → IsImage (world next).may image → (world l.is).since (world l.is).moment image → Keeps (opened_by left) (logged left) last.past (acknowledged last.past) last.counter image
      behind image may since = reached.then.now image (subst (λ (f : F). (world f).since (world f).moment image) (sym l.life.ends) since)

      by : (end : End F) → EndsIn world (world before.at) (world l.is) end → TakesUp world end next → GoesWell May world was next l
      by (Crashed at) ends begins =
          let keeps = subst (Keeps (opened_by left) (logged left) last.past (acknowledged before.past) last.counter) (sym (given_is (world next) at begins)) (reached.inside at ((ends_so (Crashed at) ends).each at refl)) in
          let given = begins_given (world next) at begins in
          record {
            opens = (crashes (opened_by left) (logged left) last.past (acknowledged before.past) last.counter next given keeps).1 reached.then.small;
            keeps = still_kept (opened_by left) (logged left) last.past (acknowledged before.past) last.counter (world next) given keeps;
            behind = behind;
          }
      by (Killed cut) ends same =
          let less = λ (image : Image) (may : IsImage (world next).may image) (n : List ℕ). (same.may n (image n)).0 (may n) in
          let so = ends_so (Killed cut) ends in
          record {
            opens = less_opens once unread (world cut) (world next) less (reached.kills cut so);
            keeps = λ image may. reached.inside image (so.each image (less image may));
            behind = behind;
          }

  pub all_go_well : OpeningsAreLoggedLives world → (was : F) (nexts : List F) (lives : LoggedLives May world was nexts) → AllGoWell May world was nexts lives
  all_go_well openings was [] lives = tt
  all_go_well openings was (next ∷ more) lives = (by_life lives.0, all_go_well openings next more lives.1)
    where
      by_life : (one : LoggedLife May world was next ⊎ OpeningLife world was next) → LeavesWell May world was next one
      by_life (inl life) = goes_well was next life
      by_life (inr opening) = openings was next opening

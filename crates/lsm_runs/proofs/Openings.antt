-- A life that ends in its opening.
use Rattle.std.proofs.Common.{◌⊎◌, ⊎_elim, inr, ℕ, ◌≤◌, ◌^◌, subst}
use Rattle.lsm_below.specs.Entries.{above}
use Rattle.lsm_below.specs.Numbers.{PlainNumbersAreRead}
use Rattle.lsm_store.specs.World.{Image, World, IsImage, LeavesOnly}
use Rattle.lsm_store.specs.Moments.{weakened}
use Rattle.lsm_model.specs.Journal.{Map}
use Rattle.lsm_model.specs.Views.{held}
use Rattle.lsm_versions.specs.Levels.{placed_of}
use Rattle.lsm_manifest.specs.Finding.{Finds, FoundOnce}
use Rattle.lsm_manifest.specs.Opening.{LeavesStanding}
use Rattle.lsm_manifest.specs.Ready.{IsReady, IsOldOrRead}
use Rattle.lsm_manifest.proofs.ReadyOpened.{opening_leaves}
use Rattle.lsm_manifest.proofs.Takes.{ImagesAreFirst}
use Rattle.lsm_run_model.specs.Lives.{LeavesReady, Opening, ShowsOld}
use Rattle.lsm_runs.specs.Dropping.{Drops}
use Rattle.lsm_runs.specs.Lives.{OpeningsAreLives}
use Rattle.lsm_runs.specs.Moments.{Reopens}

-- what may be left of a store besides, where this is known of each image already
abbrev with_may : World → World → World
with_may is cut = record { gives = is.gives; may = cut.may; moment = is.moment; since = λ t image. is.since t image ⊎ IsImage cut.may image; failures = is.failures }

widened : (was is cut : World) (P : Image → Type 0) → ((image : Image) → IsImage cut.may image → is.since was.moment image) → LeavesOnly was is P → LeavesOnly was (with_may is cut) P
widened was is cut P each left = record {
  later = left.later;
  each = λ image at. ⊎_elim (λ since. left.each image since) (λ may. left.each image (each image may)) at;
  before = λ t image early at. ⊎_elim (λ since. left.before t image early since) (λ may. inr (left.each image (each image may))) at;
}

widened_standing : (was is cut : World) → ((image : Image) → IsImage cut.may image → is.since was.moment image) → LeavesStanding was is → LeavesStanding was (with_may is cut)
widened_standing was is cut each left = record {
  any_moment = λ id ls named. widened was is cut _ each (left.any_moment id ls named);
  settled_first = λ id ls named. widened was is cut _ each (left.settled_first id ls named);
  stands = λ id ls ts stands pinned. widened was is cut _ each (left.stands id ls ts stands pinned);
  reads = λ v reads pinned. widened was is cut _ each (left.reads v reads pinned);
  new_moment = λ none. widened was is cut _ each (left.new_moment none);
  new_settled = λ none. widened was is cut _ each (left.new_settled none);
}

module _ {F : Type 0} (world : F → World) (first : ImagesAreFirst) (plain : PlainNumbersAreRead) (once : FoundOnce) (one : (store : F) → IsImage (world store).may (world store).gives) (counts : (store : F) (t : ℕ) (image : Image) → t ≤ (world store).moment → IsImage (world store).may image → (world store).since t image) where
  -- a kill meanwhile leaves what opening takes
  cut_ready : (was is : F) (m : Map) → IsReady (world was) → Reopens (2 ^ 63) (world was).gives m → LeavesStanding (world was) (world is) → LeavesReady IsReady world was is
  cut_ready was is m ready shows left cut ends =
      let mid = with_may (world is) (world cut) in
      let again = (opening_leaves first plain (world was) shows.stands.levels ready (one was) shows.stands.found mid (widened_standing (world was) (world is) (world cut) ends.each left) (λ t image early may. inr may)).again in
      record { found = again.found; once = again.once; none = again.none }

  -- an image with the tables that were read shows the map that they show
  read_shows : (a b : Image) (m : Map) (shows : Reopens (2 ^ 63) a m) → Finds b shows.stands.levels → Reopens (2 ^ 63) b m
  read_shows a b m shows found = record {
    stands = record { levels = shows.stands.levels; found = found; ordered = shows.stands.ordered; single = shows.stands.single; shows = shows.stands.shows };
    below = λ levels also. subst (λ ls. above (held (placed_of ls)) ≤ 2 ^ 63) (once b shows.stands.levels levels found also) (shows.below shows.stands.levels shows.stands.found);
  }

  pub openings_are_lives : (May : Drops) → OpeningsAreLives May world
  openings_are_lives May was is m end ready shows each left ends =
      let opening = opening_leaves first plain (world was) shows.stands.levels ready (one was) shows.stands.found (world is) left (counts is) in
      Opening is
      (weakened (world was) (world is) (IsOldOrRead (world was) shows.stands.levels) (ShowsOld (Reopens (2 ^ 63)) (world was)) opening.meanwhile (λ image at. ⊎_elim
      (λ may. let s = each image may in record { map = s.0; shows = s.1; old = image; possible = may; same = s.1 })
      (λ found. record { map = m; shows = read_shows (world was).gives image m shows found; old = (world was).gives; possible = one was; same = shows }) at))
      ends (λ kill. cut_ready was is m ready shows left)

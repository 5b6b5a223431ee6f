-- What stands is refused only for want of memory, a fault of the store, or a number of 2^63 or more; and where none is, not for that.
use Rattle.std.proofs.Common.{◌≡◌, ◌≤◌, ◌^◌, max, reverse, Err, inl, inr, refl, sym, subst, arith}
use Rattle.lsm_below.specs.Entries.{above}
use Rattle.lsm_below.specs.declared.error.Error.{Error}
use Rattle.lsm_below.specs.declared.error.Error.TheVariants.{OutOfMemory, Store, CommitUnknown, OutOfNumbers}
use Rattle.lsm_store.specs.World.{Image, World, IsImage}
use Rattle.lsm_model.specs.Views.{held}
use Rattle.lsm_versions.specs.TableLaws.{above-append}
use Rattle.lsm_logged.specs.Levels.{Levels as SeenLevels, placed_of}
use Rattle.lsm_manifest.specs.Finding.{FoundOnce, OpeningFinds, RefusesFound}
use Rattle.lsm_manifest.specs.Opening.{Opens, OpensFiles, OpensNew}
use Rattle.lsm_manifest.specs.Told.{TellsOpen, told_weaker}
use Rattle.lsm_log_model.specs.Records.{counted, entries_in, opened_by}
use Rattle.lsm_logged.specs.Opening.{RefusesLogged, Files, Memory, Faulty, BadLog, image_read}
use Rattle.lsm_log_runs.specs.Images.{HoldsLogged, IsSmall, CanBeRead, LogMayBeOpened, IsWantOf}
use Rattle.lsm_log_runs.proofs.Numbers.{small_levels}

-- what is found below 2^63 is refused for no number
wanted : FoundOnce → (image : Image) (e : Error) → HoldsLogged IsSmall image → RefusesFound image e → IsWantOf e
wanted once image OutOfMemory small refuses = inl refl
wanted once image Store small refuses = inr (inl refl)
wanted once image CommitUnknown small refuses = inr (inr refl)
wanted once image OutOfNumbers small refuses =
    let v = small.finds.version in
    let left = image_read v small.log.0 in
    let all : above (opened_by left) ≤ 2 ^ 63 = small.reads v small.log.0 small.log.1 in
    let both : above (opened_by left) ≡ max (above (reverse (entries_in (counted left)))) (above (held left.tables)) = above-append (reverse (entries_in (counted left))) (held left.tables) in
    let tables : above (held left.tables) ≤ 2 ^ 63 = omega (arith, all, both) in
    let here : above (held (placed_of refuses.0)) ≤ 2 ^ 63 = subst (λ (ts : SeenLevels). above (held (placed_of ts)) ≤ 2 ^ 63) (once image v.levels refuses.0 small.finds.found refuses.1) tables in
    absurd (refuses.2 (small_levels refuses.0 here))
wanted once image e small refuses = absurd refuses

module _ {F : Type 0} (world : F → World) (finds : OpeningFinds F world) (once : FoundOnce) (one : (store : F) → IsImage (world store).may (world store).gives) where
  found : (old new : F) (e : Error) → RefusesLogged (world old) (world new) e → CanBeRead (world old) → RefusesFound (world old).gives e
  found old new e (Files told) may =
      let w = world old in
      let h = may.stands w.gives (one old) in
      finds old new h.finds.version.levels (Err e) h.finds.found
      (λ none there. told_weaker TellsOpen (Opens w (world new)) (OpensFiles w.gives) (Err e) (λ q opens. opens.opens none there) told)
      (λ none new_one. told_weaker TellsOpen (Opens w (world new)) (OpensNew w (world new)) (Err e) (λ q opens. opens.fresh none new_one) told)
  found old new e (Memory is) may = subst (RefusesFound (world old).gives) (sym is) tt
  found old new e (Faulty is failed) may = subst (RefusesFound (world old).gives) (sym is) tt
  found old new e (BadLog is bad) may = absurd ((may.stands (world old).gives (one old)).good bad.version bad.read bad.bad)

  pub taken : (old new : F) (e : Error) → RefusesLogged (world old) (world new) e → (CanBeRead (world old) → RefusesFound (world old).gives e) × (LogMayBeOpened (world old) → IsWantOf e)
  taken old new e refuses = (found old new e refuses, λ may. wanted once (world old).gives e (may.small (world old).gives (one old)) (found old new e refuses may.read))

-- Chains of trees and stores.
use Rattle.std.proofs.Common.{◌≡◌, List, [], ◌∷◌, ◌++◌, refl, sym, subst}
use Rattle.lsm_store.specs.World.{World}
use Rattle.lsm_run_model.specs.Moments.{last_of}
use Rattle.lsm_runs.specs.declared.steps.Step.{Step as Call}
use Rattle.lsm_runs.specs.Chains.{Point, KeepsFiles, RanAlong, RanTo}
use Rattle.lsm_runs.specs.Compacting.{Strategies}
use Rattle.lsm_runs.specs.Runs.{Takes}
use Rattle.lsm_runs.specs.Told.{Told}

last_more : {A : Type 0} (old new : A) (points : List A) → last_of old (points ++ new ∷ []) ≡ new
last_more old new [] = refl
last_more old new (p ∷ points) = last_more p new points

module _ {F : Type 0} (world : F → World) (strategies : Strategies) (x : Call) (t : Told) (new : Point F) where
  along_more : (xs : List Call) (ts : List Told) (old : Point F) (points : List (Point F)) → RanAlong world strategies xs ts old points → Takes strategies x t.reply t.entries (last_of old points).stage new.stage
      → KeepsFiles world x t.reply (last_of old points).store new.store (last_of old points).stage.core new.stage.core → RanAlong world strategies (xs ++ x ∷ []) (ts ++ t ∷ []) old (points ++ new ∷ [])
  along_more [] [] old [] r takes keeps = (takes, keeps, tt)
  along_more (y ∷ xs) (z ∷ ts) old (mid ∷ points) r takes keeps = (r.0, r.1, along_more xs ts mid points r.2 takes keeps)
  along_more xs ts old points r takes keeps = absurd r

  -- one more step
  pub ran_more : (xs : List Call) (ts : List Told) (old mid : Point F) → RanTo world strategies xs ts old mid → Takes strategies x t.reply t.entries mid.stage new.stage → KeepsFiles world x t.reply mid.store new.store mid.stage.core new.stage.core
      → RanTo world strategies (xs ++ x ∷ []) (ts ++ t ∷ []) old new
  ran_more xs ts old mid r takes keeps = record {
    points = r.points ++ new ∷ [];
    ran = along_more xs ts old r.points r.ran
        (subst (λ (p : Point F). Takes strategies x t.reply t.entries p.stage new.stage) (sym r.ends) takes)
        (subst (λ (p : Point F). KeepsFiles world x t.reply p.store new.store p.stage.core new.stage.core) (sym r.ends) keeps);
    ends = last_more old new r.points;
  }

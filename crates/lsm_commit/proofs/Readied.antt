-- A store in which a tree's files are stored is ready.
use Rattle.std.proofs.Common.{◌≡◌, ℕ, List, Option, Some, None, sym, ◌∙◌, subst}
use Rattle.lsm_below.specs.Members.{IsIn}
use Rattle.lsm_store.specs.World.{Image, World, IsImage}
use Rattle.lsm_tables.specs.Tables.{SeenTable}
use Rattle.lsm_versions.specs.Levels.{Levels as SeenLevels, SeenVersion}
use Rattle.lsm_manifest.specs.Names.{current_name}
use Rattle.lsm_manifest.specs.Versions.{named_levels}
use Rattle.lsm_manifest.specs.Finding.{Finds, Named, FoundOnce}
use Rattle.lsm_manifest.specs.Ready.{IsReady}
use Rattle.lsm_commit.specs.Stored.{IsNaming, IsStored}
use Rattle.lsm_commit.proofs.Images.{held_now}

module _ (found_once : FoundOnce) (w : World) (versions : List SeenVersion) (written : List SeenTable) (stored : IsStored w versions written) where
  -- the version that a content of `current` names
  named : (image : Image) → IsImage w.may image → (v : SeenVersion) × IsIn v versions × IsNaming w v (image current_name)
  named image at = stored.current (image current_name) (at current_name)

  -- whatever has that content, its tables are found
  found : (image : Image) → IsImage w.may image → (v : SeenVersion) → IsIn v versions → IsNaming w v (image current_name) → Finds image v.levels
  found image at v among naming = Named v.id (named_levels v.levels) (held_now w versions written image stored at v among naming).0

  once : (a b : Image) (ts : SeenLevels) → IsImage w.may a → IsImage w.may b → b current_name ≡ a current_name → Finds a ts → Finds b ts
  once a b ts at_a at_b same x =
      let n = named a at_a in
      let naming : IsNaming w n.0 (b current_name) = subst (λ (c : Option (List ℕ)). IsNaming w n.0 c) (sym same) n.2 in
      subst (λ (us : SeenLevels). Finds b us) (found_once a n.0.levels ts (found a at_a n.0 n.1 n.2) x) (found b at_b n.0 n.1 naming)

  named_not : (b : Image) → IsImage w.may b → b current_name ≡ None → ⊥
  named_not b at gone = some_not (named b at).2.named gone
    where
      some_not : {x : List ℕ} {o : Option (List ℕ)} → o ≡ Some x → o ≡ None → ⊥
      some_not is not = let bad : Some _ ≡ None = sym is ∙ not in absurd (cc bad)

  pub stored_ready : IsReady w
  stored_ready = record {
    found = λ image at. let n = named image at in (n.0.levels, found image at n.0 n.1 n.2);
    once = once;
    none = λ a b ts at_a at_b gone x. absurd (named_not b at_b gone);
  }

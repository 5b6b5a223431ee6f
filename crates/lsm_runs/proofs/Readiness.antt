-- Stores that opening takes, in a step and between two.
use Rattle.std.proofs.Common.{◌≡◌, ◌⊎◌, ⊎_elim, inl, inr, ℕ, arith, List, ◌++◌, Option, Some, None, option_to_list, is_some, refl, sym, ap, ◌∙◌, subst}
use Rattle.std.specs.List.{AllByRecursion}
use Rattle.lsm_below.specs.Members.{IsIn, each_in}
use Rattle.lsm_store.specs.World.{Image, World, IsImage}
use Rattle.lsm_tables.specs.Sum.{sum_of}
use Rattle.lsm_versions.specs.Levels.{SeenVersion}
use Rattle.lsm_manifest.specs.Names.{current_name}
use Rattle.lsm_manifest.specs.Spelling.{current}
use Rattle.lsm_manifest.specs.Recovery.{Levels, IsNamed}
use Rattle.lsm_manifest.specs.Versions.{named_levels}
use Rattle.lsm_manifest.specs.Finding.{Finds, Named, FoundOnce}
use Rattle.lsm_manifest.specs.Ready.{IsReady}
use Rattle.lsm_manifest.proofs.Readiness.{names_one}
use Rattle.lsm_commit.specs.Stored.{IsStored, HoldsOneOf}
use Rattle.lsm_commit.specs.Opening.{StoredIsReady}
use Rattle.lsm_state.specs.Core.{Core, versions_left, written_of}
use Rattle.lsm_run_model.specs.Lives.{LeavesReady}
use Rattle.lsm_runs.specs.declared.steps.Step.{Step as Call}
use Rattle.lsm_runs.specs.declared.steps.Reply.{Reply}
use Rattle.lsm_runs.specs.Chains.{KeepsFiles}
use Rattle.lsm_runs.specs.Files.{AreApart}
use Rattle.lsm_runs.specs.Moments.{StaysReady}
use Rattle.lsm_runs.proofs.Made.{MakesOne}
use Rattle.lsm_runs.proofs.Members.{in_either}

-- one of which a crash leaves less
pub less_ready : (old new : World) → ((image : Image) → IsImage new.may image → IsImage old.may image) → IsReady old → IsReady new
less_ready old new less ready = record {
  found = λ image is. ready.found image (less image is);
  once = λ a b ts in_a in_b same finds. ready.once a b ts (less a in_a) (less b in_b) same finds;
  none = λ a b ts in_a in_b absent finds. ready.none a b ts (less a in_a) (less b in_b) absent finds;
}

-- what a store's present moment leaves is what a crash may leave now
abbrev pub OnlyNow : {F : Type 0} → (F → World) → Type 0
OnlyNow {F} world = (store : F) (image : Image) → (world store).since (world store).moment image → IsImage (world store).may image

pub stored_stays_ready : {F : Type 0} (world : F → World) → StoredIsReady F world → OnlyNow world → (store : F) (c : Core) → IsStored (world store) (versions_left c) (written_of c) → StaysReady world store
stored_stays_ready world ready only store c stored =
    let here = ready store (versions_left c) (written_of c) stored in
    (here, λ cut ends. less_ready (world store) (world cut) (λ image may. only store image (ends.each image may)) here)

-- ---- versions with ids of their own

-- what names a version is there
names_some : (image : Image) (i : ℕ) (ls : Levels) → IsNamed image i ls → image current_name ≡ None → ⊥
names_some image i ls named gone = let bad : Some (current i (sum_of named.bytes)) ≡ None = sym named.current ∙ gone in absurd (cc bad)

-- a store is ready of which a crash leaves one of them
pub holding_ready : FoundOnce → (versions : List SeenVersion) → AreApart versions → (w : World) → ((image : Image) → IsImage w.may image → HoldsOneOf versions image) → IsReady w
holding_ready once versions apart w holds = record {
  found = λ image may. ((holds image may).0.levels, found image may);
  once = λ a b ts in_a in_b same finds.
      let x = holds a in_a in
      let y = holds b in_b in
      let ids = names_one a b x.0.id y.0.id (named_levels x.0.levels) (named_levels y.0.levels) same x.2.named y.2.named in
      let one = apart x.0 y.0 x.1 y.1 ids in
      subst (Finds b) (ap (λ (v : SeenVersion). v.levels) one ∙ once a x.0.levels ts (found a in_a) finds) (found b in_b);
  none = λ a b ts in_a in_b gone finds. let y = holds b in_b in absurd (names_some b y.0.id (named_levels y.0.levels) y.2.named gone);
}
  where
    found : (image : Image) (may : IsImage w.may image) → Finds image (holds image may).0.levels
    found image may = let h = holds image may in Named h.0.id (named_levels h.0.levels) h.2

-- ---- in a step

module _ (old new : Core) (certain : old.lost ≡ None) (makes : MakesOne old.history.latest.version new) where
  abbrev IsOne : SeenVersion → Type 0
  IsOne v = (v ≡ old.history.latest.version) ⊎ (v ≡ makes.made)

  old_ones : AllByRecursion IsOne (versions_left old)
  old_ones = (inl refl, subst (λ (l : Option SeenVersion). AllByRecursion IsOne (option_to_list l)) (sym certain) tt)

  is_one : (v : SeenVersion) → IsIn v (versions_left old ++ versions_left new) → IsOne v
  is_one v i = ⊎_elim (λ j. each_in IsOne (versions_left old) v old_ones j) (λ j. each_in IsOne (versions_left new) v makes.each j) (in_either v (versions_left old) (versions_left new) i)

  apart : (v w : SeenVersion) → v ≡ old.history.latest.version → w ≡ makes.made → v.id ≡ w.id → ⊥
  apart v w first second same =
      let a : v.id ≡ old.history.latest.version.id = ap (λ (x : SeenVersion). x.id) first in
      let b : w.id ≡ makes.made.id = ap (λ (x : SeenVersion). x.id) second in
      let less = makes.higher in
      absurd (omega (a, b, same, less, arith))

  same_version : (v w : SeenVersion) → IsOne v → IsOne w → v.id ≡ w.id → w ≡ v
  same_version v w (inl a) (inl b) same = b ∙ sym a
  same_version v w (inl a) (inr b) same = absurd (apart v w a b same)
  same_version v w (inr a) (inl b) same = absurd (apart w v b a (sym same))
  same_version v w (inr a) (inr b) same = b ∙ sym a

  -- those before the step and after it
  pub made_apart : AreApart (versions_left old ++ versions_left new)
  made_apart v w i j same = same_version v w (is_one v i) (is_one w j) same

-- of a step that makes at most one version: where the outcome of a commit was unknown before it, it doesn't call the store
pub step_ready : {F : Type 0} (world : F → World) → StoredIsReady F world → OnlyNow world → FoundOnce → (x : Call) (reply : Reply) (was is : F) (old new : Core) → (old.lost ≡ None → MakesOne old.history.latest.version new)
    → KeepsFiles world x reply was is old new → IsStored (world was) (versions_left old) (written_of old) → LeavesReady IsReady world was is
step_ready {F} world ready only once x reply was is old new makes keeps stored = by old.lost refl
  where
    by : (lost : Option SeenVersion) → old.lost ≡ lost → LeavesReady IsReady world was is
    by None certain = λ cut ends. holding_ready once (versions_left old ++ versions_left new) (made_apart old new certain (makes certain)) (world cut) (λ image may. (keeps.upholds.files stored).1.each image (ends.each image may))
    by (Some v) unsure = subst (λ (s : F). LeavesReady IsReady world was s) (sym (keeps.no_call (ap is_some unsure))) (stored_stays_ready world ready only was old stored).1

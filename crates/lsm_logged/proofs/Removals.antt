-- Records that the version has passed are removed, after a commit or not.
use Rattle.std.proofs.Common.{◌≡◌, ⊎_elim, inl, inr, ℕ, Bool, List, [], ◌++◌, Option, Some, None, Result, sym, ap, ◌∙◌, subst}
use Rattle.lsm_below.specs.Each.{each_append}
use Rattle.lsm_below.specs.Members.{IsIn, each_in}
use Rattle.lsm_below.specs.declared.error.Error.{Error}
use Rattle.lsm_store.specs.World.{Image, World, LeavesOnly}
use Rattle.lsm_store.specs.Moments.{weakened, joined}
use Rattle.lsm_commit.specs.Foreign.{KeepsForeign, Passes}
use Rattle.lsm_commit.specs.Stored.{IsStored, HoldsOneOf, AreAmong}
use Rattle.lsm_log.specs.Changes.{IsBelow, AreCleared}
use Rattle.lsm_state.specs.Core.{Core, Seen, versions_left, written_of}
use Rattle.lsm_state.specs.Commits.{UpholdsFiles, Upholds}
use Rattle.lsm_state.specs.Calls.{Rotates}
use Rattle.lsm_state.proofs.Upholding.{among_right, leaves_more}
use Rattle.lsm_logged.specs.Keeping.{SeenLogged}
use Rattle.lsm_logged.specs.Removing.{log_from_of, RemovesPassed, HasOldOrPassed, Passed}
use Rattle.lsm_logged.specs.Flushing.{IsEither, RemovesBehind}
use Rattle.lsm_logged.proofs.Seen.{logged_with}

-- ---- the store

pub passes_on : (from : ℕ) (old new : World) → Passes old new → Passed from old new
passes_on from old new passes = record {
  gives = λ n foreign none. passes.gives n foreign;
  may = λ n c foreign m. inl (passes.may n c foreign m);
  any_moment = weakened old new (KeepsForeign old) (HasOldOrPassed old from) passes.leaves (λ image was n foreign. inl (was n foreign));
}

pub removed_on : {T : Type 0} (from : ℕ) (numbers : List ℕ) (old new : World) (r : Result T Error) → RemovesPassed from numbers old new r → Passed from old new
removed_on from numbers old new r removes = record {
  gives = λ n foreign none. removes.clears.gives n none;
  may = λ n c foreign m. removes.clears.may n c m;
  any_moment = weakened old new (AreCleared (IsBelow from) old) (HasOldOrPassed old from) removes.any_moment (λ image was n foreign. was n);
}

pub passed_then : (from : ℕ) (old mid new : World) → Passes old mid → Passed from mid new → Passed from old new
passed_then from old mid new passes passed = record {
  gives = λ n foreign none. passed.gives n foreign none ∙ passes.gives n foreign;
  may = λ n c foreign m. ⊎_elim (λ was. inl (passes.may n c foreign was)) (λ gone. inr gone) (passed.may n c foreign m);
  any_moment = joined old mid new (KeepsForeign old) (HasOldOrPassed mid from) (HasOldOrPassed old from) passes.leaves passed.any_moment
      (λ image was n foreign. inl (was n foreign))
      (λ image was n foreign. ⊎_elim (λ m. inl (passes.may n (image n) foreign m)) (λ gone. inr gone) (was n foreign));
}

pub both_leave : (old new : World) (P Q : Image → Type 0) → LeavesOnly old new P → LeavesOnly old new Q → LeavesOnly old new (λ image. P image × Q image)
both_leave old new P Q a b = record {
  later = a.later;
  each = λ image since. (a.each image since, b.each image since);
  before = λ t image le since. ⊎_elim (λ was. inl was) (λ p. ⊎_elim (λ was. inl was) (λ q. inr (p, q)) (b.before t image le since)) (a.before t image le since);
}

-- a commit, and then a removal while the tree stays as it is
pub removed_behind : (w mid new : World) (old core : Core) → Upholds w mid old core → UpholdsFiles mid new core core → Passed (log_from_of core) mid new → RemovesBehind w new old core
removed_behind w mid new old core commits files passed stored =
    let vs = versions_left core in
    let from = log_from_of core in
    let self : AreAmong vs vs = among_right [] vs in
    let leaves = leaves_more mid new (vs ++ vs) vs (each_append (λ v. IsIn v vs) vs vs self self) (files (commits.files stored).0).1 in
    joined w mid new (KeepsForeign w) (λ image. HoldsOneOf vs image × HasOldOrPassed mid from image) (IsEither w core) commits.passes.leaves (both_leave mid new (HoldsOneOf vs) (HasOldOrPassed mid from) leaves passed.any_moment)
    (λ image was. inl was)
    (λ image is. inr (is.0, λ n foreign. ⊎_elim (λ m. inl (commits.passes.may n (image n) foreign m)) (λ gone. inr gone) (is.1 n foreign)))

-- a commit alone
pub none_behind : (w mid : World) (old core : Core) → Passes w mid → RemovesBehind w mid old core
none_behind w mid old core passes stored = weakened w mid (KeepsForeign w) (IsEither w core) passes.leaves (λ image was. inl was)

-- ---- a call, and then a removal while the tree stays as it is

-- the tree's files stay stored, records that the version has passed may be gone, and none of them before that version is on the disk
pub record LeavesBehind (w new : World) (old after : Core) : Type 0 where
  pub files : UpholdsFiles w new old after
  pub passed : Passed (log_from_of after) w new
  pub either : RemovesBehind w new old after

pub leaves_behind : (w mid new : World) (old core after : Core) → Upholds w mid old core → after ≡ core → UpholdsFiles mid new core after → Passed (log_from_of core) mid new → LeavesBehind w new old after
leaves_behind w mid new old core after commits same files passed = subst (LeavesBehind w new old) (sym same) (record {
  files = upheld;
  passed = passed_then (log_from_of core) w mid new commits.passes passed;
  either = removed_behind w mid new old core commits still passed;
})
  where
    still : UpholdsFiles mid new core core
    still = subst (UpholdsFiles mid new core) same files

    -- two calls keep what is stored
    upheld : UpholdsFiles w new old core
    upheld stored =
        let first = commits.files stored in
        let then = still first.0 in
        let vs = versions_left core in (
          then.0,
          joined w mid new (HoldsOneOf (versions_left old ++ vs)) (HoldsOneOf (vs ++ vs)) (HoldsOneOf (versions_left old ++ vs)) first.1 then.1 (λ image one. one)
              (λ image one. (one.0, each_in (λ v. IsIn v (versions_left old ++ vs)) (vs ++ vs) one.0 (each_append (λ v. IsIn v (versions_left old ++ vs)) vs vs (among_right (versions_left old) vs) (among_right (versions_left old) vs)) one.1, one.2, one.3)),
        )

-- the same of a call alone that commits
module _ {S : Type 0} (world : S → World) (tree mid : Seen S) (numbers : List ℕ) (doubted : Bool) (seen : SeenLogged S) (view : logged_with tree numbers doubted ≡ seen) (passes : Passes (world tree.store) (world mid.store)) where
  pub passes_alone : Passed (log_from_of mid.core) (world seen.store) (world mid.store)
  passes_alone = subst (λ t. Passed (log_from_of mid.core) (world t.store) (world mid.store)) view (passes_on (log_from_of mid.core) (world tree.store) (world mid.store) passes)

  pub none_alone : RemovesBehind (world seen.store) (world mid.store) seen.core mid.core
  none_alone = subst (λ t. RemovesBehind (world t.store) (world mid.store) t.core mid.core) view (none_behind (world tree.store) (world mid.store) tree.core mid.core passes)

-- ---- after a rotation

pub rotation_keeps : (id : Option ℕ) (old mid : Core) → Rotates old id mid → (versions_left mid ≡ versions_left old) × (written_of mid ≡ written_of old)
rotation_keeps None old mid r = (ap versions_left r.1, ap written_of r.1)
rotation_keeps (Some id) old mid r = (ap versions_left r.2, ap written_of r.2)

module _ (w new : World) (id : Option ℕ) (old mid core : Core) (rotates : Rotates old id mid) where
  stays : IsStored w (versions_left old) (written_of old) → IsStored w (versions_left mid) (written_of mid)
  stays stored =
      let same = rotation_keeps id old mid rotates in
      subst (λ vs. IsStored w vs (written_of mid)) (sym same.0) (subst (λ ts. IsStored w (versions_left old) ts) (sym same.1) stored)

  behind_rotation : RemovesBehind w new mid core → RemovesBehind w new old core
  behind_rotation behind stored = behind (stays stored)

  upheld_rotation : UpholdsFiles w new mid core → UpholdsFiles w new old core
  upheld_rotation files stored =
      let then = files (stays stored) in
      (then.0, subst (λ vs. LeavesOnly w new (HoldsOneOf (vs ++ versions_left core))) (rotation_keeps id old mid rotates).0 then.1)

-- the same of the trees before and after it
module _ {S : Type 0} (world : S → World) (old mid new : SeenLogged S) (id : Option ℕ) (rotates : Rotates old.core id mid.core) (store : mid.store ≡ old.store) where
  pub behind_rotated : RemovesBehind (world mid.store) (world new.store) mid.core new.core → RemovesBehind (world old.store) (world new.store) old.core new.core
  behind_rotated behind = behind_rotation (world old.store) (world new.store) id old.core mid.core new.core rotates (subst (λ s. RemovesBehind (world s) (world new.store) mid.core new.core) store behind)

  pub upheld_rotated : UpholdsFiles (world mid.store) (world new.store) mid.core new.core → UpholdsFiles (world old.store) (world new.store) old.core new.core
  upheld_rotated files = upheld_rotation (world old.store) (world new.store) id old.core mid.core new.core rotates (subst (λ s. UpholdsFiles (world s) (world new.store) mid.core new.core) store files)

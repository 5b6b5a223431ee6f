-- What a crash leaves of the files of a tree that is flushed, and what a flush after a rotation leaves.
use Rattle.std.proofs.Common.{cond, ◌≡◌, ℕ, Bool, true, false, List, [], ◌∷◌, ◌++◌, Option, Some, None, refl, sym, ◌∙◌, subst, inl, inr, ⊎_elim, eqb, nat_lt}
use Rattle.lsm_below.specs.Members.{IsIn}
use Rattle.lsm_store.specs.World.{World}
use Rattle.lsm_store.specs.Moments.{weakened}
use Rattle.lsm_versions.specs.Levels.{SeenVersion}
use Rattle.lsm_commit.specs.Stored.{HoldsOneOf}
use Rattle.lsm_commit.specs.Foreign.{AtRest}
use Rattle.lsm_model.specs.Views.{SuperVersion, front, lookup, found_at}
use Rattle.lsm_state.specs.Calls.{Rotates}
use Rattle.lsm_state.specs.Core.{Core, versions_left, written_of, latest_of, older_of, rotated_core}
use Rattle.lsm_state.specs.Commits.{Upholds}
use Rattle.lsm_state.specs.Flushes.{spent}
use Rattle.lsm_state.proofs.Writing.{stored_spent}
use Rattle.lsm_recorded.specs.Recorded.{Stays}

in_front : (v : SeenVersion) (xs ys : List SeenVersion) → IsIn v xs → IsIn v (xs ++ ys)
in_front v [] ys i = absurd i
in_front v (x ∷ xs) ys i = ⊎_elim (λ (e : x ≡ v). inl e) (λ (j : IsIn v xs). inr (in_front v xs ys j)) i

-- nothing is done
still_upholds : (w : World) (old : Core) → AtRest w → Upholds w w old old
still_upholds w old stays = record {
  files = λ stored. let vs = versions_left old in (stored, weakened w w (HoldsOneOf vs) (HoldsOneOf (vs ++ vs)) (stays.leaves vs (written_of old) stored) (λ image one. (one.0, in_front one.0 vs vs one.1, one.2, one.3)));
  passes = stays.passes;
}

pub same_upholds : (w v : World) (old new : Core) → AtRest w → v ≡ w → new ≡ old → Upholds w v old new
same_upholds w v old new leaves same is = subst (λ u. Upholds w u old new) (sym same) (subst (Upholds w w old) (sym is) (still_upholds w old leaves))

-- a job is spent
pub spent_upholds : (w v : World) (n : ℕ) (old new : Core) → AtRest w → v ≡ w → new ≡ spent n old → Upholds w v old new
spent_upholds w v n old new leaves same is =
    subst (λ u. Upholds w u old new) (sym same)
    (subst (Upholds w w old) (sym is) (record { files = λ stored. (stored_spent w (versions_left old) n old.flush stored, ((still_upholds w old leaves).files stored).1); passes = leaves.passes }))

-- ---- after a rotation

found_still : (z b : Bool) (f g x y sv : SuperVersion) (rest : Option SuperVersion) → cond z (Some f) (cond b (Some x) rest) ≡ Some sv → (sv' : SuperVersion) × (cond z (Some g) (cond b (Some y) rest) ≡ Some sv')
found_still true b f g x y sv rest h = (g, refl)
found_still false true f g x y sv rest h = (y, refl)
found_still false false f g x y sv rest h = (sv, h)

-- a snapshot finds a super version after it where it found one before
rotated_found : (s : ℕ) (old mid : Core) (id : Option ℕ) (sv : SuperVersion) → Rotates old id mid → found_at s (latest_of old) (older_of old) ≡ Some sv → (sv' : SuperVersion) × (found_at s (latest_of mid) (older_of mid) ≡ Some sv')
rotated_found s old mid None sv t h = subst (λ c. (sv' : SuperVersion) × (found_at s (latest_of c) (older_of c) ≡ Some sv')) (sym t.1) (sv, h)
rotated_found s old mid (Some id) sv t h =
    subst (λ c. (sv' : SuperVersion) × (found_at s (latest_of c) (older_of c) ≡ Some sv')) (sym t.2)
    (found_still (eqb s 0) (nat_lt (latest_of old).number s) (front (latest_of old) (older_of old)) (front (latest_of (rotated_core old)) (older_of old)) (latest_of old) (latest_of (rotated_core old)) sv (lookup s (older_of old)) h)

pub stays_behind : (old mid new : Core) (id : Option ℕ) → Rotates old id mid → Stays old mid → Stays mid new → Stays old new
stays_behind old mid new id t first second s sv sv' a b =
    let m = rotated_found s old mid id sv t a in
    first s sv m.0 a m.1 ∙ second s m.0 sv' m.1 b

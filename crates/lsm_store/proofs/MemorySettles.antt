-- What a call that settles names makes of a store in memory.
use Rattle.std.proofs.Common.{◌≡◌, ◌≢◌, ◌⊎◌, ◌≤◌, inl, inr, ⊎_elim, ℕ, Bool, true, false, cond, List, [], ◌∷◌, ◌++◌, length, drop, Option, refl, sym, ◌∙◌, ap, subst, arith, length-append}
use Rattle.lsm_store.specs.World.{Image, IsImage, Narrows, SettlesNames}
use Rattle.lsm_store.specs.declared.mem_store.plan.Outcome.{Outcome}
use Rattle.lsm_store.specs.declared.mem_store.plan.Outcome.TheVariants.{Done, Fails, FailsDone, NothingDone}
use Rattle.lsm_store.specs.Plans.{answer_of}
use Rattle.lsm_store.specs.Held.{Held, MayHold, fresh, settled}
use Rattle.lsm_store.specs.Files.{Files, held_at, AltersEach}
use Rattle.lsm_store.specs.Memory.{Past, may_of, gives_of, HadBeen, KeepsMoment, memory_world, settled_by}
use Rattle.lsm_store.proofs.HeldRows.{row_fresh}
use Rattle.lsm_store.proofs.Memories.{still, newest, either, drop_push, kept_between, between_kept}
use Rattle.lsm_store.proofs.MemoryCalls.{fresh_gives}

-- ---- one name

gives_settled : (h : Held) → (settled h).gives ≡ h.gives
gives_settled h = elim h.torn as (λ t. (cond t h (fresh h.gives)).gives ≡ h.gives) [
  | true ↦ refl
  | false ↦ fresh_gives h.gives
]

may_settled : (h : Held) (c : Option (List ℕ)) → MayHold (settled h) c → MayHold h c
may_settled h c = elim h.torn as (λ t. MayHold (cond t h (fresh h.gives)) c → MayHold h c) [
  | true ↦ λ may. may
  | false ↦ λ may. inl (inl ((row_fresh h.gives c).0 may))
]

-- where a content is impossible
only_settled : (h : Held) (c impossible : Option (List ℕ)) → ¬ MayHold h impossible → MayHold (settled h) c → c ≡ h.gives
only_settled h c impossible never may = go h.torn refl
  where
    go : (t : Bool) → h.torn ≡ t → c ≡ h.gives
    go true torn = absurd (never (inr (inr torn)))
    go false torn = (row_fresh h.gives c).0 (subst (λ t. MayHold (cond t h (fresh h.gives)) c) torn may)

-- ---- all names

once : {P : Type 0} → P ⊎ P → P
once twice = ⊎_elim (λ p. p) (λ p. p) twice

module _ (old new : Files) (past later : Past) (f g : ℕ) (kept : KeepsMoment old old past later) where
  -- the moment of the call is kept, and no image is added
  narrowed : ((n : List ℕ) → gives_of new n ≡ gives_of old n) → ((n : List ℕ) (c : Option (List ℕ)) → may_of new n c → may_of old n c) → Narrows (memory_world old past f) (memory_world new later g)
  narrowed gives may = subst (λ (l : Past). Narrows (memory_world old past f) (memory_world new l g)) (sym kept.pushed) (record {
    gives = gives;
    may = may;
    later = omega (arith, length-append past (kept.moment ∷ []));
    since = λ t image le. (to t image le, back t image le);
  })
    where
      to : (t : ℕ) (image : Image) → t ≤ length past → IsImage (may_of new) image ⊎ HadBeen (drop t (past ++ kept.moment ∷ [])) image → IsImage (may_of old) image ⊎ HadBeen (drop t past) image
      to t image le left = ⊎_elim (λ now. inl (λ n. may n (image n) (now n)))
          (λ had. ⊎_elim (λ before. inr before) (λ call. inl (λ n. once (between_kept old old past later kept image call n))) (either (drop t past) kept.moment image (subst (λ (l : Past). HadBeen l image) (drop_push t past kept.moment le) had))) left

      put : (t : ℕ) (image : Image) → t ≤ length past → HadBeen (drop t past ++ kept.moment ∷ []) image → IsImage (may_of new) image ⊎ HadBeen (drop t (past ++ kept.moment ∷ [])) image
      put t image le had = inr (subst (λ (l : Past). HadBeen l image) (sym (drop_push t past kept.moment le)) had)

      back : (t : ℕ) (image : Image) → t ≤ length past → IsImage (may_of old) image ⊎ HadBeen (drop t past) image → IsImage (may_of new) image ⊎ HadBeen (drop t (past ++ kept.moment ∷ [])) image
      back t image le left = ⊎_elim (λ now. put t image le (newest (drop t past) kept.moment image (kept_between old old past later kept image (λ n. inl (now n)))))
          (λ had. put t image le (still (drop t past) kept.moment image had)) left

  narrowed_settled : AltersEach settled old new → Narrows (memory_world old past f) (memory_world new later g)
  narrowed_settled each = narrowed (λ n. ap (λ h. h.gives) (each n) ∙ gives_settled (held_at old n)) (λ n c may. may_settled (held_at old n) c (subst (λ h. MayHold h c) (each n) may))

  pub settles_names : (o : Outcome) → o ≢ NothingDone → AltersEach (settled_by o) old new → SettlesNames {T = Unit {0}} (memory_world old past f) (memory_world new later g) (answer_of o)
  settles_names Done does each = (narrowed_settled each, λ n impossible c never may. only_settled (held_at old n) c impossible never (subst (λ h. MayHold h c) (each n) may))
  settles_names Fails does each = narrowed (λ n. ap (λ h. h.gives) (each n)) (λ n c may. subst (λ h. MayHold h c) (each n) may)
  settles_names FailsDone does each = narrowed_settled each
  settles_names NothingDone does each = absurd (does refl)

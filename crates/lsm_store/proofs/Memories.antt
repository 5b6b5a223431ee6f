-- What becomes of a store in memory, as its callers see it.
use Rattle.std.proofs.Common.{◌≡◌, ◌≢◌, ◌⊎◌, ◌↔◌, ◌≤◌, inl, inr, ⊎_elim, ℕ, zero, suc, List, [], ◌∷◌, ◌++◌, length, drop, Option, refl, sym, ap, subst, arith, length-append}
use Rattle.lsm_store.specs.World.{Image, Row, IsImage, At, Same, Becomes}
use Rattle.lsm_store.specs.Held.{Held, MayHold}
use Rattle.lsm_store.specs.Files.{Files, held_at, HoldSame, Alters}
use Rattle.lsm_store.specs.Memory.{MemStore, Past, may_of, gives_of, between, HadBeen, KeepsMoment, memory_world, world_of, gives_one}
use Rattle.lsm_store.specs.declared.mem_store.Moment.{Moment}
use Rattle.lsm_store.proofs.HeldFiles.{by_name}

-- the row of the one name, from that of its record
pub at_row : (name : List ℕ) (f : Held → Held) (row : Row) (old new : Files) → Alters name f old new → ((c : Option (List ℕ)) → MayHold (f (held_at old name)) c ↔ row c)
    → (n : List ℕ) (c : Option (List ℕ)) → may_of new n c ↔ At name row (may_of old) n c
at_row name f row old new alters is n c = (to, back n)
  where
    to : may_of new n c → At name row (may_of old) n c
    to may = record {
      here = λ same. (is c).0 (subst (λ h. MayHold h c) alters.here (subst (λ m. may_of new m c) same may));
      elsewhere = λ ne. subst (λ h. MayHold h c) (alters.elsewhere n ne) may;
    }

    back : (m : List ℕ) → At name row (may_of old) m c → may_of new m c
    back = by_name (λ m. At name row (may_of old) m c → may_of new m c) name
        (λ at. subst (λ h. MayHold h c) (sym alters.here) ((is c).1 (at.here refl)))
        (λ m ne at. subst (λ h. MayHold h c) (sym (alters.elsewhere m ne)) (at.elsewhere ne))

-- the same of a call that changes it
pub at_between : (name : List ℕ) (f : Held → Held) (row : Row) (old new : Files) → Alters name f old new → ((c : Option (List ℕ)) → (MayHold (held_at old name) c ⊎ MayHold (f (held_at old name)) c) ↔ row c)
    → (n : List ℕ) (c : Option (List ℕ)) → between old new n c ↔ At name row (may_of old) n c
at_between name f row old new alters is n c = (to, back n)
  where
    to : between old new n c → At name row (may_of old) n c
    to (inl was) = record { here = λ same. (is c).0 (inl (subst (λ m. may_of old m c) same was)); elsewhere = λ _. was }
    to (inr may) = record {
      here = λ same. (is c).0 (inr (subst (λ h. MayHold h c) alters.here (subst (λ m. may_of new m c) same may)));
      elsewhere = λ ne. subst (λ h. MayHold h c) (alters.elsewhere n ne) may;
    }

    back : (m : List ℕ) → At name row (may_of old) m c → between old new m c
    back = by_name (λ m. At name row (may_of old) m c → between old new m c) name
        (λ at. ⊎_elim (λ was. inl was) (λ may. inr (subst (λ h. MayHold h c) (sym alters.here) may)) ((is c).1 (at.here refl)))
        (λ m ne at. inl (at.elsewhere ne))

pub gives_elsewhere : (name : List ℕ) (f : Held → Held) (old new : Files) → Alters name f old new → (n : List ℕ) → n ≢ name → gives_of new n ≡ gives_of old n
gives_elsewhere name f old new alters n ne = ap (λ h. h.gives) (alters.elsewhere n ne)

pub still : (past : Past) (s : Moment) (image : Image) → HadBeen past image → HadBeen (past ++ s ∷ []) image
still [] s image had = absurd had
still (p ∷ past) s image (inl here) = inl here
still (p ∷ past) s image (inr there) = inr (still past s image there)

pub newest : (past : Past) (s : Moment) (image : Image) → IsImage (between s.before.value s.after.value) image → HadBeen (past ++ s ∷ []) image
newest [] s image is = inl is
newest (p ∷ past) s image is = inr (newest past s image is)

pub either : (past : Past) (s : Moment) (image : Image) → HadBeen (past ++ s ∷ []) image → HadBeen past image ⊎ IsImage (between s.before.value s.after.value) image
either [] s image (inl here) = inr here
either [] s image (inr none) = absurd none
either (p ∷ past) s image (inl here) = inl (inl here)
either (p ∷ past) s image (inr there) = ⊎_elim (λ had. inl (inr had)) (λ new. inr new) (either past s image there)

pub drop_push : (t : ℕ) (past : Past) (s : Moment) → t ≤ length past → drop t (past ++ s ∷ []) ≡ drop t past ++ s ∷ []
drop_push zero past s le = refl
drop_push (suc t) [] s le = absurd (omega arith)
drop_push (suc t) (p ∷ past) s le = drop_push t past s (omega arith)

-- the images of a moment that is kept are those of its call
module _ (before after : Files) (past later : Past) (kept : KeepsMoment before after past later) (image : Image) where
  pub kept_between : IsImage (between before after) image → IsImage (between kept.moment.before.value kept.moment.after.value) image
  kept_between is = subst (λ (fs : Files). IsImage (between fs kept.moment.after.value) image) (sym kept.is_before) (subst (λ (fs : Files). IsImage (between before fs) image) (sym kept.is_after) is)

  pub between_kept : IsImage (between kept.moment.before.value kept.moment.after.value) image → IsImage (between before after) image
  between_kept is = subst (λ (fs : Files). IsImage (between before fs) image) kept.is_after (subst (λ (fs : Files). IsImage (between fs kept.moment.after.value) image) kept.is_before is)

module _ (name : List ℕ) (old : Files) (past : Past) (f g : ℕ) where
  -- no moment is added: each image of before is one still
  pub grown : (row : Row) (new : Files)
      → ((n : List ℕ) (c : Option (List ℕ)) → may_of new n c ↔ At name row (may_of old) n c)
      → ((c : Option (List ℕ)) → may_of old name c → row c)
      → ((n : List ℕ) → n ≢ name → gives_of new n ≡ gives_of old n)
      → Becomes name row row (memory_world old past f) (memory_world new past g)
  grown row new may keeps elsewhere = record {
    may = may;
    elsewhere = elsewhere;
    later = omega arith;
    since = λ t image le. (
      (λ left. ⊎_elim (λ now. inr (λ n. (may n (image n)).0 (now n))) (λ had. inl (inr had)) left),
      (λ left. ⊎_elim (λ before. ⊎_elim (λ was. inl (λ n. (may n (image n)).1 (record { here = λ same. keeps (image n) (subst (λ m. may_of old m (image n)) same (was n)); elsewhere = λ _. was n }))) (λ had. inr had) before)
          (λ of. inl (λ n. (may n (image n)).1 (of n))) left),
    );
  }

  -- the moment of the call is kept
  pub pushed : (during after : Row) (before mid new : Files) (later : Past)
      → KeepsMoment before mid past later
      → ((n : List ℕ) (c : Option (List ℕ)) → between before mid n c ↔ At name during (may_of old) n c)
      → ((n : List ℕ) (c : Option (List ℕ)) → may_of new n c ↔ At name after (may_of old) n c)
      → ((c : Option (List ℕ)) → may_of old name c → during c)
      → ((c : Option (List ℕ)) → after c → during c)
      → ((n : List ℕ) → n ≢ name → gives_of new n ≡ gives_of old n)
      → Becomes name during after (memory_world old past f) (memory_world new later g)
  pushed during after before mid new later kept in_call may keeps narrows elsewhere = subst (λ (l : Past). Becomes name during after (memory_world old past f) (memory_world new l g)) (sym kept.pushed) (record {
    may = may;
    elsewhere = elsewhere;
    later = omega (arith, length-append past (s ∷ []));
    since = λ t image le. (to t image le, back t image le);
  })
    where
      s : Moment
      s = kept.moment

      seen : (image : Image) → IsImage (At name during (may_of old)) image → IsImage (between s.before.value s.after.value) image
      seen image of = kept_between before mid past later kept image (λ n. (in_call n (image n)).1 (of n))

      unseen : (image : Image) → IsImage (between s.before.value s.after.value) image → IsImage (At name during (may_of old)) image
      unseen image is = λ n. (in_call n (image n)).0 (between_kept before mid past later kept image is n)

      wider : (image : Image) → IsImage (may_of old) image → IsImage (At name during (may_of old)) image
      wider image was n = record { here = λ same. keeps (image n) (subst (λ m. may_of old m (image n)) same (was n)); elsewhere = λ _. was n }

      narrow : (image : Image) → IsImage (may_of new) image → IsImage (At name during (may_of old)) image
      narrow image now n = let at = (may n (image n)).0 (now n) in record { here = λ same. narrows (image n) (at.here same); elsewhere = λ ne. at.elsewhere ne }

      to : (t : ℕ) (image : Image) → t ≤ length past → IsImage (may_of new) image ⊎ HadBeen (drop t (past ++ s ∷ [])) image → (IsImage (may_of old) image ⊎ HadBeen (drop t past) image) ⊎ IsImage (At name during (may_of old)) image
      to t image le left = ⊎_elim (λ now. inr (narrow image now))
          (λ had. ⊎_elim (λ before. inl (inr before)) (λ call. inr (unseen image call)) (either (drop t past) s image (subst (λ (l : Past). HadBeen l image) (drop_push t past s le) had))) left

      put : (t : ℕ) (image : Image) → t ≤ length past → HadBeen (drop t past ++ s ∷ []) image → IsImage (may_of new) image ⊎ HadBeen (drop t (past ++ s ∷ [])) image
      put t image le had = inr (subst (λ (l : Past). HadBeen l image) (sym (drop_push t past s le)) had)

      back : (t : ℕ) (image : Image) → t ≤ length past → (IsImage (may_of old) image ⊎ HadBeen (drop t past) image) ⊎ IsImage (At name during (may_of old)) image → IsImage (may_of new) image ⊎ HadBeen (drop t (past ++ s ∷ [])) image
      back t image le left = elim left [
        | inl (inl now) ↦ put t image le (newest (drop t past) s image (seen image (wider image now)))
        | inl (inr had) ↦ put t image le (still (drop t past) s image had)
        | inr of ↦ put t image le (newest (drop t past) s image (seen image of))
      ]

-- without effect
pub same_world : (old new : Files) (past : Past) (f g : ℕ) → HoldSame old new → Same (memory_world old past f) (memory_world new past g)
same_world old new past f g same = record {
  gives = λ n. ap (λ h. h.gives) (same n);
  may = λ n c. (kept n c, back n c);
  moment = refl;
  since = λ t image le. (
    (λ left. ⊎_elim (λ now. inl (λ n. kept n (image n) (now n))) (λ had. inr had) left),
    (λ left. ⊎_elim (λ now. inl (λ n. back n (image n) (now n))) (λ had. inr had) left),
  );
}
  where
    kept : (n : List ℕ) (c : Option (List ℕ)) → may_of new n c → may_of old n c
    kept n c may = subst (λ h. MayHold h c) (same n) may

    back : (n : List ℕ) (c : Option (List ℕ)) → may_of old n c → may_of new n c
    back n c may = subst (λ h. MayHold h c) (sym (same n)) may

pub same_after : (old new : Files) (past later : Past) (f g : ℕ) → new ≡ old → later ≡ past → Same (memory_world old past f) (memory_world new later g)
same_after old new past later f g files moments =
    subst (λ (p : Past). Same (memory_world old past f) (memory_world new p g)) (sym moments) (same_world old new past f g (λ n. ap (λ (fs : Files). held_at fs n) files))

-- what reads give now may be there after a crash
pub gives_now : (store : MemStore) → IsImage (world_of store).may (world_of store).gives
gives_now store name = gives_one (held_at store.files name)

-- What is picked, and whether it is possible.
use Rattle.std.proofs.Common.{◌≡◌, ◌<◌, inl, inr, ℕ, zero, suc, ◌+◌, List, [], ◌∷◌, length, get_or, Option, Some, None, refl, sym, ◌∙◌, ap, subst, arith, cond}
use Rattle.std.specs.Borrow.{Bor}
use Rattle.std.specs.Str.{bytes_eq}
use Rattle.std.proofs.lemmas.Bool.{cases_lt}
use Rattle.std.proofs.lemmas.Slice.Eq.{bytes_eq-Decides}
use Rattle.lsm_store.specs.World.{IsImage}
use Rattle.lsm_store.specs.declared.mem_store.file.Absence.{Absence}
use Rattle.lsm_store.specs.declared.mem_store.file.Absence.TheVariants.{Never, Possible, Usual}
use Rattle.lsm_store.specs.declared.mem_store.picks.Pick.{Pick}
use Rattle.lsm_store.specs.Held.{Held, MayHold}
use Rattle.lsm_store.specs.Files.{Files, held_at}
use Rattle.lsm_store.specs.Memory.{may_of}
use Rattle.lsm_store.specs.Picks.{Picks, pick_for, left_alone, left_at, picked}
use Rattle.lsm_store.proofs.HeldFiles.{split}

-- without a pick, what is left is possible
pub alone : (h : Held) → MayHold h (left_at h None)
alone h = go h.absence refl
  where
    go : (a : Absence) → h.absence ≡ a → MayHold h (left_alone a h.gives)
    go Never is = inl (inl refl)
    go Possible is = inl (inl refl)
    go Usual is = inr (inl (rw is tt, refl))

-- a name for which something is picked stands in the list
named : (picks : Picks) (n : List ℕ) (p : Pick) → pick_for picks n ≡ Some p → (d : Bor (List ℕ) × Pick) → (k : ℕ) × (k < length picks) × ((get_or picks k d).0.now ≡ n)
named [] n p is d = cc
named (x ∷ picks) n p is d = elim (split (bytes_eq x.0.now n)) [
  | inl same ↦ (0, omega arith, (bytes_eq-Decides x.0.now n).0 same)
  | inr differ ↦ let rest = named picks n p (sym (ap (λ b. cond b (Some x.1) (pick_for picks n)) differ) ∙ is) d in (suc rest.0, omega (arith, rest.1), rest.2)
]

-- an image is possible if each name of the list is
pub image_of_names : (files : Files) (picks : Picks) → ((k : ℕ) (d : Bor (List ℕ) × Pick) → k < length picks → may_of files (get_or picks k d).0.now (picked files picks (get_or picks k d).0.now)) → IsImage (may_of files) (picked files picks)
image_of_names files picks each n = go (pick_for picks n) refl
  where
    at : (o : Option Pick) → pick_for picks n ≡ o → (p : Pick) → o ≡ Some p → may_of files n (picked files picks n)
    at o is p some =
        let d : Bor (List ℕ) × Pick = (record { ref_ptr = (0, 0); now = n }, p) in
        let found = named picks n p (is ∙ some) d in
        subst (λ m. may_of files m (picked files picks m)) found.2 (each found.0 d found.1)

    go : (o : Option Pick) → pick_for picks n ≡ o → may_of files n (picked files picks n)
    go None is = subst (λ q. MayHold (held_at files n) (left_at (held_at files n) q)) (sym is) (alone (held_at files n))
    go (Some p) is = at (Some p) is p refl

pub any_default : (picks : Picks) (k : ℕ) (d e : Bor (List ℕ) × Pick) → k < length picks → get_or picks k d ≡ get_or picks k e
any_default [] k d e lt = absurd (omega arith)
any_default (x ∷ picks) zero d e lt = refl
any_default (x ∷ picks) (suc k) d e lt = any_default picks k d e (omega arith)

-- one name more
pub names_more : (files : Files) (picks : Picks) (i : ℕ) → i < length picks
    → ((k : ℕ) (d : Bor (List ℕ) × Pick) → k < i → may_of files (get_or picks k d).0.now (picked files picks (get_or picks k d).0.now))
    → (e : Bor (List ℕ) × Pick) → may_of files (get_or picks i e).0.now (picked files picks (get_or picks i e).0.now)
    → (k : ℕ) (d : Bor (List ℕ) × Pick) → k < i + 1 → may_of files (get_or picks k d).0.now (picked files picks (get_or picks k d).0.now)
names_more files picks i lt so_far e here k d le = elim (cases_lt k i) [
  | inl before ↦ so_far k d before
  | inr behind ↦
      let same : k ≡ i = omega arith in
      subst (λ j. may_of files (get_or picks j d).0.now (picked files picks (get_or picks j d).0.now)) (sym same)
      (subst (λ (x : Bor (List ℕ) × Pick). may_of files x.0.now (picked files picks x.0.now)) (any_default picks i e d lt) here)
]

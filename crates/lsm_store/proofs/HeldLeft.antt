-- What a crash leaves, record by record.
use Rattle.std.proofs.lemmas.Bool.{true≢false}
use Rattle.std.proofs.Common.{◌≡◌, ◌≢◌, inl, inr, ℕ, Bool, true, false, cond, ◌||◌, List, [], ◌∷◌, ◌++◌, Some, None, refl, sym, ◌∙◌, ap, subst}
use Rattle.std.specs.List.{list_any}
use Rattle.std.specs.Map.{lookup}
use Rattle.std.specs.Str.{bytes_eq}
use Rattle.std.specs.String.{string_bytes}
use Rattle.lsm_store.specs.World.{Image, IsImage}
use Rattle.lsm_store.specs.Held.{Held, MayHold, nothing, fresh}
use Rattle.lsm_store.specs.Files.{Files, held_at}
use Rattle.lsm_store.specs.Memory.{may_of}
use Rattle.lsm_store.proofs.HeldFiles.{split, same_bytes, other_bytes, by_name, missed}
use Rattle.lsm_store.proofs.HeldNames.{Entry}
use Rattle.lsm_store.proofs.HeldRows.{row_fresh}

-- does a record have this name?
abbrev pub seen : List ℕ → List Entry → Bool
seen n es = list_any (λ e. bytes_eq n (string_bytes e.0)) es

-- what is left of the records so far
abbrev pub left_among : Image → List Entry → List ℕ → Held
left_among image es n = cond (seen n es) (fresh (image n)) nothing

seen_push : (n : List ℕ) (es : List Entry) (e : Entry) → seen n (es ++ e ∷ []) ≡ (bytes_eq n (string_bytes e.0) || seen n es)
seen_push n [] e = refl
seen_push n (x ∷ es) e = ap (λ b. bytes_eq n (string_bytes x.0) || b) (seen_push n es e) ∙ swap (bytes_eq n (string_bytes x.0)) (bytes_eq n (string_bytes e.0)) (seen n es)
  where
    swap : (a b c : Bool) → (a || (b || c)) ≡ (b || (a || c))
    swap true true c = refl
    swap true false c = refl
    swap false true c = refl
    swap false false c = refl

module _ (image : Image) (es : List Entry) (e : Entry) (old : Files) (so_far : (n : List ℕ) → held_at old n ≡ left_among image es n) where
  -- a record that leaves something
  pub left_more : (new : Files) → held_at new (string_bytes e.0) ≡ fresh (image (string_bytes e.0)) → ((n : List ℕ) → n ≢ string_bytes e.0 → held_at new n ≡ held_at old n)
      → (n : List ℕ) → held_at new n ≡ left_among image (es ++ e ∷ []) n
  left_more new here elsewhere = by_name (λ n. held_at new n ≡ left_among image (es ++ e ∷ []) n) (string_bytes e.0)
      (here ∙ sym (ap (λ b. cond b (fresh (image (string_bytes e.0))) nothing) (seen_push (string_bytes e.0) es e ∙ ap (λ b. b || seen (string_bytes e.0) es) (same_bytes (string_bytes e.0)))))
      (λ n ne. elsewhere n ne ∙ so_far n ∙ sym (ap (λ b. cond b (fresh (image n)) nothing) (seen_push n es e ∙ ap (λ b. b || seen n es) (other_bytes n (string_bytes e.0) ne))))

  -- a record that leaves nothing
  pub left_none : image (string_bytes e.0) ≡ None → (n : List ℕ) → held_at old n ≡ left_among image (es ++ e ∷ []) n
  left_none none = left_more old (so_far (string_bytes e.0) ∙ go (seen (string_bytes e.0) es)) (λ n ne. refl)
    where
      go : (b : Bool) → cond b (fresh (image (string_bytes e.0))) nothing ≡ fresh (image (string_bytes e.0))
      go true = refl
      go false = sym (ap fresh none)

unseen : (n : List ℕ) (es : List Entry) → seen n es ≡ false → lookup (λ k. bytes_eq n (string_bytes k)) es ≡ None
unseen n [] out = refl
unseen n (e ∷ es) out = elim (split (bytes_eq n (string_bytes e.0))) [
  | inl same ↦ absurd (true≢false (sym (ap (λ b. b || seen n es) same) ∙ out))
  | inr differ ↦ ap (λ b. cond b (Some e.1) (lookup (λ k. bytes_eq n (string_bytes k)) es)) differ ∙ unseen n es (sym (ap (λ b. b || seen n es) differ) ∙ out)
]

-- all records are done
pub left_all : (image : Image) (files left : Files) → IsImage (may_of files) image → ((n : List ℕ) → held_at left n ≡ left_among image files.entries n) → (n : List ℕ) → held_at left n ≡ fresh (image n)
left_all image files left possible done n = done n ∙ go (seen n files.entries) refl
  where
    go : (b : Bool) → seen n files.entries ≡ b → cond b (fresh (image n)) nothing ≡ fresh (image n)
    go true is = refl
    go false is = sym (ap fresh ((row_fresh None (image n)).0 (subst (λ h. MayHold h (image n)) (missed files n (unseen n files.entries is)) (possible n))))

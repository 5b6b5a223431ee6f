-- Lists made of what passes a test, one element after the other: laws for proofs of this crate and of those above it.
use Rattle.std.proofs.Common.{◌≡◌, Bool, true, false, cond, List, [], ◌∷◌, ◌++◌, map, filter, sym, ap, ◌∙◌, append_assoc}

module _ {A B : Type 0} (test : A → Bool) (f : A → B) where
  -- the next one passes, and is put after
  pub takes_in : (out : List B) (x : A) (xs : List A) → test x ≡ true → (out ++ f x ∷ []) ++ map f (filter test xs) ≡ out ++ map f (filter test (x ∷ xs))
  takes_in out x xs passes = append_assoc out (f x ∷ []) (map f (filter test xs)) ∙ ap (λ b. out ++ map f (cond b (x ∷ filter test xs) (filter test xs))) (sym passes)

  -- it doesn't
  pub leaves_out : (out : List B) (x : A) (xs : List A) → test x ≡ false → out ++ map f (filter test xs) ≡ out ++ map f (filter test (x ∷ xs))
  leaves_out out x xs fails = ap (λ b. out ++ map f (cond b (x ∷ filter test xs) (filter test xs))) (sym fails)

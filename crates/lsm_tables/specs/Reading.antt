-- Reading from left to right, with the first fault that is met.
use Rattle.std.specs.Prelude.{ℕ, zero, suc, List, [], ◌∷◌, Result, Ok, Err}

infixl 10 ◌>>=◌
abbrev pub ◌>>=◌ : {A B E : Type 0} → Result A E → (A → Result B E) → Result B E
(Ok x) >>= f = f x
(Err e) >>= f = Err e

-- So many of what read reads, one after the other, and the bytes after them.
unfoldable pub many : {A E : Type 0} → (List ℕ → Result (A × List ℕ) E) → ℕ → List ℕ → Result (List A × List ℕ) E
many read zero bytes = Ok ([], bytes)
many read (suc n) bytes = do
  first ← read bytes
  others ← many read n first.1
  Ok (first.0 ∷ others.0, others.1)

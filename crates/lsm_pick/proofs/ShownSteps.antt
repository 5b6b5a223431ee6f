-- The bytes of unhidden tables, the first one and the others.
use Rattle.std.proofs.Common.{◌≡◌, ℕ, ◌+◌, Bool, true, false, cond, not, List, [], ◌∷◌, filter, arith}
use Rattle.std.proofs.lemmas.List.Sums.{sum_by-append}
use Rattle.lsm_tables.specs.Tables.{SeenTable}
use Rattle.lsm_model.specs.Steps.{among}
use Rattle.lsm_versions.specs.Levels.{bytes_of}
use Rattle.lsm_pick.specs.Tables.{size}
use Rattle.lsm_pick.specs.Leveled.{shown_size}

one : (b : Bool) (x : SeenTable) (xs : List SeenTable) → bytes_of (cond (not b) (x ∷ xs) xs) ≡ cond b 0 (size x) + bytes_of xs
one true x xs = omega arith
one false x xs = let h = sum_by-append size (x ∷ []) xs in omega (arith, h)

pub shown_first : (hidden : List ℕ) (x : SeenTable) (xs : List SeenTable) → bytes_of (filter (λ t. not (among hidden t.id)) (x ∷ xs)) ≡ shown_size hidden x + bytes_of (filter (λ t. not (among hidden t.id)) xs)
shown_first hidden x xs = one (among hidden x.id) x (filter (λ t. not (among hidden t.id)) xs)

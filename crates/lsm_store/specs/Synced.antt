-- Files that are written and synced, and names beside one.
use Rattle.std.specs.Prelude.{◌≡◌, ◌≢◌, ◌↔◌, ℕ, List, Option, Some, Result, Ok, Err}
use Rattle.lsm_store.specs.World.{Image, Row, World, Only}
use Rattle.lsm_store.specs.declared.store.StoreError.{StoreError}

-- one name may have what the row says; each other name may have what it could, and reads give the same of it
pub record Leaves (name : List ℕ) (row : Row) (old new : World) : Type 0 where
  pub here : (c : Option (List ℕ)) → new.may name c ↔ row c
  pub elsewhere : (n : List ℕ) (c : Option (List ℕ)) → n ≢ name → new.may n c ↔ old.may n c
  pub gives : (n : List ℕ) → n ≢ name → new.gives n ≡ old.gives n

-- of each other name nothing has changed
pub record KeepsOthers (name : List ℕ) (old new : World) : Type 0 where
  pub may : (n : List ℕ) (c : Option (List ℕ)) → n ≢ name → new.may n c ↔ old.may n c
  pub gives : (n : List ℕ) → n ≢ name → new.gives n ≡ old.gives n

-- an image in which each other name has what it could have before
abbrev pub IsBeside : List ℕ → World → Image → Type 0
IsBeside name old image = (n : List ℕ) → n ≢ name → old.may n (image n)

-- a file that is written and synced, by what the call answers: after Ok a crash leaves it whole
abbrev pub Puts : {T : Type 0} → List ℕ → List ℕ → World → World → Result T StoreError → Type 0
Puts name bytes old new (Ok _) = Leaves name (Only (Some bytes)) old new × (new.gives name ≡ Some bytes)
Puts name bytes old new (Err _) = KeepsOthers name old new

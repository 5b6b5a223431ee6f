-- What a store in memory holds of each name.
use Rattle.std.specs.Prelude.{◌≡◌, ◌≢◌, List, [], ◌∷◌, ℕ, unwrap_or, is_some, if◌then◌else◌}
use Rattle.std.specs.HashMap.{HashMap, get_by_text}
use Rattle.std.specs.declared.alloc.Global.{Global}
use Rattle.std.specs.declared.hash.BuildHasherDefault.{BuildHasherDefault}
use Rattle.std.specs.declared.hash.FoldHasher.{FoldHasher}
use Rattle.std.specs.declared.string.String.{String}
use Rattle.std.specs.String.{string_bytes}
use Rattle.lsm_store.specs.Held.{Held, nothing}

abbrev pub Files : Type 0
Files = HashMap (String Global) Held (BuildHasherDefault FoldHasher)

-- what is held of a name
abbrev pub held_at : Files → List ℕ → Held
held_at files name = unwrap_or (get_by_text files name) nothing

-- the same of each name
abbrev pub HoldSame : Files → Files → Type 0
HoldSame old new = (n : List ℕ) → held_at new n ≡ held_at old n

-- one name's is changed so
pub record Alters (name : List ℕ) (f : Held → Held) (old new : Files) : Type 0 where
  pub here : held_at new name ≡ f (held_at old name)
  pub elsewhere : (n : List ℕ) → n ≢ name → held_at new n ≡ held_at old n

-- each name's is changed so
abbrev pub AltersEach : (Held → Held) → Files → Files → Type 0
AltersEach f old new = (n : List ℕ) → held_at new n ≡ f (held_at old n)

-- the names of which reads give something, in the order of the records
abbrev pub present : List (String Global × Held) → List (List ℕ)
present [] = []
present (e ∷ es) = if is_some e.1.gives then string_bytes e.0 ∷ present es else present es

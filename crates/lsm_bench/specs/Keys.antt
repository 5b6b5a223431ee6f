-- The bytes of keys and values, by their id.
use Rattle.std.specs.Prelude.{ℕ, ◌/◌, ◌%◌, ◌∷◌, ◌++◌, List, drop, replicate}
use Rattle.std.specs.Int.{w64, to_be_bytes}

-- the first half of the keys of an id's group
abbrev pub group_bytes : ℕ → List ℕ
group_bytes id = to_be_bytes w64 (id / 100)

-- the key of an id
abbrev pub key_bytes : ℕ → List ℕ
key_bytes id = group_bytes id ++ to_be_bytes w64 id

-- the key of an id, but for its first byte
abbrev pub absent_bytes : ℕ → List ℕ
absent_bytes id = 1 ∷ drop 1 (key_bytes id)

-- the value of an id
abbrev pub value_bytes : ℕ → List ℕ
value_bytes id = replicate 100 (id % 251)

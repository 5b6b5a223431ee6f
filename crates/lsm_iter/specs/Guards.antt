-- What an iterator over pairs hands out.
use Rattle.std.specs.Prelude.{ℕ, ◌-◌, ◌^◌, min, length, Result, Ok, Err}
use Rattle.lsm_below.specs.Keys.{Bytes}
use Rattle.lsm_below.specs.Entries.{Entry}
use Rattle.lsm_below.specs.declared.error.Error.{Error}

-- a key and its value
abbrev pub Pair : Type 0
Pair = Bytes × Bytes

-- a pair, or why there is none
abbrev pub Item : Type 0
Item = Result Pair Error

-- the pair of an entry
abbrev pub pair_of : Entry → Pair
pair_of e = (e.key.user_key, e.value)

-- the key of a pair
abbrev pub key_of : Item → Result Bytes Error
key_of (Ok p) = Ok p.0
key_of (Err e) = Err e

-- the bytes of its value, up to 2^32 - 1
abbrev pub size_of : Item → Result ℕ Error
size_of (Ok p) = Ok (min (length p.1) (2 ^ 32 - 1))
size_of (Err e) = Err e

-- The first 16 bytes of a key as a number.
use Rattle.std.specs.List.{All}
use Rattle.std.specs.Prelude.{◌≡◌, map, ℕ, zero, suc, ◌+◌, ◌*◌, List, [], ◌∷◌}
use Rattle.lsm_below.specs.Keys.{Bytes}
use Rattle.lsm_below.specs.Entries.{Entry, HasBytes}

-- the number so far with n more bytes after, big endian, zeros after the end
unfoldable pub head_from : ℕ → ℕ → Bytes → ℕ
head_from so_far zero key = so_far
head_from so_far (suc n) [] = head_from (so_far * 256) n []
head_from so_far (suc n) (x ∷ xs) = head_from (so_far * 256 + x) n xs

-- the first 16 bytes of a key as a number
abbrev pub key_head : Bytes → ℕ
key_head key = head_from 0 16 key

-- that of an entry's key
abbrev pub entry_head : Entry → ℕ
entry_head e = key_head e.key.user_key

-- the heads of entries whose keys have the numbers of bytes
pub record AreHeads (heads : List ℕ) (entries : List Entry) : Type 0 where
  pub same : heads ≡ map entry_head entries
  pub bytes : All HasBytes entries

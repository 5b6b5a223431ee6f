-- User keys: lists of bytes, ordered as texts are.
use Rattle.std.specs.Prelude.{ℕ, ◌<◌, Bool, List, slice_index_or}
use Rattle.std.specs.Ordering.{eq_by_cmp, is_lt, nat_cmp}
use Rattle.std.specs.declared.cmp.Ordering.{Ordering}
use Rattle.std.specs.Cmp.Lexicographic.{slice_cmp}

-- a key or a value
abbrev pub Bytes : Type 0
Bytes = List ℕ

-- numbers that bytes have
abbrev pub AreBytes : Bytes → Type 0
AreBytes key = (i : ℕ) → slice_index_or key i 0 < 256

-- the order of user keys, byte by byte
abbrev pub bytes_cmp : Bytes → Bytes → Ordering
bytes_cmp = slice_cmp nat_cmp

-- are two user keys the same?
abbrev pub is_same : Bytes → Bytes → Bool
is_same = eq_by_cmp bytes_cmp

-- is the first user key before the second?
unfoldable pub is_below : Bytes → Bytes → Bool
is_below a b = is_lt (bytes_cmp a b)

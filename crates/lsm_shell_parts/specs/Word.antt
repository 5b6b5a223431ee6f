-- Words, and the words of a line.
use Rattle.std.specs.Prelude.{ℕ, Bool, ◌&&◌, List, length, Option, Some, None, nat_le, nat_lt, ◌==◌, if◌then◌else◌}
use Rattle.std.specs.List.{list_all, slice_split}

-- may the byte stand in a word?
abbrev pub is_word_byte : ℕ → Bool
is_word_byte b = nat_le 33 b && nat_le b 126

-- a word has one or more bytes, each from 33 to 126
abbrev pub is_word : List ℕ → Bool
is_word w = nat_lt 0 (length w) && list_all is_word_byte w

-- what stands between the spaces of a line
abbrev pub parts_of : List ℕ → List (List ℕ)
parts_of line = slice_split (λ b. b == 32) line

-- the words of a line: what stands between its spaces, if each such part is a word
unfoldable pub words_of : List ℕ → Option (List (List ℕ))
words_of line = if list_all is_word (parts_of line) then Some (parts_of line) else None

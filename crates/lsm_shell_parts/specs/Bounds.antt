-- The bounds and prefixes that words give: `-` leaves a bound open, and is the empty prefix.
use Rattle.std.specs.Prelude.{ℕ, List, [], ◌∷◌, codes, bytes_eq, if◌then◌else◌}
use Rattle.std.specs.declared.ops.Bound.{Bound}
use Rattle.std.specs.declared.ops.Bound.TheVariants.{Included, Excluded, Unbounded}

-- the bound that a word gives with its key within
abbrev pub included_of : List ℕ → Bound (List ℕ)
included_of word = if bytes_eq word (codes "-") then Unbounded else Included word

-- the bound that a word gives with its key without
abbrev pub excluded_of : List ℕ → Bound (List ℕ)
excluded_of word = if bytes_eq word (codes "-") then Unbounded else Excluded word

-- the prefix that a word gives
abbrev pub prefix_of : List ℕ → List ℕ
prefix_of word = if bytes_eq word (codes "-") then [] else word

-- ---- and back

-- the word that gives a key: itself, and the empty list, which is no word, for the key `-`
abbrev pub key_word : List ℕ → List ℕ
key_word key = if bytes_eq key (codes "-") then [] else key

-- the word that gives a bound with its key within, the empty list where no word does
abbrev pub included_word : Bound (List ℕ) → List ℕ
included_word Unbounded = codes "-"
included_word (Included key) = key_word key
included_word (Excluded key) = []

-- the word that gives a bound with its key without, the empty list where no word does
abbrev pub excluded_word : Bound (List ℕ) → List ℕ
excluded_word Unbounded = codes "-"
excluded_word (Included key) = []
excluded_word (Excluded key) = key_word key

-- the word that gives a prefix, the empty list where no word does
abbrev pub prefix_word : List ℕ → List ℕ
prefix_word [] = codes "-"
prefix_word (byte ∷ rest) = key_word (byte ∷ rest)

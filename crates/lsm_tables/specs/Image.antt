-- The content of a table's file, which its words call its image.
use Rattle.std.specs.Prelude.{◌≡◌, ℕ, ◌+◌, ◌<◌, ◌^◌, List, [], ◌∷◌, ◌++◌, length, sum_by}
use Rattle.std.specs.List.{flat_map, AllByRecursion}
use Rattle.byteorder.specs.Endian.{little_bytes}
use Rattle.lsm_below.specs.Keys.{Bytes}
use Rattle.lsm_below.specs.Entries.{Entry, entry_cmp, kept_value}
use Rattle.lsm_below.specs.Sorted.{Rises}
use Rattle.lsm_below.specs.declared.value_type.ValueType.{ValueType}
use Rattle.lsm_below.specs.declared.value_type.ValueType.TheVariants.{Value, Tombstone, WeakTombstone}

-- the byte of a type
abbrev pub type_code : ValueType → ℕ
type_code Value = 0
type_code Tombstone = 1
type_code WeakTombstone = 2

-- the 15 bytes before an entry's key: key length, sequence number, type, value length
unfoldable pub head : ℕ → ℕ → ValueType → ℕ → Bytes
head key_len seqno kind value_len = little_bytes 2 key_len ++ little_bytes 8 seqno ++ type_code kind ∷ [] ++ little_bytes 4 value_len

-- an entry in the file: its head, its key, its value
abbrev pub spelled : Entry → Bytes
spelled e = head (length e.key.user_key) e.key.seqno e.key.value_type (length e.value) ++ (e.key.user_key ++ e.value)

-- the 20 bytes before the entries: the letters LSMT, made-at, the count
unfoldable pub front : ℕ → ℕ → Bytes
front made_at count = 76 ∷ 83 ∷ 77 ∷ 84 ∷ [] ++ little_bytes 8 made_at ++ little_bytes 8 count

-- the content: nothing comes after the last entry
abbrev pub image : ℕ → List Entry → Bytes
image made_at es = front made_at (length es) ++ flat_map spelled es

-- the bytes that entries take in a file
abbrev pub entry_bytes : List Entry → ℕ
entry_bytes es = sum_by (λ e. 15 + length e.key.user_key + length e.value) es

-- what a file can spell: an entry within the widths, and of a tombstone none with a value
pub record Fits (e : Entry) : Type 0 where
  pub key : length e.key.user_key < 2 ^ 16
  pub seqno : e.key.seqno < 2 ^ 64
  pub value : length e.value < 2 ^ 32
  pub empty : kept_value e.key.value_type e.value ≡ e.value

-- what a table is: at least one entry, by rising key, and under one key by falling sequence number
pub record IsTable (es : List Entry) : Type 0 where
  pub some : 0 < length es
  pub count : length es < 2 ^ 64
  pub each : AllByRecursion Fits es
  pub rises : Rises entry_cmp es

-- the bytes are the content of a table's file
pub record IsImageOf (made_at : ℕ) (es : List Entry) (bytes : Bytes) : Type 0 where
  pub moment : made_at < 2 ^ 64
  pub table : IsTable es
  pub spelling : bytes ≡ image made_at es

-- the bytes are the content of no table's file
abbrev pub IsNoImage : Bytes → Type 0
IsNoImage bytes = (made_at : ℕ) (es : List Entry) → IsImageOf made_at es bytes → ⊥

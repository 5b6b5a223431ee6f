-- The content of a record's file.
use Rattle.std.specs.Prelude.{◌≡◌, ℕ, ◌<◌, ◌^◌, false, List, [], ◌∷◌, ◌++◌, length}
use Rattle.std.specs.List.{flat_map, AllByRecursion}
use Rattle.byteorder.specs.Endian.{little_bytes}
use Rattle.lsm_below.specs.Keys.{Bytes}
use Rattle.lsm_tables.specs.Image.{Fits}
use Rattle.lsm_model.specs.Ops.{op_entries, op_value, keys_of, repeats}
use Rattle.lsm_model.specs.declared.op.Op.{Op}
use Rattle.lsm_model.specs.declared.op.Op.TheVariants.{Set, Del, Weak}

-- the writes of a batch, each of them a key and what it does to the key
abbrev pub Ops : Type 0
Ops = List (Bytes × Op)

-- the byte of an operation's type, as in a table's file
abbrev pub code_of : Op → ℕ
code_of (Set v) = 0
code_of Del = 1
code_of Weak = 2

-- the 7 bytes before an operation's key: key length, type, value length
unfoldable pub head : ℕ → ℕ → ℕ → Bytes
head key_len code value_len = little_bytes 2 key_len ++ code ∷ [] ++ little_bytes 4 value_len

-- an operation in the record: its head, its key, its value
abbrev pub spelled : Bytes × Op → Bytes
spelled p = head (length p.0) (code_of p.1) (length (op_value p.1)) ++ (p.0 ++ op_value p.1)

-- the 16 bytes before the operations: the letters LSML, the sequence number, the count
unfoldable pub front : ℕ → ℕ → Bytes
front number count = 76 ∷ 83 ∷ 77 ∷ 76 ∷ [] ++ little_bytes 8 number ++ little_bytes 4 count

-- the content: nothing comes after the last operation
abbrev pub spelling : ℕ → Ops → Bytes
spelling number ops = front number (length ops) ++ flat_map spelled ops

-- an operation within the widths
pub record OpFits (p : Bytes × Op) : Type 0 where
  pub key : length p.0 < 2 ^ 16
  pub value : length (op_value p.1) < 2 ^ 32

-- what a record can spell: its entries fit files, and no key comes twice
pub record IsBatch (number : ℕ) (ops : Ops) : Type 0 where
  pub number_fits : number < 2 ^ 64
  pub count : length ops < 2 ^ 32
  pub each : AllByRecursion Fits (op_entries number ops)
  pub once : repeats (keys_of ops) ≡ false

-- the bytes are the record of this batch under this sequence number
pub record IsRecordOf (number : ℕ) (ops : Ops) (bytes : Bytes) : Type 0 where
  pub batch : IsBatch number ops
  pub written : bytes ≡ spelling number ops

-- the bytes are no record
abbrev pub IsNoRecord : Bytes → Type 0
IsNoRecord bytes = (number : ℕ) (ops : Ops) → IsRecordOf number ops bytes → ⊥

-- How the private functions of `image` read a table's file, from left to right.
use Rattle.std.specs.Prelude.{◌≡◌, ℕ, zero, suc, ◌+◌, Bool, true, List, [], ◌∷◌, length, take, drop, slice_index, not, ◌&&◌, ◌==◌, nat_lt, Result, Ok, Err, if◌then◌else◌}
use Rattle.byteorder.specs.Endian.{little_number}
use Rattle.lsm_below.specs.Keys.{Bytes}
use Rattle.lsm_below.specs.Entries.{Entry}
use Rattle.lsm_below.specs.Slots.{is_before}
use Rattle.lsm_tables.specs.Reading.{◌>>=◌, many}
use Rattle.lsm_below.specs.declared.value_type.ValueType.{ValueType}
use Rattle.lsm_below.specs.declared.value_type.ValueType.TheVariants.{Value, Tombstone, WeakTombstone}
use Rattle.lsm_tables.specs.declared.image.reading.Header.{Header}
use Rattle.lsm_tables.specs.declared.table_error.TableError.{TableError}
use Rattle.lsm_tables.specs.declared.table_error.TableError.TheVariants.{OutOfMemory, BadTable}

-- What was answered, seen by view, is what reading gives, unless memory ran out.
abbrev pub Fails : {Y : Type 0} → TableError → Result Y TableError → Type 0
Fails OutOfMemory read = Unit {0}
Fails BadTable read = read ≡ Err BadTable

abbrev pub Gives : {X Y : Type 0} → (X → Y) → Result X TableError → Result Y TableError → Type 0
Gives view (Ok x) read = read ≡ Ok (view x)
Gives view (Err e) read = Fails e read

abbrev pub type_of : ℕ → Result ValueType TableError
type_of zero = Ok Value
type_of (suc zero) = Ok Tombstone
type_of (suc (suc zero)) = Ok WeakTombstone
type_of (suc (suc (suc n))) = Err BadTable

unfoldable pub header_at : Bytes → Result Header TableError
header_at bytes = do
  kind ← type_of (slice_index bytes 10)
  Ok (record { key_len = little_number 2 bytes; seqno = little_number 8 (drop 2 bytes); value_type = kind; value_len = little_number 4 (drop 11 bytes) })

-- may an entry of this type have so many bytes of value?
abbrev pub may_have : ValueType → ℕ → Bool
may_have Value n = true
may_have Tombstone n = n == 0
may_have WeakTombstone n = n == 0

unfoldable pub body_at : Header → Bytes → Result (Entry × Bytes) TableError
body_at h bytes =
    if nat_lt (length bytes) (h.key_len + h.value_len) then Err BadTable else
    if may_have h.value_type h.value_len then
    Ok (record { key = record { user_key = take h.key_len bytes; seqno = h.seqno; value_type = h.value_type }; value = take h.value_len (drop h.key_len bytes) }, drop h.value_len (drop h.key_len bytes))
    else Err BadTable

unfoldable pub spelled_at : Bytes → Result (Entry × Bytes) TableError
spelled_at bytes = if nat_lt (length bytes) 15 then Err BadTable else (header_at bytes >>= λ h. body_at h (drop 15 bytes))

-- does each entry stand before the next one?
abbrev pub rises_after : Entry → List Entry → Bool
rises_after e [] = true
rises_after e (f ∷ es) = is_before e f && rises_after f es

abbrev pub rises : List Entry → Bool
rises [] = true
rises (e ∷ es) = rises_after e es

-- does the last of these stand before an entry?
abbrev pub follows_after : Entry → List Entry → Entry → Bool
follows_after e [] f = is_before e f
follows_after e (g ∷ es) f = follows_after g es f

abbrev pub follows : List Entry → Entry → Bool
follows [] f = true
follows (e ∷ es) f = follows_after e es f

abbrev pub ends_well : List Entry → Bytes → Bool
ends_well es rest = length rest == 0 && not (length es == 0) && rises es

-- made-at and entries
abbrev pub contents : ℕ → List Entry → ℕ × List Entry
contents made_at es = (made_at, es)

unfoldable pub image_at : Bytes → Result (ℕ × List Entry) TableError
image_at bytes =
    if nat_lt (length bytes) 20 then Err BadTable else
    if little_number 4 bytes == 1414353740 then
    (many spelled_at (little_number 8 (drop 12 bytes)) (drop 20 bytes) >>= λ es.
    if ends_well es.0 es.1 then Ok (little_number 8 (drop 4 bytes), es.0) else Err BadTable)
    else Err BadTable

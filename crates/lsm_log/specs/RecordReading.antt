-- How the private functions of `reading` read a record, from left to right.
use Rattle.std.specs.Prelude.{◌≡◌, ℕ, zero, suc, ◌+◌, Bool, length, take, drop, slice_index, not, ◌&&◌, ◌==◌, nat_lt, Result, Ok, Err, if◌then◌else◌}
use Rattle.byteorder.specs.Endian.{little_number}
use Rattle.lsm_below.specs.Keys.{Bytes}
use Rattle.lsm_tables.specs.Reading.{◌>>=◌, many}
use Rattle.lsm_model.specs.Ops.{keys_of, repeats}
use Rattle.lsm_model.specs.declared.op.Op.{Op}
use Rattle.lsm_model.specs.declared.op.Op.TheVariants.{Set, Del, Weak}
use Rattle.lsm_log.specs.Records.{Ops}
use Rattle.lsm_log.specs.declared.record_error.RecordError.{RecordError}
use Rattle.lsm_log.specs.declared.record_error.RecordError.TheVariants.{OutOfMemory, BadRecord}

-- What was answered, seen by view, is what reading gives, unless memory ran out.
abbrev pub Fails : {Y : Type 0} → RecordError → Result Y RecordError → Type 0
Fails OutOfMemory read = Unit {0}
Fails BadRecord read = read ≡ Err BadRecord

abbrev pub Gives : {X Y : Type 0} → (X → Y) → Result X RecordError → Result Y RecordError → Type 0
Gives view (Ok x) read = read ≡ Ok (view x)
Gives view (Err e) read = Fails e read

-- what an operation of this type does, whose value has these bytes: one that removes has none
abbrev pub op_of : ℕ → Bytes → Result Op RecordError
op_of zero v = Ok (Set v)
op_of (suc zero) v = if length v == 0 then Ok Del else Err BadRecord
op_of (suc (suc zero)) v = if length v == 0 then Ok Weak else Err BadRecord
op_of (suc (suc (suc n))) v = Err BadRecord

unfoldable pub body_at : ℕ → ℕ → ℕ → Bytes → Result ((Bytes × Op) × Bytes) RecordError
body_at key_len code value_len bytes =
    if nat_lt (length bytes) (key_len + value_len) then Err BadRecord else
    (op_of code (take value_len (drop key_len bytes)) >>= λ op. Ok ((take key_len bytes, op), drop value_len (drop key_len bytes)))

unfoldable pub spelled_at : Bytes → Result ((Bytes × Op) × Bytes) RecordError
spelled_at bytes = if nat_lt (length bytes) 7 then Err BadRecord else body_at (little_number 2 bytes) (slice_index bytes 2) (little_number 4 (drop 3 bytes)) (drop 7 bytes)

abbrev pub ends_well : Ops → Bytes → Bool
ends_well ops rest = length rest == 0 && not (repeats (keys_of ops))

-- sequence number and operations
abbrev pub contents : ℕ → Ops → ℕ × Ops
contents number ops = (number, ops)

unfoldable pub record_at : Bytes → Result (ℕ × Ops) RecordError
record_at bytes =
    if nat_lt (length bytes) 16 then Err BadRecord else
    if little_number 4 bytes == 1280136012 then
    (many spelled_at (little_number 4 (drop 12 bytes)) (drop 16 bytes) >>= λ ops.
    if ends_well ops.0 ops.1 then Ok (little_number 8 (drop 4 bytes), ops.0) else Err BadRecord)
    else Err BadRecord

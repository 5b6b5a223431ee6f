-- Why a write is refused, whatever the memory: the first of these reasons that holds.
use Rattle.std.specs.Prelude.{ℕ, Bool, List, length, Option, Some, None, if◌then◌else◌, nat_lt, nat_le}
use Rattle.std.specs.List.{list_any}
use Rattle.lsm_below.specs.Keys.{Bytes}
use Rattle.lsm_below.specs.Entries.{Entry}
use Rattle.lsm_model.specs.declared.op.Op.{Op}
use Rattle.lsm_model.specs.Ops.{op_value, repeats, keys_of}
use Rattle.lsm_below.specs.declared.error.Error.{Error}
use Rattle.lsm_below.specs.declared.error.Error.TheVariants.{OutOfNumbers, KeyTooLong, ValueTooLong, NumberTooGreat, DuplicateKey}

-- has the key more than 65,535 bytes?
abbrev pub is_long_key : Bytes → Bool
is_long_key k = nat_lt 65535 (length k)

-- has the value more than 2^32 - 1 bytes?
abbrev pub is_long_value : Bytes → Bool
is_long_value v = nat_lt 4294967295 (length v)

-- is the number 2^63 or more?
abbrev pub is_great : ℕ → Bool
is_great n = nat_le 9223372036854775808 n

-- why an entry is refused
abbrev pub entry_refusal : Entry → Option Error
entry_refusal e =
    if is_long_key e.key.user_key then Some KeyTooLong
    else (if is_long_value e.value then Some ValueTooLong
    else (if is_great e.key.seqno then Some NumberTooGreat else None))

-- why a batch is refused, under the sequence number that it would draw
abbrev pub batch_refusal : ℕ → List (Bytes × Op) → Option Error
batch_refusal n ops =
    if is_great n then Some OutOfNumbers
    else (if list_any (λ p. is_long_key p.0) ops then Some KeyTooLong
    else (if list_any (λ p. is_long_value (op_value p.1)) ops then Some ValueTooLong
    else (if repeats (keys_of ops) then Some DuplicateKey else None)))

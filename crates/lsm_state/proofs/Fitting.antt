-- Accepted writes fit files, and memtables keep it.
use Rattle.std.proofs.Common.{◌≡◌, ℕ, ◌<◌, ◌^◌, Bool, true, false, cond, ◌||◌, List, [], ◌∷◌, Some, None, length, refl, arith}
use Rattle.std.specs.List.{AllByRecursion, list_any}
use Rattle.std.proofs.lemmas.Bool.Decides.{nat_tests}
use Rattle.lsm_below.specs.Keys.{Bytes}
use Rattle.lsm_below.specs.declared.error.Error.TheVariants.{OutOfNumbers, KeyTooLong, ValueTooLong, DuplicateKey}
use Rattle.lsm_tables.specs.Image.{Fits}
use Rattle.lsm_model.specs.Ops.{op_entry, op_entries, op_value, repeats, keys_of}
use Rattle.lsm_model.specs.declared.op.Op.{Op}
use Rattle.lsm_model.specs.declared.op.Op.TheVariants.{Set, Del, Weak}
use Rattle.lsm_state.specs.Refusals.{is_great, is_long_key, is_long_value, batch_refusal}

-- ---- an entry

short_key : (k : Bytes) → is_long_key k ≡ false → length k < 2 ^ 16
short_key k h = grind (arith, nat_tests)

short_value : (v : Bytes) → is_long_value v ≡ false → length v < 2 ^ 32
short_value v h = grind (arith, nat_tests)

small : (n : ℕ) → is_great n ≡ false → n < 2 ^ 64
small n h = grind (arith, nat_tests)

-- ---- a batch

none_first : (a b : Bool) → (a || b) ≡ false → (a ≡ false) × (b ≡ false)
none_first true b h = absurd (cc h)
none_first false b h = (refl, h)

op_fits : (k : Bytes) (n : ℕ) (op : Op) → is_great n ≡ false → is_long_key k ≡ false → is_long_value (op_value op) ≡ false → Fits (op_entry k n op)
op_fits k n (Set v) great key value = record { key = short_key k key; seqno = small n great; value = short_value v value; empty = refl }
op_fits k n Del great key value = record { key = short_key k key; seqno = small n great; value = short_value [] value; empty = refl }
op_fits k n Weak great key value = record { key = short_key k key; seqno = small n great; value = short_value [] value; empty = refl }

ops_fit : (n : ℕ) (ops : List (Bytes × Op)) → is_great n ≡ false → list_any (λ p. is_long_key p.0) ops ≡ false → list_any (λ p. is_long_value (op_value p.1)) ops ≡ false → AllByRecursion Fits (op_entries n ops)
ops_fit n [] great keys values = tt
ops_fit n (p ∷ ops) great keys values =
    let k = none_first (is_long_key p.0) (list_any (λ q. is_long_key q.0) ops) keys in
    let v = none_first (is_long_value (op_value p.1)) (list_any (λ q. is_long_value (op_value q.1)) ops) values in
    (op_fits p.0 n p.1 great k.0 v.0, ops_fit n ops great k.1 v.1)

passes_batch : (a b c d : Bool) → cond a (Some OutOfNumbers) (cond b (Some KeyTooLong) (cond c (Some ValueTooLong) (cond d (Some DuplicateKey) None))) ≡ None → (a ≡ false) × ((b ≡ false) × (c ≡ false))
passes_batch true b c d h = absurd (cc h)
passes_batch false true c d h = absurd (cc h)
passes_batch false false true d h = absurd (cc h)
passes_batch false false false d h = (refl, (refl, refl))

pub batch_fits : (n : ℕ) (ops : List (Bytes × Op)) → batch_refusal n ops ≡ None → AllByRecursion Fits (op_entries n ops)
batch_fits n ops h =
    let p = passes_batch (is_great n) (list_any (λ p. is_long_key p.0) ops) (list_any (λ p. is_long_value (op_value p.1)) ops) (repeats (keys_of ops)) h in
    ops_fit n ops p.0 p.1.0 p.1.1

-- Entries of a record are taken by a tree, but for want of memory.
use Rattle.std.proofs.Common.{◌≡◌, ℕ, ◌<◌, ◌^◌, Bool, true, false, cond, List, [], ◌∷◌, ◌++◌, Some, None, Result, IfErr, length, refl, sym, subst, arith}
use Rattle.std.proofs.lemmas.Bool.Decides.{nat_tests}
use Rattle.std.proofs.lemmas.List.{map-append}
use Rattle.std.specs.List.{AllByRecursion}
use Rattle.lsm_below.specs.Each.{each_right}
use Rattle.lsm_below.specs.Keys.{Bytes}
use Rattle.lsm_below.specs.Entries.{Entry, plain}
use Rattle.lsm_below.specs.declared.error.Error.{Error}
use Rattle.lsm_below.specs.declared.error.Error.TheVariants.{OutOfMemory, KeyTooLong, ValueTooLong, NumberTooGreat}
use Rattle.lsm_tables.specs.Image.{Fits}
use Rattle.lsm_model.specs.Ops.{op_entry, op_entries}
use Rattle.lsm_model.specs.declared.op.Op.{Op}
use Rattle.lsm_model.specs.declared.op.Op.TheVariants.{Set, Del, Weak}
use Rattle.lsm_state.specs.Calls.{Appends}
use Rattle.lsm_state.specs.Core.{Core}
use Rattle.lsm_state.specs.Refusals.{is_great, is_long_key, is_long_value, entry_refusal}

short_key : (k : Bytes) → length k < 2 ^ 16 → is_long_key k ≡ false
short_key k h = grind (arith, nat_tests)

short_value : (v : Bytes) → length v < 2 ^ 32 → is_long_value v ≡ false
short_value v h = grind (arith, nat_tests)

small : (n : ℕ) → n < 2 ^ 63 → is_great n ≡ false
small n h = grind (arith, nat_tests)

passes : (a b c : Bool) → a ≡ false → b ≡ false → c ≡ false → cond a (Some KeyTooLong) (cond b (Some ValueTooLong) (cond c (Some NumberTooGreat) None)) ≡ None
passes true b c p q r = absurd (cc p)
passes false true c p q r = absurd (cc q)
passes false false true p q r = absurd (cc r)
passes false false false p q r = refl

taken : (k : Bytes) (n : ℕ) (op : Op) → Fits (op_entry k n op) → n < 2 ^ 63 → entry_refusal (plain (op_entry k n op)) ≡ None
taken k n (Set v) fits lt = passes (is_long_key k) (is_long_value v) (is_great n) (short_key k fits.key) (short_value v fits.value) (small n lt)
taken k n Del fits lt = passes (is_long_key k) (is_long_value []) (is_great n) (short_key k fits.key) (short_value [] fits.value) (small n lt)
taken k n Weak fits lt = passes (is_long_key k) (is_long_value []) (is_great n) (short_key k fits.key) (short_value [] fits.value) (small n lt)

-- one of the operations of a record, after these
pub only_memory : (n : ℕ) (before after : List (Bytes × Op)) (k : Bytes) (op : Op) (e : Entry) (r : Result (ℕ × ℕ) Error) (old new : Core) → AllByRecursion Fits (op_entries n (before ++ (k, op) ∷ after)) → n < 2 ^ 63
    → e ≡ op_entry k n op → Appends (plain e) r old new → IfErr r (λ x. x ≡ OutOfMemory)
only_memory n before after k op e r old new fit lt is appends =
    let each = subst (AllByRecursion Fits) (map-append (λ p. op_entry p.0 n p.1) before ((k, op) ∷ after)) fit in
    let here = (each_right Fits (op_entries n before) (op_entries n ((k, op) ∷ after)) each).0 in
    appends.memory (subst (λ x. entry_refusal (plain x) ≡ None) (sym is) (taken k n op here lt))

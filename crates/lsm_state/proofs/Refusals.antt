-- Why a batch is refused.
use Rattle.std.proofs.Common.{◌≡◌, ℕ, ◌<◌, Bool, true, false, cond, List, Some, None, refl, arith}
use Rattle.std.specs.List.{list_any}
use Rattle.std.proofs.lemmas.Bool.Decides.{nat_tests}
use Rattle.lsm_below.specs.Keys.{Bytes}
use Rattle.lsm_model.specs.declared.op.Op.{Op}
use Rattle.lsm_below.specs.declared.error.Error.TheVariants.{OutOfNumbers, KeyTooLong, ValueTooLong, DuplicateKey}
use Rattle.lsm_model.specs.Ops.{op_value, repeats, keys_of}
use Rattle.lsm_state.specs.Refusals.{is_great, is_long_key, is_long_value, batch_refusal}

module _ (n : ℕ) (ops : List (Bytes × Op)) where
  below : n < 9223372036854775808 → is_great n ≡ false
  below h = grind (arith, nat_tests)

  -- the tests in turn
  decide : (a b c d : Bool) → is_great n ≡ a → list_any (λ p. is_long_key p.0) ops ≡ b → list_any (λ p. is_long_value (op_value p.1)) ops ≡ c → repeats (keys_of ops) ≡ d
      → batch_refusal n ops ≡ cond a (Some OutOfNumbers) (cond b (Some KeyTooLong) (cond c (Some ValueTooLong) (cond d (Some DuplicateKey) None)))
  decide a b c d ha hb hc hd = rw (ha, hb, hc, hd) refl

  pub long_key : n < 9223372036854775808 → list_any (λ p. is_long_key p.0) ops ≡ true → batch_refusal n ops ≡ Some KeyTooLong
  long_key h k = decide false true _ _ (below h) k refl refl

  pub long_value : n < 9223372036854775808 → list_any (λ p. is_long_key p.0) ops ≡ false → list_any (λ p. is_long_value (op_value p.1)) ops ≡ true → batch_refusal n ops ≡ Some ValueTooLong
  long_value h k v = decide false false true _ (below h) k v refl

  pub doubled : n < 9223372036854775808 → list_any (λ p. is_long_key p.0) ops ≡ false → list_any (λ p. is_long_value (op_value p.1)) ops ≡ false → repeats (keys_of ops) ≡ true → batch_refusal n ops ≡ Some DuplicateKey
  doubled h k v d = decide false false false true (below h) k v d

  pub accepted : n < 9223372036854775808 → list_any (λ p. is_long_key p.0) ops ≡ false → list_any (λ p. is_long_value (op_value p.1)) ops ≡ false → repeats (keys_of ops) ≡ false → batch_refusal n ops ≡ None
  accepted h k v d = decide false false false false (below h) k v d

-- What bytes add to a sum.
use Rattle.std.specs.Prelude.{◌≡◌, ℕ, ◌+◌, ◌*◌, ◌%◌, ◌^◌, ◌<◌, slice_index}
use Rattle.lsm_tables.specs.Sum.{prime}
use Rattle.lsm_tables.specs.declared.checksum.Weights.{Weights}

-- what each byte adds, with one, two and three bytes after it
pub record AreWeights (w : Weights) : Type 0 where
  pub one : (b : ℕ) → b < 256 → slice_index w.one b ≡ (b + 1) * prime
  pub two : (b : ℕ) → b < 256 → slice_index w.two b ≡ (b + 1) * (prime * prime) % 2 ^ 128
  pub three : (b : ℕ) → b < 256 → slice_index w.three b ≡ (b + 1) * (prime * prime * prime) % 2 ^ 128

use Rattle.std.proofs.Common.{◌≡◌, ℕ, ◌+◌, ◌*◌, ◌%◌, ◌^◌, ◌<◌, get_or, length}
use Rattle.lsm_tables.specs.Sum.{prime}
use Rattle.lsm_tables.proofs.checksum.make_weights.Given as goal

abbrev pub invariant-loop-byte : goal.invariant-loop-byte
invariant-loop-byte l = record {
  one_len : length l.one ≡ 256;
  two_len : length l.two ≡ 256;
  three_len : length l.three ≡ 256;
  one : (b : ℕ) → b < l.byte → get_or l.one b 0 ≡ (b + 1) * prime;
  two : (b : ℕ) → b < l.byte → get_or l.two b 0 ≡ (b + 1) * (prime * prime) % 2 ^ 128;
  three : (b : ℕ) → b < l.byte → get_or l.three b 0 ≡ (b + 1) * (prime * prime * prime) % 2 ^ 128;
}

-- The checksum of bytes.
use Rattle.std.specs.Prelude.{ℕ, ◌+◌, ◌*◌, ◌%◌, ◌^◌, List}
use Rattle.std.specs.List.{fold}

abbrev pub prime : ℕ
prime = 1099511628211

-- the sum with one more byte
abbrev pub step : ℕ → ℕ → ℕ
step s byte = (s * prime + byte + 1) % 2 ^ 128

-- the sum of bytes, from 0
abbrev pub sum_of : List ℕ → ℕ
sum_of bytes = fold step 0 bytes

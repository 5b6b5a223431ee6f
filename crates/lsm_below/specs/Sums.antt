-- Sums that stand at the greatest number that 64 bits hold.
use Rattle.std.specs.Prelude.{ℕ, ◌-◌, ◌^◌, min}

-- a sum that stands at the greatest number
abbrev pub capped : ℕ → ℕ
capped n = min n (2 ^ 64 - 1)

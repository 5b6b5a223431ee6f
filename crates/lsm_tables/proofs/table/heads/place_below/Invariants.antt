use Rattle.std.proofs.Common.{◌≡◌, ℕ, ◌-◌, ◌<◌, ◌≤◌, length, get_or, true, false}
use Rattle.lsm_below.specs.declared.value.InternalValue.{InternalValue}
use Rattle.lsm_below.specs.Lookups.{stands_before}
use Rattle.lsm_tables.proofs.table.heads.place_below.Given as goal

abbrev pub invariant-loop-low : goal.invariant-loop-low
invariant-loop-low l =
    (l.low ≤ l.high) × (l.high ≤ length l.entries)
    × ((j : ℕ) (d : InternalValue) → j < l.low → stands_before l.key l.number (get_or l.entries j d) ≡ true)
    × ((j : ℕ) (d : InternalValue) → l.high ≤ j → j < length l.entries → stands_before l.key l.number (get_or l.entries j d) ≡ false)

abbrev pub decreases-loop-low : goal.decreases-loop-low
decreases-loop-low l = l.high - l.low

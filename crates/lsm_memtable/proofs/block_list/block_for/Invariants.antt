use Rattle.std.proofs.Common.{◌≡◌, ℕ, ◌-◌, ◌<◌, ◌≤◌, [], length, take, get_or, true, false}
use Rattle.lsm_below.specs.declared.value.InternalValue.{InternalValue}
use Rattle.lsm_below.specs.Lookups.{stands_before}
use Rattle.lsm_memtable.specs.Blocks.{joined, IsPaid}
use Rattle.lsm_memtable.proofs.block_list.block_for.Given as goal

abbrev pub invariant-loop-low : goal.invariant-loop-low
invariant-loop-low l =
    (l.low ≤ l.high) × (l.high < length l.blocks.items)
    × ((j : ℕ) (d : InternalValue) → j < length (joined (take l.low l.blocks.items)) → stands_before l.key l.number (get_or (joined l.blocks.items) j d) ≡ true)
    × ((d : InternalValue) → stands_before l.key l.number (get_or (get_or l.blocks.items l.high []) (length (get_or l.blocks.items l.high []) - 1) d) ≡ false)
    × IsPaid (l.high - l.low) (length l.blocks.items) l.initial.steps.compared l.steps.compared
    × (l.steps.moved ≡ l.initial.steps.moved)

abbrev pub decreases-loop-low : goal.decreases-loop-low
decreases-loop-low l = l.high - l.low

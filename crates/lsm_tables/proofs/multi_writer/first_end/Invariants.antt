use Rattle.std.proofs.Common.{◌≡◌, ℕ, ◌<◌, ◌≤◌, ◌-◌, false, length, get_or, take, drop}
use Rattle.lsm_below.specs.Entries.{Entry}
use Rattle.lsm_below.specs.Slots.{same_key}
use Rattle.lsm_tables.specs.Image.{entry_bytes}
use Rattle.lsm_below.specs.Sums.{capped}
use Rattle.lsm_tables.proofs.multi_writer.first_end.Given as goal

abbrev pub invariant-loop-entry : goal.invariant-loop-entry
invariant-loop-entry l =
    (0 < l.end) × (l.end ≤ length l.entries) × (l.held ≡ capped (entry_bytes (take l.end l.entries)))
    × ((j : ℕ) (d : Entry) → 0 < j → j < l.end → same_key (get_or l.entries (j - 1) d) (get_or l.entries j d) ≡ false → entry_bytes (take j l.entries) < l.target)
    × (l.rest ≡ drop l.end l.entries)
    × ((d : Entry) → l.last ≡ get_or l.entries (l.end - 1) d)

abbrev pub decreases-loop-entry : goal.decreases-loop-entry
decreases-loop-entry l = length l.rest

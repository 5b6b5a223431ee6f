use Rattle.std.proofs.Common.{◌≡◌, ℕ, ◌-◌, ◌<◌, ◌≤◌, true, length, get_or}
use Rattle.lsm_below.specs.Entries.{Entry}
use Rattle.lsm_below.specs.Slots.{same_key}
use Rattle.lsm_iter.proofs.trim.group_len.Given as goal

abbrev pub invariant-loop-len : goal.invariant-loop-len
invariant-loop-len l =
    record {
      some : 0 < l.len;
      inside : l.len ≤ length l.entries;
      alike : (j : ℕ) (d : Entry) → j < l.len → same_key (get_or l.entries 0 d) (get_or l.entries j d) ≡ true;
    }

abbrev pub decreases-loop-len : goal.decreases-loop-len
decreases-loop-len l = length l.entries - l.len

use Rattle.std.proofs.Common.{◌≡◌, take}
use Rattle.lsm_checks.specs.Parted.{parted_from}
use Rattle.lsm_checks.proofs.parted_run.part_levels.Given as goal

abbrev pub invariant-loop-i : goal.invariant-loop-i
invariant-loop-i l = l.parted.items ≡ parted_from l.ids.keys 0 (take l.i l.levels)

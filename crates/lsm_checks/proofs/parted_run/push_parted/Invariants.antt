use Rattle.std.proofs.Common.{◌≡◌, ◌++◌, map, take}
use Rattle.lsm_checks.specs.Parted.{part_of}
use Rattle.lsm_checks.proofs.parted_run.push_parted.Given as goal

abbrev pub invariant-loop-run : goal.invariant-loop-run
invariant-loop-run l = l.parted.items ≡ l.initial.parted.items ++ map (part_of l.ids.keys l.level) (take l.run-index l.runs)

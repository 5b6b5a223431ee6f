use Rattle.std.proofs.Common.{◌<◌, ◌^◌, take}
use Rattle.std.specs.List.{AllByRecursion}
use Rattle.lsm_manifest.proofs.levels.level_is_small.Given as goal

abbrev pub invariant-loop-run : goal.invariant-loop-run
invariant-loop-run l = AllByRecursion (λ r. AllByRecursion (λ u. AllByRecursion (λ e. e.key.seqno < 2 ^ 63) u.entries) r) (take l.run-index l.level)

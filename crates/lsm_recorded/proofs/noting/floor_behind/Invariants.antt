use Rattle.std.proofs.Common.{◌≡◌, fold, take}
use Rattle.lsm_model.specs.Journal.{floor_after}
use Rattle.lsm_recorded.proofs.noting.floor_behind.Given as goal

abbrev pub invariant-loop-entry : goal.invariant-loop-entry
invariant-loop-entry l = l.highest ≡ fold floor_after l.floor (take l.entry-index l.entries)

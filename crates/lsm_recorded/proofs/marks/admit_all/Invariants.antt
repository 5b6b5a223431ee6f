use Rattle.std.proofs.Common.{◌≡◌, true, take}
use Rattle.std.specs.List.{list_all}
use Rattle.lsm_recorded.specs.Marks.{mark_of, op_allowed}
use Rattle.lsm_recorded.proofs.marks.admit_all.Given as goal

abbrev pub invariant-loop-key : goal.invariant-loop-key
invariant-loop-key l = list_all (op_allowed (mark_of l.marks) l.floor l.number) (take l.key-index l.ops) ≡ true

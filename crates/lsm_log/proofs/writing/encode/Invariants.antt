use Rattle.std.proofs.Common.{◌≡◌, ◌++◌, length, take}
use Rattle.std.specs.List.{flat_map}
use Rattle.lsm_log.specs.Records.{front, spelled}
use Rattle.lsm_log.proofs.writing.encode.Given as goal

-- what is spelled so far
abbrev pub invariant-loop-operation : goal.invariant-loop-operation
invariant-loop-operation l = l.out.items ≡ front l.number (length l.ops) ++ flat_map spelled (take l.operation-index l.ops)

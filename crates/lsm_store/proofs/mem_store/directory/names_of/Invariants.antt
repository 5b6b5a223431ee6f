use Rattle.std.proofs.Common.{◌≡◌, map}
use Rattle.std.specs.Map.Iter.{deref_pair}
use Rattle.std.specs.String.{string_bytes}
use Rattle.lsm_store.specs.Files.{present}
use Rattle.lsm_store.proofs.mem_store.directory.names_of.Given as goal

abbrev pub invariant-loop-name : goal.invariant-loop-name
invariant-loop-name l = map string_bytes l.names.items ≡ present (map deref_pair l.yielded)

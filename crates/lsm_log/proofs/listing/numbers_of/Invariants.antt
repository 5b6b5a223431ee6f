use Rattle.std.proofs.Common.{◌≡◌, take}
use Rattle.std.specs.List.{filter_map}
use Rattle.std.specs.String.{string_bytes}
use Rattle.lsm_log.specs.LogNames.{number_in}
use Rattle.lsm_log.proofs.listing.numbers_of.Given as goal

abbrev pub invariant-loop-name : goal.invariant-loop-name
invariant-loop-name l = l.numbers.items ≡ filter_map (λ s. number_in (string_bytes s)) (take l.name-index l.names)

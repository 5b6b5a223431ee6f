use Rattle.std.proofs.Common.{◌≡◌, take, false}
use Rattle.std.specs.List.{list_any}
use Rattle.std.specs.String.{string_bytes}
use Rattle.lsm_log.specs.LogNames.{is_refused}
use Rattle.lsm_log.proofs.listing.has_refused.Given as goal

abbrev pub invariant-loop-name : goal.invariant-loop-name
invariant-loop-name l = list_any (λ s. is_refused (string_bytes s)) (take l.name-index l.names) ≡ false

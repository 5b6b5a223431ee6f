use Rattle.std.proofs.Common.{◌≡◌, false, nat_lt}
use Rattle.std.specs.List.{AllWithin}
use Rattle.lsm_parts.proofs.version.super_version.walk_needed.Given as goal

abbrev pub invariant-loop-at : goal.invariant-loop-at
invariant-loop-at l = AllWithin (λ sv. nat_lt sv.seqno l.watermark ≡ false) l.older.items 0 l.at

use Rattle.lsm_below.proofs.EntryKeys.{key_upto, below_strictly, below_not_same}
use Rattle.lsm_below.proofs.Orders.{entry_total}
use Rattle.lsm_below.proofs.OneKey.{same_from, number_falls}
use Rattle.lsm_below.proofs.Rising.{rises_at}
use Rattle.lsm_below.proofs.laws.entries_are_ordered.Goals as goal

pub returns : goal.returns
returns c = record { total = entry_total; rises = rises_at entry_total; keys = key_upto; keys_apart = below_strictly; apart = below_not_same; alike = same_from; number_falls = number_falls }

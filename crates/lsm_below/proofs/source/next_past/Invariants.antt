use Rattle.std.proofs.Common.{◌≡◌, length}
use Rattle.lsm_below.specs.Slots.{past}
use Rattle.lsm_below.proofs.source.next_past.Given as goal

abbrev pub invariant-loop-error : goal.invariant-loop-error
invariant-loop-error g l = past l.numbers (g.S.Item.AsEntry.shows l.entry) (g.S.Source.rest l.source).entries ≡ past l.numbers (g.S.Item.AsEntry.shows l.entry) (g.S.Source.rest l.initial.source).entries

abbrev pub decreases-loop-error : goal.decreases-loop-error
decreases-loop-error g l = length (g.S.Source.rest l.source).entries

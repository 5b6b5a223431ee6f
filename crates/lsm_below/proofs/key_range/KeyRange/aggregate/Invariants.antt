use Rattle.std.proofs.Common.{◌≡◌, true, take}
use Rattle.std.specs.List.{All, Any}
use Rattle.lsm_below.specs.Ranges.{is_within}
use Rattle.lsm_below.proofs.key_range.KeyRange.aggregate.Given as goal

abbrev pub invariant-loop-range : goal.invariant-loop-range
invariant-loop-range l = record {
  holds : All (λ s. is_within s l.hull ≡ true) (take l.range-index l.ranges);
  least : Any (λ s. s.min ≡ l.hull.min) l.ranges;
  greatest : Any (λ s. s.max ≡ l.hull.max) l.ranges;
}

use Rattle.std.proofs.Common.{arith, ◌≡◌, ◌≤◌, length, true, subst}
use Rattle.std.proofs.lemmas.List.{take_all}
use Rattle.std.specs.List.{All}
use Rattle.lsm_below.specs.Ranges.{is_within}
use Rattle.lsm_below.proofs.Hulls.{holds_more, least_more, greatest_more}
use Rattle.lsm_below.proofs.key_range.KeyRange.aggregate.Goals as goal

pub loop-range-preserved : goal.loop-range-preserved
loop-range-preserved c =
    let i = c.loop-range.invariant in
    let t = c.loop-range-test.true in
    rw c.in_ok-hull-2.ensures record {
      holds = holds_more c.args.ranges.now c.loop-range.range-index c.range-item.result c.loop-range.hull (omega arith) c.range-item.is i.holds;
      least = least_more c.args.ranges.now c.loop-range.range-index c.range-item.result c.loop-range.hull (omega arith) c.range-item.is i.least;
      greatest = greatest_more c.args.ranges.now c.loop-range.range-index c.range-item.result c.loop-range.hull (omega arith) c.range-item.is i.greatest;
    }

pub returns : goal.returns
returns c =
    let i = c.loop-range.invariant in
    let t : length c.args.ranges.now ≤ c.loop-range.range-index = omega arith in
    record {
      holds = subst (λ xs. All (λ s. is_within s c.loop-range.hull ≡ true) xs) (take_all c.loop-range.range-index c.args.ranges.now t) i.holds;
      least = i.least;
      greatest = i.greatest;
    }

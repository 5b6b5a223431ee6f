use Rattle.std.proofs.Common.{rules, tests, ◌≡◌, ◌+◌, ◌-◌, length, true, ◌∙◌, ap, sym, arith}
use Rattle.std.proofs.lemmas.List.Sorted.{IsPartitionPoint-from_clause}
use Rattle.lsm_iter.specs.Trims.{counts}
use Rattle.lsm_iter.proofs.Trims.{goes_before, place_step, place_end, place_first, place_parted, place_inside, place_found}
use Rattle.lsm_iter.proofs.trim.newest_place.Goals as goal

pub loop-place-preserved : goal.loop-place-preserved
loop-place-preserved c =
    let g = c.index-entries-place.result in
    let x = c.index-entries-place-in-loop-place.result in
    let step = place_step c.args.below c.args.entries.now (c.loop-place.place - 1) c.loop-place.place g x (omega arith) c.loop-place.invariant.inside c.index-entries-place.is c.index-entries-place-in-loop-place.is
    (ap (counts c.args.below) c.index-entries-place-in-loop-place.is ∙ c.loop-place.invariant.counted x) c.loop-place.invariant.same (sym c.counts_with.ensures ∙ c.if-counts_with.true) in
    record { inside = omega arith; same = step.0; counted = step.1 }

pub returns-else-counts_with-clause-trims : goal.returns-else-counts_with-clause-trims
returns-else-counts_with-clause-trims c =
    let g = c.index-entries-place.result in
    let x = c.index-entries-place-in-loop-place.result in
    place_end c.args.below c.args.entries.now (c.loop-place.place - 1) c.loop-place.place g x (omega arith) c.loop-place.invariant.inside c.index-entries-place.is c.index-entries-place-in-loop-place.is
    (ap (counts c.args.below) c.index-entries-place-in-loop-place.is ∙ c.loop-place.invariant.counted x) c.loop-place.invariant.same c.entries_are_ordered.ensures c.requires.rises (sym c.counts_with.ensures ∙ c.if-counts_with.false)

pub returns-after-loop-place-clause-trims : goal.returns-after-loop-place-clause-trims
returns-after-loop-place-clause-trims c = place_first c.args.below c.args.entries.now c.loop-place.place c.loop-place-test.false c.loop-place.invariant.inside c.loop-place.invariant.counted c.loop-place.invariant.same

pub returns-then-entries-place-eq-NEAR : goal.returns-then-entries-place-eq-NEAR
returns-then-entries-place-eq-NEAR c =
    let es = c.args.entries.now in
    let s = c.args.below in
    let x = c.index-entries-entries.result in
    let n = length es - 1 in
    let p = c.partition_point.result in
    let one : n + 1 ≡ length es = omega arith in
    let counted : counts s x ≡ true = ap (counts s) c.index-entries-entries.is ∙ c.requires.last x in
    let parted =
    IsPartitionPoint-from_clause (goes_before s es x) es p c.partition_point.ensures.partitioned (place_parted s es x c.entries_are_ordered.ensures n one c.requires.rises c.index-entries-entries.is counted) (λ a r f called. search (rules, tests)) in
    let inside = place_inside s es x n p one c.partition_point.ensures.bound c.index-entries-entries.is counted parted in
    record {
      inside = inside;
      trims = place_found s es x p inside parted;
    }

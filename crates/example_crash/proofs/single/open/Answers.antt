use Rattle.std.proofs.Common.{[], ap, subst}
use Rattle.lsm_runs.specs.Config.{Config}
use Rattle.lsm_runs.specs.Dropping.{allowed}
use Rattle.example_crash.specs.Single.{HasTaken}
use Rattle.example_crash.proofs.Beginning.{has_opened}
use Rattle.example_crash.proofs.Blames.{caused_first}
use Rattle.example_crash.proofs.Carried.{Laws}
use Rattle.example_crash.proofs.Growing.{none_in}
use Rattle.example_crash.proofs.single.open.Goals as goal

pub returns-clause-opens : goal.returns-clause-opens
returns-clause-opens g c allowance m may =
    let laws : Laws = record { order = record { rising = c.rising_is_in_order.ensures; without = c.order_without_reads.ensures; bounded = c.numbers_are_bounded.ensures }; join = c.moments_join.ensures; kept = c.reads_are_sound.ensures.kept } in
    let opened = c.in-Ok.ensures in
    let ran = c.run-taken in
    let here = has_opened (allowed allowance) laws c.opening_finds.ensures (c.openings_leave_what_was_read.ensures.meanwhile tt) _ c.args.store c.new.result c.in-Ok.tree.store c.in-Ok.tree.core (opened.opens tt) opened.core opened.small m may opened.counted ran.result.outcomes.items ran.new.state.store ran.new.state.core
    (none_in ran.result.outcomes.items ran.ensures.bound) (ran.ensures.moments tt) ran.ensures.right (ran.ensures.stored tt)
    (caused_first ran.result.outcomes.items c.args.store c.in-Ok.tree.store ran.new.state.store opened.counts ran.ensures.causes) in
    subst (λ n. HasTaken (allowed allowance) m c.args.store n [] [] ran.new.state) (ap (λ (f : Config). f.seqno) c.new.ensures) here

pub returns-in-Err-clause-refused : goal.returns-in-Err-clause-refused
returns-in-Err-clause-refused g c m may = (c.in-Err.ensures.opens tt).refuses m may.stands

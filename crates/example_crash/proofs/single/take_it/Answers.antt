use Rattle.std.proofs.Common.{arith}
use Rattle.lsm_runs.specs.Dropping.{allowed}
use Rattle.example_crash.proofs.Carried.{Laws, took_it, took_none}
use Rattle.example_crash.proofs.Growing.{none_in}
use Rattle.example_crash.proofs.Taking.{only_one}
use Rattle.example_crash.proofs.single.take_it.Goals as goal

pub returns-in-Some-clause-ok : goal.returns-in-Some-clause-ok
returns-in-Some-clause-ok g c may allows m was from steps told h =
    let laws : Laws = record { order = record { rising = c.rising_is_in_order.ensures; without = c.order_without_reads.ensures; bounded = c.numbers_are_bounded.ensures }; join = c.moments_join.ensures; kept = c.reads_are_sound.ensures.kept } in
    let ran = c.run-taken in
    let bound = ran.ensures.bound in
    let one = c.requires in
    took_it (allowed may) laws _ m was from steps told c.args.tree.now.store c.args.tree.now.core h c.args.list.now ran.result.outcomes.items ran.new.state.store ran.new.state.core (ran.ensures.moments tt) ran.ensures.right (ran.ensures.stored tt) ran.ensures.causes allows c.in-Some.outcome one
    (only_one ran.result.outcomes.items c.pop.new.self.items c.in-Some.outcome c.in-Some.ensures.items (omega (arith, bound, one)))

pub returns-clause-err : goal.returns-clause-err
returns-clause-err g c may m was from steps told h =
    let laws : Laws = record { order = record { rising = c.rising_is_in_order.ensures; without = c.order_without_reads.ensures; bounded = c.numbers_are_bounded.ensures }; join = c.moments_join.ensures; kept = c.reads_are_sound.ensures.kept } in
    let ran = c.run-taken in
    let none = c.in-None.ensures.cases in
    took_none (allowed may) laws _ m was from steps told c.args.tree.now.store c.args.tree.now.core h c.args.list.now ran.result.outcomes.items ran.new.state.store ran.new.state.core (ran.ensures.moments tt) ran.ensures.right (ran.ensures.stored tt) ran.ensures.causes
    (none_in ran.result.outcomes.items (omega (arith, none)))

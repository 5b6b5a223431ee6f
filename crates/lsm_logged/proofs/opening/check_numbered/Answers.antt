use Rattle.std.proofs.Common.{◌⊎◌, ◌<◌, ◌^◌, sym, subst}
use Rattle.std.specs.List.{All}
use Rattle.std.specs.List.Sorted.{IsStrictlyIncreasing}
use Rattle.lsm_logged.specs.Opening.{IsJustAbove}
use Rattle.lsm_logged.proofs.Reopening.{just_higher}
use Rattle.lsm_logged.proofs.Replaying.{passed_small, read_small, read_rise}
use Rattle.lsm_logged.proofs.opening.check_numbered.Goals as goal

pub returns-in_default-clause-bad : goal.returns-in_default-clause-bad
returns-in_default-clause-bad g c tells told =
    let log = c.in_ok-log.ensures.read tells in
    let small = passed_small (g.S.Store.world c.args.found.now.store).gives c.args.from c.in_ok-log.log.passed.items c.in_ok-log.log.numbers.items log in
    absurd (c.in_default.ensures.none (subst IsStrictlyIncreasing (sym c.deref.ensures.value) log.log.passed_rise) (subst (All (λ k. k < 2 ^ 63)) (sym c.deref.ensures.value) small))

pub returns-in_default-number_after-clause-bad : goal.returns-in_default-number_after-clause-bad
returns-in_default-number_after-clause-bad g c tells told =
    let image = (g.S.Store.world c.args.found.now.store).gives in
    let passed = c.in_ok-log.log.passed.items in
    let numbers = c.in_ok-log.log.numbers.items in
    let log = c.in_ok-log.ensures.read tells in
    let rise = read_rise image c.args.from passed numbers log in
    let small = read_small image c.args.from passed numbers log in
    absurd (c.in_default-number_after.ensures.none (subst IsStrictlyIncreasing (sym c.deref-2.ensures.value) rise) (subst (All (λ k. k < 2 ^ 63)) (sym c.deref-2.ensures.value) small))

pub returns-clause-just : goal.returns-clause-just
returns-clause-just g c =
    let below = c.in-Some.below in
    let after = c.in-Some-number_after.after in
    let passed = c.in_ok-log.log.passed.items in
    let numbers = c.in_ok-log.log.numbers.items in
    let first : IsJustAbove below passed = subst (IsJustAbove below) c.deref.ensures.value c.in-Some.ensures.just in
    let second : IsJustAbove after numbers = subst (IsJustAbove after) c.deref-2.ensures.value c.in-Some-number_after.ensures.just in
    subst (λ n. IsJustAbove n passed ⊎ IsJustAbove n numbers) (sym c.max.ensures) (just_higher below after passed numbers first second)

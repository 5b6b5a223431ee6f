use Rattle.std.proofs.Common.{◌≡◌, ◌∙◌, false, sym}
use Rattle.lsm_checks.specs.Choices.{is_drop}
use Rattle.lsm_checks.specs.declared.parted_run.Fault.TheVariants.{OutOfOrder, StandsBelow}
use Rattle.lsm_checks.proofs.Parting.{wrong_shown}
use Rattle.lsm_checks.proofs.choice.find_faults.Goals as goal

pub returns-clause-order : goal.returns-clause-order
returns-clause-order c =
    let kept : is_drop c.args.kind ≡ false = sym c.kind_is_drop.ensures ∙ c.if-kind_is_drop.false in
    rw (c.any_wrong-order.ensures, c.deref.ensures.value, c.in_ok-runs.ensures, kept) (wrong_shown OutOfOrder c.args.to c.args.ids.now.keys c.args.levels.now c.requires)

pub returns-clause-eviction : goal.returns-clause-eviction
returns-clause-eviction c =
    let kept : is_drop c.args.kind ≡ false = sym c.kind_is_drop.ensures ∙ c.if-kind_is_drop.false in
    rw (c.any_wrong-eviction.ensures, c.deref-2.ensures.value, c.in_ok-runs.ensures, kept) (wrong_shown StandsBelow c.args.to c.args.ids.now.keys c.args.levels.now c.requires)

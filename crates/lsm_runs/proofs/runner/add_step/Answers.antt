use Rattle.std.proofs.Common.{rules}
use Rattle.lsm_runs.specs.Slots.{beside}
use Rattle.lsm_runs.proofs.Causing.{step_cause}
use Rattle.lsm_runs.proofs.Files.{step_upheld}
use Rattle.lsm_runs.proofs.runner.add_step.Goals as goal

pub returns-clause-upholds : goal.returns-clause-upholds
returns-clause-upholds g c tells =
    let old = c.args.state.now in
    let new = c.take_step.new.state in
    let told = c.in_ok-outcome.outcome in
    step_upheld g.S.Store.world old.store new.store _ c.args.step.now told.reply told.entries (beside old.core c.args.slots.now) (beside new.core c.take_step.new.slots) (c.is_upheld.ensures tells) c.in_ok-outcome.ensures.ok (c.in_ok-outcome.ensures.files tells)

pub returns-clause-ok : goal.returns-clause-ok
returns-clause-ok g c =
    let old = c.args.state.now in
    let new = c.take_step.new.state in
    let told = c.in_ok-outcome.outcome in
    let takes = c.in_ok-outcome.ensures.ok in
    (told, search rules, takes, step_cause g.S.Store.world old.store new.store _ c.args.step.now told.reply told.entries (beside old.core c.args.slots.now) (beside new.core c.take_step.new.slots) takes c.in_ok-outcome.ensures.causes)

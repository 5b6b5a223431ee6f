use Rattle.std.proofs.Common.{◌∙◌}
use Rattle.lsm_checks.proofs.Choosing.{missing_none}
use Rattle.lsm_checks.proofs.Lookups.{missing_shown}
use Rattle.lsm_checks.proofs.choice.any_missing.Goals as goal

pub returns-clause-value : goal.returns-clause-value
returns-clause-value c = c.any_absent-missing.ensures ∙ missing_shown c.args.ids.now.keys c.in_ok-there.there.keys c.args.levels.now c.in_ok-there.ensures

pub returns-clause-there : goal.returns-clause-there
returns-clause-there c = missing_none c.args.ids.now.keys c.args.levels.now c.any_absent-missing.result (returns-clause-value c)

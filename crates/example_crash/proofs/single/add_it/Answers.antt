use Rattle.std.proofs.Common.{rules}
use Rattle.example_crash.proofs.single.add_it.Goals as goal

pub returns-clause-ok : goal.returns-clause-ok
returns-clause-ok g c = (c.in_ok-outcome.outcome, search rules, c.in_ok-outcome.ensures.ok)

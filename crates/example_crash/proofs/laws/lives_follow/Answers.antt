use Rattle.lsm_runs.specs.Dropping.{allowed}
use Rattle.example_crash.proofs.Again.{opens_new, comes_ended, comes_crashed}
use Rattle.example_crash.proofs.laws.lives_follow.Goals as goal

pub returns-clause-new : goal.returns-clause-new
returns-clause-new c = opens_new c.crashes_settle.ensures.ready c.crashes_settle.ensures.stands

pub returns-clause-ended : goal.returns-clause-ended
returns-clause-ended c may = comes_ended (allowed may)

pub returns-clause-crashed : goal.returns-clause-crashed
returns-clause-crashed c may m was from steps told is h k = comes_crashed (allowed may) m was from steps told is h k c.crashes_settle.ensures.ready

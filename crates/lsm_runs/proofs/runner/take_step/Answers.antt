use Rattle.std.proofs.Common.{refl}
use Rattle.std.proofs.lemmas.Result.{IfOk-weaker}
use Rattle.lsm_runs.proofs.runner.take_step.Goals as goal

pub returns-in-Compact-clause-ok : goal.returns-in-Compact-clause-ok
returns-in-Compact-clause-ok g c = rw c.in-Compact.is (IfOk-weaker c.compact.result _ _ (λ told t. (t, refl)) c.compact.ensures.ok)

pub returns-in-DoCompaction-clause-ok : goal.returns-in-DoCompaction-clause-ok
returns-in-DoCompaction-clause-ok g c = rw c.in-DoCompaction.is (IfOk-weaker c.do_compaction.result _ _ (λ told t. (t, refl)) c.do_compaction.ensures.ok)

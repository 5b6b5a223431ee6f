use Rattle.lsm_state.specs.WholeCompactions.{as_begun}
use Rattle.lsm_runs.proofs.Causing.{begun_cause}
use Rattle.lsm_log_runs.proofs.runner.commits.major_compact.Goals as goal

pub returns-clause-acts : goal.returns-clause-acts
returns-clause-acts g c tells = ((as_begun c.major_compact.result), c.of_done.ensures, c.major_compact.ensures.acts tells)

pub returns-clause-causes : goal.returns-clause-causes
returns-clause-causes g c = begun_cause (as_begun c.major_compact.result) c.of_done.result _ _ c.of_done.ensures c.major_compact.ensures.files.causes

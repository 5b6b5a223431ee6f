use Rattle.lsm_state.specs.WholeCompactions.{as_begun}
use Rattle.lsm_runs.proofs.Causing.{begun_cause}
use Rattle.lsm_runs.proofs.runner.compaction.compact_noting.Goals as goal

pub returns-clause-causes : goal.returns-clause-causes
returns-clause-causes g c blameless = begun_cause (as_begun c.compact_chosen-entries.result.0) c.of_done-reply.result _ _ c.of_done-reply.ensures (c.compact_chosen-entries.ensures.files blameless).causes

use Rattle.std.proofs.Common.{sym, subst}
use Rattle.lsm_compaction.specs.Merges.{SeenCompaction}
use Rattle.lsm_state.specs.OwnInputs.{HasOwnInputs}
use Rattle.lsm_state.proofs.tree.TreeState.finish_closed.Goals as goal

pub reason_at_end-requires : goal.reason_at_end-requires
reason_at_end-requires g c = record {
  own = λ is. subst (λ (job : SeenCompaction). HasOwnInputs job c.args.self.now.core) (sym c.job-job.ensures) (c.requires.own is);
}

-- A compaction through a gate.
use Rattle.std.proofs.Common.{◌≡◌, Result, Ok, Err, IfOk, IfErr, subst}
use Rattle.lsm_below.specs.declared.error.Error.{Error}
use Rattle.lsm_compaction.specs.Merges.{SeenCompaction, SeenCompacted}

-- what holds of the job that a gate answers holds of the one that it was handed
pub of_the_job : (job : SeenCompaction) (P : SeenCompaction → Type 0) (r : Result SeenCompacted (Error × SeenCompaction)) → IfOk r (λ m. m.job ≡ job) → IfErr r (λ e. e.1 ≡ job) → IfOk r (λ m. P m.job) → IfErr r (λ e. P e.1) → P job
of_the_job job P (Ok m) is back done given = subst P is done
of_the_job job P (Err e) is back done given = subst P back given

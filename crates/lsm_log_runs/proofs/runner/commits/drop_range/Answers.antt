use Rattle.lsm_state.specs.WholeCompactions.{as_begun}
use Rattle.std.proofs.Common.{subst}
use Rattle.std.specs.declared.ops.Bound.{Bound}
use Rattle.lsm_below.specs.Keys.{Bytes}
use Rattle.lsm_logged.specs.Acting.{DropsWithin}
use Rattle.lsm_runs.proofs.Causing.{begun_cause}
use Rattle.lsm_log_runs.specs.Doing.{ActsCompaction}
use Rattle.lsm_log_runs.proofs.runner.commits.drop_range.Goals as goal

pub returns-clause-acts : goal.returns-clause-acts
returns-clause-acts g c tells =
    let world = g.S.Store.world in
    let old = c.args.tree.now in
    let new = c.drop_range.new.self in
    subst (λ (low : Bound Bytes). ActsCompaction (DropsWithin (record { start = low; end = c.args.high.now }) old.core) 0 c.of_done.result (world old.store) (world new.store) old new) c.in_ok-copy_bound.ensures
    (subst (λ (high : Bound Bytes). ActsCompaction (DropsWithin (record { start = c.in_ok-copy_bound.field-0; end = high }) old.core) 0 c.of_done.result (world old.store) (world new.store) old new) c.in_ok-copy_bound-2.ensures
    ((as_begun c.drop_range.result), c.of_done.ensures, c.drop_range.ensures.acts tells))

pub returns-clause-causes : goal.returns-clause-causes
returns-clause-causes g c = begun_cause (as_begun c.drop_range.result) c.of_done.result _ _ c.of_done.ensures c.drop_range.ensures.files.causes

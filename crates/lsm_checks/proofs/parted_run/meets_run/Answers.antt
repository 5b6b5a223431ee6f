use Rattle.lsm_versions.specs.Levels.{range}
use Rattle.lsm_checks.proofs.Lookups.{some_kept}
use Rattle.lsm_checks.proofs.parted_run.meets_run.Goals as goal

pub returns : goal.returns
returns c = rw (c.is_empty.ensures, c.get_overlapping.ensures, c.key_range.ensures) (some_kept (range c.args.table.now) c.args.run.now)

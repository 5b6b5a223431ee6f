use Rattle.std.proofs.Common.{not}
use Rattle.lsm_model.specs.Steps.{among}
use Rattle.lsm_checks.proofs.parted_run.PartedRun.new.Goals as goal
use Rattle.lsm_versions.specs.TableLaws.{left_run}

pub new-left-requires : goal.new-left-requires
new-left-requires c = rw (c.in_ok-copies_left.ensures, c.as_slice-2.ensures) (left_run (λ t. not (among c.args.ids.now.keys t.id)) c.args.run.now c.facts.ensures.run)

use Rattle.lsm_iter.specs.declared.tree_iter.End.TheVariants.{Back}
use Rattle.lsm_runs.proofs.ReadOutcomes.{end_taken}
use Rattle.lsm_runs.proofs.reads.last_key_value.Goals as goal

pub returns : goal.returns
returns g c =
    let found = c.last_key_value.ensures in
    end_taken c.args.snapshot c.args.state.now.core Back c.last_key_value.result c.of_end.result found.ok found.refuses.too_old found.refuses.only c.of_end.ensures

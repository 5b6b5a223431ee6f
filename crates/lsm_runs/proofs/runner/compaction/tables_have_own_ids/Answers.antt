use Rattle.lsm_versions.specs.Levels.{all_of}
use Rattle.lsm_state.specs.Compactions.{levels_of}
use Rattle.lsm_state.specs.Core.{written_of}
use Rattle.lsm_state.proofs.Distinct.{own_behind}
use Rattle.lsm_runs.proofs.runner.compaction.tables_have_own_ids.Goals as goal

pub returns : goal.returns
returns g c = let core = c.args.state.now.core in own_behind (written_of core) (all_of (levels_of core)) c.facts.ensures.tables.own_ids

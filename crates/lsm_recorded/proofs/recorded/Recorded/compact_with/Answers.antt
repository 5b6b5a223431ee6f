use Rattle.std.proofs.Common.{refl}
use Rattle.lsm_state.proofs.Files.{refused_compacts}
use Rattle.lsm_state.proofs.Causing.{no_memory}
use Rattle.lsm_recorded.proofs.recorded.Recorded.compact_with.Goals as goal

pub returns-in-Err-clause-files : goal.returns-in-Err-clause-files
returns-in-Err-clause-files g c = refused_compacts g.S.Store.tells g.S.Store.world _ c.args.self.now.tree c.args.self.now.tree no_memory refl refl

use Rattle.std.proofs.Common.{refl}
use Rattle.lsm_state.proofs.Causing.{no_way}
use Rattle.lsm_state.proofs.Files.{refused_compacts}
use Rattle.lsm_state.proofs.tree.TreeState.drop_range.Goals as goal

pub returns-then-is_uncertain-clause-files : goal.returns-then-is_uncertain-clause-files
returns-then-is_uncertain-clause-files g c = refused_compacts g.S.Store.tells g.S.Store.world _ c.args.self.now c.args.self.now no_way refl refl

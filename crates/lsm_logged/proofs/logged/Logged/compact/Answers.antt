use Rattle.std.proofs.Common.{refl}
use Rattle.lsm_state.specs.WholeCompactions.{as_begun, options_at}
use Rattle.lsm_logged.specs.Keeping.{tree_of}
use Rattle.lsm_logged.proofs.Compacted.{unsure_acts}
use Rattle.lsm_logged.proofs.WholeActs.{compacted_acts}
use Rattle.lsm_logged.proofs.Reopening.{numbered_more}
use Rattle.lsm_logged.proofs.Rising.{compacts}
use Rattle.lsm_state.proofs.Files.{refused_compacts}
use Rattle.lsm_state.proofs.Causing.{no_way}
use Rattle.lsm_logged.proofs.logged.Logged.compact.Goals as goal

pub invariant_of-self : goal.invariant_of-self
invariant_of-self g c =
    numbered_more c.self.inside.tree.core.seqno c.compact.new.self.core.seqno c.self.inside.numbers.items (compacts _ _ (options_at c.args.watermark c.self.inside.tree.core) (as_begun c.compact.result) c.self.inside.tree.core c.compact.new.self.core c.compact.ensures.compacts) c.self.invariant

pub returns-then-self-clause-acts : goal.returns-then-self-clause-acts
returns-then-self-clause-acts g c tells =
    unsure_acts c.args.watermark g.S.Store.world c.self.inside.tree c.self.inside.numbers.items c.self.inside.doubted c.args.self.now c.self.view_is c.acts_are_known.ensures.tree c.acts_are_known.ensures.flushes (c.is_upheld.ensures tells)

pub returns-clause-acts : goal.returns-clause-acts
returns-clause-acts g c tells =
    compacted_acts (options_at c.args.watermark c.self.inside.tree.core) g.S.Store.world c.self.inside.tree c.compact.new.self c.self.inside.numbers.items c.self.inside.doubted c.args.self.now c.self.view_is c.acts_are_known.ensures.tree c.acts_are_known.ensures.counter c.acts_are_known.ensures.numbers c.if-self.false (c.compact.ensures.upholds tells) (as_begun c.compact.result)
    c.acts_are_known.ensures.compactions c.acts_are_known.ensures.flushes c.compact.ensures.compacts

pub returns-then-self-clause-files : goal.returns-then-self-clause-files
returns-then-self-clause-files g c = refused_compacts g.S.Store.tells g.S.Store.world _ (tree_of c.args.self.now) (tree_of c.args.self.now) no_way refl refl

pub returns-clause-files : goal.returns-clause-files
returns-clause-files g c = rw (← c.self.view_is) c.compact.ensures.files

use Rattle.std.proofs.Common.{refl}
use Rattle.lsm_state.specs.WholeCompactions.{as_begun}
use Rattle.lsm_logged.specs.Acting.{DropsWithin}
use Rattle.lsm_logged.specs.Keeping.{tree_of}
use Rattle.lsm_logged.proofs.Compacted.{answers_act, unsure_acts}
use Rattle.lsm_logged.proofs.WholeActs.{dropping_only, drops_outcome}
use Rattle.lsm_logged.proofs.Reopening.{numbered_more}
use Rattle.lsm_logged.proofs.Rising.{drops_range}
use Rattle.lsm_state.proofs.Files.{refused_compacts}
use Rattle.lsm_state.proofs.Causing.{no_way}
use Rattle.lsm_logged.proofs.logged.Logged.drop_range.Goals as goal

pub invariant_of-self : goal.invariant_of-self
invariant_of-self g c =
    numbered_more c.self.inside.tree.core.seqno c.drop_range.new.self.core.seqno c.self.inside.numbers.items (drops_range c.args.bounds (as_begun c.drop_range.result) c.self.inside.tree.core c.drop_range.new.self.core c.drop_range.ensures.drops) c.self.invariant

pub returns-then-self-clause-acts : goal.returns-then-self-clause-acts
returns-then-self-clause-acts g c tells =
    unsure_acts 0 g.S.Store.world c.self.inside.tree c.self.inside.numbers.items c.self.inside.doubted c.args.self.now c.self.view_is c.acts_are_known.ensures.tree c.acts_are_known.ensures.flushes (c.is_upheld.ensures tells)

pub returns-clause-acts : goal.returns-clause-acts
returns-clause-acts g c tells =
    answers_act (DropsWithin c.args.bounds) 0 (dropping_only c.args.bounds) g.S.Store.world c.self.inside.tree c.drop_range.new.self c.self.inside.numbers.items c.self.inside.doubted c.args.self.now c.self.view_is c.acts_are_known.ensures.tree c.acts_are_known.ensures.counter c.acts_are_known.ensures.numbers c.if-self.false (c.drop_range.ensures.upholds tells) (as_begun c.drop_range.result)
    (λ kept. drops_outcome c.args.bounds (as_begun c.drop_range.result) c.self.inside.tree.core c.drop_range.new.self.core c.acts_are_known.ensures.compactions kept (c.acts_are_known.ensures.flushes.spends 0 0 c.self.inside.tree.core kept) c.drop_range.ensures.drops)

pub returns-then-self-clause-files : goal.returns-then-self-clause-files
returns-then-self-clause-files g c = refused_compacts g.S.Store.tells g.S.Store.world _ (tree_of c.args.self.now) (tree_of c.args.self.now) no_way refl refl

pub returns-clause-files : goal.returns-clause-files
returns-clause-files g c = rw (← c.self.view_is) c.drop_range.ensures.files

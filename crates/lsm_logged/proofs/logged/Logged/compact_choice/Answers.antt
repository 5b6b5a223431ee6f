use Rattle.std.proofs.Common.{refl}
use Rattle.lsm_state.specs.WholeCompactions.{as_begun}
use Rattle.lsm_state.specs.Dropping.{IsDropOf}
use Rattle.lsm_logged.specs.Keeping.{tree_of}
use Rattle.lsm_logged.proofs.Compacted.{answered_acts, unsure_acts}
use Rattle.lsm_logged.proofs.WholeActs.{compacts_choice_outcome}
use Rattle.lsm_logged.proofs.Reopening.{numbered_more}
use Rattle.lsm_logged.proofs.Rising.{compacts_choice}
use Rattle.lsm_state.proofs.Files.{refused_compacts}
use Rattle.lsm_state.proofs.Causing.{no_way}
use Rattle.lsm_logged.proofs.logged.Logged.compact_choice.Goals as goal

pub invariant_of-self : goal.invariant_of-self
invariant_of-self g c =
    numbered_more c.self.inside.tree.core.seqno c.compact_choice.new.self.core.seqno c.self.inside.numbers.items (compacts_choice c.args.choice c.args.options (as_begun c.compact_choice.result) c.self.inside.tree.core c.compact_choice.new.self.core c.compact_choice.ensures.compacts) c.self.invariant

pub returns-then-self-clause-acts : goal.returns-then-self-clause-acts
returns-then-self-clause-acts g c tells =
    unsure_acts c.args.options.mvcc_gc_watermark g.S.Store.world c.self.inside.tree c.self.inside.numbers.items c.self.inside.doubted c.args.self.now c.self.view_is c.acts_are_known.ensures.tree c.acts_are_known.ensures.flushes (c.is_upheld.ensures tells)

pub returns-clause-acts : goal.returns-clause-acts
returns-clause-acts g c tells =
    answered_acts (λ tree. IsDropOf c.args.choice) c.args.options.mvcc_gc_watermark g.S.Store.world c.self.inside.tree c.compact_choice.new.self c.self.inside.numbers.items c.self.inside.doubted c.args.self.now c.self.view_is c.acts_are_known.ensures.tree c.acts_are_known.ensures.counter c.acts_are_known.ensures.numbers c.if-self.false (c.compact_choice.ensures.upholds tells) (as_begun c.compact_choice.result)
    (λ kept. compacts_choice_outcome c.args.choice c.args.options (as_begun c.compact_choice.result) c.self.inside.tree.core c.compact_choice.new.self.core c.compact_choice.ensures.compacts)

pub returns-then-self-clause-files : goal.returns-then-self-clause-files
returns-then-self-clause-files g c = refused_compacts g.S.Store.tells g.S.Store.world _ (tree_of c.args.self.now) (tree_of c.args.self.now) no_way refl refl

pub returns-clause-files : goal.returns-clause-files
returns-clause-files g c = rw (← c.self.view_is) c.compact_choice.ensures.files

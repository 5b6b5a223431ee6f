use Rattle.std.proofs.Common.{refl}
use Rattle.lsm_state.specs.WholeCompactions.{as_begun, major_choice, only_memory, options_at}
use Rattle.lsm_logged.specs.Acting.{IsMerging}
use Rattle.lsm_logged.specs.Keeping.{tree_of}
use Rattle.lsm_logged.proofs.Compacted.{answers_act, unsure_acts}
use Rattle.lsm_logged.proofs.WholeActs.{merging_only, major_outcome}
use Rattle.lsm_logged.proofs.Reopening.{numbered_more}
use Rattle.lsm_logged.proofs.Rising.{compacts}
use Rattle.lsm_state.proofs.Files.{refused_compacts}
use Rattle.lsm_state.proofs.Causing.{no_way}
use Rattle.lsm_logged.proofs.logged.Logged.major_compact.Goals as goal

pub invariant_of-self : goal.invariant_of-self
invariant_of-self g c =
    numbered_more c.self.inside.tree.core.seqno c.major_compact.new.self.core.seqno c.self.inside.numbers.items (compacts (major_choice c.args.target) only_memory (options_at c.args.watermark c.self.inside.tree.core) (as_begun c.major_compact.result) c.self.inside.tree.core c.major_compact.new.self.core c.major_compact.ensures.compacts) c.self.invariant

pub returns-then-self-clause-acts : goal.returns-then-self-clause-acts
returns-then-self-clause-acts g c tells =
    unsure_acts c.args.watermark g.S.Store.world c.self.inside.tree c.self.inside.numbers.items c.self.inside.doubted c.args.self.now c.self.view_is c.acts_are_known.ensures.tree c.acts_are_known.ensures.flushes (c.is_upheld.ensures tells)

pub returns-clause-acts : goal.returns-clause-acts
returns-clause-acts g c tells =
    answers_act (λ core. IsMerging c.args.watermark) c.args.watermark (λ core. merging_only c.args.watermark) g.S.Store.world c.self.inside.tree c.major_compact.new.self c.self.inside.numbers.items c.self.inside.doubted c.args.self.now c.self.view_is c.acts_are_known.ensures.tree c.acts_are_known.ensures.counter c.acts_are_known.ensures.numbers c.if-self.false (c.major_compact.ensures.upholds tells) (as_begun c.major_compact.result)
    (λ kept. major_outcome c.args.target c.args.watermark (as_begun c.major_compact.result) c.self.inside.tree.core c.major_compact.new.self.core c.acts_are_known.ensures.compactions kept (c.acts_are_known.ensures.flushes.spends c.args.watermark 0 c.self.inside.tree.core kept) c.major_compact.ensures.compacts)

pub returns-then-self-clause-files : goal.returns-then-self-clause-files
returns-then-self-clause-files g c = refused_compacts g.S.Store.tells g.S.Store.world _ (tree_of c.args.self.now) (tree_of c.args.self.now) no_way refl refl

pub returns-clause-files : goal.returns-clause-files
returns-clause-files g c = rw (← c.self.view_is) c.major_compact.ensures.files

use Rattle.lsm_logged.proofs.Compacted.{begun_acts, unsure_acts}
use Rattle.lsm_logged.proofs.Reopening.{numbered_more}
use Rattle.lsm_logged.proofs.Rising.{begins_compaction}
use Rattle.lsm_logged.proofs.logged.Logged.begin_compaction.Goals as goal

pub invariant_of-self : goal.invariant_of-self
invariant_of-self g c =
    numbered_more c.self.inside.tree.core.seqno c.begin_compaction.new.self.core.seqno c.self.inside.numbers.items (begins_compaction _ _ c.args.options c.begin_compaction.result c.self.inside.tree.core c.begin_compaction.new.self.core c.begin_compaction.ensures.begins) c.self.invariant

pub returns-then-self-clause-acts : goal.returns-then-self-clause-acts
returns-then-self-clause-acts g c tells =
    unsure_acts c.args.options.mvcc_gc_watermark g.S.Store.world c.self.inside.tree c.self.inside.numbers.items c.self.inside.doubted c.args.self.now c.self.view_is c.acts_are_known.ensures.tree c.acts_are_known.ensures.flushes (c.is_upheld.ensures tells)

pub returns-clause-acts : goal.returns-clause-acts
returns-clause-acts g c tells =
    begun_acts c.args.options g.S.Store.world c.self.inside.tree c.begin_compaction.new.self c.self.inside.numbers.items c.self.inside.doubted c.args.self.now c.self.view_is c.acts_are_known.ensures.tree c.acts_are_known.ensures.counter c.acts_are_known.ensures.numbers c.if-self.false (c.begin_compaction.ensures.upholds tells) c.begin_compaction.result
    c.acts_are_known.ensures.compactions c.acts_are_known.ensures.flushes c.begin_compaction.ensures.begins

pub returns-clause-files : goal.returns-clause-files
returns-clause-files g c = rw (← c.self.view_is) c.begin_compaction.ensures.files

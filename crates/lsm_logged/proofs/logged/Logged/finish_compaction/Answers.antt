use Rattle.std.proofs.Common.{refl, ap, ◌∙◌}
use Rattle.lsm_logged.specs.Keeping.{SeenLogged, tree_of}
use Rattle.lsm_logged.proofs.FinishActs.{merge_acts, unsure_merge}
use Rattle.lsm_logged.proofs.NoActs.{closed_not}
use Rattle.lsm_logged.proofs.Reopening.{numbered_more}
use Rattle.lsm_logged.proofs.Rising.{finishes, spends}
use Rattle.lsm_logged.proofs.Seen.{logged_with}
use Rattle.lsm_state.proofs.Files.{refused_ends}
use Rattle.lsm_state.proofs.Causing.{no_way}
use Rattle.lsm_state.proofs.Wholes.{spending_draws}
use Rattle.lsm_logged.proofs.logged.Logged.finish_compaction.Goals as goal

pub invariant_of-self : goal.invariant_of-self
invariant_of-self g c =
    let old = c.self.inside.tree.core in
    let new = c.abandon_compaction.new.self.core in
    numbered_more old.seqno new.seqno c.self.inside.numbers.items (spends c.into_job.result old new c.abandon_compaction.ensures.spends) c.self.invariant

pub invariant_of-self-2 : goal.invariant_of-self-2
invariant_of-self-2 g c =
    let old = c.self.inside.tree.core in
    let new = c.finish_compaction.new.self.core in
    numbered_more old.seqno new.seqno c.self.inside.numbers.items (finishes c.args.merged.job c.finish_compaction.result old new c.finish_compaction.ensures.finishes) c.self.invariant

pub returns-then-self-clause-acts : goal.returns-then-self-clause-acts
returns-then-self-clause-acts g c tells =
    let i = c.self.inside in
    let left = c.abandon_compaction.new.self in
    let world = g.S.Store.world in
    let acts = closed_not world i.tree left i.numbers.items i.doubted c.args.self.now c.self.view_is _ c.store.ensures (c.crashes_leave_versions.ensures tells) c.abandon_compaction.ensures.store c.into_job.result c.abandon_compaction.ensures.spends in
    unsure_merge c.args.merged.job (world c.args.self.now.store) (world left.store) c.args.self.now (logged_with left i.numbers.items i.doubted) acts

pub returns-clause-acts : goal.returns-clause-acts
returns-clause-acts g c tells =
    let i = c.self.inside in
    let mid = c.finish_compaction.new.self in
    let known = c.acts_are_known.ensures in
    let old = logged_with i.tree i.numbers.items i.doubted in
    let new = logged_with mid i.numbers.items i.doubted in
    merge_acts c.args.merged.job g.S.Store.world old c.args.self.now new c.self.view_is known.tree known.compactions c.if-self.false refl (c.finish_compaction.ensures.upholds tells) c.finish_compaction.result c.finish_compaction.ensures.finishes

pub returns-then-self-clause-files : goal.returns-then-self-clause-files
returns-then-self-clause-files g c =
    let left = c.abandon_compaction in
    refused_ends g.S.Store.tells g.S.Store.world _ (tree_of c.args.self.now) left.new.self no_way
    (left.ensures.store ∙ ap (λ (t : SeenLogged g.row.S.Denot). t.store) c.self.view_is)
    (spending_draws c.into_job.result c.self.inside.tree.core left.new.self.core left.ensures.spends ∙ ap (λ (t : SeenLogged g.row.S.Denot). t.core.next_table) c.self.view_is)

pub returns-clause-files : goal.returns-clause-files
returns-clause-files g c = rw (← c.self.view_is) c.finish_compaction.ensures.files

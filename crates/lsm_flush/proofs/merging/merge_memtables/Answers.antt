use Rattle.std.proofs.Common.{false, subst, sym}
use Rattle.std.proofs.lemmas.Result.{IfOk-weaker}
use Rattle.std.proofs.lemmas.List.Elements.{All-from_recursion}
use Rattle.lsm_below.specs.KeptLaws.{in_order, kept_of}
use Rattle.lsm_below.specs.Slots.{rest_of}
use Rattle.lsm_tables.specs.Cutting.{IsWritable}
use Rattle.lsm_flush.specs.Jobs.{entries_in, KeptOf}
use Rattle.lsm_flush.proofs.Sources.{lists_writable, lists_in_order}
use Rattle.lsm_flush.proofs.merging.merge_memtables.Goals as goal

pub compact-requires : goal.compact-requires
compact-requires c =
    All-from_recursion _ c.in_ok-sources.sources.items (in_order (λ s. rest_of s.over s.entries) c.in_ok-sources.sources.items (entries_in c.args.memtables.now) c.in_ok-sources.ensures (lists_in_order c.args.memtables.now c.requires))

pub returns-clause-kept : goal.returns-clause-kept
returns-clause-kept c =
    let lists = entries_in c.args.memtables.now in
    let stream = c.in_ok-stream.ensures in
    IfOk-weaker c.take_all.result _ (λ list. KeptOf lists c.args.watermark list.items)
    (λ list is. subst (KeptOf lists c.args.watermark) (sym is) (kept_of (λ s. rest_of s.over s.entries) c.in_ok-sources.sources.items lists c.args.watermark false _ c.in_ok-sources.ensures stream.merged stream.ordered stream.in_any_order))
    c.take_all.ensures.ok

pub returns-clause-writable : goal.returns-clause-writable
returns-clause-writable c =
    let lists = entries_in c.args.memtables.now in
    let stream = c.in_ok-stream.ensures in
    IfOk-weaker c.take_all.result _ (λ list. IsWritable list.items)
    (λ list is. subst IsWritable (sym is) (c.kept_is_writable.ensures c.args.watermark false lists _ (lists_writable c.args.memtables.now c.requires)
    (kept_of (λ s. rest_of s.over s.entries) c.in_ok-sources.sources.items lists c.args.watermark false _ c.in_ok-sources.ensures stream.merged stream.ordered stream.in_any_order).merged))
    c.take_all.ensures.ok

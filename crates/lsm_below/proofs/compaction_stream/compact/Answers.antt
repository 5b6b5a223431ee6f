use Rattle.std.proofs.Common.{ap, ◌∙◌, flat_map, map, sym, subst}
use Rattle.std.specs.List.Sorted.{IsPermutation}
use Rattle.lsm_below.specs.Entries.{stack, keep}
use Rattle.lsm_below.specs.Streams.{Compacting}
use Rattle.lsm_below.specs.Slots.{left_of}
use Rattle.lsm_below.proofs.Bridge.{kept_in_turn, kept_of_all, lists_joined, settled}
use Rattle.lsm_below.proofs.compaction_stream.compact.Goals as goal

pub returns-clause-kept : goal.returns-clause-kept
returns-clause-kept g c = λ key h.
    let joined = flat_map (λ s. stack key (g.S.Source.rest s).entries) c.args.sources.items in
    kept_in_turn c.new-stream.result.watermark c.args.evict c.new-stream.result.input (left_of c.evict_tombstones.result).entries joined key c.evict_tombstones.ensures.kept
    (ap (λ (m : Compacting). stack key m.input) c.new-stream.ensures.settings ∙ c.in_ok-merger.ensures.in_turn key h) h
    ∙ ap (λ (m : Compacting). keep m.watermark c.args.evict joined) c.new-stream.ensures.settings

pub returns-clause-ordered : goal.returns-clause-ordered
returns-clause-ordered g c = λ o key. kept_of_all (λ s. (g.S.Source.rest s).entries) c.args.sources.items c.args.watermark c.args.evict key _ (returns-clause-kept g c key) (o key)

pub returns-clause-merged : goal.returns-clause-merged
returns-clause-merged g c =
    let settings = c.new-stream.ensures.settings in
    record {
      merged = c.in_ok-merger.merger.entries;
      merges = c.in_ok-merger.ensures.merges;
      kept = rw (← ap (λ (m : Compacting). m.watermark) settings, ← ap (λ (m : Compacting). m.input) settings) c.evict_tombstones.ensures.kept;
    }

pub returns-clause-in_any_order : goal.returns-clause-in_any_order
returns-clause-in_any_order g c = λ key es falls same.
    let sources = c.args.sources.items in
    let merges = c.in_ok-merger.ensures.merges in
    let is = settled key c.in_ok-merger.merger.entries (map (λ s. stack key (g.S.Source.rest s).entries) sources) es merges.in_order (c.in_ok-merger.ensures.by_key key) falls (subst (λ l. IsPermutation l es) (sym (lists_joined (λ s. stack key (g.S.Source.rest s).entries) sources)) same) in
    kept_in_turn c.new-stream.result.watermark c.args.evict c.new-stream.result.input (left_of c.evict_tombstones.result).entries es key c.evict_tombstones.ensures.kept
    (ap (λ (m : Compacting). stack key m.input) c.new-stream.ensures.settings ∙ is) falls
    ∙ ap (λ (m : Compacting). keep m.watermark c.args.evict es) c.new-stream.ensures.settings

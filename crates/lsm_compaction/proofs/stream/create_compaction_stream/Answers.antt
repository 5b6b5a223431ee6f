use Rattle.std.proofs.Common.{false, List, map, sym, ◌∙◌, subst}
use Rattle.std.proofs.lemmas.List.Elements.{All-from_recursion}
use Rattle.lsm_below.specs.Entries.{Entry}
use Rattle.lsm_below.specs.KeptLaws.{in_order, kept_of}
use Rattle.lsm_below.specs.Slots.{rest_of, left_of}
use Rattle.lsm_tables.specs.Tables.{SeenTable}
use Rattle.lsm_versions.specs.Chosen.{AreThere}
use Rattle.lsm_versions.specs.Levels.{chosen_from}
use Rattle.lsm_versions.specs.TableLaws.{map_map}
use Rattle.lsm_compaction.proofs.RunEntries.{chosen_in_order, each_itself}
use Rattle.lsm_compaction.proofs.stream.create_compaction_stream.Goals as goal

pub compact-requires : goal.compact-requires
compact-requires c =
    let chosen = chosen_from c.args.ids.now.keys c.args.version.now.levels in
    let lists : List (List Entry) = map (λ (t : SeenTable). t.entries) chosen in
    let sources = c.in_ok-sources.sources.items in
    All-from_recursion _ sources (in_order (λ s. s) sources lists (each_itself sources ∙ c.in_ok-sources.ensures ∙ sym (map_map (λ es. rest_of false es) (λ (t : SeenTable). t.entries) chosen)) (chosen_in_order c.args.ids.now.keys c.args.version.now.levels c.facts.ensures.is.rising))

pub returns-then-branch-clause-there : goal.returns-then-branch-clause-there
returns-then-branch-clause-there c there = cc (c.in_ok-any_missing.ensures.there.1 (subst (λ l. AreThere l c.args.ids.now.keys) (sym c.levels.ensures) there), c.if-branch.true)

pub returns-clause-there : goal.returns-clause-there
returns-clause-there c = subst (λ l. AreThere l c.args.ids.now.keys) c.levels.ensures (c.in_ok-any_missing.ensures.there.0 c.if-branch.false)

pub returns-clause-kept : goal.returns-clause-kept
returns-clause-kept c =
    let chosen = chosen_from c.args.ids.now.keys c.args.version.now.levels in
    let lists : List (List Entry) = map (λ (t : SeenTable). t.entries) chosen in
    let sources = c.in_ok-sources.sources.items in
    let stream = c.in_ok-stream.ensures in
    kept_of (λ s. s) sources lists c.args.watermark false (left_of c.in_ok-stream.stream).entries (each_itself sources ∙ c.in_ok-sources.ensures ∙ sym (map_map (λ es. rest_of false es) (λ (t : SeenTable). t.entries) chosen)) stream.merged stream.ordered stream.in_any_order

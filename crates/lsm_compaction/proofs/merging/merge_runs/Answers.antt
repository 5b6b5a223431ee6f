use Rattle.std.proofs.Common.{Bool, subst, ◌∙◌}
use Rattle.std.proofs.lemmas.Result.{IfOk-weaker}
use Rattle.std.proofs.lemmas.List.Elements.{All-from_recursion}
use Rattle.lsm_below.specs.Kept.{IsKeptOf}
use Rattle.lsm_below.specs.KeptLaws.{in_order, kept_of}
use Rattle.lsm_below.specs.Slots.{left_of}
use Rattle.lsm_compaction.specs.Merges.{sources_in, AreFilesOf}
use Rattle.lsm_compaction.proofs.RunEntries.{runs_writable, runs_in_order, each_itself}
use Rattle.lsm_compaction.proofs.merging.merge_runs.Goals as goal

pub compact-requires : goal.compact-requires
compact-requires c =
    let sources = c.in_ok-sources.sources.items in
    All-from_recursion _ sources (in_order (λ s. s) sources (sources_in c.args.runs.now) (each_itself sources ∙ c.in_ok-sources.ensures) (runs_in_order (sources_in c.args.runs.now) (runs_writable c.args.runs.now c.see_runs.ensures)))

pub spell_files-requires-clause-writable : goal.spell_files-requires-clause-writable
spell_files-requires-clause-writable c =
    let sources = c.in_ok-sources.sources.items in
    let lists = sources_in c.args.runs.now in
    let stream = c.in_ok-stream.ensures in
    let kept = kept_of (λ s. s) sources lists c.args.settings.watermark c.evicts.result (left_of c.in_ok-stream.stream).entries (each_itself sources ∙ c.in_ok-sources.ensures) stream.merged stream.ordered stream.in_any_order in
    c.kept_is_writable.ensures c.args.settings.watermark c.evicts.result lists (left_of c.in_ok-stream.stream).entries (runs_writable c.args.runs.now c.see_runs.ensures) kept.merged

pub returns-clause-files : goal.returns-clause-files
returns-clause-files c =
    let sources = c.in_ok-sources.sources.items in
    let lists = sources_in c.args.runs.now in
    let out = (left_of c.in_ok-stream.stream).entries in
    let stream = c.in_ok-stream.ensures in
    let kept = kept_of (λ s. s) sources lists c.args.settings.watermark c.evicts.result out (each_itself sources ∙ c.in_ok-sources.ensures) stream.merged stream.ordered stream.in_any_order in
    IfOk-weaker c.spell_files.result _ (λ files. AreFilesOf c.args.settings c.args.runs.now files.items)
    (λ files images. record { entries = out; kept = subst (λ (b : Bool). IsKeptOf lists c.args.settings.watermark b out) c.evicts.ensures kept; writable = c.kept_is_writable.ensures c.args.settings.watermark c.evicts.result lists out (runs_writable c.args.runs.now c.see_runs.ensures) kept.merged; images = images })
    c.spell_files.ensures.ok

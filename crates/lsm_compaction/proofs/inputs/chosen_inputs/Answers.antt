use Rattle.std.proofs.Common.{ap, sym, subst, ◌∙◌, ◌++◌, take, arith, List}
use Rattle.lsm_below.specs.Optimizes.{tables_of}
use Rattle.lsm_tables.specs.Tables.{SeenTable}
use Rattle.lsm_model.specs.Steps.{among}
use Rattle.lsm_versions.specs.Chosen.{AreIdsOf}
use Rattle.lsm_versions.specs.Levels.{all_of, HasOwnIds}
use Rattle.lsm_versions.specs.TableLaws.{own_left}
use Rattle.lsm_compaction.specs.Merges.{inputs_in}
use Rattle.lsm_compaction.proofs.Chosen.{inputs_append, inputs_whole, runs_more, chosen_ids}
use Rattle.lsm_compaction.proofs.inputs.chosen_inputs.Goals as goal

pub loop-level-preserved : goal.loop-level-preserved
loop-level-preserved c =
    let ids = c.args.ids.now.keys in
    let levels = c.args.levels.now in
    let i = c.loop-level.level-index in
    c.in_ok-push_chosen.ensures
    ∙ ap (λ (l : List (List SeenTable)). l ++ inputs_in ids c.as_slice.result.now) c.loop-level.invariant
    ∙ ap (λ (l : List (List SeenTable)). inputs_in ids (tables_of (take i levels)) ++ inputs_in ids l) c.as_slice.ensures
    ∙ sym (inputs_append ids (tables_of (take i levels)) c.level-item.result)
    ∙ ap (inputs_in ids) (sym (runs_more levels i c.level-item.result (omega arith) c.level-item.is))

pub returns-clause-tables : goal.returns-clause-tables
returns-clause-tables c = inputs_whole c.args.ids.now.keys c.args.levels.now c.loop-level.level-index c.loop-level.inputs.items c.loop-level.invariant (omega arith)

pub returns-clause-ids : goal.returns-clause-ids
returns-clause-ids c there =
    let ids = c.args.ids.now.keys in
    let all = inputs_whole ids c.args.levels.now c.loop-level.level-index c.loop-level.inputs.items c.loop-level.invariant (omega arith) in
    subst (AreIdsOf ids) (sym all) (chosen_ids ids c.args.levels.now there)

pub returns-clause-own_ids : goal.returns-clause-own_ids
returns-clause-own_ids c own =
    let ids = c.args.ids.now.keys in
    let all = inputs_whole ids c.args.levels.now c.loop-level.level-index c.loop-level.inputs.items c.loop-level.invariant (omega arith) in
    subst HasOwnIds (sym all) (own_left (λ t. among ids t.id) (all_of c.args.levels.now) own)

use Rattle.std.proofs.Common.{append_assoc, arith, take, []}
use Rattle.lsm_model.specs.Steps.{among}
use Rattle.lsm_versions.specs.Levels.{chosen_in, in_front}
use Rattle.lsm_versions.specs.TableLaws.{left_run}
use Rattle.lsm_compaction.specs.Merges.{inputs_in}
use Rattle.lsm_compaction.proofs.Chosen.{inputs_more}
use Rattle.lsm_compaction.proofs.inputs.push_chosen.Goals as goal

pub push_run-requires : goal.push_run-requires
push_run-requires c =
    rw (c.in_ok-chosen.ensures, c.as_slice.ensures) (left_run (λ t. among c.args.ids.now.keys t.id) c.run-item.result c.facts.ensures.run)

pub loop-run-preserved : goal.loop-run-preserved
loop-run-preserved c =
    let e = inputs_more c.args.ids.now.keys c.args.runs.now c.loop-run.run-index c.run-item.result (omega arith) c.run-item.is in
    rw (c.in_ok-push_run.ensures, c.loop-run.invariant, c.in_ok-chosen.ensures, c.as_slice.ensures, e)
    (append_assoc c.args.inputs.now.items (inputs_in c.args.ids.now.keys (take c.loop-run.run-index c.args.runs.now)) (in_front (chosen_in c.args.ids.now.keys c.run-item.result) []))

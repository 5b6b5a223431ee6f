use Rattle.std.proofs.Common.{refl, map, subst, arith}
use Rattle.std.proofs.lemmas.List.{take_all}
use Rattle.lsm_below.specs.Optimizes.{tables_of}
use Rattle.lsm_iter.specs.Reads.{at}
use Rattle.lsm_iter.specs.Puts.{PutsCursors}
use Rattle.lsm_iter.proofs.Puts.{run_put, run_sound}
use Rattle.lsm_iter.proofs.sources.push_runs.Goals as goal

pub push_run-requires : goal.push_run-requires
push_run-requires g c = λ _. ((refl, tt), run_sound c.args.runs.now c.loop-run.run-index c.run-item.result c.loop-run-test.true c.run-item.is c.requires)

pub loop-run-preserved : goal.loop-run-preserved
loop-run-preserved g c =
    run_put c.args.bounds.now.0 c.args.bounds.now.1 c.args.below c.loop-run.run-index (map g.R.Reader.seen c.args.readers.now.items) (map g.R.Reader.seen c.loop-run.readers.items) (map g.R.Reader.seen c.push_run.new.readers.items) c.args.runs.now c.run-item.result
    c.loop-run-test.true c.run-item.is c.loop-run.invariant c.in_ok-push_run.ensures

pub returns : goal.returns
returns g c =
    subst (λ runs. PutsCursors c.args.bounds.now.0 c.args.bounds.now.1 (map (λ t. at c.args.below t.entries) (tables_of runs)) 0 (map g.R.Reader.seen c.args.readers.now.items) (map g.R.Reader.seen c.loop-run.readers.items))
    (take_all c.loop-run.run-index c.args.runs.now (omega (arith, c.loop-run-test.false))) c.loop-run.invariant

use Rattle.std.proofs.Common.{refl, map, sym, subst, arith}
use Rattle.std.specs.List.{All}
use Rattle.std.proofs.lemmas.List.{take_all}
use Rattle.lsm_below.specs.Optimizes.{tables_of}
use Rattle.lsm_versions.specs.Levels.{all_of}
use Rattle.lsm_iter.specs.Reads.{at}
use Rattle.lsm_iter.specs.Puts.{PutsCursors}
use Rattle.lsm_iter.specs.Sound.{IsSound}
use Rattle.lsm_iter.proofs.Puts.{level_put, level_sound}
use Rattle.lsm_iter.proofs.sources.push_levels.Goals as goal

pub push_runs-requires : goal.push_runs-requires
push_runs-requires g c = λ _. ((refl, tt), subst (λ l. All IsSound (tables_of l)) (sym c.as_slice.ensures) (level_sound c.args.levels.now c.loop-level.level-index c.level-item.result c.loop-level-test.true c.level-item.is c.requires))

pub loop-level-preserved : goal.loop-level-preserved
loop-level-preserved g c =
    level_put c.args.bounds.now.0 c.args.bounds.now.1 c.args.below c.loop-level.level-index (map g.R.Reader.seen c.args.readers.now.items) (map g.R.Reader.seen c.loop-level.readers.items) (map g.R.Reader.seen c.push_runs.new.readers.items) c.args.levels.now c.level-item.result c.as_slice.result.now
    c.loop-level-test.true c.level-item.is c.as_slice.ensures c.loop-level.invariant c.in_ok-push_runs.ensures

pub returns : goal.returns
returns g c =
    subst (λ levels. PutsCursors c.args.bounds.now.0 c.args.bounds.now.1 (map (λ t. at c.args.below t.entries) (all_of levels)) 0 (map g.R.Reader.seen c.args.readers.now.items) (map g.R.Reader.seen c.loop-level.readers.items))
    (take_all c.loop-level.level-index c.args.levels.now (omega (arith, c.loop-level-test.false))) c.loop-level.invariant

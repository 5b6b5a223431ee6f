use Rattle.std.proofs.Common.{refl, sym, subst, map}
use Rattle.std.specs.List.{All}
use Rattle.lsm_versions.specs.Levels.{all_of}
use Rattle.lsm_iter.specs.Reads.{at}
use Rattle.lsm_iter.specs.Puts.{PutsCursors}
use Rattle.lsm_iter.specs.Sound.{IsSound}
use Rattle.lsm_iter.proofs.Puts.{shown_parts, version_sound}
use Rattle.lsm_iter.proofs.sources.push_version.Goals as goal

pub push_levels-requires : goal.push_levels-requires
push_levels-requires g c = λ _. ((refl, tt), subst (λ levels. All IsSound (all_of levels)) (sym c.levels.ensures) (version_sound c.args.version.now.levels c.facts.ensures.is))

pub returns : goal.returns
returns g c =
    let low = c.args.bounds.now.0 in
    let high = c.args.bounds.now.1 in
    let v = c.args.version.now in
    subst (λ parts. PutsCursors low high parts 0 (map g.R.Reader.seen c.args.readers.now.items) (map g.R.Reader.seen c.push_levels.new.readers.items)) (shown_parts c.args.below v c.iter_tables.result c.iter_tables.ensures.tables c.iter_tables.ensures.shown)
    (subst (λ levels. PutsCursors low high (map (λ t. at c.args.below t.entries) (all_of levels)) 0 (map g.R.Reader.seen c.args.readers.now.items) (map g.R.Reader.seen c.push_levels.new.readers.items)) c.levels.ensures c.in_ok-push_levels.ensures)

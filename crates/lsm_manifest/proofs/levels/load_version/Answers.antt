use Rattle.lsm_manifest.specs.Spelling.{levels_in}
use Rattle.lsm_manifest.specs.Standing.{seen_levels}
use Rattle.lsm_manifest.proofs.Loaded.{complete, checked}
use Rattle.lsm_manifest.proofs.levels.load_version.Goals as goal

pub version_of-requires : goal.version_of-requires
version_of-requires g c =
    complete (levels_in c.args.named.now) (seen_levels c.in_ok-tables.tables.items) c.requires.laid_out c.requires.distinct c.in_ok-tables.ensures.named

pub returns-clause-checks : goal.returns-clause-checks
returns-clause-checks g c tells =
    checked (g.S.Store.world c.args.store.now).gives c.args.id c.args.from (levels_in c.args.named.now) (seen_levels c.in_ok-tables.tables.items) c.version_of.result (c.in_ok-tables.ensures.loads tells) c.version_of.ensures

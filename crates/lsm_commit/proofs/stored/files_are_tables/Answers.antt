use Rattle.lsm_commit.proofs.WrittenFiles.{files_are}
use Rattle.lsm_commit.proofs.stored.files_are_tables.Goals as goal

pub returns : goal.returns
returns g c = files_are (g.S.Store.world c.args.store.now)

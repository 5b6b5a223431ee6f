use Rattle.lsm_below.proofs.Keeping.{takes_firsts}
use Rattle.lsm_below.proofs.mvcc_stream.MvccStream.new.Goals as goal

pub returns-clause-firsts : goal.returns-clause-firsts
returns-clause-firsts g c = takes_firsts (g.S.Source.rest c.args.source).entries c.requires

use Rattle.lsm_state.proofs.Raising.{seqno_above, visible_above}
use Rattle.lsm_state.proofs.tree.TreeState.open_raised.Goals as goal

pub returns-clause-counted : goal.returns-clause-counted
returns-clause-counted g c = seqno_above c.args.config c.open_so.result c.open_so.ensures.core c.open_so.ensures.small

pub returns-clause-visible : goal.returns-clause-visible
returns-clause-visible g c = visible_above c.args.config c.open_so.result c.open_so.ensures.core c.open_so.ensures.small

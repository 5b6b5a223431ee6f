use Rattle.std.proofs.Common.{◌∙◌}
use Rattle.lsm_below.proofs.HeadBytes.{whole_head}
use Rattle.lsm_below.proofs.head.head_of.Goals as goal

pub returns-in-Some-clause-head : goal.returns-in-Some-clause-head
returns-in-Some-clause-head c = c.from_be_bytes.ensures ∙ whole_head c.args.key.now c.in-Some.bytes.now c.in-Some.ensures.cases.enough c.in-Some.ensures.cases.same

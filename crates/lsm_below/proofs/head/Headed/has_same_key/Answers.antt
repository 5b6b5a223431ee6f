use Rattle.std.proofs.Common.{sym, ◌∙◌, ap}
use Rattle.lsm_below.specs.Heads.{entry_head}
use Rattle.lsm_below.proofs.Heads.{heads_apart}
use Rattle.lsm_below.proofs.head.Headed.has_same_key.Goals as goal

pub returns-else-self-other : goal.returns-else-self-other
returns-else-self-other c = heads_apart c.args.self.now c.args.other.now (λ same. c.if-self-other.false (c.self.invariant.0 ∙ ap entry_head c.self.view_is ∙ same ∙ sym (c.other.invariant.0 ∙ ap entry_head c.other.view_is)))

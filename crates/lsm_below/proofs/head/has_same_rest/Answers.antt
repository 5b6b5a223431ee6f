use Rattle.std.proofs.Common.{sym, ◌∙◌, arith}
use Rattle.lsm_below.proofs.Heads.{lengths_apart, head_one}
use Rattle.lsm_below.proofs.head.has_same_rest.Goals as goal

pub returns-then-len : goal.returns-then-len
returns-then-len c = lengths_apart c.args.entry.now c.args.other.now (λ same. c.if-len.true (c.len-len.ensures.value ∙ same ∙ sym c.len.ensures.value))

pub returns-then-len-le-HEAD : goal.returns-then-len-le-HEAD
returns-then-len-le-HEAD c = head_one c.args.entry.now c.args.other.now c.requires.own c.requires.other c.requires.head (sym c.len-len.ensures.value ∙ c.if-len.false ∙ c.len.ensures.value) (omega (arith, c.len-len.ensures.value, c.if-len-le-HEAD.true))

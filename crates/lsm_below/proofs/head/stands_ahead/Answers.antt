use Rattle.std.proofs.Common.{length, sym, ap, ◌∙◌}
use Rattle.lsm_below.proofs.Heads.{head_same}
use Rattle.lsm_below.proofs.head.stands_ahead.Goals as goal

pub returns-then-key-le-HEAD : goal.returns-then-key-le-HEAD
returns-then-key-le-HEAD c =
    let own = c.as_slice-own.ensures in
    head_same c.args.entry.now c.args.key.now c.args.number c.requires.own c.requires.bytes c.requires.head (sym (ap (λ l. length l) own) ∙ c.if-own-key.true) c.if-key-le-HEAD.true

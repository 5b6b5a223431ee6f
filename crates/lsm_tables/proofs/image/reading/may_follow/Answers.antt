use Rattle.std.proofs.Common.{sym, ap, ◌∙◌}
use Rattle.std.specs.Ordering.{is_lt}
use Rattle.lsm_tables.proofs.Adjacent.{follows_last}
use Rattle.lsm_tables.proofs.image.reading.may_follow.Goals as goal

pub returns-in-Some : goal.returns-in-Some
returns-in-Some c = c.is_lt.ensures ∙ ap is_lt c.cmp.ensures ∙ sym (follows_last c.args.entries.now c.args.entry.now c.in-Some.last.now (sym c.in-Some.ensures.value))

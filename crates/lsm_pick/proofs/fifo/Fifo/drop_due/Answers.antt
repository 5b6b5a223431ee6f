use Rattle.std.proofs.Common.{sym, ◌∙◌}
use Rattle.std.proofs.lemmas.Bool.{false≢true}
use Rattle.lsm_pick.specs.declared.choice.Choice.TheVariants.{Drop}
use Rattle.lsm_pick.specs.Fifo.{dropped}
use Rattle.lsm_pick.proofs.FreshSteps.{drops_none, drops_some}
use Rattle.lsm_pick.proofs.fifo.Fifo.drop_due.Goals as goal

pub returns-then-is_empty : goal.returns-then-is_empty
returns-then-is_empty c = drops_none c.in_ok-ids.ids.keys (dropped c.args.self.now c.args.run.now) c.in_ok-ids.ensures (c.is_empty.ensures.0 c.if-is_empty.true)

pub returns : goal.returns
returns c =
    drops_some c.in_ok-ids.ids.keys (dropped c.args.self.now c.args.run.now) (Drop c.in_ok-ids.ids) c.in_ok-ids.ensures
    (λ e. false≢true (sym c.if-is_empty.false ∙ c.is_empty.ensures.1 e)) c.in_ok-ids.ensures

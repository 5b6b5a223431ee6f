use Rattle.std.proofs.Common.{◌≡◌, ℕ, true, cond, eqb, arith, subst}
use Rattle.lsm_model.specs.Steps.{among}
use Rattle.lsm_pick.proofs.IdSets.{adds_next, adds_none}
use Rattle.lsm_pick.proofs.tables.push_ids.Goals as goal

pub loop-table-init : goal.loop-table-init
loop-table-init c = adds_none c.args.ids.now.keys

pub loop-table-preserved : goal.loop-table-preserved
loop-table-preserved c =
    adds_next c.args.tables.now c.loop-table.table-index c.table-item.result c.args.ids.now.keys c.loop-table.ids.keys c.insert.new.self.keys (omega arith) c.table-item.is c.loop-table.invariant
    (λ i. subst (λ (k : ℕ). among c.insert.new.self.keys i ≡ cond (eqb k i) true (among c.loop-table.ids.keys i)) c.id.ensures (c.in_ok-insert.ensures.updates.0 i))

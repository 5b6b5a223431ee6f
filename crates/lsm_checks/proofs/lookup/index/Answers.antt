use Rattle.std.proofs.Common.{◌≡◌, ℕ, cond, eqb, nat_eq, Some, arith, ap₂, ◌∙◌}
use Rattle.std.specs.HashMap.{get}
use Rattle.lsm_tables.specs.Tables.{SeenTable}
use Rattle.lsm_checks.proofs.Lookups.{index_more}
use Rattle.lsm_checks.proofs.lookup.index.Goals as goal

pub loop-table-preserved : goal.loop-table-preserved
loop-table-preserved c = λ i.
    let t = c.table-item.result in
    let old = get nat_eq c.loop-table.by_id i in
    let step : get nat_eq c.insert.new.self i ≡ cond (eqb t.id i) (Some t) old = c.in_ok-insert.ensures.updates.0 i ∙ ap₂ (λ (k : ℕ) (u : SeenTable). cond (eqb k i) (Some u) old) c.id.ensures c.in_ok-copy.ensures in
    index_more c.args.tables.now c.loop-table.table-index i t (get nat_eq c.insert.new.self i) old (omega arith) c.table-item.is step (c.loop-table.invariant i)

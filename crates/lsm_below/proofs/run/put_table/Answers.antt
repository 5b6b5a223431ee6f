use Rattle.std.proofs.Common.{sym, ◌∙◌, subst, List, ℕ, ap}
use Rattle.lsm_below.specs.Ranges.{Range}
use Rattle.lsm_below.specs.Runs.{stands, IsCut}
use Rattle.lsm_below.specs.declared.run.Side.TheVariants.{EndsBefore}
use Rattle.lsm_below.proofs.Placing.{put_is_insert}
use Rattle.lsm_below.proofs.run.put_table.Goals as goal

pub returns-clause-ok : goal.returns-clause-ok
returns-clause-ok g c =
    let range = g.T.Ranged.range in
    let at = c.count_standing-at.result in
    let cut = subst (λ xs. IsCut (λ t. stands EndsBefore c.min_bytes.result.now (range t)) xs at) c.deref.ensures.value c.count_standing-at.ensures in
    let cut' = subst (λ (k : List ℕ). IsCut (λ t. stands EndsBefore k (range t)) c.args.tables.now.items at) (c.min_bytes.ensures ∙ ap (λ (r : Range). r.min) c.key_range-2.ensures) cut in
    rw c.in_ok-insert.ensures.items (sym (put_is_insert range c.args.table c.args.tables.now.items at cut'))

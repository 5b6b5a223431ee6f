use Rattle.std.proofs.Common.{sym, arith, rules}
use Rattle.lsm_below.proofs.Cuts.{none_past, found_there, none_there}
use Rattle.lsm_below.proofs.run.find_for_key.Goals as goal

pub returns-in_err-table : goal.returns-in_err-table
returns-in_err-table g c =
    rw c.from_residual.ensures (sym (none_past g.T.Ranged.range c.args.tables.now c.requires c.args.key.now c.count_standing-at.result c.count_standing-at.ensures (grind (arith, c.in_err-table.ensures.lookup))))

pub returns-then-key_is_below : goal.returns-then-key_is_below
returns-then-key_is_below g c =
    let l = c.in_ok-table.ensures.lookup in
    sym (none_there g.T.Ranged.range c.args.tables.now c.requires c.args.key.now c.count_standing-at.result c.count_standing-at.ensures c.in_ok-table.table.now l.3.0 l.1 (search rules))

pub returns-else-key_is_below : goal.returns-else-key_is_below
returns-else-key_is_below g c =
    let l = c.in_ok-table.ensures.lookup in
    sym (found_there g.T.Ranged.range c.args.tables.now c.requires c.args.key.now c.count_standing-at.result c.count_standing-at.ensures c.in_ok-table.table.now l.3.0 l.1 (search rules))

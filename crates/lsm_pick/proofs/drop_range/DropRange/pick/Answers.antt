use Rattle.std.proofs.Common.{◌≡◌, true, false, sym, ◌∙◌}
use Rattle.lsm_pick.specs.Tables.{is_any_hidden}
use Rattle.lsm_pick.specs.Simple.{bounded}
use Rattle.lsm_pick.proofs.IdSets.{blocked_same}
use Rattle.lsm_pick.proofs.drop_range.DropRange.pick.Goals as goal

pub returns-then-is_blocked : goal.returns-then-is_blocked
returns-then-is_blocked c =
    let ts = bounded c.args.self.now c.args.version.now.levels in
    let names = rw (c.levels.ensures, c.bounds.ensures) at c.in_ok-ids.ensures in
    let e : is_any_hidden c.args.hidden.now ts ≡ true =
    sym (blocked_same c.args.hidden.now c.in_ok-ids.ids.keys ts names) ∙ (sym c.is_blocked.ensures ∙ c.if-is_blocked.true) in
    rw e tt

pub returns : goal.returns
returns c =
    let ts = bounded c.args.self.now c.args.version.now.levels in
    let names = rw (c.levels.ensures, c.bounds.ensures) at c.in_ok-ids.ensures in
    let e : is_any_hidden c.args.hidden.now ts ≡ false =
    sym (blocked_same c.args.hidden.now c.in_ok-ids.ids.keys ts names) ∙ (sym c.is_blocked.ensures ∙ c.if-is_blocked.false) in
    rw e names

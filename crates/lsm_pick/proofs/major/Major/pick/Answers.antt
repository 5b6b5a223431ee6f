use Rattle.std.proofs.Common.{◌≡◌, true, false, sym, refl, ◌∙◌}
use Rattle.lsm_versions.specs.Levels.{all_of}
use Rattle.lsm_pick.specs.Tables.{is_any_hidden}
use Rattle.lsm_pick.proofs.IdSets.{blocked_same}
use Rattle.lsm_pick.proofs.major.Major.pick.Goals as goal

pub returns-then-is_blocked : goal.returns-then-is_blocked
returns-then-is_blocked c =
    let names = rw c.levels.ensures at c.in_ok-table_ids.ensures in
    let e : is_any_hidden c.args.hidden.now (all_of c.args.version.now.levels) ≡ true =
    sym (blocked_same c.args.hidden.now c.in_ok-table_ids.table_ids.keys (all_of c.args.version.now.levels) names) ∙ (sym c.is_blocked.ensures ∙ c.if-is_blocked.true) in
    rw e tt

pub returns : goal.returns
returns c =
    let names = rw c.levels.ensures at c.in_ok-table_ids.ensures in
    let e : is_any_hidden c.args.hidden.now (all_of c.args.version.now.levels) ≡ false =
    sym (blocked_same c.args.hidden.now c.in_ok-table_ids.table_ids.keys (all_of c.args.version.now.levels) names) ∙ (sym c.is_blocked.ensures ∙ c.if-is_blocked.false) in
    rw e (record { tables = names; dest = refl; canonical = refl; target = refl })

use Rattle.std.proofs.Common.{◌≡◌, List, true, sym, ◌∙◌, subst, arith}
use Rattle.lsm_below.specs.Optimizes.{tables_of}
use Rattle.lsm_tables.specs.Tables.{SeenTable}
use Rattle.lsm_pick.specs.Picks.{IsMove}
use Rattle.lsm_pick.specs.Leveled.{goes_into}
use Rattle.lsm_pick.proofs.Ends.{index_is}
use Rattle.lsm_pick.proofs.leveled.Leveled.after_last.Goals as goal

pub returns-then-branch : goal.returns-then-branch
returns-then-branch c =
    let into = c.base-base.result.into in
    let flag : goes_into c.args.hidden.now c.args.levels.now into ≡ true = sym c.in_ok-goes_into.ensures ∙ c.if-branch.true in
    let there = index_is c.args.levels.now 0 c.index-levels-0.result (omega (arith, c.requires)) c.index-levels-0.is in (
      c.base-base.result,
      (
        c.base-base.ensures,
        rw flag
            (subst (λ (runs : List (List SeenTable)). IsMove c.in_ok-choice.choice (tables_of runs) into 1 c.args.self.now.target) there c.in_ok-choice.ensures),
      ),
    )

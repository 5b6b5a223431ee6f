use Rattle.std.proofs.Common.{List, sym, inl, inr, ◌∙◌, subst, arith}
use Rattle.std.proofs.lemmas.Bool.{false≢true}
use Rattle.lsm_below.specs.Optimizes.{tables_of}
use Rattle.lsm_tables.specs.Tables.{SeenTable}
use Rattle.lsm_pick.specs.Picks.{IsMove}
use Rattle.lsm_pick.proofs.Ends.{index_is}
use Rattle.lsm_pick.proofs.leveled.Leveled.pick.Goals as goal

pub returns-then-branch : goal.returns-then-branch
returns-then-branch c =
    let same = c.levels-levels.ensures in
    let goes = rw same at (c.in_ok-goes_last.ensures.0 c.if-branch.true) in
    let seven = c.facts.ensures.is.seven in
    let there = index_is c.args.version.now.levels 0 c.index-levels-0.result (omega (arith, seven)) (rw same at c.index-levels-0.is) in
    inl (goes, subst (λ (runs : List (List SeenTable)). IsMove c.in_ok-choice.choice (tables_of runs) 6 1 c.args.self.now.target) there c.in_ok-choice.ensures)

pub returns : goal.returns
returns c =
    let same = c.levels-levels.ensures in
    let says = rw same at c.in_ok-goes_last.ensures in
    inr ((λ goes. false≢true (sym c.if-branch.false ∙ says.1 goes)), rw same at c.in_ok-choice-2.ensures)

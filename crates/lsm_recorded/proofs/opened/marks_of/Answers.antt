use Rattle.std.proofs.Common.{[], ◌++◌, refl, sym, ap, ◌∙◌, subst, append-nil, rules}
use Rattle.lsm_recorded.specs.Marks.{AreInOrder, IsMarked, MarksMore}
use Rattle.lsm_recorded.specs.MarkedTables.{entries_in}
use Rattle.lsm_recorded.proofs.HeldLemmas.{entries_held}
use Rattle.lsm_recorded.proofs.OpenedLemmas.{none_in_order}
use Rattle.lsm_recorded.proofs.opened.marks_of.Goals as goal

pub returns-then-not-branch : goal.returns-then-not-branch
returns-then-not-branch c o =
    let levels = c.args.version.now.levels in
    let none : IsMarked c.new.result 0 [] = record { noted = λ k. search rules; least_is = refl; in_order = none_in_order } in
    let bad = subst (λ b. MarksMore (record { marks = c.new.result; least = 0 }) b (entries_in c.levels.result.now) c.mark_levels.new.opened) c.if-not-branch.true c.in_ok-mark_levels.ensures in
    bad [] none (subst AreInOrder (ap (λ ls. entries_in ls ++ []) (sym c.levels.ensures)) (subst AreInOrder (sym (append-nil (entries_in levels))) (subst AreInOrder (sym (entries_held levels)) o)))

pub returns : goal.returns
returns c =
    let levels = c.args.version.now.levels in
    let none : IsMarked c.new.result 0 [] = record { noted = λ k. search rules; least_is = refl; in_order = none_in_order } in
    let all = subst (λ b. MarksMore (record { marks = c.new.result; least = 0 }) b (entries_in c.levels.result.now) c.mark_levels.new.opened) c.if-not-branch.false c.in_ok-mark_levels.ensures in
    let new = c.mark_levels.new.opened in
    subst (IsMarked new.marks new.least) (append-nil (entries_in c.levels.result.now) ∙ ap entries_in c.levels.ensures ∙ entries_held levels) (all [] none)

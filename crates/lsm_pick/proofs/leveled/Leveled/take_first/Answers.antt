use Rattle.std.proofs.Common.{◌≡◌, Bool, not, ◌&&◌, List, ◌++◌, length, filter, nat_eq, sym, ap, ◌∙◌, subst}
use Rattle.std.specs.Bool.{MatchBool}
use Rattle.std.specs.List.{list_any}
use Rattle.lsm_below.specs.Optimizes.{tables_of}
use Rattle.lsm_tables.specs.Tables.{SeenTable}
use Rattle.lsm_pick.specs.Tables.{meets}
use Rattle.lsm_pick.specs.Picks.{IsMove, IsMerge}
use Rattle.lsm_pick.proofs.leveled.Leveled.take_first.Goals as goal
use Rattle.lsm_pick.proofs.leveled.Leveled.take_first.Goals.{then-clear, else-clear}

pub returns : goal.returns
returns c =
    let top : List SeenTable = tables_of c.args.first.now in
    let low : List SeenTable = tables_of c.args.low.now in
    let ts : List SeenTable = top ++ filter (meets top) low in
    let one : Bool = nat_eq (length c.args.first.now) 1 in
    let size = c.args.self.now.target in
    let flag : c.if-clear.choice_of ≡ (not (list_any (meets top) low) && one) =
    elim c.if-clear.branch [
      | then-clear w ↦ w.choice_of-is ∙ (w.is_one_run.ensures ∙ sym (ap (λ b. b && one) (sym c.in_ok-clear.ensures ∙ w.if-clear.true)))
      | else-clear w ↦ w.choice_of-is ∙ w.if-clear.false ∙ sym (ap (λ b. b && one) (sym c.in_ok-clear.ensures ∙ w.if-clear.false))
    ] in
    subst (λ b. MatchBool b (IsMove c.choice_of.result ts c.args.into 1 size) (IsMerge c.choice_of.result ts c.args.into 1 size)) flag
    (c.choice_of.ensures ts c.args.into 1 size (c.input-input.ensures ts c.in_ok-ids.ensures))

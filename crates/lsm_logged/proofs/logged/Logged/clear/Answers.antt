use Rattle.std.proofs.Common.{◌≡◌, ℕ, ◌<◌, ◌^◌, false, Result, Err, refl, sym, ap, ◌∙◌, subst}
use Rattle.std.proofs.lemmas.Result.{err_from_is_err_and}
use Rattle.lsm_below.specs.declared.error.Error.{Error}
use Rattle.lsm_below.specs.declared.error.Error.TheVariants.{Unrecoverable}
use Rattle.lsm_logged.specs.Keeping.{SeenLogged, is_unsure}
use Rattle.lsm_logged.specs.Removing.{KeepsKnown}
use Rattle.lsm_logged.specs.Acting.{ClearsAct}
use Rattle.lsm_logged.proofs.ClearActs.{refused_acts, cleared_acts, unsure_acts}
use Rattle.lsm_logged.proofs.Known.{LeavesLogged, known_still, leaves_removed, all_left, gone_left}
use Rattle.lsm_logged.proofs.Seen.{logged_with}
use Rattle.lsm_logged.proofs.logged.Logged.clear.Given.{Over}
use Rattle.lsm_logged.proofs.logged.Logged.clear.Goals.{After-remove_passed}
use Rattle.lsm_logged.proofs.logged.Logged.clear.Goals as goal

-- what is left once the records were to be removed
module _ (g : Over) (c : After-remove_passed g) (tells : g.S.Store.tells) where
  left : LeavesLogged g.S.Store.world c.args.self.now c.remove_passed.new.self
  left = leaves_removed g.S.Store.world c.self.inside.tree c.clear.new.self c.self.inside.numbers.items c.self.inside.doubted c.remove_passed.new.self c.args.self.now c.self.view_is (c.clear.ensures.upholds tells) c.remove_passed.ensures.core (c.remove_passed.ensures.upholds tells) c.remove_passed.result (c.remove_passed.ensures.removes tells) (c.remove_passed.ensures.known tells)

pub returns-in-Ok-clause-passes : goal.returns-in-Ok-clause-passes
returns-in-Ok-clause-passes g c tells = (left g (goal.at.returns-in-Ok-clause-passes g c).After-remove_passed tells).left.passed

pub returns-in-Ok-clause-behind : goal.returns-in-Ok-clause-behind
returns-in-Ok-clause-behind g c tells = (left g (goal.at.returns-in-Ok-clause-behind g c).After-remove_passed tells).left.either

pub returns-in-Ok-clause-upholds : goal.returns-in-Ok-clause-upholds
returns-in-Ok-clause-upholds g c tells = (left g (goal.at.returns-in-Ok-clause-upholds g c).After-remove_passed tells).left.files

pub returns-in-Err-clause-passes : goal.returns-in-Err-clause-passes
returns-in-Err-clause-passes g c tells = (left g (goal.at.returns-in-Err-clause-passes g c).After-remove_passed tells).left.passed

pub returns-in-Err-clause-behind : goal.returns-in-Err-clause-behind
returns-in-Err-clause-behind g c tells = (left g (goal.at.returns-in-Err-clause-behind g c).After-remove_passed tells).left.either

pub returns-in-Err-clause-upholds : goal.returns-in-Err-clause-upholds
returns-in-Err-clause-upholds g c tells = (left g (goal.at.returns-in-Err-clause-upholds g c).After-remove_passed tells).left.files

pub returns-then-is_uncertain-clause-acts : goal.returns-then-is_uncertain-clause-acts
returns-then-is_uncertain-clause-acts g c tells =
    let w = g.S.Store.world in
    let i = c.self.inside in
    let old = logged_with i.tree i.numbers.items i.doubted in
    subst (λ (t : SeenLogged g.row.S.Denot). ClearsAct (Err Unrecoverable) (w t.store) (w t.store) t t) c.self.view_is (unsure_acts (w old.store) old (c.is_upheld.ensures tells))

pub returns-in_err-number-clause-acts : goal.returns-in_err-number-clause-acts
returns-in_err-number-clause-acts g c tells =
    let w = g.S.Store.world in
    let i = c.self.inside in
    let mid = c.clear.new.self in
    let e = c.in_err-number.field-0.0 in
    let old = logged_with i.tree i.numbers.items i.doubted in
    let new = logged_with mid i.numbers.items i.doubted in
    let sure : is_unsure old ≡ false = ap is_unsure c.self.view_is ∙ (sym c.is_uncertain.ensures ∙ c.if-is_uncertain.false) in
    let small = subst (λ (t : SeenLogged g.row.S.Denot). t.core.seqno < 2 ^ 64) (sym c.self.view_is) c.counter_fits.ensures in
    let told = err_from_is_err_and c.from_residual.result c.from_residual.ensures.1 in
    subst (λ (t : SeenLogged g.row.S.Denot). ClearsAct c.from_residual.result (w t.store) (w mid.store) t new) c.self.view_is
    (subst (λ (r : Result ℕ Error). ClearsAct r (w old.store) (w mid.store) old new) (sym (told.1 ∙ ap (λ (x : Error). Err x) told.2))
    (λ opened journal notes t is keeps next. refused_acts c.plain_numbers_are_read.ensures (w old.store) (w mid.store) old new sure refl small opened journal notes t is keeps next (c.clear.ensures.upholds tells) e c.in_err-number.ensures.clears c.in_err-number.ensures.deeds))

pub returns-in-Ok-clause-acts : goal.returns-in-Ok-clause-acts
returns-in-Ok-clause-acts g c tells =
    cleared_acts g.S.Store.world c.self.inside.tree c.clear.new.self c.self.inside.numbers.items c.self.inside.doubted c.remove_passed.new.self c.args.self.now c.self.view_is c.plain_numbers_are_read.ensures (sym c.is_uncertain.ensures ∙ c.if-is_uncertain.false) c.remove_passed.ensures.doubted c.counter_fits.ensures
    c.in_ok-number.number c.in_ok-number.ensures.clears c.in_ok-number.ensures.deeds c.remove_passed.ensures.core
    (left g (goal.at.returns-in-Ok-clause-acts g c).After-remove_passed tells)

pub returns-in-Err-clause-acts : goal.returns-in-Err-clause-acts
returns-in-Err-clause-acts g c tells =
    cleared_acts g.S.Store.world c.self.inside.tree c.clear.new.self c.self.inside.numbers.items c.self.inside.doubted c.remove_passed.new.self c.args.self.now c.self.view_is c.plain_numbers_are_read.ensures (sym c.is_uncertain.ensures ∙ c.if-is_uncertain.false) c.remove_passed.ensures.doubted c.counter_fits.ensures
    c.in_ok-number.number c.in_ok-number.ensures.clears c.in_ok-number.ensures.deeds c.remove_passed.ensures.core
    (left g (goal.at.returns-in-Err-clause-acts g c).After-remove_passed tells)

pub returns-in-Ok-clause-known : goal.returns-in-Ok-clause-known
returns-in-Ok-clause-known g c tells = (left g (goal.at.returns-in-Ok-clause-known g c).After-remove_passed tells).known

pub returns-in-Err-clause-known : goal.returns-in-Err-clause-known
returns-in-Err-clause-known g c tells = (left g (goal.at.returns-in-Err-clause-known g c).After-remove_passed tells).known

pub returns-in-Ok-clause-passed_are_gone : goal.returns-in-Ok-clause-passed_are_gone
returns-in-Ok-clause-passed_are_gone g c tells =
    gone_left g.S.Store.world c.self.inside.tree c.clear.new.self.core c.self.inside.numbers.items c.self.inside.doubted c.remove_passed.new.self c.args.self.now c.self.view_is c.remove_passed.ensures.core (c.in-Ok.ensures.removes tells).gone

pub returns-in_err-number-clause-known : goal.returns-in_err-number-clause-known
returns-in_err-number-clause-known g c tells =
    all_left g.S.Store.world c.self.inside.tree c.clear.new.self c.self.inside.numbers.items c.self.inside.doubted c.args.self.now c.self.view_is (c.clear.ensures.upholds tells).passes

pub returns-then-is_uncertain-clause-known : goal.returns-then-is_uncertain-clause-known
returns-then-is_uncertain-clause-known g c tells =
    let w = g.S.Store.world in
    let i = c.self.inside in
    subst (λ (t : SeenLogged g.row.S.Denot). KeepsKnown (w t.store) (w t.store) t.numbers t.numbers) c.self.view_is (known_still (w i.tree.store) i.numbers.items)

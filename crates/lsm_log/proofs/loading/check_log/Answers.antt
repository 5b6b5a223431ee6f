use Rattle.std.proofs.Common.{◌≡◌, ◌∙◌, inr, ℕ, List, Err, drop, ap, subst}
use Rattle.std.proofs.lemmas.Result.{err_from_is_err_and}
use Rattle.lsm_below.specs.declared.error.Error.{Error}
use Rattle.lsm_below.specs.declared.error.Error.TheVariants.{Unrecoverable}
use Rattle.lsm_store.specs.World.{Image}
use Rattle.lsm_log.specs.Logs.{IsNoRecordAt, HasEach, LacksOne}
use Rattle.lsm_log.proofs.Loaded.{gives_same, seen_log, seen_read}
use Rattle.lsm_log.proofs.loading.check_log.Goals as goal

pub returns-in_err-check_each-clause-bad : goal.returns-in_err-check_each-clause-bad
returns-in_err-check_each-clause-bad g c tells told =
    let w = g.S.Store.world in
    let ns = c.in_ok-passed.passed.items in
    let at = c.first_from-at.result in
    let image = (w c.args.store.now).gives in
    let numbers = c.deref-3.ensures.value ∙ c.in_ok-numbers.ensures ∙ ap (drop at) c.deref-2.ensures.value in
    let gives = gives_same (w c.args.store.now) (w c.record_numbers.new.store) (c.in_ok-passed.ensures.same tells) in
    let p = err_from_is_err_and c.from_residual-in_err-check_each.result c.from_residual-in_err-check_each.ensures.1 in
    let known = rw (p.1, p.2) at told in
    let same : c.in_err-check_each.field-0.0 ≡ Unrecoverable = cc known in
    let lacks : LacksOne (w c.record_numbers.new.store).gives (drop at ns) = subst (LacksOne (w c.record_numbers.new.store).gives) numbers (c.in_err-check_each.ensures.bad tells (ap (λ (e : Error). Err e) same)) in
    let found = seen_read image c.args.from at ns c.deref.result.now (c.in_ok-passed.ensures.lists tells) c.deref.ensures.value c.first_from-at.ensures.before c.first_from-at.ensures.behind lacks.0 lacks.1 in
    inr (lacks.0, found.0, found.1, subst (λ (i : Image). IsNoRecordAt i lacks.0) gives lacks.2)

pub returns-clause-read : goal.returns-clause-read
returns-clause-read g c tells =
    let w = g.S.Store.world in
    let ns = c.in_ok-passed.passed.items in
    let at = c.first_from-at.result in
    let image = (w c.args.store.now).gives in
    let numbers = c.in_ok-numbers.numbers.items in
    let gives = gives_same (w c.args.store.now) (w c.record_numbers.new.store) (c.in_ok-passed.ensures.same tells) in
    let each : HasEach image numbers = subst (HasEach image) c.deref-3.ensures.value (subst (λ (i : Image). HasEach i c.deref-3.result.now) gives (c.in_ok-check_each.ensures.read tells)) in
    seen_log image c.args.from at ns c.deref.result.now (c.in_ok-passed.ensures.lists tells) c.deref.ensures.value c.first_from-at.ensures.before c.first_from-at.ensures.behind c.truncate.new.self.items numbers c.truncate.ensures.items (subst (λ (l : List ℕ). numbers ≡ drop at l) c.deref-2.ensures.value c.in_ok-numbers.ensures) each

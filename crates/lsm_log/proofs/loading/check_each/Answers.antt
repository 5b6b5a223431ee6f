use Rattle.std.proofs.Common.{◌≡◌, get_or, Err, ap, subst, rules}
use Rattle.std.proofs.lemmas.List.{take_all}
use Rattle.std.proofs.lemmas.Result.{err_from_is_err_and}
use Rattle.std.proofs.lemmas.List.Elements.{Contains-get_or}
use Rattle.lsm_below.specs.declared.error.Error.{Error}
use Rattle.lsm_below.specs.declared.error.Error.TheVariants.{Unrecoverable}
use Rattle.lsm_store.specs.World.{Image}
use Rattle.lsm_store.specs.Moments.{same_then}
use Rattle.lsm_log.specs.Logs.{IsRecordAt, IsNoRecordAt, HasEach}
use Rattle.lsm_log.proofs.Loaded.{gives_same, each_more}
use Rattle.lsm_log.proofs.loading.check_each.Goals as goal

pub returns-in_err-record-clause-bad : goal.returns-in_err-record-clause-bad
returns-in_err-record-clause-bad g c tells told =
    let w = g.S.Store.world in
    let i = c.loop-number.number-index in
    let k = get_or c.args.numbers.now i 0 in
    let gives = gives_same (w c.args.store.now) (w c.loop-number.store) (c.loop-number.invariant.same tells) in
    let p = err_from_is_err_and c.from_residual.result c.from_residual.ensures.1 in
    let known = rw (p.1, p.2) at told in
    let same : c.in_err-record.field-0.0 ≡ Unrecoverable = cc known in
    let bad : IsNoRecordAt (w c.loop-number.store).gives k = c.in_err-record.ensures.bad tells (ap (λ (e : Error). Err e) same) in
    (k, Contains-get_or c.args.numbers.now i 0 c.loop-number-test.true, subst (λ (image : Image). IsNoRecordAt image k) gives bad)

pub loop-number-preserved : goal.loop-number-preserved
loop-number-preserved g c =
    let w = g.S.Store.world in
    let i = c.loop-number.number-index in
    let r = c.in_ok-record.record in
    let so_far = c.loop-number.invariant in
    let old = w c.args.store.now in
    let mid = w c.loop-number.store in
    let did = c.in_ok-record.ensures in
    record {
      read = λ tells. each_more old.gives c.args.numbers.now i r (so_far.read tells) c.loop-number-test.true
          (subst (λ (image : Image). IsRecordAt image (get_or c.args.numbers.now i 0) r) (gives_same old mid (so_far.same tells)) (did.read tells));
      same = λ tells. same_then old mid (w c.read_record.new.store) (so_far.same tells) (did.same tells);
      failures = search rules;
    }

pub returns-clause-read : goal.returns-clause-read
returns-clause-read g c tells =
    let w = g.S.Store.world in
    let ns = c.args.numbers.now in
    subst (HasEach (w c.args.store.now).gives) (take_all c.loop-number.number-index ns c.loop-number-test.false) (c.loop-number.invariant.read tells)

use Rattle.std.proofs.Common.{◌≡◌, false, Ok, IsErrOf, ◌↔◌, sym, ap, subst, ◌∙◌}
use Rattle.std.proofs.lemmas.Result.{err_from_is_err_and}
use Rattle.lsm_below.specs.Keys.{Bytes}
use Rattle.lsm_below.specs.declared.error.Error.TheVariants.{OutOfOrder}
use Rattle.lsm_recorded.specs.Marks.{mark_of}
use Rattle.lsm_recorded.proofs.BatchLemmas.{not_refused}
use Rattle.lsm_recorded.proofs.RaisingLemmas.{allowed_same, handed_on}
use Rattle.lsm_recorded.proofs.WritesLemmas.{on_err}
use Rattle.lsm_recorded.proofs.raising.raise_batch.Goals.{in-Ok-false, in-Err}
use Rattle.lsm_recorded.proofs.raising.raise_batch.Goals as goal

pub returns-in_err-admit_all-clause-out_of_order : goal.returns-in_err-admit_all-clause-out_of_order
returns-in_err-admit_all-clause-out_of_order c =
    let same = λ (q : Bytes). c.take_back.ensures.is q ∙ c.raise_all.ensures.raised q in
    let told = allowed_same (mark_of c.take_back.new.marks) (mark_of c.args.marks.now) c.args.floor c.args.number c.args.ops.now same in
    let p = err_from_is_err_and c.from_residual.result c.from_residual.ensures.1 in
    subst (λ b. IsErrOf c.from_residual.result OutOfOrder ↔ (b ≡ false)) told (handed_on c.admit_all.result c.from_residual.result _ _ _ c.in_err-admit_all.was p.1 p.2 c.admit_all.ensures.out_of_order)

pub returns-clause-out_of_order : goal.returns-clause-out_of_order
returns-clause-out_of_order c =
    let same = λ (q : Bytes). c.take_back.ensures.is q ∙ c.raise_all.ensures.raised q in
    let told = allowed_same (mark_of c.take_back.new.marks) (mark_of c.args.marks.now) c.args.floor c.args.number c.args.ops.now same in
    let allowed = sym told ∙ not_refused _ _ c.in_ok-admit_all.was c.admit_all.ensures.out_of_order in (
      λ e. elim c.match-raise_all.branch [
        | in-Ok-false w ↦ absurd (cc (w.refused-is, e))
        | in-Err w ↦ absurd (cc (w.refused-is, e))
      ],
      λ q. absurd (cc (allowed, q)),
    )

pub returns-clause-twice : goal.returns-clause-twice
returns-clause-twice c is small =
    let same = λ (q : Bytes). c.take_back.ensures.is q ∙ c.raise_all.ensures.raised q in
    let told = allowed_same (mark_of c.take_back.new.marks) (mark_of c.args.marks.now) c.args.floor c.args.number c.args.ops.now same in
    let allowed = sym told ∙ not_refused _ _ c.in_ok-admit_all.was c.admit_all.ensures.out_of_order in
    elim c.match-raise_all.branch [
      | in-Ok-false w ↦ c.raise_all.ensures.twice (w.in-Ok-false.is ∙ ap Ok w.in-Ok-false.field-0-test) small allowed
      | in-Err w ↦ absurd (cc (w.refused-is, is))
    ]

pub returns-clause-unmarked : goal.returns-clause-unmarked
returns-clause-unmarked c = on_err c.match-raise_all.refused (λ q. c.take_back.ensures.is q ∙ c.raise_all.ensures.raised q)

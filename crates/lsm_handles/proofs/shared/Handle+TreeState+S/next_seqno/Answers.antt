-- The counter that gives the number, or has none left, is that of the tree that the lock guards.
use Rattle.std.proofs.Common.{◌≡◌, ℕ, ◌+◌, ◌≤◌, ◌↔◌, Ok, Err, Result, IfOk, IfErr, OnOk, IsErrOf, refl, ap, ◌∙◌, subst}
use Rattle.std.specs.Prelude.{OnErr}
use Rattle.lsm_below.specs.declared.error.Error.{Error}
use Rattle.lsm_below.specs.declared.error.Error.TheVariants.{OutOfNumbers}
use Rattle.lsm_versions.specs.declared.config.TheConstants.{LIMIT}
use Rattle.lsm_state.specs.Core.{Core}
use Rattle.lsm_state.specs.Calls.{Draws}
use Rattle.lsm_handles.proofs.shared.Handle+TreeState+S.next_seqno.Goals as goal

drawn : (r : Result ℕ Error) (old : Core) (was is : ℕ) → was ≡ old.seqno → IfOk r (λ n. n ≡ was) → OnOk r (is ≡ was + 1) → OnErr r (is ≡ was) → IsErrOf r OutOfNumbers ↔ LIMIT ≤ was → IfErr r (λ e. e ≡ OutOfNumbers)
    → Draws (λ c. c.seqno) (λ c. record c { seqno = c.seqno + 1 }) r old (let c : Core = record old { seqno = is } in c)
drawn (Ok n) old was is here ok used err out only =
    let counts : ℕ → Core = λ k. record old { seqno = k } in
    record { ok = ok ∙ here; used = ap counts (used ∙ ap (λ k. k + 1) here); err = tt; out_of_numbers = subst (λ k. IsErrOf {T = ℕ} (Ok n) OutOfNumbers ↔ LIMIT ≤ k) here out; only = tt }
drawn (Err e) old was is here ok used err out only =
    let counts : ℕ → Core = λ k. record old { seqno = k } in
    record { ok = tt; used = tt; err = ap counts (err ∙ here); out_of_numbers = subst (λ k. IsErrOf {T = ℕ} (Err e) OutOfNumbers ↔ LIMIT ≤ k) here out; only = only }

pub returns-clause-draws : goal.returns-clause-draws
returns-clause-draws g c =
    let told = c.next-told in
    let old = c.deref_mut-tree.result.now in
    let counts : ℕ → Core = λ k. record (old.core) { seqno = k } in
    (old, record { store = old.store; core = counts told.new.self }, drawn told.result old.core c.seqno_mut.result.now told.new.self c.seqno_mut.ensures.value told.ensures.ok told.ensures.used told.ensures.err told.ensures.out_of_numbers told.ensures.only, refl, c.facts.ensures, c.facts-2.ensures)

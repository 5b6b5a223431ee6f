use Rattle.std.proofs.Common.{◌≡◌, ◌∙◌, ℕ, ◌<◌, ◌^◌, List, Contains, Result, Ok, Err, sym, ap, subst, arith}
use Rattle.std.specs.List.{All}
use Rattle.std.proofs.lemmas.List.Elements.{All-weaker}
use Rattle.std.proofs.lemmas.Result.{err_from_is_err_and}
use Rattle.lsm_below.specs.declared.error.Error.{Error}
use Rattle.lsm_versions.specs.Levels.{SeenVersion}
use Rattle.lsm_log.specs.Changes.{IsNoneOf}
use Rattle.lsm_logged.specs.Keeping.{SeenLogged, AreRecordNumbers}
use Rattle.lsm_logged.specs.Removing.{log_from_of, KeepsKnown, RemovesPassed}
use Rattle.lsm_logged.proofs.Known.{removed_known}
use Rattle.lsm_logged.proofs.logged.Logged.remove_passed.Given.{Over}
use Rattle.lsm_logged.proofs.logged.Logged.remove_passed.Goals as goal

-- numbers of records have 64 bits
wide : (next : ℕ) (numbers : List ℕ) → next < 2 ^ 64 → AreRecordNumbers next numbers → All (λ j. j < 2 ^ 64) numbers
wide next numbers fits are = All-weaker (λ j. j < next) (λ j. j < 2 ^ 64) (λ j lt. omega (arith, lt, fits)) numbers are.below

-- ---- what is removed

pub returns-in_err-remove_records_below-clause-removes : goal.returns-in_err-remove_records_below-clause-removes
returns-in_err-remove_records_below-clause-removes g c tells =
    let w = g.S.Store.world in
    let i = c.self.inside in
    let mid = c.remove_records_below.new.self in
    let did = c.remove_records_below.ensures in
    let r : Result (Unit {0}) Error = Err c.in_err-remove_records_below.field-0.0 in
    let is : c.log_from-from.result ≡ log_from_of i.tree.core = c.log_from-from.ensures ∙ ap (λ (v : SeenVersion). v.log_from) c.current_version.ensures in
    let removes : RemovesPassed c.log_from-from.result i.numbers.items (w i.tree.store) (w mid.store) r = record {
      clears = did.clears tells;
      others = λ n out. did.others tells n (subst (λ l. IsNoneOf (Contains l) n) (sym c.deref.ensures.value) out);
      any_moment = did.any_moment tells;
      gone = tt;
    } in
    let p = err_from_is_err_and c.from_residual.result c.from_residual.ensures.1 in
    rw (p.1, p.2) (subst (λ (t : SeenLogged g.row.S.Denot). RemovesPassed (log_from_of t.core) t.numbers (w t.store) (w mid.store) r) c.self.view_is (subst (λ n. RemovesPassed n i.numbers.items (w i.tree.store) (w mid.store) r) is removes))

-- where none was refused
module _ (g : Over) (c : goal.After-forget_below g) (tells : g.S.Store.tells) where
  removed : RemovesPassed {T = Unit {0}} c.log_from-from.result c.self.inside.numbers.items (g.S.Store.world c.self.inside.tree.store) (g.S.Store.world c.remove_records_below.new.self.store) (Ok tt)
  removed =
      let did = c.remove_records_below.ensures in
      let gone = c.in_ok-remove_records_below.ensures.gone tells in
      record {
        clears = did.clears tells;
        others = λ n out. did.others tells n (subst (λ l. IsNoneOf (Contains l) n) (sym c.deref.ensures.value) out);
        any_moment = did.any_moment tells;
        gone = λ k has. gone k (subst (λ l. Contains l k) (sym c.deref.ensures.value) has);
      }

pub returns-clause-removes : goal.returns-clause-removes
returns-clause-removes g c tells =
    let w = g.S.Store.world in
    let i = c.self.inside in
    let mid = c.remove_records_below.new.self in
    let r : Result (Unit {0}) Error = Ok tt in
    let is : c.log_from-from.result ≡ log_from_of i.tree.core = c.log_from-from.ensures ∙ ap (λ (v : SeenVersion). v.log_from) c.current_version.ensures in
    subst (λ (t : SeenLogged g.row.S.Denot). RemovesPassed (log_from_of t.core) t.numbers (w t.store) (w mid.store) r) c.self.view_is (subst (λ n. RemovesPassed n i.numbers.items (w i.tree.store) (w mid.store) r) is (removed g c tells))

-- ---- which records are known

pub returns-in_err-remove_records_below-clause-known : goal.returns-in_err-remove_records_below-clause-known
returns-in_err-remove_records_below-clause-known g c tells =
    let w = g.S.Store.world in
    let old = c.args.self.now in
    let i = c.self.inside in
    let mid = c.remove_records_below.new.self in
    let removes = returns-in_err-remove_records_below-clause-removes g c tells in
    let same : i.numbers.items ≡ old.numbers = ap (λ (t : SeenLogged g.row.S.Denot). t.numbers) c.self.view_is in
    let p = err_from_is_err_and c.from_residual.result c.from_residual.ensures.1 in
    let fits : i.tree.core.seqno < 2 ^ 64 = subst (λ n. n < 2 ^ 64) (ap (λ (t : SeenLogged g.row.S.Denot). t.core.seqno) (sym c.self.view_is)) c.counter_fits.ensures in
    let fit = subst (All (λ j. j < 2 ^ 64)) same (wide i.tree.core.seqno i.numbers.items fits c.self.invariant) in
    removed_known c.plain_numbers_are_read.ensures (log_from_of old.core) old.numbers i.numbers.items fit (w old.store) (w mid.store) (Err p.0) (subst (λ r. RemovesPassed (log_from_of old.core) old.numbers (w old.store) (w mid.store) r) p.1 removes) tt same

pub returns-clause-known : goal.returns-clause-known
returns-clause-known g c tells =
    let w = g.S.Store.world in
    let i = c.self.inside in
    let numbers = i.numbers.items in
    let left = c.forget_below.new.numbers.items in
    let mid = c.remove_records_below.new.self in
    let from = c.log_from-from.result in
    let r : Result (Unit {0}) Error = Ok tt in
    let fits : i.tree.core.seqno < 2 ^ 64 = subst (λ n. n < 2 ^ 64) (ap (λ (t : SeenLogged g.row.S.Denot). t.core.seqno) (sym c.self.view_is)) c.counter_fits.ensures in
    let known = removed_known c.plain_numbers_are_read.ensures from numbers left (wide i.tree.core.seqno numbers fits c.self.invariant) (w i.tree.store) (w mid.store) r (removed g c tells) c.forget_below.ensures tt in
    subst (λ (t : SeenLogged g.row.S.Denot). KeepsKnown (w t.store) (w mid.store) t.numbers left) c.self.view_is known

use Rattle.std.proofs.Common.{◌≡◌, List, ℕ, take, get_or, refl, sym, subst, rules}
use Rattle.std.specs.Prelude.{Contains}
use Rattle.std.proofs.lemmas.List.{take_all}
use Rattle.std.proofs.lemmas.List.Elements.{Contains-get_or}
use Rattle.lsm_log.proofs.Changed.{clears_more, cleared_more, gone_more}
use Rattle.lsm_log.proofs.removing.remove_each.Goals as goal

pub returns-in_err-remove_record-clause-clears : goal.returns-in_err-remove_record-clause-clears
returns-in_err-remove_record-clause-clears g c tells =
    let w = g.S.Store.world in
    let ns = c.args.numbers.now in
    let i = c.loop-number.number-index in
    let did = c.remove_record.ensures in
    clears_more (Contains ns) (w c.args.store.now) (w c.loop-number.store) (w c.remove_record.new.store) (get_or ns i 0) (Contains-get_or ns i 0 c.loop-number-test.true) (c.loop-number.invariant.clears tells) (did.clears tells)

pub returns-in_err-remove_record-clause-any_moment : goal.returns-in_err-remove_record-clause-any_moment
returns-in_err-remove_record-clause-any_moment g c tells =
    let w = g.S.Store.world in
    let ns = c.args.numbers.now in
    let i = c.loop-number.number-index in
    let did = c.remove_record.ensures in
    cleared_more (Contains ns) (w c.args.store.now) (w c.loop-number.store) (w c.remove_record.new.store) (get_or ns i 0) (Contains-get_or ns i 0 c.loop-number-test.true) (c.loop-number.invariant.clears tells) (c.loop-number.invariant.any_moment tells) (did.any_moment tells)

pub loop-number-preserved : goal.loop-number-preserved
loop-number-preserved g c =
    let w = g.S.Store.world in
    let ns = c.args.numbers.now in
    let i = c.loop-number.number-index in
    let old = w c.args.store.now in
    let mid = w c.loop-number.store in
    let new = w c.remove_record.new.store in
    let so_far = c.loop-number.invariant in
    let did = c.in_ok-remove_record.ensures in
    let number = get_or ns i 0 in
    let is = Contains-get_or ns i 0 c.loop-number-test.true in
    record {
      gone = λ tells. gone_more ns i number mid new c.loop-number-test.true refl (did.clears tells) (did.gone tells) (so_far.gone tells);
      clears = λ tells. clears_more (Contains ns) old mid new number is (so_far.clears tells) (did.clears tells);
      any_moment = λ tells. cleared_more (Contains ns) old mid new number is (so_far.clears tells) (so_far.any_moment tells) (did.any_moment tells);
      failures = search rules;
    }

pub returns-clause-gone : goal.returns-clause-gone
returns-clause-gone g c tells =
    let ns = c.args.numbers.now in
    let all : take c.loop-number.number-index ns ≡ ns = take_all c.loop-number.number-index ns c.loop-number-test.false in
    let gone = c.loop-number.invariant.gone tells in
    λ k at. gone k (subst (λ (l : List ℕ). Contains l k) (sym all) at)

use Rattle.std.proofs.Common.{◌≡◌, ◌+◌, true, false, take, drop, sym, ◌∙◌, subst}
use Rattle.std.specs.List.{list_any}
use Rattle.std.specs.BTreeSet.{contains}
use Rattle.lsm_below.specs.Keys.{is_same}
use Rattle.lsm_model.specs.Ops.{repeats, keys_of}
use Rattle.lsm_model.proofs.Doubled.{keys_cmp, grown, still_once, comes_twice, keys_more, keys_whole, few_once}
use Rattle.lsm_model.proofs.repeats.has_repeats.Goals as goal

pub returns-then-not-is_new : goal.returns-then-not-is_new
returns-then-not-is_new c =
    let ops = c.args.ops.now in
    let i = c.loop-key.key-index in
    let key = c.as_slice.result in
    let k = key.now in
    let whole = keys_whole ops i c.loop-key-item.result k c.loop-key-test.true c.loop-key-item.is c.as_slice.ensures in
    sym (subst (λ ks. repeats ks ≡ true) whole
    (comes_twice (keys_of (take i ops)) (keys_of (drop (i + 1) ops)) k (contains keys_cmp c.loop-key.seen key) (sym c.in_ok-is_new.ensures.added ∙ c.if-not-is_new.true) (c.loop-key.invariant.holds key)))

pub loop-key-preserved : goal.loop-key-preserved
loop-key-preserved c =
    let ops = c.args.ops.now in
    let i = c.loop-key.key-index in
    let key = c.as_slice.result in
    let k = key.now in
    let more = keys_more ops i c.loop-key-item.result k c.loop-key-test.true c.loop-key-item.is c.as_slice.ensures in
    record {
      holds = λ q. subst (λ ks. contains keys_cmp c.insert.new.self q ≡ list_any (is_same q.now) ks) (sym more)
          (grown (keys_of (take i ops)) k q.now (contains keys_cmp c.loop-key.seen q) (contains keys_cmp c.insert.new.self q) (c.in_ok-is_new.ensures.updates.0 q) (c.loop-key.invariant.holds q));
      once = subst (λ ks. repeats ks ≡ false) (sym more)
          (still_once (keys_of (take i ops)) k (contains keys_cmp c.loop-key.seen key) (sym c.in_ok-is_new.ensures.added ∙ c.if-not-is_new.false) (c.loop-key.invariant.holds key) c.loop-key.invariant.once);
    }

pub returns-then-ops-lt2 : goal.returns-then-ops-lt2
returns-then-ops-lt2 c = sym (few_once c.args.ops.now c.if-ops-lt2.true)

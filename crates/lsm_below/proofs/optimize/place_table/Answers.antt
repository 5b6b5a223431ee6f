use Rattle.std.proofs.Common.{◌≡◌, ℕ, ◌<◌, ◌≤◌, ◌-◌, arith, sym, ◌∙◌, true, false, subst, length, drop, get_or, [], ap}
use Rattle.std.proofs.lemmas.List.{get_or_default}
use Rattle.lsm_below.specs.Optimizes.{tables_of}
use Rattle.lsm_below.specs.Greedy.{is_free}
use Rattle.lsm_below.proofs.Placing.{free_member, placed_at, placed_end}
use Rattle.lsm_below.proofs.optimize.place_table.Goals as goal

pub put-requires : goal.put-requires
put-requires g c =
    let range = g.T.Ranged.range in
    let runs = c.args.runs.now.items in
    let at = c.place_behind-place.result in
    let behind : is_free range (range c.args.table) (tables_of (drop at runs)) ≡ true = rw (← c.deref.ensures.value, ← c.key_range-2.ensures) c.place_behind-place.ensures.behind in
    let len = ap length c.deref.ensures.value in
    free_member range (range c.args.table) runs at c.index_mut-run.result.now (omega arith) c.index_mut-run.ensures.value behind

pub returns-in_ok-put-clause-ok : goal.returns-in_ok-put-clause-ok
returns-in_ok-put-clause-ok g c =
    let range = g.T.Ranged.range in
    let runs = c.args.runs.now.items in
    let at = c.place_behind-place.result in
    let behind : is_free range (range c.args.table) (tables_of (drop at runs)) ≡ true = rw (← c.deref.ensures.value, ← c.key_range-2.ensures) c.place_behind-place.ensures.behind in
    let before : 0 < at → is_free range (range c.args.table) (get_or runs (at - 1) []) ≡ false = rw (← c.deref.ensures.value, ← c.key_range-2.ensures) c.place_behind-place.ensures.before in
    let len = ap length c.deref.ensures.value in
    let lt : at < length runs = omega arith in
    let run : c.index_mut-run.result.now ≡ get_or runs at [] = c.index_mut-run.ensures.value ∙ get_or_default runs at c.index_mut-run.result.now [] lt in
    rw (c.in_ok-put.ensures.ok, run) (sym (placed_at range c.args.table runs at lt behind before))

pub returns-in_ok-push-clause-ok : goal.returns-in_ok-push-clause-ok
returns-in_ok-push-clause-ok g c =
    let range = g.T.Ranged.range in
    let runs = c.args.runs.now.items in
    let at = c.place_behind-place.result in
    let before : 0 < at → is_free range (range c.args.table) (get_or runs (at - 1) []) ≡ false = rw (← c.deref.ensures.value, ← c.key_range-2.ensures) c.place_behind-place.ensures.before in
    let len = ap length c.deref.ensures.value in
    let le : at ≤ length runs = rw (← c.deref.ensures.value) c.place_behind-place.ensures.bound in
    let same : at ≡ length runs = omega arith in
    let busy = subst (λ (n : ℕ). 0 < n → is_free range (range c.args.table) (get_or runs (n - 1) []) ≡ false) same before in
    rw (c.in_ok-push.ensures.items, c.in_ok-run.ensures) (sym (placed_end range c.args.table runs busy))

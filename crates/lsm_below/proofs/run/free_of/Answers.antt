use Rattle.std.proofs.Common.{◌≡◌, sym, arith, subst, List, ℕ}
use Rattle.lsm_below.specs.Keys.{is_below}
use Rattle.lsm_below.specs.Runs.{stands, IsCut}
use Rattle.lsm_below.specs.Greedy.{is_free}
use Rattle.lsm_below.specs.declared.run.Side.TheVariants.{EndsBefore}
use Rattle.lsm_below.proofs.Placing.{free_past, free_at}
use Rattle.lsm_below.proofs.run.free_of.Goals as goal

pub returns-in-Some : goal.returns-in-Some
returns-in-Some g c =
    let range = g.T.Ranged.range in
    let xs = c.args.tables.now in
    let at = c.count_standing-at.result in
    let cut = subst (λ (k : List ℕ). IsCut (λ t. stands EndsBefore k (range t)) xs at) c.min_bytes.ensures c.count_standing-at.ensures in
    let l = c.in-Some.ensures.lookup in
    let e : is_free range c.args.range.now xs ≡ is_below c.args.range.now.max (range c.in-Some.table.now).min = free_at range c.args.range.now xs at c.in-Some.table.now c.requires cut l.3.0 l.1 in
    rw (c.key_is_below.ensures, c.max_bytes.ensures, c.min_bytes-in-Some.ensures, c.key_range.ensures) (sym e)

pub returns-in-None : goal.returns-in-None
returns-in-None g c =
    let range = g.T.Ranged.range in
    let xs = c.args.tables.now in
    let at = c.count_standing-at.result in
    let cut = subst (λ (k : List ℕ). IsCut (λ t. stands EndsBefore k (range t)) xs at) c.min_bytes.ensures c.count_standing-at.ensures in
    sym (free_past range c.args.range.now xs at cut (grind (arith, c.in-None.ensures.lookup)))

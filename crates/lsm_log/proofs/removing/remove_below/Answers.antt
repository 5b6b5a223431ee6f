use Rattle.std.proofs.Common.{ℕ, ◌≡◌, ◌<◌, List, None, Result, Ok, Err, take, ◌∙◌, sym, subst}
use Rattle.std.specs.Prelude.{Contains, OnOk}
use Rattle.lsm_store.specs.World.{LeavesOnly}
use Rattle.lsm_log.specs.LogNames.{record_name}
use Rattle.lsm_log.specs.Changes.{IsBelow, IsNoneOf, ClearsRecords, AreCleared}
use Rattle.lsm_log.proofs.Changed.{is_below, clears_below, cleared_below, others_stay, clears_settled, cleared_settled}
use Rattle.lsm_log.proofs.BesideTree.{clears_change}
use Rattle.lsm_log.proofs.removing.remove_below.Given.{Over}
use Rattle.lsm_log.proofs.removing.remove_below.Goals.{After-remove_each}
use Rattle.lsm_log.proofs.removing.remove_below.Goals as goal

always : {T E : Type 0} (r : Result T E) (P : Type 0) → P → OnOk r P
always (Ok x) P p = p
always (Err e) P p = tt

-- whether or not each could be removed: only records below the bound are gone, and none but those of the list
module _ (g : Over) (c : After-remove_each g) (tells : g.S.Store.tells) where
  removed : ClearsRecords (Contains (take c.first_from-at.result c.args.numbers.now)) (g.S.Store.world c.args.store.now) (g.S.Store.world c.remove_each.new.store)
  removed = subst (λ (l : List ℕ). ClearsRecords (Contains l) (g.S.Store.world c.args.store.now) (g.S.Store.world c.remove_each.new.store)) c.before-2.ensures (c.remove_each.ensures.clears tells)

  clears : ClearsRecords (IsBelow c.args.from) (g.S.Store.world c.args.store.now) (g.S.Store.world c.remove_each.new.store)
  clears = clears_below c.args.from c.first_from-at.result c.args.numbers.now c.first_from-at.ensures.before (g.S.Store.world c.args.store.now) (g.S.Store.world c.remove_each.new.store) removed

  leaves : LeavesOnly (g.S.Store.world c.args.store.now) (g.S.Store.world c.remove_each.new.store) (AreCleared (IsBelow c.args.from) (g.S.Store.world c.args.store.now))
  leaves =
      let old = g.S.Store.world c.args.store.now in
      let mid = g.S.Store.world c.remove_each.new.store in
      cleared_below c.args.from c.first_from-at.result c.args.numbers.now c.first_from-at.ensures.before old mid (subst (λ (l : List ℕ). LeavesOnly old mid (AreCleared (Contains l) old)) c.before-2.ensures (c.remove_each.ensures.any_moment tells))

  others : (n : List ℕ) → IsNoneOf (Contains c.args.numbers.now) n → (g.S.Store.world c.remove_each.new.store).gives n ≡ (g.S.Store.world c.args.store.now).gives n
  others = others_stay c.first_from-at.result c.args.numbers.now (g.S.Store.world c.args.store.now) (g.S.Store.world c.remove_each.new.store) removed

-- ---- a record can't be removed

pub returns-in_err-remove_each-clause-clears : goal.returns-in_err-remove_each-clause-clears
returns-in_err-remove_each-clause-clears g c = clears g (goal.at.returns-in_err-remove_each-clause-clears g c).After-remove_each

pub returns-in_err-remove_each-clause-any_moment : goal.returns-in_err-remove_each-clause-any_moment
returns-in_err-remove_each-clause-any_moment g c = leaves g (goal.at.returns-in_err-remove_each-clause-any_moment g c).After-remove_each

pub returns-in_err-remove_each-clause-others : goal.returns-in_err-remove_each-clause-others
returns-in_err-remove_each-clause-others g c = others g (goal.at.returns-in_err-remove_each-clause-others g c).After-remove_each

pub returns-in_err-remove_each-clause-stored : goal.returns-in_err-remove_each-clause-stored
returns-in_err-remove_each-clause-stored g c tells =
    let w = g.S.Store.world in
    c.foreign_names_spare.ensures c.args.store.now c.remove_each.new.store (clears_change (IsBelow c.args.from) (w c.args.store.now) (w c.remove_each.new.store) (returns-in_err-remove_each-clause-clears g c tells) (returns-in_err-remove_each-clause-any_moment g c tells))

-- ---- all are removed, and the names settled

pub returns-clause-gone : goal.returns-clause-gone
returns-clause-gone g c tells =
    let ns = c.args.numbers.now in
    let at = c.first_from-at.result in
    let gone = c.in_ok-remove_each.ensures.gone tells in
    always c.settle_removed.result ((k : ℕ) → Contains ns k → k < c.args.from → (g.S.Store.world c.settle_removed.new.store).gives (record_name k) ≡ None)
    (λ k has lt. (c.settle_removed.ensures.narrows tells).gives (record_name k) ∙ gone k (subst (λ (l : List ℕ). Contains l k) (sym c.before-2.ensures) (is_below c.args.from at ns c.first_from-at.ensures.behind k has lt)))

pub returns-clause-clears : goal.returns-clause-clears
returns-clause-clears g c tells =
    let w = g.S.Store.world in
    clears_settled (IsBelow c.args.from) (w c.args.store.now) (w c.remove_each.new.store) (w c.settle_removed.new.store) (c.settle_removed.ensures.narrows tells) (clears g (goal.at.returns-clause-clears g c).After-remove_each tells)

pub returns-clause-others : goal.returns-clause-others
returns-clause-others g c tells n out = (c.settle_removed.ensures.narrows tells).gives n ∙ others g (goal.at.returns-clause-others g c).After-remove_each tells n out

pub returns-clause-any_moment : goal.returns-clause-any_moment
returns-clause-any_moment g c tells =
    let w = g.S.Store.world in
    cleared_settled (IsBelow c.args.from) (w c.args.store.now) (w c.remove_each.new.store) (w c.settle_removed.new.store) (c.settle_removed.ensures.narrows tells) (leaves g (goal.at.returns-clause-any_moment g c).After-remove_each tells)

pub returns-clause-stored : goal.returns-clause-stored
returns-clause-stored g c tells =
    let w = g.S.Store.world in
    c.foreign_names_spare.ensures c.args.store.now c.settle_removed.new.store (clears_change (IsBelow c.args.from) (w c.args.store.now) (w c.settle_removed.new.store) (returns-clause-clears g c tells) (returns-clause-any_moment g c tells))

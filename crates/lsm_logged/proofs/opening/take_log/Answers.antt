use Rattle.std.proofs.Common.{Contains, sym, ap, ◌∙◌, subst}
use Rattle.std.proofs.lemmas.Result.{on_ok_weaker}
use Rattle.lsm_log.specs.Changes.{IsBelow, IsNoneOf}
use Rattle.lsm_state.specs.Core.{versions_left}
use Rattle.lsm_state.proofs.Installing.{files_join}
use Rattle.lsm_logged.proofs.Replaying.{clears_none, clears_behind, cleared_none, cleared_behind}
use Rattle.lsm_logged.proofs.opening.take_log.Goals as goal

pub returns-in_err-replay_each-clause-clears : goal.returns-in_err-replay_each-clause-clears
returns-in_err-replay_each-clause-clears g c tells =
    let w = g.S.Store.world in
    clears_none (IsBelow c.args.from) (w c.args.tree.now.store) (w c.replay_each.new.tree.store) (c.replay_each.ensures.same tells)

pub returns-in_err-replay_each-clause-any_moment : goal.returns-in_err-replay_each-clause-any_moment
returns-in_err-replay_each-clause-any_moment g c tells =
    let w = g.S.Store.world in
    let old = c.args.tree.now.store in
    cleared_none (IsBelow c.args.from) (w old) (w c.replay_each.new.tree.store) (g.met.S.Store.only_now tells old) (c.replay_each.ensures.same tells)

pub returns-clause-clears : goal.returns-clause-clears
returns-clause-clears g c tells =
    let w = g.S.Store.world in
    clears_behind (IsBelow c.args.from) (w c.args.tree.now.store) (w c.replay_each.new.tree.store) (w c.remove_records_below.new.self.store) (c.replay_each.ensures.same tells) (c.remove_records_below.ensures.clears tells)

pub returns-clause-any_moment : goal.returns-clause-any_moment
returns-clause-any_moment g c tells =
    let w = g.S.Store.world in
    let old = c.args.tree.now.store in
    cleared_behind (IsBelow c.args.from) (w old) (w c.replay_each.new.tree.store) (w c.remove_records_below.new.self.store) (g.met.S.Store.only_now tells old) (c.replay_each.ensures.same tells) (c.remove_records_below.ensures.any_moment tells)

pub returns-clause-upholds : goal.returns-clause-upholds
returns-clause-upholds g c tells =
    let w = g.S.Store.world in
    let old = c.args.tree.now in
    let mid = c.replay_each.new.tree in
    let new = c.remove_records_below.new.self in
    let both = files_join (w old.store) (w mid.store) (w new.store) old.core mid.core new.core (ap versions_left c.remove_records_below.ensures.core) (c.in_ok-replay_each.ensures.upholds tells) (c.remove_records_below.ensures.upholds tells) in
    on_ok_weaker c.remove_records_below.result (λ gone. both) (c.remove_records_below.ensures.gone tells)

pub returns-clause-others : goal.returns-clause-others
returns-clause-others g c tells =
    on_ok_weaker c.remove_records_below.result (λ gone n out. c.remove_records_below.ensures.others tells n (subst (λ l. IsNoneOf (Contains l) n) (sym c.deref-2.ensures.value) out) ∙ (c.replay_each.ensures.same tells).gives n) (c.remove_records_below.ensures.gone tells)

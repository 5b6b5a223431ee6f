use Rattle.std.proofs.Common.{◌≡◌, take}
use Rattle.lsm_store.specs.World.{Same}
use Rattle.lsm_log.specs.Logs.{HasEach}
use Rattle.lsm_log.proofs.loading.check_each.Given as goal

abbrev pub invariant-loop-number : goal.invariant-loop-number
invariant-loop-number g l =
    let w = g.S.Store.world in
    record {
      read : g.S.Store.tells → HasEach (w l.fn.store).gives (take l.number-index l.numbers);
      same : g.S.Store.tells → Same (w l.fn.store) (w l.store);
      failures : (w l.store).failures ≡ (w l.fn.store).failures;
    }

use Rattle.std.proofs.Common.{◌≡◌, take}
use Rattle.lsm_store.specs.World.{Same}
use Rattle.lsm_state.specs.Commits.{UpholdsFiles}
use Rattle.lsm_logged.specs.Opening.{ReplaysEach}
use Rattle.lsm_logged.proofs.opening.replay_each.Given as goal

abbrev pub invariant-loop-number : goal.invariant-loop-number
invariant-loop-number g l =
    let w = g.S.Store.world in
    record {
      replays : ReplaysEach g.S.Store.tells (w l.fn.tree.store).gives (take l.number-index l.numbers) l.fn.tree.core l.tree.core;
      same : g.S.Store.tells → Same (w l.fn.tree.store) (w l.tree.store);
      upholds : g.S.Store.tells → UpholdsFiles (w l.fn.tree.store) (w l.tree.store) l.fn.tree.core l.tree.core;
      failures : (w l.tree.store).failures ≡ (w l.fn.tree.store).failures;
    }

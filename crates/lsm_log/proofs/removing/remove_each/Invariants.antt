use Rattle.std.proofs.Common.{◌≡◌, ℕ, None, take}
use Rattle.std.specs.Prelude.{Contains}
use Rattle.lsm_store.specs.World.{LeavesOnly}
use Rattle.lsm_log.specs.LogNames.{record_name}
use Rattle.lsm_log.specs.Changes.{ClearsRecords, AreCleared}
use Rattle.lsm_log.proofs.removing.remove_each.Given as goal

abbrev pub invariant-loop-number : goal.invariant-loop-number
invariant-loop-number g l =
    let w = g.S.Store.world in
    record {
      gone : g.S.Store.tells → (k : ℕ) → Contains (take l.number-index l.numbers) k → (w l.store).gives (record_name k) ≡ None;
      clears : g.S.Store.tells → ClearsRecords (Contains l.numbers) (w l.fn.store) (w l.store);
      any_moment : g.S.Store.tells → LeavesOnly (w l.fn.store) (w l.store) (AreCleared (Contains l.numbers) (w l.fn.store));
      failures : (w l.store).failures ≡ (w l.fn.store).failures;
    }

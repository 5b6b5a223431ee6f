use Rattle.std.proofs.Common.{◌≡◌, ◌≤◌, ◌<◌, ◌-◌, ℕ, None}
use Rattle.lsm_manifest.specs.Names.{table_name}
use Rattle.lsm_commit.specs.Foreign.{Passes}
use Rattle.lsm_commit.specs.Writing.{KeepsStored}
use Rattle.lsm_commit.proofs.removal.remove_written.Given as goal

abbrev pub invariant-each : goal.invariant-each
invariant-each g l =
    let w = g.S.Store.world in
    record {
      from : l.first ≤ l.id;
      gone : g.S.Store.tells → (i : ℕ) → l.first ≤ i → i < l.id → (w l.store).gives (table_name i) ≡ None;
      stored : g.S.Store.tells → KeepsStored l.first (w l.fn.store) (w l.store);
      passes : g.S.Store.tells → Passes (w l.fn.store) (w l.store);
      failures : (w l.store).failures ≡ (w l.fn.store).failures;
    }

abbrev pub decreases-each : goal.decreases-each
decreases-each g l = l.next - l.id

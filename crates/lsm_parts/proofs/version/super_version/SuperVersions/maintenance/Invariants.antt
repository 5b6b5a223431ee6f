use Rattle.std.proofs.Common.{◌≡◌, ◌≤◌, ◌∷◌, true, take, length}
use Rattle.lsm_parts.specs.History.{AreLaid, NumbersFall}
use Rattle.lsm_parts.proofs.Removed.{KeepsFiles}
use Rattle.lsm_parts.proofs.version.super_version.SuperVersions.maintenance.Given as goal

abbrev pub invariant-oldest : goal.invariant-oldest
invariant-oldest g l =
    let w = g.S.Store.world in
    record {
      latest : l.self-inside.latest ≡ l.fn.self.latest;
      older : l.self-inside.older.items ≡ take (length l.self-inside.older.items) l.fn.self.older;
      enough : l.needed ≤ length l.self-inside.older.items;
      within : length l.self-inside.older.items ≤ length l.fn.self.older;
      laid : AreLaid (l.self-inside.latest ∷ l.self-inside.older.items);
      fall : l.self-inside.in_order ≡ true → NumbersFall l.self-inside.latest.seqno l.self-inside.older.items;
      files : KeepsFiles g.S.Store.tells l.fn.self (length l.self-inside.older.items) (w l.fn.store) (w l.store);
    }

abbrev pub decreases-oldest : goal.decreases-oldest
decreases-oldest g l = length l.self-inside.older.items

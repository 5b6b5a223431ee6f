use Rattle.std.proofs.Common.{◌≡◌, ◌+◌, ◌≤◌, length}
use Rattle.lsm_commit.specs.declared.tables.TheConstants.{TABLE_TARGET}
use Rattle.lsm_commit.specs.Stored.{AreOnDisk}
use Rattle.lsm_commit.specs.Writing.{WritesFrom}
use Rattle.lsm_commit.proofs.Tabled.{IsUnderway}
use Rattle.lsm_commit.proofs.tables.write_tables.Given as goal

abbrev pub invariant-loop-rest : goal.invariant-loop-rest
invariant-loop-rest g l =
    let w = g.S.Store.world in
    record {
      written : IsUnderway TABLE_TARGET l.made_at l.fn.next l.next l.entries l.tables.items l.rest;
      on_disk : g.S.Store.tells → AreOnDisk (w l.store) l.tables.items;
      draws : l.next + length l.rest ≤ l.fn.next + length l.entries;
      files : g.S.Store.tells → WritesFrom l.fn.next (w l.fn.store) (w l.store);
      failures : (w l.store).failures ≡ (w l.fn.store).failures;
    }

abbrev pub decreases-loop-rest : goal.decreases-loop-rest
decreases-loop-rest g l = length l.rest

use Rattle.std.proofs.Common.{◌≡◌, ◌+◌, ◌<◌, take}
use Rattle.std.specs.List.{AllByRecursion, range_with_len}
use Rattle.lsm_versions.specs.declared.config.TheConstants.{LIMIT}
use Rattle.lsm_commit.specs.Contents.{AreWritten}
use Rattle.lsm_commit.specs.Writing.{WritesFrom}
use Rattle.lsm_commit.proofs.contents.write_contents.Given as goal

abbrev pub invariant-loop-content : goal.invariant-loop-content
invariant-loop-content g l =
    let w = g.S.Store.world in
    record {
      ids : l.ids.items ≡ range_with_len l.fn.next l.content-index;
      below : AllByRecursion (λ i. i < LIMIT) l.ids.items;
      next : l.next ≡ l.fn.next + l.content-index;
      written : g.S.Store.tells → AreWritten (w l.store) l.ids.items (take l.content-index l.contents);
      files : g.S.Store.tells → WritesFrom l.fn.next (w l.fn.store) (w l.store);
      failures : (w l.store).failures ≡ (w l.fn.store).failures;
    }

-- Files that are written under the next ids, one after the other.
use Rattle.std.proofs.Common.{◌≡◌, ◌≢◌, ℕ, ◌<◌, ◌≤◌, ◌^◌, List, arith}
use Rattle.lsm_store.specs.World.{Image, World, IsImage, LeavesOnly}
use Rattle.lsm_store.specs.Synced.{IsBeside, KeepsOthers}
use Rattle.lsm_store.specs.Moments.{started, joined}
use Rattle.lsm_manifest.specs.declared.kinds.NameKind.TheVariants.{TableFile}
use Rattle.lsm_manifest.specs.Names.{current_name, version_name, table_name}
use Rattle.lsm_manifest.specs.Kinds.{kind_of}
use Rattle.lsm_commit.specs.Stored.{IsOnDisk}
use Rattle.lsm_commit.specs.Foreign.{passes_still}
use Rattle.lsm_commit.specs.Writing.{IsElsewhere, KeepsElsewhere, IsKeptElsewhere, WritesFrom}
use Rattle.lsm_commit.proofs.Keeping.{keeps_none, keeps_more}
use Rattle.lsm_commit.proofs.Removals.{none_stored}
use Rattle.lsm_commit.proofs.Beside.{new_tables_spare}
use Rattle.lsm_commit.proofs.Passing.{passes_tables}

pub writes_none : (first : ℕ) (w : World) → ((image : Image) → w.since w.moment image → IsImage w.may image) → WritesFrom first w w
writes_none first w only = record {
  keeps = keeps_none (IsElsewhere first) w;
  any_moment = started w (IsKeptElsewhere first w) (λ image left n out. only image left n);
  stored = none_stored first w only;
  passes = passes_still w only;
}

-- one more file, answered or not
pub writes_more : ((i j : ℕ) → i < 2 ^ 64 → j < 2 ^ 64 → table_name i ≡ table_name j → i ≡ j) → ((i j : ℕ) → table_name i ≢ version_name j) → ((i : ℕ) → table_name i ≢ current_name) → ((i : ℕ) → i < 2 ^ 64 → kind_of (table_name i) ≡ TableFile i)
    → (first next : ℕ) (old mid new : World) → first ≤ next → next < 2 ^ 64 → WritesFrom first old mid → KeepsOthers (table_name next) mid new → LeavesOnly mid new (IsBeside (table_name next) mid) → WritesFrom first old new
writes_more apart no_version not_current kind first next old mid new le small so_far others leaves =
    let keeps : KeepsElsewhere first old new = keeps_more (IsElsewhere first) (table_name next) (λ n out. out next le small) old mid new so_far.keeps others in
    let any_moment : LeavesOnly old new (IsKeptElsewhere first old) = joined old mid new (IsKeptElsewhere first old) (IsBeside (table_name next) mid) (IsKeptElsewhere first old) so_far.any_moment leaves (λ image has. has) (λ image has n out. (so_far.keeps.may n (image n) out).0 (has n (out next le small))) in
    record {
      keeps = keeps;
      any_moment = any_moment;
      stored = new_tables_spare apart no_version not_current kind first old new keeps any_moment;
      passes = passes_tables kind first old new keeps any_moment;
    }

-- a file that is on the disk under a lesser id stays so
pub file_stays : ((i j : ℕ) → i < 2 ^ 64 → j < 2 ^ 64 → table_name i ≡ table_name j → i ≡ j) → (next : ℕ) → next < 2 ^ 64 → (mid new : World) → KeepsOthers (table_name next) mid new → (id : ℕ) (content : List ℕ) → id < 2 ^ 64 → id < next → IsOnDisk mid (table_name id) content → IsOnDisk new (table_name id) content
file_stays apart next small mid new keeps id content fits below on c may = on c ((keeps.may (table_name id) c (λ e. let same : id ≡ next = apart id next fits small e in omega arith)).0 may)

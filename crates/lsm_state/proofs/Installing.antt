-- A flush that is installed keeps what a tree keeps.
use Rattle.std.proofs.Common.{◌≡◌, ℕ, ◌+◌, ◌-◌, ◌<◌, ◌^◌, true, List, [], ◌∷◌, ◌++◌, Option, None, drop, length, zero, suc, sym, subst, arith}
use Rattle.std.specs.List.{AllByRecursion}
use Rattle.std.specs.List.Sorted.{IsPermutation}
use Rattle.std.proofs.lemmas.List.Sorted.{All-permutation}
use Rattle.std.proofs.lemmas.List.Elements.{recursion_from_All, All-from_recursion}
use Rattle.lsm_below.specs.Each.{each_weaker, each_append}
use Rattle.lsm_below.specs.Members.{IsIn}
use Rattle.lsm_store.specs.World.{World}
use Rattle.lsm_store.specs.Moments.{joined}
use Rattle.lsm_tables.specs.Tables.{SeenTable}
use Rattle.lsm_memtable.specs.Memtables.{SeenMemtable}
use Rattle.lsm_versions.specs.Levels.{SeenVersion, all_of}
use Rattle.lsm_commit.specs.Stored.{IsStored, IsTableOnDisk, AreOnDisk, HoldsOneOf, Leaves, AreAmong}
use Rattle.lsm_flush.specs.Jobs.{SeenWritten, SeenOpen}
use Rattle.lsm_parts.specs.declared.version.super_version.SuperVersion.{SuperVersion}
use Rattle.lsm_parts.specs.History.{SeenHistory, versions_of}
use Rattle.lsm_parts.specs.Held.{HasFirst, ids_of, is_among}
use Rattle.lsm_state.specs.Kept.{NameOlder, KeepsIds, KeepsTables}
use Rattle.lsm_state.specs.Core.{Core, versions_left, written_of}
use Rattle.lsm_commit.specs.Foreign.{passes_then}
use Rattle.lsm_state.specs.Commits.{UpholdsFiles, Upholds}
use Rattle.lsm_state.specs.Flushes.{IsFlushedOf}
use Rattle.lsm_state.proofs.FlushSteps.{names_older}
use Rattle.lsm_state.proofs.Upholding.{among_right, leaves_more}
use Rattle.lsm_state.proofs.Writing.{below_now}

all_drop : (P : ℕ → Type 0) (n : ℕ) (ids : List ℕ) → AllByRecursion P ids → AllByRecursion P (drop n ids)
all_drop P zero ids h = h
all_drop P (suc n) [] h = h
all_drop P (suc n) (i ∷ ids) h = all_drop P n ids h.1

-- what holds of tables holds of the same in another order
pub each_permuted : (P : SeenTable → Type 0) (xs ys : List SeenTable) → IsPermutation xs ys → AllByRecursion P xs → AllByRecursion P ys
each_permuted P xs ys p h = recursion_from_All P ys (All-permutation P xs ys p (All-from_recursion P xs h))

module _ (job : SeenWritten) (number : ℕ) (h : SeenHistory) (next : SuperVersion) (flushed : IsFlushedOf job number h.latest next) where
  abbrev after : SeenHistory
  after = record { latest = next; older = versions_of h }

  pub ids_flushed : (ts : List SeenMemtable) (n : ℕ) → KeepsIds ts h n → KeepsIds ts after n
  ids_flushed ts n k =
      let held = k.held.0 in
      let among = λ (i : ℕ). is_among (ids_of ts) i ≡ true in
      record {
        active = subst (λ a. HasFirst ts (λ m. m.id ≡ a)) (sym flushed.active) k.active;
        fall = k.fall;
        held = ((subst among (sym flushed.active) held.0, subst (AllByRecursion among) (sym flushed.sealed) (all_drop among (length job.job.ids) h.latest.sealed_memtables held.1)), k.held);
        older = subst (λ a. NameOlder a (versions_of after)) (sym flushed.active) (names_older h.latest.active_memtable (length job.job.ids) h.latest next h.older flushed.active flushed.sealed k.older);
      }

  pub tables_flushed : (flush : Option SeenOpen) (n : ℕ) → flush ≡ None → IsPermutation (job.tables ++ all_of h.latest.version.levels) (all_of next.version.levels)
      → (n < 2 ^ 64 - 1 → AllByRecursion (λ t. t.id < n) job.tables) → KeepsTables flush h n → KeepsTables flush after n
  tables_flushed flush n closed same below k =
      let id : next.version.id ≡ h.latest.version.id + 1 = flushed.version.id in
      subst (λ f. KeepsTables f after n) (sym closed) (record {
        own_ids = flushed.own_ids;
        below = λ lt. each_permuted (λ t. t.id < n) (job.tables ++ all_of h.latest.version.levels) (all_of next.version.levels) same (each_append (λ t. t.id < n) job.tables (all_of h.latest.version.levels) (below lt) (below_now h flush n k lt));
        aged = (omega (arith, id), each_weaker (λ sv. sv.version.id < h.latest.version.id) (λ sv. sv.version.id < next.version.id) (λ sv lt. omega (arith, id, lt)) h.older k.aged);
      })

-- tables of the next version are on the disk
pub flushed_on_disk : (w : World) (c : Core) (tables next : List SeenTable) → IsPermutation (tables ++ all_of c.history.latest.version.levels) next → AreOnDisk w tables → IsStored w (versions_left c) (written_of c) → AreOnDisk w next
flushed_on_disk w c tables next same disk stored =
    each_permuted (IsTableOnDisk w) (tables ++ all_of c.history.latest.version.levels) next same (each_append (IsTableOnDisk w) tables (all_of c.history.latest.version.levels) disk stored.whole.0.tables)

-- two calls in turn, of which the second one changes no version
pub files_join : (w v u : World) (old mid new : Core) → versions_left new ≡ versions_left mid → UpholdsFiles w v old mid → UpholdsFiles v u mid new → UpholdsFiles w u old new
files_join w v u old mid new same first second stored =
    let one = first stored in
    let two = second one.0 in
    let all = versions_left old ++ versions_left new in
    let before : Leaves w v all = subst (λ l. Leaves w v (versions_left old ++ l)) (sym same) one.1 in
    let behind : Leaves v u all = leaves_more v u (versions_left mid ++ versions_left new) all (subst (λ l. AreAmong (l ++ versions_left new) all) same (both (versions_left new) all (among_right (versions_left old) (versions_left new)))) two.1 in
    (two.0, joined w v u (HoldsOneOf all) (HoldsOneOf all) (HoldsOneOf all) before behind (λ image h. h) (λ image h. h))
  where
    both : (xs all : List SeenVersion) → AreAmong xs all → AreAmong (xs ++ xs) all
    both xs all h = each_append (λ v. IsIn v all) xs xs h h

pub upholds_join : (w v u : World) (old mid new : Core) → versions_left new ≡ versions_left mid → Upholds w v old mid → Upholds v u mid new → Upholds w u old new
upholds_join w v u old mid new same first second = record { files = files_join w v u old mid new same first.files second.files; passes = passes_then w v u first.passes second.passes }

-- What a step that asks for a number of the tree may answer.
use Rattle.std.specs.Prelude.{◌≡◌, ℕ, ◌+◌, ◌++◌, [], length, slice_get, slice_index_or, Option, Some, is_some, option_map}
use Rattle.lsm_below.specs.Optimizes.{tables_of}
use Rattle.lsm_below.specs.Sums.{capped}
use Rattle.lsm_tables.specs.Tables.{tombstones, weak_tombstones, reclaimable}
use Rattle.lsm_memtable.specs.Memtables.{highest_of}
use Rattle.lsm_versions.specs.Levels.{bytes_of}
use Rattle.lsm_versions.specs.declared.version.TreeType.TheVariants.{Standard}
use Rattle.lsm_parts.specs.History.{named_size}
use Rattle.lsm_state.specs.Core.{Core}
use Rattle.lsm_state.specs.Counts.{tables_now, persisted_of, unflushed_of, counted_now}
use Rattle.lsm_runs.specs.declared.steps.Count.{Count}
use Rattle.lsm_runs.specs.declared.steps.Count.TheVariants.{TableCount, L0RunCount, LevelTableCount, SealedMemtableCount, VersionFreeListLen, ApproximateLen, DiskSpace, TombstoneCount, WeakTombstoneCount, WeakTombstoneReclaimableCount, VersionMemtableSizeSum, HighestPersistedSeqno, HighestMemtableSeqno, HighestSeqno, Id, NextTableId, Moment}
use Rattle.lsm_runs.specs.declared.steps.Reply.{Reply}
use Rattle.lsm_runs.specs.declared.steps.Reply.TheVariants.{Counted, Truth, Kind}

-- each of these numbers
abbrev pub count_of : Count → Core → Option ℕ
count_of TableCount c = Some (capped (length (tables_now c)))
count_of L0RunCount c = Some (length (slice_index_or c.history.latest.version.levels 0 []))
count_of (LevelTableCount level) c = option_map (λ runs. capped (length (tables_of runs))) (slice_get c.history.latest.version.levels level)
count_of SealedMemtableCount c = Some (length c.history.latest.sealed_memtables)
count_of VersionFreeListLen c = Some (length c.history.older)
count_of ApproximateLen c = Some (capped (length (unflushed_of c) + length (persisted_of c)))
count_of DiskSpace c = Some (capped (bytes_of (tables_now c)))
count_of TombstoneCount c = Some (counted_now tombstones c)
count_of WeakTombstoneCount c = Some (counted_now weak_tombstones c)
count_of WeakTombstoneReclaimableCount c = Some (counted_now reclaimable c)
count_of VersionMemtableSizeSum c = Some (named_size c.history c.memtables)
count_of HighestPersistedSeqno c = highest_of (persisted_of c)
count_of HighestMemtableSeqno c = highest_of (unflushed_of c)
count_of HighestSeqno c = highest_of (unflushed_of c ++ persisted_of c)
count_of Id c = Some c.config.id
count_of NextTableId c = Some c.next_table
count_of Moment c = Some c.moment

-- the answer
abbrev pub IsCounted : Count → Core → Reply → Type 0
IsCounted what c (Counted n) = n ≡ count_of what c
IsCounted what c reply = ⊥

-- whether a commit of unknown outcome came before
abbrev pub IsUncertainReply : Core → Reply → Type 0
IsUncertainReply c (Truth b) = b ≡ is_some c.lost
IsUncertainReply c reply = ⊥

-- what kind of tree it is: always a standard one
abbrev pub IsKindReply : Reply → Type 0
IsKindReply (Kind kind) = kind ≡ Standard
IsKindReply reply = ⊥

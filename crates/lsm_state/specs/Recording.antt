-- What a write does that puts a record first: to a store, and to a tree.
use Rattle.std.specs.Prelude.{◌≡◌, ◌⊎◌, ℕ, List, Some, None, Result, Err, IfOk, IfErr, IfSome, OnOk, OnErr, IsErrOf}
use Rattle.lsm_below.specs.Keys.{Bytes}
use Rattle.lsm_below.specs.declared.error.Error.{Error}
use Rattle.lsm_below.specs.declared.error.Error.TheVariants.{OutOfMemory, Store, CommitUnknown}
use Rattle.lsm_store.specs.World.{World, Row, Only, OldOr, Same, LeavesOnly}
use Rattle.lsm_store.specs.Synced.{Leaves}
use Rattle.lsm_model.specs.Ops.{op_entries}
use Rattle.lsm_model.specs.declared.op.Op.{Op}
use Rattle.lsm_log.specs.LogNames.{record_name}
use Rattle.lsm_log.specs.Records.{IsRecordOf}
use Rattle.lsm_commit.specs.Foreign.{Spares}
use Rattle.lsm_log.specs.Changes.{IsPut}
use Rattle.lsm_state.specs.Core.{Core, written_all, drawn_core}
use Rattle.lsm_state.specs.Calls.{IsWriteRun}
use Rattle.lsm_state.specs.Commits.{counted}
use Rattle.lsm_state.specs.Refusals.{batch_refusal}

-- ---- the store

-- a record was put: of its name a crash leaves what the row says, and of each other name what it could before
pub record HasPut (number : ℕ) (bytes : Bytes) (row : Row) (old new : World) : Type 0 where
  pub leaves : Leaves (record_name number) row old new
  pub any_moment : LeavesOnly old new (IsPut number bytes old)

-- by what is answered: after Ok the record is there alone; where the outcome is unknown, what its name could have before, or the
-- record; refused otherwise, nothing is done
pub record Records {T : Type 0} (number : ℕ) (bytes : Bytes) (old new : World) (r : Result T Error) : Type 0 where
  pub ok : OnOk r (HasPut number bytes (Only (Some bytes)) old new)
  pub unknown : IsErrOf r CommitUnknown → HasPut number bytes (OldOr (old.may (record_name number)) (Some bytes)) old new
  pub memory : IsErrOf r OutOfMemory → Same old new
  pub nothing : IsErrOf r Store → Same old new
  -- what is stored of a tree stays so
  pub spares : Spares old new

-- the same of the record of a batch
pub record RecordsBatch (number : ℕ) (ops : List (Bytes × Op)) (old new : World) (r : Result ℕ Error) : Type 0 where
  pub ok : OnOk r ((bytes : Bytes) × IsRecordOf number ops bytes × HasPut number bytes (Only (Some bytes)) old new)
  pub unknown : IsErrOf r CommitUnknown → (bytes : Bytes) × IsRecordOf number ops bytes × HasPut number bytes (OldOr (old.may (record_name number)) (Some bytes)) old new
  pub refused : OnErr r (IsErrOf r CommitUnknown ⊎ Same old new)

-- ---- the tree

-- a batch, whose record is put first, is written under the next sequence number, all of it or none
pub record WritesBehindRecord (ops : List (Bytes × Op)) (r : Result ℕ Error) (old new : Core) : Type 0 where
  pub number : IfOk r (λ n. n ≡ old.seqno)
  pub core : OnOk r (new ≡ drawn_core (written_all (op_entries old.seqno ops) old))
  pub run : OnOk r (IsWriteRun (op_entries old.seqno ops) old new)
  -- where the record's outcome is unknown, the number is used, and the tree has nothing of the batch
  pub unknown : IsErrOf r CommitUnknown → new ≡ counted old
  pub refused : OnErr r (IsErrOf r CommitUnknown ⊎ (new ≡ old))
  -- no reason holds then to refuse the batch
  pub accepted : OnOk r (batch_refusal old.seqno ops ≡ None)
  pub doubted : IsErrOf r CommitUnknown → batch_refusal old.seqno ops ≡ None
  -- where a reason holds the first one is told, unless memory is missing; where none holds, memory may be, or the store failed
  pub told : IfSome (batch_refusal old.seqno ops) (λ x. (r ≡ Err x) ⊎ (r ≡ Err OutOfMemory))
  pub memory : batch_refusal old.seqno ops ≡ None → IfErr r (λ x. (x ≡ OutOfMemory) ⊎ (x ≡ Store) ⊎ (x ≡ CommitUnknown))

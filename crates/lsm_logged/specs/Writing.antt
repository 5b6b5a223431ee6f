-- What a write of a logged tree is: to its tree and its store, and to the theory.
use Rattle.std.specs.Prelude.{◌≡◌, ◌⊎◌, ℕ, ◌+◌, Bool, true, false, List, [], ◌∷◌, ◌++◌, map, Result, Ok, Err, IfOk, OnOk, OnErr, IsErrOf}
use Rattle.lsm_below.specs.Keys.{Bytes}
use Rattle.lsm_below.specs.Entries.{Entry}
use Rattle.lsm_below.specs.declared.error.Error.{Error}
use Rattle.lsm_below.specs.declared.error.Error.TheVariants.{CommitUnknown, Unrecoverable}
use Rattle.lsm_store.specs.World.{World, LeavesOnly, Same}
use Rattle.lsm_model.specs.Journal.{Event, InOrder}
use Rattle.lsm_model.specs.Beginnings.{Note}
use Rattle.lsm_model.specs.Ops.{op_entries}
use Rattle.lsm_model.specs.declared.op.Op.{Op}
use Rattle.lsm_model.specs.declared.journal.JournalEntry.TheVariants.{Write}
use Rattle.lsm_log_model.specs.Records.{Batch}
use Rattle.lsm_log_model.specs.Logs.{Logged as Log, MayBeDrawn, Act, Batched, BatchLost, Acts}
use Rattle.lsm_commit.specs.Stored.{IsStored}
use Rattle.lsm_state.specs.Core.{Core, versions_left, written_of}
use Rattle.lsm_state.specs.Recording.{WritesBehindRecord}
use Rattle.lsm_logged.specs.Keeping.{SeenLogged, is_unsure, IsLogOf, KeepsLog, IsLogIn}
use Rattle.lsm_logged.specs.Acting.{HoldsLog, LeadsBy}

-- ---- the call

-- is a record's outcome unknown after this answer?
abbrev pub leaves_doubt : Result ℕ Error → Bool
leaves_doubt (Ok n) = false
leaves_doubt (Err CommitUnknown) = true
leaves_doubt (Err e) = false

-- may there be a record more?
abbrev pub with_number : Result ℕ Error → ℕ → List ℕ → List ℕ
with_number (Ok n) next numbers = numbers ++ next ∷ []
with_number (Err CommitUnknown) next numbers = numbers ++ next ∷ []
with_number (Err e) next numbers = numbers

-- a batch is written after its record
pub record WritesLogged {S : Type 0} (ops : List (Bytes × Op)) (r : Result ℕ Error) (old new : SeenLogged S) : Type 0 where
  -- where an outcome is unknown, and only there, it is `Unrecoverable`, and nothing is done
  pub unsure : is_unsure old ≡ true → (r ≡ Err Unrecoverable) × (new ≡ old)
  pub tree : is_unsure old ≡ false → WritesBehindRecord ops r old.core new.core
  pub doubt : is_unsure old ≡ false → new.doubted ≡ leaves_doubt r
  pub numbers : is_unsure old ≡ false → new.numbers ≡ with_number r old.core.seqno old.numbers

-- ---- as the theory sees it

-- an act of this tree leads to a logged tree that is the next one, and whose records are in the store; since then a crash leaves what
-- was there before, or what is there now, and beside either one of the tree's versions
pub record Leads (opened : List Entry) (journal : List Event) (notes : List Note) (old : Log) (act : Act) (before core : Core) (doubted : Bool) (w w' : World) : Type 0 where
  pub log : Log
  pub acts : Acts opened old act log
  pub is : IsLogOf journal notes core doubted log
  pub keeps : KeepsLog w' log
  pub moments : LeavesOnly w w' (λ image. IsLogIn old image ⊎ IsLogIn log image)
  pub versions : IsStored w (versions_left before) (written_of before) → LeavesOnly w w' (λ image. HoldsLog before old image ⊎ HoldsLog core log image)

-- a batch: the next sequence number, and these operations
abbrev pub batch_of : ℕ → List (Bytes × Op) → Batch
batch_of n ops = record { number = n; ops = ops }

-- Ok: the batch is an act. Of unknown outcome: so is the doubt, where the batch would be in order. Refused otherwise: nothing is
-- done, at no moment
pub record ActsByWrite {S : Type 0} (opened : List Entry) (journal : List Event) (notes : List Note) (ops : List (Bytes × Op)) (r : Result ℕ Error) (w w' : World) (old new : SeenLogged S) (t : Log) : Type 0 where
  pub ok : OnOk r (Leads opened (journal ++ map Write (op_entries old.core.seqno ops)) notes t (Batched (batch_of old.core.seqno ops)) old.core new.core new.doubted w w')
  pub unknown : IsErrOf r CommitUnknown → InOrder opened (journal ++ map Write (op_entries old.core.seqno ops)) → Leads opened journal notes t (BatchLost (batch_of old.core.seqno ops)) old.core new.core new.doubted w w'
  pub refused : OnErr r (IsErrOf r CommitUnknown ⊎ ((new.core ≡ old.core) × (new.doubted ≡ old.doubted) × Same w w'))
  pub still : OnErr r (IsErrOf r CommitUnknown ⊎ LeadsBy opened journal notes t [] w w' old new)
  -- the number is used
  pub number : IfOk r (λ n. n ≡ old.core.seqno)
  pub drawn : OnOk r (new.core.seqno ≡ old.core.seqno + 1)
  pub used : IsErrOf r CommitUnknown → new.core.seqno ≡ old.core.seqno + 1

-- whatever logged tree of the theory it is, whose records are in the store
abbrev pub WritesAct : {S : Type 0} → List (Bytes × Op) → Result ℕ Error → World → World → SeenLogged S → SeenLogged S → Type 0
WritesAct ops r w w' old new = (opened : List Entry) (journal : List Event) (notes : List Note) (t : Log) → IsLogOf journal notes old.core old.doubted t → KeepsLog w t → MayBeDrawn opened t old.core.seqno → ActsByWrite opened journal notes ops r w w' old new t

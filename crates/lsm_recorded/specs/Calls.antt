-- What each write and each read of a tree with its journal does, as one fact.
use Rattle.std.specs.Prelude.{◌≡◌, ℕ, ◌≤◌, ◌↔◌, true, false, List, [], ◌∷◌, map, Option, Result, IfOk, IfErr, OnOk, OnErr, IsErrOf}
use Rattle.std.specs.FinMap.{get}
use Rattle.lsm_below.specs.Keys.{Bytes}
use Rattle.lsm_below.specs.Entries.{Entry, above}
use Rattle.lsm_below.specs.declared.error.Error.{Error}
use Rattle.lsm_below.specs.declared.error.Error.TheVariants.{OutOfMemory, OutOfOrder}
use Rattle.lsm_model.specs.Beginnings.{shown_by}
use Rattle.lsm_model.specs.Journal.{is_outside, replay, IsKept, ReadAgrees}
use Rattle.lsm_model.specs.Ops.{op_entries}
use Rattle.lsm_model.specs.Views.{held}
use Rattle.lsm_model.specs.declared.journal.JournalEntry.{JournalEntry}
use Rattle.lsm_model.specs.declared.journal.JournalEntry.TheVariants.{Write, Read}
use Rattle.lsm_model.specs.declared.op.Op.{Op}
use Rattle.lsm_model.specs.declared.question.Question.{Question}
use Rattle.lsm_model.specs.declared.question.Question.TheVariants.{Get}
use Rattle.lsm_model.specs.declared.question.Answer.TheVariants.{Found, Pairs}
use Rattle.lsm_state.specs.Core.{Core}
use Rattle.lsm_iter.specs.Guards.{pair_of}
use Rattle.lsm_state.specs.Calls.{Appends, Gives, WritesBatch}
use Rattle.lsm_state.specs.Ranges.{IsListStep}
use Rattle.lsm_recorded.specs.Order.{keeps_order, batch_keeps_order}
use Rattle.lsm_recorded.specs.Passes.{Notes}
use Rattle.lsm_recorded.specs.Recorded.{SeenRecorded, OwnOr, StaysTo, RefusesRecorded}

-- an entry is written and noted, or refused as out of order, exactly where it breaks the order, or as the tree refuses it
pub record NotesWrite {S : Type 0} (e : Entry) (r : Result (ℕ × ℕ) Error) (old new : SeenRecorded S) (pass pass' : List (ℕ × JournalEntry)) : Type 0 where
  pub out_of_order : IsErrOf r OutOfOrder ↔ (keeps_order (held old.opened) old.journal old.tree.core.seqno e ≡ false)
  pub core : OwnOr r (Appends e r old.tree.core new.tree.core)
  pub noted : OnOk r (Notes (Write e ∷ []) old.journal new.journal pass pass')
  -- snapshots up to its number see what they saw
  pub views : OnOk r (StaysTo e.key.seqno old.tree.core new.tree.core)
  pub store : new.tree.store ≡ old.tree.store
  pub opened : new.opened ≡ old.opened
  pub err : OnErr r ((new ≡ old) × (pass' ≡ pass))

-- the same of a batch, under the next number
pub record NotesBatch {S : Type 0} (ops : List (Bytes × Op)) (r : Result ℕ Error) (old new : SeenRecorded S) (pass pass' : List (ℕ × JournalEntry)) : Type 0 where
  pub out_of_order : IsErrOf r OutOfOrder ↔ (batch_keeps_order (held old.opened) old.journal old.tree.core.seqno ops ≡ false)
  pub core : OwnOr r (WritesBatch ops r old.tree.core new.tree.core)
  pub noted : OnOk r (Notes (map Write (op_entries old.tree.core.seqno ops)) old.journal new.journal pass pass')
  pub views : OnOk r (StaysTo old.tree.core.seqno old.tree.core new.tree.core)
  pub store : new.tree.store ≡ old.tree.store
  pub opened : new.opened ≡ old.opened
  pub err : OnErr r ((new ≡ old) × (pass' ≡ pass))

-- a call of the tree alone, which is noted nowhere
pub record NotesNothing {S : Type 0} (does : Core → Core → Type 0) (old new : SeenRecorded S) (pass pass' : List (ℕ × JournalEntry)) : Type 0 where
  pub call : does old.tree.core new.tree.core
  pub store : new.tree.store ≡ old.tree.store
  pub journal : new.journal ≡ old.journal
  pub opened : new.opened ≡ old.opened
  pub passed : pass' ≡ pass

-- a get is answered as the tree answers it, which is what the replay of the journal has, outside dropped ranges, and noted with its
-- answer; the tree stays, and a kept snapshot fails only for memory
pub record NotesGet {S : Type 0} (key : Bytes) (s : ℕ) (r : Result (Option Bytes) Error) (old new : SeenRecorded S) (pass pass' : List (ℕ × JournalEntry)) : Type 0 where
  pub core : IfOk r (λ v. Gives old.tree.core key s v)
  pub replay : IfOk r (λ v. is_outside key s old.journal ≡ true → v ≡ get (replay (shown_by old.opened) old.journal s) key)
  pub noted : IfOk r (λ v. Notes (Read s (Get key) (Found v) ∷ []) old.journal new.journal pass pass')
  pub tree : new.tree ≡ old.tree
  pub opened : new.opened ≡ old.opened
  pub err : OnErr r ((new ≡ old) × (pass' ≡ pass))
  pub refuses : RefusesRecorded (above (held old.opened)) old.tree.core s r
  pub kept : above (held old.opened) ≤ s → IsKept s old.journal → IfErr r (λ e. e ≡ OutOfMemory)

-- the same of a question that pairs answer
pub record NotesPairs {S : Type 0} (question : Question) (answers : Core → List (Bytes × Bytes) → Type 0) (s : ℕ) (r : Result (List (Bytes × Bytes)) Error) (old new : SeenRecorded S) (pass pass' : List (ℕ × JournalEntry)) : Type 0 where
  pub core : IfOk r (λ pairs. answers old.tree.core pairs)
  pub replay : IfOk r (λ pairs. ReadAgrees (shown_by old.opened) old.journal (Read s question (Pairs pairs)))
  pub noted : IfOk r (λ pairs. Notes (Read s question (Pairs pairs) ∷ []) old.journal new.journal pass pass')
  pub tree : new.tree ≡ old.tree
  pub opened : new.opened ≡ old.opened
  pub err : OnErr r ((new ≡ old) × (pass' ≡ pass))
  pub refuses : RefusesRecorded (above (held old.opened)) old.tree.core s r
  pub kept : above (held old.opened) ≤ s → IsKept s old.journal → IfErr r (λ e. e ≡ OutOfMemory)

-- an iterator is made, or pairs are lent, of which these entries are left: as the tree lists them, which is what the replay of the
-- journal has, outside dropped ranges; nothing is noted, and a kept snapshot fails only for memory
pub record ReadsPairs {S A : Type 0} (question : Question) (left : A → List Entry) (lists : Core → List Entry → Type 0) (s : ℕ) (r : Result A Error) (t : SeenRecorded S) : Type 0 where
  pub core : IfOk r (λ a. lists t.tree.core (left a))
  pub step : IfOk r (λ a. IsListStep t.tree.core question s (map pair_of (left a)))
  pub replay : IfOk r (λ a. ReadAgrees (shown_by t.opened) t.journal (Read s question (Pairs (map pair_of (left a)))))
  pub not_below : IfOk r (λ _. above (held t.opened) ≤ s)
  pub refuses : RefusesRecorded (above (held t.opened)) t.tree.core s r
  pub kept : above (held t.opened) ≤ s → IsKept s t.journal → IfErr r (λ e. e ≡ OutOfMemory)

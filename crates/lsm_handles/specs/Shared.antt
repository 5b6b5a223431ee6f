-- Calls of a tree behind a lock: what it was before is not known, nor what it is later.
use Rattle.std.specs.Prelude.{◌≡◌, ℕ, List, true, false, Option, Result, IfOk, IfSome}
use Rattle.lsm_below.specs.Keys.{Bytes}
use Rattle.lsm_model.specs.declared.op.Op.{Op}
use Rattle.lsm_commit.specs.Stored.{CountsFaults}
use Rattle.lsm_below.specs.declared.error.Error.{Error}
use Rattle.lsm_flush.specs.declared.jobs.Registered.{Registered}
use Rattle.lsm_store.specs.World.{World}
use Rattle.lsm_state.specs.Core.{Core, Seen}
use Rattle.lsm_state.specs.Kept.{IsKeptTree}
use Rattle.lsm_state.specs.Commits.{UpholdsFiles}
use Rattle.lsm_state.specs.Recording.{RecordsBatch}
use Rattle.lsm_logged.specs.Keeping.{SeenLogged, IsKeptLogged, is_unsure, tree_of, AreKnown}
use Rattle.lsm_logged.specs.Writing.{WritesLogged}
use Rattle.lsm_logged.specs.Removing.{log_from_of, AreGone, KeepsKnown, Passed}
use Rattle.lsm_logged.specs.Flushing.{RemovesBehind}
use Rattle.lsm_recorded.specs.Recorded.{SeenRecorded, IsKeptRecorded}
use Rattle.lsm_state.specs.Files.{KeepsFiles}

-- what a call does to the files of a tree, by what tells of them
abbrev pub OnFiles : Type 0 → Type 1
OnFiles S = Type 0 → (S → World) → Seen S → Seen S → Type 0

-- a call that took some tree to another, and did this to its files; of both holds what holds of every tree
abbrev pub OnSomeTreeFiles : {S : Type 0} → Type 0 → (S → World) → OnFiles S → (Core → Core → Type 0) → Type 0
OnSomeTreeFiles {S} tells world Files P = (old : Seen S) × (new : Seen S) × P old.core new.core × KeepsFiles tells world old new × Files tells world old new × IsKeptTree old.core × IsKeptTree new.core

-- a call that took some tree to another, and left its store alone
abbrev pub OnSomeTreeAlone : (S : Type 0) → (Core → Core → Type 0) → Type 0
OnSomeTreeAlone S P = (old : Seen S) × (new : Seen S) × P old.core new.core × (new.store ≡ old.store) × IsKeptTree old.core × IsKeptTree new.core

-- a call that looked at some tree, of which holds what holds of every tree
abbrev pub AtSomeTree : (Core → Type 0) → Type 0
AtSomeTree P = (c : Core) × P c × IsKeptTree c

-- a call that took some tree with its journal to another; of both holds what holds of every one
abbrev pub OnSomeRecorded : (S : Type 0) → (SeenRecorded S → SeenRecorded S → Type 0) → Type 0
OnSomeRecorded S P = (old : SeenRecorded S) × (new : SeenRecorded S) × P old new × IsKeptRecorded old × IsKeptRecorded new

-- and did this to its files
abbrev pub OnSomeRecordedFiles : {S : Type 0} → Type 0 → (S → World) → OnFiles S → (SeenRecorded S → SeenRecorded S → Type 0) → Type 0
OnSomeRecordedFiles {S} tells world Files P = OnSomeRecorded S (λ old new. P old new × KeepsFiles tells world old.tree new.tree × Files tells world old.tree new.tree)

-- a call that looked at some tree with its journal, of which this holds
abbrev pub AtSomeRecorded : (S : Type 0) → (SeenRecorded S → Type 0) → Type 0
AtSomeRecorded S P = (t : SeenRecorded S) × P t × IsKeptRecorded t

-- a call that took some tree with a log above it to another; of both holds what holds of every one
abbrev pub OnSomeLogged : (S : Type 0) → (SeenLogged S → SeenLogged S → Type 0) → Type 0
OnSomeLogged S P = (old : SeenLogged S) × (new : SeenLogged S) × P old new × IsKeptLogged old × IsKeptLogged new

-- and did this to its files
abbrev pub OnSomeLoggedFiles : {S : Type 0} → Type 0 → (S → World) → OnFiles S → (SeenLogged S → SeenLogged S → Type 0) → Type 0
OnSomeLoggedFiles {S} tells world Files P = OnSomeLogged S (λ old new. P old new × KeepsFiles tells world (tree_of old) (tree_of new) × Files tells world (tree_of old) (tree_of new))

-- a call that looked at some tree with a log above it, of which this holds
abbrev pub AtSomeLogged : (S : Type 0) → (SeenLogged S → Type 0) → Type 0
AtSomeLogged S P = (t : SeenLogged S) × P t × IsKeptLogged t

-- it is a call of the tree below the log; the log stays, and so does the store
pub record TouchesTreeAlone {S : Type 0} (P : Core → Core → Type 0) (old new : SeenLogged S) : Type 0 where
  pub call : P old.core new.core
  pub store : new.store ≡ old.store
  pub numbers : new.numbers ≡ old.numbers
  pub doubt : new.doubted ≡ old.doubted

-- a batch is written, and its record put first, where no outcome is unknown; each record that is there stays known, a crash leaves a
-- version that the tree had or has, and a call of the store failed just where the answer says so
pub record WritesRecorded {S : Type 0} (tells : Type 0) (world : S → World) (ops : List (Bytes × Op)) (r : Result ℕ Error) (old new : SeenLogged S) : Type 0 where
  pub writes : WritesLogged ops r old new
  pub records : tells → is_unsure old ≡ false → RecordsBatch old.core.seqno ops (world old.store) (world new.store) r
  pub known : tells → AreKnown (world old.store) old.numbers → AreKnown (world new.store) new.numbers
  pub upholds : tells → UpholdsFiles (world old.store) (world new.store) old.core new.core
  pub counts : CountsFaults (world old.store) (world new.store) r

-- this holds where a flush was answered, and its clean-up came to its end; the same after a rotation, and where its job was registered
abbrev pub OnceFlushed : Result (Option (ℕ × Registered)) Error → Type 0 → Type 0
OnceFlushed r Q = IfOk r (λ a. IfSome a (λ p. p.1.cleaned ≡ true → Q))

abbrev pub OnceFlushedActive : Result (Option ℕ × Option (ℕ × Registered)) (Error × Option ℕ) → Type 0 → Type 0
OnceFlushedActive r Q = IfOk r (λ a. IfSome a.1 (λ p. p.1.cleaned ≡ true → Q))

abbrev pub OnceRegistered : Result Registered Error → Type 0 → Type 0
OnceRegistered r Q = IfOk r (λ a. a.installed ≡ true → a.cleaned ≡ true → Q)

-- what a flush or a clear leaves of the log: a crash leaves a version that the tree had or has; only records that the version has
-- passed go, none before that version is on the disk, all of them once it is cleaned up, and each that is left is known
pub record LeavesLog {S : Type 0} (tells : Type 0) (world : S → World) (Once : Type 0 → Type 0) (old new : SeenLogged S) : Type 0 where
  pub upholds : tells → UpholdsFiles (world old.store) (world new.store) old.core new.core
  pub passes : tells → Passed (log_from_of new.core) (world old.store) (world new.store)
  pub behind : tells → RemovesBehind (world old.store) (world new.store) old.core new.core
  pub known : tells → KeepsKnown (world old.store) (world new.store) old.numbers new.numbers
  pub gone : tells → Once (AreGone (world new.store) (log_from_of new.core) old.numbers)

-- a call that may remove records, and did this to its files
abbrev pub OnSomeLoggedRemoving : {S : Type 0} → Type 0 → (S → World) → (Type 0 → Type 0) → OnFiles S → (SeenLogged S → SeenLogged S → Type 0) → Type 0
OnSomeLoggedRemoving {S} tells world Once Files P = OnSomeLogged S (λ old new. P old new × LeavesLog tells world Once old new × Files tells world (tree_of old) (tree_of new))

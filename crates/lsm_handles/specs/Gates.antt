-- A compaction whose merge a gate does while no lock is held: what it begins on and what it ends on are two trees.
use Rattle.std.specs.Prelude.{◌≡◌, ◌⊎◌, ℕ, List, Result, Ok, Err}
use Rattle.lsm_below.specs.declared.error.Error.{Error}
use Rattle.lsm_below.specs.declared.error.Error.TheVariants.{OutOfMemory}
use Rattle.lsm_model.specs.declared.journal.JournalEntry.{JournalEntry}
use Rattle.lsm_store.specs.World.{World}
use Rattle.lsm_compaction.specs.Merges.{SeenCompaction}
use Rattle.lsm_pick.specs.declared.choice.Choice.{Choice}
use Rattle.lsm_pick.specs.declared.choice.ChooseError.{ChooseError}
use Rattle.lsm_state.specs.declared.compaction.Begun.{Begun}
use Rattle.lsm_state.specs.declared.compaction.Begun.TheVariants.{Job}
use Rattle.lsm_state.specs.declared.compaction.Finished.{Finished}
use Rattle.lsm_state.specs.Compactions.{Relation, BeginsCompaction, Finishes, Spends}
use Rattle.lsm_state.specs.WholeCompactions.{options_at, told_end}
use Rattle.lsm_recorded.specs.Flushing.{SpendsUnnoted}
use Rattle.lsm_recorded.specs.Compacting.{BeginsRecorded, FinishesRecorded}
use Rattle.lsm_logged.specs.Asking.{Asks, FinishesLogged}
use Rattle.lsm_state.specs.Files.{BeginsFiles, FinishesFiles}
use Rattle.lsm_handles.specs.Shared.{OnSomeTreeFiles, OnSomeTreeAlone, OnSomeRecordedFiles, OnSomeLogged, OnSomeLoggedFiles, TouchesTreeAlone}

-- ---- a tree

-- a merge that a gate did is finished, and one that it gave back for want of memory is spent
abbrev pub EndsGated : {S : Type 0} → Type 0 → (S → World) → SeenCompaction → Result Begun Error → Type 0
EndsGated {S} tells world job r =
    ((r ≡ Err OutOfMemory) × OnSomeTreeAlone S (λ old new. Spends job old new))
    ⊎ ((end : Result Finished Error) × (r ≡ told_end end) × OnSomeTreeFiles tells world (FinishesFiles end) (λ old new. Finishes job end old new))

-- what follows of how a compaction began: the end of a merge, and of all else nothing
abbrev pub FollowsGated : {S : Type 0} → Type 0 → (S → World) → Result Begun Error → Result Begun Error → Type 0
FollowsGated tells world (Ok (Job job)) r = EndsGated tells world job r
FollowsGated tells world begun r = r ≡ begun

-- a compaction at a watermark and at the moment of the tree that it begins on
pub record CompactsGated {S : Type 0} (tells : Type 0) (world : S → World) (may_choose : Relation Choice) (may_refuse : Relation ChooseError) (w : ℕ) (r : Result Begun Error) : Type 0 where
  pub begun : Result Begun Error
  pub begins : OnSomeTreeFiles tells world (BeginsFiles begun) (λ old new. BeginsCompaction may_choose may_refuse (options_at w old) begun old new)
  pub follows : FollowsGated tells world begun r

-- ---- a tree with its journal

-- the same, with what it puts into the pass
abbrev pub EndsGatedRecorded : {S : Type 0} → Type 0 → (S → World) → SeenCompaction → Result Begun Error → List (ℕ × JournalEntry) → List (ℕ × JournalEntry) → Type 0
EndsGatedRecorded {S} tells world job r pass pass' =
    ((r ≡ Err OutOfMemory) × (pass' ≡ pass) × OnSomeTreeAlone S (λ old new. Spends job old new))
    ⊎ ((end : Result Finished Error) × (r ≡ told_end end) × OnSomeRecordedFiles tells world (FinishesFiles end) (λ old new. SpendsUnnoted (Spends job) end old new pass pass' ⊎ FinishesRecorded job end old new pass pass'))

abbrev pub FollowsGatedRecorded : {S : Type 0} → Type 0 → (S → World) → Result Begun Error → Result Begun Error → List (ℕ × JournalEntry) → List (ℕ × JournalEntry) → Type 0
FollowsGatedRecorded tells world (Ok (Job job)) r pass pass' = EndsGatedRecorded tells world job r pass pass'
FollowsGatedRecorded tells world begun r pass pass' = (r ≡ begun) × (pass' ≡ pass)

pub record CompactsGatedRecorded {S : Type 0} (tells : Type 0) (world : S → World) (may_choose : Relation Choice) (may_refuse : Relation ChooseError) (w : ℕ) (r : Result Begun Error) (pass pass' : List (ℕ × JournalEntry)) : Type 0 where
  pub begun : Result Begun Error
  -- the pass as the beginning leaves it
  pub mid : List (ℕ × JournalEntry)
  pub begins : OnSomeRecordedFiles tells world (BeginsFiles begun) (λ old new. BeginsRecorded may_choose may_refuse (options_at w old.tree.core) begun old new pass mid)
  pub follows : FollowsGatedRecorded tells world begun r mid pass'

-- ---- a tree with a log above it

-- the same; where a record has unknown outcome, the merge that was done is refused
abbrev pub EndsGatedLogged : {S : Type 0} → Type 0 → (S → World) → SeenCompaction → Result Begun Error → Type 0
EndsGatedLogged {S} tells world job r =
    ((r ≡ Err OutOfMemory) × OnSomeLogged S (TouchesTreeAlone (λ old new. Spends job old new)))
    ⊎ ((end : Result Finished Error) × (r ≡ told_end end) × OnSomeLoggedFiles tells world (FinishesFiles end) (λ old new. FinishesLogged job end old new))

abbrev pub FollowsGatedLogged : {S : Type 0} → Type 0 → (S → World) → Result Begun Error → Result Begun Error → Type 0
FollowsGatedLogged tells world (Ok (Job job)) r = EndsGatedLogged tells world job r
FollowsGatedLogged tells world begun r = r ≡ begun

pub record CompactsGatedLogged {S : Type 0} (tells : Type 0) (world : S → World) (may_choose : Relation Choice) (may_refuse : Relation ChooseError) (w : ℕ) (r : Result Begun Error) : Type 0 where
  pub begun : Result Begun Error
  pub begins : OnSomeLoggedFiles tells world (BeginsFiles begun) (λ old new. Asks begun old new (BeginsCompaction may_choose may_refuse (options_at w old.core) begun old.core new.core))
  pub follows : FollowsGatedLogged tells world begun r

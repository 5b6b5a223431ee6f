-- Calls of a logged tree that ask first whether a record has unknown outcome.
use Rattle.std.specs.Prelude.{◌≡◌, true, false, Result, Err}
use Rattle.lsm_below.specs.declared.error.Error.{Error}
use Rattle.lsm_below.specs.declared.error.Error.TheVariants.{Unrecoverable}
use Rattle.lsm_compaction.specs.Merges.{SeenCompaction}
use Rattle.lsm_state.specs.declared.compaction.Finished.{Finished}
use Rattle.lsm_state.specs.Compactions.{Finishes, Spends}
use Rattle.lsm_logged.specs.Keeping.{SeenLogged}

-- where a record has unknown outcome it is `Unrecoverable`, and nothing is done; else it is the tree's call, and the log stays
pub record Asks {S T : Type 0} (r : Result T Error) (old new : SeenLogged S) (Call : Type 0) : Type 0 where
  pub doubted : old.doubted ≡ true → (r ≡ Err Unrecoverable) × (new ≡ old)
  pub call : old.doubted ≡ false → Call
  pub numbers : new.numbers ≡ old.numbers
  pub doubt : new.doubted ≡ old.doubted

-- ending a merge: the job is spent whatever is answered
pub record FinishesLogged {S : Type 0} (job : SeenCompaction) (r : Result Finished Error) (old new : SeenLogged S) : Type 0 where
  pub doubted : old.doubted ≡ true → (r ≡ Err Unrecoverable) × Spends job old.core new.core
  pub finishes : old.doubted ≡ false → Finishes job r old.core new.core
  pub numbers : new.numbers ≡ old.numbers
  pub doubt : new.doubted ≡ old.doubted

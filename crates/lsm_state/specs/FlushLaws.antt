-- Flushes are deeds of the theory of crashes.
use Rattle.std.specs.Prelude.{◌≡◌, ℕ, Bool, None, Err}
use Rattle.lsm_below.specs.declared.error.Error.{Error}
use Rattle.lsm_below.specs.declared.error.Error.TheVariants.{CommitUnknown}
use Rattle.lsm_flush.specs.Jobs.{SeenWritten, IsWrittenFrom}
use Rattle.lsm_state.specs.Core.{Core}
use Rattle.lsm_state.specs.Kept.{IsKeptTree}
use Rattle.lsm_state.specs.Deeds.{IsNoDeed, IsMarkDeed}
use Rattle.lsm_state.specs.WholeFlushes.{Flushes}
use Rattle.lsm_state.specs.Flushes.{IsCurrent, Installs, Doubts, spent, IsFlushDeed, IsLostFlush}

-- of a tree as every tree is, and of a job whose tables hold what is kept of it
pub record FlushesAreDeeds : Type 0 where
  -- an installed flush is the mark, the flush and the maintenance
  pub installed : (job : SeenWritten) (whole : Bool) (old new : Core) → IsKeptTree old → old.lost ≡ None → IsWrittenFrom job.job job.watermark job.tables → IsCurrent job old → Installs job whole (spent job.job.number old) new → IsFlushDeed job old new
  -- one of unknown outcome is the mark and a lost flush
  pub lost : (job : SeenWritten) (old new : Core) → IsKeptTree old → old.lost ≡ None → IsWrittenFrom job.job job.watermark job.tables → IsCurrent job old → Doubts job (spent job.job.number old) new → IsLostFlush job old new
  -- a flush that is refused, and not of unknown outcome, is nothing, or the mark alone
  pub refused : (w : ℕ) (e : Error) (old new : Core) → IsKeptTree old → Flushes w (Err e) old new → (e ≡ CommitUnknown → ⊥) → IsNoDeed old new × IsMarkDeed w old new
  -- a job that is spent, and nothing else, is the mark alone
  pub spends : (w n : ℕ) (old : Core) → IsKeptTree old → IsMarkDeed w old (spent n old)

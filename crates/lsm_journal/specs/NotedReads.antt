-- What compactions leave of reads, beside what they tell.
use Rattle.std.specs.Prelude.{◌≡◌, ℕ, List, [], ◌∷◌, ◌++◌, Result, Ok}
use Rattle.lsm_below.specs.declared.error.Error.{Error}
use Rattle.lsm_model.specs.Journal.{Event}
use Rattle.lsm_model.specs.declared.journal.JournalEntry.TheVariants.{Mark}
use Rattle.lsm_compaction.specs.Merges.{SeenCompaction}
use Rattle.lsm_compaction.specs.OpenMerges.{IsOpenIn}
use Rattle.lsm_pick.specs.declared.choice.Choice.{Choice}
use Rattle.lsm_state.specs.declared.compaction.Options.{Options}
use Rattle.lsm_state.specs.declared.compaction.Begun.{Begun}
use Rattle.lsm_state.specs.declared.compaction.Begun.TheVariants.{Job}
use Rattle.lsm_state.specs.declared.compaction.Finished.{Finished}
use Rattle.lsm_state.specs.Core.{Core}
use Rattle.lsm_state.specs.CompactionDeeds.{IsMarkedIn}
use Rattle.lsm_state.specs.Deeds.{IsNoDeed}
use Rattle.lsm_state.specs.CompactionReads.{SparesReads, IsAny, AreSparedBy, IsAnySnapshot}
use Rattle.lsm_journal.specs.Noted.{BeginsAnswer, EndsNoted, CompactsAnswer}

-- where a job is open, its watermark is marked
abbrev pub IsMarkedFor : SeenCompaction → Core → List Event → Type 0
IsMarkedFor job c journal = IsOpenIn job c.merges.underway → IsMarkedIn job.settings.watermark journal

-- after what it tells each of these calls leaves reads right, and what snapshots see that its events spare; the end of a merge
-- where the watermark was marked when it began
pub record NotedCompactionsKeepReads : Type 0 where
  pub begins : (answer : Result Choice Error) (o : Options) (r : Result Begun Error) (events : List Event) (old new : Core) → BeginsAnswer answer o r events old new → SparesReads IsAny events (AreSparedBy events) old new
  pub compacts : (answer : Result Choice Error) (o : Options) (r : Result Begun Error) (events : List Event) (old new : Core) → CompactsAnswer answer o r events old new → SparesReads IsAny events (AreSparedBy events) old new
  pub ends : (job : SeenCompaction) (r : Result Finished Error) (events : List Event) (old new : Core) → EndsNoted job r events old new → SparesReads (IsMarkedFor job old) events IsAnySnapshot old new
  pub silent : (old new : Core) → IsNoDeed old new → SparesReads IsAny [] IsAnySnapshot old new
  -- a merge that becomes a job marks its watermark
  pub marks : (answer : Result Choice Error) (o : Options) (job : SeenCompaction) (events : List Event) (old new : Core) → BeginsAnswer answer o (Ok (Job job)) events old new → (job.settings.watermark ≡ o.mvcc_gc_watermark) × (events ≡ Mark o.mvcc_gc_watermark ∷ [])
  -- what is marked stays so as the journal grows
  pub marked : (w : ℕ) (journal more : List Event) → IsMarkedIn w (journal ++ Mark w ∷ more)
  pub lasts : (w : ℕ) (journal more : List Event) → IsMarkedIn w journal → IsMarkedIn w (journal ++ more)

-- What a call leaves of reads, where it is told after a journal.
use Rattle.std.proofs.Common.{◌≡◌, ℕ, List, ◌++◌, refl, sym, ap, ◌∙◌, subst}
use Rattle.lsm_below.specs.Entries.{Entry}
use Rattle.lsm_model.specs.Journal.{Event, Map, InOrder}
use Rattle.lsm_model.specs.Sound.{Holds}
use Rattle.lsm_model.specs.Soundness.{Soundness}
use Rattle.lsm_compaction.specs.Merges.{SeenCompaction}
use Rattle.lsm_state.specs.Clearing.{ClearsKeepReads}
use Rattle.lsm_state.specs.Core.{Core, state_of}
use Rattle.lsm_state.specs.CompactionDeeds.{IsMarkedIn}
use Rattle.lsm_state.specs.CompactionReads.{SparesReads, IsAny, AreSparedBy, IsAnySnapshot}
use Rattle.lsm_state.specs.FlushReads.{KeepsReads, FlushesKeepReads}
use Rattle.lsm_journal.specs.NotedReads.{IsMarkedFor, NotedCompactionsKeepReads}
use Rattle.lsm_runs.specs.Runs.{without_low_reads, Spares}
use Rattle.lsm_run_model.proofs.LowReads.{kept_without, without-append, order_without}
use Rattle.lsm_runs.proofs.ReadReplays.{Sound}

-- no event is a read
abbrev pub AreNoReads : List Event → Type 0
AreNoReads events = (opened : List Entry) → without_low_reads opened events ≡ events

-- no event is a read, and after such a journal reads are right after them where they were
pub record KeepsAfter (journal events : List Event) (old new : Core) : Type 0 where
  pub unread : AreNoReads events
  pub spares : (opened : List Entry) → SparesReads (λ before. before ≡ without_low_reads opened journal) events (AreSparedBy events) old new

-- the laws of what each kind of call leaves of reads
pub record KeepLaws : Type 0 where
  pub theory : Soundness
  pub flushes : FlushesKeepReads
  pub compactions : NotedCompactionsKeepReads
  pub clears : ClearsKeepReads

-- ---- ways to know it

-- after any journal
pub keeps_any : (journal events : List Event) (old new : Core) → AreNoReads events → SparesReads IsAny events (AreSparedBy events) old new → KeepsAfter journal events old new
keeps_any journal events old new none k = record {
  unread = none;
  spares = λ opened. record {
    right = λ o start before is. k.right o start before tt;
    stays = λ o start before is. k.stays o start before tt;
  };
}

-- a call of a flush
pub keeps_flush : (journal events : List Event) (old new : Core) → AreNoReads events → KeepsReads events old new → KeepsAfter journal events old new
keeps_flush journal events old new none k = record {
  unread = none;
  spares = λ opened. record {
    right = λ o start before is. k.right o start before;
    stays = λ o start before is order h s spared. k.stays o start before order h s;
  };
}

pub marked_without : (opened : List Entry) (w : ℕ) (journal before : List Event) → before ≡ without_low_reads opened journal → IsMarkedIn w journal → IsMarkedIn w before
marked_without opened w journal before is m = subst (IsMarkedIn w) (sym is) (λ s kept. m s (sym (kept_without opened s journal) ∙ kept))

-- the end of a merge whose watermark is marked
pub keeps_marked : (job : SeenCompaction) (journal events : List Event) (old new : Core) → AreNoReads events → IsMarkedIn job.settings.watermark journal → SparesReads (IsMarkedFor job old) events IsAnySnapshot old new → KeepsAfter journal events old new
keeps_marked job journal events old new none marked k = record {
  unread = none;
  spares = λ opened. record {
    right = λ o start before is. k.right o start before (λ waits. marked_without opened job.settings.watermark journal before is marked);
    stays = λ o start before is order h s spared. k.stays o start before (λ waits. marked_without opened job.settings.watermark journal before is marked) order h s tt;
  };
}

-- ---- what follows

joined : (opened : List Entry) (journal events : List Event) → AreNoReads events → without_low_reads opened (journal ++ events) ≡ without_low_reads opened journal ++ events
joined opened journal events none = without-append opened journal events ∙ ap (λ xs. without_low_reads opened journal ++ xs) (none opened)

pub kept_sound : (opened : List Entry) (start : Map) (journal events : List Event) (old new : Core) → KeepsAfter journal events old new → InOrder opened (journal ++ events) → Sound opened start journal old → Sound opened start (journal ++ events) new
kept_sound opened start journal events old new k order h =
    let is = joined opened journal events k.unread in
    let spares = k.spares opened in
    subst (λ j. Holds opened start (state_of j new)) (sym is) (spares.right opened start (without_low_reads opened journal) refl (subst (InOrder opened) is (order_without opened (journal ++ events) order)) h)

pub kept_spares : (opened : List Entry) (start : Map) (journal events : List Event) (old new : Core) → KeepsAfter journal events old new → InOrder opened (journal ++ events) → Sound opened start journal old → Spares events old new
kept_spares opened start journal events old new k order h s each =
    let is = joined opened journal events k.unread in
    let spares = k.spares opened in
    spares.stays opened start (without_low_reads opened journal) refl (subst (InOrder opened) is (order_without opened (journal ++ events) order)) h s each

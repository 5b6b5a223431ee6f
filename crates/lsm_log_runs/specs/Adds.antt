-- What each step adds to what was called, by its kind and its reply: which ranges it may drop, and under which number.
use Rattle.std.specs.Prelude.{◌≡◌, ℕ, Bool, true, false, List, [], ◌∷◌, ◌++◌, Some}
use Rattle.lsm_below.specs.Keys.{Bytes}
use Rattle.lsm_below.specs.Ranges.{Range}
use Rattle.lsm_below.specs.declared.error.Error.TheVariants.{CommitUnknown, AfterCommit}
use Rattle.lsm_model.specs.declared.op.Op.{Op}
use Rattle.lsm_model.specs.Journal.{Event}
use Rattle.lsm_model.specs.declared.journal.JournalEntry.TheVariants.{Install, Dropped}
use Rattle.lsm_runs.specs.declared.steps.Compacted.TheVariants.{Installed}
use Rattle.lsm_runs.specs.declared.steps.JobStep.{JobStep}
use Rattle.lsm_runs.specs.declared.steps.JobStep.TheVariants.{BeginFlush, RunFlush, RegisterTables, BeginCompaction, FinishCompaction}
use Rattle.lsm_runs.specs.declared.steps.Reply.{Reply}
use Rattle.lsm_runs.specs.declared.steps.Reply.TheVariants.{Number, Sealed, Begun, Done, Registered, Flushed, FlushedActive, RefusedActive, Compacted, Finished, Cleared, Refused}
use Rattle.lsm_state.specs.declared.compaction.Finished.TheVariants.{Installed as IsFinished}
use Rattle.lsm_logged.specs.Writing.{batch_of}
use Rattle.lsm_log_runs.specs.declared.steps.LogStep.{LogStep}
use Rattle.lsm_log_runs.specs.declared.steps.LogStep.TheVariants.{Write, RotateMemtable, AtSlot, Flush, FlushActiveMemtable, Compact, MajorCompact, DropRange, Clear}
use Rattle.lsm_log_runs.specs.Pasts.{LogPast, with_batch, with_lost, with_sealed, with_flush, with_registry, with_begun, with_merged, with_commit, with_doubt, with_install, with_unknown, with_clear, with_lost_clear}

-- ---- by kinds, where the counter stands at this number

-- a batch answers its number; one of unknown outcome has it too
abbrev pub AddsBatch : ℕ → List (Bytes × Op) → Reply → LogPast → LogPast → Type 0
AddsBatch c ops (Number n) old new = (n ≡ c) × (new ≡ with_batch (batch_of n ops) old)
AddsBatch c ops (Refused CommitUnknown) old new = new ≡ with_lost (batch_of c ops) old
AddsBatch c ops reply old new = new ≡ old

abbrev pub AddsFlush : ℕ → ℕ → Reply → LogPast → LogPast → Type 0
AddsFlush c w (Flushed (Some a)) old new = new ≡ with_flush w c old
AddsFlush c w (Refused CommitUnknown) old new = new ≡ with_doubt w [] old
AddsFlush c w reply old new = new ≡ old

-- a rotation is noted with the memtable that it seals
abbrev pub AddsRotation : Reply → LogPast → LogPast → Type 0
AddsRotation (Sealed (Some id)) old new = new ≡ with_sealed id old
AddsRotation reply old new = new ≡ old

-- a flush after it is of that memtable too, which stays sealed where the flush is refused
abbrev pub AddsFlushActive : ℕ → ℕ → Reply → LogPast → LogPast → Type 0
AddsFlushActive c w (FlushedActive id a) old new = (mid : LogPast) × AddsRotation (Sealed id) old mid × AddsFlush c w (Flushed a) mid new
AddsFlushActive c w (RefusedActive id x) old new = (mid : LogPast) × AddsRotation (Sealed id) old mid × AddsFlush c w (Refused x) mid new
AddsFlushActive c w reply old new = new ≡ old

-- the ranges that a compaction under this number drops, if it drops any, which may be dropped
abbrev pub IsDrop : (List Range → Type 0) → ℕ → List Event → Type 0
IsDrop May n [] = Unit {0}
IsDrop May n (Dropped ranges m ∷ []) = (m ≡ n) × May ranges
IsDrop May n events = ⊥

-- one that stands: its mark, what it drops, and the install, under one number
abbrev pub AddsInstalled : (List Range → Type 0) → ℕ → ℕ → LogPast → LogPast → Type 0
AddsInstalled May c w old new = (drop : List Event) × IsDrop May c drop × (new ≡ with_commit w (drop ++ Install c ∷ []) old)

-- one that isn't begun tells its mark alone
abbrev pub AddsCompaction : (List Range → Type 0) → ℕ → ℕ → Reply → LogPast → LogPast → Type 0
AddsCompaction May c w (Compacted Installed) old new = AddsInstalled May c w old new
AddsCompaction May c w (Compacted outcome) old new = new ≡ with_commit w [] old
AddsCompaction May c w (Refused AfterCommit) old new = AddsInstalled May c w old new
AddsCompaction May c w (Refused CommitUnknown) old new = (drop : List Event) × IsDrop May c drop × (new ≡ with_doubt w drop old)
AddsCompaction May c w (Refused x) old new = new ≡ with_commit w [] old
AddsCompaction May c w reply old new = new ≡ old

-- a clear answers its number; it stands also where its clean-up failed
abbrev pub AddsClear : ℕ → Reply → LogPast → LogPast → Type 0
AddsClear c (Cleared n) old new = (n ≡ c) × (new ≡ with_clear n old)
AddsClear c (Refused AfterCommit) old new = new ≡ with_clear c old
AddsClear c (Refused CommitUnknown) old new = new ≡ with_lost_clear c old
AddsClear c reply old new = new ≡ old

-- ---- by calls on the job in a slot

-- a flush that is begun is of all that is sealed
abbrev pub AddsBegun : ℕ → Reply → LogPast → LogPast → Type 0
AddsBegun slot (Begun true) old new = new ≡ with_begun slot old
AddsBegun slot reply old new = new ≡ old

-- it is merged at the watermark that the step names
abbrev pub AddsMerged : ℕ → ℕ → Reply → LogPast → LogPast → Type 0
AddsMerged slot w Done old new = new ≡ with_merged slot w old
AddsMerged slot w reply old new = new ≡ old

-- one that is registered, where it is installed, is of the memtables of its beginning, at the watermark of its merge
abbrev pub AddsRegistry : ℕ → ℕ → Bool → LogPast → LogPast → Type 0
AddsRegistry c slot true old new = new ≡ with_registry slot c old
AddsRegistry c slot false old new = new ≡ old

abbrev pub AddsRegister : ℕ → ℕ → Reply → LogPast → LogPast → Type 0
AddsRegister c slot (Registered a) old new = AddsRegistry c slot a.installed old new
AddsRegister c slot (Refused CommitUnknown) old new = new ≡ with_doubt (old.begun slot).watermark [] old
AddsRegister c slot reply old new = new ≡ old

-- the end of a merge adds its install alone: the mark came when it was begun
abbrev pub AddsMerge : ℕ → Reply → LogPast → LogPast → Type 0
AddsMerge c (Finished IsFinished) old new = new ≡ with_install c old
AddsMerge c (Refused AfterCommit) old new = new ≡ with_install c old
AddsMerge c (Refused CommitUnknown) old new = new ≡ with_unknown old
AddsMerge c reply old new = new ≡ old

abbrev pub AddsJob : (List Range → Type 0) → ℕ → ℕ → JobStep → Reply → LogPast → LogPast → Type 0
AddsJob May c slot BeginFlush reply old new = AddsBegun slot reply old new
AddsJob May c slot (RunFlush w) reply old new = AddsMerged slot w reply old new
AddsJob May c slot RegisterTables reply old new = AddsRegister c slot reply old new
AddsJob May c slot (BeginCompaction at o) reply old new = AddsCompaction May c o.mvcc_gc_watermark reply old new
AddsJob May c slot FinishCompaction reply old new = AddsMerge c reply old new
AddsJob May c slot step reply old new = new ≡ old

-- ---- by steps

-- where the step may drop such ranges, and the counter stands at this number before it: a step that isn't named adds nothing
abbrev pub LogAdds : (List Range → Type 0) → ℕ → LogStep → Reply → LogPast → LogPast → Type 0
LogAdds May c (Write ops) reply old new = AddsBatch c ops reply old new
LogAdds May c (Flush w) reply old new = AddsFlush c w reply old new
LogAdds May c Clear reply old new = AddsClear c reply old new
LogAdds May c RotateMemtable reply old new = AddsRotation reply old new
LogAdds May c (FlushActiveMemtable w) reply old new = AddsFlushActive c w reply old new
LogAdds May c (Compact at w) reply old new = AddsCompaction May c w reply old new
LogAdds May c (MajorCompact target w) reply old new = AddsCompaction May c w reply old new
LogAdds May c (DropRange low high) reply old new = AddsCompaction May c 0 reply old new
LogAdds May c (AtSlot slot step) reply old new = AddsJob May c slot step reply old new
LogAdds May c step reply old new = new ≡ old

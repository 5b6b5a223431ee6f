-- What a step may add to the journal, by its kind and its reply alone.
use Rattle.std.specs.Prelude.{◌≡◌, ℕ, true, ◌&&◌, List, [], ◌∷◌, map}
use Rattle.std.specs.List.{AllByRecursion}
use Rattle.std.specs.declared.ops.Bound.{Bound}
use Rattle.std.specs.declared.ops.Bound.TheVariants.{Unbounded}
use Rattle.lsm_below.specs.Keys.{Bytes}
use Rattle.lsm_below.specs.Ranges.{Range as Keys}
use Rattle.lsm_below.specs.Entries.{Entry, plain}
use Rattle.lsm_below.specs.Lookups.{is_from, is_to}
use Rattle.lsm_model.specs.Journal.{Event, in_any}
use Rattle.lsm_model.specs.Ops.{op_entry, op_entries}
use Rattle.lsm_model.specs.declared.op.Op.{Op}
use Rattle.lsm_model.specs.declared.op.Op.TheVariants.{Set as SetTo, Del, Weak}
use Rattle.lsm_model.specs.declared.journal.JournalEntry.TheVariants.{Write as Wrote, Clear as DidClear, Install, Dropped, Mark, Read}
use Rattle.lsm_model.specs.declared.question.Question.{Question}
use Rattle.lsm_model.specs.declared.question.Question.TheVariants.{Get as AskGet, Between, Prefix as AskPrefix}
use Rattle.lsm_model.specs.declared.question.Answer.TheVariants.{Found, Pairs as FoundPairs}
use Rattle.lsm_runs.specs.declared.steps.JobStep.{JobStep}
use Rattle.lsm_runs.specs.declared.steps.JobStep.TheVariants.{RegisterTables, BeginCompaction, FinishCompaction}
use Rattle.lsm_runs.specs.declared.steps.Step.{Step}
use Rattle.lsm_runs.specs.declared.steps.Step.TheVariants.{Insert, Remove, RemoveWeak, AppendEntry, Write, Get, Range, Iter, Prefix, AtSlot, Flush, FlushActiveMemtable, Compact, DoCompaction, MajorCompact, DropRange, Clear}
use Rattle.lsm_runs.specs.declared.steps.Reply.{Reply}
use Rattle.lsm_runs.specs.declared.steps.Reply.TheVariants.{Sizes, Number, Value, Pairs, Cleared}
use Rattle.lsm_runs.specs.Dropping.{Drops}
use Rattle.lsm_runs.specs.OpenFlushes.{BegunFlush, begun_after}
use Rattle.lsm_runs.specs.Told.{Told}

-- ---- by kinds

-- the write of one entry, where it is answered
abbrev pub AddsEntry : Entry → Reply → List Event → Type 0
AddsEntry e (Sizes size total) events = events ≡ Wrote e ∷ []
AddsEntry e reply events = events ≡ []

-- those of a batch, under the number that it answers
abbrev pub AddsBatch : List (Bytes × Op) → Reply → List Event → Type 0
AddsBatch ops (Number n) events = events ≡ map Wrote (op_entries n ops)
AddsBatch ops reply events = events ≡ []

-- a read of a key with its answer, and one of pairs
abbrev pub AddsGet : Bytes → ℕ → Reply → List Event → Type 0
AddsGet k s (Value v) events = events ≡ Read s (AskGet k) (Found v) ∷ []
AddsGet k s reply events = events ≡ []

abbrev pub AddsPairs : Question → ℕ → Reply → List Event → Type 0
AddsPairs question s (Pairs pairs) events = events ≡ Read s question (FoundPairs pairs) ∷ []
AddsPairs question s reply events = events ≡ []

-- a clear, under the number that it answers
abbrev pub AddsClear : Reply → List Event → Type 0
AddsClear (Cleared n) events = events ≡ DidClear n ∷ []
AddsClear reply events = events ≡ []

-- which ranges may be dropped: none, or those of which each key is at or after the start of bounds, and at or before their end
abbrev pub NoRanges : List Keys → Type 0
NoRanges ranges = ⊥

abbrev pub RangesWithin : Bound Bytes → Bound Bytes → List Keys → Type 0
RangesWithin low high ranges = (k : Bytes) → in_any k ranges ≡ true → is_from low k && is_to high k ≡ true

-- a mark that may be set or an install, and beside them a drop of ranges that may be dropped
abbrev pub IsUpkeepOrDrop : (ℕ → Type 0) → (List Keys → Type 0) → Event → Type 0
IsUpkeepOrDrop Of May (Mark w) = Of w
IsUpkeepOrDrop Of May (Install n) = Unit {0}
IsUpkeepOrDrop Of May (Dropped ranges n) = May ranges
IsUpkeepOrDrop Of May (Wrote e) = ⊥
IsUpkeepOrDrop Of May (DidClear n) = ⊥
IsUpkeepOrDrop Of May (Read s question told) = ⊥

-- nothing is dropped
abbrev pub IsUpkeep : (ℕ → Type 0) → Event → Type 0
IsUpkeep Of = IsUpkeepOrDrop Of NoRanges

-- ---- by steps

-- a registration marks the watermark at which the flush of its slot was merged
abbrev pub JobAdds : Drops → BegunFlush → JobStep → List Event → Type 0
JobAdds May flush RegisterTables events = AllByRecursion (IsUpkeep (λ v. v ≡ flush.watermark)) events
JobAdds May flush (BeginCompaction at o) events = AllByRecursion (IsUpkeepOrDrop (λ v. v ≡ o.mvcc_gc_watermark) (May at)) events
JobAdds May flush FinishCompaction events = AllByRecursion (IsUpkeep (λ v. ⊥)) events
JobAdds May flush step events = events ≡ []

-- a step marks the watermark that it names, a drop of a range 0. A strategy of the caller's drops what it may, a merge of all tables
-- nothing, and a drop of a range only tables within it. All steps that aren't named add nothing
abbrev pub Adds : Drops → (ℕ → BegunFlush) → Step → Reply → List Event → Type 0
Adds May begun (Insert k v n) reply events = AddsEntry (op_entry k n (SetTo v)) reply events
Adds May begun (Remove k n) reply events = AddsEntry (op_entry k n Del) reply events
Adds May begun (RemoveWeak k n) reply events = AddsEntry (op_entry k n Weak) reply events
Adds May begun (AppendEntry e) reply events = AddsEntry (plain e) reply events
Adds May begun (Write ops) reply events = AddsBatch ops reply events
Adds May begun (Get k s) reply events = AddsGet k s reply events
Adds May begun (Range low high s) reply events = AddsPairs (Between low high) s reply events
Adds May begun (Iter s) reply events = AddsPairs (Between Unbounded Unbounded) s reply events
Adds May begun (Prefix p s) reply events = AddsPairs (AskPrefix p) s reply events
Adds May begun Clear reply events = AddsClear reply events
Adds May begun (Flush w) reply events = AllByRecursion (IsUpkeep (λ v. v ≡ w)) events
Adds May begun (FlushActiveMemtable w) reply events = AllByRecursion (IsUpkeep (λ v. v ≡ w)) events
Adds May begun (Compact at w) reply events = AllByRecursion (IsUpkeepOrDrop (λ v. v ≡ w) (May at)) events
Adds May begun (DoCompaction at o) reply events = AllByRecursion (IsUpkeepOrDrop (λ v. v ≡ o.mvcc_gc_watermark) (May at)) events
Adds May begun (MajorCompact target w) reply events = AllByRecursion (IsUpkeep (λ v. v ≡ w)) events
Adds May begun (DropRange low high) reply events = AllByRecursion (IsUpkeepOrDrop (λ v. v ≡ 0) (RangesWithin low high)) events
Adds May begun (AtSlot slot step) reply events = JobAdds May (begun slot) step events
Adds May begun step reply events = events ≡ []

-- so each outcome of a run does, whatever memtables its flushes are of
abbrev pub EachAdds : Drops → (ℕ → BegunFlush) → List Step → List Told → Type 0
EachAdds May begun [] [] = Unit {0}
EachAdds May begun (x ∷ xs) (t ∷ ts) = Adds May begun x t.reply t.entries × ((sealed : List ℕ) → EachAdds May (begun_after sealed x t.reply begun) xs ts)
EachAdds May begun xs ts = ⊥

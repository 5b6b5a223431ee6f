-- What a run of steps does, and what its reads answer.
use Rattle.std.specs.Prelude.{◌≡◌, ℕ, ◌+◌, ◌<◌, ◌≤◌, ◌^◌, ◌⊎◌, max, List, [], ◌∷◌, ◌++◌, Result, Ok, Err, map}
use Rattle.std.specs.List.{AllByRecursion}
use Rattle.std.specs.declared.ops.Bound.TheVariants.{Unbounded}
use Rattle.lsm_below.specs.Keys.{Bytes}
use Rattle.lsm_below.specs.Entries.{Entry, plain}
use Rattle.lsm_below.specs.Members.{IsIn}
use Rattle.lsm_model.specs.Journal.{Event, Map, InOrder}
use Rattle.lsm_model.specs.Steps.{IsOpened, ReadsEqualReplay, StaysAt, IsSparedBy}
use Rattle.lsm_model.specs.Ops.{op_entry, op_entries}
use Rattle.lsm_model.specs.declared.op.Op.{Op}
use Rattle.lsm_model.specs.declared.op.Op.TheVariants.{Set as SetTo, Del, Weak}
use Rattle.lsm_model.specs.declared.journal.JournalEntry.TheVariants.{Write as Wrote}
use Rattle.lsm_model.specs.declared.question.Question.TheVariants.{Between, Prefix as AskPrefix}
use Rattle.lsm_iter.specs.declared.tree_iter.End.TheVariants.{Front, Back}
use Rattle.lsm_below.specs.declared.error.Error.{Error}
use Rattle.lsm_below.specs.declared.error.Error.TheVariants.{OutOfMemory, OutOfNumbers}
use Rattle.lsm_parts.specs.Held.{first_entries}
use Rattle.lsm_state.specs.Core.{Core, state_of}
use Rattle.lsm_state.specs.Calls.{Appends, WritesBatch, Rotates}
use Rattle.lsm_state.specs.WholeCompactions.{options_at}
pub use Rattle.lsm_run_model.specs.Outcomes.{without_low_reads}
use Rattle.lsm_runs.specs.declared.steps.Counter.{Counter}
use Rattle.lsm_runs.specs.declared.steps.Counter.TheVariants.{Seqno, Visible}
use Rattle.lsm_runs.specs.declared.steps.Step.{Step}
use Rattle.lsm_runs.specs.declared.steps.Step.TheVariants.{Insert, Remove, RemoveWeak, AppendEntry, Write, Get, GetInternalEntry, ContainsKey, SizeOf, Range, Iter, Prefix, Len, IsEmpty, FirstKeyValue, LastKeyValue, RotateMemtable, Next, Set, FetchMax, AtSlot, Flush, FlushActiveMemtable, Compact, DoCompaction, MajorCompact, DropRange, Clear, ClearActiveMemtable, GetNextTableId, SetMoment, Count as CountOf, IsUncertain, IsCompacting, TreeType}
use Rattle.lsm_runs.specs.declared.steps.Reply.{Reply}
use Rattle.lsm_runs.specs.declared.steps.Reply.TheVariants.{Sizes, Number, Sealed, Done, Refused}
use Rattle.lsm_runs.specs.ReadSteps.{TakesGet, TakesGetEntry, TakesSilent, IsContainsReply, IsSizeReply, TakesRange, TakesPrefix, IsLenReply, IsEmptyReply, IsEndReply, GetAnswers, GetEntryAnswers, ContainsAnswers, SizeAnswers, PairsAnswer, LenAnswers, EmptyAnswers, EndAnswers}
use Rattle.lsm_runs.specs.CountSteps.{IsCounted, IsUncertainReply, IsKindReply}
use Rattle.lsm_runs.specs.Flushing.{TakesFlush, TakesFlushActive, TakesMoment}
use Rattle.lsm_runs.specs.Compacting.{Strategies, TakesCompact, TakesMajor, TakesDropRange, TakesTableId, IsCompactingReply}
use Rattle.lsm_runs.specs.Clearing.{TakesClear, TakesForget}
use Rattle.lsm_runs.specs.JobSteps.{TakesInSlot}
use Rattle.lsm_runs.specs.Slots.{Stage, at_first, Closes}
use Rattle.lsm_runs.specs.Told.{Told}

-- ---- what a step of each kind may answer, add to the journal and do

-- a write of one entry
abbrev pub TakesEntry : Entry → Reply → List Event → Core → Core → Type 0
TakesEntry e (Sizes size total) events old new = (events ≡ Wrote e ∷ []) × Appends e (Ok (size, total)) old new
TakesEntry e (Refused x) events old new = (events ≡ []) × Appends e (Err x) old new
TakesEntry e reply events old new = ⊥

-- a write of a batch
abbrev pub TakesBatch : List (Bytes × Op) → Reply → List Event → Core → Core → Type 0
TakesBatch ops (Number n) events old new = (events ≡ map Wrote (op_entries n ops)) × WritesBatch ops (Ok n) old new
TakesBatch ops (Refused x) events old new = (events ≡ []) × WritesBatch ops (Err x) old new
TakesBatch ops reply events old new = ⊥

-- a rotation: where there is nothing to seal it is never refused, and where no id is left it is refused as that, or for want of memory
abbrev pub TakesRotate : Reply → List Event → Core → Core → Type 0
TakesRotate (Sealed id) events old new = (events ≡ []) × Rotates old id new × (2 ^ 63 ≤ old.next_memtable → first_entries old.memtables ≡ [])
TakesRotate (Refused x) events old new = (events ≡ []) × (new ≡ old) × ((x ≡ OutOfNumbers) ⊎ (x ≡ OutOfMemory)) × (x ≡ OutOfNumbers → 2 ^ 63 ≤ old.next_memtable) × (first_entries old.memtables ≡ [] → ⊥)
TakesRotate reply events old new = ⊥

-- where a counter stands
abbrev pub counter_of : Counter → Core → ℕ
counter_of Seqno c = c.seqno
counter_of Visible c = c.visible_seqno

-- a tree with another sequence number in a counter
abbrev pub with_counter : Counter → ℕ → Core → Core
with_counter Seqno n c = record c { seqno = n }
with_counter Visible n c = record c { visible_seqno = n }

-- the draw of a counter's next sequence number: refused exactly where the counter stands at 2^63 or above
abbrev pub TakesNext : Counter → Reply → List Event → Core → Core → Type 0
TakesNext counter (Number n) events old new = (events ≡ []) × (n ≡ counter_of counter old) × (n < 2 ^ 63) × (new ≡ with_counter counter (n + 1) old)
TakesNext counter (Refused x) events old new = (events ≡ []) × (x ≡ OutOfNumbers) × (2 ^ 63 ≤ counter_of counter old) × (new ≡ old)
TakesNext counter reply events old new = ⊥

-- a counter is put at a sequence number
abbrev pub TakesCounter : Counter → ℕ → Reply → List Event → Core → Core → Type 0
TakesCounter counter n Done events old new = (events ≡ []) × (new ≡ with_counter counter n old)
TakesCounter counter n reply events old new = ⊥

-- what a step that needs no slot may answer, add to the journal and do
abbrev pub TakesAlone : Strategies → Step → Reply → List Event → Core → Core → Type 0
TakesAlone strategies (Insert k v n) reply events old new = TakesEntry (op_entry k n (SetTo v)) reply events old new
TakesAlone strategies (Remove k n) reply events old new = TakesEntry (op_entry k n Del) reply events old new
TakesAlone strategies (RemoveWeak k n) reply events old new = TakesEntry (op_entry k n Weak) reply events old new
TakesAlone strategies (AppendEntry e) reply events old new = TakesEntry (plain e) reply events old new
TakesAlone strategies (Write ops) reply events old new = TakesBatch ops reply events old new
TakesAlone strategies (Get k s) reply events old new = TakesGet k s reply events old new
TakesAlone strategies (GetInternalEntry k s) reply events old new = TakesGetEntry k s reply events old new
TakesAlone strategies (ContainsKey k s) reply events old new = TakesSilent (IsContainsReply k s old) reply events old new
TakesAlone strategies (SizeOf k s) reply events old new = TakesSilent (IsSizeReply k s old) reply events old new
TakesAlone strategies (Range low high s) reply events old new = TakesRange low high s reply events old new
TakesAlone strategies (Iter s) reply events old new = TakesRange Unbounded Unbounded s reply events old new
TakesAlone strategies (Prefix p s) reply events old new = TakesPrefix p s reply events old new
TakesAlone strategies (Len s) reply events old new = TakesSilent (IsLenReply s old) reply events old new
TakesAlone strategies (IsEmpty s) reply events old new = TakesSilent (IsEmptyReply s old) reply events old new
TakesAlone strategies (FirstKeyValue s) reply events old new = TakesSilent (IsEndReply Front s old) reply events old new
TakesAlone strategies (LastKeyValue s) reply events old new = TakesSilent (IsEndReply Back s old) reply events old new
TakesAlone strategies RotateMemtable reply events old new = TakesRotate reply events old new
TakesAlone strategies (Next counter) reply events old new = TakesNext counter reply events old new
TakesAlone strategies (Set counter n) reply events old new = TakesCounter counter n reply events old new
TakesAlone strategies (FetchMax counter n) reply events old new = TakesCounter counter (max (counter_of counter old) n) reply events old new
TakesAlone strategies (Flush w) reply events old new = TakesFlush w reply events old new
TakesAlone strategies (FlushActiveMemtable w) reply events old new = TakesFlushActive w reply events old new
TakesAlone strategies (Compact at w) reply events old new = TakesCompact strategies at (options_at w old) reply events old new
TakesAlone strategies (DoCompaction at o) reply events old new = TakesCompact strategies at o reply events old new
TakesAlone strategies (MajorCompact target w) reply events old new = TakesMajor target w reply events old new
TakesAlone strategies (DropRange low high) reply events old new = TakesDropRange (record { start = low; end = high }) reply events old new
TakesAlone strategies Clear reply events old new = TakesClear reply events old new
TakesAlone strategies ClearActiveMemtable reply events old new = TakesForget reply events old new
TakesAlone strategies GetNextTableId reply events old new = TakesTableId reply events old new
TakesAlone strategies (SetMoment n) reply events old new = TakesMoment n reply events old new
TakesAlone strategies (CountOf what) reply events old new = TakesSilent (IsCounted what old) reply events old new
TakesAlone strategies IsUncertain reply events old new = TakesSilent (IsUncertainReply old) reply events old new
TakesAlone strategies IsCompacting reply events old new = TakesSilent (IsCompactingReply old) reply events old new
TakesAlone strategies TreeType reply events old new = TakesSilent IsKindReply reply events old new
TakesAlone strategies (AtSlot slot step) reply events old new = ⊥

-- what a step may answer, add to the journal and do: one that needs no slot leaves all of them
abbrev pub Takes : Strategies → Step → Reply → List Event → Stage → Stage → Type 0
Takes strategies (AtSlot slot step) reply events old new = TakesInSlot strategies slot step reply events old new
Takes strategies step reply events old new = TakesAlone strategies step reply events old.core new.core × (new.jobs ≡ old.jobs)

-- ---- outcomes

-- the outcome of a write of one entry, and of a batch, beside which these events were told
abbrev pub told_entry : List Event → Result (ℕ × ℕ) Error → Told
told_entry events (Ok sizes) = record { reply = Sizes sizes.0 sizes.1; entries = events }
told_entry events (Err x) = record { reply = Refused x; entries = events }

abbrev pub told_batch : List Event → Result ℕ Error → Told
told_batch events (Ok n) = record { reply = Number n; entries = events }
told_batch events (Err x) = record { reply = Refused x; entries = events }

-- ---- runs

-- the steps, one after the other, lead from the old state to the new with these outcomes
abbrev pub Ran : Strategies → List Step → List Told → Stage → Stage → Type 0
Ran strategies [] [] old new = new ≡ old
Ran strategies (x ∷ xs) (t ∷ ts) old new = (mid : Stage) × Takes strategies x t.reply t.entries old mid × Ran strategies xs ts mid new
Ran strategies [] (t ∷ ts) old new = ⊥
Ran strategies (x ∷ xs) [] old new = ⊥

-- they do so from free slots, and what is open after them is given up
abbrev pub RanToEnd : Strategies → List Step → List Told → Core → Core → Type 0
RanToEnd strategies steps told old new = (last : Stage) × Ran strategies steps told (at_first old) last × Closes last.core new

-- the journal of a run
abbrev pub journal_of : List Told → List Event
journal_of [] = []
journal_of (t ∷ ts) = t.entries ++ journal_of ts

-- plain use: no step forgets what isn't flushed
abbrev pub IsPlainUse : List Step → Type 0
IsPlainUse steps = IsIn ClearActiveMemtable steps → ⊥

-- ---- what the reads answer

-- a step answers right, if it reads
abbrev pub StepAnswers : List Entry → Map → List Event → Step → Reply → Type 0
StepAnswers opened start before (Get k s) reply = GetAnswers opened start before k s reply
StepAnswers opened start before (GetInternalEntry k s) reply = GetEntryAnswers opened start before k s reply
StepAnswers opened start before (ContainsKey k s) reply = ContainsAnswers opened start before k s reply
StepAnswers opened start before (SizeOf k s) reply = SizeAnswers opened start before k s reply
StepAnswers opened start before (Range low high s) reply = PairsAnswer opened start before (Between low high) s reply
StepAnswers opened start before (Iter s) reply = PairsAnswer opened start before (Between Unbounded Unbounded) s reply
StepAnswers opened start before (Prefix p s) reply = PairsAnswer opened start before (AskPrefix p) s reply
StepAnswers opened start before (Len s) reply = LenAnswers opened start before s reply
StepAnswers opened start before (IsEmpty s) reply = EmptyAnswers opened start before s reply
StepAnswers opened start before (FirstKeyValue s) reply = EndAnswers opened start before Front s reply
StepAnswers opened start before (LastKeyValue s) reply = EndAnswers opened start before Back s reply
StepAnswers opened start before step reply = Unit {0}

-- each step answers right, after this journal and the entries of the steps before it
abbrev pub EachAnswers : List Entry → Map → List Event → List Step → List Told → Type 0
EachAnswers opened start before (x ∷ xs) (t ∷ ts) = StepAnswers opened start before x t.reply × EachAnswers opened start (before ++ t.entries) xs ts
EachAnswers opened start before [] ts = Unit {0}
EachAnswers opened start before (x ∷ xs) [] = Unit {0}

-- From a tree as opening left it, in plain use, whenever the journal is in order: each step answers right, every super
-- version stays ordered, views equal replays, and kept snapshots are answered. In order speaks of the journal alone: a
-- counter that is set back is no matter for it, so long as the writes themselves keep their order.
abbrev pub RunEqualsReplay : (opened : List Entry) (start : Map) → List Step → List Told → Core → Core → Type 0
RunEqualsReplay opened start steps told old new =
    IsPlainUse steps → IsOpened opened start (state_of [] old) → InOrder opened (journal_of told)
    → EachAnswers opened start [] steps told × ReadsEqualReplay opened start (state_of (without_low_reads opened (journal_of told)) new)

-- ---- what the steps leave

-- what each snapshot sees stays, if all these events spare it and it finds a super version before and after
abbrev pub Spares : List Event → Core → Core → Type 0
Spares events old new = (s : ℕ) → AllByRecursion (IsSparedBy s) events → StaysAt s (state_of [] old) (state_of [] new)

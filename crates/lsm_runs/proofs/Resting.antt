-- What steps leave that don't touch the store.
use Rattle.std.proofs.Common.{◌≡◌, ◌⊎◌, inl, inr, ℕ, Bool, true, false, cond, ◌==◌, List, [], Option, Some, None, Ok, refl, sym, subst}
use Rattle.lsm_below.specs.Entries.{Entry}
use Rattle.lsm_below.specs.Keys.{Bytes}
use Rattle.lsm_model.specs.Journal.{Event}
use Rattle.lsm_model.specs.declared.op.Op.{Op}
use Rattle.lsm_model.specs.declared.question.Question.{Question}
use Rattle.lsm_iter.specs.Guards.{Pair}
use Rattle.lsm_flush.specs.Jobs.{SeenJob, SeenOpen}
use Rattle.lsm_compaction.specs.Merges.{SeenCompaction}
use Rattle.lsm_state.specs.Core.{Core, versions_left, written_by, written_of}
use Rattle.lsm_state.specs.Calls.{Rotates}
use Rattle.lsm_state.specs.Flushes.{Begins, spent_in}
use Rattle.lsm_state.specs.Compactions.{Spends}
use Rattle.lsm_state.specs.Clearing.{forgotten}
use Rattle.lsm_runs.specs.declared.slots.Job.{Job}
use Rattle.lsm_runs.specs.declared.steps.Counter.{Counter}
use Rattle.lsm_runs.specs.declared.steps.Counter.TheVariants.{Seqno, Visible}
use Rattle.lsm_runs.specs.declared.steps.JobStep.{JobStep}
use Rattle.lsm_runs.specs.declared.steps.JobStep.TheVariants.{BeginFlush, RunFlush, FlushToTables, RegisterTables, AbandonFlush, BeginCompaction, RunCompaction, FinishCompaction, AbandonCompaction}
use Rattle.lsm_runs.specs.declared.steps.Step.{Step}
use Rattle.lsm_runs.specs.declared.steps.Step.TheVariants.{Insert, Remove, RemoveWeak, AppendEntry, Write, Get, GetInternalEntry, ContainsKey, SizeOf, Range, Iter, Prefix, Len, IsEmpty, FirstKeyValue, LastKeyValue, RotateMemtable, Next, Set, FetchMax, AtSlot, Flush, FlushActiveMemtable, Compact, DoCompaction, MajorCompact, DropRange, Clear, ClearActiveMemtable, GetNextTableId, SetMoment, Count as CountOf, IsUncertain, IsCompacting, TreeType}
use Rattle.lsm_runs.specs.declared.steps.Reply.{Reply}
use Rattle.lsm_runs.specs.declared.steps.Reply.TheVariants.{Value, Entry as EntryOf, Pairs, Sizes, Number, Sealed, Done, Begun, NoJob, SlotInUse, Refused}
use Rattle.lsm_runs.proofs.Clearing.{forgets_either}
use Rattle.lsm_runs.specs.Flushing.{TakesBegin, TakesRun, TakesAbandon, TakesMoment}
use Rattle.lsm_runs.specs.Compacting.{Strategies, TakesRunCompaction, TakesAbandonCompaction, TakesTableId}
use Rattle.lsm_runs.specs.Clearing.{TakesForget}
use Rattle.lsm_runs.specs.JobSteps.{TakesJob}
use Rattle.lsm_runs.specs.ReadSteps.{TakesGet, TakesGetEntry, TakesPairs}
use Rattle.lsm_runs.specs.Runs.{TakesAlone, TakesEntry, TakesBatch, TakesRotate, TakesNext, TakesCounter, with_counter}

-- the versions that a crash may leave stay, and so does what is unknown; the tables that no version names yet stay too, or none is left
pub record Rests (old new : Core) : Type 0 where
  pub versions : versions_left new ≡ versions_left old
  pub lost : new.lost ≡ old.lost
  pub written : (written_of new ≡ written_of old) ⊎ (written_of new ≡ [])

same : (old new : Core) → new ≡ old → Rests old new
same old new is = subst (Rests old) (sym is) (record { versions = refl; lost = refl; written = inl refl })

pub rotated : (old : Core) (id : Option ℕ) (new : Core) → Rotates old id new → Rests old new
rotated old None new r = same old new r.1
rotated old (Some id) new r = subst (Rests old) (sym r.2) (record { versions = refl; lost = refl; written = inl refl })

-- ---- calls on jobs

-- a job that is no longer open needs no tables
spent_rests : (old : Core) (n : ℕ) → Rests old (record old { flush = spent_in n old.flush })
spent_rests old n = record { versions = refl; lost = refl; written = go old.flush }
  where
    less : (f : SeenOpen) (b : Bool) → (written_by (cond b None (Some f)) ≡ f.written) ⊎ (written_by (cond b None (Some f)) ≡ [])
    less f true = inr refl
    less f false = inl refl

    go : (o : Option SeenOpen) → (written_by (spent_in n o) ≡ written_by o) ⊎ (written_by (spent_in n o) ≡ [])
    go None = inl refl
    go (Some f) = less f (f.number == n)

begun : (job : Option SeenJob) (old new : Core) → Begins (Ok job) old new → Rests old new
begun None old new b = same old new (b.some refl).1
begun (Some job) old new b = subst (Rests old) (sym b.begins.1) (record { versions = refl; lost = refl; written = inr refl })

begin_rests : (reply : Reply) (events : List Event) (was is : Option Job) (old new : Core) → TakesBegin reply events was is old new → Rests old new
begin_rests (Begun b) events was is old new t = begun t.2.0 old new t.2.3
begin_rests (Refused x) events was is old new t = same old new t.0.2
begin_rests SlotInUse events was is old new t = same old new t.0.2
begin_rests reply events was is old new t = absurd t

run_rests : (n : ℕ) (reply : Reply) (events : List Event) (was is : Option Job) (old new : Core) → TakesRun n reply events was is old new → Rests old new
run_rests n Done events was is old new t = same old new t.1
run_rests n (Refused x) events was is old new t = same old new t.0.2
run_rests n NoJob events was is old new t = same old new t.0.2
run_rests n reply events was is old new t = absurd t

abandon_rests : (reply : Reply) (events : List Event) (was is : Option Job) (old new : Core) → TakesAbandon reply events was is old new → Rests old new
abandon_rests Done events was is old new t = subst (Rests old) (sym t.1.3) (spent_rests old t.1.0.number)
abandon_rests NoJob events was is old new t = same old new t.0.2
abandon_rests reply events was is old new t = absurd t

run_compaction_rests : (reply : Reply) (events : List Event) (was is : Option Job) (old new : Core) → TakesRunCompaction reply events was is old new → Rests old new
run_compaction_rests Done events was is old new t = same old new t.1
run_compaction_rests (Refused x) events was is old new t = same old new t.0.2
run_compaction_rests NoJob events was is old new t = same old new t.0.2
run_compaction_rests reply events was is old new t = absurd t

pub spends_rests : (job : SeenCompaction) (old new : Core) → Spends job old new → Rests old new
spends_rests job old new (inl s) = subst (Rests old) (sym s.1) (record { versions = refl; lost = refl; written = inl refl })
spends_rests job old new (inr s) = same old new s.1

given_rests : (reply : Reply) (events : List Event) (was is : Option Job) (old new : Core) → TakesAbandonCompaction reply events was is old new → Rests old new
given_rests Done events was is old new t = spends_rests t.1.0 old new t.1.3
given_rests NoJob events was is old new t = same old new t.0.2
given_rests reply events was is old new t = absurd t

-- unless a call on a job may touch the store
abbrev pub JobQuiet : JobStep → Type 0 → Type 0
JobQuiet FlushToTables P = Unit {0}
JobQuiet RegisterTables P = Unit {0}
JobQuiet (BeginCompaction at o) P = Unit {0}
JobQuiet FinishCompaction P = Unit {0}
JobQuiet step P = P

pub job_rests : (strategies : Strategies) (step : JobStep) (reply : Reply) (events : List Event) (was is : Option Job) (old new : Core) → TakesJob strategies step reply events was is old new → JobQuiet step (Rests old new)
job_rests strategies BeginFlush reply events was is old new t = begin_rests reply events was is old new t
job_rests strategies (RunFlush n) reply events was is old new t = run_rests n reply events was is old new t
job_rests strategies FlushToTables reply events was is old new t = tt
job_rests strategies RegisterTables reply events was is old new t = tt
job_rests strategies AbandonFlush reply events was is old new t = abandon_rests reply events was is old new t
job_rests strategies (BeginCompaction at o) reply events was is old new t = tt
job_rests strategies RunCompaction reply events was is old new t = run_compaction_rests reply events was is old new t
job_rests strategies FinishCompaction reply events was is old new t = tt
job_rests strategies AbandonCompaction reply events was is old new t = given_rests reply events was is old new t

-- ---- steps that need no slot

table_id_rests : (reply : Reply) (events : List Event) (old new : Core) → TakesTableId reply events old new → Rests old new
table_id_rests (Number n) events old new t = subst (Rests old) (sym t.3) (record { versions = refl; lost = refl; written = inl refl })
table_id_rests (Refused x) events old new t = same old new t.1
table_id_rests reply events old new t = absurd t

entry_rests : (e : Entry) (reply : Reply) (events : List Event) (old new : Core) → TakesEntry e reply events old new → Rests old new
entry_rests e (Sizes size total) events old new t = subst (Rests old) (sym t.1.core) (record { versions = refl; lost = refl; written = inl refl })
entry_rests e (Refused x) events old new t = same old new t.1.unchanged
entry_rests e reply events old new t = absurd t

batch_rests : (ops : List (Bytes × Op)) (reply : Reply) (events : List Event) (old new : Core) → TakesBatch ops reply events old new → Rests old new
batch_rests ops (Number n) events old new t = subst (Rests old) (sym t.1.core) (record { versions = refl; lost = refl; written = inl refl })
batch_rests ops (Refused x) events old new t = same old new t.1.unchanged
batch_rests ops reply events old new t = absurd t

rotate_rests : (reply : Reply) (events : List Event) (old new : Core) → TakesRotate reply events old new → Rests old new
rotate_rests (Sealed id) events old new t = rotated old id new t.1
rotate_rests (Refused x) events old new t = same old new t.1
rotate_rests reply events old new t = absurd t

get_rests : (k : Bytes) (s : ℕ) (reply : Reply) (events : List Event) (old new : Core) → TakesGet k s reply events old new → Rests old new
get_rests k s (Value v) events old new t = same old new t.1
get_rests k s (Refused x) events old new t = same old new t.1
get_rests k s reply events old new t = absurd t

get_entry_rests : (k : Bytes) (s : ℕ) (reply : Reply) (events : List Event) (old new : Core) → TakesGetEntry k s reply events old new → Rests old new
get_entry_rests k s (EntryOf e) events old new t = same old new t.1
get_entry_rests k s (Refused x) events old new t = same old new t.1
get_entry_rests k s reply events old new t = absurd t

pairs_rests : (question : Question) (Right : List Pair → Type 0) (s : ℕ) (reply : Reply) (events : List Event) (old new : Core) → TakesPairs question Right s reply events old new → Rests old new
pairs_rests question Right s (Pairs pairs) events old new t = same old new t.1
pairs_rests question Right s (Refused x) events old new t = same old new t.1
pairs_rests question Right s reply events old new t = absurd t

counter_rests : (counter : Counter) (n : ℕ) (old new : Core) → new ≡ with_counter counter n old → Rests old new
counter_rests Seqno n old new is = subst (Rests old) (sym is) (record { versions = refl; lost = refl; written = inl refl })
counter_rests Visible n old new is = subst (Rests old) (sym is) (record { versions = refl; lost = refl; written = inl refl })

next_rests : (counter : Counter) (reply : Reply) (events : List Event) (old new : Core) → TakesNext counter reply events old new → Rests old new
next_rests counter (Number n) events old new t = counter_rests counter _ old new t.3
next_rests counter (Refused x) events old new t = same old new t.3
next_rests counter reply events old new t = absurd t

put_rests : (counter : Counter) (n : ℕ) (reply : Reply) (events : List Event) (old new : Core) → TakesCounter counter n reply events old new → Rests old new
put_rests counter n Done events old new t = counter_rests counter n old new t.1
put_rests counter n reply events old new t = absurd t

moment_rests : (n : ℕ) (reply : Reply) (events : List Event) (old new : Core) → TakesMoment n reply events old new → Rests old new
moment_rests n Done events old new t = subst (Rests old) (sym t.1) (record { versions = refl; lost = refl; written = inl refl })
moment_rests n reply events old new t = absurd t

-- what isn't flushed stands in no file
forget_rests : (reply : Reply) (events : List Event) (old new : Core) → TakesForget reply events old new → Rests old new
forget_rests reply events old new t = go (forgets_either reply events old new t)
  where
    go : (new ≡ old) ⊎ (new ≡ forgotten old) → Rests old new
    go (inl is) = same old new is
    go (inr is) = subst (Rests old) (sym is) (record { versions = refl; lost = refl; written = inl refl })

-- unless a step may touch the store
abbrev pub Quiet : Step → Type 0 → Type 0
Quiet (Flush n) P = Unit {0}
Quiet (FlushActiveMemtable n) P = Unit {0}
Quiet (Compact at n) P = Unit {0}
Quiet (DoCompaction at o) P = Unit {0}
Quiet (MajorCompact target n) P = Unit {0}
Quiet (DropRange low high) P = Unit {0}
Quiet Clear P = Unit {0}
Quiet step P = P

pub alone_rests : (strategies : Strategies) (x : Step) (reply : Reply) (events : List Event) (old new : Core) → TakesAlone strategies x reply events old new → Quiet x (Rests old new)
alone_rests strategies (Insert k v n) reply events old new t = entry_rests _ reply events old new t
alone_rests strategies (Remove k n) reply events old new t = entry_rests _ reply events old new t
alone_rests strategies (RemoveWeak k n) reply events old new t = entry_rests _ reply events old new t
alone_rests strategies (AppendEntry e) reply events old new t = entry_rests _ reply events old new t
alone_rests strategies (Write ops) reply events old new t = batch_rests ops reply events old new t
alone_rests strategies (Get k s) reply events old new t = get_rests k s reply events old new t
alone_rests strategies (GetInternalEntry k s) reply events old new t = get_entry_rests k s reply events old new t
alone_rests strategies (ContainsKey k s) reply events old new t = same old new t.1
alone_rests strategies (SizeOf k s) reply events old new t = same old new t.1
alone_rests strategies (Range low high s) reply events old new t = pairs_rests _ _ s reply events old new t
alone_rests strategies (Iter s) reply events old new t = pairs_rests _ _ s reply events old new t
alone_rests strategies (Prefix p s) reply events old new t = pairs_rests _ _ s reply events old new t
alone_rests strategies (Len s) reply events old new t = same old new t.1
alone_rests strategies (IsEmpty s) reply events old new t = same old new t.1
alone_rests strategies (FirstKeyValue s) reply events old new t = same old new t.1
alone_rests strategies (LastKeyValue s) reply events old new t = same old new t.1
alone_rests strategies RotateMemtable reply events old new t = rotate_rests reply events old new t
alone_rests strategies (Next counter) reply events old new t = next_rests counter reply events old new t
alone_rests strategies (Set counter n) reply events old new t = put_rests counter _ reply events old new t
alone_rests strategies (FetchMax counter n) reply events old new t = put_rests counter _ reply events old new t
alone_rests strategies (Flush n) reply events old new t = tt
alone_rests strategies (FlushActiveMemtable n) reply events old new t = tt
alone_rests strategies (Compact at n) reply events old new t = tt
alone_rests strategies (DoCompaction at o) reply events old new t = tt
alone_rests strategies (MajorCompact target n) reply events old new t = tt
alone_rests strategies (DropRange low high) reply events old new t = tt
alone_rests strategies Clear reply events old new t = tt
alone_rests strategies ClearActiveMemtable reply events old new t = forget_rests reply events old new t
alone_rests strategies GetNextTableId reply events old new t = table_id_rests reply events old new t
alone_rests strategies IsCompacting reply events old new t = same old new t.1
alone_rests strategies (SetMoment n) reply events old new t = moment_rests n reply events old new t
alone_rests strategies (CountOf what) reply events old new t = same old new t.1
alone_rests strategies IsUncertain reply events old new t = same old new t.1
alone_rests strategies TreeType reply events old new t = same old new t.1
alone_rests strategies (AtSlot slot step) reply events old new t = absurd t

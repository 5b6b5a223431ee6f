-- Steps that don't touch the store don't blame it.
use Rattle.std.proofs.Common.{◌≡◌, ◌⊎◌, ⊎_elim, inl, ℕ, Bool, true, false, if◌then◌else◌, List, ◌∷◌, [], ◌++◌, Option, Some, None, IfSome, Result, Ok, Err, refl, sym, ap, subst, ◌∙◌, arith}
use Rattle.std.specs.List.{list_any}
use Rattle.lsm_below.specs.Keys.{Bytes}
use Rattle.lsm_below.specs.Entries.{Entry}
use Rattle.lsm_below.specs.declared.error.Error.{Error}
use Rattle.lsm_below.specs.declared.error.Error.TheVariants.{OutOfMemory, Store, CommitUnknown, AfterCommit, SnapshotTooOld, OutOfNumbers, KeyTooLong, ValueTooLong, NumberTooGreat, DuplicateKey, FlushOpen, Unrecoverable}
use Rattle.lsm_store.specs.World.{World}
use Rattle.lsm_model.specs.Journal.{Event}
use Rattle.lsm_model.specs.Ops.{op_value, repeats, keys_of}
use Rattle.lsm_model.specs.declared.op.Op.{Op}
use Rattle.lsm_model.specs.declared.question.Question.{Question}
use Rattle.lsm_iter.specs.Guards.{Pair}
use Rattle.lsm_iter.specs.declared.tree_iter.End.{End}
use Rattle.lsm_iter.specs.declared.tree_iter.End.TheVariants.{Front, Back}
use Rattle.lsm_commit.specs.Causes.{HasCause, BlamesStore, Blames, no_fault, causes_less}
use Rattle.lsm_flush.specs.declared.jobs.Registered.{Registered}
use Rattle.lsm_state.specs.declared.compaction.Begun.{Begun}
use Rattle.lsm_state.specs.declared.compaction.Begun.TheVariants.{DidNothing, Declined, Installed, Job as BegunJob}
use Rattle.lsm_state.specs.Causes.{BlamesOrUnclean, BlamesOrUncleanBehind}
use Rattle.lsm_state.specs.Core.{Core}
use Rattle.lsm_state.specs.Refusals.{is_long_key, is_long_value, is_great, entry_refusal, batch_refusal}
use Rattle.lsm_runs.specs.declared.slots.Job.{Job}
use Rattle.lsm_runs.specs.declared.steps.Count.{Count}
use Rattle.lsm_runs.specs.declared.steps.Counter.{Counter}
use Rattle.lsm_runs.specs.declared.steps.JobStep.{JobStep}
use Rattle.lsm_runs.specs.declared.steps.JobStep.TheVariants.{BeginFlush, RunFlush, FlushToTables, RegisterTables, AbandonFlush, BeginCompaction, RunCompaction, FinishCompaction, AbandonCompaction}
use Rattle.lsm_runs.specs.declared.steps.Step.{Step}
use Rattle.lsm_runs.specs.declared.steps.Step.TheVariants.{Insert, Remove, RemoveWeak, AppendEntry, Write, Get, GetInternalEntry, ContainsKey, SizeOf, Range, Iter, Prefix, Len, IsEmpty, FirstKeyValue, LastKeyValue, RotateMemtable, Next, Set, FetchMax, AtSlot, Flush, FlushActiveMemtable, Compact, DoCompaction, MajorCompact, DropRange, Clear, ClearActiveMemtable, GetNextTableId, SetMoment, Count as CountOf, IsUncertain, IsCompacting, TreeType}
use Rattle.lsm_runs.specs.declared.steps.Reply.{Reply}
use Rattle.lsm_runs.specs.declared.steps.Reply.TheVariants.{Sizes, Number, Value, Entry as EntryOf, Truth, Kind, Size, Count as CountReply, Counted, Pair as EndPair, Pairs, Sealed, Done, Begun as BegunReply, NoJob, SlotInUse, Refused}
use Rattle.lsm_runs.specs.Causes.{ReplyBlames, EachHasCause}
use Rattle.lsm_runs.specs.Files.{JobHasCause, StepHasCause}
use Rattle.lsm_runs.specs.Clearing.{TakesForget}
use Rattle.lsm_runs.specs.Compacting.{Strategies, TakesRunCompaction, TakesAbandonCompaction, TakesTableId, IsCompactingReply, reply_of}
use Rattle.lsm_runs.specs.CountSteps.{IsCounted, IsUncertainReply, IsKindReply}
use Rattle.lsm_runs.specs.Flushing.{TakesBegin, TakesRun, TakesAbandon, TakesMoment, told_registered, told_active}
use Rattle.lsm_runs.specs.JobSteps.{TakesJob}
use Rattle.lsm_runs.specs.ReadSteps.{IsReadRefusal, TakesGet, TakesGetEntry, TakesPairs, IsContainsReply, IsSizeReply, IsLenReply, IsEmptyReply, IsEndReply}
use Rattle.lsm_runs.specs.Runs.{Takes, TakesAlone, TakesEntry, TakesBatch, TakesRotate, TakesNext, TakesCounter}
use Rattle.lsm_runs.specs.Slots.{Stage}
use Rattle.lsm_runs.specs.Told.{Told}
use Rattle.lsm_runs.proofs.Resting.{JobQuiet, Quiet}

-- ---- errors that don't blame it

abbrev pub blames : Error → Bool
blames Store = true
blames CommitUnknown = true
blames AfterCommit = true
blames e = false

abbrev pub Blameless : Error → Type 0
Blameless e = BlamesStore e → ⊥

-- an error of this name
pub named : (x e : Error) → blames x ≡ false → e ≡ x → Blameless e
named x e free same blamed = cc (sym (subst (λ y. blames y ≡ false) (sym same) free) ∙ known)
  where
    known : blames e ≡ true
    known = ⊎_elim (λ h. ap blames h) (λ later. ⊎_elim (λ h. ap blames h) (λ h. ap blames h) later) blamed

-- the first reason that holds, else memory is missing
reason : (T : Type 0) (o : Option Error) (x : Error) → IfSome o (λ y. blames y ≡ false) → IfSome o (λ y. (◌≡◌ {A = Result T Error} (Err x) (Err y)) ⊎ (◌≡◌ {A = Result T Error} (Err x) (Err OutOfMemory))) → (o ≡ None → x ≡ OutOfMemory) → Blameless x
reason T None x free told memory = named OutOfMemory x refl (memory refl)
reason T (Some y) x free told memory = ⊎_elim (λ h. named y x free (cc h)) (λ h. named OutOfMemory x refl (cc h)) told

entry_reason : (e : Entry) → IfSome (entry_refusal e) (λ y. blames y ≡ false)
entry_reason e = go (is_long_key e.key.user_key) (is_long_value e.value) (is_great e.key.seqno)
  where
    go : (a b c : Bool) → IfSome (if a then Some KeyTooLong else (if b then Some ValueTooLong else (if c then Some NumberTooGreat else None))) (λ y. blames y ≡ false)
    go true b c = refl
    go false true c = refl
    go false false true = refl
    go false false false = tt

pub batch_reason : (n : ℕ) (ops : List (Bytes × Op)) → IfSome (batch_refusal n ops) (λ y. blames y ≡ false)
batch_reason n ops = go (is_great n) (list_any (λ p. is_long_key p.0) ops) (list_any (λ p. is_long_value (op_value p.1)) ops) (repeats (keys_of ops))
  where
    go : (a b c d : Bool) → IfSome (if a then Some OutOfNumbers else (if b then Some KeyTooLong else (if c then Some ValueTooLong else (if d then Some DuplicateKey else None)))) (λ y. blames y ≡ false)
    go true b c d = refl
    go false true c d = refl
    go false false true d = refl
    go false false false true = refl
    go false false false false = tt

read_refusal : (s : ℕ) (c : Core) (x : Error) → IsReadRefusal s c x → Blameless x
read_refusal s c x r = ⊎_elim (λ h. named SnapshotTooOld x refl h) (λ h. named OutOfMemory x refl h) r.0

-- ---- calls on jobs

-- a reply that doesn't blame it
abbrev BlamesNot : Reply → Type 0
BlamesNot reply = ReplyBlames reply → ⊥

begin_blames_not : (reply : Reply) (events : List Event) (was is : Option Job) (old new : Core) → TakesBegin reply events was is old new → BlamesNot reply
begin_blames_not (BegunReply b) events was is old new t blamed = blamed
begin_blames_not (Refused x) events was is old new t blamed =
    ⊎_elim (λ a. ⊎_elim (λ h. named OutOfMemory x refl h blamed) (λ h. named Unrecoverable x refl h blamed) a) (λ a. ⊎_elim (λ h. named FlushOpen x refl h blamed) (λ h. named OutOfNumbers x refl h blamed) a) t.2.only
begin_blames_not SlotInUse events was is old new t blamed = blamed
begin_blames_not reply events was is old new t blamed = absurd t

run_blames_not : (n : ℕ) (reply : Reply) (events : List Event) (was is : Option Job) (old new : Core) → TakesRun n reply events was is old new → BlamesNot reply
run_blames_not n Done events was is old new t blamed = blamed
run_blames_not n (Refused x) events was is old new t blamed = named OutOfMemory x refl t.1 blamed
run_blames_not n NoJob events was is old new t blamed = blamed
run_blames_not n reply events was is old new t blamed = absurd t

abandon_blames_not : (reply : Reply) (events : List Event) (was is : Option Job) (old new : Core) → TakesAbandon reply events was is old new → BlamesNot reply
abandon_blames_not Done events was is old new t blamed = blamed
abandon_blames_not NoJob events was is old new t blamed = blamed
abandon_blames_not reply events was is old new t blamed = absurd t

run_compaction_blames_not : (reply : Reply) (events : List Event) (was is : Option Job) (old new : Core) → TakesRunCompaction reply events was is old new → BlamesNot reply
run_compaction_blames_not Done events was is old new t blamed = blamed
run_compaction_blames_not (Refused x) events was is old new t blamed = named OutOfMemory x refl t.1 blamed
run_compaction_blames_not NoJob events was is old new t blamed = blamed
run_compaction_blames_not reply events was is old new t blamed = absurd t

given_blames_not : (reply : Reply) (events : List Event) (was is : Option Job) (old new : Core) → TakesAbandonCompaction reply events was is old new → BlamesNot reply
given_blames_not Done events was is old new t blamed = blamed
given_blames_not NoJob events was is old new t blamed = blamed
given_blames_not reply events was is old new t blamed = absurd t

job_blames_not : (strategies : Strategies) (step : JobStep) (reply : Reply) (events : List Event) (was is : Option Job) (old new : Core) → TakesJob strategies step reply events was is old new → JobQuiet step (BlamesNot reply)
job_blames_not strategies BeginFlush reply events was is old new t = begin_blames_not reply events was is old new t
job_blames_not strategies (RunFlush n) reply events was is old new t = run_blames_not n reply events was is old new t
job_blames_not strategies FlushToTables reply events was is old new t = tt
job_blames_not strategies RegisterTables reply events was is old new t = tt
job_blames_not strategies AbandonFlush reply events was is old new t = abandon_blames_not reply events was is old new t
job_blames_not strategies (BeginCompaction at o) reply events was is old new t = tt
job_blames_not strategies RunCompaction reply events was is old new t = run_compaction_blames_not reply events was is old new t
job_blames_not strategies FinishCompaction reply events was is old new t = tt
job_blames_not strategies AbandonCompaction reply events was is old new t = given_blames_not reply events was is old new t

-- ---- steps that need no slot

entry_blames_not : (e : Entry) (reply : Reply) (events : List Event) (old new : Core) → TakesEntry e reply events old new → BlamesNot reply
entry_blames_not e (Sizes size total) events old new t blamed = blamed
entry_blames_not e (Refused x) events old new t blamed = reason (ℕ × ℕ) (entry_refusal e) x (entry_reason e) (either (entry_refusal e) t.1.told) t.1.memory blamed
  where
    either : (o : Option Error) → IfSome o (λ y. ◌≡◌ {A = Result (ℕ × ℕ) Error} (Err x) (Err y)) → IfSome o (λ y. (◌≡◌ {A = Result (ℕ × ℕ) Error} (Err x) (Err y)) ⊎ (◌≡◌ {A = Result (ℕ × ℕ) Error} (Err x) (Err OutOfMemory)))
    either None h = tt
    either (Some y) h = inl h
entry_blames_not e reply events old new t blamed = absurd t

batch_blames_not : (ops : List (Bytes × Op)) (reply : Reply) (events : List Event) (old new : Core) → TakesBatch ops reply events old new → BlamesNot reply
batch_blames_not ops (Number n) events old new t blamed = blamed
batch_blames_not ops (Refused x) events old new t blamed = reason ℕ (batch_refusal old.seqno ops) x (batch_reason old.seqno ops) t.1.told t.1.memory blamed
batch_blames_not ops reply events old new t blamed = absurd t

rotate_blames_not : (reply : Reply) (events : List Event) (old new : Core) → TakesRotate reply events old new → BlamesNot reply
rotate_blames_not (Sealed id) events old new t blamed = blamed
rotate_blames_not (Refused x) events old new t blamed = ⊎_elim (λ h. named OutOfNumbers x refl h blamed) (λ h. named OutOfMemory x refl h blamed) t.2
rotate_blames_not reply events old new t blamed = absurd t

get_blames_not : (k : Bytes) (s : ℕ) (reply : Reply) (events : List Event) (old new : Core) → TakesGet k s reply events old new → BlamesNot reply
get_blames_not k s (Value v) events old new t blamed = blamed
get_blames_not k s (Refused x) events old new t blamed = read_refusal s old x t.2 blamed
get_blames_not k s reply events old new t blamed = absurd t

get_entry_blames_not : (k : Bytes) (s : ℕ) (reply : Reply) (events : List Event) (old new : Core) → TakesGetEntry k s reply events old new → BlamesNot reply
get_entry_blames_not k s (EntryOf e) events old new t blamed = blamed
get_entry_blames_not k s (Refused x) events old new t blamed = read_refusal s old x t.2 blamed
get_entry_blames_not k s reply events old new t blamed = absurd t

pairs_blames_not : (question : Question) (Right : List Pair → Type 0) (s : ℕ) (reply : Reply) (events : List Event) (old new : Core) → TakesPairs question Right s reply events old new → BlamesNot reply
pairs_blames_not question Right s (Pairs pairs) events old new t blamed = blamed
pairs_blames_not question Right s (Refused x) events old new t blamed = read_refusal s old x t.2 blamed
pairs_blames_not question Right s reply events old new t blamed = absurd t

contains_blames_not : (k : Bytes) (s : ℕ) (c : Core) (reply : Reply) → IsContainsReply k s c reply → BlamesNot reply
contains_blames_not k s c (Truth b) t blamed = blamed
contains_blames_not k s c (Refused x) t blamed = named SnapshotTooOld x refl t.0 blamed
contains_blames_not k s c reply t blamed = absurd t

size_blames_not : (k : Bytes) (s : ℕ) (c : Core) (reply : Reply) → IsSizeReply k s c reply → BlamesNot reply
size_blames_not k s c (Size n) t blamed = blamed
size_blames_not k s c (Refused x) t blamed = named SnapshotTooOld x refl t.0 blamed
size_blames_not k s c reply t blamed = absurd t

len_blames_not : (s : ℕ) (c : Core) (reply : Reply) → IsLenReply s c reply → BlamesNot reply
len_blames_not s c (CountReply n) t blamed = blamed
len_blames_not s c (Refused x) t blamed = read_refusal s c x t blamed
len_blames_not s c reply t blamed = absurd t

empty_blames_not : (s : ℕ) (c : Core) (reply : Reply) → IsEmptyReply s c reply → BlamesNot reply
empty_blames_not s c (Truth b) t blamed = blamed
empty_blames_not s c (Refused x) t blamed = read_refusal s c x t blamed
empty_blames_not s c reply t blamed = absurd t

end_blames_not : (end : End) (s : ℕ) (c : Core) (reply : Reply) → IsEndReply end s c reply → BlamesNot reply
end_blames_not end s c (EndPair p) t blamed = blamed
end_blames_not end s c (Refused x) t blamed = read_refusal s c x t blamed
end_blames_not end s c reply t blamed = absurd t

next_blames_not : (counter : Counter) (reply : Reply) (events : List Event) (old new : Core) → TakesNext counter reply events old new → BlamesNot reply
next_blames_not counter (Number n) events old new t blamed = blamed
next_blames_not counter (Refused x) events old new t blamed = named OutOfNumbers x refl t.1 blamed
next_blames_not counter reply events old new t blamed = absurd t

put_blames_not : (counter : Counter) (n : ℕ) (reply : Reply) (events : List Event) (old new : Core) → TakesCounter counter n reply events old new → BlamesNot reply
put_blames_not counter n Done events old new t blamed = blamed
put_blames_not counter n reply events old new t blamed = absurd t

moment_blames_not : (n : ℕ) (reply : Reply) (events : List Event) (old new : Core) → TakesMoment n reply events old new → BlamesNot reply
moment_blames_not n Done events old new t blamed = blamed
moment_blames_not n reply events old new t blamed = absurd t

forget_blames_not : (reply : Reply) (events : List Event) (old new : Core) → TakesForget reply events old new → BlamesNot reply
forget_blames_not Done events old new t blamed = blamed
forget_blames_not (Refused x) events old new t blamed = ⊎_elim (λ h. named OutOfMemory x refl h blamed) (λ h. named OutOfNumbers x refl h blamed) t.1.only
forget_blames_not reply events old new t blamed = absurd t

table_id_blames_not : (reply : Reply) (events : List Event) (old new : Core) → TakesTableId reply events old new → BlamesNot reply
table_id_blames_not (Number n) events old new t blamed = blamed
table_id_blames_not (Refused x) events old new t blamed = named OutOfNumbers x refl t.2 blamed
table_id_blames_not reply events old new t blamed = absurd t

count_blames_not : (what : Count) (c : Core) (reply : Reply) → IsCounted what c reply → BlamesNot reply
count_blames_not what c (Counted n) t blamed = blamed
count_blames_not what c reply t blamed = absurd t

uncertain_blames_not : (c : Core) (reply : Reply) → IsUncertainReply c reply → BlamesNot reply
uncertain_blames_not c (Truth b) t blamed = blamed
uncertain_blames_not c reply t blamed = absurd t

compacting_blames_not : (c : Core) (reply : Reply) → IsCompactingReply c reply → BlamesNot reply
compacting_blames_not c (Truth b) t blamed = blamed
compacting_blames_not c reply t blamed = absurd t

kind_blames_not : (reply : Reply) → IsKindReply reply → BlamesNot reply
kind_blames_not (Kind kind) t blamed = blamed
kind_blames_not reply t blamed = absurd t

alone_blames_not : (strategies : Strategies) (x : Step) (reply : Reply) (events : List Event) (old new : Core) → TakesAlone strategies x reply events old new → Quiet x (BlamesNot reply)
alone_blames_not strategies (Insert k v n) reply events old new t = entry_blames_not _ reply events old new t
alone_blames_not strategies (Remove k n) reply events old new t = entry_blames_not _ reply events old new t
alone_blames_not strategies (RemoveWeak k n) reply events old new t = entry_blames_not _ reply events old new t
alone_blames_not strategies (AppendEntry e) reply events old new t = entry_blames_not _ reply events old new t
alone_blames_not strategies (Write ops) reply events old new t = batch_blames_not ops reply events old new t
alone_blames_not strategies (Get k s) reply events old new t = get_blames_not k s reply events old new t
alone_blames_not strategies (GetInternalEntry k s) reply events old new t = get_entry_blames_not k s reply events old new t
alone_blames_not strategies (ContainsKey k s) reply events old new t = contains_blames_not k s old reply t.2
alone_blames_not strategies (SizeOf k s) reply events old new t = size_blames_not k s old reply t.2
alone_blames_not strategies (Range low high s) reply events old new t = pairs_blames_not _ _ s reply events old new t
alone_blames_not strategies (Iter s) reply events old new t = pairs_blames_not _ _ s reply events old new t
alone_blames_not strategies (Prefix p s) reply events old new t = pairs_blames_not _ _ s reply events old new t
alone_blames_not strategies (Len s) reply events old new t = len_blames_not s old reply t.2
alone_blames_not strategies (IsEmpty s) reply events old new t = empty_blames_not s old reply t.2
alone_blames_not strategies (FirstKeyValue s) reply events old new t = end_blames_not Front s old reply t.2
alone_blames_not strategies (LastKeyValue s) reply events old new t = end_blames_not Back s old reply t.2
alone_blames_not strategies RotateMemtable reply events old new t = rotate_blames_not reply events old new t
alone_blames_not strategies (Next counter) reply events old new t = next_blames_not counter reply events old new t
alone_blames_not strategies (Set counter n) reply events old new t = put_blames_not counter _ reply events old new t
alone_blames_not strategies (FetchMax counter n) reply events old new t = put_blames_not counter _ reply events old new t
alone_blames_not strategies (Flush n) reply events old new t = tt
alone_blames_not strategies (FlushActiveMemtable n) reply events old new t = tt
alone_blames_not strategies (Compact at n) reply events old new t = tt
alone_blames_not strategies (DoCompaction at o) reply events old new t = tt
alone_blames_not strategies (MajorCompact target n) reply events old new t = tt
alone_blames_not strategies (DropRange low high) reply events old new t = tt
alone_blames_not strategies Clear reply events old new t = tt
alone_blames_not strategies ClearActiveMemtable reply events old new t = forget_blames_not reply events old new t
alone_blames_not strategies GetNextTableId reply events old new t = table_id_blames_not reply events old new t
alone_blames_not strategies (SetMoment n) reply events old new t = moment_blames_not n reply events old new t
alone_blames_not strategies (CountOf what) reply events old new t = count_blames_not what old reply t.2
alone_blames_not strategies IsUncertain reply events old new t = uncertain_blames_not old reply t.2
alone_blames_not strategies IsCompacting reply events old new t = compacting_blames_not old reply t.2
alone_blames_not strategies TreeType reply events old new t = kind_blames_not reply t.2
alone_blames_not strategies (AtSlot slot step) reply events old new t = absurd t

-- ---- all steps

module _ {F : Type 0} (world : F → World) (was is : F) where
  quiet : (reply : Reply) → BlamesNot reply → is ≡ was → HasCause (ReplyBlames reply) (world was) (world is)
  quiet reply spares same = no_fault (ReplyBlames reply) (world was) (world is) (ap (λ (s : F). (world s).failures) same) spares

  job_cause : (strategies : Strategies) (step : JobStep) (reply : Reply) (events : List Event) (before after : Option Job) (old new : Core) → TakesJob strategies step reply events before after old new → JobHasCause world step reply was is → HasCause (ReplyBlames reply) (world was) (world is)
  job_cause strategies FlushToTables reply events before after old new t c = c
  job_cause strategies RegisterTables reply events before after old new t c = c
  job_cause strategies (BeginCompaction at o) reply events before after old new t c = c
  job_cause strategies FinishCompaction reply events before after old new t c = c
  job_cause strategies step reply events before after old new t c = quiet reply (job_blames_not strategies step reply events before after old new t) c

  pub alone_cause : (strategies : Strategies) (x : Step) (reply : Reply) (events : List Event) (old new : Core) → TakesAlone strategies x reply events old new → StepHasCause world x reply was is → HasCause (ReplyBlames reply) (world was) (world is)
  alone_cause strategies (Flush n) reply events old new t c = c
  alone_cause strategies (FlushActiveMemtable n) reply events old new t c = c
  alone_cause strategies (Compact at n) reply events old new t c = c
  alone_cause strategies (DoCompaction at o) reply events old new t c = c
  alone_cause strategies (MajorCompact target n) reply events old new t c = c
  alone_cause strategies (DropRange low high) reply events old new t c = c
  alone_cause strategies Clear reply events old new t c = c
  alone_cause strategies (AtSlot slot step) reply events old new t c = absurd t
  alone_cause strategies x reply events old new t c = quiet reply (alone_blames_not strategies x reply events old new t) c

  pub step_cause : (strategies : Strategies) (x : Step) (reply : Reply) (events : List Event) (old new : Stage) → Takes strategies x reply events old new → StepHasCause world x reply was is → HasCause (ReplyBlames reply) (world was) (world is)
  step_cause strategies (AtSlot slot step) reply events old new t c = job_cause strategies step reply events (old.jobs slot) (new.jobs slot) old.core new.core t.0 c
  step_cause strategies x reply events old new t c = alone_cause strategies x reply events old.core new.core t.0 c

-- ---- what is replied of an answer

registered_blames : (events : List Event) (r : Result Registered Error) → ReplyBlames (told_registered events r).reply → BlamesOrUnclean r
registered_blames events (Ok a) blamed = blamed
registered_blames events (Err x) blamed = blamed

pub registered_cause : (events : List Event) (r : Result Registered Error) (old new : World) → HasCause (BlamesOrUnclean r) old new → HasCause (ReplyBlames (told_registered events r).reply) old new
registered_cause events r old new c = causes_less _ _ old new c (registered_blames events r)

active_blames : (events : List Event) (r : Result (Option ℕ × Option (ℕ × Registered)) (Error × Option ℕ)) → ReplyBlames (told_active events r).reply → BlamesOrUncleanBehind r
active_blames events (Ok a) blamed = blamed
active_blames events (Err e) blamed = blamed

pub active_cause : (events : List Event) (r : Result (Option ℕ × Option (ℕ × Registered)) (Error × Option ℕ)) (old new : World) → HasCause (BlamesOrUncleanBehind r) old new → HasCause (ReplyBlames (told_active events r).reply) old new
active_cause events r old new c = causes_less _ _ old new c (active_blames events r)

begun_blames : (r : Result Begun Error) → ReplyBlames (reply_of r) → Blames r
begun_blames (Ok DidNothing) blamed = blamed
begun_blames (Ok (Declined why)) blamed = blamed
begun_blames (Ok Installed) blamed = blamed
begun_blames (Ok (BegunJob job)) blamed = blamed
begun_blames (Err e) blamed = blamed

pub begun_cause : (r : Result Begun Error) (reply : Reply) (old new : World) → reply ≡ reply_of r → HasCause (Blames r) old new → HasCause (ReplyBlames reply) old new
begun_cause r reply old new is c = rw is (causes_less _ _ old new c (begun_blames r))

-- ---- runs

-- what is the same of a store here is how many of its calls failed
pub from_same : (Blamed : Type 0) (old mid new : World) → mid.failures ≡ old.failures → HasCause Blamed mid new → HasCause Blamed old new
from_same Blamed old mid new same c =
    let up = c.rises in
    record { rises = omega (arith, up, same); cause = λ blamed. let failed = c.cause blamed in omega (arith, failed, same) }

module _ {F : Type 0} (world : F → World) where
  -- one more step
  pub causes_more : (ts : List Told) (t : Told) (was mid is : F) → EachHasCause world ts was mid → HasCause (ReplyBlames t.reply) (world mid) (world is) → EachHasCause world (ts ++ t ∷ []) was is
  causes_more [] t was mid is same c = (is, from_same (ReplyBlames t.reply) (world was) (world mid) (world is) same c, refl)
  causes_more (x ∷ ts) t was mid is each c = (each.0, each.1, causes_more ts t each.0 mid is each.2 c)

  -- before them and after them no call failed
  pub causes_between : (ts : List Told) (was first last is : F) → (world first).failures ≡ (world was).failures → (world is).failures ≡ (world last).failures → EachHasCause world ts first last → EachHasCause world ts was is
  causes_between [] was first last is before behind same = behind ∙ same ∙ before
  causes_between (t ∷ ts) was first last is before behind each =
      (each.0, from_same (ReplyBlames t.reply) (world was) (world first) (world each.0) before each.1, causes_between ts each.0 each.0 last is refl behind each.2)

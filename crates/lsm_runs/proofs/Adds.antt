-- What the steps of a run add to the journal, by their kinds and replies.
use Rattle.std.proofs.Common.{◌≡◌, inl, inr, ℕ, Bool, true, false, cond, List, [], ◌∷◌, ◌++◌, Option, Some, Result, Ok, Err, IfOk, refl, sym, ap, subst}
use Rattle.std.specs.Bool.{MatchBool}
use Rattle.std.specs.List.{AllByRecursion}
use Rattle.lsm_below.specs.Each.{each_append}
use Rattle.lsm_below.specs.Entries.{Entry}
use Rattle.lsm_below.specs.Keys.{Bytes}
use Rattle.lsm_below.specs.Ranges.{Range}
use Rattle.lsm_below.specs.declared.error.Error.{Error}
use Rattle.lsm_below.specs.declared.error.Error.TheVariants.{CommitUnknown, AfterCommit}
use Rattle.lsm_flush.specs.declared.jobs.Registered.{Registered as Outcome}
use Rattle.lsm_model.specs.Journal.{Event}
use Rattle.lsm_model.specs.declared.op.Op.{Op}
use Rattle.lsm_model.specs.declared.journal.JournalEntry.TheVariants.{Install, Mark}
use Rattle.lsm_model.specs.declared.question.Question.{Question}
use Rattle.lsm_pick.specs.declared.bounds.OwnedBounds.{OwnedBounds}
use Rattle.lsm_pick.specs.declared.choice.Choice.{Choice}
use Rattle.lsm_pick.specs.declared.choice.Choice.TheVariants.{DoNothing, Move, Merge, Drop}
use Rattle.lsm_pick.specs.declared.choice.ChooseError.{ChooseError}
use Rattle.lsm_pick.specs.Picks.{IsNothing, IsMerge, IsDrop}
use Rattle.lsm_pick.specs.Simple.{bounded}
use Rattle.lsm_pick.specs.Tables.{is_any_hidden}
use Rattle.lsm_versions.specs.Chosen.{AreIdsOf}
use Rattle.lsm_versions.specs.Levels.{HasOwnIds}
use Rattle.lsm_versions.specs.Levels as lists
use Rattle.lsm_state.specs.declared.compaction.Options.{Options}
use Rattle.lsm_state.specs.declared.compaction.Begun.{Begun}
use Rattle.lsm_state.specs.declared.compaction.Begun.TheVariants.{DidNothing, Declined, Installed, Job as BegunJob}
use Rattle.lsm_state.specs.declared.compaction.Finished.{Finished}
use Rattle.lsm_state.specs.declared.compaction.Finished.TheVariants.{Installed as IsFinished, Declined as Over}
use Rattle.lsm_state.specs.Core.{Core}
use Rattle.lsm_state.specs.Compactions.{Relation, MayAnswer, levels_of}
use Rattle.lsm_state.specs.CompactionReads.{ranges_told, TellsChoice, TellsMerge}
use Rattle.lsm_state.specs.Dropping.{DropsSome, drops_some}
use Rattle.lsm_state.specs.FlushReads.{register_events, flush_events}
use Rattle.lsm_state.specs.WholeCompactions.{options_at, only_memory, major_choice, drop_choice}
use Rattle.lsm_journal.specs.Noted.{IsAnswerOf, BeginsAnswer, TellsBehind, CompactsAnswer}
use Rattle.lsm_runs.specs.declared.slots.Job.{Job}
use Rattle.lsm_runs.specs.declared.steps.Counter.{Counter}
use Rattle.lsm_runs.specs.declared.steps.JobStep.{JobStep}
use Rattle.lsm_runs.specs.declared.steps.JobStep.TheVariants as job
use Rattle.lsm_runs.specs.declared.steps.Reply.{Reply}
use Rattle.lsm_runs.specs.declared.steps.Reply.TheVariants as reply
use Rattle.lsm_runs.specs.declared.steps.Step.{Step as Call}
use Rattle.lsm_runs.specs.declared.steps.Step.TheVariants as step
use Rattle.lsm_runs.specs.Adds.{AddsEntry, AddsBatch, AddsGet, AddsPairs, AddsClear, NoRanges, RangesWithin, IsUpkeep, IsUpkeepOrDrop, JobAdds, Adds, EachAdds}
use Rattle.lsm_runs.specs.Clearing.{TakesClear, TakesForget}
use Rattle.lsm_runs.specs.Compacting.{Strategies, TakesBeginCompaction, TakesRunCompaction, TakesFinish, TakesAbandonCompaction, CompactsFrom, TakesCompact, TakesMajor, TakesDropRange, TakesTableId}
use Rattle.lsm_runs.specs.Dropping.{may_drop}
use Rattle.lsm_runs.specs.Flushing.{TakesBegin, TakesRun, TakesTables, TakesRegister, TakesAbandon, TakesFlush, TakesFlushActive, TakesMoment}
use Rattle.lsm_runs.specs.JobSteps.{TakesJob}
use Rattle.lsm_runs.specs.OpenFlushes.{BegunFlush, none_begun, begun_after}
use Rattle.lsm_runs.specs.ReadSteps.{TakesGet, TakesGetEntry, TakesPairs}
use Rattle.lsm_runs.specs.Runs.{Takes, TakesAlone, TakesEntry, TakesBatch, TakesRotate, TakesNext, TakesCounter, Ran, RanToEnd}
use Rattle.lsm_runs.specs.Slots.{Stage, at_first}
use Rattle.lsm_runs.specs.Told.{Told}
use Rattle.lsm_runs.proofs.Dropping.{drop_within}
use Rattle.lsm_runs.proofs.Merged.{AreMerged, merged_at, merged_in, first_merged, own_merged, takes_merged}

-- ---- writes, reads and counters

entry_adds : (e : Entry) (r : Reply) (events : List Event) (old new : Core) → TakesEntry e r events old new → AddsEntry e r events
entry_adds e (reply.Sizes size total) events old new t = t.0
entry_adds e (reply.Refused x) events old new t = t.0
entry_adds e r events old new t = absurd t

batch_adds : (ops : List (Bytes × Op)) (r : Reply) (events : List Event) (old new : Core) → TakesBatch ops r events old new → AddsBatch ops r events
batch_adds ops (reply.Number n) events old new t = t.0
batch_adds ops (reply.Refused x) events old new t = t.0
batch_adds ops r events old new t = absurd t

get_adds : (k : Bytes) (s : ℕ) (r : Reply) (events : List Event) (old new : Core) → TakesGet k s r events old new → AddsGet k s r events
get_adds k s (reply.Value v) events old new t = t.0
get_adds k s (reply.Refused x) events old new t = t.0
get_adds k s r events old new t = absurd t

entry_of_adds : (k : Bytes) (s : ℕ) (r : Reply) (events : List Event) (old new : Core) → TakesGetEntry k s r events old new → events ≡ []
entry_of_adds k s (reply.Entry e) events old new t = t.0
entry_of_adds k s (reply.Refused x) events old new t = t.0
entry_of_adds k s r events old new t = absurd t

pairs_add : (question : Question) (Right : List (Bytes × Bytes) → Type 0) (s : ℕ) (r : Reply) (events : List Event) (old new : Core) → TakesPairs question Right s r events old new → AddsPairs question s r events
pairs_add question Right s (reply.Pairs pairs) events old new t = t.0
pairs_add question Right s (reply.Refused x) events old new t = t.0
pairs_add question Right s r events old new t = absurd t

rotate_adds : (r : Reply) (events : List Event) (old new : Core) → TakesRotate r events old new → events ≡ []
rotate_adds (reply.Sealed id) events old new t = t.0
rotate_adds (reply.Refused x) events old new t = t.0
rotate_adds r events old new t = absurd t

next_adds : (counter : Counter) (r : Reply) (events : List Event) (old new : Core) → TakesNext counter r events old new → events ≡ []
next_adds counter (reply.Number n) events old new t = t.0
next_adds counter (reply.Refused x) events old new t = t.0
next_adds counter r events old new t = absurd t

counter_adds : (counter : Counter) (n : ℕ) (r : Reply) (events : List Event) (old new : Core) → TakesCounter counter n r events old new → events ≡ []
counter_adds counter n reply.Done events old new t = t.0
counter_adds counter n r events old new t = absurd t

id_adds : (r : Reply) (events : List Event) (old new : Core) → TakesTableId r events old new → events ≡ []
id_adds (reply.Number n) events old new t = t.0
id_adds (reply.Refused x) events old new t = t.0
id_adds r events old new t = absurd t

moment_adds : (n : ℕ) (r : Reply) (events : List Event) (old new : Core) → TakesMoment n r events old new → events ≡ []
moment_adds n reply.Done events old new t = t.0
moment_adds n r events old new t = absurd t

clear_adds : (r : Reply) (events : List Event) (old new : Core) → TakesClear r events old new → AddsClear r events
clear_adds (reply.Cleared n) events old new t = t.0
clear_adds (reply.Refused x) events old new t = t.0
clear_adds r events old new t = absurd t

forget_adds : (r : Reply) (events : List Event) (old new : Core) → TakesForget r events old new → events ≡ []
forget_adds reply.Done events old new t = t.0
forget_adds (reply.Refused x) events old new t = t.0
forget_adds r events old new t = absurd t

-- ---- flushes

all_of : (P : Event → Type 0) (events told : List Event) → events ≡ told → AllByRecursion P told → AllByRecursion P events
all_of P events told is h = subst (AllByRecursion P) (sym is) h

registered : (w v n : ℕ) → v ≡ w → (r : Result Outcome Error) → AllByRecursion (IsUpkeep (λ u. u ≡ w)) (register_events v n r)
registered w v n own (Ok a) = elim a.installed as (λ b. AllByRecursion (IsUpkeep (λ u. u ≡ w)) (cond b (Mark v ∷ (Install n ∷ [])) (Mark v ∷ []))) [ true ↦ (own, (tt, tt)) | false ↦ (own, tt) ]
registered w v n own (Err e) = (own, tt)

flushed : (w n : ℕ) (marked : Bool) (r : Result (Option (ℕ × Outcome)) Error) → AllByRecursion (IsUpkeep (λ v. v ≡ w)) (flush_events w n marked r)
flushed w n false r = tt
flushed w n true (Ok a) = (refl, (tt, tt))
flushed w n true (Err e) = (refl, tt)

flush_adds : (w : ℕ) (r : Reply) (events : List Event) (old new : Core) → TakesFlush w r events old new → AllByRecursion (IsUpkeep (λ v. v ≡ w)) events
flush_adds w (reply.Flushed a) events old new t = all_of (IsUpkeep (λ v. v ≡ w)) events _ t.1 (flushed w old.seqno t.0 (Ok a))
flush_adds w (reply.Refused x) events old new t = all_of (IsUpkeep (λ v. v ≡ w)) events _ t.1 (flushed w old.seqno t.0 (Err x))
flush_adds w r events old new t = absurd t

active_adds : (w : ℕ) (r : Reply) (events : List Event) (old new : Core) → TakesFlushActive w r events old new → AllByRecursion (IsUpkeep (λ v. v ≡ w)) events
active_adds w (reply.FlushedActive id a) events old new t = all_of (IsUpkeep (λ v. v ≡ w)) events _ t.2.1 (flushed w t.0.seqno t.2.0 (Ok a))
active_adds w (reply.RefusedActive id x) events old new (inl t) = all_of (IsUpkeep (λ v. v ≡ w)) events [] t.0 tt
active_adds w (reply.RefusedActive id x) events old new (inr t) = all_of (IsUpkeep (λ v. v ≡ w)) events _ t.2.1 (flushed w t.0.seqno t.2.0 (Err x))
active_adds w r events old new t = absurd t

register_adds : (flush : BegunFlush) (r : Reply) (events : List Event) (was is : Option Job) (old new : Core) → ((w : ℕ) → merged_at was ≡ Some w → w ≡ flush.watermark) → TakesRegister r events was is old new → AllByRecursion (IsUpkeep (λ v. v ≡ flush.watermark)) events
register_adds flush (reply.Registered a) events was is old new known t = all_of (IsUpkeep (λ v. v ≡ flush.watermark)) events _ t.3 (registered flush.watermark t.0.watermark old.seqno (known t.0.watermark (ap merged_at t.1)) (Ok a))
register_adds flush (reply.Refused x) events was is old new known t = all_of (IsUpkeep (λ v. v ≡ flush.watermark)) events _ t.3 (registered flush.watermark t.0.watermark old.seqno (known t.0.watermark (ap merged_at t.1)) (Err x))
register_adds flush reply.NoJob events was is old new known t = all_of (IsUpkeep (λ v. v ≡ flush.watermark)) events [] t.0.0 tt
register_adds flush r events was is old new known t = absurd t

begin_adds : (r : Reply) (events : List Event) (was is : Option Job) (old new : Core) → TakesBegin r events was is old new → events ≡ []
begin_adds (reply.Begun b) events was is old new t = t.0
begin_adds (reply.Refused x) events was is old new t = t.0.0
begin_adds reply.SlotInUse events was is old new t = t.0.0
begin_adds r events was is old new t = absurd t

run_adds : (w : ℕ) (r : Reply) (events : List Event) (was is : Option Job) (old new : Core) → TakesRun w r events was is old new → events ≡ []
run_adds w reply.Done events was is old new t = t.0
run_adds w (reply.Refused x) events was is old new t = t.0.0
run_adds w reply.NoJob events was is old new t = t.0.0
run_adds w r events was is old new t = absurd t

tables_add : (r : Reply) (events : List Event) (was is : Option Job) (old new : Core) → TakesTables r events was is old new → events ≡ []
tables_add reply.Done events was is old new t = t.0
tables_add (reply.Refused x) events was is old new t = t.0
tables_add reply.NoJob events was is old new t = t.0.0
tables_add r events was is old new t = absurd t

abandon_adds : (r : Reply) (events : List Event) (was is : Option Job) (old new : Core) → TakesAbandon r events was is old new → events ≡ []
abandon_adds reply.Done events was is old new t = t.0
abandon_adds reply.NoJob events was is old new t = t.0.0
abandon_adds r events was is old new t = absurd t

-- ---- compactions

-- where the watermark may be marked, and what a choice tells as dropped may be dropped
module _ (Of : ℕ → Type 0) (May : List Range → Type 0) where
  abbrev IsTold : Event → Type 0
  IsTold = IsUpkeepOrDrop Of May

  abbrev MayTell : Core → Choice → Type 0
  MayTell c choice = AllByRecursion IsTold (ranges_told choice c)

  choice_adds : (choice : Choice) (w : ℕ) → Of w → (r : Result Begun Error) (c : Core) (events : List Event) → MayTell c choice → TellsChoice choice w r c events → AllByRecursion IsTold events
  choice_adds choice w own (Ok Installed) c events may t = all_of IsTold events _ (t.done (inl refl)) (own, each_append IsTold (ranges_told choice c) (Install c.seqno ∷ []) may (tt, tt))
  choice_adds choice w own (Ok DidNothing) c events may t = all_of IsTold events (Mark w ∷ []) (t.told (λ h. cc h)) (own, tt)
  choice_adds choice w own (Ok (Declined why)) c events may t = all_of IsTold events (Mark w ∷ []) (t.told (λ h. cc h)) (own, tt)
  choice_adds choice w own (Ok (BegunJob job)) c events may t = all_of IsTold events (Mark w ∷ []) (t.told (λ h. cc h)) (own, tt)
  choice_adds choice w own (Err AfterCommit) c events may t = all_of IsTold events _ (t.done (inr refl)) (own, each_append IsTold (ranges_told choice c) (Install c.seqno ∷ []) may (tt, tt))
  choice_adds choice w own (Err CommitUnknown) c events may t = all_of IsTold events _ (t.lost refl) (own, may)
  choice_adds choice w own (Err e) c events may t = all_of IsTold events (Mark w ∷ []) (t.refused (λ h. cc h) (λ h. cc h)) (own, tt)

  behind_adds : (begun r : Result Begun Error) (c : Core) (events : List Event) → TellsBehind begun r c events → AllByRecursion IsTold events
  behind_adds (Ok (BegunJob job)) r c events (inl t) = all_of IsTold events (Install c.seqno ∷ []) t.1 (tt, tt)
  behind_adds (Ok (BegunJob job)) r c events (inr t) = all_of IsTold events [] t.2 tt
  behind_adds (Ok DidNothing) r c events t = all_of IsTold events [] t tt
  behind_adds (Ok (Declined why)) r c events t = all_of IsTold events [] t tt
  behind_adds (Ok Installed) r c events t = all_of IsTold events [] t tt
  behind_adds (Err e) r c events t = all_of IsTold events [] t tt

  begun_adds : (answer : Result Choice Error) (o : Options) → Of o.mvcc_gc_watermark → (r : Result Begun Error) (events : List Event) (old new : Core) → IfOk answer (MayTell old) → BeginsAnswer answer o r events old new → AllByRecursion IsTold events
  begun_adds (Ok choice) o own r events old new may b = choice_adds choice o.mvcc_gc_watermark own r old events may b.2
  begun_adds (Err e) o own r events old new may b = all_of IsTold events (Mark o.mvcc_gc_watermark ∷ []) b.1 (own, tt)

  compacted_adds : (answer : Result Choice Error) (o : Options) → Of o.mvcc_gc_watermark → (r : Result Begun Error) (events : List Event) (old new : Core) → IfOk answer (MayTell old) → CompactsAnswer answer o r events old new → AllByRecursion IsTold events
  compacted_adds (Ok choice) o own r events old new may c =
      all_of IsTold events (c.front ++ c.behind) c.told (each_append IsTold c.front c.behind (choice_adds choice o.mvcc_gc_watermark own c.compacts.begun old c.front may c.begins) (behind_adds c.compacts.begun r c.compacts.mid c.behind c.follows))
  compacted_adds (Err e) o own r events old new may b = all_of IsTold events (Mark o.mvcc_gc_watermark ∷ []) b.1 (own, tt)

  module _ (may_choose : Relation Choice) (may_refuse : Relation ChooseError) where
    answer_may : (c : Core) → ((choice : Choice) → MayAnswer may_choose c choice → MayTell c choice) → (answer : Result Choice Error) → IsAnswerOf may_choose may_refuse c answer → IfOk answer (MayTell c)
    answer_may c may (Ok choice) is = may choice is.1
    answer_may c may (Err e) is = tt

    from_adds : (o : Options) → Of o.mvcc_gc_watermark → (r : Reply) (events : List Event) (old new : Core) → ((choice : Choice) → MayAnswer may_choose old choice → MayTell old choice) → CompactsFrom may_choose may_refuse o r events old new → AllByRecursion IsTold events
    from_adds o own r events old new may c = compacted_adds c.answer o own c.does.done events old new (answer_may old may c.answer c.answered) c.does.compacts

-- a strategy of the caller's drops what it may
chosen_told : (Of : ℕ → Type 0) (may : Relation Choice) (c : Core) (choice : Choice) → MayAnswer may c choice → MayTell Of (DropsSome may) c choice
chosen_told Of may c DoNothing is = tt
chosen_told Of may c (Move input) is = tt
chosen_told Of may c (Merge input) is = tt
chosen_told Of may c (Drop ids) is = (drops_some may c _ (ids.keys, (Drop ids, is, refl), refl), tt)

compact_adds : (strategies : Strategies) (at : ℕ) (o : Options) (r : Reply) (events : List Event) (old new : Core) → TakesCompact strategies at o r events old new → AllByRecursion (IsUpkeepOrDrop (λ v. v ≡ o.mvcc_gc_watermark) (may_drop strategies at)) events
compact_adds strategies at o reply.NoStrategy events old new t = all_of (IsUpkeepOrDrop (λ v. v ≡ o.mvcc_gc_watermark) (may_drop strategies at)) events [] t.0 tt
compact_adds strategies at o r events old new t = from_adds (λ v. v ≡ o.mvcc_gc_watermark) (may_drop strategies at) (strategies.may_choose at) (strategies.may_refuse at) o refl r events old new (chosen_told (λ v. v ≡ o.mvcc_gc_watermark) (strategies.may_choose at) old) t.1

-- a merge of all tables drops none
none_told : (target w : ℕ) (c : Core) (choice : Choice) → MayAnswer (major_choice target) c choice → MayTell (λ v. v ≡ w) NoRanges c choice
none_told target w c DoNothing may = tt
none_told target w c (Move input) may = tt
none_told target w c (Merge input) may = tt
none_told target w c (Drop ids) may = absurd (no_ids (is_any_hidden may.0 (lists.all_of (levels_of c))) may.2)
  where
    no_ids : (hidden : Bool) → MatchBool hidden (IsNothing (Drop ids)) (IsMerge (Drop ids) (lists.all_of (levels_of c)) 6 6 target) → ⊥
    no_ids true h = h
    no_ids false h = h

major_adds : (target w : ℕ) (r : Reply) (events : List Event) (old new : Core) → TakesMajor target w r events old new → AllByRecursion (IsUpkeep (λ v. v ≡ w)) events
major_adds target w r events old new t = from_adds (λ v. v ≡ w) NoRanges (major_choice target) only_memory (options_at w old) refl r events old new (none_told target w old) t

-- a drop of a range only those within it
within_told : (bounds : OwnedBounds) (c : Core) → HasOwnIds (lists.all_of (levels_of c)) → (choice : Choice) → MayAnswer (drop_choice bounds) c choice → MayTell (λ v. v ≡ 0) (RangesWithin bounds.start bounds.end) c choice
within_told bounds c own DoNothing may = tt
within_told bounds c own (Move input) may = tt
within_told bounds c own (Merge input) may = tt
within_told bounds c own (Drop ids) may = (drop_within bounds ids.keys (levels_of c) own (chosen (is_any_hidden may.0 (bounded bounds (levels_of c))) may.2), tt)
  where
    chosen : (hidden : Bool) → MatchBool hidden (IsNothing (Drop ids)) (IsDrop (Drop ids) (bounded bounds (levels_of c))) → AreIdsOf ids.keys (bounded bounds (levels_of c))
    chosen true h = absurd h
    chosen false h = h

range_adds : (bounds : OwnedBounds) (r : Reply) (events : List Event) (old new : Core) → TakesDropRange bounds r events old new → AllByRecursion (IsUpkeepOrDrop (λ v. v ≡ 0) (RangesWithin bounds.start bounds.end)) events
range_adds bounds r events old new (inl t) = all_of (IsUpkeepOrDrop (λ v. v ≡ 0) (RangesWithin bounds.start bounds.end)) events [] t.3 tt
range_adds bounds r events old new (inr t) = from_adds (λ v. v ≡ 0) (RangesWithin bounds.start bounds.end) (drop_choice bounds) only_memory (options_at 0 old) refl r events old new (within_told bounds old t.2) t.1

begin_compaction_adds : (strategies : Strategies) (at : ℕ) (o : Options) (r : Reply) (events : List Event) (was is : Option Job) (old new : Core) → TakesBeginCompaction strategies at o r events was is old new → AllByRecursion (IsUpkeepOrDrop (λ v. v ≡ o.mvcc_gc_watermark) (may_drop strategies at)) events
begin_compaction_adds strategies at o reply.SlotInUse events was is old new t = all_of (IsUpkeepOrDrop (λ v. v ≡ o.mvcc_gc_watermark) (may_drop strategies at)) events [] t.0.0 tt
begin_compaction_adds strategies at o reply.NoStrategy events was is old new t = all_of (IsUpkeepOrDrop (λ v. v ≡ o.mvcc_gc_watermark) (may_drop strategies at)) events [] t.0.0 tt
begin_compaction_adds strategies at o r events was is old new t =
    let may = strategies.may_choose at in
    let told = answer_may (λ v. v ≡ o.mvcc_gc_watermark) (may_drop strategies at) may (strategies.may_refuse at) old (chosen_told (λ v. v ≡ o.mvcc_gc_watermark) may old) t.answer t.answered in
    begun_adds (λ v. v ≡ o.mvcc_gc_watermark) (may_drop strategies at) t.answer o refl t.begun events old new told t.begins

run_compaction_adds : (r : Reply) (events : List Event) (was is : Option Job) (old new : Core) → TakesRunCompaction r events was is old new → events ≡ []
run_compaction_adds reply.Done events was is old new t = t.0
run_compaction_adds (reply.Refused x) events was is old new t = t.0.0
run_compaction_adds reply.NoJob events was is old new t = t.0.0
run_compaction_adds r events was is old new t = absurd t

merge_adds : (r : Result Finished Error) (c : Core) (events : List Event) → TellsMerge r c events → AllByRecursion (IsUpkeep (λ v. ⊥)) events
merge_adds (Ok IsFinished) c events t = all_of (IsUpkeep (λ v. ⊥)) events (Install c.seqno ∷ []) (t.done (inl refl)) (tt, tt)
merge_adds (Ok (Over why)) c events t = all_of (IsUpkeep (λ v. ⊥)) events [] (t.told (λ h. cc h)) tt
merge_adds (Err AfterCommit) c events t = all_of (IsUpkeep (λ v. ⊥)) events (Install c.seqno ∷ []) (t.done (inr refl)) (tt, tt)
merge_adds (Err CommitUnknown) c events t = all_of (IsUpkeep (λ v. ⊥)) events [] (t.lost refl) tt
merge_adds (Err e) c events t = all_of (IsUpkeep (λ v. ⊥)) events [] (t.refused (λ h. cc h) (λ h. cc h)) tt

finish_adds : (r : Reply) (events : List Event) (was is : Option Job) (old new : Core) → TakesFinish r events was is old new → AllByRecursion (IsUpkeep (λ v. ⊥)) events
finish_adds reply.NoJob events was is old new t = all_of (IsUpkeep (λ v. ⊥)) events [] t.0.0 tt
finish_adds r events was is old new t = merge_adds t.end old events t.ends.2

abandon_compaction_adds : (r : Reply) (events : List Event) (was is : Option Job) (old new : Core) → TakesAbandonCompaction r events was is old new → events ≡ []
abandon_compaction_adds reply.Done events was is old new t = t.0
abandon_compaction_adds reply.NoJob events was is old new t = t.0.0
abandon_compaction_adds r events was is old new t = absurd t

-- ---- all steps

module _ (strategies : Strategies) (begun : ℕ → BegunFlush) where
  job_adds : (flush : BegunFlush) (x : JobStep) (r : Reply) (events : List Event) (was is : Option Job) (old new : Core) → ((w : ℕ) → merged_at was ≡ Some w → w ≡ flush.watermark) → TakesJob strategies x r events was is old new → JobAdds (may_drop strategies) flush x events
  job_adds flush job.BeginFlush r events was is old new known t = begin_adds r events was is old new t
  job_adds flush (job.RunFlush w) r events was is old new known t = run_adds w r events was is old new t
  job_adds flush job.FlushToTables r events was is old new known t = tables_add r events was is old new t
  job_adds flush job.RegisterTables r events was is old new known t = register_adds flush r events was is old new known t
  job_adds flush job.AbandonFlush r events was is old new known t = abandon_adds r events was is old new t
  job_adds flush (job.BeginCompaction at o) r events was is old new known t = begin_compaction_adds strategies at o r events was is old new t
  job_adds flush job.RunCompaction r events was is old new known t = run_compaction_adds r events was is old new t
  job_adds flush job.FinishCompaction r events was is old new known t = finish_adds r events was is old new t
  job_adds flush job.AbandonCompaction r events was is old new known t = abandon_compaction_adds r events was is old new t

  alone_adds : (x : Call) (r : Reply) (events : List Event) (old new : Core) → TakesAlone strategies x r events old new → Adds (may_drop strategies) begun x r events
  alone_adds (step.Insert k v n) r events old new t = entry_adds _ r events old new t
  alone_adds (step.Remove k n) r events old new t = entry_adds _ r events old new t
  alone_adds (step.RemoveWeak k n) r events old new t = entry_adds _ r events old new t
  alone_adds (step.AppendEntry e) r events old new t = entry_adds _ r events old new t
  alone_adds (step.Write ops) r events old new t = batch_adds ops r events old new t
  alone_adds (step.Get k s) r events old new t = get_adds k s r events old new t
  alone_adds (step.GetInternalEntry k s) r events old new t = entry_of_adds k s r events old new t
  alone_adds (step.ContainsKey k s) r events old new t = t.0
  alone_adds (step.SizeOf k s) r events old new t = t.0
  alone_adds (step.Range low high s) r events old new t = pairs_add _ _ s r events old new t
  alone_adds (step.Iter s) r events old new t = pairs_add _ _ s r events old new t
  alone_adds (step.Prefix p s) r events old new t = pairs_add _ _ s r events old new t
  alone_adds (step.Len s) r events old new t = t.0
  alone_adds (step.IsEmpty s) r events old new t = t.0
  alone_adds (step.FirstKeyValue s) r events old new t = t.0
  alone_adds (step.LastKeyValue s) r events old new t = t.0
  alone_adds step.RotateMemtable r events old new t = rotate_adds r events old new t
  alone_adds (step.Next counter) r events old new t = next_adds counter r events old new t
  alone_adds (step.Set counter n) r events old new t = counter_adds counter n r events old new t
  alone_adds (step.FetchMax counter n) r events old new t = counter_adds counter _ r events old new t
  alone_adds (step.Flush w) r events old new t = flush_adds w r events old new t
  alone_adds (step.FlushActiveMemtable w) r events old new t = active_adds w r events old new t
  alone_adds (step.Compact at w) r events old new t = compact_adds strategies at _ r events old new t
  alone_adds (step.DoCompaction at o) r events old new t = compact_adds strategies at o r events old new t
  alone_adds (step.MajorCompact target w) r events old new t = major_adds target w r events old new t
  alone_adds (step.DropRange low high) r events old new t = range_adds _ r events old new t
  alone_adds step.Clear r events old new t = clear_adds r events old new t
  alone_adds step.ClearActiveMemtable r events old new t = forget_adds r events old new t
  alone_adds step.GetNextTableId r events old new t = id_adds r events old new t
  alone_adds (step.SetMoment n) r events old new t = moment_adds n r events old new t
  alone_adds (step.Count what) r events old new t = t.0
  alone_adds step.IsUncertain r events old new t = t.0
  alone_adds step.IsCompacting r events old new t = t.0
  alone_adds step.TreeType r events old new t = t.0
  alone_adds (step.AtSlot slot x) r events old new t = absurd t

  pub takes_adds : (x : Call) (r : Reply) (events : List Event) (old new : Stage) → AreMerged begun old.jobs → Takes strategies x r events old new → Adds (may_drop strategies) begun x r events
  takes_adds (step.AtSlot slot x) r events old new known t = job_adds (begun slot) x r events (old.jobs slot) (new.jobs slot) old.core new.core (known slot) t.0
  takes_adds x r events old new known t = alone_adds x r events old.core new.core t.0

-- where nothing is known of the flushes that were begun, what waits tells it
pub takes_add_some : (strategies : Strategies) (x : Call) (r : Reply) (events : List Event) (old new : Stage) → Takes strategies x r events old new → Adds (may_drop strategies) (merged_in old.jobs) x r events
takes_add_some strategies x r events old new t = takes_adds strategies (merged_in old.jobs) x r events old new (own_merged old.jobs) t

ran_adds : (strategies : Strategies) (begun : ℕ → BegunFlush) (xs : List Call) (ts : List Told) (old new : Stage) → AreMerged begun old.jobs → Ran strategies xs ts old new → EachAdds (may_drop strategies) begun xs ts
ran_adds strategies begun [] [] old new known r = tt
ran_adds strategies begun [] (t ∷ ts) old new known r = absurd r
ran_adds strategies begun (x ∷ xs) [] old new known r = absurd r
ran_adds strategies begun (x ∷ xs) (t ∷ ts) old new known r = (
  takes_adds strategies begun x t.reply t.entries old r.0 known r.1,
  λ sealed. ran_adds strategies (begun_after sealed x t.reply begun) xs ts r.0 new (takes_merged strategies sealed begun x t.reply t.entries old r.0 known r.1) r.2,
)

pub run_adds_so : (strategies : Strategies) (xs : List Call) (ts : List Told) (old new : Core) → RanToEnd strategies xs ts old new → EachAdds (may_drop strategies) none_begun xs ts
run_adds_so strategies xs ts old new r = ran_adds strategies none_begun xs ts (at_first old) r.0 (first_merged old) r.1

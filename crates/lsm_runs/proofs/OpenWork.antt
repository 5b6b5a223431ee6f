-- Steps that need no slot leave the open flush and the open merges.
use Rattle.std.proofs.Common.{◌≡◌, ℕ, inl, inr, List, Option, Some, None, Result, Ok, Err, refl, ◌∙◌}
use Rattle.lsm_below.specs.Entries.{Entry}
use Rattle.lsm_below.specs.Keys.{Bytes}
use Rattle.lsm_below.specs.declared.error.Error.{Error}
use Rattle.lsm_model.specs.Journal.{Event}
use Rattle.lsm_model.specs.declared.op.Op.{Op}
use Rattle.lsm_model.specs.declared.question.Question.{Question}
use Rattle.lsm_iter.specs.Guards.{Pair}
use Rattle.lsm_flush.specs.declared.jobs.Registered.{Registered as Outcome}
use Rattle.lsm_pick.specs.declared.bounds.OwnedBounds.{OwnedBounds}
use Rattle.lsm_pick.specs.declared.choice.Choice.{Choice}
use Rattle.lsm_pick.specs.declared.choice.ChooseError.{ChooseError}
use Rattle.lsm_state.specs.declared.compaction.Options.{Options}
use Rattle.lsm_state.specs.Compactions.{Relation}
use Rattle.lsm_state.specs.Core.{Core, rotated_core, written_core}
use Rattle.lsm_state.specs.Calls.{Rotates}
use Rattle.lsm_state.specs.WholeFlushes.{Flushes}
use Rattle.lsm_runs.specs.declared.steps.Counter.{Counter}
use Rattle.lsm_runs.specs.declared.steps.Counter.TheVariants.{Seqno, Visible}
use Rattle.lsm_runs.specs.declared.steps.Step.{Step}
use Rattle.lsm_runs.specs.declared.steps.Step.TheVariants.{Insert, Remove, RemoveWeak, AppendEntry, Write, Get, GetInternalEntry, ContainsKey, SizeOf, Range, Iter, Prefix, Len, IsEmpty, FirstKeyValue, LastKeyValue, RotateMemtable, Next, Set, FetchMax, AtSlot, Flush, FlushActiveMemtable, Compact, DoCompaction, MajorCompact, DropRange, Clear, ClearActiveMemtable, GetNextTableId, SetMoment, Count as CountOf, IsUncertain, IsCompacting, TreeType}
use Rattle.lsm_runs.specs.declared.steps.Reply.{Reply}
use Rattle.lsm_runs.specs.declared.steps.Reply.TheVariants.{Value, Entry as EntryOf, Pairs, Sizes, Number, Sealed, Done, Flushed, FlushedActive, RefusedActive, NoStrategy, Refused}
use Rattle.lsm_runs.specs.ReadSteps.{TakesGet, TakesGetEntry, TakesPairs}
use Rattle.lsm_runs.specs.Flushing.{TakesFlush, TakesFlushActive, TakesMoment}
use Rattle.lsm_runs.specs.Compacting.{Strategies, CompactsFrom, TakesCompact, TakesDropRange, TakesTableId}
use Rattle.lsm_runs.specs.Runs.{TakesAlone, TakesEntry, TakesBatch, TakesRotate, TakesNext, TakesCounter, with_counter}
use Rattle.lsm_runs.proofs.Clearing.{clear_work, forget_work}
use Rattle.lsm_runs.proofs.CompactionRest.{KeepsOpenWork, KeepsWork, AreBelow, kept_by, all_kept, compacted_work}

join_work : (old mid new : Core) → KeepsOpenWork old mid → KeepsOpenWork mid new → KeepsOpenWork old new
join_work old mid new first second = (second.0 ∙ first.0, second.1 ∙ first.1)

-- ---- steps that need no slot

entry_work : (e : Entry) (reply : Reply) (events : List Event) (old new : Core) → TakesEntry e reply events old new → KeepsOpenWork old new
entry_work e (Sizes size total) events old new t = kept_by old (written_core e old) new t.1.core (refl, refl)
entry_work e (Refused x) events old new t = kept_by old old new t.1.unchanged (refl, refl)
entry_work e reply events old new t = absurd t

batch_work : (ops : List (Bytes × Op)) (reply : Reply) (events : List Event) (old new : Core) → TakesBatch ops reply events old new → KeepsOpenWork old new
batch_work ops (Number n) events old new t = kept_by old _ new t.1.core (refl, refl)
batch_work ops (Refused x) events old new t = kept_by old old new t.1.unchanged (refl, refl)
batch_work ops reply events old new t = absurd t

get_work : (k : Bytes) (s : ℕ) (reply : Reply) (events : List Event) (old new : Core) → TakesGet k s reply events old new → KeepsOpenWork old new
get_work k s (Value v) events old new t = kept_by old old new t.1 (refl, refl)
get_work k s (Refused x) events old new t = kept_by old old new t.1 (refl, refl)
get_work k s reply events old new t = absurd t

get_entry_work : (k : Bytes) (s : ℕ) (reply : Reply) (events : List Event) (old new : Core) → TakesGetEntry k s reply events old new → KeepsOpenWork old new
get_entry_work k s (EntryOf e) events old new t = kept_by old old new t.1 (refl, refl)
get_entry_work k s (Refused x) events old new t = kept_by old old new t.1 (refl, refl)
get_entry_work k s reply events old new t = absurd t

pairs_work : (question : Question) (Right : List Pair → Type 0) (s : ℕ) (reply : Reply) (events : List Event) (old new : Core) → TakesPairs question Right s reply events old new → KeepsOpenWork old new
pairs_work question Right s (Pairs pairs) events old new t = kept_by old old new t.1 (refl, refl)
pairs_work question Right s (Refused x) events old new t = kept_by old old new t.1 (refl, refl)
pairs_work question Right s reply events old new t = absurd t

rotated_work : (old : Core) (id : Option ℕ) (new : Core) → Rotates old id new → KeepsOpenWork old new
rotated_work old None new r = kept_by old old new r.1 (refl, refl)
rotated_work old (Some id) new r = kept_by old (rotated_core old) new r.2 (refl, refl)

rotate_work : (reply : Reply) (events : List Event) (old new : Core) → TakesRotate reply events old new → KeepsOpenWork old new
rotate_work (Sealed id) events old new t = rotated_work old id new t.1
rotate_work (Refused x) events old new t = kept_by old old new t.1 (refl, refl)
rotate_work reply events old new t = absurd t

counter_work : (counter : Counter) (n : ℕ) (old new : Core) → new ≡ with_counter counter n old → KeepsOpenWork old new
counter_work Seqno n old new is = kept_by old _ new is (refl, refl)
counter_work Visible n old new is = kept_by old _ new is (refl, refl)

next_work : (counter : Counter) (reply : Reply) (events : List Event) (old new : Core) → TakesNext counter reply events old new → KeepsOpenWork old new
next_work counter (Number n) events old new t = counter_work counter _ old new t.3
next_work counter (Refused x) events old new t = kept_by old old new t.3 (refl, refl)
next_work counter reply events old new t = absurd t

put_work : (counter : Counter) (n : ℕ) (reply : Reply) (events : List Event) (old new : Core) → TakesCounter counter n reply events old new → KeepsOpenWork old new
put_work counter n Done events old new t = counter_work counter n old new t.1
put_work counter n reply events old new t = absurd t

moment_work : (n : ℕ) (reply : Reply) (events : List Event) (old new : Core) → TakesMoment n reply events old new → KeepsOpenWork old new
moment_work n Done events old new t = kept_by old _ new t.1 (refl, refl)
moment_work n reply events old new t = absurd t

-- a flush in one call leaves none open that wasn't
whole_flush_work : (w : ℕ) (r : Result (Option (ℕ × Outcome)) Error) (old new : Core) → Flushes w r old new → KeepsOpenWork old new
whole_flush_work w (Ok None) old new f = kept_by old old new (f.some refl).1 (refl, refl)
whole_flush_work w (Ok (Some a)) old new f = kept_by old _ new f.installs.installs.cleans.rest (refl, refl)
whole_flush_work w (Err x) old new f = kept_by old _ new f.err.rest (refl, refl)

flush_work : (w : ℕ) (reply : Reply) (events : List Event) (old new : Core) → TakesFlush w reply events old new → KeepsOpenWork old new
flush_work w (Flushed a) events old new t = whole_flush_work w (Ok a) old new t.2
flush_work w (Refused x) events old new t = whole_flush_work w (Err x) old new t.2
flush_work w reply events old new t = absurd t

active_work : (w : ℕ) (reply : Reply) (events : List Event) (old new : Core) → TakesFlushActive w reply events old new → KeepsOpenWork old new
active_work w (FlushedActive id a) events old new t = join_work old t.0 new (rotated_work old id t.0 t.1) (whole_flush_work w (Ok a) t.0 new t.2.2)
active_work w (RefusedActive id x) events old new t =
    elim t [ inl r ↦ kept_by old old new r.1.unchanged (refl, refl) | inr f ↦ join_work old f.0 new (rotated_work old id f.0 f.1) (whole_flush_work w (Err x) f.0 new f.2.2) ]
active_work w reply events old new t = absurd t

table_id_work : (reply : Reply) (events : List Event) (old new : Core) → TakesTableId reply events old new → KeepsOpenWork old new
table_id_work (Number n) events old new t = kept_by old _ new t.3 (refl, refl)
table_id_work (Refused x) events old new t = kept_by old old new t.1 (refl, refl)
table_id_work reply events old new t = absurd t

-- ---- compactions in one call

compacts_work : (may_choose : Relation Choice) (may_refuse : Relation ChooseError) (o : Options) (reply : Reply) (events : List Event) (old new : Core) → AreBelow old.merges.next old.merges.underway → CompactsFrom may_choose may_refuse o reply events old new → KeepsWork old new
compacts_work may_choose may_refuse o reply events old new below t = compacted_work t.answer o t.does.done events old new below t.does.compacts

compact_work : (strategies : Strategies) (at : ℕ) (o : Options) (reply : Reply) (events : List Event) (old new : Core) → AreBelow old.merges.next old.merges.underway → TakesCompact strategies at o reply events old new → KeepsWork old new
compact_work strategies at o NoStrategy events old new below t = all_kept old new (kept_by old old new t.1 (refl, refl))
compact_work strategies at o reply events old new below t = compacts_work _ _ o reply events old new below t.1

drop_work : (bounds : OwnedBounds) (reply : Reply) (events : List Event) (old new : Core) → AreBelow old.merges.next old.merges.underway → TakesDropRange bounds reply events old new → KeepsWork old new
drop_work bounds reply events old new below (inl t) = all_kept old new (kept_by old old new t.4 (refl, refl))
drop_work bounds reply events old new below (inr t) = compacts_work _ _ _ reply events old new below t.1

-- ---- all steps

-- where each open merge has a number below the next one
pub alone_work : (strategies : Strategies) (x : Step) (reply : Reply) (events : List Event) (old new : Core) → AreBelow old.merges.next old.merges.underway → TakesAlone strategies x reply events old new → KeepsWork old new
alone_work strategies (Insert k v n) reply events old new below t = all_kept old new (entry_work _ reply events old new t)
alone_work strategies (Remove k n) reply events old new below t = all_kept old new (entry_work _ reply events old new t)
alone_work strategies (RemoveWeak k n) reply events old new below t = all_kept old new (entry_work _ reply events old new t)
alone_work strategies (AppendEntry e) reply events old new below t = all_kept old new (entry_work _ reply events old new t)
alone_work strategies (Write ops) reply events old new below t = all_kept old new (batch_work ops reply events old new t)
alone_work strategies (Get k s) reply events old new below t = all_kept old new (get_work k s reply events old new t)
alone_work strategies (GetInternalEntry k s) reply events old new below t = all_kept old new (get_entry_work k s reply events old new t)
alone_work strategies (ContainsKey k s) reply events old new below t = all_kept old new (kept_by old old new t.1 (refl, refl))
alone_work strategies (SizeOf k s) reply events old new below t = all_kept old new (kept_by old old new t.1 (refl, refl))
alone_work strategies (Range low high s) reply events old new below t = all_kept old new (pairs_work _ _ s reply events old new t)
alone_work strategies (Iter s) reply events old new below t = all_kept old new (pairs_work _ _ s reply events old new t)
alone_work strategies (Prefix p s) reply events old new below t = all_kept old new (pairs_work _ _ s reply events old new t)
alone_work strategies (Len s) reply events old new below t = all_kept old new (kept_by old old new t.1 (refl, refl))
alone_work strategies (IsEmpty s) reply events old new below t = all_kept old new (kept_by old old new t.1 (refl, refl))
alone_work strategies (FirstKeyValue s) reply events old new below t = all_kept old new (kept_by old old new t.1 (refl, refl))
alone_work strategies (LastKeyValue s) reply events old new below t = all_kept old new (kept_by old old new t.1 (refl, refl))
alone_work strategies RotateMemtable reply events old new below t = all_kept old new (rotate_work reply events old new t)
alone_work strategies (Next counter) reply events old new below t = all_kept old new (next_work counter reply events old new t)
alone_work strategies (Set counter n) reply events old new below t = all_kept old new (put_work counter _ reply events old new t)
alone_work strategies (FetchMax counter n) reply events old new below t = all_kept old new (put_work counter _ reply events old new t)
alone_work strategies (Flush w) reply events old new below t = all_kept old new (flush_work w reply events old new t)
alone_work strategies (FlushActiveMemtable w) reply events old new below t = all_kept old new (active_work w reply events old new t)
alone_work strategies (Compact at w) reply events old new below t = compact_work strategies at _ reply events old new below t
alone_work strategies (DoCompaction at o) reply events old new below t = compact_work strategies at o reply events old new below t
alone_work strategies (MajorCompact target w) reply events old new below t = compacts_work _ _ _ reply events old new below t
alone_work strategies (DropRange low high) reply events old new below t = drop_work _ reply events old new below t
alone_work strategies Clear reply events old new below t = all_kept old new (clear_work reply events old new t)
alone_work strategies ClearActiveMemtable reply events old new below t = all_kept old new (forget_work reply events old new t)
alone_work strategies GetNextTableId reply events old new below t = all_kept old new (table_id_work reply events old new t)
alone_work strategies IsCompacting reply events old new below t = all_kept old new (kept_by old old new t.1 (refl, refl))
alone_work strategies (SetMoment n) reply events old new below t = all_kept old new (moment_work n reply events old new t)
alone_work strategies (CountOf what) reply events old new below t = all_kept old new (kept_by old old new t.1 (refl, refl))
alone_work strategies IsUncertain reply events old new below t = all_kept old new (kept_by old old new t.1 (refl, refl))
alone_work strategies TreeType reply events old new below t = all_kept old new (kept_by old old new t.1 (refl, refl))
alone_work strategies (AtSlot slot step) reply events old new below t = absurd t

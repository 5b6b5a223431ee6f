-- No step of a run changes an answer that it is not to change.
use Rattle.std.proofs.Common.{◌≡◌, ℕ, ◌≤◌, List, [], ◌∷◌, ◌++◌, Option, Some, None, map, refl, sym, ap, ◌∙◌, subst}
use Rattle.std.specs.List.{AllByRecursion}
use Rattle.lsm_below.specs.Keys.{Bytes}
use Rattle.lsm_below.specs.Entries.{Entry}
use Rattle.lsm_model.specs.Soundness.{Soundness}
use Rattle.lsm_model.specs.Journal.{Event, Map, InOrder}
use Rattle.lsm_model.specs.Steps.{Wrote, Rotated, StaysAt, IsSparedBy}
use Rattle.lsm_model.specs.Ops.{op_entries}
use Rattle.lsm_model.specs.declared.op.Op.{Op}
use Rattle.lsm_model.specs.declared.journal.JournalEntry.TheVariants.{Write as Noted}
use Rattle.lsm_model.specs.declared.question.Question.{Question}
use Rattle.lsm_iter.specs.Guards.{Pair}
use Rattle.lsm_state.specs.Core.{Core, state_of}
use Rattle.lsm_state.specs.Calls.{Rotates}
use Rattle.lsm_runs.specs.declared.steps.Counter.{Counter}
use Rattle.lsm_runs.specs.declared.steps.Counter.TheVariants.{Seqno, Visible}
use Rattle.lsm_runs.specs.declared.steps.Step.{Step as Call}
use Rattle.lsm_runs.specs.declared.steps.Step.TheVariants.{Insert, Remove, RemoveWeak, AppendEntry, Write, Get, GetInternalEntry, ContainsKey, SizeOf, Range, Iter, Prefix, Len, IsEmpty, FirstKeyValue, LastKeyValue, RotateMemtable, Next, Set, FetchMax, AtSlot, Flush, FlushActiveMemtable, Compact, DoCompaction, MajorCompact, DropRange, Clear, ClearActiveMemtable, GetNextTableId, SetMoment, Count as CountOf, IsUncertain, IsCompacting, TreeType}
use Rattle.lsm_runs.specs.declared.steps.Reply.{Reply}
use Rattle.lsm_runs.specs.declared.steps.Reply.TheVariants.{Value, Entry as EntryOf, Pairs, Sizes, Number, Sealed, Done, Refused}
use Rattle.lsm_runs.specs.ReadSteps.{TakesGet, TakesGetEntry, TakesPairs}
use Rattle.lsm_runs.specs.Slots.{Stage}
use Rattle.lsm_runs.specs.Compacting.{Strategies}
use Rattle.lsm_runs.specs.Runs.{Takes, TakesAlone, TakesEntry, TakesBatch, TakesRotate, TakesNext, TakesCounter, with_counter, without_low_reads, Spares}
use Rattle.lsm_run_model.proofs.LowReads.{without-append, writes_without, order_without}
use Rattle.lsm_runs.proofs.Keeping.{KeepLaws, kept_spares}
use Rattle.lsm_runs.proofs.Clearing.{clear_after}
use Rattle.lsm_runs.proofs.FlushReplays.{flush_keeps, active_keeps, moment_keeps}
use Rattle.lsm_runs.proofs.CompactionReplays.{compact_after, major_after, drop_after, table_id_after}
use Rattle.lsm_runs.proofs.JobReplays.{flush_after, idle_after, job_after, AreMarked}
use Rattle.lsm_runs.proofs.ReadReplays.{Sound}

-- a step that changes nothing
still : (theory : Soundness) (events : List Event) (old new : Core) → new ≡ old → Spares events old new
still theory events old new is s each = subst (λ c. StaysAt s (state_of [] old) (state_of [] c)) (sym is) (theory.spares.same s (state_of [] old) (state_of [] old) refl refl refl)

entry_spares : (theory : Soundness) (opened : List Entry) (start : Map) (e : Entry) (reply : Reply) (journal events : List Event) (old new : Core) → TakesEntry e reply events old new → InOrder opened (journal ++ events) → Sound opened start journal old → Spares events old new
entry_spares theory opened start e (Sizes size total) journal events old new t order h = λ s each.
    let is : without_low_reads opened (journal ++ events) ≡ without_low_reads opened journal ++ Noted e ∷ [] = ap (λ xs. without_low_reads opened (journal ++ xs)) t.0 ∙ without-append opened journal (Noted e ∷ []) in
    let low : AllByRecursion (IsSparedBy s) (Noted e ∷ []) = rw t.0 at each in
    theory.spares.step opened start s (state_of (without_low_reads opened journal) old) (Wrote e) (state_of (without_low_reads opened journal ++ Noted e ∷ []) new) (t.1.step opened (without_low_reads opened journal)) (rw is at (order_without opened (journal ++ events) order)) low.0 h
entry_spares theory opened start e (Refused x) journal events old new t order h = still theory events old new t.1.unchanged
entry_spares theory opened start e reply journal events old new t order h = absurd t

each_entry : (s : ℕ) (es : List Entry) → AllByRecursion (IsSparedBy s) (map Noted es) → AllByRecursion (λ e. s ≤ e.key.seqno) es
each_entry s [] h = tt
each_entry s (e ∷ es) h = (h.0, each_entry s es h.1)

batch_spares : (theory : Soundness) (opened : List Entry) (start : Map) (ops : List (Bytes × Op)) (reply : Reply) (journal events : List Event) (old new : Core) → TakesBatch ops reply events old new → InOrder opened (journal ++ events) → Sound opened start journal old → Spares events old new
batch_spares theory opened start ops (Number n) journal events old new t order h = λ s each.
    let es = op_entries old.seqno ops in
    let noted : events ≡ map Noted es = t.0 ∙ ap (λ m. map Noted (op_entries m ops)) t.1.number in
    let is : without_low_reads opened (journal ++ events) ≡ without_low_reads opened journal ++ map Noted es =
    ap (λ xs. without_low_reads opened (journal ++ xs)) noted ∙ without-append opened journal (map Noted es) ∙ ap (λ xs. without_low_reads opened journal ++ xs) (writes_without opened es) in
    let low : AllByRecursion (IsSparedBy s) (map Noted es) = rw noted at each in
    theory.spares.writes opened start s es (state_of (without_low_reads opened journal) old) (state_of (without_low_reads opened journal ++ map Noted es) new) (t.1.run opened (without_low_reads opened journal)) (rw is at (order_without opened (journal ++ events) order)) (each_entry s es low) h
batch_spares theory opened start ops (Refused x) journal events old new t order h = still theory events old new t.1.unchanged
batch_spares theory opened start ops reply journal events old new t order h = absurd t

rotation_spares : (theory : Soundness) (opened : List Entry) (start : Map) (id : Option ℕ) (journal events : List Event) (old new : Core) → Rotates old id new → InOrder opened (without_low_reads opened journal) → Sound opened start journal old → Spares events old new
rotation_spares theory opened start None journal events old new t order h = still theory events old new t.1
rotation_spares theory opened start (Some id) journal events old new t order h = λ s each. theory.spares.step opened start s (state_of (without_low_reads opened journal) old) (Rotated old.next_memtable) (state_of (without_low_reads opened journal) new) (t.3 opened (without_low_reads opened journal)) order tt h

rotate_spares : (theory : Soundness) (opened : List Entry) (start : Map) (reply : Reply) (journal events : List Event) (old new : Core) → TakesRotate reply events old new → InOrder opened (journal ++ events) → Sound opened start journal old → Spares events old new
rotate_spares theory opened start (Sealed id) journal events old new t order h = rotation_spares theory opened start id journal events old new t.1 (order_without opened journal (theory.kept.front opened journal events order)) h
rotate_spares theory opened start (Refused x) journal events old new t order h = still theory events old new t.1
rotate_spares theory opened start reply journal events old new t order h = absurd t

get_spares : (theory : Soundness) (k : Bytes) (s : ℕ) (reply : Reply) (events : List Event) (old new : Core) → TakesGet k s reply events old new → Spares events old new
get_spares theory k s (Value v) events old new t = still theory events old new t.1
get_spares theory k s (Refused x) events old new t = still theory events old new t.1
get_spares theory k s reply events old new t = absurd t

get_entry_spares : (theory : Soundness) (k : Bytes) (s : ℕ) (reply : Reply) (events : List Event) (old new : Core) → TakesGetEntry k s reply events old new → Spares events old new
get_entry_spares theory k s (EntryOf e) events old new t = still theory events old new t.1
get_entry_spares theory k s (Refused x) events old new t = still theory events old new t.1
get_entry_spares theory k s reply events old new t = absurd t

pairs_spares : (theory : Soundness) (question : Question) (Right : List Pair → Type 0) (s : ℕ) (reply : Reply) (events : List Event) (old new : Core) → TakesPairs question Right s reply events old new → Spares events old new
pairs_spares theory question Right s (Pairs pairs) events old new t = still theory events old new t.1
pairs_spares theory question Right s (Refused x) events old new t = still theory events old new t.1
pairs_spares theory question Right s reply events old new t = absurd t

-- the numbers of counters are no part of what snapshots see
counter_spares : (theory : Soundness) (counter : Counter) (n : ℕ) (events : List Event) (old new : Core) → new ≡ with_counter counter n old → Spares events old new
counter_spares theory Seqno n events old new is s each = subst (λ c. StaysAt s (state_of [] old) (state_of [] c)) (sym is) (theory.spares.same s (state_of [] old) (state_of [] old) refl refl refl)
counter_spares theory Visible n events old new is s each = subst (λ c. StaysAt s (state_of [] old) (state_of [] c)) (sym is) (theory.spares.same s (state_of [] old) (state_of [] old) refl refl refl)

next_spares : (theory : Soundness) (counter : Counter) (reply : Reply) (events : List Event) (old new : Core) → TakesNext counter reply events old new → Spares events old new
next_spares theory counter (Number n) events old new t = counter_spares theory counter _ events old new t.3
next_spares theory counter (Refused x) events old new t = still theory events old new t.3
next_spares theory counter reply events old new t = absurd t

put_spares : (theory : Soundness) (counter : Counter) (n : ℕ) (reply : Reply) (events : List Event) (old new : Core) → TakesCounter counter n reply events old new → Spares events old new
put_spares theory counter n Done events old new t = counter_spares theory counter n events old new t.1
put_spares theory counter n reply events old new t = absurd t

alone_spares : (laws : KeepLaws) (strategies : Strategies) (opened : List Entry) (start : Map) (x : Call) (reply : Reply) (journal events : List Event) (old new : Core) → TakesAlone strategies x reply events old new → (x ≡ ClearActiveMemtable → ⊥) → InOrder opened (journal ++ events) → Sound opened start journal old → Spares events old new
alone_spares laws strategies opened start (Insert k v n) reply journal events old new t plain order h = entry_spares laws.theory opened start _ reply journal events old new t order h
alone_spares laws strategies opened start (Remove k n) reply journal events old new t plain order h = entry_spares laws.theory opened start _ reply journal events old new t order h
alone_spares laws strategies opened start (RemoveWeak k n) reply journal events old new t plain order h = entry_spares laws.theory opened start _ reply journal events old new t order h
alone_spares laws strategies opened start (AppendEntry e) reply journal events old new t plain order h = entry_spares laws.theory opened start _ reply journal events old new t order h
alone_spares laws strategies opened start (Write ops) reply journal events old new t plain order h = batch_spares laws.theory opened start ops reply journal events old new t order h
alone_spares laws strategies opened start (Get k s) reply journal events old new t plain order h = get_spares laws.theory k s reply events old new t
alone_spares laws strategies opened start (GetInternalEntry k s) reply journal events old new t plain order h = get_entry_spares laws.theory k s reply events old new t
alone_spares laws strategies opened start (ContainsKey k s) reply journal events old new t plain order h = still laws.theory events old new t.1
alone_spares laws strategies opened start (SizeOf k s) reply journal events old new t plain order h = still laws.theory events old new t.1
alone_spares laws strategies opened start (Range low high s) reply journal events old new t plain order h = pairs_spares laws.theory _ _ s reply events old new t
alone_spares laws strategies opened start (Iter s) reply journal events old new t plain order h = pairs_spares laws.theory _ _ s reply events old new t
alone_spares laws strategies opened start (Prefix p s) reply journal events old new t plain order h = pairs_spares laws.theory _ _ s reply events old new t
alone_spares laws strategies opened start (Len s) reply journal events old new t plain order h = still laws.theory events old new t.1
alone_spares laws strategies opened start (IsEmpty s) reply journal events old new t plain order h = still laws.theory events old new t.1
alone_spares laws strategies opened start (FirstKeyValue s) reply journal events old new t plain order h = still laws.theory events old new t.1
alone_spares laws strategies opened start (LastKeyValue s) reply journal events old new t plain order h = still laws.theory events old new t.1
alone_spares laws strategies opened start RotateMemtable reply journal events old new t plain order h = rotate_spares laws.theory opened start reply journal events old new t order h
alone_spares laws strategies opened start (Next counter) reply journal events old new t plain order h = next_spares laws.theory counter reply events old new t
alone_spares laws strategies opened start (Set counter n) reply journal events old new t plain order h = put_spares laws.theory counter _ reply events old new t
alone_spares laws strategies opened start (FetchMax counter n) reply journal events old new t plain order h = put_spares laws.theory counter _ reply events old new t
alone_spares laws strategies opened start (Flush w) reply journal events old new t plain order h = kept_spares opened start journal events old new (flush_after journal events old new (flush_keeps laws.theory laws.flushes w reply events old new t)) order h
alone_spares laws strategies opened start (FlushActiveMemtable w) reply journal events old new t plain order h = kept_spares opened start journal events old new (flush_after journal events old new (active_keeps laws.theory laws.flushes w reply events old new t)) order h
alone_spares laws strategies opened start (Compact at w) reply journal events old new t plain order h = kept_spares opened start journal events old new (compact_after laws.compactions (idle_after laws.theory) strategies at _ reply journal events old new t) order h
alone_spares laws strategies opened start (DoCompaction at o) reply journal events old new t plain order h = kept_spares opened start journal events old new (compact_after laws.compactions (idle_after laws.theory) strategies at o reply journal events old new t) order h
alone_spares laws strategies opened start (MajorCompact target w) reply journal events old new t plain order h = kept_spares opened start journal events old new (major_after laws.compactions (idle_after laws.theory) target w reply journal events old new t) order h
alone_spares laws strategies opened start (DropRange low high) reply journal events old new t plain order h = kept_spares opened start journal events old new (drop_after laws.compactions (idle_after laws.theory) _ reply journal events old new t) order h
alone_spares laws strategies opened start Clear reply journal events old new t plain order h = kept_spares opened start journal events old new (clear_after laws.clears reply journal events old new t) order h
alone_spares laws strategies opened start ClearActiveMemtable reply journal events old new t plain order h = absurd (plain refl)
alone_spares laws strategies opened start GetNextTableId reply journal events old new t plain order h = kept_spares opened start journal events old new (table_id_after laws.compactions (idle_after laws.theory) reply journal events old new t) order h
alone_spares laws strategies opened start IsCompacting reply journal events old new t plain order h = still laws.theory events old new t.1
alone_spares laws strategies opened start (SetMoment n) reply journal events old new t plain order h = kept_spares opened start journal events old new (flush_after journal events old new (moment_keeps laws.theory laws.flushes n reply events old new t)) order h
alone_spares laws strategies opened start (CountOf what) reply journal events old new t plain order h = still laws.theory events old new t.1
alone_spares laws strategies opened start IsUncertain reply journal events old new t plain order h = still laws.theory events old new t.1
alone_spares laws strategies opened start TreeType reply journal events old new t plain order h = still laws.theory events old new t.1
alone_spares laws strategies opened start (AtSlot slot step) reply journal events old new t plain order h = absurd t

pub takes_spares : (laws : KeepLaws) (strategies : Strategies) (opened : List Entry) (start : Map) (x : Call) (reply : Reply) (journal events : List Event) (old new : Stage) → Takes strategies x reply events old new → (x ≡ ClearActiveMemtable → ⊥) → AreMarked journal old.jobs → InOrder opened (journal ++ events) → Sound opened start journal old.core → Spares events old.core new.core
takes_spares laws strategies opened start (AtSlot slot step) reply journal events old new t plain m order h =
    kept_spares opened start journal events old.core new.core (job_after laws strategies step reply journal events (old.jobs slot) (new.jobs slot) old.core new.core (m slot) t.0) order h
takes_spares laws strategies opened start x reply journal events old new t plain m order h = alone_spares laws strategies opened start x reply journal events old.core new.core t.0 plain order h

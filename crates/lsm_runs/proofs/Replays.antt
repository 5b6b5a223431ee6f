-- From a run of steps to the replay of its journal.
use Rattle.std.proofs.Common.{◌≡◌, inl, inr, ℕ, List, [], ◌∷◌, ◌++◌, Option, Some, None, map, refl, sym, ap, ◌∙◌, subst, append-nil, append_assoc}
use Rattle.std.specs.BTreeMap.{BTreeMap, is_at}
use Rattle.std.specs.Map.{lookup}
use Rattle.std.specs.Ordering.{nat_cmp}
use Rattle.std.specs.declared.ops.Bound.TheVariants.{Unbounded}
use Rattle.lsm_below.specs.Keys.{Bytes}
use Rattle.lsm_below.specs.Entries.{Entry}
use Rattle.lsm_model.specs.Soundness.{Soundness}
use Rattle.lsm_model.specs.Journal.{Event, Map, InOrder}
use Rattle.lsm_model.specs.Steps.{Wrote, Rotated}
use Rattle.lsm_model.specs.Ops.{op_entries}
use Rattle.lsm_model.specs.declared.op.Op.{Op}
use Rattle.lsm_model.specs.declared.journal.JournalEntry.TheVariants.{Write as Noted}
use Rattle.lsm_model.specs.declared.question.Question.TheVariants.{Between, Prefix as AskPrefix}
use Rattle.lsm_iter.specs.declared.tree_iter.End.TheVariants.{Front, Back}
use Rattle.lsm_state.specs.Core.{Core, state_of}
use Rattle.lsm_state.specs.Calls.{Rotates}
use Rattle.lsm_state.specs.ListSteps.{ListsAreSteps}
use Rattle.lsm_journal.specs.NotedReads.{NotedCompactionsKeepReads}
use Rattle.lsm_runs.specs.declared.steps.Counter.{Counter}
use Rattle.lsm_runs.specs.declared.steps.Counter.TheVariants.{Seqno, Visible}
use Rattle.lsm_runs.specs.declared.steps.Step.{Step as Call}
use Rattle.lsm_runs.specs.declared.steps.Step.TheVariants.{Insert, Remove, RemoveWeak, AppendEntry, Write, Get, GetInternalEntry, ContainsKey, SizeOf, Range, Iter, Prefix, Len, IsEmpty, FirstKeyValue, LastKeyValue, RotateMemtable, Next, Set, FetchMax, AtSlot, Flush, FlushActiveMemtable, Compact, DoCompaction, MajorCompact, DropRange, Clear, ClearActiveMemtable, GetNextTableId, SetMoment, Count as CountOf, IsUncertain, IsCompacting, TreeType}
use Rattle.lsm_runs.specs.declared.steps.Reply.{Reply}
use Rattle.lsm_runs.specs.declared.steps.Reply.TheVariants.{Sizes, Number, Sealed, Done, Refused}
use Rattle.lsm_state.specs.Listing.{Lists, ListsPrefix}
use Rattle.lsm_runs.specs.Told.{Told}
use Rattle.lsm_runs.specs.declared.slots.Job.{Job}
use Rattle.lsm_runs.specs.Slots.{Stage, at_first, beside, waiting, Closes}
use Rattle.lsm_runs.specs.Compacting.{Strategies}
use Rattle.lsm_runs.specs.Runs.{Takes, TakesAlone, RanToEnd, TakesEntry, TakesBatch, TakesRotate, TakesNext, TakesCounter, with_counter, Ran, IsPlainUse, journal_of, StepAnswers, EachAnswers, RunEqualsReplay, without_low_reads}
use Rattle.lsm_run_model.proofs.LowReads.{without-append, writes_without, order_without}
use Rattle.lsm_runs.proofs.ReadReplays.{Sound, same, takes_get, takes_get_entry, takes_pairs, get_answers, get_entry_answers, contains_answers, size_answers, pairs_answer, len_answers, empty_answers, end_answers}
use Rattle.lsm_runs.proofs.Keeping.{KeepLaws, kept_sound}
use Rattle.lsm_runs.proofs.Clearing.{clear_after}
use Rattle.lsm_runs.proofs.FlushReplays.{flush_keeps, active_keeps, moment_keeps}
use Rattle.lsm_runs.proofs.CompactionReplays.{compact_after, major_after, drop_after, table_id_after}
use Rattle.lsm_runs.proofs.JobReplays.{flush_after, idle_after, job_after, AreMarked, first_marked, still_marked, slot_marked}

-- ---- each call keeps the tree sound

takes_entry : (theory : Soundness) (opened : List Entry) (start : Map) (e : Entry) (reply : Reply) (journal events : List Event) (old new : Core) → TakesEntry e reply events old new → InOrder opened (journal ++ events) → Sound opened start journal old → Sound opened start (journal ++ events) new
takes_entry theory opened start e (Sizes size total) journal events old new t order h =
    let is : without_low_reads opened (journal ++ events) ≡ without_low_reads opened journal ++ Noted e ∷ [] = ap (λ xs. without_low_reads opened (journal ++ xs)) t.0 ∙ without-append opened journal (Noted e ∷ []) in
    rw is (theory.kept.step opened start (state_of (without_low_reads opened journal) old) (Wrote e) (state_of (without_low_reads opened journal ++ Noted e ∷ []) new) (t.1.step opened (without_low_reads opened journal)) (rw is at (order_without opened (journal ++ events) order)) h)
takes_entry theory opened start e (Refused x) journal events old new t order h = same opened start journal events old new t.0 t.1.unchanged h
takes_entry theory opened start e reply journal events old new t order h = absurd t

takes_batch : (theory : Soundness) (opened : List Entry) (start : Map) (ops : List (Bytes × Op)) (reply : Reply) (journal events : List Event) (old new : Core) → TakesBatch ops reply events old new → InOrder opened (journal ++ events) → Sound opened start journal old → Sound opened start (journal ++ events) new
takes_batch theory opened start ops (Number n) journal events old new t order h =
    let es = op_entries old.seqno ops in
    let is : without_low_reads opened (journal ++ events) ≡ without_low_reads opened journal ++ map Noted es =
    ap (λ xs. without_low_reads opened (journal ++ xs)) (t.0 ∙ ap (λ m. map Noted (op_entries m ops)) t.1.number) ∙ without-append opened journal (map Noted es) ∙ ap (λ xs. without_low_reads opened journal ++ xs) (writes_without opened es) in
    rw is (theory.kept.run opened start (state_of (without_low_reads opened journal) old) (map Wrote es) (state_of (without_low_reads opened journal ++ map Noted es) new) (t.1.run opened (without_low_reads opened journal)) (rw is at (order_without opened (journal ++ events) order)) h)
takes_batch theory opened start ops (Refused x) journal events old new t order h = same opened start journal events old new t.0 t.1.unchanged h
takes_batch theory opened start ops reply journal events old new t order h = absurd t

rotates : (theory : Soundness) (opened : List Entry) (start : Map) (id : Option ℕ) (journal : List Event) (old new : Core) → Rotates old id new → InOrder opened (without_low_reads opened journal) → Sound opened start journal old → Sound opened start journal new
rotates theory opened start None journal old new t order h = rw t.1 h
rotates theory opened start (Some id) journal old new t order h = theory.kept.step opened start (state_of (without_low_reads opened journal) old) (Rotated old.next_memtable) (state_of (without_low_reads opened journal) new) (t.3 opened (without_low_reads opened journal)) order h

takes_rotate : (theory : Soundness) (opened : List Entry) (start : Map) (reply : Reply) (journal events : List Event) (old new : Core) → TakesRotate reply events old new → InOrder opened (journal ++ events) → Sound opened start journal old → Sound opened start (journal ++ events) new
takes_rotate theory opened start (Sealed id) journal events old new t order h =
    let o : InOrder opened journal = theory.kept.front opened journal events order in
    rw (t.0, append-nil journal) (rotates theory opened start id journal old new t.1 (order_without opened journal o) h)
takes_rotate theory opened start (Refused x) journal events old new t order h = same opened start journal events old new t.0 t.1 h
takes_rotate theory opened start reply journal events old new t order h = absurd t

-- the numbers of counters are no part of what the theory sees
counter_apart : (opened : List Entry) (start : Map) (counter : Counter) (n : ℕ) (journal : List Event) (c : Core) → Sound opened start journal c → Sound opened start journal (with_counter counter n c)
counter_apart opened start Seqno n journal c h = h
counter_apart opened start Visible n journal c h = h

counter_put : (opened : List Entry) (start : Map) (counter : Counter) (n : ℕ) (journal events : List Event) (old new : Core) → events ≡ [] → new ≡ with_counter counter n old → Sound opened start journal old → Sound opened start (journal ++ events) new
counter_put opened start counter n journal events old new none is h = rw (none, is, append-nil journal) (counter_apart opened start counter n journal old h)

takes_next : (opened : List Entry) (start : Map) (counter : Counter) (reply : Reply) (journal events : List Event) (old new : Core) → TakesNext counter reply events old new → Sound opened start journal old → Sound opened start (journal ++ events) new
takes_next opened start counter (Number n) journal events old new t h = counter_put opened start counter _ journal events old new t.0 t.3 h
takes_next opened start counter (Refused x) journal events old new t h = same opened start journal events old new t.0 t.3 h
takes_next opened start counter reply journal events old new t h = absurd t

takes_counter : (opened : List Entry) (start : Map) (counter : Counter) (n : ℕ) (reply : Reply) (journal events : List Event) (old new : Core) → TakesCounter counter n reply events old new → Sound opened start journal old → Sound opened start (journal ++ events) new
takes_counter opened start counter n Done journal events old new t h = counter_put opened start counter n journal events old new t.0 t.1 h
takes_counter opened start counter n reply journal events old new t h = absurd t

alone_sound : (laws : KeepLaws) (strategies : Strategies) (opened : List Entry) (start : Map) (x : Call) (reply : Reply) (journal events : List Event) (old new : Core) → TakesAlone strategies x reply events old new → (x ≡ ClearActiveMemtable → ⊥) → InOrder opened (journal ++ events) → Sound opened start journal old → Sound opened start (journal ++ events) new
alone_sound laws strategies opened start (Insert k v n) reply journal events old new t plain order h = takes_entry laws.theory opened start _ reply journal events old new t order h
alone_sound laws strategies opened start (Remove k n) reply journal events old new t plain order h = takes_entry laws.theory opened start _ reply journal events old new t order h
alone_sound laws strategies opened start (RemoveWeak k n) reply journal events old new t plain order h = takes_entry laws.theory opened start _ reply journal events old new t order h
alone_sound laws strategies opened start (AppendEntry e) reply journal events old new t plain order h = takes_entry laws.theory opened start _ reply journal events old new t order h
alone_sound laws strategies opened start (Write ops) reply journal events old new t plain order h = takes_batch laws.theory opened start ops reply journal events old new t order h
alone_sound laws strategies opened start (Get k s) reply journal events old new t plain order h = takes_get laws.theory opened start k s reply journal events old new t order h
alone_sound laws strategies opened start (GetInternalEntry k s) reply journal events old new t plain order h = takes_get_entry opened start k s reply journal events old new t h
alone_sound laws strategies opened start (ContainsKey k s) reply journal events old new t plain order h = same opened start journal events old new t.0 t.1 h
alone_sound laws strategies opened start (SizeOf k s) reply journal events old new t plain order h = same opened start journal events old new t.0 t.1 h
alone_sound laws strategies opened start (Range low high s) reply journal events old new t plain order h = takes_pairs laws.theory opened start (Between low high) (Lists old low high s) s reply journal events old new t order h
alone_sound laws strategies opened start (Iter s) reply journal events old new t plain order h = takes_pairs laws.theory opened start (Between Unbounded Unbounded) (Lists old Unbounded Unbounded s) s reply journal events old new t order h
alone_sound laws strategies opened start (Prefix p s) reply journal events old new t plain order h = takes_pairs laws.theory opened start (AskPrefix p) (ListsPrefix old p s) s reply journal events old new t order h
alone_sound laws strategies opened start (Len s) reply journal events old new t plain order h = same opened start journal events old new t.0 t.1 h
alone_sound laws strategies opened start (IsEmpty s) reply journal events old new t plain order h = same opened start journal events old new t.0 t.1 h
alone_sound laws strategies opened start (FirstKeyValue s) reply journal events old new t plain order h = same opened start journal events old new t.0 t.1 h
alone_sound laws strategies opened start (LastKeyValue s) reply journal events old new t plain order h = same opened start journal events old new t.0 t.1 h
alone_sound laws strategies opened start RotateMemtable reply journal events old new t plain order h = takes_rotate laws.theory opened start reply journal events old new t order h
alone_sound laws strategies opened start (Next counter) reply journal events old new t plain order h = takes_next opened start counter reply journal events old new t h
alone_sound laws strategies opened start (Set counter n) reply journal events old new t plain order h = takes_counter opened start counter _ reply journal events old new t h
alone_sound laws strategies opened start (FetchMax counter n) reply journal events old new t plain order h = takes_counter opened start counter _ reply journal events old new t h
alone_sound laws strategies opened start (Flush w) reply journal events old new t plain order h = kept_sound opened start journal events old new (flush_after journal events old new (flush_keeps laws.theory laws.flushes w reply events old new t)) order h
alone_sound laws strategies opened start (FlushActiveMemtable w) reply journal events old new t plain order h = kept_sound opened start journal events old new (flush_after journal events old new (active_keeps laws.theory laws.flushes w reply events old new t)) order h
alone_sound laws strategies opened start (Compact at w) reply journal events old new t plain order h = kept_sound opened start journal events old new (compact_after laws.compactions (idle_after laws.theory) strategies at _ reply journal events old new t) order h
alone_sound laws strategies opened start (DoCompaction at o) reply journal events old new t plain order h = kept_sound opened start journal events old new (compact_after laws.compactions (idle_after laws.theory) strategies at o reply journal events old new t) order h
alone_sound laws strategies opened start (MajorCompact target w) reply journal events old new t plain order h = kept_sound opened start journal events old new (major_after laws.compactions (idle_after laws.theory) target w reply journal events old new t) order h
alone_sound laws strategies opened start (DropRange low high) reply journal events old new t plain order h = kept_sound opened start journal events old new (drop_after laws.compactions (idle_after laws.theory) _ reply journal events old new t) order h
alone_sound laws strategies opened start Clear reply journal events old new t plain order h = kept_sound opened start journal events old new (clear_after laws.clears reply journal events old new t) order h
alone_sound laws strategies opened start ClearActiveMemtable reply journal events old new t plain order h = absurd (plain refl)
alone_sound laws strategies opened start GetNextTableId reply journal events old new t plain order h = kept_sound opened start journal events old new (table_id_after laws.compactions (idle_after laws.theory) reply journal events old new t) order h
alone_sound laws strategies opened start IsCompacting reply journal events old new t plain order h = same opened start journal events old new t.0 t.1 h
alone_sound laws strategies opened start (SetMoment n) reply journal events old new t plain order h = kept_sound opened start journal events old new (flush_after journal events old new (moment_keeps laws.theory laws.flushes n reply events old new t)) order h
alone_sound laws strategies opened start (CountOf what) reply journal events old new t plain order h = same opened start journal events old new t.0 t.1 h
alone_sound laws strategies opened start IsUncertain reply journal events old new t plain order h = same opened start journal events old new t.0 t.1 h
alone_sound laws strategies opened start TreeType reply journal events old new t plain order h = same opened start journal events old new t.0 t.1 h
alone_sound laws strategies opened start (AtSlot slot step) reply journal events old new t plain order h = absurd t

pub takes_sound : (laws : KeepLaws) (strategies : Strategies) (opened : List Entry) (start : Map) (x : Call) (reply : Reply) (journal events : List Event) (old new : Stage) → Takes strategies x reply events old new → (x ≡ ClearActiveMemtable → ⊥) → AreMarked journal old.jobs → InOrder opened (journal ++ events) → Sound opened start journal old.core → Sound opened start (journal ++ events) new.core
takes_sound laws strategies opened start (AtSlot slot step) reply journal events old new t plain m order h =
    kept_sound opened start journal events old.core new.core (job_after laws strategies step reply journal events (old.jobs slot) (new.jobs slot) old.core new.core (m slot) t.0) order h
takes_sound laws strategies opened start x reply journal events old new t plain m order h = alone_sound laws strategies opened start x reply journal events old.core new.core t.0 plain order h

-- the watermark of each merge whose job waits stays marked
pub takes_marked : (compactions : NotedCompactionsKeepReads) (strategies : Strategies) (x : Call) (reply : Reply) (journal events : List Event) (old new : Stage) → Takes strategies x reply events old new → AreMarked journal old.jobs → AreMarked (journal ++ events) new.jobs
takes_marked compactions strategies (AtSlot slot step) reply journal events old new t m = slot_marked compactions strategies slot step reply journal events old new t m
takes_marked compactions strategies x reply journal events old new t m = still_marked compactions journal events old.jobs new.jobs t.1 m

pub alone_answers : (lists : ListsAreSteps) (theory : Soundness) (strategies : Strategies) (opened : List Entry) (start : Map) (x : Call) (reply : Reply) (journal events : List Event) (old new : Core) → TakesAlone strategies x reply events old new → Sound opened start journal old → StepAnswers opened start journal x reply
alone_answers lists theory strategies opened start (Get k s) reply journal events old new t h = get_answers theory opened start k s reply journal events old new t h
alone_answers lists theory strategies opened start (GetInternalEntry k s) reply journal events old new t h = get_entry_answers theory opened start k s reply journal events old new t h
alone_answers lists theory strategies opened start (ContainsKey k s) reply journal events old new t h = contains_answers theory opened start k s reply journal old t.2 h
alone_answers lists theory strategies opened start (SizeOf k s) reply journal events old new t h = size_answers theory opened start k s reply journal old t.2 h
alone_answers lists theory strategies opened start (Range low high s) reply journal events old new t h = pairs_answer theory opened start (Between low high) (Lists old low high s) s reply journal events old new t h
alone_answers lists theory strategies opened start (Iter s) reply journal events old new t h = pairs_answer theory opened start (Between Unbounded Unbounded) (Lists old Unbounded Unbounded s) s reply journal events old new t h
alone_answers lists theory strategies opened start (Prefix p s) reply journal events old new t h = pairs_answer theory opened start (AskPrefix p) (ListsPrefix old p s) s reply journal events old new t h
alone_answers lists theory strategies opened start (Len s) reply journal events old new t h = len_answers lists theory opened start s reply journal old t.2 h
alone_answers lists theory strategies opened start (IsEmpty s) reply journal events old new t h = empty_answers lists theory opened start s reply journal old t.2 h
alone_answers lists theory strategies opened start (FirstKeyValue s) reply journal events old new t h = end_answers lists theory opened start Front s reply journal old t.2 h
alone_answers lists theory strategies opened start (LastKeyValue s) reply journal events old new t h = end_answers lists theory opened start Back s reply journal old t.2 h
alone_answers lists theory strategies opened start step reply journal events old new t h = tt

step_answers : (lists : ListsAreSteps) (theory : Soundness) (strategies : Strategies) (opened : List Entry) (start : Map) (x : Call) (reply : Reply) (journal events : List Event) (old new : Stage) → Takes strategies x reply events old new → Sound opened start journal old.core → StepAnswers opened start journal x reply
step_answers lists theory strategies opened start (AtSlot slot step) reply journal events old new t h = tt
step_answers lists theory strategies opened start x reply journal events old new t h = alone_answers lists theory strategies opened start x reply journal events old.core new.core t.0 h

-- ---- the whole run

pub ran_right : (lists : ListsAreSteps) (laws : KeepLaws) (strategies : Strategies) (opened : List Entry) (start : Map) (xs : List Call) (ts : List Told) (journal : List Event) (old new : Stage) → Ran strategies xs ts old new → IsPlainUse xs → AreMarked journal old.jobs → InOrder opened (journal ++ journal_of ts) → Sound opened start journal old.core → EachAnswers opened start journal xs ts × Sound opened start (journal ++ journal_of ts) new.core
ran_right lists laws strategies opened start [] [] journal old new r plain m order h = (tt, rw (r, append-nil journal) h)
ran_right lists laws strategies opened start [] (t ∷ ts) journal old new r plain m order h = absurd r
ran_right lists laws strategies opened start (x ∷ xs) [] journal old new r plain m order h = absurd r
ran_right lists laws strategies opened start (x ∷ xs) (t ∷ ts) journal old new r plain m order h =
    let joined : (journal ++ t.entries) ++ journal_of ts ≡ journal ++ (t.entries ++ journal_of ts) = append_assoc journal t.entries (journal_of ts) in
    let order' : InOrder opened ((journal ++ t.entries) ++ journal_of ts) = subst (InOrder opened) (sym joined) order in
    let here = takes_sound laws strategies opened start x t.reply journal t.entries old r.0 r.1 (λ is. plain (inl is)) m (laws.theory.kept.front opened (journal ++ t.entries) (journal_of ts) order') h in
    let marked = takes_marked laws.compactions strategies x t.reply journal t.entries old r.0 r.1 m in
    let rest = ran_right lists laws strategies opened start xs ts (journal ++ t.entries) r.0 new r.2 (λ i. plain (inr i)) marked order' here in
    ((step_answers lists laws.theory strategies opened start x t.reply journal t.entries old r.0 r.1 h, rest.0), subst (λ js. Sound opened start js new.core) joined rest.1)

-- what is open is no part of what the theory sees
pub closed : (opened : List Entry) (start : Map) (journal : List Event) (old new : Core) → Closes old new → Sound opened start journal old → Sound opened start journal new
closed opened start journal old new c h = subst (λ (x : Core). Sound opened start journal x) (sym c.rest) h

pub run_replays : (lists : ListsAreSteps) (laws : KeepLaws) (strategies : Strategies) (opened : List Entry) (start : Map) (xs : List Call) (ts : List Told) (old new : Core) → RanToEnd strategies xs ts old new → RunEqualsReplay opened start xs ts old new
run_replays lists laws strategies opened start xs ts old new r plain is order =
    let done = ran_right lists laws strategies opened start xs ts [] (at_first old) r.0 r.1 plain (first_marked old) order (laws.theory.kept.opened opened start (state_of [] old) is) in
    (done.0, laws.theory.right.reads opened start (state_of (without_low_reads opened (journal_of ts)) new) (closed opened start (journal_of ts) r.0.core new r.2 done.1))

-- one more step
pub ran_more : (strategies : Strategies) (xs : List Call) (ts : List Told) (x : Call) (t : Told) (old mid new : Stage) → Ran strategies xs ts old mid → Takes strategies x t.reply t.entries mid new → Ran strategies (xs ++ x ∷ []) (ts ++ t ∷ []) old new
ran_more strategies [] [] x t old mid new r q = (new, subst (λ c. Takes strategies x t.reply t.entries c new) r q, refl)
ran_more strategies [] (u ∷ ts) x t old mid new r q = absurd r
ran_more strategies (y ∷ xs) [] x t old mid new r q = absurd r
ran_more strategies (y ∷ xs) (u ∷ ts) x t old mid new r q = (r.0, r.1, ran_more strategies xs ts x t r.0 mid new r.2 q)

-- a map that is empty has free slots
pub free_slots : (slots : BTreeMap ℕ (Option Job)) (c : Core) → slots.entries ≡ [] → beside c slots ≡ at_first c
free_slots slots c empty = ap (λ es. record { core = c; jobs = λ n. waiting (lookup (is_at (nat_cmp n)) es) }) empty

pub run_to_end : (strategies : Strategies) (xs : List Call) (ts : List Told) (slots : BTreeMap ℕ (Option Job)) (old : Core) (last : Stage) (new : Core) → slots.entries ≡ [] → Ran strategies xs ts (beside old slots) last → Closes last.core new → RanToEnd strategies xs ts old new
run_to_end strategies xs ts slots old last new empty r c = (last, subst (λ s. Ran strategies xs ts s last) (free_slots slots old empty) r, c)

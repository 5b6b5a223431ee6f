-- Each step of a run uses the sequence numbers and the keys that it asks for, and what follows for the order of its journal.
use Rattle.std.proofs.Common.{◌≡◌, ℕ, max, arith, true, List, [], ◌∷◌, ◌++◌, map, Option, inl, inr, refl, sym, ap, subst}
use Rattle.std.specs.List.{AllByRecursion}
use Rattle.lsm_below.specs.Each.{each_weaker}
use Rattle.lsm_below.specs.Entries.{Entry, is_value, is_weak, plain, entry_at}
use Rattle.lsm_below.specs.Keys.{Bytes}
use Rattle.lsm_below.specs.Ranges.{Range}
use Rattle.lsm_below.specs.Members.{IsIn}
use Rattle.lsm_below.specs.declared.value_type.ValueType.{ValueType}
use Rattle.lsm_below.specs.declared.value_type.ValueType.TheVariants.{Value, Tombstone, WeakTombstone}
use Rattle.lsm_model.specs.Counted.{OfWrite}
use Rattle.lsm_model.specs.Journal.{Event, InOrder}
use Rattle.lsm_model.specs.Ops.{op_entry, op_entries}
use Rattle.lsm_model.specs.declared.op.Op.{Op}
use Rattle.lsm_model.specs.declared.op.Op.TheVariants.{Set as SetTo, Del, Weak}
use Rattle.lsm_model.specs.declared.journal.JournalEntry.TheVariants.{Write as Wrote, Clear as DidClear, Install, Dropped, Mark, Read}
use Rattle.lsm_model.specs.declared.question.Question.{Question}
use Rattle.lsm_run_model.specs.Outcomes as out
use Rattle.lsm_run_model.specs.Rising.{At, UsesNumbers, UsesKeys, EachUses, RisesFrom, RisingIsInOrder}
use Rattle.lsm_state.specs.Core.{Core}
use Rattle.lsm_runs.specs.declared.slots.Job.{Job}
use Rattle.lsm_runs.specs.declared.steps.Counter.TheVariants.{Seqno, Visible}
use Rattle.lsm_runs.specs.declared.steps.JobStep.{JobStep}
use Rattle.lsm_runs.specs.declared.steps.JobStep.TheVariants as job
use Rattle.lsm_runs.specs.declared.steps.Reply.{Reply}
use Rattle.lsm_runs.specs.declared.steps.Reply.TheVariants as reply
use Rattle.lsm_runs.specs.declared.steps.Step.{Step as Call}
use Rattle.lsm_runs.specs.declared.steps.Step.TheVariants as step
use Rattle.lsm_runs.specs.Adds.{AddsEntry, AddsBatch, AddsGet, AddsPairs, AddsClear, NoRanges, RangesWithin, IsUpkeepOrDrop, JobAdds, Adds}
use Rattle.lsm_runs.specs.Compacting.{Strategies}
use Rattle.lsm_runs.specs.Drawing.{job_drawing, drawing_of, set_by, weak_by, sets_in, weaks_in, asks_of, plainly, RunUses, RunRises}
use Rattle.lsm_runs.specs.Dropping.{Drops, may_drop}
use Rattle.lsm_runs.specs.JobSteps.{TakesJob}
use Rattle.lsm_runs.specs.OpenFlushes.{BegunFlush}
use Rattle.lsm_runs.specs.Runs.{Takes, TakesAlone, Ran, RanToEnd, journal_of}
use Rattle.lsm_runs.specs.Slots.{Stage, at_first}
use Rattle.lsm_runs.specs.Told.{Told}
use Rattle.lsm_runs.proofs.Adds.{takes_add_some}
use Rattle.lsm_runs.proofs.Merged.{merged_in}
use Rattle.lsm_runs.proofs.Committing.{flush_numbers, active_numbers, register_numbers, clear_numbers, from_numbers, compact_numbers, range_numbers, begin_compaction_numbers, finish_numbers}
use Rattle.lsm_runs.proofs.Drawing.{still, entry_numbers, batch_numbers, get_numbers, get_entry_numbers, pairs_numbers, rotate_numbers, next_reserves, next_visible, put_raises, put_visible, table_id_numbers, moment_numbers, forget_numbers, begin_numbers, run_numbers, tables_numbers, abandon_numbers, run_compaction_numbers, abandon_compaction_numbers}

-- ---- numbers

job_numbers : (strategies : Strategies) (x : JobStep) (r : Reply) (events : List Event) (was is : Option Job) (old new : Core) → TakesJob strategies x r events was is old new → UsesNumbers (job_drawing x) events old.seqno new.seqno
job_numbers strategies job.BeginFlush r events was is old new t = begin_numbers r events was is old new t
job_numbers strategies (job.RunFlush w) r events was is old new t = run_numbers w r events was is old new t
job_numbers strategies job.FlushToTables r events was is old new t = tables_numbers r events was is old new t
job_numbers strategies job.RegisterTables r events was is old new t = register_numbers r events was is old new t
job_numbers strategies job.AbandonFlush r events was is old new t = abandon_numbers r events was is old new t
job_numbers strategies (job.BeginCompaction at o) r events was is old new t = begin_compaction_numbers strategies at o r events was is old new t
job_numbers strategies job.RunCompaction r events was is old new t = run_compaction_numbers r events was is old new t
job_numbers strategies job.FinishCompaction r events was is old new t = finish_numbers r events was is old new t
job_numbers strategies job.AbandonCompaction r events was is old new t = abandon_compaction_numbers r events was is old new t

alone_numbers : (strategies : Strategies) (x : Call) (r : Reply) (events : List Event) (old new : Core) → TakesAlone strategies x r events old new → UsesNumbers (drawing_of x) events old.seqno new.seqno
alone_numbers strategies (step.Insert k v n) r events old new t = entry_numbers (op_entry k n (SetTo v)) r events old new t
alone_numbers strategies (step.Remove k n) r events old new t = entry_numbers (op_entry k n Del) r events old new t
alone_numbers strategies (step.RemoveWeak k n) r events old new t = entry_numbers (op_entry k n Weak) r events old new t
alone_numbers strategies (step.AppendEntry e) r events old new t = entry_numbers (plain e) r events old new t
alone_numbers strategies (step.Write ops) r events old new t = batch_numbers ops r events old new t
alone_numbers strategies (step.Get k s) r events old new t = get_numbers k s r events old new t
alone_numbers strategies (step.GetInternalEntry k s) r events old new t = get_entry_numbers k s r events old new t
alone_numbers strategies (step.ContainsKey k s) r events old new t = still events old new t.0 t.1
alone_numbers strategies (step.SizeOf k s) r events old new t = still events old new t.0 t.1
alone_numbers strategies (step.Range low high s) r events old new t = pairs_numbers _ _ s r events old new t
alone_numbers strategies (step.Iter s) r events old new t = pairs_numbers _ _ s r events old new t
alone_numbers strategies (step.Prefix p s) r events old new t = pairs_numbers _ _ s r events old new t
alone_numbers strategies (step.Len s) r events old new t = still events old new t.0 t.1
alone_numbers strategies (step.IsEmpty s) r events old new t = still events old new t.0 t.1
alone_numbers strategies (step.FirstKeyValue s) r events old new t = still events old new t.0 t.1
alone_numbers strategies (step.LastKeyValue s) r events old new t = still events old new t.0 t.1
alone_numbers strategies step.RotateMemtable r events old new t = rotate_numbers r events old new t
alone_numbers strategies (step.Next Seqno) r events old new t = next_reserves r events old new t
alone_numbers strategies (step.Next Visible) r events old new t = next_visible r events old new t
alone_numbers strategies (step.Set Seqno n) r events old new t = put_raises n n r events old new (λ low. refl) t
alone_numbers strategies (step.Set Visible n) r events old new t = put_visible n r events old new t
alone_numbers strategies (step.FetchMax Seqno n) r events old new t = put_raises n (max old.seqno n) r events old new (λ low. omega (low, arith)) t
alone_numbers strategies (step.FetchMax Visible n) r events old new t = put_visible (max old.visible_seqno n) r events old new t
alone_numbers strategies (step.Flush w) r events old new t = flush_numbers w r events old new t
alone_numbers strategies (step.FlushActiveMemtable w) r events old new t = active_numbers w r events old new t
alone_numbers strategies (step.Compact at w) r events old new t = compact_numbers strategies at _ r events old new t
alone_numbers strategies (step.DoCompaction at o) r events old new t = compact_numbers strategies at o r events old new t
alone_numbers strategies (step.MajorCompact target w) r events old new t = from_numbers _ _ _ r events old new t
alone_numbers strategies (step.DropRange low high) r events old new t = range_numbers _ r events old new t
alone_numbers strategies step.Clear r events old new t = clear_numbers r events old new t
alone_numbers strategies step.ClearActiveMemtable r events old new t = forget_numbers r events old new t
alone_numbers strategies step.GetNextTableId r events old new t = table_id_numbers r events old new t
alone_numbers strategies (step.SetMoment n) r events old new t = moment_numbers n r events old new t
alone_numbers strategies (step.Count what) r events old new t = still events old new t.0 t.1
alone_numbers strategies step.IsUncertain r events old new t = still events old new t.0 t.1
alone_numbers strategies step.IsCompacting r events old new t = still events old new t.0 t.1
alone_numbers strategies step.TreeType r events old new t = still events old new t.0 t.1
alone_numbers strategies (step.AtSlot slot x) r events old new t = absurd t

pub takes_numbers : (strategies : Strategies) (x : Call) (r : Reply) (events : List Event) (old new : Stage) → Takes strategies x r events old new → UsesNumbers (drawing_of x) events old.core.seqno new.core.seqno
takes_numbers strategies (step.AtSlot slot x) r events old new t = job_numbers strategies x r events (old.jobs slot) (new.jobs slot) old.core new.core t.0
takes_numbers strategies x r events old new t = alone_numbers strategies x r events old.core new.core t.0

-- ---- keys

-- what an entry sets and removes weakly is among these keys
abbrev IsAmong : List Bytes → List Bytes → Entry → Type 0
IsAmong sets weak e = (is_value e ≡ true → IsIn e.key.user_key sets) × (is_weak e ≡ true → IsIn e.key.user_key weak)

abbrev AreAmong : List Bytes → List Bytes → List Event → Type 0
AreAmong sets weak events = AllByRecursion (OfWrite (IsAmong sets weak)) events

by_told : (sets weak : List Bytes) (events told : List Event) → events ≡ told → AreAmong sets weak told → AreAmong sets weak events
by_told sets weak events told is h = subst (AreAmong sets weak) (sym is) h

none_among : (sets weak : List Bytes) (events : List Event) → events ≡ [] → AreAmong sets weak events
none_among sets weak events none = by_told sets weak events [] none tt

upkeep_among : (Of : ℕ → Type 0) (May : List Range → Type 0) (sets weak : List Bytes) (events : List Event) → AllByRecursion (IsUpkeepOrDrop Of May) events → AreAmong sets weak events
upkeep_among Of May sets weak events h = each_weaker (IsUpkeepOrDrop Of May) (OfWrite (IsAmong sets weak)) one events h
  where
    one : (x : Event) → IsUpkeepOrDrop Of May x → OfWrite (IsAmong sets weak) x
    one (Mark w) u = tt
    one (Install n) u = tt
    one (Dropped ranges n) u = tt
    one (Wrote e) u = absurd u
    one (DidClear n) u = absurd u
    one (Read s question told) u = absurd u

by_kind : (k : Bytes) (n : ℕ) (kind : ValueType) (v : Bytes) → IsAmong (set_by k kind) (weak_by k kind) (entry_at k n kind v)
by_kind k n Value v = (λ h. inl refl, λ h. cc h)
by_kind k n Tombstone v = (λ h. cc h, λ h. cc h)
by_kind k n WeakTombstone v = (λ h. cc h, λ h. inl refl)

entry_among : (e : Entry) (sets weak : List Bytes) (r : Reply) (events : List Event) → IsAmong sets weak e → AddsEntry e r events → AreAmong sets weak events
entry_among e sets weak (reply.Sizes size total) events h a = by_told sets weak events (Wrote e ∷ []) a (h, tt)
entry_among e sets weak r events h a = none_among sets weak events a

in_rest : (k : Bytes) (first rest : List Bytes) → IsIn k rest → IsIn k (first ++ rest)
in_rest k [] rest i = i
in_rest k (j ∷ first) rest i = inr (in_rest k first rest i)

op_among : (k : Bytes) (n : ℕ) (op : Op) (ops : List (Bytes × Op)) → IsAmong (sets_in ((k, op) ∷ ops)) (weaks_in ((k, op) ∷ ops)) (op_entry k n op)
op_among k n (SetTo v) ops = (λ h. inl refl, λ h. cc h)
op_among k n Del ops = (λ h. cc h, λ h. cc h)
op_among k n Weak ops = (λ h. cc h, λ h. inl refl)

ops_among : (n : ℕ) (ops : List (Bytes × Op)) → AreAmong (sets_in ops) (weaks_in ops) (map Wrote (op_entries n ops))
ops_among n [] = tt
ops_among n (p ∷ ops) = (op_among p.0 n p.1 ops, each_weaker (OfWrite (IsAmong (sets_in ops) (weaks_in ops))) (OfWrite (IsAmong (sets_in (p ∷ ops)) (weaks_in (p ∷ ops)))) more (map Wrote (op_entries n ops)) (ops_among n ops))
  where
    more : (x : Event) → OfWrite (IsAmong (sets_in ops) (weaks_in ops)) x → OfWrite (IsAmong (sets_in (p ∷ ops)) (weaks_in (p ∷ ops))) x
    more (Wrote e) h = (λ v. in_rest e.key.user_key _ (sets_in ops) (h.0 v), λ w. in_rest e.key.user_key _ (weaks_in ops) (h.1 w))
    more (DidClear m) h = tt
    more (Install m) h = tt
    more (Dropped ranges m) h = tt
    more (Mark w) h = tt
    more (Read s question told) h = tt

batch_among : (ops : List (Bytes × Op)) (r : Reply) (events : List Event) → AddsBatch ops r events → AreAmong (sets_in ops) (weaks_in ops) events
batch_among ops (reply.Number n) events a = by_told (sets_in ops) (weaks_in ops) events (map Wrote (op_entries n ops)) a (ops_among n ops)
batch_among ops r events a = none_among (sets_in ops) (weaks_in ops) events a

get_among : (k : Bytes) (s : ℕ) (r : Reply) (events : List Event) → AddsGet k s r events → AreAmong [] [] events
get_among k s (reply.Value v) events a = by_told [] [] events _ a (tt, tt)
get_among k s r events a = none_among [] [] events a

pairs_among : (question : Question) (s : ℕ) (r : Reply) (events : List Event) → AddsPairs question s r events → AreAmong [] [] events
pairs_among question s (reply.Pairs pairs) events a = by_told [] [] events _ a (tt, tt)
pairs_among question s r events a = none_among [] [] events a

clear_among : (r : Reply) (events : List Event) → AddsClear r events → AreAmong [] [] events
clear_among (reply.Cleared n) events a = by_told [] [] events _ a (tt, tt)
clear_among r events a = none_among [] [] events a

job_among : (May : Drops) (flush : BegunFlush) (x : JobStep) (events : List Event) → JobAdds May flush x events → AreAmong [] [] events
job_among May flush job.RegisterTables events a = upkeep_among (λ v. v ≡ flush.watermark) NoRanges [] [] events a
job_among May flush (job.BeginCompaction at o) events a = upkeep_among (λ v. v ≡ o.mvcc_gc_watermark) (May at) [] [] events a
job_among May flush job.FinishCompaction events a = upkeep_among (λ v. ⊥) NoRanges [] [] events a
job_among May flush x events a = none_among [] [] events a

pub adds_keys : (May : Drops) (begun : ℕ → BegunFlush) (x : Call) (r : Reply) (events : List Event) → Adds May begun x r events → UsesKeys (asks_of x) events
adds_keys May begun (step.Insert k v n) r events a = entry_among (op_entry k n (SetTo v)) (k ∷ []) [] r events (by_kind k n Value v) a
adds_keys May begun (step.Remove k n) r events a = entry_among (op_entry k n Del) [] [] r events (by_kind k n Tombstone []) a
adds_keys May begun (step.RemoveWeak k n) r events a = entry_among (op_entry k n Weak) [] (k ∷ []) r events (by_kind k n WeakTombstone []) a
adds_keys May begun (step.AppendEntry e) r events a = entry_among (plain e) (set_by e.key.user_key e.key.value_type) (weak_by e.key.user_key e.key.value_type) r events (by_kind e.key.user_key e.key.seqno e.key.value_type (plain e).value) a
adds_keys May begun (step.Write ops) r events a = batch_among ops r events a
adds_keys May begun (step.Get k s) r events a = get_among k s r events a
adds_keys May begun (step.Range low high s) r events a = pairs_among _ s r events a
adds_keys May begun (step.Iter s) r events a = pairs_among _ s r events a
adds_keys May begun (step.Prefix p s) r events a = pairs_among _ s r events a
adds_keys May begun step.Clear r events a = clear_among r events a
adds_keys May begun (step.Flush w) r events a = upkeep_among (λ v. v ≡ w) NoRanges [] [] events a
adds_keys May begun (step.FlushActiveMemtable w) r events a = upkeep_among (λ v. v ≡ w) NoRanges [] [] events a
adds_keys May begun (step.Compact at w) r events a = upkeep_among (λ v. v ≡ w) (May at) [] [] events a
adds_keys May begun (step.DoCompaction at o) r events a = upkeep_among (λ v. v ≡ o.mvcc_gc_watermark) (May at) [] [] events a
adds_keys May begun (step.MajorCompact target w) r events a = upkeep_among (λ v. v ≡ w) NoRanges [] [] events a
adds_keys May begun (step.DropRange low high) r events a = upkeep_among (λ v. v ≡ 0) (RangesWithin low high) [] [] events a
adds_keys May begun (step.AtSlot slot x) r events a = job_among May (begun slot) x events a
adds_keys May begun x r events a = none_among [] [] events a

-- ---- runs

ran_uses : (strategies : Strategies) (xs : List Call) (ts : List Told) (old new : Stage) → Ran strategies xs ts old new → (counters : List ℕ) × EachUses (map asks_of xs) (map plainly ts) old.core.seqno counters
ran_uses strategies [] [] old new r = ([], tt)
ran_uses strategies [] (t ∷ ts) old new r = absurd r
ran_uses strategies (x ∷ xs) [] old new r = absurd r
ran_uses strategies (x ∷ xs) (t ∷ ts) old new r =
    let rest = ran_uses strategies xs ts r.0 new r.2 in
    (r.0.core.seqno ∷ rest.0, (takes_numbers strategies x t.reply t.entries old r.0 r.1, adds_keys (may_drop strategies) (merged_in old.jobs) x t.reply t.entries (takes_add_some strategies x t.reply t.entries old r.0 r.1), rest.1))

pub run_uses : (strategies : Strategies) (xs : List Call) (ts : List Told) (old new : Core) → RanToEnd strategies xs ts old new → RunUses xs ts old
run_uses strategies xs ts old new r = let u = ran_uses strategies xs ts (at_first old) r.0 r.1 in record { counters = u.0; uses = u.1 }

-- ---- the order of a run

pub drawings : (xs : List Call) → map drawing_of xs ≡ map (λ call. call.drawing) (map asks_of xs)
drawings [] = refl
drawings (x ∷ xs) = ap (λ ds. drawing_of x ∷ ds) (drawings xs)

same_journal : (ts : List Told) → out.journal_of (map plainly ts) ≡ journal_of ts
same_journal [] = refl
same_journal (t ∷ ts) = ap (λ es. t.entries ++ es) (same_journal ts)

pub run_rises : RisingIsInOrder Reply → (xs : List Call) (ts : List Told) (old : Core) → RunUses xs ts old → RunRises xs ts old
run_rises law xs ts old u opened low used counted rises weak =
    subst (InOrder opened) (same_journal ts)
    (law opened [] (map asks_of xs) (map plainly ts) old.seqno low (At old.seqno) [] u.counters (record { order = tt; counted = counted; used = used; sets = λ k. omega arith }) refl (subst (RisesFrom low (At old.seqno)) (drawings xs) rises) weak u.uses).order

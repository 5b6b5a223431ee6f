-- What a run writes is numbered below 2^63: a write under a greater number is refused.
use Rattle.std.proofs.Common.{◌≡◌, ◌⊎◌, ⊎_elim, ℕ, zero, suc, ◌+◌, ◌<◌, ◌≤◌, ◌^◌, arith, Bool, true, false, cond, List, [], ◌∷◌, ◌++◌, map, flat_map, take, Option, Some, None, Result, Ok, Err, IfSome, refl, sym, subst}
use Rattle.std.specs.List.{AllByRecursion, list_any}
use Rattle.std.proofs.lemmas.Bool.Decides.{nat_tests}
use Rattle.lsm_below.specs.Each.{each_append, each_left, each_right, each_filter, each_weaker}
use Rattle.lsm_below.specs.Entries.{Entry, above, plain}
use Rattle.lsm_below.specs.Keys.{Bytes}
use Rattle.lsm_below.specs.Ranges.{Range}
use Rattle.lsm_below.specs.declared.error.Error.{Error}
use Rattle.lsm_below.specs.declared.error.Error.TheVariants.{OutOfMemory, OutOfNumbers, KeyTooLong, ValueTooLong, NumberTooGreat, DuplicateKey}
use Rattle.lsm_model.specs.Counted.{OfWrite}
use Rattle.lsm_model.specs.Journal.{Event}
use Rattle.lsm_model.specs.Ops.{op_entry, op_entries, op_value, repeats, keys_of}
use Rattle.lsm_model.specs.declared.op.Op.{Op}
use Rattle.lsm_model.specs.declared.op.Op.TheVariants.{Set as SetTo, Del, Weak}
use Rattle.lsm_model.specs.declared.journal.JournalEntry.TheVariants.{Write as Wrote}
use Rattle.lsm_model.specs.declared.question.Question.{Question}
use Rattle.lsm_model.specs.Views.{Table, Placed, placed_at, placed_from, held}
use Rattle.lsm_tables.specs.Tables.{SeenTable}
use Rattle.lsm_versions.specs.Levels.{Levels, shown_table, shown_levels, placed_of}
use Rattle.lsm_manifest.specs.Standing.{HasSmallNumbers}
use Rattle.lsm_state.specs.Core.{Core}
use Rattle.lsm_state.specs.Refusals.{is_great, is_long_key, is_long_value, entry_refusal, batch_refusal}
use Rattle.lsm_run_model.specs.Composing.{AreNumbered}
use Rattle.lsm_run_model.specs.Outcomes.{Past, nothing, after, after_all, is_no_low_read, without_low_reads}
use Rattle.lsm_run_model.specs.Outcomes as out
use Rattle.lsm_runs.specs.declared.steps.JobStep.{JobStep}
use Rattle.lsm_runs.specs.declared.steps.JobStep.TheVariants as job
use Rattle.lsm_runs.specs.declared.steps.Reply.{Reply}
use Rattle.lsm_runs.specs.declared.steps.Reply.TheVariants as reply
use Rattle.lsm_runs.specs.declared.steps.Step.{Step as Call}
use Rattle.lsm_runs.specs.declared.steps.Step.TheVariants as step
use Rattle.lsm_runs.specs.Adds.{AddsGet, AddsPairs, AddsClear, NoRanges, RangesWithin, IsUpkeepOrDrop, JobAdds}
use Rattle.lsm_runs.specs.Compacting.{Strategies}
use Rattle.lsm_runs.specs.Dropping.{Drops, may_drop}
use Rattle.lsm_runs.specs.OpenFlushes.{BegunFlush}
use Rattle.lsm_runs.specs.Runs.{Takes, TakesEntry, TakesBatch, Ran, RanToEnd, journal_of}
use Rattle.lsm_runs.specs.Slots.{Stage, at_first}
use Rattle.lsm_runs.specs.Told.{Told}
use Rattle.lsm_runs.proofs.Adds.{takes_add_some}
use Rattle.lsm_runs.proofs.Merged.{merged_in}

-- what is written, is numbered so
abbrev pub IsSmall : Event → Type 0
IsSmall x = OfWrite (λ e. e.key.seqno < 2 ^ 63) x

nothing_small : (events : List Event) → events ≡ [] → AllByRecursion IsSmall events
nothing_small events none = subst (AllByRecursion IsSmall) (sym none) tt

-- ---- writes

below_limit : (n : ℕ) → is_great n ≡ false → n < 2 ^ 63
below_limit n h = grind (arith, nat_tests)

not_great : (a b c : Bool) → cond a (Some KeyTooLong) (cond b (Some ValueTooLong) (cond c (Some NumberTooGreat) None)) ≡ None → c ≡ false
not_great true b c h = absurd (cc h)
not_great false true c h = absurd (cc h)
not_great false false true h = absurd (cc h)
not_great false false false h = refl

none_great : (a b c d : Bool) → cond a (Some OutOfNumbers) (cond b (Some KeyTooLong) (cond c (Some ValueTooLong) (cond d (Some DuplicateKey) None))) ≡ None → a ≡ false
none_great true b c d h = absurd (cc h)
none_great false b c d h = refl

-- what is accepted has no reason to be refused
accepted : {T : Type 0} (x : T) (o : Option Error) → IfSome o (λ e. ◌≡◌ {A = Result T Error} (Ok x) (Err e)) → o ≡ None
accepted x None h = refl
accepted x (Some e) h = absurd (cc h)

accepted_batch : {T : Type 0} (x : T) (o : Option Error) → IfSome o (λ e. (◌≡◌ {A = Result T Error} (Ok x) (Err e)) ⊎ (◌≡◌ {A = Result T Error} (Ok x) (Err OutOfMemory))) → o ≡ None
accepted_batch x None h = refl
accepted_batch x (Some e) h = absurd (⊎_elim (λ a. cc a) (λ b. cc b) h)

entry_small : (e : Entry) (r : Reply) (events : List Event) (old new : Core) → TakesEntry e r events old new → AllByRecursion IsSmall events
entry_small e (reply.Sizes size total) events old new t =
    let free = accepted (size, total) (entry_refusal e) t.1.told in
    subst (AllByRecursion IsSmall) (sym t.0) (below_limit e.key.seqno (not_great (is_long_key e.key.user_key) (is_long_value e.value) (is_great e.key.seqno) free), tt)
entry_small e (reply.Refused x) events old new t = nothing_small events t.0
entry_small e r events old new t = absurd t

pub op_number : (k : Bytes) (n : ℕ) (op : Op) → (op_entry k n op).key.seqno ≡ n
op_number k n (SetTo v) = refl
op_number k n Del = refl
op_number k n Weak = refl

ops_small : (n : ℕ) (ops : List (Bytes × Op)) → n < 2 ^ 63 → AllByRecursion IsSmall (map Wrote (op_entries n ops))
ops_small n [] low = tt
ops_small n (p ∷ ops) low = (subst (λ m. m < 2 ^ 63) (sym (op_number p.0 n p.1)) low, ops_small n ops low)

batch_small : (ops : List (Bytes × Op)) (r : Reply) (events : List Event) (old new : Core) → TakesBatch ops r events old new → AllByRecursion IsSmall events
batch_small ops (reply.Number n) events old new t =
    let free = accepted_batch n (batch_refusal old.seqno ops) t.1.told in
    let low = below_limit old.seqno (none_great (is_great old.seqno) (list_any (λ p. is_long_key p.0) ops) (list_any (λ p. is_long_value (op_value p.1)) ops) (repeats (keys_of ops)) free) in
    subst (AllByRecursion IsSmall) (sym t.0) (ops_small n ops (subst (λ m. m < 2 ^ 63) (sym t.1.number) low))
batch_small ops (reply.Refused x) events old new t = nothing_small events t.0
batch_small ops r events old new t = absurd t

-- ---- all else writes nothing

upkeep_small : (Of : ℕ → Type 0) (May : List Range → Type 0) (x : Event) → IsUpkeepOrDrop Of May x → IsSmall x
upkeep_small Of May (Wrote e) h = absurd h
upkeep_small Of May x h = tt

upkeeps_small : (Of : ℕ → Type 0) (May : List Range → Type 0) (events : List Event) → AllByRecursion (IsUpkeepOrDrop Of May) events → AllByRecursion IsSmall events
upkeeps_small Of May events h = each_weaker (IsUpkeepOrDrop Of May) IsSmall (upkeep_small Of May) events h

get_small : (k : Bytes) (s : ℕ) (r : Reply) (events : List Event) → AddsGet k s r events → AllByRecursion IsSmall events
get_small k s (reply.Value v) events h = subst (AllByRecursion IsSmall) (sym h) (tt, tt)
get_small k s r events h = nothing_small events h

pairs_small : (question : Question) (s : ℕ) (r : Reply) (events : List Event) → AddsPairs question s r events → AllByRecursion IsSmall events
pairs_small question s (reply.Pairs pairs) events h = subst (AllByRecursion IsSmall) (sym h) (tt, tt)
pairs_small question s r events h = nothing_small events h

clear_small : (r : Reply) (events : List Event) → AddsClear r events → AllByRecursion IsSmall events
clear_small (reply.Cleared n) events h = subst (AllByRecursion IsSmall) (sym h) (tt, tt)
clear_small r events h = nothing_small events h

job_small : (May : Drops) (flush : BegunFlush) (x : JobStep) (events : List Event) → JobAdds May flush x events → AllByRecursion IsSmall events
job_small May flush job.RegisterTables events h = upkeeps_small (λ v. v ≡ flush.watermark) NoRanges events h
job_small May flush (job.BeginCompaction at o) events h = upkeeps_small (λ v. v ≡ o.mvcc_gc_watermark) (May at) events h
job_small May flush job.FinishCompaction events h = upkeeps_small (λ v. ⊥) NoRanges events h
job_small May flush x events h = nothing_small events h

pub takes_small : (strategies : Strategies) (x : Call) (r : Reply) (events : List Event) (old new : Stage) → Takes strategies x r events old new → AllByRecursion IsSmall events
takes_small strategies (step.Insert k v n) r events old new t = entry_small (op_entry k n (SetTo v)) r events old.core new.core t.0
takes_small strategies (step.Remove k n) r events old new t = entry_small (op_entry k n Del) r events old.core new.core t.0
takes_small strategies (step.RemoveWeak k n) r events old new t = entry_small (op_entry k n Weak) r events old.core new.core t.0
takes_small strategies (step.AppendEntry e) r events old new t = entry_small (plain e) r events old.core new.core t.0
takes_small strategies (step.Write ops) r events old new t = batch_small ops r events old.core new.core t.0
takes_small strategies (step.Get k s) r events old new t = get_small k s r events (takes_add_some strategies (step.Get k s) r events old new t)
takes_small strategies (step.Range low high s) r events old new t = pairs_small _ s r events (takes_add_some strategies (step.Range low high s) r events old new t)
takes_small strategies (step.Iter s) r events old new t = pairs_small _ s r events (takes_add_some strategies (step.Iter s) r events old new t)
takes_small strategies (step.Prefix p s) r events old new t = pairs_small _ s r events (takes_add_some strategies (step.Prefix p s) r events old new t)
takes_small strategies step.Clear r events old new t = clear_small r events (takes_add_some strategies step.Clear r events old new t)
takes_small strategies (step.Flush w) r events old new t = upkeeps_small (λ v. v ≡ w) NoRanges events (takes_add_some strategies (step.Flush w) r events old new t)
takes_small strategies (step.FlushActiveMemtable w) r events old new t = upkeeps_small (λ v. v ≡ w) NoRanges events (takes_add_some strategies (step.FlushActiveMemtable w) r events old new t)
takes_small strategies (step.Compact at w) r events old new t = upkeeps_small (λ v. v ≡ w) (may_drop strategies at) events (takes_add_some strategies (step.Compact at w) r events old new t)
takes_small strategies (step.DoCompaction at o) r events old new t = upkeeps_small (λ v. v ≡ o.mvcc_gc_watermark) (may_drop strategies at) events (takes_add_some strategies (step.DoCompaction at o) r events old new t)
takes_small strategies (step.MajorCompact target w) r events old new t = upkeeps_small (λ v. v ≡ w) NoRanges events (takes_add_some strategies (step.MajorCompact target w) r events old new t)
takes_small strategies (step.DropRange low high) r events old new t = upkeeps_small (λ v. v ≡ 0) (RangesWithin low high) events (takes_add_some strategies (step.DropRange low high) r events old new t)
takes_small strategies (step.AtSlot slot x) r events old new t = job_small (may_drop strategies) (merged_in old.jobs slot) x events (takes_add_some strategies (step.AtSlot slot x) r events old new t)
takes_small strategies x r events old new t = nothing_small events (takes_add_some strategies x r events old new t)

run_small_from : (strategies : Strategies) (xs : List Call) (ts : List Told) (old new : Stage) → Ran strategies xs ts old new → AllByRecursion IsSmall (journal_of ts)
run_small_from strategies [] [] old new r = tt
run_small_from strategies [] (t ∷ ts) old new r = absurd r
run_small_from strategies (x ∷ xs) [] old new r = absurd r
run_small_from strategies (x ∷ xs) (t ∷ ts) old new r = each_append IsSmall t.entries (journal_of ts) (takes_small strategies x t.reply t.entries old r.0 r.1) (run_small_from strategies xs ts r.0 new r.2)

pub run_small : (strategies : Strategies) (xs : List Call) (ts : List Told) (old new : Core) → RanToEnd strategies xs ts old new → AllByRecursion IsSmall (journal_of ts)
run_small strategies xs ts old new r = run_small_from strategies xs ts (at_first old) r.0 r.1

-- ---- of the first so many outcomes, after a journal

module _ (opened : List Entry) where
  after_small : (outcomes : List (out.Told Reply)) (past : Past) → AllByRecursion IsSmall past.journal → AllByRecursion IsSmall (out.journal_of outcomes) → AllByRecursion IsSmall (after_all opened past outcomes).journal
  after_small [] past h k = h
  after_small (o ∷ outcomes) past h k =
      after_small outcomes (after opened past o)
      (each_append IsSmall past.journal (without_low_reads opened o.entries) h (each_filter IsSmall (is_no_low_read opened) o.entries (each_left IsSmall o.entries (out.journal_of outcomes) k)))
      (each_right IsSmall o.entries (out.journal_of outcomes) k)

  front_small : (many : ℕ) (outcomes : List (out.Told Reply)) → AllByRecursion IsSmall (out.journal_of outcomes) → AllByRecursion IsSmall (out.journal_of (take many outcomes))
  front_small zero outcomes k = tt
  front_small (suc many) [] k = tt
  front_small (suc many) (o ∷ outcomes) k = each_append IsSmall o.entries (out.journal_of (take many outcomes)) (each_left IsSmall o.entries (out.journal_of outcomes) k) (front_small many outcomes (each_right IsSmall o.entries (out.journal_of outcomes) k))

  pub numbered_front : (many : ℕ) (outcomes : List (out.Told Reply)) → above opened ≤ 2 ^ 63 → AllByRecursion IsSmall (out.journal_of outcomes) → AreNumbered (2 ^ 63) opened (after_all opened nothing (take many outcomes)).journal
  numbered_front many outcomes low k = record { before = low; written = after_small (take many outcomes) nothing tt (front_small many outcomes k) }

-- ---- of what is found

abbrev Low : Entry → Type 0
Low e = e.key.seqno < 2 ^ 63

above_low : (es : List Entry) → AllByRecursion Low es → above es ≤ 2 ^ 63
above_low [] h = omega arith
above_low (e ∷ es) h = let rest = above_low es h.1 in let here = h.0 in omega arith

run_low : (level : ℕ) (run : List SeenTable) → AllByRecursion (λ u. AllByRecursion Low u.entries) run → (rest : List Table) → AllByRecursion Low (held (map (placed_at level) rest)) → AllByRecursion Low (held (map (placed_at level) (map shown_table run ++ rest)))
run_low level [] h rest k = k
run_low level (u ∷ run) h rest k = each_append Low u.entries (held (map (placed_at level) (map shown_table run ++ rest))) h.0 (run_low level run h.1 rest k)

runs_low : (level : ℕ) (runs : List (List SeenTable)) → AllByRecursion (λ r. AllByRecursion (λ u. AllByRecursion Low u.entries) r) runs → AllByRecursion Low (held (map (placed_at level) (flat_map (λ r. r) (map (λ run. map shown_table run) runs))))
runs_low level [] h = tt
runs_low level (run ∷ runs) h = run_low level run h.0 (flat_map (λ r. r) (map (λ run. map shown_table run) runs)) (runs_low level runs h.1)

held_low : (these others : List Placed) → AllByRecursion Low (held these) → AllByRecursion Low (held others) → AllByRecursion Low (held (these ++ others))
held_low [] others h k = k
held_low (p ∷ these) others h k = each_append Low p.table.entries (held (these ++ others)) (each_left Low p.table.entries (held these) h) (held_low these others (each_right Low p.table.entries (held these) h) k)

levels_low : (level : ℕ) (levels : Levels) → HasSmallNumbers levels → AllByRecursion Low (held (placed_from level (shown_levels levels)))
levels_low level [] h = tt
levels_low level (runs ∷ levels) h =
    held_low (map (placed_at level) (flat_map (λ r. r) (map (λ run. map shown_table run) runs))) (placed_from (level + 1) (shown_levels levels)) (runs_low level runs h.0) (levels_low (level + 1) levels h.1)

pub found_low : (levels : Levels) → HasSmallNumbers levels → above (held (placed_of levels)) ≤ 2 ^ 63
found_low levels h = above_low (held (placed_of levels)) (levels_low 0 levels h)

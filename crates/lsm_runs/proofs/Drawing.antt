-- What steps do with sequence numbers that install nothing.
use Rattle.std.proofs.Common.{◌≡◌, ◌⊎◌, inl, inr, ⊎_elim, ℕ, ◌+◌, ◌≤◌, ◌^◌, arith, Bool, true, false, cond, List, [], ◌∷◌, ◌++◌, map, Option, Some, None, IfSome, Result, Ok, Err, refl, sym, ap, ◌∙◌, subst}
use Rattle.std.specs.List.{AllByRecursion, list_any}
use Rattle.lsm_below.specs.Entries.{Entry}
use Rattle.lsm_below.specs.Keys.{Bytes, is_same}
use Rattle.lsm_below.specs.declared.error.Error.{Error}
use Rattle.lsm_below.specs.declared.error.Error.TheVariants.{OutOfMemory, OutOfNumbers, KeyTooLong, ValueTooLong, DuplicateKey}
use Rattle.lsm_model.specs.Journal.{Event}
use Rattle.lsm_model.specs.Ops.{op_entry, op_entries, op_value, repeats, keys_of}
use Rattle.lsm_model.specs.Views.{EachPair}
use Rattle.lsm_model.specs.declared.op.Op.{Op}
use Rattle.lsm_model.specs.declared.op.Op.TheVariants.{Set as SetTo, Del, Weak}
use Rattle.lsm_model.specs.declared.journal.JournalEntry.TheVariants.{Write as Wrote, Clear as DidClear, Install}
use Rattle.lsm_model.specs.declared.question.Question.{Question}
use Rattle.lsm_flush.specs.Jobs.{SeenJob}
use Rattle.lsm_versions.specs.TableLaws.{or_parts, none_with}
use Rattle.lsm_compaction.specs.Merges.{SeenCompaction}
use Rattle.lsm_run_model.specs.Rising.{Silent, Own, Raises, Reserves, Draws, IsUnnumbered, UsesNumbers}
use Rattle.lsm_state.specs.Core.{Core}
use Rattle.lsm_state.specs.Calls.{Rotates}
use Rattle.lsm_state.specs.Refusals.{is_great, is_long_key, is_long_value, batch_refusal}
use Rattle.lsm_state.specs.Commits.{counted}
use Rattle.lsm_state.specs.Flushes.{Begins}
use Rattle.lsm_state.specs.Clearing.{forgotten}
use Rattle.lsm_state.specs.Compactions.{Spends}
use Rattle.lsm_runs.specs.declared.slots.Job.{Job}
use Rattle.lsm_runs.specs.declared.steps.Counter.TheVariants as counter
use Rattle.lsm_runs.specs.declared.steps.Reply.{Reply}
use Rattle.lsm_runs.specs.declared.steps.Reply.TheVariants as reply
use Rattle.lsm_runs.specs.Clearing.{TakesForget}
use Rattle.lsm_runs.specs.Compacting.{TakesRunCompaction, TakesAbandonCompaction, TakesTableId}
use Rattle.lsm_runs.specs.Flushing.{TakesBegin, TakesRun, TakesTables, TakesAbandon, TakesMoment}
use Rattle.lsm_runs.specs.ReadSteps.{TakesGet, TakesGetEntry, TakesPairs}
use Rattle.lsm_runs.specs.Runs.{TakesEntry, TakesBatch, TakesRotate, TakesNext, TakesCounter}
use Rattle.lsm_runs.proofs.Clearing.{forgets_either}
use Rattle.lsm_runs.proofs.Small.{op_number}

-- ---- words

-- the counter of a tree that is another one
pub seqno_of : (new mid : Core) → new ≡ mid → new.seqno ≡ mid.seqno
seqno_of new mid is = ap (λ (c : Core). c.seqno) is

-- the counter stays, or moves by one
abbrev pub Near : ℕ → ℕ → Type 0
Near old new = (old ≤ new) × (new ≤ old + 1)

pub near_same : (old new : ℕ) → new ≡ old → Near old new
near_same old new is = (omega (is, arith), omega (is, arith))

pub near_next : (old new : ℕ) → new ≡ old + 1 → Near old new
near_next old new is = (omega (is, arith), omega (is, arith))

pub near_either : (old new : ℕ) → (new ≡ old) ⊎ (new ≡ old + 1) → Near old new
near_either old new (inl is) = near_same old new is
near_either old new (inr is) = near_next old new is

pub same_or_counted : (old new : Core) → (new ≡ old) ⊎ (new ≡ counted old) → Near old.seqno new.seqno
same_or_counted old new (inl is) = near_same old.seqno new.seqno (seqno_of new old is)
same_or_counted old new (inr is) = near_next old.seqno new.seqno (seqno_of new (counted old) is)

-- events without numbers, whether the counter's next one is drawn or not
pub unnumbered : (events told : List Event) (old new : ℕ) → events ≡ told → AllByRecursion IsUnnumbered told → Near old new → UsesNumbers Draws events old new
unnumbered events told old new is each near = subst (λ es. UsesNumbers Draws es old new) (sym is) (inl (each, near.0, near.1))

pub idle : (events : List Event) (old new : Core) → events ≡ [] → new ≡ old → UsesNumbers Draws events old.seqno new.seqno
idle events old new none is = unnumbered events [] old.seqno new.seqno none tt (near_same old.seqno new.seqno (seqno_of new old is))

-- an install or a clear under the counter's next number, which is drawn
pub drawn : (events front : List Event) (x : Event) (old new : ℕ) → events ≡ front ++ x ∷ [] → AllByRecursion IsUnnumbered front → (x ≡ Install old) ⊎ (x ≡ DidClear old) → new ≡ old + 1 → UsesNumbers Draws events old new
drawn events front x old new are before is next = inr (next, inr (record { front = front; event = x; back = []; are = are; before = before; is = is; after = tt }))

-- nothing is told, and the counter stays
silent : (events : List Event) (old new : ℕ) → events ≡ [] → new ≡ old → UsesNumbers Silent events old new
silent events old new none same = (subst (AllByRecursion IsUnnumbered) (sym none) tt, same)

pub still : (events : List Event) (old new : Core) → events ≡ [] → new ≡ old → UsesNumbers Silent events old.seqno new.seqno
still events old new none is = silent events old.seqno new.seqno none (seqno_of new old is)

-- ---- writes

pub entry_numbers : (e : Entry) (r : Reply) (events : List Event) (old new : Core) → TakesEntry e r events old new → UsesNumbers (Own e.key.seqno) events old.seqno new.seqno
entry_numbers e (reply.Sizes size total) events old new t = (inr (e, t.0, refl), seqno_of new _ t.1.core)
entry_numbers e (reply.Refused x) events old new t = (inl t.0, seqno_of new old t.1.unchanged)
entry_numbers e r events old new t = absurd t

op_key : (k : Bytes) (n : ℕ) (op : Op) → (op_entry k n op).key.user_key ≡ k
op_key k n (SetTo v) = refl
op_key k n Del = refl
op_key k n Weak = refl

numbered : (n : ℕ) (ops : List (Bytes × Op)) → AllByRecursion (λ e. e.key.seqno ≡ n) (op_entries n ops)
numbered n [] = tt
numbered n (p ∷ ops) = (op_number p.0 n p.1, numbered n ops)

apart : (k : Bytes) (n : ℕ) (ops : List (Bytes × Op)) → AllByRecursion (λ j. is_same k j ≡ false) (keys_of ops) → AllByRecursion (λ e. is_same k e.key.user_key ≡ false) (op_entries n ops)
apart k n [] h = tt
apart k n (p ∷ ops) h = (ap (is_same k) (op_key p.0 n p.1) ∙ h.0, apart k n ops h.1)

-- where no key comes twice the entries are of different keys
distinct : (n : ℕ) (ops : List (Bytes × Op)) → repeats (keys_of ops) ≡ false → EachPair (λ e f. is_same e.key.user_key f.key.user_key ≡ false) (op_entries n ops)
distinct n [] h = tt
distinct n (p ∷ ops) h =
    let parts = or_parts (list_any (is_same p.0) (keys_of ops)) (repeats (keys_of ops)) h in
    (subst (λ k. AllByRecursion (λ e. is_same k e.key.user_key ≡ false) (op_entries n ops)) (sym (op_key p.0 n p.1)) (apart p.0 n ops (none_with (is_same p.0) (keys_of ops) parts.0)), distinct n ops parts.1)

-- no reason refuses a batch that is answered
no_reason : (n : ℕ) (o : Option Error) → IfSome o (λ x. (◌≡◌ {A = Result ℕ Error} (Ok n) (Err x)) ⊎ (◌≡◌ {A = Result ℕ Error} (Ok n) (Err OutOfMemory))) → o ≡ None
no_reason n None h = refl
no_reason n (Some x) h = absurd (⊎_elim (λ (e : ◌≡◌ {A = Result ℕ Error} (Ok n) (Err x)). no e) (λ (e : ◌≡◌ {A = Result ℕ Error} (Ok n) (Err OutOfMemory)). no e) h)
  where
    no : {y : Error} → ◌≡◌ {A = Result ℕ Error} (Ok n) (Err y) → ⊥
    no e = cc e

-- so no key comes twice in it
last_reason : (a b c d : Bool) → cond a (Some OutOfNumbers) (cond b (Some KeyTooLong) (cond c (Some ValueTooLong) (cond d (Some DuplicateKey) None))) ≡ None → d ≡ false
last_reason true b c d h = absurd (cc h)
last_reason false true c d h = absurd (cc h)
last_reason false false true d h = absurd (cc h)
last_reason false false false true h = absurd (cc h)
last_reason false false false false h = refl

once : (n : ℕ) (ops : List (Bytes × Op)) → batch_refusal n ops ≡ None → repeats (keys_of ops) ≡ false
once n ops h = last_reason (is_great n) (list_any (λ p. is_long_key p.0) ops) (list_any (λ p. is_long_value (op_value p.1)) ops) (repeats (keys_of ops)) h

pub batch_numbers : (ops : List (Bytes × Op)) (r : Reply) (events : List Event) (old new : Core) → TakesBatch ops r events old new → UsesNumbers Draws events old.seqno new.seqno
batch_numbers ops (reply.Number n) events old new t = inr (
  seqno_of new _ t.1.core,
  inl (record {
    entries = op_entries old.seqno ops;
    are = t.0 ∙ ap (λ m. map Wrote (op_entries m ops)) t.1.number;
    numbered = numbered old.seqno ops;
    distinct = distinct old.seqno ops (once old.seqno ops (no_reason n (batch_refusal old.seqno ops) t.1.told));
  }),
)
batch_numbers ops (reply.Refused x) events old new t = idle events old new t.0 t.1.unchanged
batch_numbers ops r events old new t = absurd t

-- ---- reads and counters

pub get_numbers : (k : Bytes) (s : ℕ) (r : Reply) (events : List Event) (old new : Core) → TakesGet k s r events old new → UsesNumbers Silent events old.seqno new.seqno
get_numbers k s (reply.Value v) events old new t = (subst (AllByRecursion IsUnnumbered) (sym t.0) (tt, tt), seqno_of new old t.1)
get_numbers k s (reply.Refused x) events old new t = still events old new t.0 t.1
get_numbers k s r events old new t = absurd t

pub get_entry_numbers : (k : Bytes) (s : ℕ) (r : Reply) (events : List Event) (old new : Core) → TakesGetEntry k s r events old new → UsesNumbers Silent events old.seqno new.seqno
get_entry_numbers k s (reply.Entry e) events old new t = still events old new t.0 t.1
get_entry_numbers k s (reply.Refused x) events old new t = still events old new t.0 t.1
get_entry_numbers k s r events old new t = absurd t

pub pairs_numbers : (question : Question) (Right : List (Bytes × Bytes) → Type 0) (s : ℕ) (r : Reply) (events : List Event) (old new : Core) → TakesPairs question Right s r events old new → UsesNumbers Silent events old.seqno new.seqno
pairs_numbers question Right s (reply.Pairs pairs) events old new t = (subst (AllByRecursion IsUnnumbered) (sym t.0) (tt, tt), seqno_of new old t.1)
pairs_numbers question Right s (reply.Refused x) events old new t = still events old new t.0 t.1
pairs_numbers question Right s r events old new t = absurd t

pub rotated_same : (old : Core) (id : Option ℕ) (new : Core) → Rotates old id new → new.seqno ≡ old.seqno
rotated_same old None new r = seqno_of new old r.1
rotated_same old (Some id) new r = seqno_of new _ r.2

pub rotate_numbers : (r : Reply) (events : List Event) (old new : Core) → TakesRotate r events old new → UsesNumbers Silent events old.seqno new.seqno
rotate_numbers (reply.Sealed id) events old new t = silent events old.seqno new.seqno t.0 (rotated_same old id new t.1)
rotate_numbers (reply.Refused x) events old new t = still events old new t.0 t.1
rotate_numbers r events old new t = absurd t

pub next_reserves : (r : Reply) (events : List Event) (old new : Core) → TakesNext counter.Seqno r events old new → UsesNumbers Reserves events old.seqno new.seqno
next_reserves (reply.Number n) events old new t = (t.0, λ small. seqno_of new _ t.3 ∙ ap (λ m. m + 1) t.1)
next_reserves (reply.Refused x) events old new t = (t.0, λ small. let great : 2 ^ 63 ≤ old.seqno = t.2 in absurd (omega (small, great, arith)))
next_reserves r events old new t = absurd t

pub next_visible : (r : Reply) (events : List Event) (old new : Core) → TakesNext counter.Visible r events old new → UsesNumbers Silent events old.seqno new.seqno
next_visible (reply.Number n) events old new t = silent events old.seqno new.seqno t.0 (seqno_of new _ t.3)
next_visible (reply.Refused x) events old new t = still events old new t.0 t.3
next_visible r events old new t = absurd t

pub put_raises : (n m : ℕ) (r : Reply) (events : List Event) (old new : Core) → (old.seqno ≤ n → m ≡ n) → TakesCounter counter.Seqno m r events old new → UsesNumbers (Raises n) events old.seqno new.seqno
put_raises n m reply.Done events old new is t = (t.0, λ low. seqno_of new _ t.1 ∙ is low)
put_raises n m r events old new is t = absurd t

pub put_visible : (n : ℕ) (r : Reply) (events : List Event) (old new : Core) → TakesCounter counter.Visible n r events old new → UsesNumbers Silent events old.seqno new.seqno
put_visible n reply.Done events old new t = silent events old.seqno new.seqno t.0 (seqno_of new _ t.1)
put_visible n r events old new t = absurd t

-- ---- other steps that draw none

pub table_id_numbers : (r : Reply) (events : List Event) (old new : Core) → TakesTableId r events old new → UsesNumbers Silent events old.seqno new.seqno
table_id_numbers (reply.Number n) events old new t = silent events old.seqno new.seqno t.0 (seqno_of new _ t.3)
table_id_numbers (reply.Refused x) events old new t = still events old new t.0 t.1
table_id_numbers r events old new t = absurd t

pub moment_numbers : (n : ℕ) (r : Reply) (events : List Event) (old new : Core) → TakesMoment n r events old new → UsesNumbers Silent events old.seqno new.seqno
moment_numbers n reply.Done events old new t = silent events old.seqno new.seqno t.0 (seqno_of new _ t.1)
moment_numbers n r events old new t = absurd t

forget_none : (r : Reply) (events : List Event) (old new : Core) → TakesForget r events old new → events ≡ []
forget_none reply.Done events old new t = t.0
forget_none (reply.Refused x) events old new t = t.0
forget_none r events old new t = absurd t

pub forget_numbers : (r : Reply) (events : List Event) (old new : Core) → TakesForget r events old new → UsesNumbers Silent events old.seqno new.seqno
forget_numbers r events old new t = silent events old.seqno new.seqno (forget_none r events old new t) (go (forgets_either r events old new t))
  where
    go : (new ≡ old) ⊎ (new ≡ forgotten old) → new.seqno ≡ old.seqno
    go (inl is) = seqno_of new old is
    go (inr is) = seqno_of new (forgotten old) is

-- ---- jobs that draw none

begun_same : (job : Option SeenJob) (old new : Core) → Begins (Ok job) old new → new.seqno ≡ old.seqno
begun_same None old new b = seqno_of new old (b.some refl).1
begun_same (Some job) old new b = seqno_of new _ b.begins.1

pub begin_numbers : (r : Reply) (events : List Event) (was is : Option Job) (old new : Core) → TakesBegin r events was is old new → UsesNumbers Silent events old.seqno new.seqno
begin_numbers (reply.Begun b) events was is old new t = silent events old.seqno new.seqno t.0 (begun_same t.2.0 old new t.2.3)
begin_numbers (reply.Refused x) events was is old new t = still events old new t.0.0 t.0.2
begin_numbers reply.SlotInUse events was is old new t = still events old new t.0.0 t.0.2
begin_numbers r events was is old new t = absurd t

pub run_numbers : (w : ℕ) (r : Reply) (events : List Event) (was is : Option Job) (old new : Core) → TakesRun w r events was is old new → UsesNumbers Silent events old.seqno new.seqno
run_numbers w reply.Done events was is old new t = still events old new t.0 t.1
run_numbers w (reply.Refused x) events was is old new t = still events old new t.0.0 t.0.2
run_numbers w reply.NoJob events was is old new t = still events old new t.0.0 t.0.2
run_numbers w r events was is old new t = absurd t

pub tables_numbers : (r : Reply) (events : List Event) (was is : Option Job) (old new : Core) → TakesTables r events was is old new → UsesNumbers Silent events old.seqno new.seqno
tables_numbers reply.Done events was is old new t = silent events old.seqno new.seqno t.0 (seqno_of new _ t.1.4.ok)
tables_numbers (reply.Refused x) events was is old new t = silent events old.seqno new.seqno t.0 (seqno_of new _ t.1.3.err)
tables_numbers reply.NoJob events was is old new t = still events old new t.0.0 t.0.2
tables_numbers r events was is old new t = absurd t

pub abandon_numbers : (r : Reply) (events : List Event) (was is : Option Job) (old new : Core) → TakesAbandon r events was is old new → UsesNumbers Silent events old.seqno new.seqno
abandon_numbers reply.Done events was is old new t = silent events old.seqno new.seqno t.0 (seqno_of new _ t.1.3)
abandon_numbers reply.NoJob events was is old new t = still events old new t.0.0 t.0.2
abandon_numbers r events was is old new t = absurd t

pub run_compaction_numbers : (r : Reply) (events : List Event) (was is : Option Job) (old new : Core) → TakesRunCompaction r events was is old new → UsesNumbers Silent events old.seqno new.seqno
run_compaction_numbers reply.Done events was is old new t = still events old new t.0 t.1
run_compaction_numbers (reply.Refused x) events was is old new t = still events old new t.0.0 t.0.2
run_compaction_numbers reply.NoJob events was is old new t = still events old new t.0.0 t.0.2
run_compaction_numbers r events was is old new t = absurd t

pub spends_same : (job : SeenCompaction) (old new : Core) → Spends job old new → new.seqno ≡ old.seqno
spends_same job old new (inl s) = seqno_of new _ s.1
spends_same job old new (inr s) = seqno_of new old s.1

pub abandon_compaction_numbers : (r : Reply) (events : List Event) (was is : Option Job) (old new : Core) → TakesAbandonCompaction r events was is old new → UsesNumbers Silent events old.seqno new.seqno
abandon_compaction_numbers reply.Done events was is old new t = silent events old.seqno new.seqno t.0 (spends_same t.1.0 old new t.1.3)
abandon_compaction_numbers reply.NoJob events was is old new t = still events old new t.0.0 t.0.2
abandon_compaction_numbers r events was is old new t = absurd t

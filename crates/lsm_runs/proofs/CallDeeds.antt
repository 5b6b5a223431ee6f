-- What writes, reads and counters are to the theory of crashes.
use Rattle.std.proofs.Common.{◌≡◌, ℕ, ◌+◌, ◌≤◌, true, false, cond, List, [], ◌∷◌, ◌++◌, length, Option, Some, None, append-nil, map, nat_le, arith, refl, sym, ap, ◌∙◌, subst}
use Rattle.lsm_below.specs.Keys.{Bytes}
use Rattle.lsm_below.specs.Entries.{Entry, above}
use Rattle.lsm_below.specs.declared.error.Error.TheVariants.{CommitUnknown}
use Rattle.lsm_model.specs.Soundness.{Soundness}
use Rattle.lsm_model.specs.Journal.{Event, Map}
use Rattle.lsm_model.specs.Views.{SuperVersion}
use Rattle.lsm_model.specs.Steps.{Wrote, Rotated, Asked, Cleared as ClearedBy, Step}
use Rattle.lsm_model.specs.Ops.{op_entries}
use Rattle.lsm_model.specs.Beginnings.{Note, Deeds, Done, Lost, SealedAt, ClearedTo, ClearLost}
use Rattle.lsm_model.specs.declared.op.Op.{Op}
use Rattle.lsm_model.specs.declared.journal.JournalEntry.TheVariants.{Write as Noted, Read, Clear as Emptied}
use Rattle.lsm_model.specs.declared.question.Question.{Question}
use Rattle.lsm_model.specs.declared.question.Question.TheVariants.{Get as AskGet}
use Rattle.lsm_model.specs.declared.question.Answer.{Answer}
use Rattle.lsm_model.specs.declared.question.Answer.TheVariants.{Found, Pairs as FoundPairs}
use Rattle.lsm_model.proofs.DeedReads.{writes}
use Rattle.lsm_iter.specs.Guards.{Pair}
use Rattle.lsm_state.specs.Core.{Core, state_of, latest_of}
use Rattle.lsm_state.specs.Calls.{Rotates}
use Rattle.lsm_state.specs.Deeds.{saved_of}
use Rattle.lsm_runs.specs.declared.steps.Counter.{Counter}
use Rattle.lsm_runs.specs.declared.steps.Counter.TheVariants.{Seqno, Visible}
use Rattle.lsm_runs.specs.declared.steps.Reply.{Reply}
use Rattle.lsm_runs.specs.declared.steps.Reply.TheVariants.{Sizes, Number, Sealed, Done as NothingMore, Value, Entry as EntryOf, Pairs, Cleared, Refused}
use Rattle.lsm_runs.specs.declared.steps.Step.TheVariants.{RotateMemtable, Clear}
use Rattle.lsm_runs.specs.Clearing.{TakesClear}
use Rattle.lsm_runs.specs.Noting.{sealed_note, alone_notes}
use Rattle.lsm_runs.specs.ReadSteps.{TakesGet, TakesGetEntry, TakesPairs}
use Rattle.lsm_runs.specs.Runs.{TakesEntry, TakesBatch, TakesRotate, TakesNext, TakesCounter, with_counter, without_low_reads}
use Rattle.lsm_run_model.proofs.LowReads.{writes_without}
use Rattle.lsm_runs.proofs.StepDeeds.{HasDeeds, IsRight, IsSame, idle, nothing, no_deed, does}

module _ (theory : Soundness) (opened : List Entry) (start : Map) (journal : List Event) (notes : List Note) (old new : Core) (right : IsRight opened start journal old) where
  -- what of the events counts, and what is noted
  abbrev pub Goal : List Event → List Note → Type 0
  Goal events noted = HasDeeds opened journal notes (without_low_reads opened events) noted old new

  pub none : (events : List Event) → events ≡ [] → new ≡ old → Goal events []
  none events nil is = idle opened journal notes old new (without_low_reads opened events) (ap (without_low_reads opened) nil) is

  same : (events : List Event) → events ≡ [] → IsSame old new → Goal events []
  same events nil is = nothing opened journal notes old new (without_low_reads opened events) (ap (without_low_reads opened) nil) is

  -- ---- writes

  pub entry_deeds : (e : Entry) (reply : Reply) (events : List Event) → TakesEntry e reply events old new → Goal events []
  entry_deeds e (Sizes size total) events t =
      let step = t.1.step opened journal in
      subst (λ es. HasDeeds opened journal notes es [] old new) (sym (ap (without_low_reads opened) t.0))
      (does opened journal notes old new (Wrote e) (Noted e ∷ []) [] refl refl refl step (ap (λ (sv : SuperVersion). sv.tables) step.latest) (ap (λ (c : Core). c.lost) t.1.core) right.distinct)
  entry_deeds e (Refused x) events t = none events t.0 t.1.unchanged
  entry_deeds e reply events t = absurd t

  pub batch_deeds : (ops : List (Bytes × Op)) (reply : Reply) (events : List Event) → TakesBatch ops reply events old new → Goal events []
  batch_deeds ops (Number n) events t =
      let es = op_entries old.seqno ops in
      let is : without_low_reads opened events ≡ map Noted es = ap (without_low_reads opened) (t.0 ∙ ap (λ m. map Noted (op_entries m ops)) t.1.number) ∙ writes_without opened es in
      let ds = writes opened es (saved_of journal notes old) (state_of (journal ++ map Noted es) new) (t.1.run opened journal) right.distinct in
      let lost = ap (λ (c : Core). (saved_of journal notes c).others) t.1.core in
      subst (λ xs. HasDeeds opened journal notes xs [] old new) (sym is)
      (map (λ e. Done (Wrote e)) es, subst (λ os. Deeds opened (saved_of journal notes old) (map (λ e. Done (Wrote e)) es) (record { state = state_of (journal ++ map Noted es) new; notes = notes; others = os })) (sym lost) ds)
  batch_deeds ops (Refused x) events t = none events t.0 t.1.unchanged
  batch_deeds ops reply events t = absurd t

  -- ---- rotation and counters

  pub rotated_deeds : (id : Option ℕ) → Rotates old id new → HasDeeds opened journal notes [] (sealed_note id journal) old new
  rotated_deeds None t = idle opened journal notes old new [] refl t.1
  rotated_deeds (Some id) t =
      does opened journal notes old new (Rotated old.next_memtable) [] (SealedAt id (length journal) ∷ []) refl refl (ap (λ (i : ℕ). SealedAt i (length journal) ∷ []) (sym t.1))
      (subst (λ j. Step opened (state_of journal old) (Rotated old.next_memtable) (state_of j new)) (sym (append-nil journal)) (t.3 opened journal))
      (ap (λ (c : Core). (latest_of c).tables) t.2) (ap (λ (c : Core). c.lost) t.2) right.distinct

  pub rotate_deeds : (reply : Reply) (events : List Event) → TakesRotate reply events old new → Goal events (alone_notes RotateMemtable reply old journal)
  rotate_deeds (Sealed id) events t = subst (λ es. HasDeeds opened journal notes es (sealed_note id journal) old new) (sym (ap (without_low_reads opened) t.0)) (rotated_deeds id t.1)
  rotate_deeds (Refused x) events t = none events t.0 t.1
  rotate_deeds reply events t = absurd t

  counter_same : (counter : Counter) (n : ℕ) → new ≡ with_counter counter n old → IsSame old new
  counter_same Seqno n is j ns = ap (saved_of j ns) is
  counter_same Visible n is j ns = ap (saved_of j ns) is

  pub next_deeds : (counter : Counter) (reply : Reply) (events : List Event) → TakesNext counter reply events old new → Goal events []
  next_deeds counter (Number n) events t = same events t.0 (counter_same counter _ t.3)
  next_deeds counter (Refused x) events t = none events t.0 t.3
  next_deeds counter reply events t = absurd t

  pub counter_deeds : (counter : Counter) (n : ℕ) (reply : Reply) (events : List Event) → TakesCounter counter n reply events old new → Goal events []
  counter_deeds counter n NothingMore events t = same events t.0 (counter_same counter n t.1)
  counter_deeds counter n reply events t = absurd t

  -- ---- clears

  pub clear_deeds : (reply : Reply) (events : List Event) → TakesClear reply events old new → HasDeeds opened journal notes events (alone_notes Clear reply old journal) old new
  clear_deeds (Cleared n) events t = subst (λ es. HasDeeds opened journal notes es (ClearedTo (length journal + 1) ∷ []) old new) (sym t.0) (Done (ClearedBy n old.next_memtable) ∷ [], t.2.done opened journal notes)
  clear_deeds (Refused CommitUnknown) events t =
      let lost = t.2.lost refl in
      let ds = Lost (ClearedBy old.seqno old.next_memtable) (state_of (journal ++ Emptied old.seqno ∷ []) lost.0) ∷ [] in
      let noted = ClearLost old.seqno (length journal) ∷ [] in
      (ds, subst (λ j. Deeds opened (saved_of journal notes old) ds (saved_of j (noted ++ notes) new)) (sym (ap (λ es. journal ++ es) t.0 ∙ append-nil journal)) (lost.1 opened journal notes))
  clear_deeds (Refused x) events t = no_deed opened journal notes old new events t.0 (t.2.refused (λ h. cc h))
  clear_deeds reply events t = absurd t

  -- ---- reads

  -- a read that is noted is a deed, unless it is below what was opened and doesn't count
  asked : (question : Question) (s : ℕ) (told : Answer) (events : List Event) → events ≡ Read s question told ∷ [] → new ≡ old
      → ((before : List Event) → above opened ≤ s → Step opened (state_of before old) (Asked s question) (state_of (before ++ Read s question told ∷ []) old)) → Goal events []
  asked question s told events one still step =
      let read = Read s question told in
      subst (λ es. HasDeeds opened journal notes es [] old new) (sym (ap (without_low_reads opened) one))
      (elim (nat_le (above opened) s) as (λ b. nat_le (above opened) s ≡ b → HasDeeds opened journal notes (cond b (read ∷ []) []) [] old new) [
        | true ↦ λ low. does opened journal notes old new (Asked s question) (read ∷ []) [] refl refl refl
            (subst (λ c. Step opened (state_of journal old) (Asked s question) (state_of (journal ++ read ∷ []) c)) (sym still) (step journal (grind arith))) (ap (λ (c : Core). (latest_of c).tables) still) (ap (λ (c : Core). c.lost) still) right.distinct
        | false ↦ λ low. idle opened journal notes old new [] refl still
      ] refl)

  pub get_deeds : (k : Bytes) (s : ℕ) (reply : Reply) (events : List Event) → TakesGet k s reply events old new → Goal events []
  get_deeds k s (Value v) events t = asked (AskGet k) s (Found v) events t.0 t.1 (t.3 opened)
  get_deeds k s (Refused x) events t = none events t.0 t.1
  get_deeds k s reply events t = absurd t

  pub get_entry_deeds : (k : Bytes) (s : ℕ) (reply : Reply) (events : List Event) → TakesGetEntry k s reply events old new → Goal events []
  get_entry_deeds k s (EntryOf e) events t = none events t.0 t.1
  get_entry_deeds k s (Refused x) events t = none events t.0 t.1
  get_entry_deeds k s reply events t = absurd t

  pub pairs_deeds : (question : Question) (Right : List Pair → Type 0) (s : ℕ) (reply : Reply) (events : List Event) → TakesPairs question Right s reply events old new → Goal events []
  pairs_deeds question Right s (Pairs pairs) events t =
      let ordered = (theory.right.reads opened start (state_of journal old) right.holds).ordered in
      asked question s (FoundPairs pairs) events t.0 t.1 (λ before low. t.3 opened before low ordered)
  pairs_deeds question Right s (Refused x) events t = none events t.0 t.1
  pairs_deeds question Right s reply events t = absurd t

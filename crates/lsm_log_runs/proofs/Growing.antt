-- What a step adds stands after what was called before, and it leaves which flushes were begun in other slots.
use Rattle.std.proofs.Common.{◌≡◌, ℕ, Bool, true, false, List, [], ◌∷◌, ◌++◌, map, Some, None, refl, sym, ap, ◌∙◌, append-nil, append_assoc, ne_eqb, cond}
use Rattle.lsm_below.specs.Keys.{Bytes}
use Rattle.lsm_below.specs.Ranges.{Range}
use Rattle.lsm_below.specs.declared.error.Error.TheVariants.{CommitUnknown, AfterCommit}
use Rattle.lsm_model.specs.Journal.{Event}
use Rattle.lsm_model.specs.declared.op.Op.{Op}
use Rattle.lsm_model.specs.declared.journal.JournalEntry.TheVariants.{Write as Wrote, Clear as DidClear, Install, Mark}
use Rattle.lsm_log_model.specs.Records.{entries_of}
use Rattle.lsm_runs.specs.declared.steps.Compacted.TheVariants.{Installed}
use Rattle.lsm_runs.specs.declared.steps.JobStep.{JobStep}
use Rattle.lsm_runs.specs.declared.steps.JobStep.TheVariants.{BeginFlush, RunFlush, RegisterTables, BeginCompaction, FinishCompaction}
use Rattle.lsm_runs.specs.declared.steps.Reply.{Reply}
use Rattle.lsm_runs.specs.declared.steps.Reply.TheVariants.{Number, Sealed, Begun, Done, Registered, Flushed, FlushedActive, RefusedActive, Compacted, Finished, Cleared, Refused}
use Rattle.lsm_runs.specs.OpenFlushes.{BegunFlush}
use Rattle.lsm_state.specs.declared.compaction.Finished.TheVariants.{Installed as IsFinished}
use Rattle.lsm_logged.specs.Writing.{batch_of}
use Rattle.lsm_log_runs.specs.declared.steps.LogStep.{LogStep}
use Rattle.lsm_log_runs.specs.declared.steps.LogStep.TheVariants.{Write, RotateMemtable, AtSlot, Flush, FlushActiveMemtable, Compact, MajorCompact, DropRange, Clear}
use Rattle.lsm_log_runs.specs.Adds.{AddsBatch, AddsFlush, AddsRotation, AddsFlushActive, AddsInstalled, AddsCompaction, AddsClear, AddsBegun, AddsMerged, AddsRegistry, AddsRegister, AddsMerge, AddsJob, LogAdds}
use Rattle.lsm_log_runs.specs.Pasts.{LogPast, with_slot}

-- the journal grows after, and of these slots it stays which flush was begun there last
pub record Grows (Other : ℕ → Type 0) (old new : LogPast) : Type 0 where
  pub events : List Event
  pub journal : new.journal ≡ old.journal ++ events
  pub begun : (n : ℕ) → Other n → new.begun n ≡ old.begun n

-- the slots that a step leaves
abbrev pub Other : LogStep → ℕ → Type 0
Other (AtSlot slot step) n = n ≡ slot → ⊥
Other step n = Unit {0}

module _ (Others : ℕ → Type 0) where
  more : (events : List Event) (old made new : LogPast) → new ≡ made → made.journal ≡ old.journal ++ events → ((n : ℕ) → Others n → made.begun n ≡ old.begun n) → Grows Others old new
  more events old made new is journal begun = record {
    events = events;
    journal = ap (λ (p : LogPast). p.journal) is ∙ journal;
    begun = λ n other. ap (λ (p : LogPast). p.begun n) is ∙ begun n other;
  }

  -- nothing is added to the journal
  still : (old made new : LogPast) → new ≡ made → made.journal ≡ old.journal → ((n : ℕ) → Others n → made.begun n ≡ old.begun n) → Grows Others old new
  still old made new is journal begun = more [] old made new is (journal ∙ sym (append-nil old.journal)) begun

  then : (old mid new : LogPast) → Grows Others old mid → Grows Others mid new → Grows Others old new
  then old mid new a b = record {
    events = a.events ++ b.events;
    journal = b.journal ∙ ap (λ j. j ++ b.events) a.journal ∙ append_assoc old.journal a.events b.events;
    begun = λ n other. b.begun n other ∙ a.begun n other;
  }

  module _ (old new : LogPast) where
    same : new ≡ old → Grows Others old new
    same is = still old old new is refl (λ n other. refl)

    batch_grows : (c : ℕ) (ops : List (Bytes × Op)) (reply : Reply) → AddsBatch c ops reply old new → Grows Others old new
    batch_grows c ops (Number n) h = more (map Wrote (entries_of (batch_of n ops))) old _ new h.1 refl (λ m other. refl)
    batch_grows c ops (Refused CommitUnknown) h = still old _ new h refl (λ m other. refl)
    batch_grows c ops (Refused x) h = same h
    batch_grows c ops reply h = same h

    flush_grows : (c w : ℕ) (reply : Reply) → AddsFlush c w reply old new → Grows Others old new
    flush_grows c w (Flushed (Some a)) h = more (Mark w ∷ (Install c ∷ [])) old _ new h refl (λ m other. refl)
    flush_grows c w (Flushed None) h = same h
    flush_grows c w (Refused CommitUnknown) h = more (Mark w ∷ []) old _ new h refl (λ m other. refl)
    flush_grows c w (Refused x) h = same h
    flush_grows c w reply h = same h

    rotation_grows : (reply : Reply) → AddsRotation reply old new → Grows Others old new
    rotation_grows (Sealed (Some id)) h = still old _ new h refl (λ m other. refl)
    rotation_grows (Sealed None) h = same h
    rotation_grows reply h = same h

    installed_grows : (May : List Range → Type 0) (c w : ℕ) → AddsInstalled May c w old new → Grows Others old new
    installed_grows May c w h = more (Mark w ∷ (h.0 ++ Install c ∷ [])) old _ new h.2 refl (λ m other. refl)

    compaction_grows : (May : List Range → Type 0) (c w : ℕ) (reply : Reply) → AddsCompaction May c w reply old new → Grows Others old new
    compaction_grows May c w (Compacted Installed) h = installed_grows May c w h
    compaction_grows May c w (Compacted outcome) h = more (Mark w ∷ []) old _ new h refl (λ m other. refl)
    compaction_grows May c w (Refused AfterCommit) h = installed_grows May c w h
    compaction_grows May c w (Refused CommitUnknown) h = more (Mark w ∷ h.0) old _ new h.2 refl (λ m other. refl)
    compaction_grows May c w (Refused x) h = more (Mark w ∷ []) old _ new h refl (λ m other. refl)
    compaction_grows May c w reply h = same h

    clear_grows : (c : ℕ) (reply : Reply) → AddsClear c reply old new → Grows Others old new
    clear_grows c (Cleared n) h = more (DidClear n ∷ []) old _ new h.1 refl (λ m other. refl)
    clear_grows c (Refused AfterCommit) h = more (DidClear c ∷ []) old _ new h refl (λ m other. refl)
    clear_grows c (Refused CommitUnknown) h = still old _ new h refl (λ m other. refl)
    clear_grows c (Refused x) h = same h
    clear_grows c reply h = same h

    registry_grows : (c slot : ℕ) (installed : Bool) → AddsRegistry c slot installed old new → Grows Others old new
    registry_grows c slot true h = more (Mark (old.begun slot).watermark ∷ (Install c ∷ [])) old _ new h refl (λ m other. refl)
    registry_grows c slot false h = same h

    register_grows : (c slot : ℕ) (reply : Reply) → AddsRegister c slot reply old new → Grows Others old new
    register_grows c slot (Registered a) h = registry_grows c slot a.installed h
    register_grows c slot (Refused CommitUnknown) h = more (Mark (old.begun slot).watermark ∷ []) old _ new h refl (λ m other. refl)
    register_grows c slot (Refused x) h = same h
    register_grows c slot reply h = same h

    merge_grows : (c : ℕ) (reply : Reply) → AddsMerge c reply old new → Grows Others old new
    merge_grows c (Finished IsFinished) h = more (Install c ∷ []) old _ new h refl (λ m other. refl)
    merge_grows c (Finished f) h = same h
    merge_grows c (Refused AfterCommit) h = more (Install c ∷ []) old _ new h refl (λ m other. refl)
    merge_grows c (Refused CommitUnknown) h = still old _ new h refl (λ m other. refl)
    merge_grows c (Refused x) h = same h
    merge_grows c reply h = same h

  active_grows : (old new : LogPast) (c w : ℕ) (reply : Reply) → AddsFlushActive c w reply old new → Grows Others old new
  active_grows old new c w (FlushedActive id a) h = then old h.0 new (rotation_grows old h.0 (Sealed id) h.1) (flush_grows h.0 new c w (Flushed a) h.2)
  active_grows old new c w (RefusedActive id x) h = then old h.0 new (rotation_grows old h.0 (Sealed id) h.1) (flush_grows h.0 new c w (Refused x) h.2)
  active_grows old new c w reply h = same old new h

module _ (slot : ℕ) (old new : LogPast) where
  abbrev Apart : ℕ → Type 0
  Apart n = n ≡ slot → ⊥

  -- what is begun in this slot is of no other one
  of_slot : (flush : BegunFlush) → new ≡ with_slot slot flush old → Grows Apart old new
  of_slot flush h = still Apart old _ new h refl (λ n apart. ap (λ b. cond b flush (old.begun n)) (ne_eqb n slot apart))

  begun_grows : (reply : Reply) → AddsBegun slot reply old new → Grows Apart old new
  begun_grows (Begun true) h = of_slot _ h
  begun_grows (Begun false) h = same Apart old new h
  begun_grows reply h = same Apart old new h

  merged_grows : (w : ℕ) (reply : Reply) → AddsMerged slot w reply old new → Grows Apart old new
  merged_grows w Done h = of_slot _ h
  merged_grows w reply h = same Apart old new h

  job_grows : (May : List Range → Type 0) (c : ℕ) (step : JobStep) (reply : Reply) → AddsJob May c slot step reply old new → Grows Apart old new
  job_grows May c BeginFlush reply h = begun_grows reply h
  job_grows May c (RunFlush w) reply h = merged_grows w reply h
  job_grows May c RegisterTables reply h = register_grows Apart old new c slot reply h
  job_grows May c (BeginCompaction at o) reply h = compaction_grows Apart old new May c o.mvcc_gc_watermark reply h
  job_grows May c FinishCompaction reply h = merge_grows Apart old new c reply h
  job_grows May c step reply h = same Apart old new h

pub step_grows : (May : List Range → Type 0) (c : ℕ) (x : LogStep) (reply : Reply) (old new : LogPast) → LogAdds May c x reply old new → Grows (Other x) old new
step_grows May c (Write ops) reply old new h = batch_grows _ old new c ops reply h
step_grows May c (Flush w) reply old new h = flush_grows _ old new c w reply h
step_grows May c Clear reply old new h = clear_grows _ old new c reply h
step_grows May c RotateMemtable reply old new h = rotation_grows _ old new reply h
step_grows May c (FlushActiveMemtable w) reply old new h = active_grows _ old new c w reply h
step_grows May c (Compact at w) reply old new h = compaction_grows _ old new May c w reply h
step_grows May c (MajorCompact target w) reply old new h = compaction_grows _ old new May c w reply h
step_grows May c (DropRange low high) reply old new h = compaction_grows _ old new May c 0 reply h
step_grows May c (AtSlot slot step) reply old new h = job_grows slot old new May c step reply h
step_grows May c x reply old new h = same _ old new h

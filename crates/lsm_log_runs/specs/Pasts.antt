-- What was called so far.
use Rattle.std.specs.Prelude.{ℕ, ◌+◌, max, Bool, true, false, List, [], ◌∷◌, ◌++◌, length, Option, Some, None, map, if◌then◌else◌, ◌==◌}
use Rattle.lsm_model.specs.Journal.{Event}
use Rattle.lsm_model.specs.Beginnings.{Note, SealedAt, FlushedIds, ClearedTo, ClearLost, covered}
use Rattle.lsm_model.specs.declared.journal.JournalEntry.TheVariants.{Write, Clear, Install, Mark}
use Rattle.lsm_log_model.specs.Records.{Batch, entries_of}
use Rattle.lsm_log_model.specs.Logs.{LostBatch, Logged as Log}
use Rattle.lsm_run_model.specs.Outcomes.{sealed_in}
use Rattle.lsm_runs.specs.OpenFlushes.{BegunFlush, none_begun}

-- the journal of the calls so far, without reads; the notes beside it, newest first; the place after the last acknowledged batch; a
-- batch of unknown outcome; whether each outcome is known; and of each slot the flush that was begun there last
pub record LogPast : Type 0 where
  pub journal : List Event
  pub notes : List Note
  pub reached : ℕ
  pub lost : Option LostBatch
  pub known : Bool
  pub begun : ℕ → BegunFlush

-- before the first call
abbrev pub nothing : LogPast
nothing = record { journal = []; notes = []; reached = 0; lost = None; known = true; begun = none_begun }

-- the place after all that was acknowledged, flushed or cleared
abbrev pub acknowledged : LogPast → ℕ
acknowledged past = max (covered past.notes) past.reached

-- what was called of a logged tree of the theory, whether each outcome is known, and which flushes were begun
abbrev pub past_of : Bool → (ℕ → BegunFlush) → Log → LogPast
past_of known begun t = record { journal = t.tree.state.journal; notes = t.tree.notes; reached = t.reached; lost = t.lost; known = known; begun = begun }

-- ---- what may come next

-- a batch that is acknowledged, and one of unknown outcome
abbrev pub with_batch : Batch → LogPast → LogPast
with_batch b past = let journal = past.journal ++ map Write (entries_of b) in record past { journal = journal; reached = length journal }

abbrev pub with_lost : Batch → LogPast → LogPast
with_lost b past = record past { lost = Some (record { batch = b; place = length past.journal }); known = false }

-- an installed flush of these memtables, at a watermark, under a sequence number; of all that are sealed; and the flush of a slot, at its
-- own watermark
abbrev pub with_flushed : List ℕ → ℕ → ℕ → LogPast → LogPast
with_flushed ids w n past = record past { journal = past.journal ++ Mark w ∷ (Install n ∷ []); notes = FlushedIds ids ∷ past.notes }

abbrev pub with_flush : ℕ → ℕ → LogPast → LogPast
with_flush w n past = with_flushed (sealed_in past.notes) w n past

abbrev pub with_registry : ℕ → ℕ → LogPast → LogPast
with_registry slot n past = with_flushed (past.begun slot).ids (past.begun slot).watermark n past

-- a flush of all that is sealed is begun in a slot; and what was begun there is merged at a watermark
abbrev pub with_slot : ℕ → BegunFlush → LogPast → LogPast
with_slot slot flush past = record past { begun = λ n. if n == slot then flush else past.begun n }

abbrev pub with_begun : ℕ → LogPast → LogPast
with_begun slot past = with_slot slot (record { ids = sealed_in past.notes; watermark = 0 }) past

abbrev pub with_merged : ℕ → ℕ → LogPast → LogPast
with_merged slot w past = with_slot slot (record { ids = (past.begun slot).ids; watermark = w }) past

-- a commit after its mark, with these events; and one of unknown outcome
abbrev pub with_commit : ℕ → List Event → LogPast → LogPast
with_commit w events past = record past { journal = past.journal ++ Mark w ∷ events }

abbrev pub with_doubt : ℕ → List Event → LogPast → LogPast
with_doubt w events past = record past { journal = past.journal ++ Mark w ∷ events; known = false }

-- the end of a merge that was marked before, under a sequence number; and one of unknown outcome
abbrev pub with_install : ℕ → LogPast → LogPast
with_install n past = record past { journal = past.journal ++ Install n ∷ [] }

abbrev pub with_unknown : LogPast → LogPast
with_unknown past = record past { known = false }

-- a memtable that is sealed here
abbrev pub with_sealed : ℕ → LogPast → LogPast
with_sealed id past = record past { notes = SealedAt id (length past.journal) ∷ past.notes }

-- a clear, which covers the place after it; one of unknown outcome is noted at its place
abbrev pub with_clear : ℕ → LogPast → LogPast
with_clear n past = record past { journal = past.journal ++ Clear n ∷ []; notes = ClearedTo (length past.journal + 1) ∷ past.notes }

abbrev pub with_lost_clear : ℕ → LogPast → LogPast
with_lost_clear n past = record past { notes = ClearLost n (length past.journal) ∷ past.notes; known = false }

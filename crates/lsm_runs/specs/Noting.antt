-- What a run notes beside its journal: which memtables were sealed and flushed, and which clears came, each with its place.
use Rattle.std.specs.Prelude.{ℕ, ◌+◌, List, [], ◌∷◌, ◌++◌, length, Option, Some, None, if◌then◌else◌}
use Rattle.lsm_below.specs.declared.error.Error.{Error}
use Rattle.lsm_below.specs.declared.error.Error.TheVariants.{CommitUnknown}
use Rattle.lsm_model.specs.Journal.{Event}
use Rattle.lsm_model.specs.Beginnings.{Note, SealedAt, FlushedIds, ClearedTo, ClearLost}
use Rattle.lsm_flush.specs.declared.jobs.Registered.{Registered as Outcome}
use Rattle.lsm_state.specs.Core.{Core}
use Rattle.lsm_state.specs.Flushes.{sealed_ids}
use Rattle.lsm_runs.specs.declared.slots.Job.{Job}
use Rattle.lsm_runs.specs.declared.slots.Job.TheVariants.{Written}
use Rattle.lsm_runs.specs.declared.steps.JobStep.{JobStep}
use Rattle.lsm_runs.specs.declared.steps.JobStep.TheVariants.{RegisterTables}
use Rattle.lsm_runs.specs.declared.steps.Step.{Step}
use Rattle.lsm_runs.specs.declared.steps.Step.TheVariants.{RotateMemtable, AtSlot, Flush, FlushActiveMemtable, Clear}
use Rattle.lsm_runs.specs.declared.steps.Reply.{Reply}
use Rattle.lsm_runs.specs.declared.steps.Reply.TheVariants.{Sealed, Registered, Flushed, FlushedActive, RefusedActive, Cleared, Refused}
use Rattle.lsm_runs.specs.Slots.{Stage}

-- a memtable that is sealed is noted with the place that the journal has reached
abbrev pub sealed_note : Option ℕ → List Event → List Note
sealed_note None journal = []
sealed_note (Some id) journal = SealedAt id (length journal) ∷ []

-- the memtables that a flush takes after a rotation, from the newest
abbrev pub sealed_behind : Option ℕ → Core → List ℕ
sealed_behind None c = sealed_ids c
sealed_behind (Some id) c = id ∷ sealed_ids c

-- a flush that is answered is noted with its memtables; none, where nothing was sealed
abbrev pub flushed_note : List ℕ → Option (ℕ × Outcome) → List Note
flushed_note ids None = []
flushed_note ids (Some a) = FlushedIds ids ∷ []

-- the memtables of a job whose tables are written
abbrev pub ids_in : Option Job → List ℕ
ids_in (Some (Written job)) = job.job.ids
ids_in other = []

-- a call on the job in a slot notes a flush that is installed
abbrev pub job_notes : JobStep → Reply → Option Job → List Note
job_notes RegisterTables (Registered a) was = if a.installed then FlushedIds (ids_in was) ∷ [] else []
job_notes step reply was = []

-- a clear of unknown outcome is noted with its number and its place
abbrev pub lost_note : Error → Core → List Event → List Note
lost_note CommitUnknown c journal = ClearLost c.seqno (length journal) ∷ []
lost_note other c journal = []

-- what a step notes after a journal, newest first
abbrev pub alone_notes : Step → Reply → Core → List Event → List Note
alone_notes RotateMemtable (Sealed id) c journal = sealed_note id journal
alone_notes (Flush w) (Flushed a) c journal = flushed_note (sealed_ids c) a
alone_notes (FlushActiveMemtable w) (FlushedActive id a) c journal = flushed_note (sealed_behind id c) a ++ sealed_note id journal
alone_notes (FlushActiveMemtable w) (RefusedActive id x) c journal = sealed_note id journal
alone_notes Clear (Cleared n) c journal = ClearedTo (length journal + 1) ∷ []
alone_notes Clear (Refused x) c journal = lost_note x c journal
alone_notes step reply c journal = []

abbrev pub notes_of : Step → Reply → Stage → List Event → List Note
notes_of (AtSlot slot step) reply s journal = job_notes step reply (s.jobs slot)
notes_of step reply s journal = alone_notes step reply s.core journal

-- What a step may note beside the journal, by its kind, its reply and what was noted before alone.
use Rattle.std.specs.Prelude.{◌≡◌, ℕ, List, [], ◌∷◌, ◌++◌, Option, Some, None, option_to_list, if◌then◌else◌}
use Rattle.lsm_below.specs.Entries.{Entry}
use Rattle.lsm_below.specs.declared.error.Error.TheVariants.{CommitUnknown}
use Rattle.lsm_flush.specs.declared.jobs.Registered.{Registered as Outcome}
use Rattle.lsm_run_model.specs.declared.noted.Noted.{Noted}
use Rattle.lsm_run_model.specs.declared.noted.Noted.TheVariants as note
use Rattle.lsm_run_model.specs.Outcomes.{Told, Past, after, sealed_in}
use Rattle.lsm_runs.specs.declared.steps.JobStep.{JobStep}
use Rattle.lsm_runs.specs.declared.steps.JobStep.TheVariants.{RegisterTables}
use Rattle.lsm_runs.specs.declared.steps.Step.{Step}
use Rattle.lsm_runs.specs.declared.steps.Step.TheVariants.{RotateMemtable, AtSlot, Flush, FlushActiveMemtable, Clear}
use Rattle.lsm_runs.specs.declared.steps.Reply.{Reply}
use Rattle.lsm_runs.specs.declared.steps.Reply.TheVariants.{Sealed, Registered, Flushed, FlushedActive, RefusedActive, Cleared, Refused}
use Rattle.lsm_runs.specs.Adds.{Adds}
use Rattle.lsm_runs.specs.Dropping.{Drops}
use Rattle.lsm_runs.specs.OpenFlushes.{BegunFlush, begun_after}

-- ---- by kinds

-- the memtable that was sealed, if one was
abbrev pub sealed_noted : Option ℕ → List Noted
sealed_noted None = []
sealed_noted (Some id) = note.Sealed id ∷ []

-- a flush of these memtables, if it was installed
abbrev pub flushed_noted : List ℕ → Option (ℕ × Outcome) → List Noted
flushed_noted ids None = []
flushed_noted ids (Some a) = note.Flushed ids ∷ []

abbrev pub NotesRotation : Reply → List Noted → Type 0
NotesRotation (Sealed id) notes = notes ≡ sealed_noted id
NotesRotation reply notes = notes ≡ []

-- a flush is of all that are sealed
abbrev pub NotesFlush : List ℕ → Reply → List Noted → Type 0
NotesFlush sealed (Flushed a) notes = notes ≡ flushed_noted sealed a
NotesFlush sealed reply notes = notes ≡ []

-- after a rotation of the one that it sealed too, which stays sealed where the flush is refused
abbrev pub NotesFlushActive : List ℕ → Reply → List Noted → Type 0
NotesFlushActive sealed (FlushedActive id a) notes = notes ≡ flushed_noted (option_to_list id ++ sealed) a ++ sealed_noted id
NotesFlushActive sealed (RefusedActive id x) notes = notes ≡ sealed_noted id
NotesFlushActive sealed reply notes = notes ≡ []

-- a clear that is answered, and one of unknown outcome, under some number
abbrev pub NotesClear : Reply → List Noted → Type 0
NotesClear (Cleared n) notes = notes ≡ note.Cleared ∷ []
NotesClear (Refused CommitUnknown) notes = (n : ℕ) × (notes ≡ note.ClearUnknown n ∷ [])
NotesClear reply notes = notes ≡ []

-- a flush that is registered is of the memtables of its job, where it is installed
abbrev pub NotesRegistration : List ℕ → Reply → List Noted → Type 0
NotesRegistration ids (Registered a) notes = notes ≡ (if a.installed then note.Flushed ids ∷ [] else [])
NotesRegistration ids reply notes = notes ≡ []

-- ---- by steps

abbrev pub JobNotes : List ℕ → JobStep → Reply → List Noted → Type 0
JobNotes ids RegisterTables reply notes = NotesRegistration ids reply notes
JobNotes ids step reply notes = notes ≡ []

-- where these are sealed, and these flushes were begun last in each slot: all other steps note nothing
abbrev pub Notes : List ℕ → (ℕ → BegunFlush) → Step → Reply → List Noted → Type 0
Notes sealed begun RotateMemtable reply notes = NotesRotation reply notes
Notes sealed begun (Flush w) reply notes = NotesFlush sealed reply notes
Notes sealed begun (FlushActiveMemtable w) reply notes = NotesFlushActive sealed reply notes
Notes sealed begun (AtSlot slot step) reply notes = JobNotes (begun slot).ids step reply notes
Notes sealed begun Clear reply notes = NotesClear reply notes
Notes sealed begun step reply notes = notes ≡ []

-- So what each outcome of a list of steps adds and notes, after what was called before: `sealed_in` has what is sealed by the notes so far.
abbrev pub EachTells : Drops → List Entry → Past → (ℕ → BegunFlush) → List Step → List (Told Reply) → Type 0
EachTells May opened past begun [] [] = Unit {0}
EachTells May opened past begun (x ∷ xs) (t ∷ ts) =
    Adds May begun x t.reply t.entries × Notes (sealed_in past.notes) begun x t.reply t.notes
    × EachTells May opened (after opened past t) (begun_after (sealed_in past.notes) x t.reply begun) xs ts
EachTells May opened past begun xs ts = ⊥

-- What calls answer, as values, and what stands after them: a journal, and notes beside it.
use Rattle.std.specs.Prelude.{ℕ, ◌+◌, true, Bool, not, List, [], ◌∷◌, ◌++◌, map, filter, fold, length, nat_le}
use Rattle.lsm_below.specs.Entries.{Entry, above}
use Rattle.lsm_model.specs.Journal.{Event}
use Rattle.lsm_model.specs.Steps.{among}
use Rattle.lsm_model.specs.Beginnings.{Note, SealedAt, FlushedIds, ClearedTo, ClearLost}
use Rattle.lsm_run_model.specs.declared.noted.Noted.{Noted}
use Rattle.lsm_run_model.specs.declared.noted.Noted.TheVariants.{Sealed, Flushed, Cleared, ClearUnknown}
use Rattle.lsm_model.specs.declared.journal.JournalEntry.TheVariants.{Read}

-- ---- outcomes

-- what a call answered, what it adds to the journal, and what it notes, newest first
pub record Told (R : Type 0) : Type 0 where
  pub reply : R
  pub entries : List Event
  pub notes : List Noted

-- what they all add to the journal
abbrev pub journal_of : {R : Type 0} → List (Told R) → List Event
journal_of [] = []
journal_of (told ∷ more) = told.entries ++ journal_of more

-- ---- what stands after them

-- what was called so far: a journal, and the notes beside it, newest first
pub record Past : Type 0 where
  pub journal : List Event
  pub notes : List Note

-- before the first call
abbrev pub nothing : Past
nothing = record { journal = []; notes = [] }

-- is an event anything but a read at a snapshot below what was opened?
abbrev pub is_no_low_read : List Entry → Event → Bool
is_no_low_read opened (Read s question told) = nat_le (above opened) s
is_no_low_read opened event = true

-- a journal without its reads below what was opened: what a key was down there is not known. All of it where nothing was opened
abbrev pub without_low_reads : List Entry → List Event → List Event
without_low_reads opened journal = filter (is_no_low_read opened) journal

-- a note of a call that began at this place
abbrev pub note_at : ℕ → Noted → Note
note_at place (Sealed id) = SealedAt id place
note_at place (Flushed ids) = FlushedIds ids
note_at place Cleared = ClearedTo (place + 1)
note_at place (ClearUnknown n) = ClearLost n place

-- what stands after one more call
abbrev pub after : {R : Type 0} → List Entry → Past → Told R → Past
after opened past told = record { journal = past.journal ++ without_low_reads opened told.entries; notes = map (note_at (length past.journal)) told.notes ++ past.notes }

-- and after all of these
abbrev pub after_all : {R : Type 0} → List Entry → Past → List (Told R) → Past
after_all opened past told = fold (after opened) past told

-- the memtables that are sealed and neither flushed nor cleared away, by the notes, newest first
abbrev pub sealed_in : List Note → List ℕ
sealed_in [] = []
sealed_in (SealedAt id place ∷ notes) = id ∷ sealed_in notes
sealed_in (FlushedIds ids ∷ notes) = filter (λ id. not (among ids id)) (sealed_in notes)
sealed_in (ClearedTo place ∷ notes) = []
sealed_in (ClearLost n place ∷ notes) = sealed_in notes

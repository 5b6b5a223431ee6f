-- What outlives a process, as a user asks it: derived from the contracts of public calls.
use Rattle.std.specs.Prelude.{◌≡◌, ℕ, ◌+◌, ◌<◌, ◌≤◌, max, List, [], ◌∷◌, map, take, length, OnOk}
use Rattle.std.specs.FinMap.{empty}
use Rattle.std.specs.List.{AllByRecursion}
use Rattle.lsm_runs.specs.Entries.{Entry, above}
use Rattle.lsm_runs.specs.Error.{Error}
use Rattle.lsm_runs.specs.Error.TheVariants.{OutOfMemory, Store, CommitUnknown}
use Rattle.lsm_runs.specs.Memory.{MemStore, may_of, world_of}
use Rattle.lsm_runs.specs.Picks.{Picks, picked}
use Rattle.lsm_runs.specs.World.{IsImage}
use Rattle.lsm_runs.specs.Journal.{Event, Map, next_number}
use Rattle.lsm_runs.specs.Beginnings.{IsBeginning, covered}
use Rattle.lsm_model.specs.declared.journal.JournalEntry.TheVariants.{Write as Wrote, Clear, Install, Dropped, Mark, Read}
use Rattle.lsm_runs.specs.Outcomes.{nothing, after_all}
use Rattle.lsm_runs.specs.Outcomes as out
use Rattle.lsm_runs.specs.declared.steps.Step.{Step}
use Rattle.lsm_runs.specs.declared.steps.Step.TheVariants.{Insert, Remove, RemoveWeak, AppendEntry, Write, Next, Set, FetchMax, ClearActiveMemtable}
use Rattle.lsm_runs.specs.declared.steps.Reply.{Reply}
use Rattle.lsm_runs.specs.declared.steps.Taken.{Taken}
use Rattle.lsm_runs.specs.Causes.{ReplyBlames, EachHasCause}
use Rattle.lsm_runs.specs.Drawing.{weaks_in}
use Rattle.lsm_runs.specs.Dropping.{Drops}
use Rattle.lsm_runs.specs.Lives.{told_of, LivesInOrder}
use Rattle.lsm_runs.specs.Notes.{EachTells}
use Rattle.lsm_runs.specs.OpenFlushes.{none_begun}
use Rattle.lsm_runs.specs.Runs.{EachAnswers, journal_of}
use Rattle.lsm_runs.specs.Told.{Told}
use Rattle.example_crash.specs.declared.lives.Life.{Life}
use Rattle.example_crash.specs.declared.lives.Course.{Course}
use Rattle.example_crash.specs.declared.lives.Course.TheVariants.{NotOpened, NotSo, NotReopened, Lived}

-- A step as most callers have it: it writes by batches without weak removals, leaves the counters alone, and forgets nothing that isn't flushed.
abbrev pub IsUsual : Step → Type 0
IsUsual (Write ops) = weaks_in ops ≡ []
IsUsual (Insert k v n) = ⊥
IsUsual (Remove k n) = ⊥
IsUsual (RemoveWeak k n) = ⊥
IsUsual (AppendEntry e) = ⊥
IsUsual (Next counter) = ⊥
IsUsual (Set counter n) = ⊥
IsUsual (FetchMax counter n) = ⊥
IsUsual ClearActiveMemtable = ⊥
IsUsual step = Unit {0}

-- ---- one life

-- what is added under a number has the one at which the counter stood, which is one more after it
abbrev pub IsNumbered : ℕ → ℕ → Event → Type 0
IsNumbered old new (Wrote e) = (e.key.seqno ≡ old) × (new ≡ old + 1)
IsNumbered old new (Clear n) = (n ≡ old) × (new ≡ old + 1)
IsNumbered old new (Install n) = (n ≡ old) × (new ≡ old + 1)
IsNumbered old new (Dropped ranges n) = Unit {0}
IsNumbered old new (Mark w) = Unit {0}
IsNumbered old new (Read s question told) = Unit {0}

-- from where the counter stood on, each usual step draws one number at most
abbrev pub EachDraws : ℕ → List ℕ → List Step → List Told → Type 0
EachDraws old [] [] [] = Unit {0}
EachDraws old (new ∷ counters) (x ∷ steps) (t ∷ told) = (IsUsual x → (old ≤ new) × (new ≤ old + 1) × AllByRecursion (IsNumbered old new) t.entries) × EachDraws new counters steps told
EachDraws old counters steps told = ⊥

-- those of some steps that were taken
abbrev pub steps_taken : List Step → Taken → List Step
steps_taken steps taken = take (length taken.outcomes.items) steps

-- A tree that showed this map, of which all entries are numbered below this number, with its counter at a number or just above them, took these
-- steps: all of them, unless memory ran out. Its store has had so many failures.
pub record LivesOver (May : Drops) (start : Map) (from least : ℕ) (steps : List Step) (taken : Taken) (failures : ℕ) : Type 0 where
  pub all : OnOk taken.ended (length taken.outcomes.items ≡ length steps)
  -- the entries that were found as it was opened: none where all are numbered below 0
  pub opened : List Entry
  pub found : above opened ≤ least
  -- what each step adds to the journal, and notes beside it, follows from its kind and its reply
  pub outcomes : List (out.Told Reply)
  pub replies : map told_of outcomes ≡ taken.outcomes.items
  pub tells : EachTells May opened nothing none_begun (steps_taken steps taken) outcomes
  -- where the counter stood after each step
  pub counters : List ℕ
  pub draws : EachDraws (max from (above opened)) counters (steps_taken steps taken) taken.outcomes.items
  -- each read, at a snapshot above what was found, answers what the replay of the calls before it does
  pub answers : EachAnswers opened start [] (steps_taken steps taken) taken.outcomes.items
  -- the store is blamed only where a call of it failed
  pub reasons : AllByRecursion (λ t. ReplyBlames t.reply → 0 < failures) taken.outcomes.items

-- The map is, outside dropped ranges, a beginning of the calls with these outcomes on a tree that showed the starting map, and holds each flush
-- that was installed and each clear that was answered.
abbrev pub IsLeftBy : List Entry → Map → List (out.Told Reply) → Map → Type 0
IsLeftBy opened start outcomes left = let all = after_all opened nothing outcomes in IsBeginning start all.journal all.notes (covered all.notes) left

-- the least number above all that a life on a new tree used
abbrev pub unused_after : Taken → ℕ
unused_after taken = next_number [] (journal_of taken.outcomes.items)

-- A first life on a new tree, and a second one over what is left of it, which finds no greater numbers than the first one used.
pub record Survives (May : Drops) (from : ℕ) (first : List Step) (before : Taken) (failures again : ℕ) (second : List Step) (after : Taken) (more_failures : ℕ) : Type 0 where
  pub over_nothing : LivesOver May empty from 0 first before failures
  pub left : Map
  pub kept : IsLeftBy over_nothing.opened empty over_nothing.outcomes left
  pub over_left : LivesOver May left again (unused_after before) second after more_failures

-- ---- how it may go otherwise

-- an opening is refused for want of memory, or where a call of the store failed
abbrev pub IsWant : Error → ℕ → Type 0
IsWant OutOfMemory failures = Unit {0}
IsWant Store failures = 0 < failures
IsWant CommitUnknown failures = 0 < failures
IsWant _ failures = ⊥

-- a crash may leave of the store what is picked
abbrev pub CanBeLeft : Picks → MemStore → Type 0
CanBeLeft picks store = IsImage (may_of store.files) (picked store.files picks)

-- Two lives survive a crash; or it is told how far they came: an opening was refused for its cause, or no crash leaves what is picked.
abbrev pub Goes : Drops → ℕ → List Step → Picks → ℕ → List Step → Course → Type 0
Goes May from first picks again second (NotOpened e store) = IsWant e store.failures
Goes May from first picks again second (NotSo life) = LivesOver May empty from 0 first life.taken life.store.failures × (CanBeLeft picks life.store → ⊥)
Goes May from first picks again second (NotReopened life e store) = LivesOver May empty from 0 first life.taken life.store.failures × CanBeLeft picks life.store × IsWant e store.failures
Goes May from first picks again second (Lived life next) = CanBeLeft picks life.store × Survives May from first life.taken life.store.failures again second next.taken next.store.failures

-- ---- which store is handed back

-- The steps that were taken on a new tree are a life, which ended with the store that is handed back, and of each reply that blames it a call
-- failed in its step.
pub record EndsWith (May : Drops) (from : ℕ) (was : MemStore) (steps : List Step) (life : Life) : Type 0 where
  pub lives : LivesInOrder May world_of from empty (steps_taken steps life.taken) life.taken.outcomes.items was life.store
  pub causes : EachHasCause world_of life.taken.outcomes.items was life.store

-- whatever the steps are, no second life is lived just where what is picked can't be left of the store after the first one
abbrev pub CrashesAsPicked : Drops → ℕ → MemStore → List Step → Picks → Course → Type 0
CrashesAsPicked May from was first picks (NotOpened e store) = Unit {0}
CrashesAsPicked May from was first picks (NotSo life) = EndsWith May from was first life × (CanBeLeft picks life.store → ⊥)
CrashesAsPicked May from was first picks (NotReopened life e store) = EndsWith May from was first life × CanBeLeft picks life.store
CrashesAsPicked May from was first picks (Lived life next) = EndsWith May from was first life × CanBeLeft picks life.store

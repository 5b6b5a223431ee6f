-- What the steps of a run do with sequence numbers, and which keys they may set or remove weakly.
use Rattle.std.specs.Prelude.{ℕ, ◌≤◌, List, [], ◌∷◌, ◌++◌, map}
use Rattle.lsm_below.specs.Keys.{Bytes}
use Rattle.lsm_below.specs.Entries.{Entry, above}
use Rattle.lsm_below.specs.declared.value_type.ValueType.{ValueType}
use Rattle.lsm_below.specs.declared.value_type.ValueType.TheVariants.{Value, Tombstone, WeakTombstone}
use Rattle.lsm_model.specs.Journal.{InOrder}
use Rattle.lsm_model.specs.declared.op.Op.{Op}
use Rattle.lsm_model.specs.declared.op.Op.TheVariants.{Set as SetTo, Del, Weak}
use Rattle.lsm_run_model.specs.Outcomes as out
use Rattle.lsm_run_model.specs.Rising.{Drawing, Silent, Own, Raises, Reserves, Draws, At, Asks, RisesFrom, WeakOnce, EachUses}
use Rattle.lsm_state.specs.Core.{Core}
use Rattle.lsm_runs.specs.declared.steps.Counter.TheVariants.{Seqno}
use Rattle.lsm_runs.specs.declared.steps.JobStep.{JobStep}
use Rattle.lsm_runs.specs.declared.steps.JobStep.TheVariants.{RegisterTables, BeginCompaction, FinishCompaction}
use Rattle.lsm_runs.specs.declared.steps.Step.{Step}
use Rattle.lsm_runs.specs.declared.steps.Step.TheVariants.{Insert, Remove, RemoveWeak, AppendEntry, Write, Next, Set, FetchMax, AtSlot, Flush, FlushActiveMemtable, Compact, DoCompaction, MajorCompact, DropRange, Clear}
use Rattle.lsm_runs.specs.declared.steps.Reply.{Reply}
use Rattle.lsm_runs.specs.Runs.{journal_of}
use Rattle.lsm_runs.specs.Told.{Told}

-- ---- numbers

-- a call on a job in a slot may install what it made under the counter's next number
abbrev pub job_drawing : JobStep → Drawing
job_drawing RegisterTables = Draws
job_drawing (BeginCompaction at o) = Draws
job_drawing FinishCompaction = Draws
job_drawing step = Silent

-- A write of one entry has its own number. A batch and what may be installed draw the counter's next one. The visible counter counts
-- for nothing here.
abbrev pub drawing_of : Step → Drawing
drawing_of (Insert k v n) = Own n
drawing_of (Remove k n) = Own n
drawing_of (RemoveWeak k n) = Own n
drawing_of (AppendEntry e) = Own e.key.seqno
drawing_of (Write ops) = Draws
drawing_of (Next Seqno) = Reserves
drawing_of (Set Seqno n) = Raises n
drawing_of (FetchMax Seqno n) = Raises n
drawing_of (AtSlot slot step) = job_drawing step
drawing_of (Flush w) = Draws
drawing_of (FlushActiveMemtable w) = Draws
drawing_of (Compact at w) = Draws
drawing_of (DoCompaction at o) = Draws
drawing_of (MajorCompact target w) = Draws
drawing_of (DropRange low high) = Draws
drawing_of Clear = Draws
drawing_of step = Silent

-- ---- keys

-- the key that an entry sets, and the one that it removes weakly
abbrev pub set_by : Bytes → ValueType → List Bytes
set_by k Value = k ∷ []
set_by k Tombstone = []
set_by k WeakTombstone = []

abbrev pub weak_by : Bytes → ValueType → List Bytes
weak_by k Value = []
weak_by k Tombstone = []
weak_by k WeakTombstone = k ∷ []

-- the same of one write of a batch
abbrev pub set_in : Bytes → Op → List Bytes
set_in k (SetTo v) = k ∷ []
set_in k Del = []
set_in k Weak = []

abbrev pub weak_in : Bytes → Op → List Bytes
weak_in k (SetTo v) = []
weak_in k Del = []
weak_in k Weak = k ∷ []

-- and of all of them
abbrev pub sets_in : List (Bytes × Op) → List Bytes
sets_in [] = []
sets_in (p ∷ ops) = set_in p.0 p.1 ++ sets_in ops

abbrev pub weaks_in : List (Bytes × Op) → List Bytes
weaks_in [] = []
weaks_in (p ∷ ops) = weak_in p.0 p.1 ++ weaks_in ops

-- the keys that a step may set
abbrev pub keys_set : Step → List Bytes
keys_set (Insert k v n) = k ∷ []
keys_set (AppendEntry e) = set_by e.key.user_key e.key.value_type
keys_set (Write ops) = sets_in ops
keys_set step = []

-- the keys that it may remove weakly
abbrev pub keys_weak : Step → List Bytes
keys_weak (RemoveWeak k n) = k ∷ []
keys_weak (AppendEntry e) = weak_by e.key.user_key e.key.value_type
keys_weak (Write ops) = weaks_in ops
keys_weak step = []

-- ---- steps and runs

-- what a step asks of the order of the calls
abbrev pub asks_of : Step → Asks
asks_of step = record { drawing = drawing_of step; sets = keys_set step; weak = keys_weak step }

-- an outcome without notes, as the theory of runs has it
abbrev pub plainly : Told → out.Told Reply
plainly told = record { reply = told.reply; entries = told.entries; notes = [] }

-- each step of a run uses the numbers and the keys that it asks for, and the counter stood at these numbers after each
pub record RunUses (steps : List Step) (told : List Told) (old : Core) : Type 0 where
  pub counters : List ℕ
  pub uses : EachUses (map asks_of steps) (map plainly told) old.seqno counters

-- So the journal of a run is in order where its steps ask for it: their numbers rise from where the counter stands, over all that was opened,
-- and what they remove weakly was set once at most.
abbrev pub RunRises : List Step → List Told → Core → Type 0
RunRises steps told old =
    (opened : List Entry) (low : ℕ) → above opened ≤ low → above opened ≤ old.seqno → RisesFrom low (At old.seqno) (map drawing_of steps) → WeakOnce opened [] (map asks_of steps)
    → InOrder opened (journal_of told)

-- What each step of a run on a logged tree may answer and do.
use Rattle.std.specs.Prelude.{◌≡◌, ◌⊎◌, ℕ, ◌<◌, ◌≤◌, ◌^◌, List, [], None, Result, Ok, Err}
use Rattle.lsm_below.specs.Keys.{Bytes}
use Rattle.lsm_below.specs.declared.error.Error.{Error}
use Rattle.lsm_below.specs.declared.error.Error.TheVariants.{OutOfMemory, OutOfNumbers}
use Rattle.lsm_model.specs.declared.op.Op.{Op}
use Rattle.lsm_model.specs.Journal.{Event}
use Rattle.lsm_parts.specs.Held.{first_entries}
use Rattle.lsm_runs.specs.declared.steps.Reply.{Reply}
use Rattle.lsm_runs.specs.declared.steps.Reply.TheVariants.{Number, Sealed, Done, Flushed, FlushedActive, RefusedActive, Cleared, Truth, NoStrategy, Refused}
use Rattle.lsm_runs.specs.Compacting.{Strategies, reply_of, TakesTableId as DrawsTableId}
use Rattle.lsm_state.specs.Calls.{Rotates}
use Rattle.lsm_state.specs.WholeCompactions.{Compacts, DropsRange, options_at, only_memory, major_choice}
use Rattle.lsm_state.specs.declared.compaction.Begun.{Begun}
use Rattle.lsm_logged.specs.Asking.{Asks}
use Rattle.lsm_logged.specs.Flushing.{FlushesLogged, ClearsLogged}
use Rattle.lsm_logged.specs.Keeping.{SeenLogged, is_unsure}
use Rattle.lsm_logged.specs.Writing.{WritesLogged}
use Rattle.lsm_log_runs.specs.declared.steps.LogStep.{LogStep}
use Rattle.lsm_log_runs.specs.declared.steps.LogStep.TheVariants.{Write, RotateMemtable, AtSlot, Flush, FlushActiveMemtable, Compact, MajorCompact, DropRange, Clear, GetNextTableId, SetMoment, IsUncertain}
use Rattle.lsm_log_runs.specs.JobSteps.{TakesInSlot}
use Rattle.lsm_log_runs.specs.Reads.{read_of, TakesRead}
use Rattle.lsm_log_runs.specs.Slots.{LogStage, StaysBeside}

-- ---- what a step of each kind may answer and do

abbrev pub TakesBatch : {S : Type 0} → List (Bytes × Op) → Reply → SeenLogged S → SeenLogged S → Type 0
TakesBatch ops (Number n) old new = WritesLogged ops (Ok n) old new
TakesBatch ops (Refused x) old new = WritesLogged ops (Err x) old new
TakesBatch ops reply old new = ⊥

abbrev pub TakesFlush : {S : Type 0} → ℕ → Reply → SeenLogged S → SeenLogged S → Type 0
TakesFlush w (Flushed a) old new = FlushesLogged w (Ok a) old new
TakesFlush w (Refused x) old new = FlushesLogged w (Err x) old new
TakesFlush w reply old new = ⊥

abbrev pub TakesClear : {S : Type 0} → Reply → SeenLogged S → SeenLogged S → Type 0
TakesClear (Cleared n) old new = ClearsLogged (Ok n) old new
TakesClear (Refused x) old new = ClearsLogged (Err x) old new
TakesClear reply old new = ⊥

-- a rotation: where there is nothing to seal it is never refused, and where no id is left it is refused as that, or for want of memory
abbrev pub TakesRotate : {S : Type 0} → Reply → SeenLogged S → SeenLogged S → Type 0
TakesRotate (Sealed id) old new = Rotates old.core id new.core × StaysBeside old new × (2 ^ 63 ≤ old.core.next_memtable → first_entries old.core.memtables ≡ [])
TakesRotate (Refused x) old new = (new ≡ old) × ((x ≡ OutOfNumbers) ⊎ (x ≡ OutOfMemory)) × (x ≡ OutOfNumbers → 2 ^ 63 ≤ old.core.next_memtable) × (first_entries old.core.memtables ≡ [] → ⊥)
TakesRotate reply old new = ⊥

-- and a flush after it; refused, it is the rotation or the flush that is
abbrev pub TakesFlushActive : {S : Type 0} → ℕ → Reply → SeenLogged S → SeenLogged S → Type 0
TakesFlushActive {S} w (FlushedActive id a) old new = (mid : SeenLogged S) × TakesRotate (Sealed id) old mid × TakesFlush w (Flushed a) mid new
TakesFlushActive {S} w (RefusedActive id x) old new = ((id ≡ None) × TakesRotate (Refused x) old new) ⊎ ((mid : SeenLogged S) × TakesRotate (Sealed id) old mid × TakesFlush w (Refused x) mid new)
TakesFlushActive w reply old new = ⊥

-- a compaction in one call
abbrev pub TakesCompaction : {S : Type 0} → (Result Begun Error → Type 0) → Reply → SeenLogged S → SeenLogged S → Type 0
TakesCompaction Call reply old new = (begun : Result Begun Error) × (reply ≡ reply_of begun) × Asks begun old new (Call begun)

-- one as the strategy at an index chooses
abbrev pub TakesCompact : {S : Type 0} → Strategies → ℕ → ℕ → Reply → SeenLogged S → SeenLogged S → Type 0
TakesCompact strategies at w NoStrategy old new = (new ≡ old) × (strategies.count ≤ at)
TakesCompact strategies at w reply old new = (at < strategies.count) × TakesCompaction (λ begun. Compacts (strategies.may_choose at) (strategies.may_refuse at) (options_at w old.core) begun old.core new.core) reply old new

-- a moment is set
abbrev pub TakesMoment : {S : Type 0} → ℕ → Reply → SeenLogged S → SeenLogged S → Type 0
TakesMoment n Done old new = (new.core ≡ record (old.core) { moment = n }) × StaysBeside old new
TakesMoment n reply old new = ⊥

-- an id for a table is drawn, as in `run`
abbrev pub TakesTableId : {S : Type 0} → Reply → SeenLogged S → SeenLogged S → Type 0
TakesTableId reply old new = ((events : List Event) × DrawsTableId reply events old.core new.core) × StaysBeside old new

-- whether a commit or a record of unknown outcome came before
abbrev pub TakesUncertain : {S : Type 0} → Reply → SeenLogged S → SeenLogged S → Type 0
TakesUncertain (Truth b) old new = (new ≡ old) × (b ≡ is_unsure old)
TakesUncertain reply old new = ⊥

-- each is the call that it is named after; one that needs no slot. Each that isn't named here reads the tree
abbrev pub TakesAlone : {S : Type 0} → Strategies → LogStep → Reply → SeenLogged S → SeenLogged S → Type 0
TakesAlone strategies (Write ops) reply old new = TakesBatch ops reply old new
TakesAlone strategies (Flush w) reply old new = TakesFlush w reply old new
TakesAlone strategies Clear reply old new = TakesClear reply old new
TakesAlone strategies RotateMemtable reply old new = TakesRotate reply old new
TakesAlone strategies (FlushActiveMemtable w) reply old new = TakesFlushActive w reply old new
TakesAlone strategies (Compact at w) reply old new = TakesCompact strategies at w reply old new
TakesAlone strategies (MajorCompact target w) reply old new = TakesCompaction (λ begun. Compacts (major_choice target) only_memory (options_at w old.core) begun old.core new.core) reply old new
TakesAlone strategies (DropRange low high) reply old new = TakesCompaction (λ begun. DropsRange (record { start = low; end = high }) begun old.core new.core) reply old new
TakesAlone strategies GetNextTableId reply old new = TakesTableId reply old new
TakesAlone strategies (SetMoment n) reply old new = TakesMoment n reply old new
TakesAlone strategies IsUncertain reply old new = TakesUncertain reply old new
TakesAlone strategies (AtSlot slot step) reply old new = ⊥
TakesAlone strategies step reply old new = TakesRead strategies (read_of step) reply old new

-- and that leaves all of them, or a call on the job in a slot
abbrev pub Takes : {S : Type 0} → Strategies → LogStep → Reply → LogStage S → LogStage S → Type 0
Takes strategies (AtSlot slot step) reply old new = TakesInSlot strategies slot step reply old new
Takes strategies step reply old new = TakesAlone strategies step reply old.tree new.tree × (new.jobs ≡ old.jobs)

-- What a snapshot sees of a tree: one map, which each read at it answers, on every key.
use Rattle.std.specs.Prelude.{◌≡◌, ℕ, [], Option, Some, None, option_map}
use Rattle.lsm_below.specs.declared.error.Error.TheVariants.{SnapshotTooOld}
use Rattle.lsm_model.specs.Journal.{Map}
use Rattle.lsm_model.specs.Views.{SuperVersion, found_at, sources, view}
use Rattle.lsm_parts.specs.Held.{entries_of}
use Rattle.lsm_runs.specs.declared.steps.Reply.{Reply}
use Rattle.lsm_runs.specs.declared.steps.Reply.TheVariants.{Refused}
use Rattle.lsm_runs.specs.declared.steps.Step.{Step}
use Rattle.lsm_state.specs.Core.{Core, latest_of, older_of}
use Rattle.lsm_log_runs.specs.declared.steps.LogStep.{LogStep}
use Rattle.lsm_log_runs.specs.declared.steps.LogStep.TheVariants.{Get, GetInternalEntry, ContainsKey, SizeOf, Range, Iter, Prefix, Len, IsEmpty, FirstKeyValue, LastKeyValue}
use Rattle.lsm_log_runs.specs.Reads.{read_of, AnswersRead}

-- what a snapshot sees: the map of the super version that it finds
abbrev pub sees : Core → ℕ → Option Map
sees c s = option_map (λ (sv : SuperVersion). view s (sources (entries_of c.memtables) sv)) (found_at s (latest_of c) (older_of c))

-- the snapshot at which a step reads; none, where it reads at none
abbrev pub snapshot_of : LogStep → Option ℕ
snapshot_of (Get k s) = Some s
snapshot_of (GetInternalEntry k s) = Some s
snapshot_of (ContainsKey k s) = Some s
snapshot_of (SizeOf k s) = Some s
snapshot_of (Range low high s) = Some s
snapshot_of (Iter s) = Some s
snapshot_of (Prefix p s) = Some s
snapshot_of (Len s) = Some s
snapshot_of (IsEmpty s) = Some s
snapshot_of (FirstKeyValue s) = Some s
snapshot_of (LastKeyValue s) = Some s
snapshot_of x = None

-- a read answers the map that a snapshot sees, on every key, as it would the replay of no calls over that map, and is refused for memory
-- alone; where the snapshot sees none, the read is refused as too old
abbrev pub AnswersSight : Core → ℕ → Option Step → Reply → Type 0
AnswersSight c s x reply = ((m : Map) → sees c s ≡ Some m → AnswersRead [] m [] x reply) × (sees c s ≡ None → reply ≡ Refused SnapshotTooOld)

-- a step that reads at a snapshot answers what it sees; so two reads of one tree at one snapshot agree on every key
abbrev pub SeesOne : Core → LogStep → Reply → Type 0
SeesOne c x reply = (s : ℕ) → snapshot_of x ≡ Some s → AnswersSight c s (read_of x) reply

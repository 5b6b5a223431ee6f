-- The calls of a compaction: what each answers, and what it does.
use Rattle.std.specs.Prelude.{◌≡◌, ◌⊎◌, ◌↔◌, ℕ, ◌+◌, ◌-◌, ◌≤◌, ◌<◌, ◌^◌, true, false, List, [], ◌++◌, length, map, flat_map, Option, Some, None, IsSome, Result, Ok, Err, IfOk, IfErr, OnOk, OnErr, IsErrOf}
use Rattle.std.specs.List.{AllByRecursion}
use Rattle.lsm_below.specs.Keys.{Bytes}
use Rattle.lsm_below.specs.declared.error.Error.{Error}
use Rattle.lsm_below.specs.declared.error.Error.TheVariants.{OutOfMemory, Store, CommitUnknown, Unrecoverable, OutOfNumbers, TooManyRuns, NotDisjoint, Busy, AfterCommit, Strategy}
use Rattle.lsm_below.specs.Optimizes.{tables_of}
use Rattle.lsm_model.specs.Views.{IsAllowed, IsLaidOut, IsRearranged, left_of}
use Rattle.lsm_model.specs.Steps.{among, AllCover}
use Rattle.lsm_tables.specs.Cutting.{IsCutting}
use Rattle.lsm_tables.specs.Tables.{SeenTable}
use Rattle.lsm_versions.specs.declared.config.Config.{Config}
use Rattle.lsm_below.specs.Runs.{IsRun}
use Rattle.lsm_versions.specs.Levels.{SeenVersion, range, Levels, IsNext, IsOneRun, Moves, PutBetween, HasOwnIds, all_of, chosen_from, placed_of, placed_in}
use Rattle.lsm_versions.specs.Refusals.{IsRefusedFor}
use Rattle.lsm_versions.specs.Chosen.{Keeps}
use Rattle.lsm_checks.specs.declared.choice.Kind.TheVariants.{Merge as AsMerge, Move as AsMove, Drop as AsDrop}
use Rattle.lsm_checks.specs.declared.choice.Why.{Why}
use Rattle.lsm_checks.specs.declared.choice.Why.TheVariants.{UnknownJob}
use Rattle.lsm_checks.specs.declared.input.Input.{Input}
use Rattle.lsm_checks.specs.Choices.{first_reason_of, IsLastReason, HoldSame, IsMovable, AreThere, AllStand}
use Rattle.lsm_compaction.specs.declared.settings.MergeSettings.{MergeSettings}
use Rattle.lsm_compaction.specs.Merges.{SeenCompaction, inputs_in, evicts, run_entries, AreKept, AreFilesOf}
use Rattle.lsm_compaction.specs.OpenMerges.{hides, IsOpenIn, opened, ended}
use Rattle.lsm_pick.specs.declared.choice.Choice.{Choice}
use Rattle.lsm_pick.specs.declared.choice.Choice.TheVariants.{DoNothing, Move, Merge, Drop}
use Rattle.lsm_pick.specs.declared.choice.ChooseError.{ChooseError}
use Rattle.lsm_pick.specs.declared.choice.ChooseError.TheVariants.{OutOfMemory as NoMemory, NotDisjoint as Several, Busy as InUse, Refused}
use Rattle.lsm_state.specs.declared.compaction.Options.{Options}
use Rattle.lsm_state.specs.declared.compaction.Begun.{Begun}
use Rattle.lsm_state.specs.declared.compaction.Begun.TheVariants.{DidNothing, Declined, Installed, Job}
use Rattle.lsm_state.specs.declared.compaction.Finished.{Finished}
use Rattle.lsm_state.specs.declared.compaction.Finished.TheVariants.{Declined as Over, Installed as Done}
use Rattle.lsm_state.specs.Core.{Core, written_of}
use Rattle.lsm_state.specs.Commits.{counted}
use Rattle.lsm_state.specs.Flushes.{with_next_table}
use Rattle.lsm_state.specs.Settling.{SettlesSome}

-- ---- choices

-- the levels that the latest super version reads
abbrev pub levels_of : Core → Levels
levels_of c = c.history.latest.version.levels

-- the tables that open merges work on
abbrev pub hidden_in : Core → List ℕ
hidden_in c = flat_map (λ m. m.ids) c.merges.underway

-- the first reason to decline a choice
abbrev pub reason_of : Choice → Core → Option Why
reason_of DoNothing c = None
reason_of (Move input) c = first_reason_of AsMove input.table_ids.keys input.dest_level (hidden_in c) (levels_of c)
reason_of (Merge input) c = first_reason_of AsMerge input.table_ids.keys input.dest_level (hidden_in c) (levels_of c)
reason_of (Drop ids) c = first_reason_of AsDrop ids.keys 0 (hidden_in c) (levels_of c)

-- ---- beginning

-- what holds of a choice that no reason declines
abbrev pub IsPossible : Choice → Core → Type 0
IsPossible DoNothing c = Unit {0}
IsPossible (Move input) c = (input.dest_level < 7) × IsMovable input.dest_level input.table_ids.keys (levels_of c)
IsPossible (Merge input) c = AreThere (levels_of c) input.table_ids.keys × ((i : ℕ) → among input.table_ids.keys i ≡ true → hides c.merges.underway i ≡ false)
IsPossible (Drop ids) c = AreThere (levels_of c) ids.keys

-- how a merge is done
abbrev pub settings_of : Input → Options → MergeSettings
settings_of input o = record { dest_level = input.dest_level; target_size = input.target_size; watermark = o.mvcc_gc_watermark; made_at = o.moment }

-- the job of a merge
abbrev pub job_for : Input → Options → Core → SeenCompaction
job_for input o c = record { number = c.merges.next; ids = input.table_ids.keys; inputs = inputs_in input.table_ids.keys (tables_of (levels_of c)); settings = settings_of input o }

-- the tree with that merge open
abbrev pub with_merge : Input → Options → Core → Core
with_merge input o c = record c { merges = opened input.table_ids.keys (settings_of input o) c.merges }

-- a merge becomes a job; refused, it changes nothing
pub record OpensMerge (input : Input) (o : Options) (r : Result Begun Error) (old new : Core) : Type 0 where
  pub job : IfOk r (λ b. b ≡ Job (job_for input o old))
  pub ok : OnOk r (new ≡ with_merge input o old)
  pub err : OnErr r (new ≡ old)
  pub out_of_numbers : IsErrOf r OutOfNumbers → 2 ^ 63 ≤ old.merges.next
  pub only : IfErr r (λ e. (e ≡ OutOfMemory) ⊎ (e ≡ OutOfNumbers))

-- the version that a move makes: the tables are one run of the level
pub record IsMovedTo (input : Input) (latest made : SeenVersion) : Type 0 where
  pub moves : Moves input.table_ids.keys input.dest_level latest made
  pub allowed : IsAllowed input.dest_level (among input.table_ids.keys) false (placed_of latest.levels)
  pub laid : IsLaidOut (placed_of made.levels)
  pub own_ids : HasOwnIds (all_of made.levels)

-- the version that a drop makes: the tables are gone
pub record IsDroppedFrom (ids : List ℕ) (latest made : SeenVersion) : Type 0 where
  pub next : IsNext ids [] 0 0 latest made
  pub placed : IsRearranged (left_of (among ids) (placed_of latest.levels)) (placed_of made.levels)
  pub laid : IsLaidOut (placed_of made.levels)
  pub own_ids : HasOwnIds (all_of made.levels)

-- why no version is made where tables move, and where they are dropped
abbrev pub IsNotMoved : Input → SeenVersion → Error → Type 0
IsNotMoved input latest e = ((run : List SeenTable) × IsOneRun (chosen_from input.table_ids.keys latest.levels) run × IsRefusedFor input.table_ids.keys run input.dest_level latest e) ⊎ (e ≡ OutOfMemory)

abbrev pub IsNotDropped : List ℕ → SeenVersion → Error → Type 0
IsNotDropped ids latest e = IsRefusedFor ids [] 0 latest e

-- a move or a drop is installed
pub record InstallsChoice (IsMade : SeenVersion → Type 0) (IsUnmade : Error → Type 0) (w : ℕ) (r : Result Begun Error) (old new : Core) : Type 0 where
  pub ok : IfOk r (λ b. b ≡ Installed)
  pub settles : SettlesSome IsMade w r old new
  pub store : IsErrOf r Store → new ≡ counted old
  pub too_many_runs : IsErrOf r TooManyRuns → IsUnmade TooManyRuns
  -- a counter without a number is told before
  pub numbered : IsErrOf r TooManyRuns → old.seqno < 2 ^ 63
  pub out_of_numbers : IsErrOf r OutOfNumbers → (2 ^ 63 ≤ old.seqno) ⊎ (old.history.latest.version.id ≡ 2 ^ 64 - 1)
  pub only : IfErr r (λ e. ((e ≡ OutOfMemory) ⊎ ((e ≡ Store) ⊎ (e ≡ CommitUnknown))) ⊎ ((e ≡ OutOfNumbers) ⊎ ((e ≡ TooManyRuns) ⊎ (e ≡ AfterCommit))))

-- what is done where no reason holds
abbrev pub Does : Choice → Options → Result Begun Error → Core → Core → Type 0
Does DoNothing o r old new = (r ≡ Ok DidNothing) × (new ≡ old)
Does (Move input) o r old new = InstallsChoice (IsMovedTo input old.history.latest.version) (IsNotMoved input old.history.latest.version) o.mvcc_gc_watermark r old new
Does (Merge input) o r old new = OpensMerge input o r old new
Does (Drop ids) o r old new = InstallsChoice (IsDroppedFrom ids.keys old.history.latest.version) (IsNotDropped ids.keys old.history.latest.version) o.mvcc_gc_watermark r old new

-- what beginning a choice answers and does
pub record BeginsChoice (choice : Choice) (o : Options) (r : Result Begun Error) (old new : Core) : Type 0 where
  -- after a commit of unknown outcome, and only there
  pub unrecoverable : IsErrOf r Unrecoverable ↔ IsSome old.lost
  pub uncertain : IsSome old.lost → new ≡ old
  -- the first reason is told, unless there was no memory to find it
  pub declines : (why : Why) → old.lost ≡ None → reason_of choice old ≡ Some why → ((r ≡ Ok (Declined why)) ⊎ (r ≡ Err OutOfMemory)) × (new ≡ old)
  pub does : old.lost ≡ None → reason_of choice old ≡ None → Does choice o r old new

-- ---- choosing

-- a strategy's refusal, as the call tells it
abbrev pub error_of : ChooseError → Error
error_of NoMemory = OutOfMemory
error_of Several = NotDisjoint
error_of InUse = Busy
error_of Refused = Strategy

-- what a strategy may choose, or why it may refuse to, by the tree's configuration, the tables in use and the latest version
abbrev pub Relation : Type 0 → Type 1
Relation A = Config → List ℕ → SeenVersion → A → Type 0

-- it may answer so of a tree, whose tables in use it is told
abbrev pub MayAnswer : {A : Type 0} → Relation A → Core → A → Type 0
MayAnswer may c x = (hidden : List ℕ) × ((i : ℕ) → among hidden i ≡ hides c.merges.underway i) × may c.config hidden c.history.latest.version x

-- one choice that a strategy may make explains the answer, or its refusal does
abbrev pub IsChosen : Relation Choice → Relation ChooseError → Options → Result Begun Error → Core → Core → Type 0
IsChosen may_choose may_refuse o r old new =
    ((choice : Choice) × MayAnswer may_choose old choice × BeginsChoice choice o r old new)
    ⊎ ((e : ChooseError) × MayAnswer may_refuse old e × (r ≡ Err (error_of e)) × (new ≡ old))

-- with this answer something was installed, or no call of the store was made
abbrev pub InstallsOrRests : {S : Type 0} → Begun → S → S → Type 0
InstallsOrRests Installed old new = Unit {0}
InstallsOrRests DidNothing old new = new ≡ old
InstallsOrRests (Declined why) old new = new ≡ old
InstallsOrRests (Job job) old new = new ≡ old

-- what beginning a compaction answers and does
pub record BeginsCompaction (may_choose : Relation Choice) (may_refuse : Relation ChooseError) (o : Options) (r : Result Begun Error) (old new : Core) : Type 0 where
  pub unrecoverable : IsErrOf r Unrecoverable ↔ IsSome old.lost
  pub uncertain : IsSome old.lost → new ≡ old
  pub chosen : old.lost ≡ None → IsChosen may_choose may_refuse o r old new

-- ---- finishing

-- the tree where a merge is no longer open
abbrev pub closed : ℕ → Core → Core
closed n c = record c { merges = ended n c.merges }

-- a run of tables holds what is kept of a job's inputs: evicting where the level is the last one, cut at the target, and made
-- at the job's moment
pub record HoldsMerged (job : SeenCompaction) (run : List SeenTable) : Type 0 where
  pub kept : AreKept job.settings job.inputs (run_entries run)
  pub keeps : Keeps job.settings.watermark (evicts job.settings) (tables_of job.inputs) run
  pub cut : IsCutting job.settings.target_size (run_entries run) (map (λ t. t.entries) run)
  pub made : AllByRecursion (λ t. t.created_at ≡ job.settings.made_at) run

-- the version that a merge makes: a run with what is kept, of tables with ids from this one on, stands in place of its inputs, which are
-- still there
pub record IsMergedInto (first : ℕ) (job : SeenCompaction) (latest made : SeenVersion) : Type 0 where
  pub run : List SeenTable
  pub holds : HoldsMerged job run
  pub fresh : AllByRecursion (λ t. first ≤ t.id) run
  pub next : IsNext job.ids run job.settings.dest_level 0 latest made
  pub allowed : IsAllowed job.settings.dest_level (among job.ids) (evicts job.settings) (placed_of latest.levels)
  pub same : HoldSame (tables_of job.inputs) job.ids latest.levels
  pub covers : AllCover (placed_in job.settings.dest_level run)
  pub placed : PutBetween job.ids run job.settings.dest_level latest.levels made.levels
  pub laid : IsLaidOut (placed_of made.levels)
  pub own_ids : HasOwnIds (all_of made.levels)

-- the tables that a merge made, as one run, which stand in no version yet, nor for an open flush
pub record AreMerged (job : SeenCompaction) (c : Core) (tables : List SeenTable) : Type 0 where
  pub holds : HoldsMerged job tables
  pub run : IsRun range tables
  pub own_ids : HasOwnIds (tables ++ (written_of c ++ all_of (levels_of c)))
  pub below : c.next_table < 2 ^ 64 - 1 → AllByRecursion (λ t. t.id < c.next_table) tables

-- a merge that no reason declines
pub record MayMerge (job : SeenCompaction) (c : Core) : Type 0 where
  pub certain : c.lost ≡ None
  pub level : job.settings.dest_level < 7
  pub allowed : IsAllowed job.settings.dest_level (among job.ids) (evicts job.settings) (placed_of (levels_of c))
  pub stands : AllStand (levels_of c) (tables_of job.inputs)
  pub same : HoldSame (tables_of job.inputs) job.ids (levels_of c)

-- a manifest can't write the version that a merge would make
abbrev pub IsTooFull : SeenCompaction → SeenVersion → Type 0
IsTooFull job latest = (run : List SeenTable) × HoldsMerged job run × IsRefusedFor job.ids run job.settings.dest_level latest TooManyRuns

-- ids of tables are used, no more than one for each file that a job makes
abbrev pub DrawsFor : SeenCompaction → ℕ → ℕ → Type 0
DrawsFor job first next = (files : List Bytes) × AreFilesOf job.settings job.inputs files × (next ≤ first + length files)

-- what installing such a merge answers and does
pub record InstallsMerge {T : Type 0} (job : SeenCompaction) (r : Result T Error) (old new : Core) : Type 0 where
  -- ids of tables may be used
  pub table : ℕ
  pub rises : old.next_table ≤ table
  pub draws : DrawsFor job old.next_table table
  pub settles : SettlesSome (IsMergedInto old.next_table job old.history.latest.version) job.settings.watermark r (with_next_table table old) new
  pub out_of_numbers : IsErrOf r OutOfNumbers → (2 ^ 63 ≤ old.seqno) ⊎ ((2 ^ 63 ≤ table) ⊎ (old.history.latest.version.id ≡ 2 ^ 64 - 1))
  pub too_many_runs : IsErrOf r TooManyRuns → IsTooFull job old.history.latest.version
  -- a counter without a number is told before
  pub numbered : IsErrOf r TooManyRuns → old.seqno < 2 ^ 63
  pub only : IfErr r (λ e. ((e ≡ OutOfMemory) ⊎ ((e ≡ Store) ⊎ (e ≡ CommitUnknown))) ⊎ ((e ≡ OutOfNumbers) ⊎ ((e ≡ TooManyRuns) ⊎ (e ≡ AfterCommit))))

-- a reason is told; without one the merge is installed
abbrev pub EndsFor : SeenCompaction → Option Why → Result Finished Error → Core → Core → Type 0
EndsFor job None r old new = InstallsMerge job r old new × IfOk r (λ f. f ≡ Done)
EndsFor job (Some why) r old new = (r ≡ Ok (Over why)) × (new ≡ old)

-- what the end of an open merge answers and does: the first reason is told, unless there was no memory to find it
abbrev pub Ends : SeenCompaction → Result Finished Error → Core → Core → Type 0
Ends job r old new =
    ((r ≡ Err OutOfMemory) × (new ≡ old))
    ⊎ ((why : Option Why) × IsLastReason (tables_of job.inputs) job.ids job.settings.dest_level (levels_of old) why × EndsFor job why r old new)

-- with this end the merge was installed, or no call of the store was made
abbrev pub EndsOrRests : {S : Type 0} → Finished → S → S → Type 0
EndsOrRests Done old new = Unit {0}
EndsOrRests (Over why) old new = new ≡ old

-- a job is spent: it is no longer open, where it was
abbrev pub Spends : SeenCompaction → Core → Core → Type 0
Spends job old new = (IsOpenIn job old.merges.underway × (new ≡ closed job.number old)) ⊎ ((IsOpenIn job old.merges.underway → ⊥) × (new ≡ old))

-- what the end of a merge answers and does; it is spent whatever it answers
pub record Finishes (job : SeenCompaction) (r : Result Finished Error) (old new : Core) : Type 0 where
  -- after a commit of unknown outcome, and only there
  pub unrecoverable : IsErrOf r Unrecoverable ↔ IsSome old.lost
  pub uncertain : IsSome old.lost → Spends job old new
  -- no open merge is this one, or it is closed, and ends
  pub ends : old.lost ≡ None → ((IsOpenIn job old.merges.underway → ⊥) × ((r ≡ Ok (Over UnknownJob)) × (new ≡ old))) ⊎ (IsOpenIn job old.merges.underway × Ends job r (closed job.number old) new)

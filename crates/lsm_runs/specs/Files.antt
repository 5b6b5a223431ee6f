-- What a run leaves of a tree's files.
use Rattle.std.specs.Prelude.{◌≡◌, List, Result, IsSome, IfOk}
use Rattle.lsm_below.specs.Members.{IsIn}
use Rattle.lsm_store.specs.World.{World}
use Rattle.lsm_versions.specs.Levels.{SeenVersion}
use Rattle.lsm_commit.specs.Stored.{IsStored}
use Rattle.lsm_commit.specs.Causes.{HasCause}
use Rattle.lsm_state.specs.Core.{Core, Seen, versions_left, written_of}
use Rattle.lsm_state.specs.Commits.{Upholds}
use Rattle.lsm_runs.specs.declared.steps.JobStep.{JobStep}
use Rattle.lsm_runs.specs.declared.steps.JobStep.TheVariants.{FlushToTables, RegisterTables, BeginCompaction, FinishCompaction}
use Rattle.lsm_runs.specs.declared.steps.Reply.{Reply}
use Rattle.lsm_runs.specs.declared.steps.Step.{Step}
use Rattle.lsm_runs.specs.declared.steps.Step.TheVariants.{AtSlot, Flush, FlushActiveMemtable, Compact, DoCompaction, MajorCompact, DropRange, Clear}
use Rattle.lsm_runs.specs.Causes.{ReplyBlames}
use Rattle.lsm_runs.specs.Told.{Told}

-- of these versions no two have the same id
abbrev pub AreApart : List SeenVersion → Type 0
AreApart versions = (v w : SeenVersion) → IsIn v versions → IsIn w versions → v.id ≡ w.id → w ≡ v

-- where the files of a tree are stored before, they are so after
abbrev pub StaysStored : World → World → Core → Core → Type 0
StaysStored w w' old new = IsStored w (versions_left old) (written_of old) → IsStored w' (versions_left new) (written_of new)

-- what a step that touches the store does: a crash leaves a version that the tree had or has, the reply blames the store only where
-- a call of it failed, and after a commit of unknown outcome none is made
pub record TouchesFiles {S E : Type 0} (r : Result Told E) (tells : Type 0) (world : S → World) (old new : Seen S) : Type 0 where
  pub upholds : tells → Upholds (world old.store) (world new.store) old.core new.core
  pub causes : IfOk r (λ told. HasCause (ReplyBlames told.reply) (world old.store) (world new.store))
  pub no_call : IsSome old.core.lost → new.store ≡ old.store

-- this of a call on a job that touches the store: no other does anything to it
abbrev pub JobTouches : {F : Type 0} → JobStep → Type 0 → F → F → Type 0
JobTouches FlushToTables Does was is = Does
JobTouches RegisterTables Does was is = Does
JobTouches (BeginCompaction at o) Does was is = Does
JobTouches FinishCompaction Does was is = Does
JobTouches step Does was is = is ≡ was

-- this of a step that touches it
abbrev pub Touches : {F : Type 0} → Step → Type 0 → F → F → Type 0
Touches (AtSlot slot step) Does was is = JobTouches step Does was is
Touches (Flush n) Does was is = Does
Touches (FlushActiveMemtable n) Does was is = Does
Touches (Compact at n) Does was is = Does
Touches (DoCompaction at o) Does was is = Does
Touches (MajorCompact target n) Does was is = Does
Touches (DropRange low high) Does was is = Does
Touches Clear Does was is = Does
Touches step Does was is = is ≡ was

-- what a call on a job, and what a step leaves of a tree's files
abbrev pub JobLeavesFiles : {F : Type 0} → (F → World) → JobStep → F → F → Core → Core → Type 0
JobLeavesFiles world step was is old new = JobTouches step (Upholds (world was) (world is) old new) was is

abbrev pub LeavesFiles : {F : Type 0} → (F → World) → Step → F → F → Core → Core → Type 0
LeavesFiles world step was is old new = Touches step (Upholds (world was) (world is) old new) was is

-- in one that touches the store the reply blames it only where a call of it failed
abbrev pub JobHasCause : {F : Type 0} → (F → World) → JobStep → Reply → F → F → Type 0
JobHasCause world step reply was is = JobTouches step (HasCause (ReplyBlames reply) (world was) (world is)) was is

abbrev pub StepHasCause : {F : Type 0} → (F → World) → Step → Reply → F → F → Type 0
StepHasCause world step reply was is = Touches step (HasCause (ReplyBlames reply) (world was) (world is)) was is

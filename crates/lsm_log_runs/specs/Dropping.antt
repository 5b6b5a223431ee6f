-- Which ranges a step may drop: of a tree that is in view, and of some tree.
use Rattle.std.specs.Prelude.{◌≡◌, List, map}
use Rattle.std.specs.declared.ops.Bound.{Bound}
use Rattle.lsm_below.specs.Keys.{Bytes}
use Rattle.lsm_below.specs.Ranges.{Range}
use Rattle.lsm_versions.specs.Levels.{Levels, range}
use Rattle.lsm_pick.specs.Simple.{bounded}
use Rattle.lsm_runs.specs.declared.steps.JobStep.TheVariants.{BeginCompaction}
use Rattle.lsm_runs.specs.Adds.{RangesWithin}
use Rattle.lsm_runs.specs.Compacting.{Strategies}
use Rattle.lsm_runs.specs.Dropping.{Drops}
use Rattle.lsm_state.specs.Core.{Core}
use Rattle.lsm_state.specs.Compactions.{levels_of}
use Rattle.lsm_state.specs.Dropping.{DropsFrom}
use Rattle.lsm_log_runs.specs.declared.steps.LogStep.{LogStep}
use Rattle.lsm_log_runs.specs.declared.steps.LogStep.TheVariants.{AtSlot, Compact, DropRange}

-- the ranges of the tables that lie wholly within bounds, level by level
abbrev pub ranges_within : Bound Bytes → Bound Bytes → Levels → List Range
ranges_within low high levels = map range (bounded (record { start = low; end = high }) levels)

-- of this tree: what the strategy that is asked may drop, and by a drop of a range just the tables that lie wholly within it
abbrev pub DropsBy : Strategies → Core → LogStep → List Range → Type 0
DropsBy strategies c (Compact at w) ranges = DropsFrom (strategies.may_choose at) c ranges
DropsBy strategies c (AtSlot slot (BeginCompaction at o)) ranges = DropsFrom (strategies.may_choose at) c ranges
DropsBy strategies c (DropRange low high) ranges = ranges ≡ ranges_within low high (levels_of c)
DropsBy strategies c step ranges = ⊥

-- of some tree, where a statement speaks of stores alone
abbrev pub MayDropBy : Drops → LogStep → List Range → Type 0
MayDropBy May (Compact at w) ranges = May at ranges
MayDropBy May (AtSlot slot (BeginCompaction at o)) ranges = May at ranges
MayDropBy May (DropRange low high) ranges = RangesWithin low high ranges
MayDropBy May step ranges = ⊥

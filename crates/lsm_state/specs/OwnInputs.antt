-- The inputs of a merge that this tree began.
use Rattle.std.specs.Prelude.{Result, Ok}
use Rattle.lsm_below.specs.declared.error.Error.{Error}
use Rattle.lsm_below.specs.Optimizes.{tables_of}
use Rattle.lsm_checks.specs.Choices.{AreOneById}
use Rattle.lsm_compaction.specs.Merges.{SeenCompaction}
use Rattle.lsm_state.specs.Core.{Core}
use Rattle.lsm_state.specs.Compactions.{levels_of}
use Rattle.lsm_state.specs.declared.compaction.Begun.{Begun}
use Rattle.lsm_state.specs.declared.compaction.Begun.TheVariants.{Job}

-- an id names one table among the inputs of a job and the latest version
abbrev pub HasOwnInputs : SeenCompaction → Core → Type 0
HasOwnInputs job c = AreOneById (tables_of job.inputs) (levels_of c)

-- so it is of a merge that was begun here just now
abbrev pub BeganHere : Result Begun Error → Core → Type 0
BeganHere (Ok (Job job)) c = HasOwnInputs job c
BeganHere begun c = Unit {0}

-- What a clear, and forgetting what isn't flushed, may answer, add to the journal and do, as steps.
use Rattle.std.specs.Prelude.{◌≡◌, ℕ, List, [], Result, Ok, Err}
use Rattle.lsm_below.specs.declared.error.Error.{Error}
use Rattle.lsm_model.specs.Journal.{Event}
use Rattle.lsm_state.specs.Core.{Core}
use Rattle.lsm_state.specs.Clearing.{ForgetsUnflushed}
use Rattle.lsm_journal.specs.NotedClears.{ClearsNoted}
use Rattle.lsm_runs.specs.declared.steps.Reply.{Reply}
use Rattle.lsm_runs.specs.declared.steps.Reply.TheVariants.{Cleared, Done, Refused}
use Rattle.lsm_runs.specs.Told.{Told}

abbrev pub TakesClear : Reply → List Event → Core → Core → Type 0
TakesClear (Cleared n) events old new = ClearsNoted (Ok n) events old new
TakesClear (Refused x) events old new = ClearsNoted (Err x) events old new
TakesClear reply events old new = ⊥

-- what isn't flushed is forgotten, which nothing notes
abbrev pub TakesForget : Reply → List Event → Core → Core → Type 0
TakesForget Done events old new = (events ≡ []) × ForgetsUnflushed (Ok tt) old new
TakesForget (Refused x) events old new = (events ≡ []) × ForgetsUnflushed (Err x) old new
TakesForget reply events old new = ⊥

-- the outcome of a clear
abbrev pub told_clear : List Event → Result ℕ Error → Told
told_clear events (Ok n) = record { reply = Cleared n; entries = events }
told_clear events (Err x) = record { reply = Refused x; entries = events }

-- A clear, and what it adds to a journal.
use Rattle.std.specs.Prelude.{◌≡◌, ℕ, List, Result}
use Rattle.lsm_below.specs.declared.error.Error.{Error}
use Rattle.lsm_model.specs.Journal.{Event}
use Rattle.lsm_state.specs.Core.{Core}
use Rattle.lsm_state.specs.Clearing.{Clears, ClearDeeds, clear_events}

-- a clear, whatever it answers, with its deeds: it is told where it is answered
abbrev pub ClearsNoted : Result ℕ Error → List Event → Core → Core → Type 0
ClearsNoted r events old new = (events ≡ clear_events r) × Clears r old new × ClearDeeds r old new

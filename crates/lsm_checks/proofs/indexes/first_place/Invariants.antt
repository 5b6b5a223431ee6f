use Rattle.std.proofs.Common.{◌≡◌, ℕ, ◌<◌, false, get_or}
use Rattle.lsm_tables.specs.Tables.{SeenTable}
use Rattle.lsm_model.specs.Steps.{among}
use Rattle.lsm_checks.proofs.indexes.first_place.Given as goal

abbrev pub invariant-loop-i : goal.invariant-loop-i
invariant-loop-i l = (j : ℕ) (d : SeenTable) → j < l.i → among l.ids.keys (get_or l.tables j d).id ≡ false

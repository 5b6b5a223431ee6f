use Rattle.std.proofs.Common.{◌≡◌, ℕ, map, take}
use Rattle.lsm_model.specs.Steps.{among}
use Rattle.lsm_state.proofs.flush.register.ids_of.Given as goal

abbrev pub invariant-loop-table : goal.invariant-loop-table
invariant-loop-table l = (i : ℕ) → among l.ids.keys i ≡ among (map (λ t. t.id) (take l.table-index l.tables)) i

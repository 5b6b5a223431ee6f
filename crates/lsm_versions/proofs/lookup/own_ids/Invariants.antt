use Rattle.std.proofs.Common.{◌≡◌, ℕ, map}
use Rattle.lsm_model.specs.Steps.{among}
use Rattle.lsm_versions.specs.Levels.{HasOwnIds}
use Rattle.lsm_versions.specs.Walked.{Walked}
use Rattle.lsm_versions.proofs.lookup.own_ids.Given as goal

abbrev pub invariant-loop-table : goal.invariant-loop-table
invariant-loop-table l = Walked (λ ts. record {
  own : HasOwnIds ts;
  seen : (i : ℕ) → among l.seen.keys i ≡ among (map (λ t. t.id) ts) i;
}) l.fn.tables l.table-iterator

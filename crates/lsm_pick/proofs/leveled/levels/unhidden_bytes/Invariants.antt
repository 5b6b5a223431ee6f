use Rattle.std.proofs.Common.{◌≡◌, ◌+◌, filter, not}
use Rattle.lsm_below.specs.Optimizes.{tables_of}
use Rattle.lsm_below.specs.Sums.{capped}
use Rattle.lsm_model.specs.Steps.{among}
use Rattle.lsm_versions.specs.Levels.{bytes_of}
use Rattle.lsm_pick.specs.Leveled.{unhidden_bytes}
use Rattle.lsm_pick.proofs.leveled.levels.unhidden_bytes.Given as goal

-- the bytes so far, and those of what is left
abbrev pub invariant-loop-table : goal.invariant-loop-table
invariant-loop-table l = record {
  fits : l.total ≡ capped l.total;
  sum : capped (l.total + bytes_of (filter (λ t. not (among l.hidden t.id)) l.table-iterator)) ≡ unhidden_bytes l.hidden (tables_of l.runs);
}

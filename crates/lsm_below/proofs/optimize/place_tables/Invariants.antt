use Rattle.std.proofs.Common.{◌≡◌, fold}
use Rattle.std.specs.List.{All}
use Rattle.lsm_below.specs.Ranges.{IsRange}
use Rattle.lsm_below.specs.Greedy.{placed}
use Rattle.lsm_below.proofs.optimize.place_tables.Given as goal

abbrev pub invariant-loop-table : goal.invariant-loop-table
invariant-loop-table g l = record {
  runs : l.runs.items ≡ fold (λ rs t. placed g.T.Ranged.range t rs) l.initial.runs.items l.yielded;
  ranges : All (λ t. IsRange (g.T.Ranged.range t)) l.yielded;
}

use Rattle.std.proofs.Common.{◌≡◌, ◌*◌, take}
use Rattle.lsm_tables.specs.Sum.{sum_of}
use Rattle.lsm_tables.proofs.checksum.two_sums.Given as goal

abbrev pub invariant-loop-pair : goal.invariant-loop-pair
invariant-loop-pair l = record {
  first : l.a ≡ sum_of (take (2 * l.pair) l.first);
  second : l.b ≡ sum_of (take (2 * l.pair) l.second);
}

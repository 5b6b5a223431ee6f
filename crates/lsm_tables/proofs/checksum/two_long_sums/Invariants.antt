use Rattle.std.proofs.Common.{◌≡◌, ◌*◌, take}
use Rattle.lsm_tables.specs.Sum.{sum_of}
use Rattle.lsm_tables.proofs.checksum.two_long_sums.Given as goal

abbrev pub invariant-loop-four : goal.invariant-loop-four
invariant-loop-four l = record {
  first : l.a ≡ sum_of (take (4 * l.four) l.first);
  second : l.b ≡ sum_of (take (4 * l.four) l.second);
}

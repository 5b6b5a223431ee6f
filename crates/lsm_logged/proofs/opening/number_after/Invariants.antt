use Rattle.std.proofs.Common.{◌≡◌, ◌+◌, ◌-◌, ◌≤◌, ◌^◌, take, slice_index}
use Rattle.lsm_logged.specs.Keeping.{AreRecordNumbers}
use Rattle.lsm_logged.proofs.opening.number_after.Given as goal

abbrev pub invariant-loop-i : goal.invariant-loop-i
invariant-loop-i l = record {
  so_far : AreRecordNumbers l.next (take l.i l.numbers);
  first : l.i ≡ 0 → l.next ≡ 0;
  behind : (l.i ≡ 0 → ⊥) → l.next ≡ slice_index l.numbers (l.i - 1) + 1;
  small : l.next ≤ 2 ^ 63;
}

use Rattle.std.proofs.Common.{◌≡◌, take, false}
use Rattle.std.specs.List.{list_any}
use Rattle.std.specs.BTreeSet.{contains}
use Rattle.std.specs.Borrow.{Bor}
use Rattle.lsm_below.specs.Keys.{Bytes, is_same}
use Rattle.lsm_model.proofs.Doubled.{keys_cmp}
use Rattle.lsm_model.specs.Ops.{repeats, keys_of}
use Rattle.lsm_model.proofs.repeats.has_repeats.Given as goal

abbrev pub invariant-loop-key : goal.invariant-loop-key
invariant-loop-key l = record {
  holds : (q : Bor Bytes) → contains keys_cmp l.seen q ≡ list_any (is_same q.now) (keys_of (take l.key-index l.ops));
  once : repeats (keys_of (take l.key-index l.ops)) ≡ false;
}

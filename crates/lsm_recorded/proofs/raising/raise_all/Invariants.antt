use Rattle.std.proofs.Common.{◌≡◌, ◌+◌, ◌≤◌, true, take, length, vec_len, vec_capacity}
use Rattle.std.specs.List.{list_all}
use Rattle.lsm_below.specs.Keys.{Bytes}
use Rattle.lsm_model.specs.Ops.{op_entries, keys_of}
use Rattle.lsm_recorded.specs.Marks.{mark_of, marked_all, op_allowed}
use Rattle.lsm_recorded.specs.Raising.{restored, AreThere}
use Rattle.lsm_recorded.proofs.RaisingLemmas.{IsApart}
use Rattle.lsm_recorded.proofs.raising.raise_all.Given as goal

abbrev pub invariant-loop-key : goal.invariant-loop-key
invariant-loop-key l = record {
  room : vec_len l.raised + length l.ops ≤ vec_capacity l.raised + l.key-index;
  allowed : list_all (op_allowed (mark_of l.initial.marks) l.floor l.number) (take l.key-index l.ops) ≡ true;
  marks : (q : Bytes) → mark_of l.marks q ≡ marked_all (op_entries l.number (take l.key-index l.ops)) (mark_of l.initial.marks) q;
  apart : (q : Bytes) → IsApart l.number (keys_of (take l.key-index l.ops)) (mark_of l.initial.marks) (mark_of l.marks) q;
  raised : (q : Bytes) → restored l.raised.items (mark_of l.marks) q ≡ mark_of l.initial.marks q;
  there : AreThere l.marks l.raised.items;
}

use Rattle.std.proofs.Common.{List, vec_len}
use Rattle.lsm_below.specs.declared.value.InternalValue.{InternalValue}
use Rattle.lsm_memtable.specs.Blocks.{joined, AreBlocks}
use Rattle.lsm_memtable.specs.Undo.{AreUndone}
use Rattle.lsm_memtable.proofs.block_list.take_all_back.Given as goal

abbrev pub invariant-loop-undo : goal.invariant-loop-undo
invariant-loop-undo l = record {
  sound : AreBlocks l.blocks.items;
  made : (before : List InternalValue) × AreUndone l.log.items before (joined l.blocks.items);
  same : (before : List InternalValue) → AreUndone l.initial.log.items before (joined l.initial.blocks.items) → AreUndone l.log.items before (joined l.blocks.items);
}

abbrev pub decreases-loop-undo : goal.decreases-loop-undo
decreases-loop-undo l = vec_len l.log

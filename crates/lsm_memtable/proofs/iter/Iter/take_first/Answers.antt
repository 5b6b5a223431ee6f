use Rattle.std.proofs.Common.{subst}
use Rattle.std.specs.List.{All}
use Rattle.std.proofs.lemmas.List.Elements.{All-tail}
use Rattle.lsm_memtable.specs.Blocks.{IsFilled}
use Rattle.lsm_memtable.specs.Parts.{blocks_of}
use Rattle.lsm_memtable.proofs.iter.Iter.take_first.Goals as goal

pub invariant_of-self-in-Some-split_first : goal.invariant_of-self-in-Some-split_first
invariant_of-self-in-Some-split_first c = All-tail IsFilled c.in-Some-split_first.block.now (blocks_of c.in-Some-split_first.middle) (subst (All IsFilled) c.in-Some-split_first.ensures c.self.invariant)

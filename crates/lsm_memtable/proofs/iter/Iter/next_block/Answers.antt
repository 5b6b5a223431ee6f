use Rattle.std.proofs.Common.{subst}
use Rattle.std.specs.List.{All}
use Rattle.std.proofs.lemmas.List.Elements.{All-tail}
use Rattle.lsm_memtable.specs.Blocks.{IsFilled}
use Rattle.lsm_memtable.specs.Parts.{blocks_of}
use Rattle.lsm_memtable.proofs.iter.Iter.next_block.Goals as goal

pub invariant_of-self-in-Some : goal.invariant_of-self-in-Some
invariant_of-self-in-Some c = All-tail IsFilled c.in-Some.block.now (blocks_of c.in-Some.middle) (subst (All IsFilled) c.in-Some.ensures c.self.invariant)

use Rattle.std.proofs.Common.{◌∙◌, sym}
use Rattle.lsm_memtable.proofs.Edges.{within_is}
use Rattle.lsm_memtable.proofs.bounds.blocks_within.Goals as goal

pub returns : goal.returns
returns c =
    c.between.ensures ∙ sym (within_is c.args.blocks.now.items c.entries_are_parted.ensures c.args.lower.now c.args.upper.now c.lower_place-from.result.block c.lower_place-from.result.at c.upper_place-to.result.block c.upper_place-to.result.at c.lower_place-from.ensures c.upper_place-to.ensures)

use Rattle.lsm_below.specs.Entries.{entry_cmp}
use Rattle.lsm_iter.proofs.Rises.{rises_take}
use Rattle.lsm_iter.proofs.trim.left_len.Goals as goal

pub newest_place-requires-clause-rises : goal.newest_place-requires-clause-rises
newest_place-requires-clause-rises c = rises_take entry_cmp c.counted_len-len.result c.args.entries.now c.requires

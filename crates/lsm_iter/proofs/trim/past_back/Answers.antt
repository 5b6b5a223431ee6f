use Rattle.std.proofs.Common.{◌-◌, length, arith, length-take-le}
use Rattle.lsm_below.specs.Entries.{entry_cmp}
use Rattle.lsm_iter.proofs.Rises.{rises_take}
use Rattle.lsm_iter.proofs.Trims.{back_past}
use Rattle.lsm_iter.proofs.trim.past_back.Goals as goal

pub left_len-requires : goal.left_len-requires
left_len-requires c = rises_take entry_cmp (length c.args.entries.now - 1) c.args.entries.now c.requires.rises

pub returns : goal.returns
returns c =
    let es = c.args.entries.now in
    let less = length es - 1 in
    let len = length-take-le less es (omega arith) in
    let past = back_past c.args.below es less c.left_len.result (omega arith) (omega (arith, len)) c.requires.rises c.requires.trimmed c.left_len.ensures.trims in
    record {
      inside = omega (arith, len);
      takes = past.0;
      trimmed = past.1;
    }

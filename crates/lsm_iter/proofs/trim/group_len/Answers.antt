use Rattle.std.proofs.Common.{◌∙◌, sym}
use Rattle.lsm_iter.proofs.Trims.{group_end}
use Rattle.lsm_iter.proofs.trim.group_len.Goals as goal

pub returns-else-has_same_key : goal.returns-else-has_same_key
returns-else-has_same_key c = record {
  some = c.loop-len.invariant.some;
  inside = c.loop-len.invariant.inside;
  cut = λ e rest is. group_end c.entries_are_ordered.ensures c.args.entries.now rest e c.index-entries-0.result c.index-entries-len.result c.loop-len.len is c.requires.rises c.loop-len.invariant.some c.loop-len-test.true c.index-entries-0.is c.index-entries-len.is
      (sym c.has_same_key.ensures ∙ c.if-has_same_key.false) c.loop-len.invariant.alike;
}

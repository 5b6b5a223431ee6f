use Rattle.std.proofs.Common.{◌≡◌, length, option_map}
use Rattle.lsm_below.specs.Slots.{all_of, compacted}
use Rattle.lsm_below.proofs.compaction_stream.next_kept.Given as goal

abbrev pub invariant-loop-entry : goal.invariant-loop-entry
invariant-loop-entry g l = compacted l.watermark l.evict (all_of (option_map g.S.Item.AsEntry.shows l.pending) (g.S.Source.rest l.source).entries) ≡ compacted l.watermark l.evict (all_of (option_map g.S.Item.AsEntry.shows l.initial.pending) (g.S.Source.rest l.initial.source).entries)

abbrev pub decreases-loop-entry : goal.decreases-loop-entry
decreases-loop-entry g l = length (all_of (option_map g.S.Item.AsEntry.shows l.pending) (g.S.Source.rest l.source).entries)

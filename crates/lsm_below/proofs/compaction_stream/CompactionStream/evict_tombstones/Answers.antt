use Rattle.std.proofs.Common.{ap, option_map}
use Rattle.lsm_below.specs.Streams.{Compacting}
use Rattle.lsm_below.specs.Slots.{all_of}
use Rattle.lsm_below.proofs.Keeping.{settled}
use Rattle.lsm_below.proofs.compaction_stream.CompactionStream.evict_tombstones.Goals as goal

pub returns-clause-kept : goal.returns-clause-kept
returns-clause-kept g c =
    settled c.args.self c.args.evict c.self.inside.over c.self.inside.watermark (all_of (option_map g.S.Item.AsEntry.shows c.self.inside.pending) (g.S.Source.rest c.self.inside.source).entries) c.requires.in_order c.requires.open
    (ap (λ (m : Compacting). m.over) c.self.view_is) (ap (λ (m : Compacting). m.watermark) c.self.view_is) (ap (λ (m : Compacting). m.input) c.self.view_is)

use Rattle.std.proofs.Common.{sym, ap, option_map, arith}
use Rattle.lsm_below.specs.Entries.{Entry}
use Rattle.lsm_below.proofs.Showing.{none_shown}
use Rattle.lsm_below.proofs.Keeping.{judge_end, judge_other, judge_below, judge_above, judge_shorter, judge_far_shorter}
use Rattle.lsm_below.proofs.compaction_stream.judge.Goals as goal

pub returns-in-None-clause-kept : goal.returns-in-None-clause-kept
returns-in-None-clause-kept g c = judge_end c.args.watermark c.args.evict (g.S.Item.AsEntry.shows c.args.entry.now) (g.S.Source.rest c.args.source.now).entries (g.S.Source.rest c.next_past.new.source).entries (option_map g.S.Item.AsEntry.shows c.in_ok-next_past.field-0) c.in_ok-next_past.ensures.past (ap (option_map g.S.Item.AsEntry.shows) c.in-None.is) (none_shown g.S.Item.AsEntry.shows _ c.in_ok-next_past.field-0 c.in_ok-next_past.ensures.end) c.drops_alone.result c.drops_alone.ensures

pub returns-then-not-has_same_key-clause-kept : goal.returns-then-not-has_same_key-clause-kept
returns-then-not-has_same_key-clause-kept g c = judge_other c.args.watermark c.args.evict (g.S.Item.AsEntry.shows c.args.entry.now) (g.S.Source.rest c.args.source.now).entries (g.S.Source.rest c.next_past.new.source).entries (option_map g.S.Item.AsEntry.shows c.in_ok-next_past.field-0) c.in_ok-next_past.ensures.past (g.S.Item.AsEntry.shows c.in-Some.below) (ap (option_map g.S.Item.AsEntry.shows) c.in-Some.is) (sym c.if-not-has_same_key.ensures) c.drops_alone-then-not-has_same_key.result c.drops_alone-then-not-has_same_key.ensures

pub returns-then-not-has_same_key-clause-shorter : goal.returns-then-not-has_same_key-clause-shorter
returns-then-not-has_same_key-clause-shorter g c = judge_shorter c.args.watermark c.args.evict (g.S.Item.AsEntry.shows c.args.entry.now) (g.S.Source.rest c.args.source.now).entries (g.S.Source.rest c.next_past.new.source).entries (option_map g.S.Item.AsEntry.shows c.in_ok-next_past.field-0) c.in_ok-next_past.ensures.past (g.S.Item.AsEntry.shows c.in-Some.below) (ap (option_map g.S.Item.AsEntry.shows) c.in-Some.is)

pub returns-in_ok-next-in-Some-clause-kept : goal.returns-in_ok-next-in-Some-clause-kept
returns-in_ok-next-in-Some-clause-kept g c = judge_below c.args.watermark c.args.evict (g.S.Item.AsEntry.shows c.args.entry.now) (g.S.Source.rest c.args.source.now).entries (g.S.Source.rest c.next_past.new.source).entries (option_map g.S.Item.AsEntry.shows c.in_ok-next_past.field-0) c.in_ok-next_past.ensures.past (g.S.Item.AsEntry.shows c.in-Some.below) (ap (option_map g.S.Item.AsEntry.shows) c.in-Some.is) (sym c.if-not-has_same_key.ensures) (omega (arith, ap (λ (e : Entry). e.key.seqno) c.as_entry.ensures)) (g.S.Source.rest c.next_past-then-as_entry-watermark.new.source).entries (option_map g.S.Item.AsEntry.shows c.in_ok-next-in-Some.next) c.in_ok-next-in-Some.ensures.past c.drops_with.result c.drops_with.ensures

pub returns-in_ok-next-in-Some-clause-shorter : goal.returns-in_ok-next-in-Some-clause-shorter
returns-in_ok-next-in-Some-clause-shorter g c = judge_far_shorter c.args.watermark c.args.evict (g.S.Item.AsEntry.shows c.args.entry.now) (g.S.Source.rest c.args.source.now).entries (g.S.Source.rest c.next_past.new.source).entries (option_map g.S.Item.AsEntry.shows c.in_ok-next_past.field-0) c.in_ok-next_past.ensures.past (g.S.Item.AsEntry.shows c.in-Some.below) (ap (option_map g.S.Item.AsEntry.shows) c.in-Some.is) (g.S.Source.rest c.next_past-then-as_entry-watermark.new.source).entries (option_map g.S.Item.AsEntry.shows c.in_ok-next-in-Some.next) c.in_ok-next-in-Some.ensures.past

pub returns-else-as_entry-watermark-clause-kept : goal.returns-else-as_entry-watermark-clause-kept
returns-else-as_entry-watermark-clause-kept g c = judge_above c.args.watermark c.args.evict (g.S.Item.AsEntry.shows c.args.entry.now) (g.S.Source.rest c.args.source.now).entries (g.S.Source.rest c.next_past.new.source).entries (option_map g.S.Item.AsEntry.shows c.in_ok-next_past.field-0) c.in_ok-next_past.ensures.past (g.S.Item.AsEntry.shows c.in-Some.below) (ap (option_map g.S.Item.AsEntry.shows) c.in-Some.is) (sym c.if-not-has_same_key.ensures) (omega (arith, ap (λ (e : Entry). e.key.seqno) c.as_entry.ensures))

pub returns-else-as_entry-watermark-clause-shorter : goal.returns-else-as_entry-watermark-clause-shorter
returns-else-as_entry-watermark-clause-shorter g c = judge_shorter c.args.watermark c.args.evict (g.S.Item.AsEntry.shows c.args.entry.now) (g.S.Source.rest c.args.source.now).entries (g.S.Source.rest c.next_past.new.source).entries (option_map g.S.Item.AsEntry.shows c.in_ok-next_past.field-0) c.in_ok-next_past.ensures.past (g.S.Item.AsEntry.shows c.in-Some.below) (ap (option_map g.S.Item.AsEntry.shows) c.in-Some.is)

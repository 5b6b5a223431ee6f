use Rattle.std.proofs.Common.{option_map}
use Rattle.lsm_below.proofs.Keeping.{first_taken}
use Rattle.lsm_below.proofs.mvcc_stream.next_first.Goals as goal

pub returns-in-Ok-clause-entry : goal.returns-in-Ok-clause-entry
returns-in-Ok-clause-entry g c =
    first_taken (option_map g.S.Item.AsEntry.shows c.args.pending.now) (option_map g.S.Item.AsEntry.shows c.in-Ok.next) (g.S.Source.rest c.args.source.now).entries (g.S.Source.rest c.take_next.new.source).entries (g.S.Source.rest c.next_past.new.source).entries (g.S.Item.AsEntry.shows c.in-Some-Ok.entry) (rw c.in-Some-Ok.field-0-is at c.in-Some-Ok.ensures.entry) c.in-Ok.ensures.past

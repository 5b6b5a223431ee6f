use Rattle.std.proofs.Common.{sym, is_ok}
use Rattle.lsm_below.proofs.Fronts.{pushed_front}
use Rattle.lsm_below.proofs.list_source.ListSource.add_front.Goals as goal

pub invariant_of-self : goal.invariant_of-self
invariant_of-self c = record {
  in_order = pushed_front c.args.entry c.args.self.now.entries.items c.push_front.new.self.items (is_ok c.push_front.result) c.args.self.now.in_order (sym c.if-not-fits_in_front.ensures) c.push_front.ensures.items;
}

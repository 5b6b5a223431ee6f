use Rattle.std.proofs.Common.{◌≡◌, ap, subst, sym, ◌∙◌}
use Rattle.std.specs.List.{All, insert}
use Rattle.lsm_memtable.specs.Blocks.{joined, IsFilled}
use Rattle.lsm_memtable.proofs.Joined.{begun, filled_begun}
use Rattle.lsm_memtable.proofs.block_list.begin_block.Goals as goal

pub returns : goal.returns
returns c =
    let bs = c.args.blocks.now.items in
    let new = c.in_ok-new.new in
    let items : c.insert.new.self.items ≡ insert bs c.args.block new = rw c.unwrap.ensures at c.insert.ensures.items ∙ ap (λ l. insert l c.args.block new) c.reserve.ensures.items in
    record {
      ok = ap joined items ∙ begun bs c.args.block new c.args.entry c.in_ok-new.ensures;
      err = tt;
      filled = subst (λ l. All IsFilled l) (sym items) (filled_begun bs c.args.block new c.args.entry c.in_ok-new.ensures c.requires.filled);
    }

use Rattle.std.proofs.Common.{[], length, subst, sym, ap, ◌∙◌, ◌-◌, true, arith}
use Rattle.lsm_below.specs.Entries.{entry_cmp}
use Rattle.lsm_below.specs.Sorted.{Rises}
use Rattle.lsm_memtable.proofs.Places.{read_block, at_last, placed_end, placed_read, filled_read}
use Rattle.lsm_memtable.proofs.Joined.{rises_block}
use Rattle.lsm_memtable.proofs.block_list.find.Goals as goal

pub place-at-requires-clause-rises : goal.place-at-requires-clause-rises
place-at-requires-clause-rises c =
    let f = c.block_for-block in
    subst (λ x. Rises entry_cmp x) (sym (read_block c.args.blocks.now.items f.result c.index.result.now f.ensures.bound c.index.ensures)) (rises_block entry_cmp c.args.blocks.now.items f.result [] f.ensures.bound c.requires.blocks.rises)

pub returns-then-is_last_ahead-clause-place : goal.returns-then-is_last_ahead-clause-place
returns-then-is_last_ahead-clause-place c =
    let bs = c.args.blocks.now.items in
    let b = c.len-end.result - 1 in
    let last = c.index-last.result.now in
    let ahead = at_last bs b last (omega arith) c.index-last.ensures c.args.key.now c.args.number c.is_last_ahead.result true c.is_last_ahead.ensures.is c.if-is_last_ahead.true in
    placed_end c.entries_are_parted.ensures bs c.requires.blocks c.args.key.now c.args.number b c.len.result (omega arith) (omega arith) (c.len.ensures ∙ ap (λ x. length x) (read_block bs b last (omega arith) c.index-last.ensures)) ahead

pub returns-clause-place : goal.returns-clause-place
returns-clause-place c =
    let f = c.block_for-block in
    let p = c.place-at.ensures in
    placed_read c.args.blocks.now.items f.result c.index.result.now f.ensures.bound c.index.ensures c.entries_are_parted.ensures c.requires.blocks c.args.key.now c.args.number c.place-at.result f.ensures.before f.ensures.edge (omega (arith, p.bound)) p.before p.behind

pub returns-clause-compared : goal.returns-clause-compared
returns-clause-compared c = λ d h.
    let f = c.block_for-block in
    let filled = filled_read c.args.blocks.now.items f.result c.index.result.now f.ensures.bound c.index.ensures c.requires.blocks in
    omega (arith, f.ensures.compared d h, c.place-at.ensures.compared 6 (omega (arith, filled.1)))

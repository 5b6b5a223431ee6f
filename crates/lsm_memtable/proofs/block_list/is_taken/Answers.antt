use Rattle.std.proofs.Common.{◌≡◌, ◌<◌, length, true, false, subst, sym, ap, ◌∙◌, arith}
use Rattle.std.specs.Ordering.{is_eq}
use Rattle.lsm_below.specs.Entries.{key_cmp}
use Rattle.lsm_memtable.proofs.Places.{read_block, spot_read}
use Rattle.lsm_memtable.proofs.block_list.is_taken.Goals as goal

pub returns-clause-same : goal.returns-clause-same
returns-clause-same c = λ d t.
    let bs = c.args.blocks.now.items in
    let b = c.args.place.block in
    let block = c.index-block.result.now in
    let same = ap (λ x. length x) (read_block bs b block c.requires.block_in c.index-block.ensures) in
    let within : c.args.place.at < length block = grind (arith, c.requires.at_in) in
    subst (λ x. is_eq (key_cmp x.key c.args.key.now) ≡ true) (sym (spot_read bs b block c.requires.block_in c.index-block.ensures c.args.place.at d within)) (sym (c.is_same.ensures d) ∙ t)

pub returns-clause-other : goal.returns-clause-other
returns-clause-other c = λ d t _.
    let bs = c.args.blocks.now.items in
    let b = c.args.place.block in
    let block = c.index-block.result.now in
    let same = ap (λ x. length x) (read_block bs b block c.requires.block_in c.index-block.ensures) in
    let within : c.args.place.at < length block = grind (arith, c.requires.at_in) in
    subst (λ x. is_eq (key_cmp x.key c.args.key.now) ≡ false) (sym (spot_read bs b block c.requires.block_in c.index-block.ensures c.args.place.at d within)) (sym (c.is_same.ensures d) ∙ t)

use Rattle.std.proofs.Common.{◌+◌, length, ap, subst, sym, ◌∙◌, refl}
use Rattle.lsm_memtable.specs.Inserts.{Inserts}
use Rattle.lsm_memtable.proofs.Places.{read_block}
use Rattle.lsm_memtable.proofs.Joined.{next_start}
use Rattle.lsm_memtable.proofs.block_list.insert_at.Goals as goal

pub returns-then-place-len-clause-inserts : goal.returns-then-place-len-clause-inserts
returns-then-place-len-clause-inserts c =
    let bs = c.args.blocks.now.items in
    let b = c.args.place.block in
    let len = c.if-place-len.true ∙ (c.len-len.ensures ∙ ap (λ l. length l) (read_block bs b c.index.result.now c.requires.place.0 c.index.ensures)) in
    let same = next_start bs b (b + 1) c.args.place.at c.requires.place.0 refl len in
    subst (λ n. Inserts c.begin_block.result bs c.begin_block.new.blocks.items n c.args.entry) (sym same) c.begin_block.ensures

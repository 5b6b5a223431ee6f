use Rattle.std.proofs.Common.{◌<◌, ◌-◌, length, ap, subst, ◌∙◌, arith}
use Rattle.lsm_memtable.specs.Inserts.{Inserts}
use Rattle.lsm_memtable.proofs.Places.{read_block}
use Rattle.lsm_memtable.proofs.Joined.{next_start}
use Rattle.lsm_memtable.proofs.block_list.insert_before.Goals as goal

pub returns-then-at-lt-MOST-clause-inserts : goal.returns-then-at-lt-MOST-clause-inserts
returns-then-at-lt-MOST-clause-inserts c =
    let bs = c.args.blocks.now.items in
    let b = c.args.block - 1 in
    let lt : b < length bs = omega (arith, c.if-block-gt0.true, c.requires.block) in
    let len = c.len-at.ensures ∙ ap (λ l. length l) (read_block bs b c.index.result.now lt c.index.ensures) in
    let same = next_start bs b c.args.block c.len-at.result lt (omega (arith, c.if-block-gt0.true)) len in
    subst (λ n. Inserts c.insert_in.result bs c.insert_in.new.blocks.items n c.args.entry) same c.insert_in.ensures.inserts

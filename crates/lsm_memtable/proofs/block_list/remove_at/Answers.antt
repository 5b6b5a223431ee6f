use Rattle.std.proofs.Common.{[], ◌≡◌, set, get_or, length, ap, ◌∙◌, arith}
use Rattle.std.specs.List.{remove}
use Rattle.lsm_memtable.specs.Blocks.{joined}
use Rattle.lsm_memtable.proofs.Places.{read_block}
use Rattle.lsm_memtable.proofs.Joined.{removed, emptied}
use Rattle.lsm_memtable.proofs.block_list.remove_at.Goals as goal

pub returns-then-len-eq1-clause-entries : goal.returns-then-len-eq1-clause-entries
returns-then-len-eq1-clause-entries c =
    let bs = c.args.blocks.now.items in
    let b = c.args.place.block in
    let len = ap (λ l. length l) (read_block bs b c.index.result.now c.requires.block c.index.ensures) in
    let one : length (get_or bs b []) ≡ 1 = omega (arith, len, c.len.ensures, c.if-len-eq1.true) in
    let items = rw c.unwrap.ensures at c.remove.ensures.items in
    ap joined items ∙ emptied bs b c.args.place.at [] c.requires.block one c.requires.at

pub returns-clause-entries : goal.returns-clause-entries
returns-clause-entries c =
    let bs = c.args.blocks.now.items in
    let b = c.args.place.block in
    let made = c.remove-2.ensures ∙ ap (λ x. remove x c.args.place.at) (read_block bs b c.index_mut.result.now c.requires.block c.index_mut.ensures.value) in
    ap (λ x. joined (set bs b x)) made ∙ removed bs b c.args.place.at [] c.requires.block c.requires.at

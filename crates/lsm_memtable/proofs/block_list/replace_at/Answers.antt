use Rattle.std.proofs.Common.{[], ◌<◌, length, set, sym, ap, ◌∙◌, arith}
use Rattle.lsm_memtable.specs.Blocks.{joined}
use Rattle.lsm_memtable.proofs.Places.{read_block, spot_read}
use Rattle.lsm_memtable.proofs.Joined.{replaced}
use Rattle.lsm_memtable.proofs.block_list.replace_at.Goals as goal

pub returns-clause-entries : goal.returns-clause-entries
returns-clause-entries c =
    let bs = c.args.blocks.now.items in
    let b = c.args.place.block in
    let made = c.replace.ensures.entries ∙ ap (λ x. set x c.args.place.at c.args.entry) (read_block bs b c.index_mut.result.now c.requires.block c.index_mut.ensures.value) in
    ap (λ x. joined (set bs b x)) made ∙ replaced bs b c.args.place.at [] c.args.entry c.requires.block c.requires.at

pub returns-clause-replaced : goal.returns-clause-replaced
returns-clause-replaced c =
    let bs = c.args.blocks.now.items in
    let b = c.args.place.block in
    let block = c.index_mut.result.now in
    let len = ap (λ l. length l) (read_block bs b block c.requires.block c.index_mut.ensures.value) in
    let within : c.args.place.at < length block = omega (arith, len, c.requires.at) in
    c.replace.ensures.replaced ∙ sym (spot_read bs b block c.requires.block c.index_mut.ensures.value c.args.place.at c.replace.result within)

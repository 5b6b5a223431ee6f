use Rattle.std.proofs.Common.{[], set, subst, sym, ap, ◌∙◌}
use Rattle.std.specs.List.{All, insert}
use Rattle.lsm_memtable.specs.Blocks.{joined, IsFilled}
use Rattle.lsm_memtable.proofs.Places.{read_block}
use Rattle.lsm_memtable.proofs.Joined.{inserted, filled_inserted}
use Rattle.lsm_memtable.proofs.block_list.insert_in.Goals as goal

pub returns-clause-inserts : goal.returns-clause-inserts
returns-clause-inserts c =
    let bs = c.args.blocks.now.items in
    let b = c.args.place.block in
    let made = c.in_ok-insert.ensures.ok ∙ ap (λ x. insert x c.args.place.at c.args.entry) (read_block bs b c.index_mut.result.now c.requires.place.0 c.index_mut.ensures.value) in
    record {
      ok = ap (λ x. joined (set bs b x)) made ∙ inserted bs b c.args.place.at [] c.args.entry c.requires.place.0 c.requires.place.1;
      err = tt;
      filled = subst (λ x. All IsFilled (set bs b x)) (sym made) (filled_inserted bs b c.args.place.at c.args.entry c.requires.place.1 c.requires.few c.requires.filled);
    }

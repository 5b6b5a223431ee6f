use Rattle.std.proofs.Common.{[], ◌≡◌, ℕ, suc, ◌+◌, ◌<◌, ◌≤◌, List, ◌++◌, get_or, length, length-append, set, subst, sym, ap, ◌∙◌, arith, add-one}
use Rattle.std.specs.List.{All, insert}
use Rattle.std.proofs.lemmas.List.Edits.{length-insert}
use Rattle.lsm_below.specs.Entries.{Entry}
use Rattle.lsm_memtable.specs.Blocks.{joined, spot, IsFilled}
use Rattle.lsm_memtable.proofs.Places.{read_block}
use Rattle.lsm_memtable.proofs.Joined.{inserted, cut, filled_cut}
use Rattle.lsm_memtable.proofs.block_list.split_in.Goals as goal

-- a block that was split, with an entry more, into two that stand in its place
module _ (bs : List (List Entry)) (b i : ℕ) (e : Entry) (lower upper block : List Entry) (block_in : b < length bs) (at_in : i ≤ length (get_or bs b [])) (kept : List (List Entry)) (same : kept ≡ bs) (read : block ≡ get_or kept b block) (new : List (List Entry)) (items : new ≡ insert (set kept b lower) (b + 1) upper) (dealt : lower ++ upper ≡ insert block i e) where
  placed : new ≡ insert (set bs b lower) (suc b) upper
  placed = items ∙ (ap (λ l. insert (set l b lower) (b + 1) upper) same ∙ ap (λ k. insert (set bs b lower) k upper) (add-one b))

  there : block ≡ get_or bs b []
  there = read_block bs b block block_in (read ∙ ap (λ l. get_or l b block) same)

  inserts : joined new ≡ insert (joined bs) (spot bs b i) e
  inserts = ap joined placed ∙ (cut bs b lower upper block_in ∙ (ap (λ x. joined (set bs b x)) (dealt ∙ ap (λ x. insert x i e) there) ∙ inserted bs b i [] e block_in at_in))

  filled : length (get_or bs b []) ≡ 64 → length lower ≡ 32 → All IsFilled bs → All IsFilled new
  filled full low all =
      let len = ap (λ l. length l) there in
      let more = length-insert block i e (omega (arith, len, at_in)) in
      let up : length upper ≡ 33 = omega (arith, low, ap (λ l. length l) dealt, len, length-append lower upper, more, full) in
      subst (λ l. All IsFilled l) (sym placed) (filled_cut bs b lower upper block_in (omega (arith, low), omega (arith, low)) (omega (arith, up), omega (arith, up)) all)

pub returns-clause-inserts : goal.returns-clause-inserts
returns-clause-inserts c =
    let bs = c.args.blocks.now.items in
    let upper = c.in_ok-upper.upper in
    let dealt = c.in_ok-upper.ensures.ok in
    let items = rw c.unwrap.ensures at c.insert.ensures.items in
    record {
      ok = inserts bs c.args.place.block c.args.place.at c.args.entry c.split.new.self upper c.index_mut.result.now c.requires.place.0 c.requires.place.1 _ c.reserve.ensures.items c.index_mut.ensures.value c.insert.new.self.items items dealt.0;
      err = tt;
      filled = filled bs c.args.place.block c.args.place.at c.args.entry c.split.new.self upper c.index_mut.result.now c.requires.place.0 c.requires.place.1 _ c.reserve.ensures.items c.index_mut.ensures.value c.insert.new.self.items items dealt.0 c.requires.full dealt.1 c.requires.filled;
    }

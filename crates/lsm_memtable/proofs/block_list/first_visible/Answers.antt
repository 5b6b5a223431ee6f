use Rattle.std.proofs.Common.{◌≡◌, ◌≢◌, ℕ, ◌<◌, Bool, true, false, List, [], Some, None, length, get_or, sym, ◌∙◌, arith, ap}
use Rattle.std.specs.Cmp.Lexicographic.{slice_cmp}
use Rattle.std.specs.Ordering.{nat_cmp, is_eq}
use Rattle.lsm_below.specs.Laws.{EntriesAreParted}
use Rattle.lsm_below.specs.Lookups.{is_visible}
use Rattle.lsm_below.specs.Sorted.{Rises, first}
use Rattle.lsm_below.specs.Entries.{entry_cmp}
use Rattle.lsm_below.specs.declared.value.InternalValue.{InternalValue}
use Rattle.lsm_memtable.specs.Blocks.{joined, spot, IsPlace}
use Rattle.lsm_memtable.proofs.Places.{read_block, spot_read, spot_within}
use Rattle.lsm_memtable.proofs.block_list.first_visible.Goals as goal

-- the place that was found for a key, and the block that was read there
module _ (parted : EntriesAreParted) (bs : List (List InternalValue)) (key : List ℕ) (s b i : ℕ) (rises : Rises entry_cmp (joined bs)) (place : IsPlace bs key s b i) (block : List InternalValue) (read : block ≡ get_or bs b block) where
  size : length block ≡ length (get_or bs b [])
  size = ap (λ x. length x) (read_block bs b block place.block_in read)

  at_end : i ≡ length block → first (is_visible key s) (joined bs) ≡ None
  at_end full =
      let past = place.edge (full ∙ size) in
      parted.past_end (joined bs) key s (spot bs b i) rises (record { before = place.before; behind = place.behind }) (omega (arith, past))

  -- the entry there, and whether it was told to have the key
  module _ (e : InternalValue) (is : e ≡ get_or block i e) (apart : i ≢ length block) (told : Bool) (has : (d : InternalValue) → told ≡ is_eq (slice_cmp nat_cmp (get_or block i d).key.user_key key)) where
    inside : i < length block
    inside = let at_in = place.at_in in let same = size in grind (arith, at_in, same, apart)

    there : e ≡ get_or (joined bs) (spot bs b i) e
    there = is ∙ sym (spot_read bs b block place.block_in read i e inside)

    same_key : (answer : Bool) → told ≡ answer → is_eq (slice_cmp nat_cmp e.key.user_key key) ≡ answer
    same_key answer is_told = ap (λ (x : InternalValue). is_eq (slice_cmp nat_cmp x.key.user_key key)) is ∙ (sym (has e) ∙ is_told)

    is_found : told ≡ true → first (is_visible key s) (joined bs) ≡ Some e
    is_found h = parted.found (joined bs) key s (spot bs b i) e rises (record { before = place.before; behind = place.behind }) (spot_within bs b block place.block_in read i inside) there (same_key true h)

    is_other : told ≡ false → first (is_visible key s) (joined bs) ≡ None
    is_other h = parted.other (joined bs) key s (spot bs b i) e rises (record { before = place.before; behind = place.behind }) (spot_within bs b block place.block_in read i inside) there (same_key false h)

pub returns-then-place-len-clause-found : goal.returns-then-place-len-clause-found
returns-then-place-len-clause-found c = sym (at_end c.entries_are_parted.ensures c.args.blocks.now.items c.args.key.now c.args.snapshot c.find-place.result.block c.find-place.result.at c.requires.rises c.find-place.ensures.place c.index-block.result.now c.index-block.ensures (c.if-place-len.true ∙ c.len.ensures))

pub returns-then-has_key-clause-found : goal.returns-then-has_key-clause-found
returns-then-has_key-clause-found c =
    sym (is_found c.entries_are_parted.ensures c.args.blocks.now.items c.args.key.now c.args.snapshot c.find-place.result.block c.find-place.result.at c.requires.rises c.find-place.ensures.place c.index-block.result.now c.index-block.ensures c.at-entry.result.now c.at-entry.ensures (λ full. c.if-place-len.false (full ∙ sym c.len.ensures)) c.has_key.result c.has_key.ensures c.if-has_key.true)

pub returns-else-has_key-clause-found : goal.returns-else-has_key-clause-found
returns-else-has_key-clause-found c =
    sym (is_other c.entries_are_parted.ensures c.args.blocks.now.items c.args.key.now c.args.snapshot c.find-place.result.block c.find-place.result.at c.requires.rises c.find-place.ensures.place c.index-block.result.now c.index-block.ensures c.at-entry.result.now c.at-entry.ensures (λ full. c.if-place-len.false (full ∙ sym c.len.ensures)) c.has_key.result c.has_key.ensures c.if-has_key.false)

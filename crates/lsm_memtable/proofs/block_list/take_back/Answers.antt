use Rattle.std.proofs.Common.{◌≡◌, ℕ, ◌+◌, ◌<◌, ◌^◌, List, [], Some, None, length, get_or, set, ◌∙◌, subst, sym}
use Rattle.std.specs.List.{All, remove}
use Rattle.lsm_below.specs.Entries.{Entry, entry_cmp}
use Rattle.lsm_below.specs.Laws.{EntriesAreOrdered}
use Rattle.lsm_below.specs.Sorted.{Rises}
use Rattle.lsm_memtable.specs.Blocks.{joined, spot, AreBlocks, AreEntries, IsFilled, IsPlace}
use Rattle.lsm_memtable.specs.Undo.{Undoes}
use Rattle.lsm_memtable.specs.declared.block_list.Undo.{Undo}
use Rattle.lsm_memtable.proofs.Undone.{some_blocks, found_inside, back_replaced, back_removed}
use Rattle.lsm_memtable.proofs.block_list.take_back.Goals as goal

-- the place that was found of a put
module _ (ordered : EntriesAreOrdered) (bs : List (List Entry)) (sound : AreBlocks bs) (u : Undo) (before : List Entry) (made : Undoes u before (joined bs)) (key : List ℕ) (b i : ℕ) (is : key ≡ u.key.user_key) (found : IsPlace bs key (u.key.seqno + 1) b i) where
  place : IsPlace bs u.key.user_key (u.key.seqno + 1) b i
  place = subst (λ k. IsPlace bs k (u.key.seqno + 1) b i) is found

  inside : i < length (get_or bs b [])
  inside = found_inside ordered bs sound u before made b i place

  replaced : (o : Entry) → u.replaced ≡ Some o → set (joined bs) (spot bs b i) o ≡ before
  replaced o some = back_replaced ordered bs sound u before made b i place o some

  removed : u.replaced ≡ None → remove (joined bs) (spot bs b i) ≡ before
  removed none = back_removed ordered bs sound u before made b i place none

sound_before : (before : List Entry) (new : List (List Entry)) → joined new ≡ before → AreEntries before → All IsFilled new → AreBlocks new
sound_before before new same are filled = record {
  rises = subst (Rises entry_cmp) (sym same) are.rises;
  filled = filled;
  numbers = subst (λ l. All (λ e. e.key.seqno < 2 ^ 64) l) (sym same) are.numbers;
}

pub find-place-requires-clause-some : goal.find-place-requires-clause-some
find-place-requires-clause-some c = some_blocks c.entries_are_ordered.ensures c.args.blocks.now.items c.requires.sound c.args.undo c.requires.made.0 c.requires.made.1

pub replace_at-requires-clause-at : goal.replace_at-requires-clause-at
replace_at-requires-clause-at c = inside c.entries_are_ordered.ensures c.args.blocks.now.items c.requires.sound c.args.undo c.requires.made.0 c.requires.made.1 c.as_slice.result.now c.find-place.result.block c.find-place.result.at c.as_slice.ensures c.find-place.ensures.place

pub remove_at-requires-clause-at : goal.remove_at-requires-clause-at
remove_at-requires-clause-at c = inside c.entries_are_ordered.ensures c.args.blocks.now.items c.requires.sound c.args.undo c.requires.made.0 c.requires.made.1 c.as_slice.result.now c.find-place.result.block c.find-place.result.at c.as_slice.ensures c.find-place.ensures.place

pub returns-in-Some-clause-same : goal.returns-in-Some-clause-same
returns-in-Some-clause-same c before made = c.replace_at.ensures.entries ∙ replaced c.entries_are_ordered.ensures c.args.blocks.now.items c.requires.sound c.args.undo before made c.as_slice.result.now c.find-place.result.block c.find-place.result.at c.as_slice.ensures c.find-place.ensures.place c.in-Some.entry c.in-Some.is

pub returns-in-Some-clause-sound : goal.returns-in-Some-clause-sound
returns-in-Some-clause-sound c = sound_before c.requires.made.0 _ (returns-in-Some-clause-same c c.requires.made.0 c.requires.made.1) c.requires.made.1.sound c.replace_at.ensures.filled

pub returns-clause-same : goal.returns-clause-same
returns-clause-same c before made = c.remove_at.ensures.entries ∙ removed c.entries_are_ordered.ensures c.args.blocks.now.items c.requires.sound c.args.undo before made c.as_slice.result.now c.find-place.result.block c.find-place.result.at c.as_slice.ensures c.find-place.ensures.place c.in-None.is

pub returns-clause-sound : goal.returns-clause-sound
returns-clause-sound c = sound_before c.requires.made.0 _ (returns-clause-same c c.requires.made.0 c.requires.made.1) c.requires.made.1.sound c.remove_at.ensures.filled

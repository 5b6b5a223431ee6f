use Rattle.std.proofs.Common.{◌≡◌, ℕ, ◌+◌, ◌<◌, ◌≤◌, ◌^◌, true, false, List, [], length, get_or, set, Option, Some, None, MatchOption, refl, sym, ◌∙◌, arith, subst}
use Rattle.std.specs.List.{All, insert}
use Rattle.std.specs.Ordering.{is_eq}
use Rattle.lsm_below.specs.Entries.{Entry, entry_cmp}
use Rattle.lsm_below.specs.Laws.{EntriesAreOrdered}
use Rattle.lsm_below.specs.Sorted.{Rises, put}
use Rattle.lsm_memtable.specs.Blocks.{joined, spot, AreBlocks, IsFilled, IsPlace}
use Rattle.lsm_memtable.specs.Undo.{Undoes, undo_of}
use Rattle.lsm_memtable.proofs.Sorted.{rises_put, all_put}
use Rattle.lsm_memtable.proofs.Places.{put_over, put_between}
use Rattle.lsm_memtable.proofs.Joined.{block_within}
use Rattle.lsm_memtable.proofs.block_list.put_entry.Goals as goal

-- the place that was found for an entry
module _ (ordered : EntriesAreOrdered) (bs : List (List Entry)) (sound : AreBlocks bs) (e : Entry) (key : List ℕ) (b i : ℕ) (is : key ≡ e.key.user_key) (found : IsPlace bs key (e.key.seqno + 1) b i) where
  place : IsPlace bs e.key.user_key (e.key.seqno + 1) b i
  place = subst (λ k. IsPlace bs k (e.key.seqno + 1) b i) is found

  within : spot bs b i ≤ length (joined bs)
  within = let at_in = place.at_in in let total = block_within bs b [] place.block_in in omega arith

  inside : i < length (get_or bs b []) → spot bs b i < length (joined bs)
  inside lt = let total = block_within bs b [] place.block_in in omega arith

  -- over the entry there
  over : i < length (get_or bs b []) → is_eq (entry_cmp (get_or (joined bs) (spot bs b i) e) e) ≡ true → put entry_cmp e (joined bs) ≡ set (joined bs) (spot bs b i) e
  over lt same = put_over ordered (joined bs) sound.rises e (spot bs b i) place.before place.behind e (inside lt) same

  -- between two
  between : (spot bs b i < length (joined bs) → (d : Entry) → is_eq (entry_cmp (get_or (joined bs) (spot bs b i) d) e) ≡ false) → put entry_cmp e (joined bs) ≡ insert (joined bs) (spot bs b i) e
  between other = put_between ordered (joined bs) sound.rises e (spot bs b i) place.before place.behind within other

  undoes : (replaced : Option Entry) (after : List Entry) → MatchOption replaced (after ≡ insert (joined bs) (spot bs b i) e) (λ o. (spot bs b i < length (joined bs)) × (o ≡ get_or (joined bs) (spot bs b i) o) × (after ≡ set (joined bs) (spot bs b i) e))
      → Undoes (undo_of e.key replaced) (joined bs) after
  undoes replaced after made = record {
    sound = record { rises = sound.rises; numbers = sound.numbers };
    entry = e;
    key = refl;
    at = spot bs b i;
    within = within;
    made = made;
  }

-- what is put is sound
sound_put : (ordered : EntriesAreOrdered) → (bs new : List (List Entry)) (e : Entry) → AreBlocks bs → joined new ≡ put entry_cmp e (joined bs) → All IsFilled new → e.key.seqno < 2 ^ 64 → AreBlocks new
sound_put ordered bs new e sound is filled fits = record {
  rises = subst (λ l. Rises entry_cmp l) (sym is) (rises_put ordered.total e (joined bs) sound.rises);
  filled = filled;
  numbers = subst (λ l. All (λ x. x.key.seqno < 2 ^ 64) l) (sym is) (all_put ordered.total (λ x. x.key.seqno < 2 ^ 64) e (joined bs) fits sound.numbers);
}

pub returns-then-is_taken-clause-ok : goal.returns-then-is_taken-clause-ok
returns-then-is_taken-clause-ok c =
    c.replace_at.ensures.entries
    ∙ sym (over c.entries_are_ordered.ensures c.args.blocks.now.items c.requires c.args.entry c.as_slice.result.now c.find-place.result.block c.find-place.result.at c.as_slice.ensures c.find-place.ensures.place (c.is_taken.ensures.inside c.if-is_taken.true) (c.is_taken.ensures.same c.args.entry c.if-is_taken.true))

pub returns-then-is_taken-clause-undo : goal.returns-then-is_taken-clause-undo
returns-then-is_taken-clause-undo c =
    let at_there = inside c.entries_are_ordered.ensures c.args.blocks.now.items c.requires c.args.entry c.as_slice.result.now c.find-place.result.block c.find-place.result.at c.as_slice.ensures c.find-place.ensures.place (c.is_taken.ensures.inside c.if-is_taken.true) in
    undoes c.entries_are_ordered.ensures c.args.blocks.now.items c.requires c.args.entry c.as_slice.result.now c.find-place.result.block c.find-place.result.at c.as_slice.ensures c.find-place.ensures.place (Some c.replace_at.result) _ (at_there, c.replace_at.ensures.replaced, c.replace_at.ensures.entries)

pub returns-then-is_taken-clause-sound : goal.returns-then-is_taken-clause-sound
returns-then-is_taken-clause-sound c = sound_put c.entries_are_ordered.ensures c.args.blocks.now.items _ c.args.entry c.requires (returns-then-is_taken-clause-ok c) c.replace_at.ensures.filled (omega arith)

pub returns-clause-ok : goal.returns-clause-ok
returns-clause-ok c =
    c.in_ok-insert_at.ensures.inserts.ok
    ∙ sym (between c.entries_are_ordered.ensures c.args.blocks.now.items c.requires c.args.entry c.as_slice.result.now c.find-place.result.block c.find-place.result.at c.as_slice.ensures c.find-place.ensures.place (λ lt d. c.is_taken.ensures.other d c.if-is_taken.false lt))

pub returns-clause-undo : goal.returns-clause-undo
returns-clause-undo c = undoes c.entries_are_ordered.ensures c.args.blocks.now.items c.requires c.args.entry c.as_slice.result.now c.find-place.result.block c.find-place.result.at c.as_slice.ensures c.find-place.ensures.place None _ c.in_ok-insert_at.ensures.inserts.ok

pub returns-clause-sound : goal.returns-clause-sound
returns-clause-sound c = sound_put c.entries_are_ordered.ensures c.args.blocks.now.items _ c.args.entry c.requires (returns-clause-ok c) c.in_ok-insert_at.ensures.inserts.filled (omega arith)

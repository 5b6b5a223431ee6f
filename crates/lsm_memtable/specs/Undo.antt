-- What takes puts back.
use Rattle.std.specs.Prelude.{◌≡◌, ℕ, ◌<◌, ◌≤◌, List, [], ◌∷◌, length, Option, MatchOption, slice_index_or, slice_set}
use Rattle.std.specs.List.{insert}
use Rattle.lsm_below.specs.Entries.{Entry}
use Rattle.lsm_below.specs.declared.key.InternalKey.{InternalKey}
use Rattle.lsm_memtable.specs.declared.block_list.Undo.{Undo}
use Rattle.lsm_memtable.specs.Blocks.{AreEntries}

-- what takes back a put under a key that replaced this entry, or none
abbrev pub undo_of : InternalKey → Option Entry → Undo
undo_of key replaced = record { key = key; replaced = replaced }

-- entries were put under the key into a list: over the entry that was replaced, or between two
pub record Undoes (u : Undo) (before after : List Entry) : Type 0 where
  pub sound : AreEntries before
  pub entry : Entry
  pub key : entry.key ≡ u.key
  pub at : ℕ
  pub within : at ≤ length before
  pub made : MatchOption u.replaced (after ≡ insert before at entry) (λ o. (at < length before) × (o ≡ slice_index_or before at o) × (after ≡ slice_set before at entry))

-- puts in turn lead from the one list to the other
abbrev pub AreUndone : List Undo → List Entry → List Entry → Type 0
AreUndone [] before after = after ≡ before
AreUndone (u ∷ us) before after = (next : List Entry) × Undoes u before next × AreUndone us next after

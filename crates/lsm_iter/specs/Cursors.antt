-- What a cursor's fields stand for, and what it gives.
use Rattle.std.specs.Prelude.{ℕ, Bool, false, List, length, Option, Some, None}
use Rattle.lsm_below.specs.Entries.{Entry}
use Rattle.lsm_below.specs.Slots.{firsts, changes, same_key}
use Rattle.lsm_iter.specs.declared.cursor.Held.{Held}
use Rattle.lsm_iter.specs.declared.cursor.Held.TheVariants.{Copied, Shared}

-- the entries that are left
abbrev pub left_in : Held → List Entry
left_in (Copied list) = list
left_in (Shared tables) = tables

-- how many of them the cursor owns
abbrev pub owned_in : Held → ℕ
owned_in (Copied list) = length list
owned_in (Shared tables) = 0

-- the newest of each key, where the last one before these is known
abbrev pub firsts_after : Option Entry → List Entry → List Entry
firsts_after None es = firsts es
firsts_after (Some e) es = changes e es

-- is the entry of the same key as the last one?
abbrev pub repeats : Option Entry → Entry → Bool
repeats None e = false
repeats (Some l) e = same_key l e

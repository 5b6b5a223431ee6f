-- Cursors for sources, one after the other.
use Rattle.std.specs.Prelude.{◌≡◌, ℕ, ◌+◌, Bool, cond, List, ◌++◌, length}
use Rattle.std.specs.List.{All}
use Rattle.std.specs.declared.ops.Bound.{Bound}
use Rattle.lsm_below.specs.Keys.{Bytes}
use Rattle.lsm_below.specs.Entries.{entry_cmp, HasBytes}
use Rattle.lsm_below.specs.Sorted.{Rises}
use Rattle.lsm_below.specs.Lookups.{within}
use Rattle.lsm_iter.specs.Reads.{Part}
use Rattle.lsm_iter.specs.Left.{SeenCursor, copies, left_of, held_in}

-- how many entries are copied of these parts
abbrev pub number_copied : Bound Bytes → Bound Bytes → List Part → ℕ
number_copied low high parts = length (copies low high parts)

-- how many entries readers own of these parts: all that are copied, where they copy
abbrev pub owned_of : Bool → Bound Bytes → Bound Bytes → List Part → ℕ
owned_of copy low high parts = cond copy (number_copied low high parts) 0

-- cursors of what lies of these parts within bounds came after those that were there, and own so many entries
pub record AddsCursors (low high : Bound Bytes) (parts : List Part) (owned : ℕ) (old new : List SeenCursor) : Type 0 where
  pub left : left_of new ≡ left_of old ++ copies low high parts
  pub held : held_in new ≡ held_in old + owned
  pub rise : All (λ part. Rises entry_cmp (within low high part.entries)) parts

-- the same, and the keys of what is left hold bytes
pub record PutsCursors (low high : Bound Bytes) (parts : List Part) (owned : ℕ) (old new : List SeenCursor) : Type 0 where
  pub adds : AddsCursors low high parts owned old new
  pub bytes : All HasBytes (left_of old) → All HasBytes (left_of new)

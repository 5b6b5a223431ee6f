-- The outermost key of cursors.
use Rattle.std.specs.Prelude.{◌≡◌, ℕ, ◌<◌, ◌≤◌, cond, List, [], length, slice_index_or, Option, Some, None, nat_lt}
use Rattle.std.specs.List.{All}
use Rattle.std.specs.declared.cmp.Ordering.{Ordering}
use Rattle.std.specs.declared.cmp.Ordering.TheVariants.{Less}
use Rattle.lsm_below.specs.Keys.{Bytes, bytes_cmp}
use Rattle.lsm_below.specs.Entries.{Entry}
use Rattle.lsm_below.specs.Sorted.{by_ordering}
use Rattle.lsm_iter.specs.Left.{SeenCursor, end_item, left_of, held_in, shown_list}
use Rattle.lsm_iter.specs.declared.tree_iter.End.{End}
use Rattle.lsm_iter.specs.declared.tree_iter.End.TheVariants.{Front, Back}
use Rattle.lsm_iter.specs.declared.outermost.Standing.{Standing}
use Rattle.lsm_iter.specs.declared.outermost.Standing.TheVariants.{Outside, Newer, Older, Inside}

-- Less: the first key stands nearer to this end than the second one
abbrev pub end_cmp : End → Bytes → Bytes → Ordering
end_cmp Front a b = bytes_cmp a b
end_cmp Back a b = bytes_cmp b a

-- all of these keys stand farther from this end
abbrev pub AllInside : End → Bytes → List Entry → Type 0
AllInside end k es = All (λ f. end_cmp end k f.key.user_key ≡ Less) es

-- how the second entry stands to the first one, seen from this end
abbrev pub standing : End → Entry → Entry → Standing
standing end e f = by_ordering (end_cmp end f.key.user_key e.key.user_key) Outside (cond (nat_lt e.key.seqno f.key.seqno) Newer Older) Inside

-- of the first n cursors the one at this place has the outermost key at its end, and no other one has that key
pub record IsAlone (end : End) (cs : List SeenCursor) (n at : ℕ) : Type 0 where
  pub before : at < n
  pub item : Entry
  pub there : (d : SeenCursor) → end_item end (slice_index_or cs at d).left ≡ Some item
  pub others : (j : ℕ) (d : SeenCursor) → j < n → (j ≡ at → ⊥) → AllInside end item.key.user_key (slice_index_or cs j d).left

-- the same, or where there is none, nothing is left of the first n cursors
abbrev pub IsOutermost : End → List SeenCursor → ℕ → Option ℕ → Type 0
IsOutermost end cs n None = (j : ℕ) (d : SeenCursor) → j < n → (slice_index_or cs j d).left ≡ []
IsOutermost end cs n (Some at) = IsAlone end cs n at

-- cursors that show what others did, of which no more is left, and which own no more
pub record ShowSame (old new : List SeenCursor) : Type 0 where
  pub count : length new ≡ length old
  pub shown : shown_list (left_of new) ≡ shown_list (left_of old)
  pub left : length (left_of new) ≤ length (left_of old)
  pub held : held_in new ≤ held_in old

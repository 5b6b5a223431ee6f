-- Ranges of keys, with both ends in them.
use Rattle.std.specs.Prelude.{◌≡◌, Bool, true, ◌&&◌, List, if◌then◌else◌}
use Rattle.std.specs.List.{All, Any}
use Rattle.std.specs.Ordering.{is_le}
use Rattle.lsm_below.specs.Keys.{Bytes, bytes_cmp, is_below}

-- the least and the greatest key
pub record Range : Type 0 where
  pub min : Bytes
  pub max : Bytes

-- the least key is not above the greatest
abbrev pub IsRange : Range → Type 0
IsRange r = is_le (bytes_cmp r.min r.max) ≡ true

-- does the key lie in the range?
abbrev pub in_range : Bytes → Range → Bool
in_range k range = is_le (bytes_cmp range.min k) && is_le (bytes_cmp k range.max)

-- does each begin no later than the other ends?
abbrev pub overlap : Range → Range → Bool
overlap a b = is_le (bytes_cmp a.min b.max) && is_le (bytes_cmp b.min a.max)

-- does the first range lie wholly in the second?
abbrev pub is_within : Range → Range → Bool
is_within a b = is_le (bytes_cmp b.min a.min) && is_le (bytes_cmp a.max b.max)

-- the range holds that of each item, and each of its ends is an end of one of them
pub record IsHull {T : Type 0} (range : T → Range) (items : List T) (r : Range) : Type 0 where
  pub holds : All (λ t. is_within (range t) r ≡ true) items
  pub least : Any (λ t. (range t).min ≡ r.min) items
  pub greatest : Any (λ t. (range t).max ≡ r.max) items

-- the lesser and the greater of two user keys
abbrev pub lesser_of : Bytes → Bytes → Bytes
lesser_of a b = if is_below b a then b else a

abbrev pub greater_of : Bytes → Bytes → Bytes
greater_of a b = if is_below a b then b else a

-- the range that just holds two
abbrev pub hull : Range → Range → Range
hull a b = record { min = lesser_of a.min b.min; max = greater_of a.max b.max }

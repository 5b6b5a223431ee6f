-- Marks of keys, by which the private functions tell a write in order without the journal.
use Rattle.std.specs.Prelude.{◌≡◌, ◌++◌, ℕ, ◌+◌, max, min, Bool, true, false, not, ◌&&◌, ◌||◌, List, [], ◌∷◌, unwrap_or, if◌then◌else◌, nat_lt, nat_le, ◌==◌}
use Rattle.std.specs.BTreeMap as tree
use Rattle.std.specs.BTreeMap.{BTreeMap}
use Rattle.lsm_below.specs.Keys.{Bytes, is_same}
use Rattle.lsm_below.specs.Entries.{Entry, stack, above, IsOrdered, IsSingle}
use Rattle.lsm_below.specs.declared.value_type.ValueType.{ValueType}
use Rattle.lsm_below.specs.declared.value_type.ValueType.TheVariants.{Value, Tombstone, WeakTombstone}
use Rattle.lsm_model.specs.Journal.{Event, next_of, sets_of, floor}
use Rattle.lsm_model.specs.declared.op.Op.{Op}
use Rattle.lsm_model.specs.declared.op.Op.TheVariants.{Set, Del, Weak}
use Rattle.lsm_recorded.specs.Headed.{headed_cmp}
use Rattle.lsm_recorded.specs.Order.{weak_of}
use Rattle.lsm_recorded.specs.declared.marks.Mark.{Mark}
use Rattle.lsm_recorded.specs.declared.opened.OpenedMarks.{OpenedMarks}

-- nothing was written
abbrev pub no_mark : Mark
no_mark = record { next = 0; sets = 0; is_weak = false }

-- the mark of a key, of which nothing may be noted yet
abbrev pub mark_of : BTreeMap Bytes Mark → Bytes → Mark
mark_of marks k = unwrap_or (tree.get headed_cmp marks k) no_mark

-- marks, of which one is another
abbrev pub marked : (Bytes → Mark) → Bytes → Mark → Bytes → Mark
marked marks k m q = if is_same q k then m else marks q

-- does a write of this type keep the order of its key? A weakly removed key has at most one value.
abbrev pub kind_allows : Mark → ValueType → Bool
kind_allows m Value = not m.is_weak || (m.sets == 0)
kind_allows m Tombstone = true
kind_allows m WeakTombstone = nat_lt m.sets 2

-- does a write of this sequence number and type? Its sequence number is above each earlier one of its key.
abbrev pub mark_allows : Mark → ℕ → ValueType → Bool
mark_allows m n kind = nat_le m.next n && kind_allows m kind

-- the mark after a write of this sequence number and type
abbrev pub next_mark : Mark → ℕ → ValueType → Mark
next_mark m n Value = record { next = max m.next (n + 1); sets = min (m.sets + 1) 2; is_weak = m.is_weak }
next_mark m n Tombstone = record { next = max m.next (n + 1); sets = m.sets; is_weak = m.is_weak }
next_mark m n WeakTombstone = record { next = max m.next (n + 1); sets = m.sets; is_weak = true }

-- the marks after a write of this entry
abbrev pub marked_by : Entry → (Bytes → Mark) → Bytes → Mark
marked_by e marks = marked marks e.key.user_key (next_mark (marks e.key.user_key) e.key.seqno e.key.value_type)

-- the marks after a write of each entry in turn
abbrev pub marked_all : List Entry → (Bytes → Mark) → Bytes → Mark
marked_all [] marks = marks
marked_all (e ∷ es) marks = marked_all es (marked_by e marks)

-- the mark that opened entries and a journal give a key
abbrev pub mark_in : List Entry → List Event → Bytes → Mark
mark_in opened journal k = record { next = next_of k opened journal; sets = min (sets_of k opened journal) 2; is_weak = weak_of k journal }

-- does a write of the entry keep the order that marks, a least sequence number and a counter tell?
abbrev pub entry_allowed : (Bytes → Mark) → ℕ → ℕ → Entry → Bool
entry_allowed marks low counter e = nat_lt e.key.seqno counter && nat_le low e.key.seqno && mark_allows (marks e.key.user_key) e.key.seqno e.key.value_type

-- the order that the marks of a journal tell
abbrev pub mark_tells_order : List Entry → List Event → ℕ → Entry → Bool
mark_tells_order opened journal = entry_allowed (mark_in opened journal) (floor journal)

-- the type of the entry that a write makes
abbrev pub op_type : Op → ValueType
op_type (Set value) = Value
op_type Del = Tombstone
op_type Weak = WeakTombstone

-- does a write of a batch, under this sequence number, keep the order that marks and a least sequence number tell?
abbrev pub op_allowed : (Bytes → Mark) → ℕ → ℕ → Bytes × Op → Bool
op_allowed marks low n p = nat_le low n && mark_allows (marks p.0) n (op_type p.1)

-- ---- what was opened

-- a weak tombstone that was opened makes no key weakly removed
abbrev pub opened_type : ValueType → ValueType
opened_type Value = Value
opened_type Tombstone = Tombstone
opened_type WeakTombstone = Tombstone

-- for each key the opened sequence numbers fall, and no weak tombstone stands over two values
pub record AreInOrder (opened : List Entry) : Type 0 where
  pub ordered : IsOrdered (opened ∷ [])
  pub single : (k : Bytes) → IsSingle (stack k opened)

-- the marks of these entries, which are in order, and the least sequence number above all
pub record IsMarked (marks : BTreeMap Bytes Mark) (least : ℕ) (opened : List Entry) : Type 0 where
  pub noted : (k : Bytes) → mark_of marks k ≡ mark_in opened [] k
  pub least_is : least ≡ above opened
  pub in_order : AreInOrder opened

-- entries in front of others are noted as well, or one of them breaks the order
abbrev pub MarksMore : OpenedMarks → Bool → List Entry → OpenedMarks → Type 0
MarksMore old true es new = (behind : List Entry) → IsMarked old.marks old.least behind → IsMarked new.marks new.least (es ++ behind)
MarksMore old false es new = (behind : List Entry) → IsMarked old.marks old.least behind → AreInOrder (es ++ behind) → ⊥

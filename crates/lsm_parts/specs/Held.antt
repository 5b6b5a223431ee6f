-- The memtables that are held, as a list: the active one first.
use Rattle.std.specs.Prelude.{◌≡◌, ℕ, ◌<◌, Bool, true, List, [], ◌∷◌, map, filter, nat_le, Option, Some, None, if◌then◌else◌, ◌==◌}
use Rattle.std.specs.List.{list_any}
use Rattle.lsm_below.specs.Entries.{Entry}
use Rattle.lsm_tables.specs.Cutting.{IsWritable}
use Rattle.lsm_memtable.specs.declared.memtable.Revocable.{Revocable}
use Rattle.lsm_memtable.specs.Memtables.{SeenMemtable, with_entry, with_entries}
use Rattle.lsm_memtable.specs.Revoking.{TakesBack}
use Rattle.lsm_model.specs.Views.{Memtables}

-- the entries of the memtable with this id: none where no such one is held
abbrev pub entries_of : List SeenMemtable → Memtables
entries_of [] = λ i. []
entries_of (t ∷ tables) = λ i. if i == t.id then t.entries else entries_of tables i

-- the memtable with this id, if it is held
abbrev pub held_at : List SeenMemtable → ℕ → Option SeenMemtable
held_at [] i = None
held_at (t ∷ tables) i = if i == t.id then Some t else held_at tables i

-- the bytes that a memtable counts, if there is one
abbrev pub size_or_none : Option SeenMemtable → ℕ
size_or_none None = 0
size_or_none (Some m) = m.size

-- the bytes that the memtable with this id counts: none where no such one is held
abbrev pub size_at : List SeenMemtable → ℕ → ℕ
size_at tables i = size_or_none (held_at tables i)

-- an entry is put into the first one
abbrev pub put_first : Entry → List SeenMemtable → List SeenMemtable
put_first e [] = []
put_first e (t ∷ tables) = with_entry e t ∷ tables

-- entries are put into the first one, one after the other
abbrev pub put_all_first : List Entry → List SeenMemtable → List SeenMemtable
put_all_first es [] = []
put_all_first es (t ∷ tables) = with_entries es t ∷ tables

-- the size of the first one
abbrev pub first_size : List SeenMemtable → ℕ
first_size [] = 0
first_size (t ∷ tables) = t.size

-- the entries of the first one
abbrev pub first_entries : List SeenMemtable → List Entry
first_entries [] = []
first_entries (t ∷ tables) = t.entries

-- the first one has P
abbrev pub HasFirst : List SeenMemtable → (SeenMemtable → Type 0) → Type 0
HasFirst [] P = ⊥
HasFirst (t ∷ tables) P = P t

-- the ids of memtables
abbrev pub ids_of : List SeenMemtable → List ℕ
ids_of memtables = map (λ m. m.id) memtables

-- each id is below the one before it, and the first one below this number
abbrev pub FallFrom : ℕ → List ℕ → Type 0
FallFrom n [] = Unit {0}
FallFrom n (i ∷ ids) = (i < n) × FallFrom i ids

-- is this id among those?
abbrev pub is_among : List ℕ → ℕ → Bool
is_among ids i = list_any (λ j. i == j) ids

-- the id is that of a memtable that is held, and below that of the first one
abbrev pub IsSealedIn : List SeenMemtable → ℕ → Type 0
IsSealedIn memtables i = (is_among (ids_of memtables) i ≡ true) × HasFirst memtables (λ t. i < t.id)

-- the memtables from this id on
abbrev pub from_id : ℕ → List SeenMemtable → List SeenMemtable
from_id n memtables = filter (λ m. nat_le n m.id) memtables

-- what was put into the first memtable is taken back
abbrev pub TakesFirstBack : Revocable → List SeenMemtable → List SeenMemtable → Type 0
TakesFirstBack r [] now = ⊥
TakesFirstBack r (b ∷ before) [] = ⊥
TakesFirstBack r (b ∷ before) (n ∷ now) = TakesBack r b n × IsWritable b.entries × (now ≡ before)

-- What an iterator copies of memtables at its making.
use Rattle.std.specs.Prelude.{◌≡◌, ℕ, List, [], ◌∷◌, ◌++◌, length, map, flat_map, option_to_list}
use Rattle.std.specs.Borrow.{Bor}
use Rattle.std.specs.declared.ops.Bound.{Bound}
use Rattle.lsm_below.specs.Keys.{Bytes}
use Rattle.lsm_below.specs.Entries.{Entry}
use Rattle.lsm_model.specs.Views.{SuperVersion}
use Rattle.lsm_memtable.specs.Memtables.{SeenMemtable}
use Rattle.lsm_iter.specs.Prefixes.{LetsInJust}
use Rattle.lsm_iter.specs.Reads.{SeenState, at, index_of, counted_at}
use Rattle.lsm_iter.specs.Left.{copies, copied_within}
use Rattle.lsm_parts.specs.Held.{entries_of}
use Rattle.lsm_state.specs.Core.{Core}
use Rattle.lsm_state.specs.Ranges.{Index, AtVersion, counting}

-- whatever is made of the entries of each, and nothing of none: the listed memtables give what those with these ids do
abbrev pub AreThose : List SeenMemtable → List ℕ → List (Bor SeenMemtable) → Type 0
AreThose memtables ids list = (f : List Entry → List Entry) → f [] ≡ [] → flat_map (λ m. f m.now.entries) list ≡ flat_map (λ id. f (entries_of memtables id)) ids

-- of the index and of each memtable of a super version the newest entry of each key in the bounds that counts
abbrev pub copies_at : List SeenMemtable → Index → Bound Bytes → Bound Bytes → ℕ → SuperVersion → List Entry
copies_at memtables index low high s sv = copies low high (option_to_list (index_of index) ++ map (λ id. at s (entries_of memtables id)) (sv.active ∷ sv.sealed))

-- an iterator reads a super version, under an index: what counts of what it reads, and what is copied of it
pub record IsReading (memtables : List SeenMemtable) (index : Index) (sv : SuperVersion) (st : SeenState) : Type 0 where
  pub counts : (s : ℕ) → counted_at s st ≡ counting memtables index s sv
  pub copied : (low high : Bound Bytes) (s : ℕ) → copied_within low high s st ≡ length (copies_at memtables index low high s sv)

-- how many they are, within bounds of just the keys that begin so
abbrev pub HoldsPrefix : List SeenMemtable → Index → Bytes → ℕ → SuperVersion → ℕ → Type 0
HoldsPrefix memtables index prefix s sv n = (low high : Bound Bytes) × LetsInJust prefix low high × (n ≡ length (copies_at memtables index low high s sv))

-- how many they are, of the snapshot's super version
abbrev pub Copies : Core → Index → Bound Bytes → Bound Bytes → ℕ → ℕ → Type 0
Copies c index low high s n = AtVersion c s (λ sv. n ≡ length (copies_at c.memtables index low high s sv))

-- the same within bounds of just the keys that begin so
abbrev pub CopiesPrefix : Core → Index → Bytes → ℕ → ℕ → Type 0
CopiesPrefix c index prefix s n = AtVersion c s (λ sv. HoldsPrefix c.memtables index prefix s sv n)

-- Tables that are written while their entries come.
use Rattle.std.specs.Prelude.{◌≡◌, ℕ, ◌-◌, ◌<◌, Bool, false, not, ◌&&◌, nat_lt, nat_le, List, [], ◌∷◌, ◌++◌, length, map, take, slice_index_or, MatchOption}
use Rattle.std.specs.List.{AllByRecursion}
use Rattle.lsm_below.specs.Entries.{Entry}
use Rattle.lsm_below.specs.Keys.{Bytes}
use Rattle.lsm_below.specs.Slots.{same_key}
use Rattle.lsm_below.specs.Sums.{capped}
use Rattle.lsm_tables.specs.Cutting.{IsWritable, IsCutting}
use Rattle.lsm_tables.specs.Image.{IsTable, image, entry_bytes}
use Rattle.lsm_tables.specs.OpenImages.{Spells}
use Rattle.lsm_compaction.specs.declared.open_table.OpenTable.{OpenTable}

-- ---- the table that is open

-- it has these entries: its file's content spells them, their bytes are counted, and what shows the last one is at hand
pub record IsOpenWith {I : Type 0} (shows : I → Entry) (made_at : ℕ) (es : List Entry) (t : OpenTable I) : Type 0 where
  pub moment : t.image.made_at ≡ made_at
  pub spells : Spells es t.image
  pub held : t.held ≡ capped (entry_bytes es)
  pub last : MatchOption t.last (es ≡ []) (λ x. (front : List Entry) × (es ≡ front ++ shows x ∷ []))

-- does it end before an entry? It has the target, and none of its entries has the entry's key
abbrev pub is_end : ℕ → ℕ → List Entry → Entry → Bool
is_end target held pending e = nat_lt 0 (length pending) && (nat_le target held && not (same_key (slice_index_or pending (length pending - 1) e) e))

-- ---- tables that are cut off one after the other

-- of two neighbours with different keys the later one ended no table: what stands before it has less than the target
abbrev pub EndedNowhere : ℕ → List Entry → Type 0
EndedNowhere target es = (j : ℕ) (d : Entry) → 0 < j → j < length es → same_key (slice_index_or es (j - 1) d) (slice_index_or es j d) ≡ false → entry_bytes (take j es) < target

-- files of whole tables, the entries of the one that is open, and those that are still to come
pub record IsUnderway (target made_at : ℕ) (all : List Entry) (files : List Bytes) (pending : List Entry) (held : ℕ) (rest : List Entry) : Type 0 where
  pub tables : List (List Entry)
  pub spelled : files ≡ map (image made_at) tables
  pub each : AllByRecursion IsTable tables
  pub goes_on : (later : List (List Entry)) → IsCutting target (pending ++ rest) later → IsCutting target all (tables ++ later)
  pub writable : IsWritable (pending ++ rest)
  pub counted : held ≡ capped (entry_bytes pending)
  pub ended_nowhere : EndedNowhere target pending

-- the same of the table that is open
pub record IsWriting {I : Type 0} (shows : I → Entry) (target made_at : ℕ) (all : List Entry) (files : List Bytes) (open_table : OpenTable I) (rest : List Entry) : Type 0 where
  pub pending : List Entry
  pub has : IsOpenWith shows made_at pending open_table
  pub underway : IsUnderway target made_at all files pending open_table.held rest

-- What follows for maps, keys and sources: each the contract of a function in `laws.rt`.
use Rattle.std.specs.Prelude.{◌≡◌, ℕ, ◌<◌, Bool, true, List, ◌∷◌, ◌++◌, Some, flat_map, if◌then◌else◌}
use Rattle.std.specs.List.{AllByRecursion, filter}
use Rattle.std.specs.FinMap.{get}
use Rattle.lsm_below.specs.Keys.{Bytes, is_same}
use Rattle.lsm_below.specs.Entries.{Entry, above, stack, value_of, IsFalling, IsOrdered}
use Rattle.lsm_model.specs.Journal.{Map, changed}
use Rattle.lsm_model.specs.Views.{Memtables, SuperVersion, Placed, entries, found_at, held, map_of, seen, sources, IsLaidOut, IsRearranged}
use Rattle.lsm_model.specs.Steps.{AllCover}

-- maps are read key by key, and a key is its bytes
pub record MapsAreRead : Type 0 where
  pub same_key : (k q : Bytes) → is_same k q ≡ true → k ≡ q
  pub changed : (m : Map) (e : Entry) (k : Bytes) → get (changed m e) k ≡ (if is_same k e.key.user_key then value_of e else get m k)
  pub map_of : (k : Bytes) (s : ℕ) (es : List Entry) → get (map_of s es) k ≡ seen s (stack k es)

-- all entries are below `above`, and the sources of a super version are its entries; what is found is there
pub record PartsAreWhole : Type 0 where
  pub below : (es : List Entry) → AllByRecursion (λ e. e.key.seqno < above es) es
  pub whole : (mems : Memtables) (sv : SuperVersion) → flat_map (λ (es : List Entry). es) (sources mems sv) ≡ entries mems sv
  -- the super version that a snapshot finds stands in the history
  pub found : (s : ℕ) (latest : SuperVersion) (older : List SuperVersion) (sv : SuperVersion) → found_at s latest older ≡ Some sv → (newer : List SuperVersion) × (rest : List SuperVersion) × (latest ∷ older ≡ newer ++ sv ∷ rest)

-- what tables hold of each key, wherever they stand
pub record TablesArePlaced : Type 0 where
  -- tables in another order, in which those that share a key keep theirs, hold the same
  pub same : (k : Bytes) (old new : List Placed) → AllCover old → IsLaidOut new → IsRearranged old new → stack k (held new) ≡ stack k (held old)
  -- where sequence numbers fall along the sources, they fall along any of the tables
  pub falls : (k : Bytes) (t : Placed → Bool) (mems : Memtables) (sv : SuperVersion) → IsOrdered (sources mems sv) → IsFalling (stack k (held (filter t sv.tables)))

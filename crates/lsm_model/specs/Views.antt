-- What a tree keeps for its reads: sources, newest first, after super versions, newest first.
use Rattle.std.specs.Prelude.{◌≡◌, ℕ, ◌+◌, ◌<◌, ◌≤◌, Bool, true, false, ◌&&◌, not, filter, List, [], ◌∷◌, ◌++◌, Option, Some, None, map, flat_map, if◌then◌else◌, nat_lt, ◌==◌}
use Rattle.std.specs.List.{find, AllByRecursion}
use Rattle.std.specs.Option.{option_or}
use Rattle.std.specs.FinMap.{empty}
use Rattle.lsm_below.specs.Keys.{Bytes}
use Rattle.lsm_below.specs.Ranges.{Range, in_range, overlap}
use Rattle.lsm_below.specs.Entries.{Entry, entry_cmp, value_of, top}
use Rattle.lsm_below.specs.Sorted.{put}
use Rattle.lsm_model.specs.Journal.{answer, Map, changed}
use Rattle.lsm_model.specs.declared.question.Question.{Question}
use Rattle.lsm_model.specs.declared.question.Question.TheVariants.{Get, Between, Prefix}
use Rattle.lsm_model.specs.declared.question.Answer.{Answer}
use Rattle.lsm_model.specs.declared.question.Answer.TheVariants.{Found}
pub use Rattle.lsm_below.specs.Members.{IsIn}
pub use Rattle.lsm_below.specs.Optimizes.{EachPair}

-- ---- what entries show

-- the value that an entry gives its key; of no entry, none
abbrev pub shown : Option Entry → Option Bytes
shown None = None
shown (Some e) = value_of e

-- the value of a key at a snapshot, by the visible entry with the greatest sequence number in any source
abbrev pub view_at : Bytes → ℕ → List (List Entry) → Option Bytes
view_at k s sources = shown (top k s (flat_map (λ es. es) sources))

-- the entry that is found by a walk from source to source, which stops at the first visible one
abbrev pub walk : Bytes → ℕ → List (List Entry) → Option Entry
walk k s [] = None
walk k s (es ∷ sources) = option_or (top k s es) (walk k s sources)

-- what entries, the newest first, show as a map: the first visible entry of a key decides
abbrev pub map_of : ℕ → List Entry → Map
map_of s [] = empty
map_of s (e ∷ es) = if nat_lt e.key.seqno s then changed (map_of s es) e else map_of s es

-- the keys and values that sources, the newest first, show at a snapshot
abbrev pub view : ℕ → List (List Entry) → Map
view s sources = map_of s (flat_map (λ es. es) sources)

-- the value that entries of one key show at a snapshot: the first visible one decides
abbrev pub seen : ℕ → List Entry → Option Bytes
seen s es = shown (find (λ e. nat_lt e.key.seqno s) es)

-- ---- what a tree keeps

-- memtables by id, which super versions share
abbrev pub Memtables : Type 0
Memtables = ℕ → List Entry

-- a table, by its id, the range of keys that it may hold, and its entries
pub record Table : Type 0 where
  pub id : ℕ
  pub range : Range
  pub entries : List Entry

-- a table and its level
pub record Placed : Type 0 where
  pub level : ℕ
  pub table : Table

-- the entries of some tables, one table after the other
abbrev pub held : List Placed → List Entry
held tables = flat_map (λ p. p.table.entries) tables

-- a version of the tree: memtables by id, the sealed ones from the newest, and tables level by level, run by run
pub record SuperVersion : Type 0 where
  pub number : ℕ
  pub active : ℕ
  pub sealed : List ℕ
  pub tables : List Placed

-- what a super version reads, the newest first: the active memtable, the sealed ones, the tables
abbrev pub sources : Memtables → SuperVersion → List (List Entry)
sources mems sv = map mems (sv.active ∷ sv.sealed) ++ map (λ p. p.table.entries) sv.tables

-- the entries of a super version, one source after the other
abbrev pub entries : Memtables → SuperVersion → List Entry
entries mems sv = flat_map mems (sv.active ∷ sv.sealed) ++ held sv.tables

-- ---- super versions

-- the newest super version numbered below the snapshot
abbrev pub lookup : ℕ → List SuperVersion → Option SuperVersion
lookup s history = find (λ sv. nat_lt sv.number s) history

-- the oldest super version
abbrev pub front : SuperVersion → List SuperVersion → SuperVersion
front latest [] = latest
front latest (sv ∷ older) = front sv older

-- the super version that a snapshot reads: at 0 the oldest
abbrev pub found_at : ℕ → SuperVersion → List SuperVersion → Option SuperVersion
found_at s latest older = if s == 0 then Some (front latest older) else lookup s (latest ∷ older)

-- what maintenance leaves: the newest super versions up to the first numbered below w
abbrev pub maintained : ℕ → List SuperVersion → List SuperVersion
maintained w [] = []
maintained w (sv ∷ older) = if nat_lt sv.number w then (sv ∷ []) else (sv ∷ maintained w older)

-- what a read answers from its sources: a get walks, the others merge
abbrev pub answered : ℕ → List (List Entry) → Question → Answer
answered s sources (Get k) = Found (shown (walk k s sources))
answered s sources (Between low high) = answer (view s sources) (Between low high)
answered s sources (Prefix p) = answer (view s sources) (Prefix p)

-- ---- memtables

-- memtables after a write, which takes its place in one of them, over an entry of the same key and sequence number
abbrev pub written : Memtables → ℕ → Entry → Memtables
written mems a e = λ i. if i == a then put entry_cmp e (mems i) else mems i

-- memtables after an entry was put in front of one of them
abbrev pub pushed : Memtables → ℕ → Entry → Memtables
pushed mems a e = λ i. if i == a then (e ∷ mems i) else mems i

-- memtables, of which one is new and empty
abbrev pub emptied : Memtables → ℕ → Memtables
emptied mems a = λ i. if i == a then [] else mems i

-- ---- tables

-- tables hold only keys of their ranges, and stand by rising level
pub record IsLaidOut (tables : List Placed) : Type 0 where
  pub covers : AllByRecursion (λ p. AllByRecursion (λ e. in_range e.key.user_key p.table.range ≡ true) p.table.entries) tables
  pub by_level : EachPair (λ p q. p.level ≤ q.level) tables

-- a choice of tables may be merged or moved to level d, as far as these two go
pub record PairAllowed (d : ℕ) (chosen : ℕ → Bool) (evict : Bool) (p q : Placed) : Type 0 where
  pub order_before : chosen p.table.id ≡ false → chosen q.table.id ≡ true → p.level < d
  pub order_behind : chosen p.table.id ≡ true → chosen q.table.id ≡ false → d ≤ q.level
  pub eviction : evict ≡ true → chosen p.table.id ≡ true → chosen q.table.id ≡ true

-- a choice of tables may be merged or moved to level d
abbrev pub IsAllowed : ℕ → (ℕ → Bool) → Bool → List Placed → Type 0
IsAllowed d chosen evict tables = EachPair (λ p q. overlap p.table.range q.table.range ≡ true → PairAllowed d chosen evict p q) tables

-- the tables that are chosen
abbrev pub chosen_of : (ℕ → Bool) → List Placed → List Placed
chosen_of chosen tables = filter (λ p. chosen p.table.id) tables

-- the tables that are not chosen and stay above level d
abbrev pub upper_of : ℕ → (ℕ → Bool) → List Placed → List Placed
upper_of d chosen tables = filter (λ p. not (chosen p.table.id) && nat_lt p.level d) tables

-- the tables that are not chosen, from level d on
abbrev pub lower_of : ℕ → (ℕ → Bool) → List Placed → List Placed
lower_of d chosen tables = filter (λ p. not (chosen p.table.id) && not (nat_lt p.level d)) tables

-- the tables that a drop of the chosen ones leaves
abbrev pub left_of : (ℕ → Bool) → List Placed → List Placed
left_of chosen tables = filter (λ p. not (chosen p.table.id)) tables

-- the ranges of keys that a drop of the chosen tables tells
abbrev pub ranges_of : (ℕ → Bool) → List Placed → List Range
ranges_of chosen tables = map (λ p. p.table.range) (chosen_of chosen tables)

-- runs may be joined, if tables that share a key keep their order
abbrev pub IsRearranged : List Placed → List Placed → Type 0
IsRearranged old new = (k : Bytes) → filter (λ p. in_range k p.table.range) new ≡ filter (λ p. in_range k p.table.range) old

-- ---- orders of tables

-- the place of a table by its id
abbrev pub place_of : List Placed → ℕ → ℕ
place_of [] i = 0
place_of (p ∷ tables) i = if p.table.id == i then 0 else place_of tables i + 1

-- no two tables have one id
abbrev pub HasDistinctIds : List Placed → Type 0
HasDistinctIds tables = EachPair (λ p q. (p.table.id == q.table.id) ≡ false) tables

-- the same tables, of which overlapping ones keep their order
pub record IsReordered (old new : List Placed) : Type 0 where
  pub kept : (p : Placed) → IsIn p old → IsIn p new
  pub from : (p : Placed) → IsIn p new → IsIn p old
  pub order : EachPair (λ p q. overlap p.table.range q.table.range ≡ true → place_of old p.table.id < place_of old q.table.id) new

-- a table at a level
abbrev pub placed_at : ℕ → Table → Placed
placed_at level t = record { level = level; table = t }

-- levels of runs of tables, one after the other, as placed tables
abbrev pub placed_from : ℕ → List (List (List Table)) → List Placed
placed_from level [] = []
placed_from level (runs ∷ levels) = map (placed_at level) (flat_map (λ r. r) runs) ++ placed_from (level + 1) levels

-- tables of levels stand by rising level
abbrev pub LevelsRise : Type 0
LevelsRise = (level : ℕ) (levels : List (List (List Table))) → EachPair (λ p q. p.level ≤ q.level) (placed_from level levels)

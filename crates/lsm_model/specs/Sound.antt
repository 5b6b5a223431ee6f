-- What each step of a tree keeps, and from which all that is proved of its reads follows.
use Rattle.std.specs.Prelude.{◌≡◌, ℕ, ◌<◌, ◌≤◌, true, List, ◌∷◌, Option, Some, None, is_some}
use Rattle.std.specs.List.{AllByRecursion}
use Rattle.std.specs.FinMap.{get}
use Rattle.lsm_below.specs.Keys.{Bytes}
use Rattle.lsm_below.specs.Entries.{Entry, IsFalling, IsSingle, values, stack, above}
use Rattle.lsm_model.specs.Journal.{Event, Map, Agrees, next_of, sets_of, floor, is_kept, is_outside, replay_at}
use Rattle.lsm_model.specs.Views.{Memtables, SuperVersion, entries, lookup, seen, IsLaidOut}
use Rattle.lsm_model.specs.Steps.{State}

-- ---- one super version

-- the entries of one key fall from below the key's next sequence number, and hold no more values than were set
pub record Fits (next sets : ℕ) (es : List Entry) : Type 0 where
  pub falling : IsFalling es
  pub below : AllByRecursion (λ e. e.key.seqno < next) es
  pub single : IsSingle es
  pub few : values es ≤ sets

-- the memtables of a super version are no newer than this one, and the sealed ones are older
abbrev pub HasIds : ℕ → SuperVersion → Type 0
HasIds a sv = (sv.active ≤ a) × AllByRecursion (λ m. m < a) sv.sealed

-- the entries of a key in a super version fit the journal
abbrev pub FitsAt : List Entry → List Event → Memtables → Bytes → SuperVersion → Type 0
FitsAt opened journal mems k sv = Fits (next_of k opened journal) (sets_of k opened journal) (stack k (entries mems sv))

-- ---- all of them

-- each super version shows at each of its snapshots what the replay does, and kept snapshots have one
pub record IsSound (opened : List Entry) (start : Bytes → Option Bytes) (journal : List Event) (mems : Memtables) (latest : SuperVersion) (older : List SuperVersion) : Type 0 where
  pub right : (k : Bytes) (s : ℕ) (sv : SuperVersion) → above opened ≤ s → is_outside k s journal ≡ true → lookup s (latest ∷ older) ≡ Some sv → seen s (stack k (entries mems sv)) ≡ replay_at k s (start k) journal
  pub fits : (k : Bytes) → AllByRecursion (FitsAt opened journal mems k) (latest ∷ older)
  pub ids : AllByRecursion (HasIds latest.active) (latest ∷ older)
  pub recent : latest.number ≤ floor journal
  pub kept : (s : ℕ) → 0 < s → is_kept s journal ≡ true → is_some (lookup s (latest ∷ older)) ≡ true

-- what holds of a tree after any steps from an opened one: sound super versions, tables that are laid out, and right reads
pub record Holds (opened : List Entry) (start : Map) (t : State) : Type 0 where
  pub sound : IsSound opened (get start) t.journal t.mems t.latest t.older
  pub laid : IsLaidOut t.latest.tables
  pub agrees : Agrees start t.journal
  pub zero : (k : Bytes) → above opened ≡ 0 → get start k ≡ None

-- What entries show within bounds: of each key its newest entry decides.
use Rattle.std.specs.Prelude.{◌≡◌, ◌≤◌, Bool, true, ◌&&◌, List, [], Option, Some, None, nat_eq}
use Rattle.std.specs.List.{All, Contains, starts_with}
use Rattle.std.specs.Ordering.{on}
use Rattle.std.specs.declared.cmp.Ordering.{Ordering}
use Rattle.std.specs.declared.ops.Bound.{Bound}
use Rattle.lsm_below.specs.Keys.{Bytes, bytes_cmp}
use Rattle.lsm_below.specs.Entries.{Entry, stack, is_value}
use Rattle.lsm_below.specs.Sorted.{Rises}
use Rattle.lsm_model.specs.Journal.{is_from, is_to}
use Rattle.lsm_model.specs.Views.{shown}

-- does the key lie within the bounds?
abbrev pub lies_within : Bound Bytes → Bound Bytes → Bytes → Bool
lies_within low high k = is_from low k && is_to high k

-- an entry of the list than which none has a greater sequence number; none where the list is empty
abbrev pub IsNewestOf : List Entry → Option Entry → Type 0
IsNewestOf es None = es ≡ []
IsNewestOf es (Some e) = Contains es e × All (λ f. f.key.seqno ≤ e.key.seqno) es

-- the newest entry of a key, none where the key has no entry
abbrev pub IsNewest : List Entry → Bytes → Option Entry → Type 0
IsNewest es k e = IsNewestOf (stack k es) e

-- the entry is the newest one of its key, and a value
pub record IsShown (es : List Entry) (e : Entry) : Type 0 where
  pub newest : IsNewest es e.key.user_key (Some e)
  pub value : is_value e ≡ true

-- the newest entry of the key is a tombstone, or it has none
abbrev pub IsHidden : List Entry → Bytes → Type 0
IsHidden es k = (e : Option Entry) × IsNewest es k e × (shown e ≡ None)

-- entries are ordered by their user keys alone
abbrev pub by_key : Entry → Entry → Ordering
by_key = on (λ e. e.key.user_key) bytes_cmp

-- the list of what entries show of the keys that pass a test
pub record ShowsOf (test : Bytes → Bool) (es out : List Entry) : Type 0 where
  -- keys rise, and none comes twice
  pub rises : Rises by_key out
  -- each passes the test and is shown
  pub each : All (λ e. (test e.key.user_key ≡ true) × IsShown es e) out
  -- of every other key that passes it nothing is shown
  pub rest : (k : Bytes) → test k ≡ true → stack k out ≡ [] → IsHidden es k

-- the list of what they show within bounds
abbrev pub Shows : Bound Bytes → Bound Bytes → List Entry → List Entry → Type 0
Shows low high = ShowsOf (lies_within low high)

-- does the key begin so?
abbrev pub begins_with : Bytes → Bytes → Bool
begins_with prefix k = starts_with nat_eq k prefix

-- the list of what they show of the keys that begin so
abbrev pub ShowsPrefix : Bytes → List Entry → List Entry → Type 0
ShowsPrefix prefix = ShowsOf (begins_with prefix)

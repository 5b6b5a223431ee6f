-- What is left of several lists, one after the other.
use Rattle.std.specs.Prelude.{◌≢◌, List, [], flat_map}
use Rattle.std.specs.List.{All}
use Rattle.lsm_below.specs.Entries.{Entry}

-- the entries of all lists, one list after the other
abbrev pub joined : List (List Entry) → List Entry
joined lists = flat_map (λ l. l) lists

-- each list has an entry
abbrev pub AreFull : List (List Entry) → Type 0
AreFull lists = All (λ l. l ≢ []) lists

-- What an iterator from both ends gives: the ends of one list, of which each entry comes once.
use Rattle.std.specs.Prelude.{◌≡◌, ◌≢◌, ℕ, length, List, [], ◌∷◌, ◌++◌, Option, Some, None, Result, Ok, Err}
use Rattle.std.specs.declared.ops.Bound.{Bound}
use Rattle.lsm_below.specs.Keys.{Bytes}
use Rattle.lsm_below.specs.Entries.{Entry}
use Rattle.lsm_iter.specs.Shown.{Shows}
use Rattle.lsm_iter.specs.Guards.{Item, pair_of}
use Rattle.lsm_below.specs.declared.error.Error.{Error}
use Rattle.lsm_below.specs.declared.error.Error.TheVariants.{OutOfMemory}
use Rattle.lsm_iter.specs.declared.tree_iter.End.{End}
use Rattle.lsm_iter.specs.declared.tree_iter.End.TheVariants.{Front, Back}

-- the list with its first entry, or its last one, taken off
abbrev pub IsTaken : End → List Entry → Entry → List Entry → Type 0
IsTaken Front s e t = s ≡ e ∷ t
IsTaken Back s e t = s ≡ t ++ e ∷ []

-- an entry is taken from this end; none where nothing is left; where memory is refused in place of an entry, nothing is left
abbrev pub TakesEntry : End → List Entry → Option (Result Entry Error) → List Entry → Type 0
TakesEntry end s None t = (s ≡ []) × (t ≡ [])
TakesEntry end s (Some (Ok e)) t = IsTaken end s e t
TakesEntry end s (Some (Err x)) t = (x ≡ OutOfMemory) × (s ≢ []) × (t ≡ [])

-- the same of the entry's pair
abbrev pub TakesPair : End → List Entry → Option Item → List Entry → Type 0
TakesPair end s None t = (s ≡ []) × (t ≡ [])
TakesPair end s (Some (Ok p)) t = (e : Entry) × IsTaken end s e t × (p ≡ pair_of e)
TakesPair end s (Some (Err x)) t = (x ≡ OutOfMemory) × (s ≢ []) × (t ≡ [])

-- at each turn the pair at its end is taken
abbrev pub TakesEnds : List Entry → List End → List (Option Item) → List Entry → Type 0
TakesEnds s [] [] t = t ≡ s
TakesEnds s (end ∷ ends) (p ∷ ps) t = (left : List Entry) × TakesPair end s p left × TakesEnds left ends ps t
TakesEnds s [] (p ∷ ps) t = ⊥
TakesEnds s (end ∷ ends) [] t = ⊥

-- the entry at an end of the list of what is shown within bounds; none where nothing is shown
abbrev pub EndShown : End → Bound Bytes → Bound Bytes → List Entry → Option Entry → Type 0
EndShown end low high es None = Shows low high es []
EndShown end low high es (Some e) = (out : List Entry) × (rest : List Entry) × Shows low high es out × IsTaken end out e rest

-- how many entries are shown within bounds
abbrev pub NumberShown : Bound Bytes → Bound Bytes → List Entry → ℕ → Type 0
NumberShown low high es n = (out : List Entry) × Shows low high es out × (n ≡ length out)

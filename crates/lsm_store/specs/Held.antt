-- What a store in memory holds of one name, and what a call makes of it.
use Rattle.std.specs.Prelude.{◌≡◌, ◌⊎◌, ℕ, ◌<◌, Bool, true, false, List, [], ◌∷◌, ◌++◌, Option, Some, None, MatchOption, slice_get, option_to_list, if◌then◌else◌}
use Rattle.lsm_store.specs.World.{Row}
use Rattle.lsm_store.specs.declared.mem_store.content.Place.{Place}
use Rattle.lsm_store.specs.declared.mem_store.content.Place.TheVariants.{Own, Shared}
use Rattle.lsm_store.specs.declared.mem_store.file.Absence.{Absence}
use Rattle.lsm_store.specs.declared.mem_store.file.Absence.TheVariants.{Never, Possible, Usual}

pub record Held : Type 0 where
  pub gives : Option (List ℕ)  -- what reads give
  pub before : Option (List ℕ)  -- what reads gave before the last call, where that left a choice
  pub contents : List (List ℕ)  -- what a crash may leave
  pub absence : Absence  -- whether it may leave nothing
  pub torn : Bool  -- whether it may leave any bytes

-- one of these
abbrev pub IsOneOf : List (List ℕ) → Row
IsOneOf [] c = ⊥
IsOneOf (v ∷ vs) c = (c ≡ Some v) ⊎ IsOneOf vs c

abbrev pub MayLack : Absence → Type 0
MayLack Never = ⊥
MayLack Possible = Unit {0}
MayLack Usual = Unit {0}

-- what a crash may leave of the name
abbrev pub MayHold : Held → Row
MayHold h c = ((c ≡ h.gives) ⊎ IsOneOf h.contents c) ⊎ ((MayLack h.absence × (c ≡ None)) ⊎ (h.torn ≡ true))

-- of a name that was never used
abbrev pub nothing : Held
nothing = record { gives = None; before = None; contents = []; absence = Usual; torn = false }

-- on the disk: this, and nothing else
abbrev pub fresh : Option (List ℕ) → Held
fresh None = nothing
fresh (Some b) = record { gives = Some b; before = None; contents = b ∷ []; absence = Never; torn = false }

-- written, and not synced
abbrev pub written : List ℕ → Held → Held
written b h = record { gives = Some b; before = h.gives; contents = b ∷ option_to_list h.gives; absence = Usual; torn = true }

-- a write or a sync that failed
abbrev pub doubted : Held → Held
doubted h = record { gives = h.gives; before = h.gives; contents = h.contents; absence = Usual; torn = true }

-- removed; or, where it isn't gone, a removal that failed
abbrev pub removed : Bool → Held → Held
removed gone h = record { gives = if gone then None else h.gives; before = h.gives; contents = h.contents; absence = Usual; torn = h.torn }

-- without a pick it isn't absent any more
abbrev pub softened : Absence → Absence
softened Never = Never
softened Possible = Possible
softened Usual = Possible

-- a replacement that isn't answered yet, or failed
abbrev pub offered : Bool → List ℕ → Held → Held
offered shown b h = record { gives = if shown then Some b else h.gives; before = h.gives; contents = h.contents ++ b ∷ []; absence = softened h.absence; torn = h.torn }

-- settled: as reads give it, where it isn't torn
abbrev pub settled : Held → Held
settled h = if h.torn then h else fresh h.gives

-- what reads give is among the contents, or absence may be left
abbrev pub IsWhole : Held → Type 0
IsWhole h = MatchOption h.gives (MayLack h.absence) (λ b. IsOneOf h.contents (Some b))

-- ---- how it lies in memory: contents, and places among them

abbrev pub bytes_of : Place → List ℕ
bytes_of (Own v) = v.items
bytes_of (Shared b) = b

abbrev pub content : Option ℕ → List (List ℕ) → Option (List ℕ)
content None bs = None
content (Some k) bs = slice_get bs k

-- a place, if it is one, of n
abbrev pub IsPlace : Option ℕ → ℕ → Type 0
IsPlace None n = Unit {0}
IsPlace (Some k) n = k < n

-- an absent name may be left so
abbrev pub GivesOrLacks : Option ℕ → Absence → Type 0
GivesOrLacks None a = MayLack a
GivesOrLacks (Some k) a = Unit {0}

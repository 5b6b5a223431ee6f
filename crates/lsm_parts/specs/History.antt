-- Versions and super versions as callers see them, and what a snapshot finds.
use Rattle.std.specs.Prelude.{ℕ, ◌≤◌, List, [], ◌∷◌, ◌++◌, Option, Some, Bool, ◌||◌, filter, sum_by, nat_lt, ◌==◌, if◌then◌else◌}
use Rattle.std.specs.List.{find, list_any, AllByRecursion}
use Rattle.lsm_parts.specs.declared.version.super_version.SuperVersion.{SuperVersion}
use Rattle.lsm_below.specs.Sums.{capped}
use Rattle.lsm_memtable.specs.Memtables.{SeenMemtable}
use Rattle.lsm_parts.specs.Versions.{SeenVersion, IsLaid}

-- a history: the newest super version, and the older ones, newest first
pub record SeenHistory : Type 0 where
  pub latest : SuperVersion
  pub older : List SuperVersion

-- all of them, newest first
abbrev pub versions_of : SeenHistory → List SuperVersion
versions_of h = h.latest ∷ h.older

-- the last one of a list, which begins with this one
abbrev pub oldest : SuperVersion → List SuperVersion → SuperVersion
oldest sv [] = sv
oldest sv (next ∷ older) = oldest next older

-- the super version that a snapshot reads: at 0 the oldest, else the newest one numbered below
abbrev pub found_version : ℕ → SeenHistory → Option SuperVersion
found_version s h = if s == 0 then Some (oldest h.latest h.older) else find (λ sv. nat_lt sv.seqno s) (versions_of h)

-- the first super version: memtable 0 over a version
abbrev pub first_version : SeenVersion → SuperVersion
first_version version = record { active_memtable = 0; sealed_memtables = []; version = version; seqno = 0 }

-- does a super version name this memtable?
abbrev pub names : ℕ → SuperVersion → Bool
names i sv = i == sv.active_memtable || list_any (λ j. i == j) sv.sealed_memtables

-- the sizes of the memtables that a history names, each once
abbrev pub named_size : SeenHistory → List SeenMemtable → ℕ
named_size h memtables = capped (sum_by (λ m. m.size) (filter (λ m. list_any (names m.id) (versions_of h)) memtables))

-- the version of each is laid out
abbrev pub AreLaid : List SuperVersion → Type 0
AreLaid versions = AllByRecursion (λ sv. IsLaid sv.version) versions

-- sequence numbers never rise from the newest to the oldest, nor above this one
abbrev pub NumbersFall : ℕ → List SuperVersion → Type 0
NumbersFall n [] = Unit {0}
NumbersFall n (sv ∷ older) = (sv.seqno ≤ n) × NumbersFall sv.seqno older

-- the super version after a rotation: the active memtable is sealed in favour of another one
abbrev pub rotated : ℕ → SuperVersion → SuperVersion
rotated id sv = record { active_memtable = id; sealed_memtables = sv.sealed_memtables ++ sv.active_memtable ∷ []; version = sv.version; seqno = sv.seqno }

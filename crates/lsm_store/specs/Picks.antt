-- What a crash of a store in memory leaves, name by name.
use Rattle.std.specs.Prelude.{◌≡◌, ◌≤◌, ℕ, List, [], ◌∷◌, Option, Some, None, if◌then◌else◌}
use Rattle.std.specs.Borrow.{Bor}
use Rattle.std.specs.Str.{bytes_eq}
use Rattle.lsm_store.specs.declared.mem_store.file.Absence.{Absence}
use Rattle.lsm_store.specs.declared.mem_store.file.Absence.TheVariants.{Never, Possible, Usual}
use Rattle.lsm_store.specs.declared.mem_store.picks.Pick.{Pick}
use Rattle.lsm_store.specs.declared.mem_store.picks.Pick.TheVariants.{Absent, Before, Bytes}
use Rattle.lsm_store.specs.declared.mem_store.plan.Outcome.TheVariants.{Done}
use Rattle.lsm_store.specs.World.{Image, IsImage, Begins}
use Rattle.lsm_store.specs.Plans.{outcome_at}
use Rattle.lsm_store.specs.Held.{Held, fresh}
use Rattle.lsm_store.specs.Files.{Files, held_at}
use Rattle.lsm_store.specs.Memory.{MemStore, may_of, world_of}

abbrev pub Picks : Type 0
Picks = List (Bor (List ℕ) × Pick)

-- what is picked for a name: the first pick that names it
abbrev pub pick_for : Picks → List ℕ → Option Pick
pick_for [] n = None
pick_for (p ∷ ps) n = if bytes_eq p.0.now n then Some p.1 else pick_for ps n

-- what is left without a pick: what reads give, if it isn't one of those that are mostly absent
abbrev pub left_alone : Absence → Option (List ℕ) → Option (List ℕ)
left_alone Never c = c
left_alone Possible c = c
left_alone Usual c = None

-- what is left of a name
abbrev pub left_at : Held → Option Pick → Option (List ℕ)
left_at h None = left_alone h.absence h.gives
left_at h (Some Absent) = None
left_at h (Some Before) = h.before
left_at h (Some (Bytes b)) = Some b.now

-- the image that is picked
abbrev pub picked : Files → Picks → Image
picked files picks n = left_at (held_at files n) (pick_for picks n)

-- a store that has this content, all of it on the disk, with no fault planned
pub record Restarts (image : Image) (m : MemStore) : Type 0 where
  pub world : Begins image (world_of m)
  pub held : (n : List ℕ) → held_at m.files n ≡ fresh (image n)
  pub planned : (n : ℕ) → 1 ≤ n → outcome_at m.plan n ≡ Done

-- the image that is picked is possible, and the new store has it; None just where it isn't possible
abbrev pub Crashes : Files → Image → Option MemStore → Type 0
Crashes files image None = ¬ IsImage (may_of files) image
Crashes files image (Some new) = IsImage (may_of files) image × Restarts image new

-- Names that are none of a tree's: what calls on them leave of it, and what its own calls leave of them.
use Rattle.std.proofs.Common.{◌≡◌, ◌≢◌, ℕ, List, Option, refl, ◌∙◌}
use Rattle.lsm_store.specs.World.{Image, World, IsImage, LeavesOnly}
use Rattle.lsm_store.specs.Moments.{started, joined}
use Rattle.lsm_tables.specs.Tables.{SeenTable}
use Rattle.lsm_versions.specs.Levels.{SeenVersion}
use Rattle.lsm_manifest.specs.declared.kinds.NameKind.TheVariants.{Other}
use Rattle.lsm_manifest.specs.Names.{current_name}
use Rattle.lsm_manifest.specs.Kinds.{kind_of}
use Rattle.lsm_commit.specs.Stored.{IsStored, Leaves}

-- the name is neither `current` nor of a kind that opening reads, removes or refuses
pub record IsForeign (n : List ℕ) : Type 0 where
  pub other : kind_of n ≡ Other
  pub not_current : n ≢ current_name

-- ---- calls on them

-- an image in which each name that isn't foreign has what it could have before
abbrev pub KeepsOwn : World → Image → Type 0
KeepsOwn old left = (n : List ℕ) → (IsForeign n → ⊥) → old.may n (left n)

-- foreign names alone change, also in the images that a crash meanwhile leaves
pub record ChangesForeign (old new : World) : Type 0 where
  pub may : (n : List ℕ) (c : Option (List ℕ)) → (IsForeign n → ⊥) → new.may n c → old.may n c
  pub leaves : LeavesOnly old new (KeepsOwn old)

-- whatever versions and written tables are stored, they stay so, and a crash meanwhile leaves one of the versions
abbrev pub Spares : World → World → Type 0
Spares old new = (versions : List SeenVersion) (written : List SeenTable) → IsStored old versions written → IsStored new versions written × Leaves old new versions

-- what changes foreign names alone spares what is stored
abbrev pub ForeignNamesSpare : (S : Type 0) → (S → World) → Type 0
ForeignNamesSpare S world = (old new : S) → ChangesForeign (world old) (world new) → Spares (world old) (world new)

-- ---- calls on a tree's own names

-- an image in which each foreign name has what it could have before
abbrev pub KeepsForeign : World → Image → Type 0
KeepsForeign old left = (n : List ℕ) → IsForeign n → old.may n (left n)

-- of foreign names reads give the same, and now, as at each moment since, a crash leaves of each what it could before
pub record Passes (old new : World) : Type 0 where
  pub gives : (n : List ℕ) → IsForeign n → new.gives n ≡ old.gives n
  pub may : (n : List ℕ) (c : Option (List ℕ)) → IsForeign n → new.may n c → old.may n c
  pub leaves : LeavesOnly old new (KeepsForeign old)

-- while nothing is done, a crash leaves one of the versions that are stored, and foreign names are as they are
pub record AtRest (w : World) : Type 0 where
  pub leaves : (versions : List SeenVersion) (written : List SeenTable) → IsStored w versions written → Leaves w w versions
  pub passes : Passes w w

pub passes_still : (w : World) → ((image : Image) → w.since w.moment image → IsImage w.may image) → Passes w w
passes_still w only = record {
  gives = λ n foreign. refl;
  may = λ n c foreign m. m;
  leaves = started w (KeepsForeign w) (λ image since n foreign. only image since n);
}

-- a call after another
pub passes_then : (old mid new : World) → Passes old mid → Passes mid new → Passes old new
passes_then old mid new a b = record {
  gives = λ n foreign. b.gives n foreign ∙ a.gives n foreign;
  may = λ n c foreign m. a.may n c foreign (b.may n c foreign m);
  leaves = joined old mid new (KeepsForeign old) (KeepsForeign mid) (KeepsForeign old) a.leaves b.leaves (λ image kept. kept) (λ image kept n foreign. a.may n (image n) foreign (kept n foreign));
}

-- What is told of an opening whose tables are to meet something more: laws for proofs of the crates above.
use Rattle.std.specs.Prelude.{◌≡◌, ℕ, Bool, true, false, List, Option, None, Result, Err, IsSome}
use Rattle.std.proofs.Common.{inl, inr, refl, sym, subst, ap}
use Rattle.lsm_below.specs.declared.error.Error.{Error}
use Rattle.lsm_below.specs.declared.error.Error.TheVariants as error
use Rattle.lsm_store.specs.World.{Image, World}
use Rattle.lsm_versions.specs.Levels.{Levels as SeenLevels}
use Rattle.lsm_manifest.specs.declared.fault.Fault.TheVariants.{Unrecoverable}
use Rattle.lsm_manifest.specs.declared.fault.OpenError.{OpenError}
use Rattle.lsm_manifest.specs.declared.fault.OpenError.TheVariants as opening
use Rattle.lsm_manifest.specs.declared.opening.Opened.{Opened}
use Rattle.lsm_manifest.specs.declared.found.Found.{Found}
use Rattle.lsm_manifest.specs.Names.{current_name}
use Rattle.lsm_manifest.specs.Recovery.{Levels}
use Rattle.lsm_manifest.specs.Versions.{first_version}
use Rattle.lsm_manifest.specs.Opening.{OpensFiles, OpensAs}
use Rattle.lsm_manifest.specs.Looking.{FindsIn, Looks}
use Rattle.lsm_manifest.specs.OpeningWith.{OpensWith, IsUnrecoverable}
use Rattle.lsm_manifest.specs.Told.{Told, TellsOpen}

-- ---- what is told

pub told_memory : {T : Type 0} (Q : Result T OpenError → Type 0) → Q (Err opening.OutOfMemory) → Told TellsOpen Q (Err error.OutOfMemory)
told_memory Q is = (opening.OutOfMemory, refl, is)

pub told_unrecoverable : {T : Type 0} (Q : Result T OpenError → Type 0) → Q (Err (opening.Fault Unrecoverable)) → Told TellsOpen Q (Err error.Unrecoverable)
told_unrecoverable Q is = (opening.Fault Unrecoverable, refl, is)

refused_with : (P : SeenLevels → Type 0) (image : Image) (e : OpenError) → OpensFiles image (Err e) → OpensWith P image (Err e)
refused_with P image opening.OutOfMemory h = tt
refused_with P image opening.Store h = tt
refused_with P image opening.CommitUnknown h = h
refused_with P image (opening.Fault f) h = inl h

-- refused without asking for it
pub told_with : (P : SeenLevels → Type 0) (image : Image) (e : Error) → Told TellsOpen (OpensFiles image) (Err e) → Told TellsOpen (OpensWith P image) (Err e)
told_with P image e told = (told.0, told.1, refused_with P image told.0 told.2)

not_as : (id : ℕ) (ls : Levels) (ts : SeenLevels) (e : OpenError) → OpensAs id ls ts (Err e) → IsUnrecoverable {T = Opened} (Err e)
not_as id ls ts opening.OutOfMemory h = tt
not_as id ls ts opening.Store h = tt
not_as id ls ts opening.CommitUnknown h = h
not_as id ls ts (opening.Fault f) h = absurd h

pub told_not_as : (id : ℕ) (ls : Levels) (ts : SeenLevels) (e : Error) → Told TellsOpen (OpensAs id ls ts) (Err e) → Told TellsOpen (IsUnrecoverable {T = Opened}) (Err e)
told_not_as id ls ts e told = (told.0, told.1, not_as id ls ts told.0 told.2)

-- ---- what was found doesn't meet it

none_not : (o : Option (List ℕ)) → IsSome o → o ≡ None → ⊥
none_not o there none = let e = subst (λ (p : Option (List ℕ)). IsSome p) none there in absurd (cc e)

others_in : (P : SeenLevels → Type 0) (image : Image) (f : Found) (b : Bool) → FindsIn b image f → (P f.opened.version.levels → ⊥) → IsSome (image current_name) → OpensWith P image (Err (opening.Fault Unrecoverable))
others_in P image f true finds others there = absurd (none_not (image current_name) there finds.0)
others_in P image f false found others there = inr (refl, record { id = f.opened.version.id; tables = f.opened.version.levels; next = f.opened.next_table_id; ids = f.ids.items; found = found; others = others })

pub found_others : (P : SeenLevels → Type 0) (old new : World) (f : Found) → Looks old new f → (P f.opened.version.levels → ⊥) → IsSome (old.gives current_name) → Told TellsOpen (OpensWith P old.gives) (Err error.Unrecoverable)
found_others P old new f looks others there = told_unrecoverable (OpensWith P old.gives) (others_in P old.gives f f.is_new looks.found.finds others there)

named_not : (image : Image) (f : Found) (b : Bool) → FindsIn b image f → image current_name ≡ None → f.opened.version ≡ first_version
named_not image f true finds absent = ap (λ (o : Opened). o.version) finds.1
named_not image f false found absent =
    let named = found.named in
    absurd (none_not (image current_name) (subst (λ (o : Option (List ℕ)). IsSome o) (sym named.current) refl) absent)

-- without `current` there are no tables
pub found_first : (old new : World) (f : Found) → Looks old new f → old.gives current_name ≡ None → f.opened.version ≡ first_version
found_first old new f looks absent = named_not old.gives f f.is_new looks.found.finds absent

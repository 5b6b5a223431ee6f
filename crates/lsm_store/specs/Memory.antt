-- What a store in memory is to its callers.
use Rattle.std.specs.Prelude.{◌≡◌, ◌⊎◌, ℕ, true, false, List, [], ◌∷◌, ◌++◌, Option, None, Some, Vec, Result, Ok, Err, length, drop, refl}
use mathlib.Core.Logic.{inl, inr}
use Rattle.lsm_store.specs.World.{Image, Outcomes, World, IsImage}
use Rattle.lsm_store.specs.declared.store.StoreError.{StoreError}
use Rattle.lsm_store.specs.declared.store.StoreError.TheVariants.{OutOfMemory, Fault, NothingDone as Refused}
use Rattle.std.specs.declared.alloc.Global.{Global}
use Rattle.lsm_store.specs.declared.mem_store.MemStore.{MemStore as Keeping}
use Rattle.lsm_store.specs.declared.mem_store.Moment.{Moment}
use Rattle.lsm_store.specs.declared.mem_store.plan.Outcome.{Outcome}
use Rattle.lsm_store.specs.declared.mem_store.plan.Outcome.TheVariants.{Done, Fails, FailsDone, NothingDone}
use Rattle.lsm_store.specs.Held.{Held, MayHold, fresh, written, doubted, offered, settled}
use Rattle.lsm_store.specs.Files.{Files, held_at, HoldSame, Alters, AltersEach}

-- a store in memory, which keeps the moments of its calls
abbrev pub MemStore : Type 0
MemStore = Keeping (Vec Moment Global)

-- the calls within which a crash may have come
abbrev pub Past : Type 0
Past = List Moment

abbrev pub gives_of : Files → Image
gives_of files name = (held_at files name).gives

abbrev pub may_of : Files → Outcomes
may_of files name = MayHold (held_at files name)

-- what a crash within a call may leave: of each name what it could before the call, or after it
abbrev pub between : Files → Files → Outcomes
between before after name c = may_of before name c ⊎ may_of after name c

-- an image of one of these moments
abbrev pub HadBeen : Past → Image → Type 0
HadBeen [] image = ⊥
HadBeen (s ∷ past) image = IsImage (between s.before.value s.after.value) image ⊎ HadBeen past image

-- one moment more is kept: that of a call between these
pub record KeepsMoment (before after : Files) (old new : Past) : Type 0 where
  pub moment : Moment
  pub is_before : moment.before.value ≡ before
  pub is_after : moment.after.value ≡ after
  pub pushed : new ≡ old ++ moment ∷ []

abbrev pub memory_world : Files → Past → ℕ → World
memory_world files past failures = record {
  gives = gives_of files;
  may = may_of files;
  moment = length past;
  since = λ t image. IsImage (may_of files) image ⊎ HadBeen (drop t past) image;
  failures = failures;
}

-- the same of a store, as its callers see it
abbrev pub world_of : MemStore → World
world_of m = memory_world m.files m.past.items m.failures

-- what each outcome of a call makes of what is held of its name

abbrev pub written_by : Outcome → List ℕ → Held → Held
written_by Done b h = written b h
written_by Fails b h = doubted h
written_by FailsDone b h = written b h
written_by NothingDone b h = h

abbrev pub synced_by : Outcome → Held → Held
synced_by Done h = fresh h.gives
synced_by Fails h = doubted h
synced_by FailsDone h = doubted h
synced_by NothingDone h = h

abbrev pub replaced_by : Outcome → List ℕ → Held → Held
replaced_by Done b h = fresh (Some b)
replaced_by Fails b h = offered false b h
replaced_by FailsDone b h = offered true b h
replaced_by NothingDone b h = h

abbrev pub settled_by : Outcome → Held → Held
settled_by Done h = settled h
settled_by Fails h = h
settled_by FailsDone h = settled h
settled_by NothingDone h = h

-- a call that changes one name so; a refusal for memory has no effect, nor has a call that does nothing
abbrev pub HeldAs : {T : Type 0} → List ℕ → (Held → Held) → Files → Files → Result T StoreError → Type 0
HeldAs name f old new (Ok _) = Alters name f old new
HeldAs name f old new (Err Fault) = Alters name f old new
HeldAs name f old new (Err Refused) = HoldSame old new
HeldAs name f old new (Err OutOfMemory) = HoldSame old new

-- the same of a call that changes each name so
abbrev pub EachHeldAs : {T : Type 0} → (Held → Held) → Files → Files → Result T StoreError → Type 0
EachHeldAs f old new (Ok _) = AltersEach f old new
EachHeldAs f old new (Err Fault) = AltersEach f old new
EachHeldAs f old new (Err Refused) = HoldSame old new
EachHeldAs f old new (Err OutOfMemory) = HoldSame old new

-- a sync of an absent name fails
abbrev pub sync_outcome : Outcome → Option (List ℕ) → Outcome
sync_outcome Done None = Fails
sync_outcome Done (Some b) = Done
sync_outcome Fails c = Fails
sync_outcome FailsDone c = FailsDone
sync_outcome NothingDone c = NothingDone

-- what ends a sync or a replacement that is done: what reads give is on the disk
abbrev pub ended_by : Outcome → Held → Held
ended_by Done h = fresh h.gives
ended_by Fails h = h
ended_by FailsDone h = h
ended_by NothingDone h = h

-- what reads give is one of the images
pub gives_one : (h : Held) → MayHold h h.gives
gives_one h = inl (inl refl)

none_left : (past : Past) (image : Image) → HadBeen (drop (length past) past) image → ⊥
none_left [] image had = had
none_left (s ∷ past) image had = none_left past image had

-- since this moment there is no image but those of now
pub only_now : (files : Files) (past : Past) (image : Image) → IsImage (may_of files) image ⊎ HadBeen (drop (length past) past) image → IsImage (may_of files) image
only_now files past image (inl now) = now
only_now files past image (inr had) = absurd (none_left past image had)

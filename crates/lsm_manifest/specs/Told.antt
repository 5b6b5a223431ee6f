-- Refusals as the errors of the tree.
use Rattle.std.proofs.Common.{◌∙◌, sym, ap}
use Rattle.std.specs.Prelude.{◌≡◌, ℕ, ◌+◌, ◌-◌, ◌^◌, min, List, Result, Ok, Err, OnOk, IsErrOf, codes}
use Rattle.std.specs.Borrow.{Bor}
use Rattle.lsm_below.specs.declared.error.Error.{Error}
use Rattle.lsm_below.specs.declared.error.Error.TheVariants as error
use Rattle.lsm_store.specs.World.{World}
use Rattle.lsm_manifest.specs.declared.fault.Fault.{Fault}
use Rattle.lsm_manifest.specs.declared.fault.Fault.TheVariants.{Unrecoverable, CurrentHeader, ChecksumMismatch, OutOfNumbers, InvalidVersion, TreeType, ChecksumType}
use Rattle.lsm_manifest.specs.declared.fault.ReadError.{ReadError}
use Rattle.lsm_manifest.specs.declared.fault.ReadError.TheVariants as reading
use Rattle.lsm_manifest.specs.declared.fault.OpenError.{OpenError}
use Rattle.lsm_manifest.specs.declared.fault.OpenError.TheVariants as opening
use Rattle.lsm_manifest.specs.declared.persist.PersistError.{PersistError}
use Rattle.lsm_manifest.specs.declared.persist.PersistError.TheVariants as persisting
use Rattle.lsm_manifest.specs.Recovery.{CountsStore}

-- the error names a type byte so
abbrev pub IsTag : List ℕ → ℕ → Error → Type 0
IsTag text byte e = (name : Bor (List ℕ)) × (e ≡ error.InvalidTag name byte) × (name.now ≡ text)

-- the error names a header so
abbrev pub IsHeader : List ℕ → Error → Type 0
IsHeader text e = (name : Bor (List ℕ)) × (e ≡ error.InvalidHeader name) × (name.now ≡ text)

-- how a tree type that isn't known is told: of a file's bytes, and of a store
abbrev pub InFile : ℕ → Error → Type 0
InFile byte e = IsTag (codes "TreeType") byte e

abbrev pub InStore : ℕ → Error → Type 0
InStore byte e = IsHeader (codes "TreeType") e

-- the error that tells a fault
abbrev pub TellsFault : (ℕ → Error → Type 0) → Fault → Error → Type 0
TellsFault tree_type Unrecoverable e = e ≡ error.Unrecoverable
TellsFault tree_type CurrentHeader e = IsHeader (codes "current") e
TellsFault tree_type ChecksumMismatch e = e ≡ error.ChecksumMismatch
TellsFault tree_type OutOfNumbers e = e ≡ error.OutOfNumbers
TellsFault tree_type (InvalidVersion byte) e = e ≡ error.InvalidVersion byte
TellsFault tree_type (TreeType byte) e = tree_type byte e
TellsFault tree_type (ChecksumType byte) e = IsTag (codes "ChecksumType") byte e

abbrev pub TellsRead : ReadError → Error → Type 0
TellsRead reading.OutOfMemory e = e ≡ error.OutOfMemory
TellsRead (reading.Fault f) e = TellsFault InFile f e

abbrev pub TellsOpen : OpenError → Error → Type 0
TellsOpen opening.OutOfMemory e = e ≡ error.OutOfMemory
TellsOpen opening.Store e = e ≡ error.Store
TellsOpen opening.CommitUnknown e = e ≡ error.CommitUnknown
TellsOpen (opening.Fault f) e = TellsFault InStore f e

abbrev pub TellsPersist : PersistError → Error → Type 0
TellsPersist persisting.OutOfMemory e = e ≡ error.OutOfMemory
TellsPersist persisting.Store e = e ≡ error.Store
TellsPersist persisting.CommitUnknown e = e ≡ error.CommitUnknown

-- a fact of an answer whose refusals are told by errors of the tree
abbrev pub Told : {T E : Type 0} → (E → Error → Type 0) → (Result T E → Type 0) → Result T Error → Type 0
Told {T} {E} tells fact (Ok x) = fact (Ok x)
Told {T} {E} tells fact (Err e) = (why : E) × tells why e × fact (Err why)

-- ---- weaker facts

pub told_weaker : {T E : Type 0} (tells : E → Error → Type 0) (P Q : Result T E → Type 0) (r : Result T Error) → ((q : Result T E) → P q → Q q) → Told tells P r → Told tells Q r
told_weaker tells P Q (Ok x) f told = f (Ok x) told
told_weaker tells P Q (Err e) f told = (told.0, told.1, f (Err told.0) told.2)

-- of whatever is answered
pub told_any : {T E : Type 0} (tells : E → Error → Type 0) (P : Result T E → Type 0) (X : Type 0) (r : Result T Error) → ((q : Result T E) → P q → X) → Told tells P r → X
told_any tells P X (Ok x) f told = f (Ok x) told
told_any tells P X (Err e) f told = f (Err told.0) told.2

pub told_ok : {T E : Type 0} (tells : E → Error → Type 0) (P : Result T E → Type 0) (X : Type 0) (r : Result T Error) → ((q : Result T E) → P q → OnOk q X) → Told tells P r → OnOk r X
told_ok tells P X (Ok x) f told = f (Ok x) told
told_ok tells P X (Err e) f told = tt

-- ---- whether the store failed

-- one call of the store failed where the answer says so, and none where it doesn't
pub record CountsFaults {T : Type 0} (old new : World) (r : Result T Error) : Type 0 where
  pub store : IsErrOf r error.Store → new.failures ≡ min (old.failures + 1) (2 ^ 64 - 1)
  pub unknown : IsErrOf r error.CommitUnknown → new.failures ≡ min (old.failures + 1) (2 ^ 64 - 1)
  pub none : (IsErrOf r error.Store → ⊥) → (IsErrOf r error.CommitUnknown → ⊥) → new.failures ≡ old.failures

-- what is wrong with files doesn't blame the store
fault_spares_store : (f : Fault) (e : Error) → TellsFault InStore f e → e ≡ error.Store → ⊥
fault_spares_store Unrecoverable e is h = let z = sym is ∙ h in cc z
fault_spares_store CurrentHeader e is h = let z = sym is.1 ∙ h in cc z
fault_spares_store ChecksumMismatch e is h = let z = sym is ∙ h in cc z
fault_spares_store OutOfNumbers e is h = let z = sym is ∙ h in cc z
fault_spares_store (InvalidVersion byte) e is h = let z = sym is ∙ h in cc z
fault_spares_store (TreeType byte) e is h = let z = sym is.1 ∙ h in cc z
fault_spares_store (ChecksumType byte) e is h = let z = sym is.1 ∙ h in cc z

-- nor is it a commit of unknown outcome
pub fault_is_known : (f : Fault) (e : Error) → TellsFault InStore f e → e ≡ error.CommitUnknown → ⊥
fault_is_known Unrecoverable e is h = let z = sym is ∙ h in cc z
fault_is_known CurrentHeader e is h = let z = sym is.1 ∙ h in cc z
fault_is_known ChecksumMismatch e is h = let z = sym is ∙ h in cc z
fault_is_known OutOfNumbers e is h = let z = sym is ∙ h in cc z
fault_is_known (InvalidVersion byte) e is h = let z = sym is ∙ h in cc z
fault_is_known (TreeType byte) e is h = let z = sym is.1 ∙ h in cc z
fault_is_known (ChecksumType byte) e is h = let z = sym is.1 ∙ h in cc z

-- so an opening's failures are counted as its error says
pub told_counts : {T : Type 0} (old new : World) (r : Result T Error) → Told TellsOpen (CountsStore {T = T} old new) r → CountsFaults old new r
told_counts {T} old new (Ok x) same = record { store = λ h. cc h; unknown = λ h. cc h; none = λ s u. same }
told_counts {T} old new (Err e) told = by_why told.0 told.1 told.2
  where
    by_why : (why : OpenError) → TellsOpen why e → CountsStore {T = T} old new (Err why) → CountsFaults {T = T} old new (Err e)
    by_why opening.OutOfMemory is same = record { store = λ h. (let z = ap Err (sym is) ∙ h in cc z); unknown = λ h. (let z = ap Err (sym is) ∙ h in cc z); none = λ s u. same }
    by_why opening.Store is more = record { store = λ h. more; unknown = λ h. more; none = λ s u. absurd (s (ap Err is)) }
    by_why opening.CommitUnknown is more = record { store = λ h. more; unknown = λ h. more; none = λ s u. absurd (u (ap Err is)) }
    by_why (opening.Fault f) is same = record { store = λ h. absurd (fault_spares_store f e is (cc h)); unknown = λ h. absurd (fault_is_known f e is (cc h)); none = λ s u. same }

-- What a verdict on a store says.
use Rattle.std.specs.Prelude.{◌≡◌, ◌⊎◌, ℕ, List, Err}
use Rattle.lsm_below.specs.declared.error.Error.{Error}
use Rattle.lsm_below.specs.declared.error.Error.TheVariants as error
use Rattle.lsm_store.specs.World.{Image, World}
use Rattle.lsm_manifest.specs.declared.found.Found.{Found}
use Rattle.lsm_manifest.specs.Told.{Told, TellsOpen}
use Rattle.lsm_manifest.specs.Opening.{Opens}
use Rattle.lsm_manifest.specs.Looking.{IsFoundIn}
use Rattle.lsm_log.specs.Logs.{IsLogAt, IsBadLog}

-- nothing is wrong with the files of the tree in this image, and its log is read from this number on
pub record IsTreeAt (image : Image) (from : ℕ) : Type 0 where
  pub files : Found
  pub found : IsFoundIn image files
  pub from_is : files.opened.version.log_from ≡ from

-- each record from this number on is whole, and no name is refused
pub record IsLogRead (image : Image) (from : ℕ) : Type 0 where
  pub passed : List ℕ
  pub numbers : List ℕ
  pub log : IsLogAt image from passed numbers

-- nothing is wrong with the tree, nor with the records of its log that are read
pub record IsWhole (image : Image) : Type 0 where
  pub from : ℕ
  pub tree : IsTreeAt image from
  pub log : IsLogRead image from

-- ---- what is refused

-- opening the tree without its log is refused with this error
abbrev pub RefusesTree : World → World → Error → Type 0
RefusesTree old new e = Told TellsOpen (Opens old new) (Err e)

-- a call failed, or a name is refused, or a record from this number on is none
abbrev pub RefusesLog : Image → ℕ → Error → Type 0
RefusesLog image from e = ((e ≡ error.OutOfMemory) ⊎ (e ≡ error.Store)) ⊎ ((e ≡ error.Unrecoverable) × IsBadLog image from)

-- nothing is wrong with the tree, and its log is refused with this error
pub record RefusesItsLog (image : Image) (e : Error) : Type 0 where
  pub from : ℕ
  pub tree : IsTreeAt image from
  pub refused : RefusesLog image from e

-- the tree is refused with this error, or else its log is
abbrev pub Refuses : World → World → Error → Type 0
Refuses old new e = RefusesTree old new e ⊎ RefusesItsLog old.gives e

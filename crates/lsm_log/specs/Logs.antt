-- What an image has of a log.
use Rattle.std.specs.Prelude.{◌≡◌, ◌↔◌, ◌⊎◌, ℕ, ◌<◌, ◌≤◌, ◌^◌, List, map, Some, None, IsSome, Contains}
use Rattle.std.specs.List.{AllByRecursion}
use Rattle.std.specs.List.Sorted.{IsStrictlyIncreasing}
use Rattle.lsm_store.specs.World.{Image}
use Rattle.lsm_log.specs.declared.kinds.LogName.TheVariants.{Refused}
use Rattle.lsm_log.specs.declared.record.Record.{Record}
use Rattle.lsm_log.specs.LogNames.{record_name, kind_of}
use Rattle.lsm_log.specs.Records.{Ops, IsRecordOf}

-- no name is there that a log refuses
abbrev pub HasGoodNames : Image → Type 0
HasGoodNames image = (n : List ℕ) → kind_of n ≡ Refused → image n ≡ None

-- there is a name that a log refuses
pub record HasBadName (image : Image) : Type 0 where
  pub name : List ℕ
  pub refused : kind_of name ≡ Refused
  pub there : IsSome (image name)

-- a record of this number is there, whatever its content
pub record IsThere (image : Image) (number : ℕ) : Type 0 where
  pub small : number < 2 ^ 63
  pub file : IsSome (image (record_name number))

-- the numbers of the records that are there, rising; and no name is refused
pub record AreNumbers (image : Image) (numbers : List ℕ) : Type 0 where
  pub good : HasGoodNames image
  pub each : (k : ℕ) → Contains numbers k ↔ IsThere image k
  pub rise : IsStrictlyIncreasing numbers

-- the record's file is there, and tells this batch under its own number
pub record IsRecordAt (image : Image) (number : ℕ) (r : Record) : Type 0 where
  pub bytes : List ℕ
  pub file : image (record_name number) ≡ Some bytes
  pub reads : IsRecordOf number r.ops bytes
  pub number_is : r.number ≡ number

-- the record's file is not there, or no record of its own number
abbrev pub IsNoRecordAt : Image → ℕ → Type 0
IsNoRecordAt image number = (bytes : List ℕ) (ops : Ops) → image (record_name number) ≡ Some bytes → IsRecordOf number ops bytes → ⊥

-- ---- a log from a number on

-- which records stand below a number, and which are read from it on
pub record IsLogFrom (image : Image) (from : ℕ) (passed : List ℕ) (records : List Record) : Type 0 where
  pub numbers : List ℕ
  pub are : AreNumbers image numbers
  pub passed_are : (k : ℕ) → Contains passed k ↔ (IsThere image k × (k < from))
  pub read_are : (k : ℕ) → Contains (map (λ r. r.number) records) k ↔ (IsThere image k × (from ≤ k))
  pub passed_rise : IsStrictlyIncreasing passed
  pub read_rise : IsStrictlyIncreasing (map (λ r. r.number) records)
  pub records_are : AllByRecursion (λ r. IsRecordAt image r.number r) records

-- each of these numbers has its record, in their order
pub record HasEach (image : Image) (numbers : List ℕ) : Type 0 where
  pub records : List Record
  pub named : map (λ r. r.number) records ≡ numbers
  pub records_are : AllByRecursion (λ r. IsRecordAt image r.number r) records

-- which numbers of records stand below a number, and which from it on, each with its record
pub record IsLogAt (image : Image) (from : ℕ) (passed numbers : List ℕ) : Type 0 where
  pub records : List Record
  pub named : map (λ r. r.number) records ≡ numbers
  pub log : IsLogFrom image from passed records

-- why a log isn't read: a refused name, or a record that is none
abbrev pub IsBadLog : Image → ℕ → Type 0
IsBadLog image from = HasBadName image ⊎ ((k : ℕ) × IsThere image k × (from ≤ k) × IsNoRecordAt image k)

-- one of these records isn't there, or is none
abbrev pub LacksOne : Image → List ℕ → Type 0
LacksOne image numbers = (k : ℕ) × Contains numbers k × IsNoRecordAt image k

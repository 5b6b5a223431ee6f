-- What a log has in a store, beside what counts, and a tree with a log above it.
use Rattle.std.specs.Prelude.{◌≡◌, ◌≢◌, ◌⊎◌, ℕ, ◌<◌, ◌≤◌, ◌^◌, Bool, ◌||◌, List, ◌++◌, Option, Some, None, IsSome, Contains}
use Rattle.std.specs.Option.{is_some}
use Rattle.std.specs.List.{All, AllByRecursion}
use Rattle.std.specs.List.Sorted.{IsStrictlyIncreasing}
use Rattle.lsm_store.specs.World.{Image, World}
use Rattle.lsm_model.specs.Journal.{Event}
use Rattle.lsm_model.specs.Beginnings.{Note}
use Rattle.lsm_versions.specs.Levels.{SeenVersion}
use Rattle.lsm_log.specs.declared.kinds.LogName.TheVariants.{Refused}
use Rattle.lsm_log.specs.LogNames.{record_name, kind_of}
use Rattle.lsm_log.specs.Records.{IsRecordOf}
use Rattle.lsm_log_model.specs.Records.{Batch}
use Rattle.lsm_log_model.specs.Logs.{Logged as Log, lost_of}
use Rattle.lsm_state.specs.Core.{Core, Seen}
use Rattle.lsm_state.specs.Deeds.{saved_of}
use Rattle.lsm_state.specs.Kept.{IsKeptTree}

-- a tree beside its store, the numbers of the records that may be there, and whether one of them has unknown outcome
pub record SeenLogged (S : Type 0) : Type 0 where
  pub store : S
  pub core : Core
  pub numbers : List ℕ
  pub doubted : Bool

-- the tree below its log
abbrev pub tree_of : {S : Type 0} → SeenLogged S → Seen S
tree_of t = record { store = t.store; core = t.core }

-- numbers of records rise, and are below the next one
pub record AreRecordNumbers (next : ℕ) (numbers : List ℕ) : Type 0 where
  pub rise : IsStrictlyIncreasing numbers
  pub below : All (λ k. k < next) numbers

-- what always holds of it
pub record IsKeptLogged {S : Type 0} (t : SeenLogged S) : Type 0 where
  pub tree : IsKeptTree t.core
  pub numbers : AreRecordNumbers t.core.seqno t.numbers

-- is the outcome of a commit or of a record unknown?
abbrev pub is_unsure : {S : Type 0} → SeenLogged S → Bool
is_unsure t = t.doubted || is_some t.core.lost

-- ---- beside the theory

-- a logged tree of the theory, with this journal and these notes, is this one
pub record IsLogOf (journal : List Event) (notes : List Note) (core : Core) (doubted : Bool) (t : Log) : Type 0 where
  pub tree : t.tree ≡ saved_of journal notes core
  pub from : t.log_from ≡ core.history.latest.version.log_from
  pub other : (v : SeenVersion) → core.lost ≡ Some v → t.other_from ≡ v.log_from
  pub doubt : is_some t.lost ≡ doubted

-- ---- in the store

-- the content is the record of the batch
abbrev pub IsRecordFile : Batch → Option (List ℕ) → Type 0
IsRecordFile b c = (bytes : List ℕ) × (c ≡ Some bytes) × IsRecordOf b.number b.ops bytes

-- the number is that of none of these records
abbrev pub IsNoNumber : ℕ → List Batch → Type 0
IsNoNumber n batches = AllByRecursion (λ b. b.number ≢ n) batches

-- each record that counts is there, one of unknown outcome may be, and from `log_from` on there is no other; their numbers are below
-- 2^63, and no name is refused. Of what stands below `log_from` nothing is said
pub record HasLog (t : Log) (has : List ℕ → Option (List ℕ) → Type 0) : Type 0 where
  pub counted : AllByRecursion (λ b. (c : Option (List ℕ)) → has (record_name b.number) c → IsRecordFile b c) t.records
  pub doubted : AllByRecursion (λ b. (c : Option (List ℕ)) → has (record_name b.number) c → (c ≡ None) ⊎ IsRecordFile b c) (lost_of t.lost)
  pub absent : (n : ℕ) → n < 2 ^ 63 → t.log_from ≤ n → IsNoNumber n (t.records ++ lost_of t.lost) → (c : Option (List ℕ)) → has (record_name n) c → c ≡ None
  pub named : (n : List ℕ) → kind_of n ≡ Refused → (c : Option (List ℕ)) → has n c → c ≡ None
  pub small : AllByRecursion (λ b. b.number < 2 ^ 63) (t.records ++ lost_of t.lost)

-- so it is in what a crash may leave
abbrev pub KeepsLog : World → Log → Type 0
KeepsLog w t = HasLog t w.may

-- and in an image
abbrev pub IsLogIn : Log → Image → Type 0
IsLogIn t image = HasLog t (λ n c. c ≡ image n)

-- each record that reads give has one of these numbers
abbrev pub AreKnown : World → List ℕ → Type 0
AreKnown w numbers = (k : ℕ) → k < 2 ^ 63 → IsSome (w.gives (record_name k)) → Contains numbers k

-- The open merges of a tree.
use Rattle.std.specs.Prelude.{◌≡◌, ℕ, ◌+◌, ◌<◌, Bool, true, false, not, ◌==◌, nat_eq, List, [], ◌∷◌, ◌++◌, map, filter}
use Rattle.std.specs.List.{list_any, AllByRecursion, IsDistinct}
use Rattle.lsm_below.specs.Members.{IsIn}
use Rattle.lsm_below.specs.Optimizes.{EachPair}
use Rattle.lsm_model.specs.Steps.{among}
use Rattle.lsm_compaction.specs.declared.settings.MergeSettings.{MergeSettings}
use Rattle.lsm_compaction.specs.Merges.{SeenCompaction}

-- an open merge: its number, the ids of its tables, and how it is done
pub record SeenOpenMerge : Type 0 where
  pub number : ℕ
  pub ids : List ℕ
  pub settings : MergeSettings

abbrev pub numbers_of : List SeenOpenMerge → List ℕ
numbers_of merges = map (λ m. m.number) merges

-- does one of the merges work on this table?
abbrev pub hides : List SeenOpenMerge → ℕ → Bool
hides merges i = list_any (λ m. among m.ids i) merges

-- a merge has a job's number, inputs, destination, target and watermark
pub record IsMergeOf (job : SeenCompaction) (m : SeenOpenMerge) : Type 0 where
  pub number : m.number ≡ job.number
  pub ids : (i : ℕ) → among m.ids i ≡ among job.ids i
  pub level : m.settings.dest_level ≡ job.settings.dest_level
  pub target : m.settings.target_size ≡ job.settings.target_size
  pub watermark : m.settings.watermark ≡ job.settings.watermark

-- a job is one of the open merges
abbrev pub IsOpenIn : SeenCompaction → List SeenOpenMerge → Type 0
IsOpenIn job merges = (m : SeenOpenMerge) × IsIn m merges × IsMergeOf job m

-- the merges but for that of this number
abbrev pub without : ℕ → List SeenOpenMerge → List SeenOpenMerge
without n merges = filter (λ m. not (m.number == n)) merges

-- no table is one of both merges
abbrev pub ShareNoTable : SeenOpenMerge → SeenOpenMerge → Type 0
ShareNoTable m n = (i : ℕ) → among m.ids i ≡ true → among n.ids i ≡ false

-- what a list of open merges always meets: each has its own number, and no table is one of two
pub record AreApart (merges : List SeenOpenMerge) : Type 0 where
  pub numbers : IsDistinct nat_eq (numbers_of merges)
  pub apart : EachPair ShareNoTable merges

-- the hidden ids are exactly those of the open merges
pub record AreHidden (hidden : List ℕ) (merges : List SeenOpenMerge) : Type 0 where
  pub exact : (i : ℕ) → among hidden i ≡ hides merges i
  pub facts : AreApart merges

-- ---- the merges of a tree

-- the number that the next merge gets, and the open ones, the oldest first
pub record SeenMerges : Type 0 where
  pub next : ℕ
  pub underway : List SeenOpenMerge

abbrev pub no_merges : SeenMerges
no_merges = record { next = 0; underway = [] }

-- with one more, of the tables of these ids
abbrev pub opened : List ℕ → MergeSettings → SeenMerges → SeenMerges
opened ids settings ms = record { next = ms.next + 1; underway = ms.underway ++ record { number = ms.next; ids = ids; settings = settings } ∷ [] }

-- without that of this number
abbrev pub ended : ℕ → SeenMerges → SeenMerges
ended n ms = record ms { underway = without n ms.underway }

-- what they always meet; a number is given once
pub record AreOpen (ms : SeenMerges) : Type 0 where
  pub apart : AreApart ms.underway
  pub below : AllByRecursion (λ m. m.number < ms.next) ms.underway

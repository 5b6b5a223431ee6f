-- Where tables stand in levels, and what of a choice follows from it.
use Rattle.std.specs.Prelude.{◌≡◌, ℕ, ◌<◌, ◌≤◌, ◌⊎◌, Bool, true, false, List, [], length, slice_index_or}
use Rattle.lsm_below.specs.Ranges.{overlap}
use Rattle.lsm_below.specs.Runs.{IsRun}
use Rattle.lsm_tables.specs.Tables.{SeenTable}
use Rattle.lsm_model.specs.Steps.{among}
use Rattle.lsm_versions.specs.Levels.{Levels, range}
use Rattle.lsm_pick.specs.Law.{AreFlat}

-- whether the ids name a table
abbrev pub is_chosen : List ℕ → SeenTable → Bool
is_chosen ids t = among ids t.id

-- a run of a level, empty where there is none
abbrev pub run_of : Levels → ℕ → ℕ → List SeenTable
run_of levels level run = slice_index_or (slice_index_or levels level []) run []

-- the table at a level, a run and a place
abbrev pub StandsAt : Levels → ℕ → ℕ → ℕ → SeenTable → Type 0
StandsAt levels level run place t =
    (place < length (run_of levels level run)) × (slice_index_or (run_of levels level run) place t ≡ t)

-- no two chosen tables overlap
abbrev pub AreApart : (SeenTable → Bool) → Levels → Type 0
AreApart chosen levels =
    (a b : SeenTable) (al ar ap bl br bp : ℕ) → StandsAt levels al ar ap a → StandsAt levels bl br bp b →
    chosen a ≡ true → chosen b ≡ true → overlap (range a) (range b) ≡ true → (al ≡ bl) × (ar ≡ br) × (ap ≡ bp)

-- in each run the chosen places have no gap
abbrev pub HaveNoGaps : (SeenTable → Bool) → Levels → Type 0
HaveNoGaps chosen levels =
    (a b c : SeenTable) (level run i j k : ℕ) → i < j → j < k →
    StandsAt levels level run i a → StandsAt levels level run j b → StandsAt levels level run k c →
    chosen a ≡ true → chosen c ≡ true → chosen b ≡ true

-- one run stands before another
abbrev pub Precedes : ℕ → ℕ → ℕ → ℕ → Type 0
Precedes level run other_level other_run = (level < other_level) ⊎ ((level ≡ other_level) × (run < other_run))

-- of a chosen table c and an unchosen t that overlap: where t stands before c, its level's number is below the
-- destination; where it stands after, its level's number is no less, and not both are 6
pub record PairAllowed (to c_level c_run t_level t_run : ℕ) : Type 0 where
  pub before : Precedes t_level t_run c_level c_run → t_level < to
  pub behind : Precedes c_level c_run t_level t_run → to ≤ t_level
  pub kept : Precedes c_level c_run t_level t_run → to ≡ 6 → t_level ≡ 6 → ⊥

abbrev pub ArePairsAllowed : (SeenTable → Bool) → Levels → ℕ → Type 0
ArePairsAllowed chosen levels to =
    (c t : SeenTable) (cl cr cp tl tr tp : ℕ) → StandsAt levels cl cr cp c → StandsAt levels tl tr tp t →
    chosen c ≡ true → chosen t ≡ false → overlap (range c) (range t) ≡ true → PairAllowed to cl cr tl tr

-- seven levels of runs, those from 1 on with at most one, no two tables with one id
pub record IsPlain (levels : Levels) : Type 0 where
  pub seven : length levels ≡ 7
  pub flat : AreFlat levels
  pub runs : (level run : ℕ) → IsRun range (run_of levels level run)
  pub names :
      (a b : SeenTable) (al ar ap bl br bp : ℕ) → StandsAt levels al ar ap a → StandsAt levels bl br bp b →
      a.id ≡ b.id → (al ≡ bl) × (ar ≡ br) × (ap ≡ bp)

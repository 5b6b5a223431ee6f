-- What Leveled may answer.
use Rattle.std.specs.Prelude.{◌≡◌, ℕ, zero, suc, ◌+◌, ◌-◌, ◌*◌, ◌/◌, ◌<◌, ◌≤◌, ◌⊎◌, min, max, Bool, ◌&&◌, ◌||◌, not, cond, true, false, List, [], ◌++◌, length, nat_eq, nat_le, nat_lt, filter, slice_index_or, slice_range, Option, None, Some}
use Rattle.std.specs.Bool.{MatchBool}
use Rattle.std.specs.List.{list_any}
use Rattle.lsm_below.specs.Optimizes.{tables_of}
use Rattle.lsm_below.specs.Sums.{capped}
use Rattle.lsm_tables.specs.Tables.{SeenTable}
use Rattle.lsm_model.specs.Steps.{among}
use Rattle.lsm_versions.specs.Levels.{Levels, bytes_of, is_busy}
use Rattle.lsm_pick.specs.declared.choice.Choice.{Choice}
use Rattle.lsm_pick.specs.declared.leveled.scores.Score.{Score}
use Rattle.lsm_pick.specs.declared.leveled.base.Base.{Base}
use Rattle.lsm_pick.specs.declared.leveled.cheapest.Found.{Found}
use Rattle.lsm_pick.specs.Tables.{runs_at, at, first_run, size, is_any_hidden, meets, spans_meet, is_inside}
use Rattle.lsm_pick.specs.Picks.{IsNothing, IsMerge, IsMove}
use Rattle.lsm_pick.specs.LeveledRule.{LeveledRule}

-- ---- targets

-- the greatest number of 64 bits, at which sums and targets are capped
abbrev pub cap : ℕ
cap = 18446744073709551615

-- the ratio of a place, or the last one where the list is short, or 10 for an empty list
abbrev pub ratio_at : List (ℕ × ℕ) → ℕ → ℕ × ℕ
ratio_at ratios place = slice_index_or ratios (min place (length ratios - 1)) (10, 1)

-- the target of the first level, or of the level some steps after it
unfoldable pub target_after : LeveledRule → ℕ → ℕ
target_after rule zero = min (rule.target * rule.threshold) cap
target_after rule (suc steps) =
    min (max (target_after rule steps * (ratio_at rule.ratios steps).0 / (ratio_at rule.ratios steps).1) 1) cap

-- ---- what the levels hold

-- the bytes of a table, 0 where it is hidden
abbrev pub shown_size : List ℕ → SeenTable → ℕ
shown_size hidden t = cond (among hidden t.id) 0 (size t)

-- the bytes of a level's unhidden tables
abbrev pub unhidden_bytes : List ℕ → List SeenTable → ℕ
unhidden_bytes hidden ts = capped (bytes_of (filter (λ t. not (among hidden t.id)) ts))

-- the first level is one run, the next five are empty, and the ranges of the first and the last don't overlap
abbrev pub GoesLast : Levels → Type 0
GoesLast levels =
    (length (runs_at levels 0) ≡ 1)
    × ((i : ℕ) → 1 ≤ i → i < 6 → runs_at levels i ≡ [])
    × (spans_meet (at levels 0) (at levels 6) ≡ false)

-- the first level from 1 on with a table, else 6
abbrev pub IsFirstFull : Levels → ℕ → Type 0
IsFirstFull levels first =
    (1 ≤ first) × (first ≤ 6)
    × ((i : ℕ) → 1 ≤ i → i < first → runs_at levels i ≡ [])
    × (first < 6 → 0 < length (runs_at levels first))

-- it isn't the first, it has a table, and each level with tables from it on is above its target
abbrev pub IsOverfull : LeveledRule → List ℕ → Levels → ℕ → Type 0
IsOverfull rule hidden levels first =
    (1 < first) × (0 < length (runs_at levels first))
    × ((i : ℕ) → first ≤ i → i < 7 → 0 < length (runs_at levels i) →
    target_after rule (i - first) < unhidden_bytes hidden (at levels i))

-- the first full level, the level that the first one merges into, and the shift of the targets:
-- both are one less where the full levels are above their targets
abbrev pub IsBase : LeveledRule → List ℕ → Levels → Base → Type 0
IsBase rule hidden levels base =
    IsFirstFull levels base.first
    × ((IsOverfull rule hidden levels base.first × (base.into ≡ base.first - 1) × (base.shift ≡ base.first - 2))
    ⊎ ((IsOverfull rule hidden levels base.first → ⊥) × (base.into ≡ base.first) × (base.shift ≡ base.first - 1)))

-- the first level is one run, so is the level it goes into, none of them has a hidden table, and no table there
-- overlaps the range of the first level
abbrev pub goes_into : List ℕ → Levels → ℕ → Bool
goes_into hidden levels into =
    nat_eq (length (runs_at levels 0)) 1
    && (nat_eq (length (runs_at levels into)) 1
    && (not (is_busy hidden (runs_at levels 0))
    && (not (is_busy hidden (runs_at levels into))
    && not (list_any (meets (at levels 0)) (at levels into)))))

-- ---- scores

-- the first level has the count of its tables over the threshold where it reaches that
abbrev pub first_score : LeveledRule → List SeenTable → Score
first_score rule ts =
    cond (nat_le rule.threshold (capped (length ts))) (record { top = capped (length ts); bottom = rule.threshold }) (record { top = 0; bottom = 1 })

-- a level with this target has its bytes over the target where they are above it, but 9999/100 before an empty level
abbrev pub full_score : ℕ → ℕ → List (List SeenTable) → Score
full_score bytes target next =
    cond (nat_lt target bytes)
    (cond (nat_eq (length next) 0) (record { top = 9999; bottom = 100 }) (record { top = bytes; bottom = target }))
    (record { top = 0; bottom = 1 })

-- the score of each level
abbrev pub score : LeveledRule → List ℕ → Levels → Base → ℕ → Score
score rule hidden levels base i =
    cond (nat_eq i 0) (first_score rule (at levels 0))
    (cond (nat_le base.first i && nat_lt i 6)
    (full_score (unhidden_bytes hidden (at levels i)) (target_after rule (i - base.shift - 1)) (runs_at levels (i + 1)))
    (record { top = 0; bottom = 1 }))

-- one fraction is at most another, or below it: by products
abbrev pub IsAtMost : Score → Score → Type 0
IsAtMost a b = a.top * b.bottom ≤ b.top * a.bottom

abbrev pub IsUnder : Score → Score → Type 0
IsUnder a b = a.top * b.bottom < b.top * a.bottom

-- the level below a bound with the greatest score, the highest among equal ones
abbrev pub IsBest : (ℕ → Score) → ℕ → ℕ → Type 0
IsBest scores bound best =
    (best < bound)
    × ((i : ℕ) → i < bound → IsAtMost (scores i) (scores best))
    × ((i : ℕ) → best < i → i < bound → IsUnder (scores i) (scores best))

-- ---- from the first level

-- the first level, of these runs, with what it overlaps of another
abbrev pub MayTakeFirst : LeveledRule → List (List SeenTable) → List (List SeenTable) → ℕ → Choice → Type 0
MayTakeFirst rule first low into choice =
    let top = tables_of first in
    let over = filter (meets top) (tables_of low) in
    MatchBool (not (list_any (meets top) (tables_of low)) && nat_eq (length first) 1)
    (IsMove choice (top ++ over) into 1 rule.target)
    (IsMerge choice (top ++ over) into 1 rule.target)

abbrev pub MayFromFirst : LeveledRule → List ℕ → Levels → ℕ → Choice → Type 0
MayFromFirst rule hidden levels into choice =
    MatchBool (is_busy hidden (runs_at levels 0) || is_busy hidden (runs_at levels into))
    (IsNothing choice)
    (MayTakeFirst rule (runs_at levels 0) (runs_at levels into) into choice)

-- ---- from a level further down, by windows of its first run or of the next level's

-- the tables of a run from a place on
abbrev pub window : List SeenTable → ℕ → ℕ → List SeenTable
window run place count = slice_range run place (place + count)

-- a window of at least one table
abbrev pub IsWindow : List SeenTable → ℕ → ℕ → Type 0
IsWindow run place count = (0 < count) × (place + count ≤ length run)

-- no hidden table, and the range overlaps no table of the next run
abbrev pub is_free : List ℕ → List SeenTable → List SeenTable → Bool
is_free hidden next ts = not (is_any_hidden hidden ts) && not (list_any (meets ts) next)

-- the longest free window, the leftmost among equally long ones
abbrev pub IsLongestFree : List ℕ → List SeenTable → List SeenTable → ℕ → ℕ → Type 0
IsLongestFree hidden run next place count =
    IsWindow run place count
    × (is_free hidden next (window run place count) ≡ true)
    × ((p n : ℕ) → count < n → IsWindow run p n → is_free hidden next (window run p n) ≡ false)
    × ((p : ℕ) → p < place → is_free hidden next (window run p count) ≡ false)

-- no window is free
abbrev pub HasNoFree : List ℕ → List SeenTable → List SeenTable → Type 0
HasNoFree hidden run next =
    (p n : ℕ) → IsWindow run p n → is_free hidden next (window run p n) ≡ false

-- the first place from a start on from which the tables before an end are free, or the end
pub record IsFreeStart (hidden : List ℕ) (run next : List SeenTable) (start end place : ℕ) : Type 0 where
  pub low : start ≤ place
  pub high : place ≤ end
  pub free : place < end → is_free hidden next (slice_range run place end) ≡ true
  pub before : (p : ℕ) → start ≤ p → p < place → is_free hidden next (slice_range run p end) ≡ false

-- the tables of the run that stand within the range of a window of the next one
abbrev pub pulled : List SeenTable → List SeenTable → List SeenTable
pulled run ts = filter (is_inside ts) run

-- windows in order: shorter ones first, then from left to right
abbrev pub IsBefore : ℕ → ℕ → ℕ → ℕ → Type 0
IsBefore p n place count = (n ≤ count) × (count ≤ n → p < place)

-- a window and those before it have at most 50 times the target in bytes
abbrev pub IsReached : LeveledRule → List SeenTable → ℕ → ℕ → Type 0
IsReached rule next place count =
    (bytes_of (window next place count) ≤ 50 * rule.target)
    × ((p n : ℕ) → IsWindow next p n → IsBefore p n place count → bytes_of (window next p n) ≤ 50 * rule.target)

-- nothing in it or in what it pulls is hidden, and what it pulls has bytes
abbrev pub is_fit : List ℕ → List SeenTable → List SeenTable → Bool
is_fit hidden run ts =
    not (is_any_hidden hidden ts) && (not (is_any_hidden hidden (pulled run ts)) && nat_lt 0 (bytes_of (pulled run ts)))

-- the bytes of a window and of what it pulls
abbrev pub cost : List SeenTable → List SeenTable → ℕ
cost run ts = bytes_of ts + bytes_of (pulled run ts)

-- a window that counts
abbrev pub Counts : LeveledRule → List ℕ → List SeenTable → List SeenTable → ℕ → ℕ → Type 0
Counts rule hidden run next place count =
    IsWindow next place count × IsReached rule next place count × (is_fit hidden run (window next place count) ≡ true)

-- the cheapest window that counts, the first among equal ones
abbrev pub IsCheapest : LeveledRule → List ℕ → List SeenTable → List SeenTable → ℕ → ℕ → Type 0
IsCheapest rule hidden run next place count =
    Counts rule hidden run next place count
    × ((p n : ℕ) → Counts rule hidden run next p n → cost run (window next place count) ≤ cost run (window next p n))
    × ((p n : ℕ) → Counts rule hidden run next p n → IsBefore p n place count →
    cost run (window next place count) < cost run (window next p n))

-- of the windows before a place none counts, or the one found is the cheapest of them
abbrev pub IsBestBefore : LeveledRule → List ℕ → List SeenTable → List SeenTable → ℕ → ℕ → Option Found → Type 0
IsBestBefore rule hidden run next place count None =
    (p n : ℕ) → IsBefore p n place count → Counts rule hidden run next p n → ⊥
IsBestBefore rule hidden run next place count (Some b) =
    Counts rule hidden run next b.place b.count
    × IsBefore b.place b.count place count
    × (b.cost ≡ cost run (window next b.place b.count))
    × ((p n : ℕ) → IsBefore p n place count → Counts rule hidden run next p n → b.cost ≤ cost run (window next p n))
    × ((p n : ℕ) → IsBefore p n b.place b.count → Counts rule hidden run next p n → b.cost < cost run (window next p n))

-- of all windows
abbrev pub IsFinal : LeveledRule → List ℕ → List SeenTable → List SeenTable → Option Found → Type 0
IsFinal rule hidden run next None = (p n : ℕ) → Counts rule hidden run next p n → ⊥
IsFinal rule hidden run next (Some b) = IsCheapest rule hidden run next b.place b.count

-- the windows before a place have at most 50 times the target in bytes
abbrev pub AreReached : LeveledRule → List SeenTable → ℕ → ℕ → Type 0
AreReached rule next place count =
    (p n : ℕ) → IsWindow next p n → IsBefore p n place count → bytes_of (window next p n) ≤ 50 * rule.target

-- the longest free window moves where the run is alone in its level, else it is merged
abbrev pub MayTakeFree : LeveledRule → List ℕ → Bool → List SeenTable → List SeenTable → ℕ → ℕ → Choice → Type 0
MayTakeFree rule hidden is_alone run next to down choice =
    (place : ℕ) × ((count : ℕ) × (IsLongestFree hidden run next place count
    × MatchBool is_alone
    (IsMove choice (window run place count) to down rule.target)
    (IsMerge choice (window run place count) to down rule.target)))

-- the cheapest window of the next run is merged with what it pulls; nothing is done where none counts
abbrev pub MayTakeCheapest : LeveledRule → List ℕ → List SeenTable → List SeenTable → ℕ → ℕ → Choice → Type 0
MayTakeCheapest rule hidden run next to down choice =
    ((place : ℕ) × ((count : ℕ) × (IsCheapest rule hidden run next place count
    × IsMerge choice (window next place count ++ pulled run (window next place count)) to down rule.target)))
    ⊎ (((place count : ℕ) → Counts rule hidden run next place count → ⊥) × IsNothing choice)

abbrev pub MayFromRuns : LeveledRule → List ℕ → Bool → List SeenTable → List SeenTable → ℕ → ℕ → Choice → Type 0
MayFromRuns rule hidden is_alone run next to down choice =
    MayTakeFree rule hidden is_alone run next to down choice
    ⊎ (HasNoFree hidden run next × MayTakeCheapest rule hidden run next to down choice)

-- from the first run of a level and that of the next
abbrev pub MayFromLevel : LeveledRule → List ℕ → Levels → Base → ℕ → Choice → Type 0
MayFromLevel rule hidden levels base i choice =
    MayFromRuns rule hidden (nat_eq (length (runs_at levels i)) 1)
    (first_run levels i)
    (first_run levels (i + 1))
    (i + 1) (i + 1 - base.shift) choice

-- ---- the first case that holds

abbrev pub MayByScore : LeveledRule → List ℕ → Levels → Base → ℕ → Choice → Type 0
MayByScore rule hidden levels base best choice =
    let s = score rule hidden levels base best in
    MatchBool (nat_lt s.top s.bottom)
    (IsNothing choice)
    (MatchBool (nat_eq best 0)
    (MayFromFirst rule hidden levels base.into choice)
    (MayFromLevel rule hidden levels base best choice))

abbrev pub MayAfterLast : LeveledRule → List ℕ → Levels → Choice → Type 0
MayAfterLast rule hidden levels choice =
    (base : Base) × (IsBase rule hidden levels base
    × MatchBool (goes_into hidden levels base.into)
    (IsMove choice (at levels 0) base.into 1 rule.target)
    ((best : ℕ) × (IsBest (score rule hidden levels base) 7 best
    × MayByScore rule hidden levels base best choice)))

abbrev pub MayLeveled : LeveledRule → List ℕ → Levels → Choice → Type 0
MayLeveled rule hidden levels choice =
    (GoesLast levels × IsMove choice (at levels 0) 6 1 rule.target)
    ⊎ ((GoesLast levels → ⊥) × MayAfterLast rule hidden levels choice)

-- Which choices of tables may be merged, moved or dropped.
use Rattle.std.specs.Prelude.{◌≡◌, ℕ, ◌<◌, length, slice_index_or, Bool, true, false, ◌&&◌, ◌||◌, not, List, [], ◌∷◌, map, flat_map, ◌==◌, nat_lt, nat_le, Option, Some, None, MatchOption, if◌then◌else◌, ◌↔◌}
use Rattle.std.specs.List.{list_any, AllByRecursion}
use Rattle.std.specs.List.Sorted.{IsPermutation}
use Rattle.lsm_below.specs.Keys.{Bytes}
use Rattle.lsm_below.specs.Entries.{stack}
use Rattle.lsm_below.specs.Ranges.{overlap}
use Rattle.lsm_tables.specs.Tables.{SeenTable}
use Rattle.lsm_model.specs.Views.{Placed, IsAllowed, IsIn, held, chosen_of}
use Rattle.lsm_model.specs.Steps.{among}
use Rattle.lsm_versions.specs.Levels.{Levels, HasOwnIds, range, shown_table, all_of, placed_of, AreApart, chosen_from}
pub use Rattle.lsm_versions.specs.Chosen.{is_there, AreThere, AreIdsOf}
use Rattle.lsm_checks.specs.declared.choice.Kind.{Kind}
use Rattle.lsm_checks.specs.declared.choice.Kind.TheVariants.{Merge, Move, Drop}
use Rattle.lsm_checks.specs.declared.parted_run.Fault.{Fault}
use Rattle.lsm_checks.specs.declared.parted_run.Fault.TheVariants.{OutOfOrder, StandsBelow}
use Rattle.lsm_checks.specs.declared.choice.Why.{Why}
use Rattle.lsm_checks.specs.declared.choice.Why.TheVariants.{Hidden, Missing, NoSuchLevel, Overlap, Gap, Order, Eviction, Stale}

-- ---- pairs of tables

-- some two of these, the earlier one first
abbrev pub any_pair : {A : Type 0} → (A → A → Bool) → List A → Bool
any_pair R [] = false
any_pair R (x ∷ xs) = list_any (R x) xs || any_pair R xs

abbrev pub is_chosen : List ℕ → Placed → Bool
is_chosen ids p = among ids p.table.id

-- what may be wrong between two overlapping tables, a chosen one and another, of which p stands before q
abbrev pub is_fault : Fault → ℕ → List ℕ → Placed → Placed → Bool
is_fault OutOfOrder to ids p q = (not (is_chosen ids p) && is_chosen ids q && nat_le to p.level) || (is_chosen ids p && not (is_chosen ids q) && nat_lt q.level to)
is_fault StandsBelow to ids p q = to == 6 && (is_chosen ids p && not (is_chosen ids q) && q.level == 6)

abbrev pub is_bad : Fault → ℕ → List ℕ → Placed → Placed → Bool
is_bad fault to ids p q = overlap p.table.range q.table.range && is_fault fault to ids p q

-- is something wrong between some two tables of a version?
abbrev pub any_bad : Fault → ℕ → List ℕ → Levels → Bool
any_bad fault to ids levels = any_pair (is_bad fault to ids) (placed_of levels)

-- are both chosen, and do they share a key?
abbrev pub is_clash : List ℕ → SeenTable → SeenTable → Bool
is_clash ids t u = overlap (range t) (range u) && (among ids t.id && among ids u.id)

abbrev pub any_clash : List ℕ → Levels → Bool
any_clash ids levels = any_pair (is_clash ids) (all_of levels)

-- ---- gaps

-- a chosen table comes after one that isn't
abbrev pub resumes : List ℕ → List SeenTable → Bool
resumes ids [] = false
resumes ids (t ∷ ts) = (not (among ids t.id) && list_any (λ u. among ids u.id) ts) || resumes ids ts

-- and another chosen one before both
abbrev pub has_gap : List ℕ → List SeenTable → Bool
has_gap ids [] = false
has_gap ids (t ∷ ts) = (among ids t.id && resumes ids ts) || has_gap ids ts

abbrev pub any_gap : List ℕ → Levels → Bool
any_gap ids levels = list_any (λ runs. list_any (has_gap ids) runs) levels

-- ---- reasons

abbrev pub is_merge : Kind → Bool
is_merge Merge = true
is_merge Move = false
is_merge Drop = false

abbrev pub is_move : Kind → Bool
is_move Merge = false
is_move Move = true
is_move Drop = false

abbrev pub is_drop : Kind → Bool
is_drop Merge = false
is_drop Move = false
is_drop Drop = true

-- the first reason that holds
abbrev pub first_of : List (Bool × Why) → Option Why
first_of [] = None
first_of (reason ∷ reasons) = if reason.0 then Some reason.1 else first_of reasons

-- the reasons in their order, each with whether it holds
abbrev pub reasons_of : Kind → List ℕ → ℕ → List ℕ → Levels → List (Bool × Why)
reasons_of kind ids to hidden levels =
    (list_any (among hidden) ids, Hidden)
    ∷ (list_any (λ id. not (is_there levels id)) ids, Missing)
    ∷ (not (is_drop kind) && nat_le 7 to, NoSuchLevel)
    ∷ (is_move kind && any_clash ids levels, Overlap)
    ∷ (is_merge kind && any_gap ids levels, Gap)
    ∷ (not (is_drop kind) && any_bad OutOfOrder to ids levels, Order)
    ∷ (not (is_drop kind) && any_bad StandsBelow to ids levels, Eviction)
    ∷ []

-- the first reason to decline a choice
abbrev pub first_reason_of : Kind → List ℕ → ℕ → List ℕ → Levels → Option Why
first_reason_of kind ids to hidden levels = first_of (reasons_of kind ids to hidden levels)

-- the first reason to decline a merge at its end, where stale says whether an input is gone
abbrev pub last_reason_of : Bool → List ℕ → ℕ → Levels → Option Why
last_reason_of stale ids to levels = first_of ((stale, Stale) ∷ (nat_le 7 to, NoSuchLevel) ∷ (any_bad OutOfOrder to ids levels, Order) ∷ (any_bad StandsBelow to ids levels, Eviction) ∷ [])

-- ---- what follows where no reason holds

-- a table with the id and the entries of this one is among others
abbrev pub IsAmong : List SeenTable → SeenTable → Type 0
IsAmong ts t = IsIn (shown_table t) (map shown_table ts)

-- each of these is still there, with its entries
abbrev pub AllStand : Levels → List SeenTable → Type 0
AllStand levels inputs = AllByRecursion (IsAmong (all_of levels)) inputs

-- an id that stands both among these tables and in the levels is that of tables with the same entries
abbrev pub AreOneById : List SeenTable → Levels → Type 0
AreOneById ts levels = (t u : SeenTable) → IsIn t ts → IsIn u (all_of levels) → u.id ≡ t.id → u.entries ≡ t.entries

-- tables hold of each key what those of these ids hold, in whatever order
abbrev pub HoldSame : List SeenTable → List ℕ → Levels → Type 0
HoldSame inputs ids levels = (k : Bytes) → IsPermutation (flat_map (λ t. stack k t.entries) inputs) (stack k (held (chosen_of (among ids) (placed_of levels))))

-- the first reason to decline a merge of these inputs at its end
abbrev pub IsLastReason : List SeenTable → List ℕ → ℕ → Levels → Option Why → Type 0
IsLastReason inputs ids to levels why = (stale : Bool) × ((stale ≡ false) ↔ AllStand levels inputs) × (why ≡ last_reason_of stale ids to levels)

-- the first reason to decline a merge of these inputs at its end, and what follows where there is none
pub record EndsAs (inputs : List SeenTable) (ids : List ℕ) (to : ℕ) (levels : Levels) (why : Option Why) : Type 0 where
  pub reason : IsLastReason inputs ids to levels why
  pub allowed : why ≡ None → IsAllowed to (among ids) (to == 6) (placed_of levels)
  pub level : why ≡ None → to < 7
  pub stands : why ≡ None → AllStand levels inputs
  pub same : why ≡ None → AreIdsOf ids inputs → HasOwnIds inputs → HoldSame inputs ids levels

-- the tables of these ids share no key, and may be moved to a level
pub record IsMovable (to : ℕ) (ids : List ℕ) (levels : Levels) : Type 0 where
  pub apart : AreApart (chosen_from ids levels)
  pub allowed : IsAllowed to (among ids) false (placed_of levels)

-- ---- look-ups

-- a look-up by id finds a table of these exactly where one has the id
abbrev pub IsIndex : List SeenTable → (ℕ → Option SeenTable) → Type 0
IsIndex ts find = (i : ℕ) → MatchOption (find i) (list_any (λ t. t.id == i) ts ≡ false) (λ t. IsIn t ts × (t.id ≡ i))

-- ---- places in a run

-- no table has one of these ids
abbrev pub HasNone : List ℕ → List SeenTable → Type 0
HasNone ids ts = (j : ℕ) (d : SeenTable) → j < length ts → among ids (slice_index_or ts j d).id ≡ false

-- the table at this place has one of these ids, and none before it
pub record IsFirstOf (ids : List ℕ) (ts : List SeenTable) (at : ℕ) : Type 0 where
  pub within : at < length ts
  pub passes : (d : SeenTable) → among ids (slice_index_or ts at d).id ≡ true
  pub before : (j : ℕ) (d : SeenTable) → j < at → among ids (slice_index_or ts j d).id ≡ false

-- the table at this place has one of these ids, and none after it
pub record IsLastOf (ids : List ℕ) (ts : List SeenTable) (at : ℕ) : Type 0 where
  pub within : at < length ts
  pub passes : (d : SeenTable) → among ids (slice_index_or ts at d).id ≡ true
  pub behind : (j : ℕ) (d : SeenTable) → at < j → j < length ts → among ids (slice_index_or ts j d).id ≡ false

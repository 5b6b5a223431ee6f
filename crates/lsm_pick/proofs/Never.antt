-- What Leveled and Major may answer is no drop, case by case.
use Rattle.std.proofs.Common.{ℕ, ◌+◌, ◌-◌, Bool, true, false, List, ◌++◌, nat_eq, nat_lt, ◌||◌, not, ◌&&◌, length, filter, ⊎_elim}
use Rattle.std.specs.Bool.{MatchBool}
use Rattle.std.specs.List.{list_any}
use Rattle.lsm_tables.specs.Tables.{SeenTable}
use Rattle.lsm_below.specs.Optimizes.{tables_of}
use Rattle.lsm_versions.specs.Levels.{Levels, all_of, is_busy}
use Rattle.lsm_pick.specs.declared.choice.Choice.{Choice}
use Rattle.lsm_pick.specs.declared.choice.Choice.TheVariants.{DoNothing, Merge, Move, Drop}
use Rattle.lsm_pick.specs.declared.leveled.base.Base.{Base}
use Rattle.lsm_pick.specs.Tables.{is_any_hidden, runs_at, at, first_run, meets}
use Rattle.lsm_pick.specs.Picks.{IsNothing, IsMerge, IsMove}
use Rattle.lsm_pick.specs.LeveledRule.{LeveledRule}
use Rattle.lsm_pick.specs.Leveled.{MayAfterLast, MayByScore, MayFromFirst, MayFromRuns, MayTakeFree, MayTakeCheapest, MayTakeFirst, score, goes_into}
use Rattle.lsm_pick.specs.Never.{DropsNone, LeveledNeverDrops, MajorNeverDrops}

-- what both cases give
in_each : (b : Bool) {P Q R : Type 0} → (P → R) → (Q → R) → MatchBool b P Q → R
in_each true p q m = p m
in_each false p q m = q m

nothing : (c : Choice) → IsNothing c → DropsNone c
nothing DoNothing m = tt
nothing (Merge input) m = absurd m
nothing (Move input) m = absurd m
nothing (Drop ids) m = absurd m

merge : (c : Choice) (ts : List SeenTable) (to from size : ℕ) → IsMerge c ts to from size → DropsNone c
merge DoNothing ts to from size m = absurd m
merge (Merge input) ts to from size m = tt
merge (Move input) ts to from size m = absurd m
merge (Drop ids) ts to from size m = absurd m

move : (c : Choice) (ts : List SeenTable) (to from size : ℕ) → IsMove c ts to from size → DropsNone c
move DoNothing ts to from size m = absurd m
move (Merge input) ts to from size m = absurd m
move (Move input) ts to from size m = tt
move (Drop ids) ts to from size m = absurd m

first : (rule : LeveledRule) (a b : List (List SeenTable)) (into : ℕ) (c : Choice) → MayTakeFirst rule a b into c → DropsNone c
first rule a b into c m =
    let ts = tables_of a ++ filter (meets (tables_of a)) (tables_of b) in
    in_each (not (list_any (meets (tables_of a)) (tables_of b)) && nat_eq (length a) 1) (move c ts into 1 rule.target) (merge c ts into 1 rule.target) m

from_first : (rule : LeveledRule) (hidden : List ℕ) (levels : Levels) (into : ℕ) (c : Choice) → MayFromFirst rule hidden levels into c → DropsNone c
from_first rule hidden levels into c m =
    in_each (is_busy hidden (runs_at levels 0) || is_busy hidden (runs_at levels into)) (nothing c) (first rule (runs_at levels 0) (runs_at levels into) into c) m

free : (rule : LeveledRule) (hidden : List ℕ) (is_alone : Bool) (run next : List SeenTable) (to down : ℕ) (c : Choice) → MayTakeFree rule hidden is_alone run next to down c → DropsNone c
free rule hidden is_alone run next to down c m = in_each is_alone (move c _ _ _ _) (merge c _ _ _ _) m.1.1.1

cheapest : (rule : LeveledRule) (hidden : List ℕ) (run next : List SeenTable) (to down : ℕ) (c : Choice) → MayTakeCheapest rule hidden run next to down c → DropsNone c
cheapest rule hidden run next to down c m = ⊎_elim (λ e. merge c _ _ _ _ e.1.1.1) (λ n. nothing c n.1) m

from_runs : (rule : LeveledRule) (hidden : List ℕ) (is_alone : Bool) (run next : List SeenTable) (to down : ℕ) (c : Choice) → MayFromRuns rule hidden is_alone run next to down c → DropsNone c
from_runs rule hidden is_alone run next to down c m =
    ⊎_elim (λ f. free rule hidden is_alone run next to down c f) (λ n. cheapest rule hidden run next to down c n.1) m

by_score : (rule : LeveledRule) (hidden : List ℕ) (levels : Levels) (base : Base) (best : ℕ) (c : Choice) → MayByScore rule hidden levels base best c → DropsNone c
by_score rule hidden levels base best c m =
    let s = score rule hidden levels base best in
    in_each (nat_lt s.top s.bottom) (nothing c)
    (λ n. in_each (nat_eq best 0) (from_first rule hidden levels base.into c)
    (from_runs rule hidden (nat_eq (length (runs_at levels best)) 1) (first_run levels best) (first_run levels (best + 1)) (best + 1) (best + 1 - base.shift) c) n) m

after_last : (rule : LeveledRule) (hidden : List ℕ) (levels : Levels) (c : Choice) → MayAfterLast rule hidden levels c → DropsNone c
after_last rule hidden levels c m =
    in_each (goes_into hidden levels m.0.into) (move c (at levels 0) m.0.into 1 rule.target) (λ b. by_score rule hidden levels m.0 b.0 c b.1.1) m.1.1

pub leveled : LeveledNeverDrops
leveled rule hidden levels c m = ⊎_elim (λ g. move c _ _ _ _ g.1) (λ a. after_last rule hidden levels c a.1) m

pub major : MajorNeverDrops
major target hidden levels c m = in_each (is_any_hidden hidden (all_of levels)) (nothing c) (merge c _ _ _ _) m

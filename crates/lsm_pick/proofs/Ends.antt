-- The ends of several tables, and of a part of a run.
use Rattle.std.proofs.Common.{◌≡◌, ℕ, zero, suc, ◌-◌, ◌<◌, Bool, true, false, cond, not, ◌&&◌, ◌||◌, nat_eq, Option, None, Some, MatchOption, List, [], ◌∷◌, length, get_or, take, drop, filter, refl, sym, ap, ap₂, ◌∙◌, ⊎_elim, subst, arith}
use Rattle.std.specs.List.{list_any, AllByRecursion}
use Rattle.std.proofs.lemmas.Bool.{false≢true, cases_lt}
use Rattle.std.proofs.lemmas.Bool.Decides.{nat_tests}
use Rattle.std.proofs.lemmas.List.{get_or_default}
use Rattle.std.proofs.lemmas.List.Elements.{recursion_from_All}
use Rattle.std.proofs.lemmas.List.Folds.{list_any-append}
use Rattle.lsm_below.specs.Keys.{is_below}
use Rattle.lsm_below.specs.Ranges.{Range, IsHull, hull, is_within, overlap}
use Rattle.lsm_below.specs.Runs.{IsRun}
use Rattle.lsm_below.specs.Optimizes.{tables_of}
use Rattle.lsm_tables.specs.Tables.{SeenTable}
use Rattle.lsm_versions.specs.Levels.{Levels, range}
use Rattle.lsm_pick.specs.Tables.{runs_at, is_upto, is_begun, is_open, meets, spans_meet, is_inside}
use Rattle.lsm_pick.specs.Hulls.{HasEnds, IsHullOf, overlap_of, is_met_of, met_of}
use Rattle.lsm_pick.proofs.Order.{upto_trans, upto_self, below_upto, below_then, clash}
use Rattle.lsm_pick.proofs.Members.{Has, has_at, at_has, each_has, same_by, and_left, and_right, any_same, filter_same}
use Rattle.lsm_pick.proofs.Pairs.{not_so, run_order, run_range}
use Rattle.lsm_pick.proofs.Hulls.{begun_by, open_by, by_begun, by_open}

-- a range whose ends are those of tables, and no table's are beyond
ends_by :
    (ts : List SeenTable) (r : Range) (low high : SeenTable) → Has ts low → (range low).min ≡ r.min → Has ts high → (range high).max ≡ r.max →
    ((u : SeenTable) → Has ts u → is_upto r.min (range u).min ≡ true) → ((u : SeenTable) → Has ts u → is_upto (range u).max r.max ≡ true) → HasEnds ts r
ends_by ts r low high hl el hh eh least greatest = record {
  min = λ k. same_by (is_begun k ts) (is_upto r.min k)
      (λ h. let u = begun_by ts k h in upto_trans r.min (range u.0).min k (least u.0 u.1) u.2)
      (λ h. by_begun ts k low hl (ap (λ m. is_upto m k) el ∙ h));
  max = λ k. same_by (is_open k ts) (is_upto k r.max)
      (λ h. let u = open_by ts k h in upto_trans k (range u.0).max r.max u.2 (greatest u.0 u.1))
      (λ h. by_open ts k high hh (ap (is_upto k) eh ∙ h));
}

pub hull_ends : (ts : List SeenTable) (r : Range) → IsHull range ts r → HasEnds ts r
hull_ends ts r h =
    let each = recursion_from_All (λ t. is_within (range t) r ≡ true) ts h.holds in
    let low = h.least in
    let high = h.greatest in
    ends_by ts r low.1 high.1 (at_has ts low.0 low.1 low.2 low.3) low.4 (at_has ts high.0 high.1 high.2 high.3) high.4
    (λ u m. and_left (is_upto r.min (range u).min) (is_upto (range u).max r.max) (each_has (λ t. is_within (range t) r ≡ true) ts u each m))
    (λ u m. and_right (is_upto r.min (range u).min) (is_upto (range u).max r.max) (each_has (λ t. is_within (range t) r ≡ true) ts u each m))

-- ---- parts of runs

taken_each : (P : SeenTable → Type 0) (n : ℕ) (ts : List SeenTable) → AllByRecursion P ts → AllByRecursion P (take n ts)
taken_each P zero ts h = tt
taken_each P (suc n) [] h = tt
taken_each P (suc n) (t ∷ ts) h = (h.0, taken_each P n ts h.1)

taken_run : (n : ℕ) (ts : List SeenTable) → IsRun range ts → IsRun range (take n ts)
taken_run zero ts h = tt
taken_run (suc n) [] h = tt
taken_run (suc n) (t ∷ ts) h = (h.0, taken_each (λ y. is_below (range t).max (range y).min ≡ true) n ts h.1, taken_run n ts h.2)

dropped_run : (n : ℕ) (ts : List SeenTable) → IsRun range ts → IsRun range (drop n ts)
dropped_run zero ts h = h
dropped_run (suc n) [] h = tt
dropped_run (suc n) (t ∷ ts) h = dropped_run n ts h.2

pub part_run : (n m : ℕ) (ts : List SeenTable) → IsRun range ts → IsRun range (take n (drop m ts))
part_run n m ts h = taken_run n (drop m ts) (dropped_run m ts h)

-- of a run the first and the last table have the ends
pub run_ends : (ts : List SeenTable) (x y : SeenTable) → IsRun range ts → 0 < length ts → x ≡ get_or ts 0 x → y ≡ get_or ts (length ts - 1) y → HasEnds ts (hull (range x) (range y))
run_ends ts x y run some fx fy =
    ends_by ts (hull (range x) (range y)) x y (at_has ts 0 x some (sym fx)) (sym low_is) (at_has ts (length ts - 1) y (omega arith) (sym fy)) (sym high_is)
    (λ u m. subst (λ k. is_upto k (range u).min ≡ true) (sym low_is) (after u m))
    (λ u m. subst (λ k. is_upto (range u).max k ≡ true) (sym high_is) (until u m))
  where
    own : (u : SeenTable) → Has ts u → is_upto (range u).min (range u).max ≡ true
    own u m = run_range range ts u run m

    after : (u : SeenTable) → Has ts u → is_upto (range x).min (range u).min ≡ true
    after u m =
        let at = has_at ts u m in
        let own_x = own x (at_has ts 0 x some (sym fx)) in
        ⊎_elim
        (λ more. let b = rw (sym fx, at.2) at (run_order range ts 0 at.0 x u run more at.1) in
        upto_trans (range x).min (range x).max (range u).min own_x (below_upto (range x).max (range u).min b))
        (λ le. let z : at.0 ≡ 0 = omega arith in
        let same : x ≡ u = fx ∙ (get_or_default ts 0 x u some ∙ (ap (λ n. get_or ts n u) (sym z) ∙ at.2)) in
        subst (λ v. is_upto (range x).min (range v).min ≡ true) same (upto_self (range x).min))
        (cases_lt 0 at.0)

    until : (u : SeenTable) → Has ts u → is_upto (range u).max (range y).max ≡ true
    until u m =
        let at = has_at ts u m in
        let own_y = own y (at_has ts (length ts - 1) y (omega arith) (sym fy)) in
        ⊎_elim
        (λ less. let b = rw (at.2, sym fy) at (run_order range ts at.0 (length ts - 1) u y run less (omega arith)) in
        upto_trans (range u).max (range y).min (range y).max (below_upto (range u).max (range y).min b) own_y)
        (λ ge. let z : at.0 ≡ length ts - 1 = omega (arith, at.1) in
        let same : y ≡ u = fy ∙ (get_or_default ts (length ts - 1) y u (omega arith) ∙ (ap (λ n. get_or ts n u) (sym z) ∙ at.2)) in
        subst (λ v. is_upto (range v).max (range y).max ≡ true) same (upto_self (range y).max))
        (cases_lt at.0 (length ts - 1))

    low_is : (hull (range x) (range y)).min ≡ (range x).min
    low_is =
        let isnt = not_so (is_below (range y).min (range x).min) (λ b. clash (range x).min (range y).min (after y (at_has ts (length ts - 1) y (omega arith) (sym fy))) b) in
        ap (λ b. cond b (range y).min (range x).min) isnt

    high_is : (hull (range x) (range y)).max ≡ (range y).max
    high_is =
        elim (is_below (range x).max (range y).max) as (λ b. is_below (range x).max (range y).max ≡ b → cond b (range y).max (range x).max ≡ (range y).max) [
          | true ↦ λ e. refl
          | false ↦ λ e. one_max e
        ] refl
      where
        one_max : is_below (range x).max (range y).max ≡ false → (range x).max ≡ (range y).max
        one_max e =
            ⊎_elim
            (λ more. let b = rw (sym fx, sym fy) at (run_order range ts 0 (length ts - 1) x y run more (omega arith)) in
            absurd (false≢true (sym e ∙ below_then (range x).max (range y).min (range y).max b (own y (at_has ts (length ts - 1) y (omega arith) (sym fy))))))
            (λ le. let z : length ts - 1 ≡ 0 = omega arith in
            ap (λ (v : SeenTable). (range v).max) (fx ∙ (get_or_default ts 0 x y some ∙ (ap (λ n. get_or ts n y) (sym z) ∙ sym fy))))
            (cases_lt 0 (length ts - 1))

-- ---- what a range overlaps and holds

and_swaps : (a b : Bool) → (a && b) ≡ (b && a)
and_swaps true true = refl
and_swaps true false = refl
and_swaps false true = refl
and_swaps false false = refl

module _ (ts : List SeenTable) (r : Range) (ends : HasEnds ts r) where
  pub meets_same : (t : SeenTable) → overlap (range t) r ≡ meets ts t
  meets_same t = and_swaps (is_upto (range t).min r.max) (is_upto r.min (range t).max) ∙ ap₂ (λ a b. a && b) (sym (ends.min (range t).max)) (sym (ends.max (range t).min))

  pub inside_same : (t : SeenTable) → is_within (range t) r ≡ is_inside ts t
  inside_same t = ap₂ (λ a b. a && b) (sym (ends.min (range t).min)) (sym (ends.max (range t).max))

  pub any_meets : (us : List SeenTable) → list_any (λ t. overlap (range t) r) us ≡ list_any (meets ts) us
  any_meets us = any_same (λ t. overlap (range t) r) (meets ts) us meets_same

  pub filter_meets : (us : List SeenTable) → filter (λ t. overlap (range t) r) us ≡ filter (meets ts) us
  filter_meets us = filter_same (λ t. overlap (range t) r) (meets ts) us meets_same

  pub filter_inside : (us : List SeenTable) → filter (λ t. is_within (range t) r) us ≡ filter (is_inside ts) us
  filter_inside us = filter_same (λ t. is_within (range t) r) (is_inside ts) us inside_same

  -- the ranges of two lists
  pub spans_same : (us : List SeenTable) (s : Range) → HasEnds us s → overlap s r ≡ spans_meet us ts
  spans_same us s other =
      ap₂ (λ a b. a && b)
      (sym (ends.max s.min) ∙ any_same (λ u. is_upto s.min (range u).max) (λ t. is_begun (range t).max us) ts (λ t. sym (other.min (range t).max)))
      (sym (ends.min s.max) ∙ any_same (λ u. is_upto (range u).min s.max) (λ t. is_open (range t).min us) ts (λ t. sym (other.max (range t).min)))

-- nothing overlaps the range of no table
pub none_meets : (us : List SeenTable) → list_any (meets []) us ≡ false
none_meets [] = refl
none_meets (u ∷ us) = none_meets us

pub none_met : (us : List SeenTable) → filter (meets []) us ≡ []
none_met [] = refl
none_met (u ∷ us) = none_met us

pub no_span : (us : List SeenTable) → spans_meet [] us ≡ false
no_span us = elim (list_any (λ t. false) us) as (λ b. b ≡ false → (b && b) ≡ false) [ true ↦ λ e. absurd (false≢true (sym e)) | false ↦ λ e. refl ] (nothing us)
  where
    nothing : (us : List SeenTable) → list_any (λ t. false) us ≡ false
    nothing [] = refl
    nothing (u ∷ us) = nothing us

-- ---- whether something is left

some_cases : (b r : Bool) (u : SeenTable) (us : List SeenTable) → not (nat_eq (length us) 0) ≡ r → not (nat_eq (length (cond b (u ∷ us) us)) 0) ≡ (b || r)
some_cases true r u us h = ap not (never (length us))
  where
    never : (n : ℕ) → nat_eq (suc n) 0 ≡ false
    never n = grind (arith, nat_tests)
some_cases false r u us h = h

pub some_left : (p : SeenTable → Bool) (us : List SeenTable) → not (nat_eq (length (filter p us)) 0) ≡ list_any p us
some_left p [] = refl
some_left p (u ∷ us) = some_cases (p u) (list_any p us) u (filter p us) (some_left p us)

pub any_flat : (p : SeenTable → Bool) (runs : List (List SeenTable)) → list_any (λ run. list_any p run) runs ≡ list_any p (tables_of runs)
any_flat p [] = refl
any_flat p (run ∷ runs) = ap (λ b. list_any p run || b) (any_flat p runs) ∙ sym (list_any-append p run (tables_of runs))

-- ---- ranges of levels

pub hull_of : (runs : List (List SeenTable)) (h : Option Range) → MatchOption h (runs ≡ []) (IsHull range (tables_of runs)) → IsHullOf (tables_of runs) h
hull_of runs None e = ap tables_of e
hull_of runs (Some r) h = hull_ends (tables_of runs) r h

pub met_same : (ts : List SeenTable) (h : Option Range) (us : List SeenTable) → IsHullOf ts h → is_met_of h us ≡ list_any (meets ts) us
met_same ts None us e = sym (ap (λ l. list_any (meets l) us) e ∙ none_meets us)
met_same ts (Some r) us ends = any_meets ts r ends us

pub met_filter : (ts : List SeenTable) (h : Option Range) (us : List SeenTable) → IsHullOf ts h → met_of h us ≡ filter (meets ts) us
met_filter ts None us e = sym (ap (λ l. filter (meets l) us) e ∙ none_met us)
met_filter ts (Some r) us ends = filter_meets ts r ends us

pub overlap_same : (us ts : List SeenTable) (l r : Option Range) → IsHullOf us l → IsHullOf ts r → overlap_of l r ≡ spans_meet us ts
overlap_same us ts None r e f = sym (ap (λ v. spans_meet v ts) e ∙ no_span ts)
overlap_same us ts (Some a) None e f = sym (ap (λ v. spans_meet us v) f)
overlap_same us ts (Some a) (Some b) e f = spans_same ts b f us a e

-- a level that is read is the one there
pub index_is : (levels : Levels) (i : ℕ) (x : List (List SeenTable)) → i < length levels → x ≡ get_or levels i x → x ≡ runs_at levels i
index_is levels i x lt read = read ∙ get_or_default levels i x [] lt

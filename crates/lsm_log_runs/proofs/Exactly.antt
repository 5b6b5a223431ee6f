-- A drop of the tables within bounds tells just their ranges.
use Rattle.std.proofs.Common.{◌≡◌, ℕ, ◌+◌, Bool, true, false, cond, List, [], ◌∷◌, ◌++◌, map, filter, eqb, ◌||◌, refl, sym, ap, ◌∙◌}
use Rattle.std.specs.List.{AllByRecursion, IsDistinct}
use Rattle.std.proofs.lemmas.Bool.{eq-eqb}
use Rattle.std.proofs.lemmas.List.Elements.{filter-append}
use Rattle.lsm_below.specs.Each.{each_weaker, each_both}
use Rattle.lsm_below.specs.Optimizes.{tables_of}
use Rattle.lsm_tables.specs.Tables.{SeenTable}
use Rattle.lsm_model.specs.Steps.{among}
use Rattle.lsm_model.specs.Views.{Placed, placed_at, placed_from, ranges_of}
use Rattle.lsm_pick.specs.declared.bounds.OwnedBounds.{OwnedBounds}
use Rattle.lsm_pick.specs.Simple.{holds, bounded}
use Rattle.lsm_versions.specs.Chosen.{AreIdsOf}
use Rattle.lsm_versions.specs.Levels.{Levels, HasOwnIds, all_of, range, shown_table, shown_levels, placed_in, placed_of, chosen_in}
use Rattle.lsm_versions.specs.TableLaws.{map_append, filter_same, flips, flat_append, placed_cons, others_left}

-- ---- ranges of chosen tables, level by level

in_level : (ids : List ℕ) (n : ℕ) (ts : List SeenTable) → ranges_of (among ids) (placed_in n ts) ≡ map range (chosen_in ids ts)
in_level ids n [] = refl
in_level ids n (t ∷ ts) = by_test (among ids t.id) (in_level ids n ts)
  where
    by_test : (b : Bool) → ranges_of (among ids) (placed_in n ts) ≡ map range (chosen_in ids ts) → map (λ (p : Placed). p.table.range) (cond b (placed_at n (shown_table t) ∷ filter (λ (p : Placed). among ids p.table.id) (placed_in n ts)) (filter (λ (p : Placed). among ids p.table.id) (placed_in n ts))) ≡ map range (cond b (t ∷ chosen_in ids ts) (chosen_in ids ts))
    by_test true rest = ap (λ rs. range t ∷ rs) rest
    by_test false rest = rest

both_ranges : (chosen : ℕ → Bool) (xs ys : List Placed) → ranges_of chosen (xs ++ ys) ≡ ranges_of chosen xs ++ ranges_of chosen ys
both_ranges chosen xs ys = ap (map (λ (p : Placed). p.table.range)) (filter-append (λ (p : Placed). chosen p.table.id) xs ys) ∙ map_append (λ (p : Placed). p.table.range) (filter (λ p. chosen p.table.id) xs) (filter (λ p. chosen p.table.id) ys)

in_levels : (ids : List ℕ) (n : ℕ) (levels : Levels) → ranges_of (among ids) (placed_from n (shown_levels levels)) ≡ map range (chosen_in ids (all_of levels))
in_levels ids n [] = refl
in_levels ids n (runs ∷ levels) =
    let ts = tables_of runs in
    let more = all_of levels in
    ap (ranges_of (among ids)) (placed_cons n runs levels)
    ∙ both_ranges (among ids) (placed_in n ts) (placed_from (n + 1) (shown_levels levels))
    ∙ ap (λ rs. rs ++ ranges_of (among ids) (placed_from (n + 1) (shown_levels levels))) (in_level ids n ts)
    ∙ ap (λ rs. map range (chosen_in ids ts) ++ rs) (in_levels ids (n + 1) levels)
    ∙ sym (map_append range (chosen_in ids ts) (chosen_in ids more))
    ∙ ap (map range) (sym (filter-append (λ (t : SeenTable). among ids t.id) ts more))
    ∙ ap (λ (xs : List SeenTable). map range (chosen_in ids xs)) (sym (flat_append runs (tables_of levels)))

-- ---- which are chosen

none_of : (i : ℕ) (ids : List ℕ) → AllByRecursion (λ j. eqb i j ≡ false) ids → among ids i ≡ false
none_of i [] h = refl
none_of i (j ∷ ids) h = ap (λ b. b || among ids i) h.0 ∙ none_of i ids h.1

-- of tables with ids of their own just those that pass a test have their ids among those of all that pass
just_passed : (t : SeenTable → Bool) (xs : List SeenTable) → HasOwnIds xs → AllByRecursion (λ x. among (map (λ y. y.id) (filter t xs)) x.id ≡ t x) xs
unfolding IsDistinct
just_passed t [] own = tt
just_passed t (x ∷ xs) own = (
  here (t x),
  each_both (λ y. eqb x.id y.id ≡ false) (λ y. among (ids_of (filter t xs)) y.id ≡ t y) (λ y. among (ids_of (filter t (x ∷ xs))) y.id ≡ t y) later xs (of_tables (λ j. eqb x.id j ≡ false) xs own.0) (just_passed t xs own.1),
)
  where
    ids_of : List SeenTable → List ℕ
    ids_of ts = map (λ y. y.id) ts

    of_tables : (P : ℕ → Type 0) (ts : List SeenTable) → AllByRecursion P (ids_of ts) → AllByRecursion (λ y. P y.id) ts
    of_tables P [] h = tt
    of_tables P (y ∷ ts) h = (h.0, of_tables P ts h.1)

    here : (b : Bool) → among (ids_of (cond b (x ∷ filter t xs) (filter t xs))) x.id ≡ b
    here true = ap (λ c. c || among (ids_of (filter t xs)) x.id) (eq-eqb x.id x.id refl)
    here false = none_of x.id (ids_of (filter t xs)) (others_left x.id t xs own.0)

    later : (y : SeenTable) → eqb x.id y.id ≡ false → among (ids_of (filter t xs)) y.id ≡ t y → among (ids_of (filter t (x ∷ xs))) y.id ≡ t y
    later y other known = by_test (t x) ∙ known
      where
        by_test : (b : Bool) → among (ids_of (cond b (x ∷ filter t xs) (filter t xs))) y.id ≡ among (ids_of (filter t xs)) y.id
        by_test true = ap (λ c. c || among (ids_of (filter t xs)) y.id) (flips y.id x.id ∙ other)
        by_test false = refl

-- a drop of just the tables within bounds, where no id stands twice, tells just their ranges
pub told_exactly : (bounds : OwnedBounds) (ids : List ℕ) (levels : Levels) → HasOwnIds (all_of levels) → AreIdsOf ids (bounded bounds levels) → ranges_of (among ids) (placed_of levels) ≡ map range (bounded bounds levels)
told_exactly bounds ids levels own same =
    let inside = λ (t : SeenTable). holds bounds (range t) in
    in_levels ids 0 levels
    ∙ ap (map range) (filter_same (λ t. among ids t.id) inside (all_of levels) (each_weaker
    (λ t. among (map (λ (y : SeenTable). y.id) (filter inside (all_of levels))) t.id ≡ inside t)
    (λ t. among ids t.id ≡ inside t)
    (λ t e. same t.id ∙ e)
    (all_of levels) (just_passed inside (all_of levels) own)))

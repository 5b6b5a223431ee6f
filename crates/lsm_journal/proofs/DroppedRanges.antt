-- The ranges of a drop, read off the tables one after the other.
use Rattle.std.proofs.Common.{◌≡◌, ℕ, ◌+◌, Bool, List, [], ◌∷◌, ◌++◌, map, filter, refl, sym, ap, ap₂, ◌∙◌}
use Rattle.std.proofs.lemmas.List.Elements.{filter-append}
use Rattle.lsm_below.specs.Optimizes.{tables_of}
use Rattle.lsm_below.specs.Ranges.{Range}
use Rattle.lsm_tables.specs.Tables.{SeenTable}
use Rattle.lsm_model.specs.Views.{Placed, placed_at, placed_from, ranges_of}
use Rattle.lsm_versions.specs.Levels.{Levels, range, shown_table, shown_levels, placed_in, placed_of, all_of}
use Rattle.lsm_versions.specs.TableLaws.{map_map, map_append, filter_map, flat_append, placed_cons}

-- the ranges of the tables that are chosen
abbrev pub ranges_in : (ℕ → Bool) → List SeenTable → List Range
ranges_in chosen ts = map range (filter (λ t. chosen t.id) ts)

pub ranges_both : (chosen : ℕ → Bool) (xs ys : List SeenTable) → ranges_in chosen (xs ++ ys) ≡ ranges_in chosen xs ++ ranges_in chosen ys
ranges_both chosen xs ys = ap (map range) (filter-append (λ t. chosen t.id) xs ys) ∙ map_append range (filter (λ t. chosen t.id) xs) (filter (λ t. chosen t.id) ys)

level_ranges : (chosen : ℕ → Bool) (n : ℕ) (ts : List SeenTable) → ranges_of chosen (placed_in n ts) ≡ ranges_in chosen ts
level_ranges chosen n ts =
    let at : SeenTable → Placed = λ t. placed_at n (shown_table t) in
    ap (map (λ (p : Placed). p.table.range)) (filter_map at (λ (p : Placed). chosen p.table.id) ts)
    ∙ map_map (λ (p : Placed). p.table.range) at (filter (λ t. chosen t.id) ts)

levels_ranges : (chosen : ℕ → Bool) (n : ℕ) (levels : Levels) → ranges_of chosen (placed_from n (shown_levels levels)) ≡ ranges_in chosen (all_of levels)
levels_ranges chosen n [] = refl
levels_ranges chosen n (runs ∷ levels) =
    let ts = tables_of runs in
    let here = placed_in n ts in
    let rest = placed_from (n + 1) (shown_levels levels) in
    ap (ranges_of chosen) (placed_cons n runs levels)
    ∙ ap (map (λ (p : Placed). p.table.range)) (filter-append (λ (p : Placed). chosen p.table.id) here rest)
    ∙ map_append (λ (p : Placed). p.table.range) (filter (λ (p : Placed). chosen p.table.id) here) (filter (λ (p : Placed). chosen p.table.id) rest)
    ∙ ap₂ (λ a b. a ++ b) (level_ranges chosen n ts) (levels_ranges chosen (n + 1) levels)
    ∙ sym (ranges_both chosen ts (all_of levels))
    ∙ ap (ranges_in chosen) (sym (flat_append runs (tables_of levels)))

pub ranges_shown : (chosen : ℕ → Bool) (levels : Levels) → ranges_of chosen (placed_of levels) ≡ ranges_in chosen (all_of levels)
ranges_shown chosen levels = levels_ranges chosen 0 levels

-- Tables of which no id stands twice have distinct ids to the theory.
use Rattle.std.proofs.Common.{◌≡◌, ℕ, ◌+◌, false, eqb, List, [], ◌∷◌, ◌++◌, map, refl, sym, ap, ap₂, ◌∙◌, subst}
use Rattle.std.specs.Prelude.{nat_eq}
use Rattle.std.specs.List.{AllByRecursion, IsDistinct}
use Rattle.lsm_below.specs.Optimizes.{tables_of}
use Rattle.lsm_tables.specs.Tables.{SeenTable}
use Rattle.lsm_model.specs.Views.{Placed, placed_at, placed_from, HasDistinctIds}
use Rattle.lsm_versions.specs.Levels.{Levels, shown_table, shown_levels, placed_in, placed_of, all_of, HasOwnIds}
use Rattle.lsm_versions.specs.TableLaws.{map_map, map_append, flat_append, placed_cons}

abbrev placed_id : Placed → ℕ
placed_id p = p.table.id

ids_placed : (n : ℕ) (levels : Levels) → map placed_id (placed_from n (shown_levels levels)) ≡ map (λ t. t.id) (all_of levels)
ids_placed n [] = refl
ids_placed n (runs ∷ levels) =
    let ts = tables_of runs in
    let rest = placed_from (n + 1) (shown_levels levels) in
    ap (map placed_id) (placed_cons n runs levels) ∙ map_append placed_id (placed_in n ts) rest
    ∙ ap₂ (λ a b. a ++ b) (map_map placed_id (λ (t : SeenTable). placed_at n (shown_table t)) ts) (ids_placed (n + 1) levels)
    ∙ sym (map_append (λ (t : SeenTable). t.id) ts (all_of levels)) ∙ ap (map (λ (t : SeenTable). t.id)) (sym (flat_append runs (tables_of levels)))

others : (i : ℕ) (ps : List Placed) → AllByRecursion (λ j. eqb i j ≡ false) (map placed_id ps) → AllByRecursion (λ (p : Placed). eqb i p.table.id ≡ false) ps
others i [] h = tt
others i (p ∷ ps) h = (h.0, others i ps h.1)

distinct : (ps : List Placed) → IsDistinct nat_eq (map placed_id ps) → HasDistinctIds ps
unfolding IsDistinct
distinct [] h = tt
distinct (p ∷ ps) h = (others p.table.id ps h.0, distinct ps h.1)

pub distinct_placed : (levels : Levels) → HasOwnIds (all_of levels) → HasDistinctIds (placed_of levels)
distinct_placed levels own = distinct (placed_of levels) (subst (IsDistinct nat_eq) (sym (ids_placed 0 levels)) own)

-- no id stands twice in the second part of some tables
pub own_behind : (xs ys : List SeenTable) → HasOwnIds (xs ++ ys) → HasOwnIds ys
unfolding IsDistinct
own_behind [] ys h = h
own_behind (x ∷ xs) ys h = own_behind xs ys h.1

-- The entries of tables, as they are read and as the theory holds them.
use Rattle.std.proofs.Common.{◌≡◌, ℕ, ◌+◌, List, [], ◌∷◌, ◌++◌, map, flat_map, refl, sym, ap, ◌∙◌}
use Rattle.std.proofs.lemmas.List.{map-append}
use Rattle.std.proofs.lemmas.List.Concat.{flat_map-cons}
use Rattle.std.proofs.lemmas.Grind.{flat_map-append}
use Rattle.lsm_below.specs.Entries.{Entry}
use Rattle.lsm_tables.specs.Tables.{SeenTable}
use Rattle.lsm_model.specs.Views.{Placed, Table, held, placed_at, placed_from}
use Rattle.lsm_versions.specs.Levels.{Levels, shown_table, shown_levels, placed_of}
use Rattle.lsm_recorded.specs.MarkedTables.{run_entries, level_entries, entries_in}

held_append : (ps qs : List Placed) → held (ps ++ qs) ≡ held ps ++ held qs
held_append ps qs = flat_map-append (λ (p : Placed). p.table.entries) ps qs

run_held : (n : ℕ) (tables : List SeenTable) → held (map (placed_at n) (map shown_table tables)) ≡ run_entries tables
run_held n [] = refl
run_held n (t ∷ ts) =
    flat_map-cons (λ (p : Placed). p.table.entries) (placed_at n (shown_table t)) (map (placed_at n) (map shown_table ts))
    ∙ ap (λ (es : List Entry). t.entries ++ es) (run_held n ts)
    ∙ sym (flat_map-cons (λ (u : SeenTable). u.entries) t ts)

abbrev flat : List (List Table) → List Table
flat runs = flat_map (λ (r : List Table). r) runs

level_held : (n : ℕ) (runs : List (List SeenTable)) → held (map (placed_at n) (flat (map (λ (run : List SeenTable). map shown_table run) runs))) ≡ level_entries runs
level_held n [] = refl
level_held n (r ∷ rs) =
    let rest = map (λ (run : List SeenTable). map shown_table run) rs in
    ap (λ (ts : List Table). held (map (placed_at n) ts)) (flat_map-cons (λ (x : List Table). x) (map shown_table r) rest)
    ∙ ap held (map-append (placed_at n) (map shown_table r) (flat rest))
    ∙ held_append (map (placed_at n) (map shown_table r)) (map (placed_at n) (flat rest))
    ∙ ap (λ (es : List Entry). es ++ held (map (placed_at n) (flat rest))) (run_held n r)
    ∙ ap (λ (es : List Entry). run_entries r ++ es) (level_held n rs)
    ∙ sym (flat_map-cons run_entries r rs)

levels_held : (n : ℕ) (levels : Levels) → held (placed_from n (shown_levels levels)) ≡ entries_in levels
levels_held n [] = refl
levels_held n (l ∷ ls) =
    held_append (map (placed_at n) (flat (map (λ (run : List SeenTable). map shown_table run) l))) (placed_from (n + 1) (shown_levels ls))
    ∙ ap (λ (es : List Entry). es ++ held (placed_from (n + 1) (shown_levels ls))) (level_held n l)
    ∙ ap (λ (es : List Entry). level_entries l ++ es) (levels_held (n + 1) ls)
    ∙ sym (flat_map-cons level_entries l ls)

-- what tables hold is what is read of them
pub entries_held : (levels : Levels) → entries_in levels ≡ held (placed_of levels)
entries_held levels = sym (levels_held 0 levels)

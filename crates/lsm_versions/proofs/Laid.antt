-- The tables of a version stand as the theory wants it.
use Rattle.std.proofs.Common.{◌≡◌, ℕ, ◌+◌, ◌≤◌, Bool, true, false, cond, List, [], ◌∷◌, ◌++◌, map, filter, sym, ap, subst, ◌∙◌, arith}
use Rattle.std.specs.List.{AllByRecursion}
use Rattle.lsm_below.specs.Keys.{Bytes}
use Rattle.lsm_below.specs.Entries.{stack}
use Rattle.lsm_below.specs.Ranges.{in_range}
use Rattle.lsm_below.specs.Optimizes.{tables_of, IsRearranged as KeepsOrder}
use Rattle.lsm_tables.specs.Tables.{SeenTable, IsCovered}
use Rattle.lsm_model.specs.Views.{Placed, placed_at, placed_from, held, chosen_of, EachPair, IsLaidOut}
use Rattle.lsm_model.specs.Steps.{AllCover, among}
use Rattle.lsm_below.specs.Each.{each_append, each_left, each_right}
use Rattle.lsm_model.specs.Laws.{TablesArePlaced}
use Rattle.lsm_model.specs.Views.{LevelsRise}
use Rattle.lsm_versions.specs.Levels.{Levels, all_of, range, AreCovered, shown_table, shown_levels, placed_of, placed_in, chosen_in}
use Rattle.lsm_versions.specs.TableLaws.{filter_map, placed_cons, flat_append, entries_of_placed, held_chosen}

each_made : (Q : SeenTable → Type 0) (P : Placed → Type 0) → ((n : ℕ) (t : SeenTable) → Q t → P (placed_at n (shown_table t))) → (level : ℕ) (ts : List SeenTable) → AllByRecursion Q ts → AllByRecursion P (placed_in level ts)
each_made Q P gives level [] h = tt
each_made Q P gives level (t ∷ ts) h = (gives level t h.0, each_made Q P gives level ts h.1)

-- placed tables are covered as the tables are
pub made_cover : (level : ℕ) (ts : List SeenTable) → AreCovered ts → AllCover (placed_in level ts)
made_cover = each_made (λ t. IsCovered t.entries (range t)) (λ p. IsCovered p.table.entries p.table.range) (λ n t h. h)

flat_parts : {A : Type 0} (P : A → Type 0) (xss : List (List A)) (rest : List A) → AllByRecursion P (tables_of xss ++ rest) → AllByRecursion P (tables_of xss) × AllByRecursion P rest
flat_parts P xss rest h = (each_left P (tables_of xss) rest h, each_right P (tables_of xss) rest h)

-- what each table has, each placed one has
pub each_placed : (Q : SeenTable → Type 0) (P : Placed → Type 0) → ((n : ℕ) (t : SeenTable) → Q t → P (placed_at n (shown_table t))) → (n : ℕ) (levels : Levels) → AllByRecursion Q (all_of levels) → AllByRecursion P (placed_from n (shown_levels levels))
each_placed Q P gives n [] h = tt
each_placed Q P gives n (runs ∷ levels) h =
    let parts = flat_parts _ runs (all_of levels) (subst (AllByRecursion Q) (flat_append runs (tables_of levels)) h) in
    subst (AllByRecursion P) (sym (placed_cons n runs levels))
    (each_append _ (placed_in n (tables_of runs)) (placed_from (n + 1) (shown_levels levels)) (each_made Q P gives n (tables_of runs) parts.0) (each_placed Q P gives (n + 1) levels parts.1))

levels_cover : (n : ℕ) (levels : Levels) → AreCovered (all_of levels) → AllCover (placed_from n (shown_levels levels))
levels_cover = each_placed (λ t. IsCovered t.entries (range t)) (λ p. IsCovered p.table.entries p.table.range) (λ n t h. h)

pub laid_out : LevelsRise → (levels : Levels) → AreCovered (tables_of (tables_of levels)) → IsLaidOut (placed_of levels)
laid_out rise levels h = record { covers = levels_cover 0 levels h; by_level = rise 0 (shown_levels levels) }

-- ---- a move keeps each key's entries

one_level : (n : ℕ) (ts : List SeenTable) → EachPair (λ p q. p.level ≤ q.level) (placed_in n ts)
one_level n [] = tt
one_level n (t ∷ ts) = (same_level ts, one_level n ts)
  where
    same_level : (us : List SeenTable) → AllByRecursion (λ q. n ≤ q.level) (placed_in n us)
    same_level [] = tt
    same_level (u ∷ us) = (omega arith, same_level us)

-- tables in another order, in which each key's keep theirs, hold the same of each key
pub same_stacks : TablesArePlaced → (level : ℕ) (old new : List SeenTable) → AreCovered old → AreCovered new → KeepsOrder range old new → (k : Bytes) → stack k (held (placed_in level new)) ≡ stack k (held (placed_in level old))
same_stacks law level old new covered cover keys k =
    let f = λ (t : SeenTable). placed_at level (shown_table t) in
    law.same k (placed_in level old) (placed_in level new) (made_cover level old covered) (record { covers = made_cover level new cover; by_level = one_level level new })
    (λ k. filter_map f (λ p. in_range k p.table.range) new ∙ ap (map f) (keys k) ∙ sym (filter_map f (λ p. in_range k p.table.range) old))

covered_part : (t : SeenTable → Bool) (xs : List SeenTable) → AreCovered xs → AreCovered (filter t xs)
covered_part t [] h = tt
covered_part t (x ∷ xs) h = elim (t x) as (λ b. AreCovered (cond b (x ∷ filter t xs) (filter t xs))) [ true ↦ (h.0, covered_part t xs h.1) | false ↦ covered_part t xs h.1 ]

-- a run of the chosen tables holds of each key what these do
pub moved_same : TablesArePlaced → (ids : List ℕ) (to : ℕ) (levels : Levels) (run : List SeenTable) → AreCovered (tables_of (tables_of levels)) → AreCovered run → KeepsOrder range (chosen_in ids (tables_of (tables_of levels))) run → (k : Bytes) → stack k (held (placed_in to run)) ≡ stack k (held (chosen_of (among ids) (placed_of levels)))
moved_same law ids to levels run covered cover keys k =
    let chosen = chosen_in ids (tables_of (tables_of levels)) in
    same_stacks law to chosen run (covered_part (λ t. among ids t.id) (tables_of (tables_of levels)) covered) cover keys k
    ∙ ap (stack k) (entries_of_placed to chosen ∙ sym (held_chosen ids 0 levels))

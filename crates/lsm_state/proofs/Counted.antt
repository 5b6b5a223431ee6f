-- What counts for a read over many keys.
use Rattle.std.proofs.Common.{◌≡◌, ℕ, List, [], ◌∷◌, ◌++◌, Some, None, map, flat_map, filter, nat_lt, append_assoc, refl, sym, ap, ◌∙◌}
use Rattle.std.proofs.lemmas.List.Concat.{flat_map-cons}
use Rattle.std.proofs.lemmas.List.Elements.{filter-append}
use Rattle.std.specs.Borrow.{Bor}
use Rattle.lsm_below.specs.Entries.{Entry}
use Rattle.lsm_model.specs.Views.{held, Placed, entries}
use Rattle.lsm_versions.specs.Levels.{placed_of}
use Rattle.lsm_memtable.specs.Memtables.{SeenMemtable}
use Rattle.lsm_iter.specs.Reads.{at, counted, all_counted, counted_at, state_of}
use Rattle.lsm_parts.specs.declared.version.super_version.SuperVersion.{SuperVersion}
use Rattle.lsm_parts.specs.Held.{entries_of}
use Rattle.lsm_state.specs.Core.{shown_as}
use Rattle.lsm_state.specs.Ranges.{Index, counting, index_entries}

module _ (s : ℕ) where
  abbrev visible : List Entry → List Entry
  visible es = filter (λ e. nat_lt e.key.seqno s) es

  -- of sources at a snapshot those entries count that are below it
  pub counted_below : (xs : List (List Entry)) → all_counted (map (at s) xs) ≡ visible (flat_map (λ es. es) xs)
  counted_below [] = refl
  counted_below (es ∷ xs) =
      flat_map-cons counted (at s es) (map (at s) xs)
      ∙ ap (λ l. visible es ++ l) (counted_below xs)
      ∙ sym (filter-append (λ e. nat_lt e.key.seqno s) es (flat_map (λ x. x) xs))
      ∙ ap visible (sym (flat_map-cons (λ x. x) es xs))

  -- the memtables and the tables, one after the other
  all_entries : (list : List (Bor SeenMemtable)) (tables : List Placed) → flat_map (λ es. es) (map (λ m. m.now.entries) list ++ map (λ p. p.table.entries) tables) ≡ flat_map (λ m. m.now.entries) list ++ held tables
  all_entries [] [] = refl
  all_entries [] (p ∷ tables) =
      flat_map-cons (λ es. es) p.table.entries (map (λ q. q.table.entries) tables)
      ∙ ap (λ l. p.table.entries ++ l) (all_entries [] tables)
      ∙ sym (flat_map-cons (λ q. q.table.entries) p tables)
  all_entries (m ∷ list) tables =
      flat_map-cons (λ es. es) m.now.entries (map (λ x. x.now.entries) list ++ map (λ p. p.table.entries) tables)
      ∙ ap (λ l. m.now.entries ++ l) (all_entries list tables)
      ∙ sym (append_assoc m.now.entries (flat_map (λ x. x.now.entries) list) (held tables))
      ∙ ap (λ l. l ++ held tables) (sym (flat_map-cons (λ x. x.now.entries) m list))

  module _ (sv : SuperVersion) (mems : List SeenMemtable) (list : List (Bor SeenMemtable)) (h : flat_map (λ m. m.now.entries) list ≡ flat_map (entries_of mems) ((shown_as sv).active ∷ (shown_as sv).sealed)) where
    abbrev tables : List Placed
    tables = placed_of sv.version.levels

    abbrev tree : List (List Entry)
    tree = map (λ m. m.now.entries) list ++ map (λ p. p.table.entries) tables

    tree_counts : all_counted (map (at s) tree) ≡ visible (entries (entries_of mems) (shown_as sv))
    tree_counts = counted_below tree ∙ ap visible (all_entries list tables ∙ ap (λ l. l ++ held tables) h)

    -- what a read looks at counts as the entries of its super version, under the index
    pub counted_is : (index : Index) → counted_at s (state_of sv.version list index) ≡ counting mems index s (shown_as sv)
    counted_is None = tree_counts
    counted_is (Some p) =
        flat_map-cons counted (record { entries = p.0.now.entries; below = p.1 }) (map (at s) tree)
        ∙ ap (λ l. index_entries (Some p) ++ l) tree_counts

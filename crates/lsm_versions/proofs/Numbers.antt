-- The least sequence number above the entries of a version.
use Rattle.std.proofs.Common.{◌≡◌, ℕ, ◌+◌, ◌≤◌, ◌⊎◌, inl, inr, List, [], ◌∷◌, length, flat_map, sum_by, max, refl, sym, ap, ◌∙◌, arith}
use Rattle.std.proofs.lemmas.List.Concat.{flat_map-cons}
use Rattle.std.proofs.lemmas.List.Folds.{flat_map-map}
use Rattle.std.proofs.lemmas.List.Sums.{sum_by-cons}
use Rattle.lsm_below.specs.Entries.{Entry, above}
use Rattle.lsm_below.specs.Sums.{capped}
use Rattle.lsm_model.specs.Views.{Placed, held}
use Rattle.lsm_tables.specs.Tables.{SeenTable, greatest}
use Rattle.lsm_versions.specs.Levels.{Levels, all_of, placed_of}
use Rattle.lsm_versions.specs.TableLaws.{above-append}
use Rattle.lsm_versions.specs.Totals.{greatest_of}
use Rattle.lsm_versions.proofs.Walks.{shown_all}

-- of so many entries the greatest number is this, and the least above all that
abbrev AreNumbered : ℕ → ℕ → ℕ → Type 0
AreNumbered count least most = ((count ≡ 0) × (least ≡ 0) × (most ≡ 0)) ⊎ ((1 ≤ count) × (least ≡ most + 1))

entries_numbered : (es : List Entry) → AreNumbered (length es) (above es) (greatest es)
entries_numbered [] = inl (refl, refl, refl)
entries_numbered (e ∷ es) = elim (entries_numbered es) [
  | inl h ↦ inr (omega arith, omega (arith, h.1, h.2))
  | inr h ↦ inr (omega arith, omega (arith, h.1))
]

joined_numbered : (a b l m n k : ℕ) → AreNumbered a l n → AreNumbered b m k → AreNumbered (a + b) (max l m) (max n k)
joined_numbered a b l m n k (inl x) (inl y) = inl (omega (arith, x.0, y.0), omega (arith, x.1, y.1), omega (arith, x.2, y.2))
joined_numbered a b l m n k (inl x) (inr y) = inr (omega (arith, y.0), omega (arith, x.1, x.2, y.1))
joined_numbered a b l m n k (inr x) (inl y) = inr (omega (arith, x.0), omega (arith, x.1, y.1, y.2))
joined_numbered a b l m n k (inr x) (inr y) = inr (omega (arith, x.0), omega (arith, x.1, y.1))

abbrev in_tables : List SeenTable → List Entry
in_tables ts = flat_map (λ t. t.entries) ts

tables_numbered : (ts : List SeenTable) → AreNumbered (sum_by (λ t. length t.entries) ts) (above (in_tables ts)) (greatest_of ts)
tables_numbered [] = inl (refl, refl, refl)
tables_numbered (t ∷ ts) =
    let both = joined_numbered (length t.entries) (sum_by (λ u. length u.entries) ts) (above t.entries) (above (in_tables ts)) (greatest t.entries) (greatest_of ts) (entries_numbered t.entries) (tables_numbered ts) in
    let front : above (in_tables (t ∷ ts)) ≡ max (above t.entries) (above (in_tables ts)) = ap above (flat_map-cons (λ u. u.entries) t ts) ∙ above-append t.entries (in_tables ts) in
    rw (front, sum_by-cons (λ u. length u.entries) t ts) both

held_in : (levels : Levels) → held (placed_of levels) ≡ in_tables (all_of levels)
held_in levels =
    sym (flat_map-map (λ (es : List Entry). es) (λ (p : Placed). p.table.entries) (placed_of levels))
    ∙ ap (flat_map (λ (es : List Entry). es)) (shown_all 0 levels)
    ∙ flat_map-map (λ (es : List Entry). es) (λ (t : SeenTable). t.entries) (all_of levels)

-- of no entry it is 0, else one above the greatest, as far as there is one
module _ (levels : Levels) (items : ℕ) (h : items ≡ capped (sum_by (λ t. length t.entries) (all_of levels))) where
  pub above_none : items ≡ 0 → 0 ≡ capped (above (held (placed_of levels)))
  above_none none = rw (held_in levels) (elim (tables_numbered (all_of levels)) [
    | inl x ↦ omega (arith, x.1)
    | inr x ↦ omega (arith, x.0, h, none)
  ])

  pub above_some : (1 ≤ items) → capped (greatest_of (all_of levels) + 1) ≡ capped (above (held (placed_of levels)))
  above_some some = rw (held_in levels) (elim (tables_numbered (all_of levels)) [
    | inl x ↦ omega (arith, x.0, h, some)
    | inr x ↦ omega (arith, x.1)
  ])

-- Which ranges a drop of the tables within bounds tells.
use Rattle.std.proofs.Common.{◌≡◌, ⊎_elim, ℕ, ◌+◌, Bool, true, false, cond, ◌&&◌, ◌||◌, eqb, List, [], ◌∷◌, map, filter, refl, sym, ap, ◌∙◌, subst}
use Rattle.std.specs.List.{AllByRecursion, IsDistinct}
use Rattle.std.specs.Ordering.{is_le, is_lt, ordering_reverse}
use Rattle.std.specs.declared.cmp.Ordering.{Ordering}
use Rattle.std.specs.declared.cmp.Ordering.TheVariants.{Less, Equal, Greater}
use Rattle.std.specs.declared.ops.Bound.{Bound}
use Rattle.std.specs.declared.ops.Bound.TheVariants.{Included, Excluded, Unbounded}
use Rattle.std.proofs.lemmas.Bool.{and_parts, and_from, or_cases}
use Rattle.std.proofs.lemmas.Cmp.{nat_list_cmp_total}
use Rattle.lsm_below.specs.Each.{each_append, each_left, each_right, each_weaker, each_both}
use Rattle.lsm_below.specs.Keys.{Bytes, bytes_cmp, is_below}
use Rattle.lsm_below.specs.Lookups.{is_from, is_to}
use Rattle.lsm_below.specs.Optimizes.{tables_of}
use Rattle.lsm_below.specs.Orders.{le_trans, le_of_not_lt}
use Rattle.lsm_below.specs.Ranges.{Range, in_range}
use Rattle.lsm_model.specs.Journal.{in_any}
use Rattle.lsm_model.specs.Steps.{among}
use Rattle.lsm_model.specs.Views.{Table, Placed, placed_from, ranges_of}
use Rattle.lsm_pick.specs.declared.bounds.OwnedBounds.{OwnedBounds}
use Rattle.lsm_pick.specs.Simple.{is_from as starts_from, is_to as ends_to, holds, bounded}
use Rattle.lsm_tables.specs.Tables.{SeenTable}
use Rattle.lsm_versions.specs.Chosen.{AreIdsOf}
use Rattle.lsm_versions.specs.Levels.{Levels, HasOwnIds, all_of, range, shown_table, shown_levels, placed_in, placed_of}
use Rattle.lsm_versions.specs.TableLaws.{flips, flat_append, placed_cons, others_left}
use Rattle.lsm_runs.specs.Adds.{RangesWithin}

-- ---- keys

never_both : (o : Ordering) → is_lt o ≡ true → is_le (ordering_reverse o) ≡ true → ⊥
never_both Less h k = cc k
never_both Equal h k = cc h
never_both Greater h k = cc h

-- a < b and b ≤ a
clash : (a b : Bytes) → is_lt (bytes_cmp a b) ≡ true → is_le (bytes_cmp b a) ≡ true → ⊥
clash a b h k = never_both (bytes_cmp a b) h (sym (ap is_le (nat_list_cmp_total.antisymm b a)) ∙ k)

-- a < b ≤ c
below_then : (a b c : Bytes) → is_lt (bytes_cmp a b) ≡ true → is_le (bytes_cmp b c) ≡ true → is_lt (bytes_cmp a c) ≡ true
below_then a b c h k = by_test (is_lt (bytes_cmp a c)) refl
  where
    by_test : (t : Bool) → is_lt (bytes_cmp a c) ≡ t → t ≡ true
    by_test true e = refl
    by_test false e = absurd (clash a b h (le_trans nat_list_cmp_total b c a k (le_of_not_lt nat_list_cmp_total c a e)))

-- a ≤ b < c
then_below : (a b c : Bytes) → is_le (bytes_cmp a b) ≡ true → is_lt (bytes_cmp b c) ≡ true → is_lt (bytes_cmp a c) ≡ true
then_below a b c h k = by_test (is_lt (bytes_cmp a c)) refl
  where
    by_test : (t : Bool) → is_lt (bytes_cmp a c) ≡ t → t ≡ true
    by_test true e = refl
    by_test false e = absurd (clash b c k (le_trans nat_list_cmp_total c a b (le_of_not_lt nat_list_cmp_total c a e) h))

from_start : (low : Bound Bytes) (a k : Bytes) → starts_from low a ≡ true → is_le (bytes_cmp a k) ≡ true → is_from low k ≡ true
unfolding is_below
from_start (Included low) a k h l = le_trans nat_list_cmp_total low a k h l
from_start (Excluded low) a k h l = below_then low a k h l
from_start Unbounded a k h l = refl

to_end : (high : Bound Bytes) (k b : Bytes) → is_le (bytes_cmp k b) ≡ true → ends_to high b ≡ true → is_to high k ≡ true
unfolding is_below
to_end (Included high) k b l h = le_trans nat_list_cmp_total k b high l h
to_end (Excluded high) k b l h = then_below k b high l h
to_end Unbounded k b l h = refl

abbrev pub IsWithin : OwnedBounds → Bytes → Type 0
IsWithin bounds k = (is_from bounds.start k && is_to bounds.end k) ≡ true

-- each key of a range within bounds
pub key_within : (bounds : OwnedBounds) (r : Range) (k : Bytes) → holds bounds r ≡ true → in_range k r ≡ true → IsWithin bounds k
key_within bounds r k h i =
    let ends = and_parts (starts_from bounds.start r.min) (ends_to bounds.end r.max) h in
    let at = and_parts (is_le (bytes_cmp r.min k)) (is_le (bytes_cmp k r.max)) i in
    and_from (is_from bounds.start k) (is_to bounds.end k) (from_start bounds.start r.min k ends.0 at.0) (to_end bounds.end k r.max at.1 ends.1)

-- ---- ids

none_among : (i : ℕ) (ids : List ℕ) → AllByRecursion (λ j. eqb i j ≡ false) ids → among ids i ≡ false
none_among i [] h = refl
none_among i (j ∷ ids) h = ap (λ b. b || among ids i) h.0 ∙ none_among i ids h.1

-- of tables with ids of their own, those that have the id of one that passes a test pass it
own_passes : (t : SeenTable → Bool) (xs : List SeenTable) → HasOwnIds xs → AllByRecursion (λ x. among (map (λ y. y.id) (filter t xs)) x.id ≡ true → t x ≡ true) xs
unfolding IsDistinct
own_passes t [] own = tt
own_passes t (x ∷ xs) own = (
  here (t x) refl,
  each_both (λ y. eqb x.id y.id ≡ false) (λ y. among (ids_of (filter t xs)) y.id ≡ true → t y ≡ true) (λ y. among (ids_of (filter t (x ∷ xs))) y.id ≡ true → t y ≡ true) later xs (of_tables (λ j. eqb x.id j ≡ false) xs own.0) (own_passes t xs own.1),
)
  where
    ids_of : List SeenTable → List ℕ
    ids_of ts = map (λ y. y.id) ts

    of_tables : (P : ℕ → Type 0) (ts : List SeenTable) → AllByRecursion P (ids_of ts) → AllByRecursion (λ y. P y.id) ts
    of_tables P [] h = tt
    of_tables P (y ∷ ts) h = (h.0, of_tables P ts h.1)

    here : (b : Bool) → t x ≡ b → among (ids_of (cond b (x ∷ filter t xs) (filter t xs))) x.id ≡ true → b ≡ true
    here true e h = refl
    here false e h = sym (none_among x.id (ids_of (filter t xs)) (others_left x.id t xs own.0)) ∙ h

    later : (y : SeenTable) → eqb x.id y.id ≡ false → (among (ids_of (filter t xs)) y.id ≡ true → t y ≡ true) → among (ids_of (filter t (x ∷ xs))) y.id ≡ true → t y ≡ true
    later y other known h = known (by_test (t x) h)
      where
        by_test : (b : Bool) → among (ids_of (cond b (x ∷ filter t xs) (filter t xs))) y.id ≡ true → among (ids_of (filter t xs)) y.id ≡ true
        by_test true h = sym (ap (λ c. c || among (ids_of (filter t xs)) y.id) (flips y.id x.id ∙ other)) ∙ h
        by_test false h = h

-- ---- tables of levels

module _ (P : Table → Type 0) where
  in_level : (n : ℕ) (ts : List SeenTable) → AllByRecursion (λ t. P (shown_table t)) ts → AllByRecursion (λ (p : Placed). P p.table) (placed_in n ts)
  in_level n [] h = tt
  in_level n (t ∷ ts) h = (h.0, in_level n ts h.1)

  in_levels : (n : ℕ) (levels : Levels) → AllByRecursion (λ t. P (shown_table t)) (all_of levels) → AllByRecursion (λ (p : Placed). P p.table) (placed_from n (shown_levels levels))
  in_levels n [] h = tt
  in_levels n (runs ∷ levels) h =
      let each = λ (t : SeenTable). P (shown_table t) in
      let ts = tables_of runs in
      let more = tables_of (tables_of levels) in
      let both = subst (AllByRecursion each) (flat_append runs (tables_of levels)) h in
      subst (AllByRecursion (λ (p : Placed). P p.table)) (sym (placed_cons n runs levels))
      (each_append (λ (p : Placed). P p.table) (placed_in n ts) (placed_from (n + 1) (shown_levels levels)) (in_level n ts (each_left each ts more both)) (in_levels (n + 1) levels (each_right each ts more both)))

-- ---- the law

-- the chosen ones lie within the bounds, so each key of their ranges does
told_within : (bounds : OwnedBounds) (ids : List ℕ) (ps : List Placed) → AllByRecursion (λ p. among ids p.table.id ≡ true → holds bounds p.table.range ≡ true) ps → RangesWithin bounds.start bounds.end (ranges_of (among ids) ps)
told_within bounds ids [] h k i = absurd (cc i)
told_within bounds ids (p ∷ ps) h k i = by_test (among ids p.table.id) refl (told_within bounds ids ps h.1 k) i
  where
    by_test : (b : Bool) → among ids p.table.id ≡ b → (in_any k (ranges_of (among ids) ps) ≡ true → IsWithin bounds k) → in_any k (map (λ q. q.table.range) (cond b (p ∷ filter (λ q. among ids q.table.id) ps) (filter (λ q. among ids q.table.id) ps))) ≡ true → IsWithin bounds k
    by_test true e later i = ⊎_elim (λ here. key_within bounds p.table.range k (h.0 e) here) later (or_cases (in_range k p.table.range) (in_any k (ranges_of (among ids) ps)) i)
    by_test false e later i = later i

-- a drop of just the tables within bounds, where no id stands twice, tells ranges within them
pub drop_within : (bounds : OwnedBounds) (ids : List ℕ) (levels : Levels) → HasOwnIds (all_of levels) → AreIdsOf ids (bounded bounds levels) → RangesWithin bounds.start bounds.end (ranges_of (among ids) (placed_of levels))
drop_within bounds ids levels own same =
    let ts = all_of levels in
    told_within bounds ids (placed_of levels)
    (in_levels (λ t. among ids t.id ≡ true → holds bounds t.range ≡ true) 0 levels
    (each_weaker (λ t. among (map (λ y. y.id) (bounded bounds levels)) t.id ≡ true → holds bounds (range t) ≡ true) (λ t. among ids t.id ≡ true → holds bounds (range t) ≡ true) (λ t passes h. passes (sym (same t.id) ∙ h)) ts (own_passes (λ t. holds bounds (range t)) ts own)))

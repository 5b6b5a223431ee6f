-- A walk over a run asks one table at most.
use Rattle.std.proofs.Common.{◌≡◌, ℕ, ◌+◌, Bool, true, false, not, cond, ◌&&◌, List, [], ◌∷◌, ◌++◌, map, Option, None, Some, refl, sym, ap, ◌∙◌}
use Rattle.std.specs.List.{AllByRecursion, find}
use Rattle.std.proofs.lemmas.List.{map-append}
use Rattle.std.specs.Option.{option_or}
use Rattle.std.specs.Ordering.{is_le, is_lt}
use Rattle.std.proofs.lemmas.Cmp.{nat_list_cmp_total}
use Rattle.std.proofs.lemmas.Map.Text.{is_eq-slice_cmp}
use Rattle.std.proofs.lemmas.Slice.Eq.{bytes_eq-Decides}
use Rattle.lsm_below.specs.Keys.{Bytes, bytes_cmp, is_same, is_below}
use Rattle.lsm_below.specs.Orders.{not_lt_reversed}
use Rattle.lsm_below.specs.Laws.{KeysAreOrdered}
use Rattle.lsm_below.specs.Ranges.{Range, in_range}
use Rattle.lsm_below.specs.Runs.{IsRun}
use Rattle.lsm_below.specs.Entries.{Entry, top}
use Rattle.lsm_below.specs.Optimizes.{tables_of}
use Rattle.lsm_tables.specs.Tables.{SeenTable, IsCovered}
use Rattle.lsm_model.specs.Views.{walk, placed_from}
use Rattle.lsm_versions.specs.Levels.{Levels, range, all_of, shown_levels, placed_in, AreCovered}
use Rattle.lsm_versions.specs.TableLaws.{placed_cons, flat_append}

abbrev pub entries_of : List SeenTable → List (List Entry)
entries_of ts = map (λ t. t.entries) ts

-- what the table that has the key finds
abbrev pub found_in : Bytes → ℕ → Option SeenTable → Option Entry
found_in k s None = None
found_in k s (Some t) = top k s t.entries

pub same_key : (a b : Bytes) → is_same a b ≡ true → a ≡ b
same_key a b h = (bytes_eq-Decides a b).0 (sym (is_eq-slice_cmp a b) ∙ h)

-- a table has no entry of a key out of its range
outside_none : (k : Bytes) (s : ℕ) (r : Range) (es : List Entry) → in_range k r ≡ false → IsCovered es r → top k s es ≡ None
outside_none k s r [] out h = refl
outside_none k s r (e ∷ es) out h =
    let other : is_same k e.key.user_key ≡ false = elim (is_same k e.key.user_key) as (λ b. is_same k e.key.user_key ≡ b → b ≡ false) [
      | true ↦ λ same. absurd (cc (sym h.0 ∙ (ap (λ q. in_range q r) (sym (same_key k e.key.user_key same)) ∙ out)))
      | false ↦ λ same. refl
    ] refl in
    rw other (outside_none k s r es out h.1)

le_is : (a b : Bytes) → is_le (bytes_cmp a b) ≡ not (is_below b a)
unfolding is_below
le_is a b = sym (not_lt_reversed (bytes_cmp a b)) ∙ ap (λ o. not (is_lt o)) (sym (nat_list_cmp_total.antisymm b a))

-- what comes after a range that has the key hasn't
behind_out : KeysAreOrdered → (k : Bytes) (r q : Range) → in_range k r ≡ true → is_below r.max q.min ≡ true → in_range k q ≡ false
behind_out keys k r q h b =
    let up : is_below r.max k ≡ false = falls (is_below r.max k) (sym (le_is k r.max) ∙ both (is_le (bytes_cmp r.min k)) (is_le (bytes_cmp k r.max)) h) in
    ap (λ b. b && is_le (bytes_cmp k q.max)) (le_is q.min k ∙ ap not (keys.upto_then k r.max q.min up b))
  where
    falls : (b : Bool) → not b ≡ true → b ≡ false
    falls true h = sym h
    falls false h = refl

    both : (a b : Bool) → (a && b) ≡ true → b ≡ true
    both true b h = h
    both false b h = absurd (cc h)

or_none : (o : Option Entry) → option_or o None ≡ o
or_none None = refl
or_none (Some e) = refl

rest_none : KeysAreOrdered → (k : Bytes) (s : ℕ) (r : Range) (ts : List SeenTable) → in_range k r ≡ true → AllByRecursion (λ y. is_below r.max (range y).min ≡ true) ts → AreCovered ts → walk k s (entries_of ts) ≡ None
rest_none keys k s r [] h after covered = refl
rest_none keys k s r (t ∷ ts) h after covered =
    ap (λ o. option_or o (walk k s (entries_of ts))) (outside_none k s (range t) t.entries (behind_out keys k r (range t) h after.0) covered.0)
    ∙ rest_none keys k s r ts h after.1 covered.1

-- of a run the table that has the key is asked alone
pub walk_in_run : KeysAreOrdered → (k : Bytes) (s : ℕ) (ts : List SeenTable) → IsRun range ts → AreCovered ts → walk k s (entries_of ts) ≡ found_in k s (find (λ t. in_range k (range t)) ts)
walk_in_run keys k s [] run covered = refl
walk_in_run keys k s (t ∷ ts) run covered =
    elim (in_range k (range t)) as (λ b. in_range k (range t) ≡ b → walk k s (entries_of (t ∷ ts)) ≡ found_in k s (cond b (Some t) (find (λ t. in_range k (range t)) ts))) [
      | true ↦ λ here. ap (λ o. option_or (top k s t.entries) o) (rest_none keys k s (range t) ts here run.1 covered.1) ∙ or_none (top k s t.entries)
      | false ↦ λ out. ap (λ o. option_or o (walk k s (entries_of ts))) (outside_none k s (range t) t.entries out covered.0) ∙ walk_in_run keys k s ts run.2 covered.1
    ] refl

walk_append : (k : Bytes) (s : ℕ) (xs ys : List (List Entry)) → walk k s (xs ++ ys) ≡ option_or (walk k s xs) (walk k s ys)
walk_append k s [] ys = refl
walk_append k s (x ∷ xs) ys = ap (λ o. option_or (top k s x) o) (walk_append k s xs ys) ∙ or_or (top k s x) (walk k s xs) (walk k s ys)
  where
    or_or : (a b c : Option Entry) → option_or a (option_or b c) ≡ option_or (option_or a b) c
    or_or None b c = refl
    or_or (Some e) b c = refl

-- a walk goes on after tables that have nothing, and else ends there
pub walk_on : (k : Bytes) (s : ℕ) (ts us : List SeenTable) → walk k s (entries_of (ts ++ us)) ≡ option_or (walk k s (entries_of ts)) (walk k s (entries_of us))
walk_on k s ts us = ap (walk k s) (map-append (λ t. t.entries) ts us) ∙ walk_append k s (entries_of ts) (entries_of us)

-- the tables that the theory sees are those of the levels
pub shown_all : (n : ℕ) (levels : Levels) → map (λ p. p.table.entries) (placed_from n (shown_levels levels)) ≡ entries_of (all_of levels)
shown_all n [] = refl
shown_all n (runs ∷ levels) =
    ap (map (λ p. p.table.entries)) (placed_cons n runs levels)
    ∙ map-append (λ p. p.table.entries) (placed_in n (tables_of runs)) (placed_from (n + 1) (shown_levels levels))
    ∙ ap (λ l. map (λ p. p.table.entries) (placed_in n (tables_of runs)) ++ l) (shown_all (n + 1) levels)
    ∙ ap (λ l. l ++ entries_of (all_of levels)) (placed_entries n (tables_of runs))
    ∙ sym (ap entries_of (flat_append runs (tables_of levels)) ∙ map-append (λ t. t.entries) (tables_of runs) (all_of levels))
  where
    placed_entries : (n : ℕ) (ts : List SeenTable) → map (λ p. p.table.entries) (placed_in n ts) ≡ entries_of ts
    placed_entries n [] = refl
    placed_entries n (t ∷ ts) = ap (λ l. t.entries ∷ l) (placed_entries n ts)

-- the tables of levels: those of the first one, and those after it
pub split_levels : (levels : Levels) (level runs : List (List SeenTable)) (lower : Levels) → levels ≡ level ∷ lower → level ≡ runs → all_of levels ≡ tables_of runs ++ all_of lower
split_levels levels level runs lower is same = ap all_of is ∙ flat_append level (tables_of lower) ∙ ap (λ l. tables_of l ++ all_of lower) same

-- Chosen tables share no key exactly where joining them leaves one run at most.
use Rattle.std.proofs.Common.{◌≡◌, ℕ, ◌<◌, ◌≤◌, Bool, true, false, cond, ◌&&◌, ◌||◌, ltb, List, [], ◌∷◌, length, refl, sym, ◌∙◌, ap₂, subst, arith, append-nil}
use Rattle.std.specs.List.{AllByRecursion, list_any, IsDistinct}
use Rattle.std.specs.List.Sorted.{IsPermutation}
use Rattle.std.proofs.lemmas.List.Sorted.{IsPermutation-sym}
use Rattle.std.proofs.lemmas.Map.Keys.{IsDistinct-IsPermutation}
use Rattle.std.proofs.lemmas.Bool.Decides.{nat_tests}
use Rattle.lsm_below.specs.Keys.{is_below}
use Rattle.lsm_below.specs.Ranges.{overlap}
use Rattle.lsm_below.specs.Runs.{IsRun}
use Rattle.lsm_below.specs.Optimizes.{Optimizes, tables_of}
use Rattle.lsm_tables.specs.Tables.{SeenTable}
use Rattle.lsm_model.specs.Steps.{among}
use Rattle.lsm_versions.specs.Levels.{Levels, range, chosen_in, chosen_from, all_of, AreApart}
use Rattle.lsm_checks.specs.Choices.{any_pair, is_clash, any_clash}
use Rattle.lsm_checks.proofs.Choosing.{apart_all}
use Rattle.lsm_checks.proofs.Parting.{ends_before, overlap_back}

-- a run has no two tables that share a key
each_apart : (t : SeenTable) (ts : List SeenTable) → AllByRecursion (λ y. is_below (range t).max (range y).min ≡ true) ts → AllByRecursion (λ y. overlap (range t) (range y) ≡ false) ts
each_apart t [] h = tt
each_apart t (u ∷ ts) h = (ends_before (range t) (range u) h.0, each_apart t ts h.1)

run_apart : (ts : List SeenTable) → IsRun range ts → AreApart ts
run_apart [] h = tt
run_apart (t ∷ ts) h = (each_apart t ts h.1, run_apart ts h.2)

few_apart : (runs : List (List SeenTable)) → AllByRecursion (λ r. IsRun range r × (0 < length r)) runs → length runs ≤ 1 → AreApart (tables_of runs)
few_apart [] h le = tt
few_apart (r ∷ []) h le = subst AreApart (sym (append-nil r)) (run_apart r h.0.0)
few_apart (r ∷ (s ∷ runs)) h le = absurd (omega arith)

-- in whatever order they come
abbrev pub shares : SeenTable → SeenTable → Bool
shares t u = overlap (range t) (range u)

to_distinct : (ts : List SeenTable) → AreApart ts → IsDistinct shares ts
unfolding IsDistinct
to_distinct [] h = tt
to_distinct (t ∷ ts) h = (h.0, to_distinct ts h.1)

from_distinct : (ts : List SeenTable) → IsDistinct shares ts → AreApart ts
unfolding IsDistinct
from_distinct [] h = tt
from_distinct (t ∷ ts) h = (h.0, from_distinct ts h.1)

apart_permuted : (ts us : List SeenTable) → IsPermutation ts us → AreApart ts → AreApart us
apart_permuted ts us p h = from_distinct us (IsDistinct-IsPermutation shares (λ t u. overlap_back (range t) (range u)) ts us p (to_distinct ts h))

-- what chosen tables share is a clash
none_chosen : (ids : List ℕ) (t : SeenTable) (ts : List SeenTable) → AllByRecursion (λ u. overlap (range t) (range u) ≡ false) (chosen_in ids ts) → list_any (is_clash ids t) ts ≡ false
none_chosen ids t [] h = refl
none_chosen ids t (u ∷ ts) h =
    elim (among ids u.id) as (λ b. AllByRecursion (λ u. overlap (range t) (range u) ≡ false) (cond b (u ∷ chosen_in ids ts) (chosen_in ids ts)) → ((overlap (range t) (range u) && (among ids t.id && b)) || list_any (is_clash ids t) ts) ≡ false) [
      | true ↦ λ k. ap₂ (λ o r. (o && (among ids t.id && true)) || r) k.0 (none_chosen ids t ts k.1)
      | false ↦ λ k. ap₂ (λ c r. c || r) (never (overlap (range t) (range u)) (among ids t.id)) (none_chosen ids t ts k)
    ] h
  where
    never : (a b : Bool) → (a && (b && false)) ≡ false
    never true true = refl
    never true false = refl
    never false b = refl

unchosen : (ids : List ℕ) (t : SeenTable) (ts : List SeenTable) → among ids t.id ≡ false → list_any (is_clash ids t) ts ≡ false
unchosen ids t [] h = refl
unchosen ids t (u ∷ ts) h = ap₂ (λ c r. (overlap (range t) (range u) && (c && among ids u.id)) || r) h (unchosen ids t ts h) ∙ never (overlap (range t) (range u))
  where
    never : (a : Bool) → ((a && false) || false) ≡ false
    never true = refl
    never false = refl

no_clash : (ids : List ℕ) (ts : List SeenTable) → AreApart (chosen_in ids ts) → any_pair (is_clash ids) ts ≡ false
no_clash ids [] h = refl
no_clash ids (t ∷ ts) h =
    elim (among ids t.id) as (λ b. among ids t.id ≡ b → AreApart (cond b (t ∷ chosen_in ids ts) (chosen_in ids ts)) → (list_any (is_clash ids t) ts || any_pair (is_clash ids) ts) ≡ false) [
      | true ↦ λ q k. ap₂ (λ a b. a || b) (none_chosen ids t ts k.0) (no_clash ids ts k.1)
      | false ↦ λ q k. ap₂ (λ a b. a || b) (unchosen ids t ts q) (no_clash ids ts k)
    ] refl h

many : (n : ℕ) → ltb 1 n ≡ true → 1 < n
many n h = grind (arith, nat_tests)

few : (n : ℕ) → ltb 1 n ≡ false → n ≤ 1
few n h = grind (arith, nat_tests)

-- more than one run is left exactly where two chosen tables share a key
pub joined_shows : (ids : List ℕ) (levels : Levels) (old new : List (List SeenTable)) → tables_of old ≡ chosen_from ids levels → Optimizes range old new → ltb 1 (length new) ≡ any_clash ids levels
joined_shows ids levels old new chosen rules =
    elim (ltb 1 (length new)) as (λ b. ltb 1 (length new) ≡ b → b ≡ any_clash ids levels) [
      | true ↦ λ q. clashes q (any_clash ids levels) refl
      | false ↦ λ q.
          let apart = apart_permuted (tables_of new) (tables_of old) (IsPermutation-sym (tables_of old) (tables_of new) rules.same) (few_apart new rules.runs (few (length new) q)) in
          sym (no_clash ids (all_of levels) (subst AreApart chosen apart))
    ] refl
  where
    clashes : ltb 1 (length new) ≡ true → (b : Bool) → any_clash ids levels ≡ b → true ≡ b
    clashes q true e = refl
    clashes q false e =
        let m = many (length new) q in
        let le = rules.joined (subst AreApart (sym chosen) (apart_all ids (all_of levels) e)) in
        absurd (omega arith)

-- Lists of tables, their ids and their entries: laws for proofs of this crate and of those above it.
use Rattle.std.proofs.Common.{◌≡◌, ℕ, ◌+◌, Bool, true, false, cond, not, ◌&&◌, ◌||◌, eqb, List, [], ◌∷◌, ◌++◌, map, flat_map, filter, max, refl, sym, ◌∙◌, ap, ap₂, subst, arith, append_assoc}
use Rattle.std.specs.List.{AllByRecursion, IsDistinct, list_any}
use Rattle.std.specs.List.Sorted.{IsPermutation}
use Rattle.std.proofs.lemmas.Bool.Decides.{nat_tests}
use Rattle.std.proofs.lemmas.Grind.{flat_map-append}
use Rattle.std.proofs.lemmas.List.Elements.{filter-append}
use Rattle.std.proofs.lemmas.List.Folds.{list_any-append}
use Rattle.std.proofs.lemmas.List.Sorted.{IsPermutation-append_left, IsPermutation-append_comm}
use Rattle.lsm_below.specs.Entries.{Entry, above}
use Rattle.lsm_below.specs.Keys.{is_below}
use Rattle.lsm_below.specs.Optimizes.{tables_of}
use Rattle.lsm_below.specs.Runs.{IsRun}
use Rattle.lsm_tables.specs.Tables.{SeenTable}
use Rattle.lsm_model.specs.Views.{Placed, placed_at, placed_from, held, chosen_of}
use Rattle.lsm_model.specs.Steps.{among}
use Rattle.lsm_versions.specs.Levels.{Levels, HasOwnIds, range, shown_table, shown_levels, placed_in, chosen_in}

-- ---- lists

pub map_map : {A B C : Type 0} (f : B → C) (g : A → B) (xs : List A) → map f (map g xs) ≡ map (λ x. f (g x)) xs
map_map f g [] = refl
map_map f g (x ∷ xs) = ap (λ l. f (g x) ∷ l) (map_map f g xs)

pub map_append : {A B : Type 0} (f : A → B) (xs ys : List A) → map f (xs ++ ys) ≡ map f xs ++ map f ys
map_append f [] ys = refl
map_append f (x ∷ xs) ys = ap (λ l. f x ∷ l) (map_append f xs ys)

pub flat_of : {A B : Type 0} (f : A → B) (xss : List (List A)) → flat_map (λ r. r) (map (λ r. map f r) xss) ≡ map f (flat_map (λ r. r) xss)
flat_of f [] = refl
flat_of f (xs ∷ xss) = ap (λ l. map f xs ++ l) (flat_of f xss) ∙ sym (map_append f xs (flat_map (λ r. r) xss))

pub filter_map : {A B : Type 0} (f : A → B) (t : B → Bool) (xs : List A) → filter t (map f xs) ≡ map f (filter (λ x. t (f x)) xs)
filter_map f t [] = refl
filter_map f t (x ∷ xs) = elim (t (f x)) as (λ b. cond b (f x ∷ filter t (map f xs)) (filter t (map f xs)) ≡ map f (cond b (x ∷ filter (λ y. t (f y)) xs) (filter (λ y. t (f y)) xs))) [
  | true ↦ ap (λ l. f x ∷ l) (filter_map f t xs)
  | false ↦ filter_map f t xs
]

-- two tests that agree on each element
pub filter_same : {A : Type 0} (t u : A → Bool) (xs : List A) → AllByRecursion (λ x. t x ≡ u x) xs → filter t xs ≡ filter u xs
filter_same t u [] h = refl
filter_same t u (x ∷ xs) h = ap (λ b. cond b (x ∷ filter t xs) (filter t xs)) h.0 ∙ ap (λ l. cond (u x) (x ∷ l) l) (filter_same t u xs h.1)

pub or_parts : (a b : Bool) → (a || b) ≡ false → (a ≡ false) × (b ≡ false)
or_parts true b h = absurd (cc h)
or_parts false b h = (refl, h)

pub none_with : {A : Type 0} (t : A → Bool) (xs : List A) → list_any t xs ≡ false → AllByRecursion (λ x. t x ≡ false) xs
none_with t [] h = tt
none_with t (x ∷ xs) h = let p = or_parts (t x) (list_any t xs) h in (p.0, none_with t xs p.1)

-- ---- ids

pub flips : (x y : ℕ) → eqb x y ≡ eqb y x
flips x y = elim (eqb x y) as (λ b. eqb x y ≡ b → b ≡ eqb y x) [ true ↦ λ q. sym (other_true x y q) | false ↦ λ q. sym (other_false x y q) ] refl
  where
    other_true : (x y : ℕ) → eqb x y ≡ true → eqb y x ≡ true
    other_true x y q = grind (arith, nat_tests)

    other_false : (x y : ℕ) → eqb x y ≡ false → eqb y x ≡ false
    other_false x y q = grind (arith, nat_tests)

pub or_none : (b : Bool) → (b || false) ≡ b
or_none true = refl
or_none false = refl

put_cases : (t a b : Bool) → cond t true (a || b) ≡ (a || (b || t))
put_cases true true b = refl
put_cases true false true = refl
put_cases true false false = refl
put_cases false true b = refl
put_cases false false true = refl
put_cases false false false = refl

take_cases : (t a b : Bool) → cond t false (a && not b) ≡ (a && not (b || t))
take_cases true true true = refl
take_cases true true false = refl
take_cases true false b = refl
take_cases false true true = refl
take_cases false true false = refl
take_cases false false b = refl

module _ {A : Type 0} (f : A → ℕ) where
  pub among_append : (xs ys : List A) (i : ℕ) → among (map f (xs ++ ys)) i ≡ (among (map f xs) i || among (map f ys) i)
  among_append xs ys i = ap (λ l. among l i) (map_append f xs ys) ∙ list_any-append (eqb i) (map f xs) (map f ys)

  among_push : (xs : List A) (x : A) (i : ℕ) → among (map f (xs ++ x ∷ [])) i ≡ (among (map f xs) i || eqb i (f x))
  among_push xs x i = among_append xs (x ∷ []) i ∙ ap (λ b. among (map f xs) i || b) (or_none (eqb i (f x)))

  -- one more is put in
  pub put_more : (xs : List A) (x : A) (i : ℕ) (new now old : Bool) → new ≡ cond (eqb (f x) i) true now → now ≡ (old || among (map f xs) i) → new ≡ (old || among (map f (xs ++ x ∷ [])) i)
  put_more xs x i new now old step so_far =
      let b = among (map f xs) i in
      step ∙ ap₂ (λ t m. cond t true m) (flips (f x) i) so_far ∙ put_cases (eqb i (f x)) old b ∙ ap (λ m. old || m) (sym (among_push xs x i))

  -- one more is taken out
  pub take_more_out : (xs : List A) (x : A) (i : ℕ) (new now old : Bool) → new ≡ cond (eqb (f x) i) false now → now ≡ (old && not (among (map f xs) i)) → new ≡ (old && not (among (map f (xs ++ x ∷ [])) i))
  take_more_out xs x i new now old step so_far =
      let b = among (map f xs) i in
      step ∙ ap₂ (λ t m. cond t false m) (flips (f x) i) so_far ∙ take_cases (eqb i (f x)) old b ∙ ap (λ m. old && not m) (sym (among_push xs x i))

-- ---- tables

pub front_moves : {A : Type 0} (a b c : List A) → IsPermutation (a ++ (b ++ c)) (b ++ (a ++ c))
front_moves a b c =
    subst (λ ts. IsPermutation ts (b ++ (a ++ c))) (append_assoc a b c) (subst (IsPermutation ((a ++ b) ++ c)) (append_assoc b a c) (IsPermutation-append_left c (a ++ b) (b ++ a) (IsPermutation-append_comm a b)))

pub flat_append : (xss yss : List (List SeenTable)) → tables_of (xss ++ yss) ≡ tables_of xss ++ tables_of yss
flat_append [] yss = refl
flat_append (xs ∷ xss) yss = ap (λ l. xs ++ l) (flat_append xss yss) ∙ sym (append_assoc xs (tables_of xss) (tables_of yss))

pub placed_cons : (n : ℕ) (runs : List (List SeenTable)) (levels : Levels) → placed_from n (shown_levels (runs ∷ levels)) ≡ placed_in n (tables_of runs) ++ placed_from (n + 1) (shown_levels levels)
placed_cons n runs levels =
    ap (λ l. l ++ placed_from (n + 1) (shown_levels levels)) (ap (map (placed_at n)) (flat_of shown_table runs) ∙ map_map (placed_at n) shown_table (tables_of runs))

pub entries_of_placed : (level : ℕ) (ts : List SeenTable) → held (placed_in level ts) ≡ flat_map (λ t. t.entries) ts
entries_of_placed level [] = refl
entries_of_placed level (t ∷ ts) = ap (λ es. t.entries ++ es) (entries_of_placed level ts)

pub held_both : (xs ys : List Placed) → held (xs ++ ys) ≡ held xs ++ held ys
held_both [] ys = refl
held_both (x ∷ xs) ys = ap (λ es. x.table.entries ++ es) (held_both xs ys) ∙ sym (append_assoc x.table.entries (held xs) (held ys))

pub above-append : (xs ys : List Entry) → above (xs ++ ys) ≡ max (above xs) (above ys)
above-append [] ys = omega arith
above-append (x ∷ xs) ys = let h = above-append xs ys in omega (arith, h)

pub held_chosen : (ids : List ℕ) (n : ℕ) (levels : Levels) → held (chosen_of (among ids) (placed_from n (shown_levels levels))) ≡ flat_map (λ t. t.entries) (chosen_in ids (tables_of (tables_of levels)))
held_chosen ids n [] = refl
held_chosen ids n (runs ∷ levels) =
    let f = λ (t : SeenTable). placed_at n (shown_table t) in
    let rest = placed_from (n + 1) (shown_levels levels) in
    let ts = tables_of runs in
    let more = tables_of (tables_of levels) in
    ap (λ ps. held (chosen_of (among ids) ps)) (placed_cons n runs levels)
    ∙ ap held (filter-append (λ p. among ids p.table.id) (placed_in n ts) rest)
    ∙ held_both (chosen_of (among ids) (placed_in n ts)) (chosen_of (among ids) rest)
    ∙ ap₂ (λ a b. a ++ b) (ap held (filter_map f (λ p. among ids p.table.id) ts) ∙ entries_of_placed n (chosen_in ids ts)) (held_chosen ids (n + 1) levels)
    ∙ sym (flat_map-append (λ t. t.entries) (chosen_in ids ts) (chosen_in ids more))
    ∙ ap (flat_map (λ t. t.entries)) (sym (ap (chosen_in ids) (flat_append runs (tables_of levels)) ∙ filter-append (λ t. among ids t.id) ts more))

kept_each : (P : SeenTable → Type 0) (t : SeenTable → Bool) (xs : List SeenTable) → AllByRecursion P xs → AllByRecursion P (filter t xs)
kept_each P t [] h = tt
kept_each P t (x ∷ xs) h = elim (t x) as (λ b. AllByRecursion P (cond b (x ∷ filter t xs) (filter t xs))) [ true ↦ (h.0, kept_each P t xs h.1) | false ↦ kept_each P t xs h.1 ]

-- a part of a run is a run
pub left_run : (t : SeenTable → Bool) (xs : List SeenTable) → IsRun range xs → IsRun range (filter t xs)
left_run t [] h = tt
left_run t (x ∷ xs) h = elim (t x) as (λ b. IsRun range (cond b (x ∷ filter t xs) (filter t xs))) [
  | true ↦ (h.0, kept_each (λ y. is_below (range x).max (range y).min ≡ true) t xs h.1, left_run t xs h.2)
  | false ↦ left_run t xs h.2
]

-- fewer tables
pub others_left : (i : ℕ) (t : SeenTable → Bool) (xs : List SeenTable) → AllByRecursion (λ j. eqb i j ≡ false) (map (λ t. t.id) xs) → AllByRecursion (λ j. eqb i j ≡ false) (map (λ t. t.id) (filter t xs))
others_left i t [] h = tt
others_left i t (x ∷ xs) h = elim (t x) as (λ b. AllByRecursion (λ j. eqb i j ≡ false) (map (λ t. t.id) (cond b (x ∷ filter t xs) (filter t xs)))) [ true ↦ (h.0, others_left i t xs h.1) | false ↦ others_left i t xs h.1 ]

pub own_left : (t : SeenTable → Bool) (xs : List SeenTable) → HasOwnIds xs → HasOwnIds (filter t xs)
unfolding IsDistinct
own_left t [] h = tt
own_left t (x ∷ xs) h = elim (t x) as (λ b. HasOwnIds (cond b (x ∷ filter t xs) (filter t xs))) [ true ↦ (others_left x.id t xs h.0, own_left t xs h.1) | false ↦ own_left t xs h.1 ]

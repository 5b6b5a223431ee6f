-- Where tables stand in levels, and what a set names.
use Rattle.std.proofs.Common.{◌≡◌, ℕ, zero, suc, ◌<◌, true, eqb, map, List, [], ◌∷◌, length, get_or, refl, sym, ◌∙◌, ⊎_elim, subst, arith}
use Rattle.std.proofs.lemmas.List.{get_or_default}
use Rattle.lsm_tables.specs.Tables.{SeenTable}
use Rattle.lsm_below.specs.Optimizes.{tables_of}
use Rattle.lsm_model.specs.Steps.{among}
use Rattle.lsm_versions.specs.Levels.{Levels, all_of}
use Rattle.lsm_versions.specs.TableLaws.{flat_append}
use Rattle.lsm_checks.specs.Choices.{AreIdsOf}
use Rattle.lsm_checks.proofs.Choosing.{from_eqb}
use Rattle.lsm_pick.proofs.Standing.{is_chosen, run_of, StandsAt, IsPlain}
use Rattle.lsm_pick.proofs.Members.{Has, to_eqb, has_map, map_has, any_has, has_any, has_append, has_left, has_right, has_at, at_has, flat_has, has_flat}

-- a table of the levels
abbrev pub IsThere : Levels → SeenTable → Type 0
IsThere levels t = Has (all_of levels) t

-- a table of one level
abbrev pub Lies : Levels → ℕ → SeenTable → Type 0
Lies levels level t = Has (tables_of (get_or levels level [])) t

-- a list that has an element isn't past the end of a list of lists
inside : {X : Type 0} (xss : List (List X)) (i place : ℕ) → place < length (get_or xss i []) → i < length xss
inside [] i place h = absurd (omega arith)
inside (xs ∷ xss) zero place h = omega arith
inside (xs ∷ xss) (suc i) place h = let more = inside xss i place h in omega (arith, more)

has_inside : {X : Type 0} (xss : List (List X)) (i : ℕ) (x : X) → Has (get_or xss i []) x → i < length xss
has_inside [] i x h = absurd h
has_inside (xs ∷ xss) zero x h = omega arith
has_inside (xs ∷ xss) (suc i) x h = let more = has_inside xss i x h in omega (arith, more)

level_inside : (levels : Levels) (i : ℕ) (x : SeenTable) → Lies levels i x → i < length levels
level_inside [] i x h = absurd h
level_inside (level ∷ levels) zero x h = omega arith
level_inside (level ∷ levels) (suc i) x h = let more = level_inside levels i x h in omega (arith, more)

pub stands_in : (levels : Levels) (l r p : ℕ) (t : SeenTable) → StandsAt levels l r p t → Has (run_of levels l r) t
stands_in levels l r p t s = at_has (run_of levels l r) p t s.0 s.1

pub in_lies : (levels : Levels) (l r : ℕ) (t : SeenTable) → Has (run_of levels l r) t → Lies levels l t
in_lies levels l r t h = flat_has (λ run. run) (get_or levels l []) r [] t (has_inside (get_or levels l []) r t h) h

pub lies_there : (levels : Levels) (l : ℕ) (t : SeenTable) → Lies levels l t → IsThere levels t
lies_there [] l t h = absurd h
lies_there (level ∷ levels) zero t h = subst (λ ts. Has ts t) (sym (flat_append level (tables_of levels))) (has_left (tables_of level) (all_of levels) t h)
lies_there (level ∷ levels) (suc l) t h = subst (λ ts. Has ts t) (sym (flat_append level (tables_of levels))) (has_right (tables_of level) (all_of levels) t (lies_there levels l t h))

there_lies : (levels : Levels) (t : SeenTable) → IsThere levels t → (l : ℕ) × Lies levels l t
there_lies [] t h = absurd h
there_lies (level ∷ levels) t h =
    ⊎_elim (λ a. (0, a)) (λ b. let more = there_lies levels t b in (suc more.0, more.1))
    (has_append (tables_of level) (all_of levels) t (subst (λ ts. Has ts t) (flat_append level (tables_of levels)) h))

pub stands_lies : (levels : Levels) (l r p : ℕ) (t : SeenTable) → StandsAt levels l r p t → Lies levels l t
stands_lies levels l r p t s = in_lies levels l r t (stands_in levels l r p t s)

pub stands_there : (levels : Levels) (l r p : ℕ) (t : SeenTable) → StandsAt levels l r p t → IsThere levels t
stands_there levels l r p t s = lies_there levels l t (stands_lies levels l r p t s)

pub in_stands : (levels : Levels) (l r : ℕ) (t : SeenTable) → Has (run_of levels l r) t → (p : ℕ) × StandsAt levels l r p t
in_stands levels l r t h = let found = has_at (run_of levels l r) t h in (found.0, (found.1, found.2))

pub lies_stands : (levels : Levels) (l : ℕ) (t : SeenTable) → Lies levels l t → (r : ℕ) × (p : ℕ) × StandsAt levels l r p t
lies_stands levels l t h =
    let run = has_flat (λ run. run) (get_or levels l []) [] t h in
    let found = in_stands levels l run.0 t run.2 in
    (run.0, found.0, found.1)

pub there_stands : (levels : Levels) (t : SeenTable) → IsThere levels t → (l : ℕ) × (r : ℕ) × (p : ℕ) × StandsAt levels l r p t
there_stands levels t h =
    let level = there_lies levels t h in
    let found = lies_stands levels level.0 t level.1 in
    (level.0, found.0, found.1, found.2)

module _ (levels : Levels) (plain : IsPlain levels) where
  pub one_level : (t : SeenTable) (l r p k : ℕ) → StandsAt levels l r p t → Lies levels k t → l ≡ k
  one_level t l r p k s h =
      let other = lies_stands levels k t h in
      (plain.names t t l r p k other.0 other.1 s other.2 refl).0

  pub one_place : (t : SeenTable) (l r p k q n : ℕ) → StandsAt levels l r p t → StandsAt levels k q n t → (l ≡ k) × (r ≡ q) × (p ≡ n)
  one_place t l r p k q n s h = plain.names t t l r p k q n s h refl

  -- from 1 on there is no second run
  pub only_run : (l r p : ℕ) (t : SeenTable) → 0 < l → StandsAt levels l r p t → r ≡ 0
  only_run l r p t more s =
      let some = inside (get_or levels l []) r p s.0 in
      let few = plain.flat l more in
      omega arith

  -- tables with one name are one
  pub same_name : (t u : SeenTable) → IsThere levels t → IsThere levels u → t.id ≡ u.id → t ≡ u
  same_name t u ht hu e =
      let pt = there_stands levels t ht in
      let pu = there_stands levels u hu in
      let same = plain.names t u pt.0 pt.1 pt.2 pu.0 pu.1 pu.2 pt.3 pu.3 e in
      let run_same : run_of levels pt.0 pt.1 ≡ run_of levels pu.0 pu.1 = rw (same.0, same.1) refl in
      let there : get_or (run_of levels pt.0 pt.1) pt.2 t ≡ get_or (run_of levels pu.0 pu.1) pu.2 t = rw (same.0, same.1, same.2) refl in
      sym pt.3.1 ∙ (there ∙ (get_or_default (run_of levels pu.0 pu.1) pu.2 t u pu.3.0 ∙ pu.3.1))

  module _ (ids : List ℕ) (ts : List SeenTable) (names : AreIdsOf ids ts)
      (sub : (u : SeenTable) → Has ts u → IsThere levels u) where
    -- a table with a named id
    named : (i : ℕ) → among ids i ≡ true → (u : SeenTable) × Has ts u × (i ≡ u.id)
    named i h =
        let there = any_has (eqb i) (map (λ t. t.id) ts) (sym (names i) ∙ h) in
        let table = has_map (λ t. t.id) ts there.0 there.1 in
        (table.0, table.1, from_eqb i there.0 there.2 ∙ sym table.2)

    pub chosen_has : (t : SeenTable) → IsThere levels t → is_chosen ids t ≡ true → Has ts t
    chosen_has t there h =
        let found = named t.id h in
        let same = same_name t found.0 there (sub found.0 found.1) found.2 in
        subst (Has ts) (sym same) found.1

    pub has_chosen : (t : SeenTable) → Has ts t → is_chosen ids t ≡ true
    has_chosen t h = names t.id ∙ has_any (eqb t.id) (map (λ u. u.id) ts) t.id (map_has (λ u. u.id) ts t h) (to_eqb t.id)

    pub are_there : (k : ℕ) → among ids k ≡ true → (u : SeenTable) × IsThere levels u × (k ≡ u.id)
    are_there k h = let found = named k h in (found.0, sub found.0 found.1, found.2)

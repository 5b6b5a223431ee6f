-- From the places of tables to pairs in the list of all of them.
use Rattle.std.proofs.Common.{◌≡◌, ℕ, suc, ◌+◌, ◌≤◌, false, List, [], ◌∷◌, ◌++◌, map, get_or, refl, sym, ap, ap₂, ◌∙◌, inl, inr, ⊎_elim, subst, arith}
use Rattle.std.specs.List.{AllByRecursion}
use Rattle.lsm_below.specs.Ranges.{overlap}
use Rattle.lsm_below.specs.Runs.{IsRun}
use Rattle.lsm_below.specs.Optimizes.{EachPair, tables_of}
use Rattle.lsm_tables.specs.Tables.{SeenTable}
use Rattle.lsm_model.specs.Views.{placed_at, placed_from}
use Rattle.lsm_versions.specs.Levels.{Levels, range, shown_table, shown_levels, all_of}
use Rattle.lsm_versions.specs.TableLaws.{flat_append, placed_cons, map_append, map_map}
use Rattle.lsm_pick.proofs.Members.{Has, has_each, each_has, has_map, has_append, has_flat}
use Rattle.lsm_pick.proofs.Standing.{run_of, StandsAt, IsPlain, Precedes}
use Rattle.lsm_pick.proofs.Pairs.{pairs_append, run_pairs}
use Rattle.lsm_pick.proofs.Places.{Lies, lies_stands, in_stands}

-- a table with the number of its level
pub record Held : Type 0 where
  pub level : ℕ
  pub table : SeenTable

abbrev pub held_at : ℕ → SeenTable → Held
held_at level t = record { level = level; table = t }

abbrev pub held_from : ℕ → Levels → List Held
held_from level [] = []
held_from level (runs ∷ levels) = map (held_at level) (tables_of runs) ++ held_from (level + 1) levels

pub pairs_map : {A B : Type 0} (R : B → B → Type 0) (f : A → B) (xs : List A) → EachPair (λ x y. R (f x) (f y)) xs → EachPair R (map f xs)
pairs_map R f [] h = tt
pairs_map R f (x ∷ xs) h = (has_each (R (f x)) (map f xs) (λ y g. mapped xs h.0 y g), pairs_map R f xs h.1)
  where
    mapped : (ys : List _) → AllByRecursion (λ y. R (f x) (f y)) ys → (y : _) → Has (map f ys) y → R (f x) y
    mapped [] a y g = absurd g
    mapped (z ∷ zs) a y g = ⊎_elim (λ e. subst (R (f x)) e a.0) (λ r. mapped zs a.1 y r) g

pub pairs_weaker : {A : Type 0} (R Q : A → A → Type 0) → ((x y : A) → R x y → Q x y) → (xs : List A) → EachPair R xs → EachPair Q xs
pairs_weaker R Q f [] h = tt
pairs_weaker R Q f (x ∷ xs) h = (has_each (Q x) xs (λ y g. f x y (each_has (R x) xs y h.0 g)), pairs_weaker R Q f xs h.1)

module _ (levels : Levels) (plain : IsPlain levels) (R : Held → Held → Type 0)
    (in_run : (k : ℕ) (t u : SeenTable) → overlap (range t) (range u) ≡ false → R (held_at k t) (held_at k u))
    (across : (t u : SeenTable) (tl tr tp ul ur up : ℕ) → StandsAt levels tl tr tp t → StandsAt levels ul ur up u → Precedes tl tr ul ur → R (held_at tl t) (held_at ul u)) where
  -- the tables of one level, from one of its runs on
  one_level_pairs :
      (k r : ℕ) (runs : List (List SeenTable)) → ((i : ℕ) → get_or runs i [] ≡ run_of levels k (r + i)) →
      EachPair (λ t u. R (held_at k t) (held_at k u)) (tables_of runs)
  one_level_pairs k r [] same = tt
  one_level_pairs k r (run ∷ runs) same =
      let here : run ≡ run_of levels k r = same 0 ∙ ap (run_of levels k) (omega arith) in
      let later : (i : ℕ) → get_or runs i [] ≡ run_of levels k (r + 1 + i) = λ i. same (suc i) ∙ ap (run_of levels k) (omega arith) in
      pairs_append (λ t u. R (held_at k t) (held_at k u)) run (tables_of runs)
      (pairs_weaker (λ t u. overlap (range t) (range u) ≡ false) (λ t u. R (held_at k t) (held_at k u)) (in_run k) run
      (run_pairs range run (subst (λ ts. IsRun range ts) (sym here) (plain.runs k r))))
      (one_level_pairs k (r + 1) runs later)
      (λ t u ht hu.
      let there = has_flat (λ run. run) runs [] u hu in
      let pt = in_stands levels k r t (subst (λ ts. Has ts t) here ht) in
      let pu = in_stands levels k (r + 1 + there.0) u (subst (λ ts. Has ts u) (later there.0) there.2) in
      across t u k r pt.0 k (r + 1 + there.0) pu.0 pt.1 pu.1 (inr (refl, omega arith)))

  from_lies :
      (k : ℕ) (rest : Levels) → ((i : ℕ) → get_or rest i [] ≡ get_or levels (k + i) []) → (p : Held) → Has (held_from k rest) p →
      (k ≤ p.level) × Lies levels p.level p.table
  from_lies k [] same p h = absurd h
  from_lies k (runs ∷ rest) same p h =
      ⊎_elim
      (λ a. let found = has_map (held_at k) (tables_of runs) p a in
      let level : k ≡ p.level = ap (λ q. q.level) found.2 in
      let table : found.0 ≡ p.table = ap (λ q. q.table) found.2 in
      let here : runs ≡ get_or levels k [] = same 0 ∙ ap (λ n. get_or levels n []) (omega arith) in (
        omega (arith, level),
        subst (λ l. Lies levels l p.table) level (subst (Lies levels k) table (subst (λ rs. Has (tables_of rs) found.0) here found.1)),
      ))
      (λ b. let more = from_lies (k + 1) rest (λ i. same (suc i) ∙ ap (λ n. get_or levels n []) (omega arith)) p b in (omega (arith, more.0), more.1))
      (has_append (map (held_at k) (tables_of runs)) (held_from (k + 1) rest) p h)

  pairs_from : (k : ℕ) (rest : Levels) → ((i : ℕ) → get_or rest i [] ≡ get_or levels (k + i) []) → EachPair R (held_from k rest)
  pairs_from k [] same = tt
  pairs_from k (runs ∷ rest) same =
      let here : runs ≡ get_or levels k [] = same 0 ∙ ap (λ n. get_or levels n []) (omega arith) in
      let later : (i : ℕ) → get_or rest i [] ≡ get_or levels (k + 1 + i) [] = λ i. same (suc i) ∙ ap (λ n. get_or levels n []) (omega arith) in
      pairs_append R (map (held_at k) (tables_of runs)) (held_from (k + 1) rest)
      (pairs_map R (held_at k) (tables_of runs) (one_level_pairs k 0 runs (λ i. ap (λ rs. get_or rs i []) here ∙ ap (run_of levels k) (omega arith))))
      (pairs_from (k + 1) rest later)
      (λ p q hp hq.
      let found = has_map (held_at k) (tables_of runs) p hp in
      let below = from_lies (k + 1) rest later q hq in
      let pt = lies_stands levels k found.0 (subst (λ rs. Has (tables_of rs) found.0) here found.1) in
      let pu = lies_stands levels q.level q.table below.1 in
      subst (λ x. R x q) found.2
      (across found.0 q.table k pt.0 pt.1 q.level pu.0 pu.1 pt.2 pu.2 (inl (omega (arith, below.0)))))

  pub all_pairs : EachPair R (held_from 0 levels)
  all_pairs = pairs_from 0 levels (λ i. ap (λ n. get_or levels n []) (omega arith))

-- ---- the same tables in the theory's words

pub placed_same : (n : ℕ) (levels : Levels) → placed_from n (shown_levels levels) ≡ map (λ h. placed_at h.level (shown_table h.table)) (held_from n levels)
placed_same n [] = refl
placed_same n (runs ∷ levels) =
    let f = λ (h : Held). placed_at h.level (shown_table h.table) in
    placed_cons n runs levels
    ∙ (ap₂ (λ a b. a ++ b) (sym (map_map f (held_at n) (tables_of runs))) (placed_same (n + 1) levels)
    ∙ sym (map_append f (map (held_at n) (tables_of runs)) (held_from (n + 1) levels)))

map_self : (f : SeenTable → SeenTable) → ((t : SeenTable) → f t ≡ t) → (ts : List SeenTable) → map f ts ≡ ts
map_self f h [] = refl
map_self f h (t ∷ ts) = ap₂ (λ a b. a ∷ b) (h t) (map_self f h ts)

pub all_same : (n : ℕ) (levels : Levels) → all_of levels ≡ map (λ h. h.table) (held_from n levels)
all_same n [] = refl
all_same n (runs ∷ levels) =
    let f = λ (h : Held). h.table in
    flat_append runs (tables_of levels)
    ∙ (ap₂ (λ a b. a ++ b) (sym (map_map f (held_at n) (tables_of runs) ∙ map_self (λ t. t) (λ t. refl) (tables_of runs))) (all_same (n + 1) levels)
    ∙ sym (map_append f (map (held_at n) (tables_of runs)) (held_from (n + 1) levels)))

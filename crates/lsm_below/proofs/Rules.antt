-- Placing one table after another keeps the rules.
use Rattle.std.proofs.lemmas.Bool.{and_parts, both_ways, not-true}
use Rattle.std.proofs.Common.{◌≡◌, ℕ, zero, suc, ◌<◌, ◌≤◌, Bool, true, false, cond, not, ◌⊎◌, ⊎_elim, List, [], ◌∷◌, ◌++◌, length, refl, sym, ◌∙◌, ap, subst, arith, inl, inr, append_assoc, append-nil, fold}
use Rattle.std.specs.List.{AllByRecursion, Contains, filter}
use Rattle.std.specs.List.Sorted.{IsPermutation}
use Rattle.std.proofs.lemmas.List.Sorted.{IsPermutation-refl, IsPermutation-trans, IsPermutation-sym, IsPermutation-append_left, IsPermutation-append_right, IsPermutation-middle, IsPermutation-push_more, All-permutation}
use Rattle.std.proofs.lemmas.List.Elements.{filter-append, All-from_recursion, recursion_from_All}
use Rattle.lsm_below.specs.Keys.{is_below}
use Rattle.lsm_below.specs.Ranges.{Range, IsRange, in_range, overlap, greater_of}
use Rattle.lsm_below.specs.Runs.{IsRun}
use Rattle.lsm_below.specs.Optimizes.{EachPair, tables_of, StandsIn, StandsBefore, Optimizes}
use Rattle.lsm_below.specs.Members.{IsIn, each_in, in_filter, filter_in}
use Rattle.lsm_below.specs.Greedy.{put, is_free, placed, IsPlaced}
use Rattle.lsm_below.proofs.Keys.{below_upto, below_itself, range_ends, in_by}
use Rattle.lsm_below.proofs.Placing.{shared_overlaps, overlap_parts, put_run, put_some, put_same, free_append}

module _ {T : Type 0} (range : T → Range) where
  Apart : T → T → Type 0
  Apart x y = overlap (range x) (range y) ≡ false

  placed_same : (t : T) (runs : List (List T)) → IsPermutation (t ∷ tables_of runs) (tables_of (placed range t runs))
  placed_same t [] = IsPermutation-refl (t ∷ [])
  placed_same t (r ∷ rs) = elim (is_free range (range t) (r ++ tables_of rs)) as (λ b. IsPermutation (t ∷ (r ++ tables_of rs)) (tables_of (cond b (put range t r ∷ rs) (r ∷ placed range t rs)))) [
    | true ↦ IsPermutation-append_left (tables_of rs) (t ∷ r) (put range t r) (put_same range t r)
    | false ↦ IsPermutation-trans (t ∷ (r ++ tables_of rs)) (r ++ t ∷ tables_of rs) (r ++ tables_of (placed range t rs))
        (IsPermutation-sym (r ++ t ∷ tables_of rs) (t ∷ (r ++ tables_of rs)) (IsPermutation-middle r t (tables_of rs)))
        (IsPermutation-append_right r (t ∷ tables_of rs) (tables_of (placed range t rs)) (placed_same t rs))
  ]

  placed_each : (t : T) (runs : List (List T)) → IsRange (range t) → AllByRecursion (λ r. IsRun range r × (0 < length r)) runs → AllByRecursion (λ r. IsRun range r × (0 < length r)) (placed range t runs)
  placed_each t [] v h = (((v, tt, tt), omega arith), tt)
  placed_each t (r ∷ rs) v h = elim (is_free range (range t) (r ++ tables_of rs)) as (λ b. is_free range (range t) (r ++ tables_of rs) ≡ b → AllByRecursion (λ r. IsRun range r × (0 < length r)) (cond b (put range t r ∷ rs) (r ∷ placed range t rs))) [
    | true ↦ λ f. ((put_run range t r v h.0.0 (and_parts (is_free range (range t) r) (is_free range (range t) (tables_of rs)) (sym (free_append range (range t) r (tables_of rs)) ∙ f)).0, put_some range t r), h.1)
    | false ↦ λ f. (h.0, placed_each t rs v h.1)
  ] refl

  module _ (k : List ℕ) where
    -- where no table overlaps a range with the key, no table has it
    none_has : (t : T) (xs : List T) → in_range k (range t) ≡ true → is_free range (range t) xs ≡ true → filter (λ x. in_range k (range x)) xs ≡ []
    none_has t [] h f = refl
    none_has t (x ∷ xs) h f =
        let p = and_parts (not (overlap (range x) (range t))) (is_free range (range t) xs) f in
        elim (in_range k (range x)) as (λ b. in_range k (range x) ≡ b → cond b (x ∷ filter (λ x. in_range k (range x)) xs) (filter (λ x. in_range k (range x)) xs) ≡ []) [
          | true ↦ λ q. absurd (both_ways (overlap (range x) (range t)) (not-true (overlap (range x) (range t)) p.0) (shared_overlaps k (range x) (range t) q h))
          | false ↦ λ q. none_has t xs h p.1
        ] refl

    put_keys : (t : T) (xs : List T) → (in_range k (range t) ≡ true → filter (λ x. in_range k (range x)) xs ≡ []) → filter (λ x. in_range k (range x)) (put range t xs) ≡ filter (λ x. in_range k (range x)) xs ++ filter (λ x. in_range k (range x)) (t ∷ [])
    put_keys t [] h = refl
    put_keys t (x ∷ xs) h = elim (is_below (range x).max (range t).min) as (λ b. filter (λ x. in_range k (range x)) (cond b (x ∷ put range t xs) (t ∷ x ∷ xs)) ≡ filter (λ x. in_range k (range x)) (x ∷ xs) ++ filter (λ x. in_range k (range x)) (t ∷ [])) [
      | true ↦ elim (in_range k (range x)) as (λ b. (in_range k (range t) ≡ true → cond b (x ∷ filter (λ x. in_range k (range x)) xs) (filter (λ x. in_range k (range x)) xs) ≡ []) → cond b (x ∷ filter (λ x. in_range k (range x)) (put range t xs)) (filter (λ x. in_range k (range x)) (put range t xs)) ≡ cond b (x ∷ filter (λ x. in_range k (range x)) xs) (filter (λ x. in_range k (range x)) xs) ++ filter (λ x. in_range k (range x)) (t ∷ [])) [
        | true ↦ λ g. ap (λ l. x ∷ l) (put_keys t xs (λ q. let z : x ∷ filter (λ x. in_range k (range x)) xs ≡ [] = g q in absurd (cc z)))
        | false ↦ λ g. put_keys t xs g
      ] h
      | false ↦ front (filter (λ x. in_range k (range x)) (x ∷ xs)) h
    ]
      where
        front : (rest : List T) → (in_range k (range t) ≡ true → rest ≡ []) → cond (in_range k (range t)) (t ∷ rest) rest ≡ rest ++ cond (in_range k (range t)) (t ∷ []) []
        front rest h = elim (in_range k (range t)) as (λ b. (b ≡ true → rest ≡ []) → cond b (t ∷ rest) rest ≡ rest ++ cond b (t ∷ []) []) [
          | true ↦ λ g. rw (g refl) refl
          | false ↦ λ g. sym (append-nil rest)
        ] h

    placed_keys : (t : T) (runs : List (List T)) → filter (λ x. in_range k (range x)) (tables_of (placed range t runs)) ≡ filter (λ x. in_range k (range x)) (tables_of runs) ++ filter (λ x. in_range k (range x)) (t ∷ [])
    placed_keys t [] = refl
    placed_keys t (r ∷ rs) = elim (is_free range (range t) (r ++ tables_of rs)) as (λ b. is_free range (range t) (r ++ tables_of rs) ≡ b → filter (λ x. in_range k (range x)) (tables_of (cond b (put range t r ∷ rs) (r ∷ placed range t rs))) ≡ filter (λ x. in_range k (range x)) (r ++ tables_of rs) ++ filter (λ x. in_range k (range x)) (t ∷ [])) [
      | true ↦ λ f.
          let p = and_parts (is_free range (range t) r) (is_free range (range t) (tables_of rs)) (sym (free_append range (range t) r (tables_of rs)) ∙ f) in
          filter-append (λ x. in_range k (range x)) (put range t r) (tables_of rs)
          ∙ (ap (λ l. l ++ filter (λ x. in_range k (range x)) (tables_of rs)) (put_keys t r (λ q. none_has t r q p.0))
          ∙ (swapped (filter (λ x. in_range k (range x)) r) (filter (λ x. in_range k (range x)) (tables_of rs)) (λ q. none_has t (tables_of rs) q p.1)
          ∙ ap (λ l. l ++ filter (λ x. in_range k (range x)) (t ∷ [])) (sym (filter-append (λ x. in_range k (range x)) r (tables_of rs)))))
      | false ↦ λ f.
          filter-append (λ x. in_range k (range x)) r (tables_of (placed range t rs))
          ∙ (ap (λ l. filter (λ x. in_range k (range x)) r ++ l) (placed_keys t rs)
          ∙ (sym (append_assoc (filter (λ x. in_range k (range x)) r) (filter (λ x. in_range k (range x)) (tables_of rs)) (filter (λ x. in_range k (range x)) (t ∷ [])))
          ∙ ap (λ l. l ++ filter (λ x. in_range k (range x)) (t ∷ [])) (sym (filter-append (λ x. in_range k (range x)) r (tables_of rs)))))
    ] refl
      where
        swapped : (a b : List T) → (in_range k (range t) ≡ true → b ≡ []) → (a ++ cond (in_range k (range t)) (t ∷ []) []) ++ b ≡ (a ++ b) ++ cond (in_range k (range t)) (t ∷ []) []
        swapped a b h = elim (in_range k (range t)) as (λ c. (c ≡ true → b ≡ []) → (a ++ cond c (t ∷ []) []) ++ b ≡ (a ++ b) ++ cond c (t ∷ []) []) [
          | true ↦ λ g. rw (g refl, append-nil (a ++ t ∷ []), append-nil a) refl
          | false ↦ λ g. rw (append-nil a, append-nil (a ++ b)) refl
        ] h

  -- ---- one table more

  all_free : (t : T) (xs : List T) → AllByRecursion (λ x. overlap (range x) (range t) ≡ false) xs → is_free range (range t) xs ≡ true
  all_free t [] h = refl
  all_free t (x ∷ xs) h = rw h.0 (all_free t xs h.1)

  placed_few : (t : T) (runs : List (List T)) → length runs ≤ 1 → is_free range (range t) (tables_of runs) ≡ true → length (placed range t runs) ≤ 1
  placed_few t [] le f = omega arith
  placed_few t (r ∷ rs) le f = rw f (omega arith)

  pairs_push : (t : T) (xs : List T) → EachPair Apart (xs ++ t ∷ []) → EachPair Apart xs × AllByRecursion (λ x. Apart x t) xs
  pairs_push t [] h = (tt, tt)
  pairs_push t (x ∷ xs) h = let r = pairs_push t xs h.1 in ((first xs h.0, r.0), (last xs h.0, r.1))
    where
      first : (ys : List T) → AllByRecursion (Apart x) (ys ++ t ∷ []) → AllByRecursion (Apart x) ys
      first [] g = tt
      first (y ∷ ys) g = (g.0, first ys g.1)

      last : (ys : List T) → AllByRecursion (Apart x) (ys ++ t ∷ []) → Apart x t
      last [] g = g.0
      last (y ∷ ys) g = last ys g.1

  pub placed_more : (t : T) (done : List T) (runs : List (List T)) → IsRange (range t) → IsPlaced range done runs → IsPlaced range (done ++ t ∷ []) (placed range t runs)
  unfolding Apart
  placed_more t done runs v h = record {
    same = IsPermutation-push_more done (tables_of runs) (tables_of (placed range t runs)) t h.same (placed_same t runs);
    each = placed_each t runs v h.each;
    keys = λ k. placed_keys k t runs ∙ (ap (λ l. l ++ filter (λ x. in_range k (range x)) (t ∷ [])) (h.keys k) ∙ sym (filter-append (λ x. in_range k (range x)) done (t ∷ [])));
    joined = λ pairs.
        let parts = pairs_push t done pairs in
        let apart = All-permutation (λ x. overlap (range x) (range t) ≡ false) done (tables_of runs) h.same (All-from_recursion (λ x. overlap (range x) (range t) ≡ false) done parts.1) in
        placed_few t runs (h.joined parts.0) (all_free t (tables_of runs) (recursion_from_All (λ x. overlap (range x) (range t) ≡ false) (tables_of runs) apart));
  }

  pub placed_all : (ts done : List T) (runs : List (List T)) → AllByRecursion (λ t. IsRange (range t)) ts → IsPlaced range done runs → IsPlaced range (done ++ ts) (fold (λ rs t. placed range t rs) runs ts)
  placed_all [] done runs v h = rw (append-nil done) h
  placed_all (t ∷ ts) done runs v h = subst (λ xs. IsPlaced range xs (fold (λ rs t. placed range t rs) (placed range t runs) ts)) (append_assoc done (t ∷ []) ts) (placed_all ts (done ++ t ∷ []) (placed range t runs) v.1 (placed_more t done runs v.0 h))

  -- ---- the rules

  Before : T → T → List T → Type 0
  Before a b [] = ⊥
  Before a b (x ∷ xs) = ((x ≡ a) × IsIn b xs) ⊎ Before a b xs

  in_from : (x : T) (xs : List T) → Contains xs x → IsIn x xs
  in_from x [] (at, lt, is) = absurd (omega (arith, lt))
  in_from x (y ∷ ys) (zero, lt, is) = inl is
  in_from x (y ∷ ys) (suc at, lt, is) = inr (in_from x ys (at, omega (arith, lt), is))

  to_in : (x : T) (xs : List T) → IsIn x xs → Contains xs x
  to_in x [] i = absurd i
  to_in x (y ∷ ys) i = ⊎_elim (λ (e : y ≡ x). (0, omega arith, e)) (λ (j : IsIn x ys). let r : Contains ys x = to_in x ys j in (suc r.0, omega (arith, r.1), r.2)) i

  in_left : (x : T) (xs ys : List T) → IsIn x xs → IsIn x (xs ++ ys)
  in_left x [] ys i = absurd i
  in_left x (z ∷ xs) ys i = ⊎_elim (λ (e : z ≡ x). inl e) (λ (j : IsIn x xs). inr (in_left x xs ys j)) i

  in_right : (x : T) (xs ys : List T) → IsIn x ys → IsIn x (xs ++ ys)
  in_right x [] ys i = i
  in_right x (z ∷ xs) ys i = inr (in_right x xs ys i)

  in_cases : (x : T) (xs ys : List T) → IsIn x (xs ++ ys) → IsIn x xs ⊎ IsIn x ys
  in_cases x [] ys i = inr i
  in_cases x (z ∷ xs) ys i = ⊎_elim (λ (e : z ≡ x). inl (inl e)) (λ (j : IsIn x (xs ++ ys)). ⊎_elim (λ (p : IsIn x xs). inl (inr p)) (λ (q : IsIn x ys). inr q) (in_cases x xs ys j)) i

  in_tables : (runs : List (List T)) (i : ℕ) (x : T) → StandsIn runs i x → IsIn x (tables_of runs)
  in_tables [] i x h = absurd (omega (arith, h.1))
  in_tables (r ∷ rs) zero x h = in_left x r (tables_of rs) (in_from x r h)
  in_tables (r ∷ rs) (suc i) x h = in_right x r (tables_of rs) (in_tables rs i x h)

  before_right : (a b : T) (xs ys : List T) → Before a b ys → Before a b (xs ++ ys)
  unfolding Before
  before_right a b [] ys h = h
  before_right a b (x ∷ xs) ys h = inr (before_right a b xs ys h)

  before_across : (a b : T) (xs ys : List T) → IsIn a xs → IsIn b ys → Before a b (xs ++ ys)
  unfolding Before
  before_across a b [] ys i j = absurd i
  before_across a b (x ∷ xs) ys i j = ⊎_elim (λ (e : x ≡ a). inl (e, in_right b xs ys j)) (λ (k : IsIn a xs). inr (before_across a b xs ys k j)) i

  before_tables : (runs : List (List T)) (i j : ℕ) (a b : T) → i < j → StandsIn runs i a → StandsIn runs j b → Before a b (tables_of runs)
  before_tables [] i j a b lt h k = absurd (omega (arith, h.1))
  before_tables (r ∷ rs) i zero a b lt h k = absurd (omega arith)
  before_tables (r ∷ rs) zero (suc j) a b lt h k = before_across a b r (tables_of rs) (in_from a r h) (in_tables rs j b k)
  before_tables (r ∷ rs) (suc i) (suc j) a b lt h k = before_right a b r (tables_of rs) (before_tables rs i j a b (omega arith) h k)

  filter_before : (t : T → Bool) (xs : List T) (a b : T) → t a ≡ true → t b ≡ true → Before a b xs → Before a b (filter t xs)
  unfolding Before
  filter_before t [] a b ha hb h = h
  filter_before t (y ∷ xs) a b ha hb h = elim (t y) as (λ c. t y ≡ c → Before a b (cond c (y ∷ filter t xs) (filter t xs))) [
    | true ↦ λ q. ⊎_elim (λ (e : (y ≡ a) × IsIn b xs). inl (e.0, filter_in t xs b e.1 hb)) (λ (k : Before a b xs). inr (filter_before t xs a b ha hb k)) h
    | false ↦ λ q. ⊎_elim (λ (e : (y ≡ a) × IsIn b xs). absurd (both_ways (t y) q (ap t e.0 ∙ ha))) (λ (k : Before a b xs). filter_before t xs a b ha hb k) h
  ] refl

  before_filter : (t : T → Bool) (xs : List T) (a b : T) → Before a b (filter t xs) → Before a b xs
  unfolding Before
  before_filter t [] a b h = h
  before_filter t (y ∷ xs) a b h = elim (t y) as (λ c. Before a b (cond c (y ∷ filter t xs) (filter t xs)) → ((y ≡ a) × IsIn b xs) ⊎ Before a b xs) [
    | true ↦ λ j. ⊎_elim (λ (e : (y ≡ a) × IsIn b (filter t xs)). inl (e.0, (in_filter t xs b e.1).0)) (λ (k : Before a b (filter t xs)). inr (before_filter t xs a b k)) j
    | false ↦ λ j. inr (before_filter t xs a b j)
  ] h

  -- no two tables of a run have a key in common
  not_in_run : (k : List ℕ) (xs : List T) (a b : T) → IsRun range xs → in_range k (range a) ≡ true → in_range k (range b) ≡ true → Before a b xs → ⊥
  unfolding Before
  not_in_run k [] a b r ha hb h = h
  not_in_run k (x ∷ xs) a b r ha hb h = ⊎_elim
      (λ (e : (x ≡ a) × IsIn b xs).
      let lt : is_below (range a).max (range b).min ≡ true = subst (λ y. is_below (range y).max (range b).min ≡ true) e.0 (each_in (λ y. is_below (range x).max (range y).min ≡ true) xs b r.1 e.1) in
      both_ways (is_below (range a).max (range b).min) (overlap_parts (range a) (range b) (shared_overlaps k (range a) (range b) ha hb)).0 lt)
      (λ (g : Before a b xs). not_in_run k xs a b r.2 ha hb g)
      h

  split : (a b : T) (xs ys : List T) → Before a b (xs ++ ys) → Before a b xs ⊎ ((IsIn a xs × IsIn b ys) ⊎ Before a b ys)
  unfolding Before
  split a b [] ys h = inr (inr h)
  split a b (x ∷ xs) ys h = ⊎_elim
      (λ (e : (x ≡ a) × IsIn b (xs ++ ys)). ⊎_elim (λ (p : IsIn b xs). inl (inl (e.0, p))) (λ (q : IsIn b ys). inr (inl (inl e.0, q))) (in_cases b xs ys e.1))
      (λ (g : Before a b (xs ++ ys)). ⊎_elim
      (λ (p : Before a b xs). inl (inr p))
      (λ (q : (IsIn a xs × IsIn b ys) ⊎ Before a b ys). ⊎_elim (λ (u : IsIn a xs × IsIn b ys). inr (inl (inr u.0, u.1))) (λ (v : Before a b ys). inr (inr v)) q)
      (split a b xs ys g))
      h

  place_of : (runs : List (List T)) (x : T) → IsIn x (tables_of runs) → (i : ℕ) × StandsIn runs i x
  place_of [] x i = absurd i
  place_of (r ∷ rs) x i = ⊎_elim (λ (p : IsIn x r). (0, to_in x r p)) (λ (q : IsIn x (tables_of rs)). let s : (i : ℕ) × StandsIn rs i x = place_of rs x q in (suc s.0, s.1)) (in_cases x r (tables_of rs) i)

  stands : (k : List ℕ) (runs : List (List T)) (a b : T) → AllByRecursion (λ r. IsRun range r × (0 < length r)) runs → in_range k (range a) ≡ true → in_range k (range b) ≡ true → Before a b (tables_of runs) → StandsBefore runs a b
  unfolding Before
  stands k [] a b h ha hb g = absurd g
  stands k (r ∷ rs) a b h ha hb g = ⊎_elim
      (λ (p : Before a b r). absurd (not_in_run k r a b h.0.0 ha hb p))
      (λ (q : (IsIn a r × IsIn b (tables_of rs)) ⊎ Before a b (tables_of rs)). ⊎_elim
      (λ (u : IsIn a r × IsIn b (tables_of rs)). let s : (i : ℕ) × StandsIn rs i b = place_of rs b u.1 in (0, suc s.0, omega arith, to_in a r u.0, s.1))
      (λ (v : Before a b (tables_of rs)). let s : StandsBefore rs a b = stands k rs a b h.1 ha hb v in (suc s.0, suc s.1, omega (arith, s.2), s.3, s.4))
      q)
      (split a b r (tables_of rs) g)

  run_ranges : (xs : List T) → IsRun range xs → AllByRecursion (λ t. IsRange (range t)) xs
  run_ranges [] h = tt
  run_ranges (x ∷ xs) h = (h.0, run_ranges xs h.2)

  pub tables_ranges : (runs : List (List T)) → AllByRecursion (λ r. IsRun range r × (0 < length r)) runs → AllByRecursion (λ t. IsRange (range t)) (tables_of runs)
  tables_ranges [] h = tt
  tables_ranges (r ∷ rs) h = both r (tables_of rs) (run_ranges r h.0.0) (tables_ranges rs h.1)
    where
      both : (xs ys : List T) → AllByRecursion (λ t. IsRange (range t)) xs → AllByRecursion (λ t. IsRange (range t)) ys → AllByRecursion (λ t. IsRange (range t)) (xs ++ ys)
      both [] ys p q = q
      both (x ∷ xs) ys p q = (p.0, both xs ys p.1 q)

  pub optimizes : (old new : List (List T)) → IsPlaced range (tables_of old) new → Optimizes range old new
  optimizes old new h = record {
    same = h.same;
    runs = h.each;
    order = λ a b o (i, j, lt, sa, sb).
        let va : IsRange (range a) = valid a (in_tables old i a sa) in
        let vb : IsRange (range b) = valid b (in_tables old j b sb) in
        let k : List ℕ = greater_of (range a).min (range b).min in
        let p = overlap_parts (range a) (range b) o in
        let ka : in_range k (range a) ≡ true = has_greater (range a) (range b) va p.0 in
        let kb : in_range k (range b) ≡ true = has_other (range a) (range b) vb p.1 in
        let was = filter_before (λ t. in_range k (range t)) (tables_of old) a b ka kb (before_tables old i j a b lt sa sb) in
        let is = subst (λ xs. Before a b xs) (sym (h.keys k)) was in
        stands k new a b h.each ka kb (before_filter (λ t. in_range k (range t)) (tables_of new) a b is);
    joined = h.joined;
  }
    where
      valid : (x : T) → IsIn x (tables_of old) → IsRange (range x)
      valid x i = each_in (λ t. IsRange (range t)) (tables_of old) x (recursion_from_All (λ t. IsRange (range t)) (tables_of old) (All-permutation (λ t. IsRange (range t)) (tables_of new) (tables_of old) (IsPermutation-sym (tables_of old) (tables_of new) h.same) (All-from_recursion (λ t. IsRange (range t)) (tables_of new) (tables_ranges new h.each)))) i

      has_greater : (a b : Range) → IsRange a → is_below a.max b.min ≡ false → in_range (greater_of a.min b.min) a ≡ true
      has_greater a b v p = elim (is_below a.min b.min) as (λ c. is_below a.min b.min ≡ c → in_range (cond c b.min a.min) a ≡ true) [
        | true ↦ λ q. in_by b.min a ∙ rw (below_upto a.min b.min q, p) refl
        | false ↦ λ q. in_by a.min a ∙ rw (below_itself a.min, range_ends a v) refl
      ] refl

      has_other : (a b : Range) → IsRange b → is_below b.max a.min ≡ false → in_range (greater_of a.min b.min) b ≡ true
      has_other a b v p = elim (is_below a.min b.min) as (λ c. is_below a.min b.min ≡ c → in_range (cond c b.min a.min) b ≡ true) [
        | true ↦ λ q. in_by b.min b ∙ rw (below_itself b.min, range_ends b v) refl
        | false ↦ λ q. in_by a.min b ∙ rw (q, p) refl
      ] refl

pub tables_push : {T : Type 0} (runs : List (List T)) (r : List T) → tables_of (runs ++ r ∷ []) ≡ tables_of runs ++ r
tables_push [] r = append-nil r
tables_push (x ∷ runs) r = ap (λ l. x ++ l) (tables_push runs r) ∙ sym (append_assoc x (tables_of runs) r)

-- What is wrong between two tables of a version is wrong between the parts of their runs.
use Rattle.std.proofs.Common.{◌≡◌, ℕ, suc, ◌+◌, ◌<◌, Bool, true, false, cond, not, ◌&&◌, ◌||◌, eqb, ltb, leb, List, [], ◌∷◌, ◌++◌, length, map, flat_map, filter, get_or, take, refl, sym, ◌∙◌, ap, ap₂, append_assoc, append-nil, arith}
use Rattle.std.specs.List.{AllByRecursion, list_any}
use Rattle.std.proofs.Math.Bool.{and_comm}
use Rattle.std.proofs.lemmas.List.{take_more, length-take-le}
use Rattle.std.proofs.lemmas.List.Concat.{flat_map-append}
use Rattle.std.proofs.lemmas.List.Folds.{list_any-append}
use Rattle.std.proofs.lemmas.Cmp.{nat_list_cmp_total}
use Rattle.std.specs.Cmp.Lexicographic.{slice_cmp}
use Rattle.std.specs.Ordering.{nat_cmp, is_le, is_lt, ordering_reverse}
use Rattle.std.specs.declared.cmp.Ordering.{Ordering}
use Rattle.std.specs.declared.cmp.Ordering.TheVariants.{Less, Equal, Greater}
use Rattle.lsm_below.specs.Keys.{is_below}
use Rattle.lsm_below.specs.Ranges.{Range, overlap}
use Rattle.lsm_below.specs.Runs.{IsRun}
use Rattle.lsm_below.specs.Optimizes.{tables_of}
use Rattle.lsm_tables.specs.Tables.{SeenTable}
use Rattle.lsm_model.specs.Views.{Placed, placed_at, placed_from}
use Rattle.lsm_model.specs.Steps.{among}
use Rattle.lsm_versions.specs.Levels.{Levels, range, shown_table, shown_levels, placed_in, chosen_in, left_in, AreRuns}
use Rattle.lsm_checks.specs.Choices.{any_pair, is_bad, any_bad}
use Rattle.lsm_checks.specs.Parted.{part_of, parted_from, is_wrong}
use Rattle.lsm_checks.specs.declared.parted_run.Fault.{Fault}
use Rattle.lsm_checks.specs.declared.parted_run.Fault.TheVariants.{OutOfOrder, StandsBelow}
use Rattle.lsm_versions.specs.TableLaws.{map_map, map_append, placed_cons}

-- ---- tests of lists

-- some of these with some of those
abbrev pub crosses : {A : Type 0} → (A → A → Bool) → List A → List A → Bool
crosses R xs ys = list_any (λ x. list_any (R x) ys) xs

any_same : {A : Type 0} (f g : A → Bool) → ((x : A) → f x ≡ g x) → (xs : List A) → list_any f xs ≡ list_any g xs
any_same f g e [] = refl
any_same f g e (x ∷ xs) = ap₂ (λ a b. a || b) (e x) (any_same f g e xs)

any_map : {A B : Type 0} (f : A → B) (t : B → Bool) (xs : List A) → list_any t (map f xs) ≡ list_any (λ x. t (f x)) xs
any_map f t [] = refl
any_map f t (x ∷ xs) = ap (λ b. t (f x) || b) (any_map f t xs)

pub any_never : {A : Type 0} (xs : List A) → list_any (λ x. false) xs ≡ false
any_never [] = refl
any_never (x ∷ xs) = any_never xs

or_mix : (a b c d : Bool) → ((a || b) || (c || d)) ≡ ((a || c) || (b || d))
or_mix true b c d = refl
or_mix false true true d = refl
or_mix false true false d = refl
or_mix false false c d = refl

any_or : {A : Type 0} (f g : A → Bool) (xs : List A) → list_any (λ x. f x || g x) xs ≡ (list_any f xs || list_any g xs)
any_or f g [] = refl
any_or f g (x ∷ xs) = ap (λ b. (f x || g x) || b) (any_or f g xs) ∙ or_mix (f x) (g x) (list_any f xs) (list_any g xs)

any_with : {A : Type 0} (c : Bool) (f : A → Bool) (xs : List A) → list_any (λ x. c && f x) xs ≡ (c && list_any f xs)
any_with true f xs = refl
any_with false f xs = any_never xs

any_filter : {A : Type 0} (t f : A → Bool) (xs : List A) → list_any (λ x. t x && f x) xs ≡ list_any f (filter t xs)
any_filter t f [] = refl
any_filter t f (x ∷ xs) = elim (t x) as (λ b. ((b && f x) || list_any (λ y. t y && f y) xs) ≡ list_any f (cond b (x ∷ filter t xs) (filter t xs))) [
  | true ↦ ap (λ b. f x || b) (any_filter t f xs)
  | false ↦ any_filter t f xs
]

-- the other way round
crosses_back : {A : Type 0} (R : A → A → Bool) (xs ys : List A) → crosses R xs ys ≡ crosses (λ y x. R x y) ys xs
crosses_back R [] ys = sym (any_never ys)
crosses_back R (x ∷ xs) ys = ap (λ b. list_any (R x) ys || b) (crosses_back R xs ys) ∙ sym (any_or (R x) (λ y. list_any (λ z. R z y) xs) ys)

-- ---- pairs in several lists

or_five : (a b c d e : Bool) → ((a || b) || (c || (d || e))) ≡ ((a || c) || ((b || d) || e))
or_five true b c d e = refl
or_five false true true d e = refl
or_five false true false d e = refl
or_five false false c d e = refl

pairs_append : {A : Type 0} (R : A → A → Bool) (xs ys : List A) → any_pair R (xs ++ ys) ≡ (any_pair R xs || (crosses R xs ys || any_pair R ys))
pairs_append R [] ys = refl
pairs_append R (x ∷ xs) ys =
    ap₂ (λ a b. a || b) (list_any-append (R x) xs ys) (pairs_append R xs ys)
    ∙ or_five (list_any (R x) xs) (list_any (R x) ys) (any_pair R xs) (crosses R xs ys) (any_pair R ys)

crosses_append : {A : Type 0} (R : A → A → Bool) (xs ys zs : List A) → crosses R xs (ys ++ zs) ≡ (crosses R xs ys || crosses R xs zs)
crosses_append R xs ys zs = any_same _ _ (λ x. list_any-append (R x) ys zs) xs ∙ any_or (λ x. list_any (R x) ys) (λ x. list_any (R x) zs) xs

none_cross : {A : Type 0} (R : A → A → Bool) (xs : List A) → crosses R xs [] ≡ false
none_cross R xs = any_never xs

module _ {A B : Type 0} (R : B → B → Bool) (f : A → List B) where
  crosses_flat : (xs : List B) (gs : List A) → crosses R xs (flat_map f gs) ≡ list_any (λ g. crosses R xs (f g)) gs
  crosses_flat xs [] = none_cross R xs
  crosses_flat xs (g ∷ gs) = crosses_append R xs (f g) (flat_map f gs) ∙ ap (λ b. crosses R xs (f g) || b) (crosses_flat xs gs)

  -- where none of the lists has such a pair, two of them have
  pairs_flat : (gs : List A) → AllByRecursion (λ g. any_pair R (f g) ≡ false) gs → any_pair R (flat_map f gs) ≡ any_pair (λ g h. crosses R (f g) (f h)) gs
  pairs_flat [] h = refl
  pairs_flat (g ∷ gs) h = pairs_append R (f g) (flat_map f gs) ∙ ap₂ (λ a b. a || b) h.0 (ap₂ (λ a b. a || b) (crosses_flat (f g) gs) (pairs_flat gs h.1))

any_pair_map : {A B : Type 0} (f : A → B) (R : B → B → Bool) (xs : List A) → any_pair R (map f xs) ≡ any_pair (λ x y. R (f x) (f y)) xs
any_pair_map f R [] = refl
any_pair_map f R (x ∷ xs) = ap₂ (λ a b. a || b) (any_map f (R (f x)) xs) (any_pair_map f R xs)

any_pair_same : {A : Type 0} (R S : A → A → Bool) → ((x y : A) → R x y ≡ S x y) → (xs : List A) → any_pair R xs ≡ any_pair S xs
any_pair_same R S e [] = refl
any_pair_same R S e (x ∷ xs) = ap₂ (λ a b. a || b) (any_same (R x) (S x) (e x) xs) (any_pair_same R S e xs)

-- ---- overlaps

pub overlap_back : (a b : Range) → overlap a b ≡ overlap b a
overlap_back a b = and_comm (is_le (slice_cmp nat_cmp a.min b.max)) (is_le (slice_cmp nat_cmp b.min a.max))

above : (o : Ordering) → is_lt o ≡ true → is_le (ordering_reverse o) ≡ false
above Less h = refl
above Equal h = absurd (cc h)
above Greater h = absurd (cc h)

and_false : (a : Bool) → (a && false) ≡ false
and_false true = refl
and_false false = refl

-- what ends before the other begins doesn't overlap it
pub ends_before : (a b : Range) → is_below a.max b.min ≡ true → overlap a b ≡ false
unfolding is_below
ends_before a b h =
    let e : is_le (slice_cmp nat_cmp b.min a.max) ≡ false = ap is_le (nat_list_cmp_total.antisymm b.min a.max) ∙ above (slice_cmp nat_cmp a.max b.min) h in
    ap (λ c. is_le (slice_cmp nat_cmp a.min b.max) && c) e ∙ and_false (is_le (slice_cmp nat_cmp a.min b.max))

-- ---- runs

-- the runs of levels, each with its level
abbrev pub runs_from : ℕ → Levels → List (ℕ × List SeenTable)
runs_from n [] = []
runs_from n (runs ∷ levels) = map (λ run. (n, run)) runs ++ runs_from (n + 1) levels

abbrev pub placed_run : ℕ × List SeenTable → List Placed
placed_run r = placed_in r.0 r.1

one_level : (n : ℕ) (runs : List (List SeenTable)) → placed_in n (tables_of runs) ≡ flat_map placed_run (map (λ run. (n, run)) runs)
one_level n [] = refl
one_level n (run ∷ runs) = map_append (λ t. placed_at n (shown_table t)) run (tables_of runs) ∙ ap (λ l. placed_in n run ++ l) (one_level n runs)

placed_runs : (n : ℕ) (levels : Levels) → placed_from n (shown_levels levels) ≡ flat_map placed_run (runs_from n levels)
placed_runs n [] = refl
placed_runs n (runs ∷ levels) =
    placed_cons n runs levels
    ∙ ap₂ (λ a b. a ++ b) (one_level n runs) (placed_runs (n + 1) levels)
    ∙ sym (flat_map-append placed_run (map (λ run. (n, run)) runs) (runs_from (n + 1) levels))

parted_runs : (ids : List ℕ) (n : ℕ) (levels : Levels) → parted_from ids n levels ≡ map (λ r. part_of ids r.0 r.1) (runs_from n levels)
parted_runs ids n [] = refl
parted_runs ids n (runs ∷ levels) =
    ap₂ (λ a b. a ++ b) (sym (map_map (λ (r : ℕ × List SeenTable). part_of ids r.0 r.1) (λ run. (n, run)) runs)) (parted_runs ids (n + 1) levels)
    ∙ sym (map_append (λ (r : ℕ × List SeenTable). part_of ids r.0 r.1) (map (λ run. (n, run)) runs) (runs_from (n + 1) levels))

-- within a run nothing is wrong
one_none : (fault : Fault) (to : ℕ) (ids : List ℕ) (n : ℕ) (t : SeenTable) (ts : List SeenTable) → AllByRecursion (λ y. is_below (range t).max (range y).min ≡ true) ts → list_any (is_bad fault to ids (placed_at n (shown_table t))) (placed_in n ts) ≡ false
one_none fault to ids n t [] h = refl
one_none fault to ids n t (u ∷ ts) h = rw (ends_before (range t) (range u) h.0) (one_none fault to ids n t ts h.1)

run_none : (fault : Fault) (to : ℕ) (ids : List ℕ) (n : ℕ) (ts : List SeenTable) → IsRun range ts → any_pair (is_bad fault to ids) (placed_in n ts) ≡ false
run_none fault to ids n [] h = refl
run_none fault to ids n (t ∷ ts) h = ap₂ (λ a b. a || b) (one_none fault to ids n t ts h.1) (run_none fault to ids n ts h.2)

level_none : (fault : Fault) (to : ℕ) (ids : List ℕ) (n : ℕ) (runs : List (List SeenTable)) (rest : List (ℕ × List SeenTable)) → AllByRecursion (IsRun range) runs → AllByRecursion (λ r. any_pair (is_bad fault to ids) (placed_run r) ≡ false) rest → AllByRecursion (λ r. any_pair (is_bad fault to ids) (placed_run r) ≡ false) (map (λ run. (n, run)) runs ++ rest)
level_none fault to ids n [] rest h k = k
level_none fault to ids n (run ∷ runs) rest h k = (run_none fault to ids n run h.0, level_none fault to ids n runs rest h.1 k)

levels_none : (fault : Fault) (to : ℕ) (ids : List ℕ) (n : ℕ) (levels : Levels) → AreRuns levels → AllByRecursion (λ r. any_pair (is_bad fault to ids) (placed_run r) ≡ false) (runs_from n levels)
levels_none fault to ids n [] h = tt
levels_none fault to ids n (runs ∷ levels) h = level_none fault to ids n runs (runs_from (n + 1) levels) h.0 (levels_none fault to ids (n + 1) levels h.1)

-- ---- two runs

-- chosen tables of the one, and those that aren't of the other
taken : (o : SeenTable → SeenTable → Bool) (a b : SeenTable → Bool) (ts us : List SeenTable) → crosses (λ t u. a t && (b u && o t u)) ts us ≡ crosses o (filter a ts) (filter b us)
taken o a b ts us =
    any_same _ _ (λ t. any_with (a t) (λ u. b u && o t u) us ∙ ap (λ c. a t && c) (any_filter b (o t) us)) ts
    ∙ any_filter a (λ t. list_any (o t) (filter b us)) ts

order_shape : (o a b m n : Bool) → (o && ((not a && b && m) || (a && not b && n))) ≡ ((m && (not a && (b && o))) || (n && (a && (not b && o))))
order_shape o a b m n = elim o as (λ o. (o && ((not a && b && m) || (a && not b && n))) ≡ ((m && (not a && (b && o))) || (n && (a && (not b && o))))) [ true ↦ there a b m n | false ↦ gone a b m n ]
  where
    there : (a b m n : Bool) → ((not a && b && m) || (a && not b && n)) ≡ ((m && (not a && (b && true))) || (n && (a && (not b && true))))
    there true true true true = refl
    there true true true false = refl
    there true true false true = refl
    there true true false false = refl
    there true false true true = refl
    there true false true false = refl
    there true false false true = refl
    there true false false false = refl
    there false true true true = refl
    there false true true false = refl
    there false true false true = refl
    there false true false false = refl
    there false false true true = refl
    there false false true false = refl
    there false false false true = refl
    there false false false false = refl

    nothing : (c d : Bool) → (c && (d && false)) ≡ false
    nothing true true = refl
    nothing true false = refl
    nothing false d = refl

    nowhere : (m : Bool) → (m && false) ≡ false
    nowhere true = refl
    nowhere false = refl

    gone : (a b m n : Bool) → false ≡ ((m && (not a && (b && false))) || (n && (a && (not b && false))))
    gone a b m n = sym (ap₂ (λ x y. x || y) (ap (λ c. m && c) (nothing (not a) b) ∙ nowhere m) (ap (λ c. n && c) (nothing a (not b)) ∙ nowhere n))

below_shape : (o e a b w : Bool) → (o && (e && (a && not b && w))) ≡ ((e && w) && (a && (not b && o)))
below_shape true true true true true = refl
below_shape true true true true false = refl
below_shape true true true false true = refl
below_shape true true true false false = refl
below_shape true true false b true = refl
below_shape true true false b false = refl
below_shape true false a b w = refl
below_shape false true true true true = refl
below_shape false true true true false = refl
below_shape false true true false true = refl
below_shape false true true false false = refl
below_shape false true false b true = refl
below_shape false true false b false = refl
below_shape false false a b w = refl

abbrev meet : SeenTable → SeenTable → Bool
meet t u = overlap (range t) (range u)

crosses_same : {A : Type 0} (R S : A → A → Bool) → ((x y : A) → R x y ≡ S x y) → (xs ys : List A) → crosses R xs ys ≡ crosses S xs ys
crosses_same R S e xs ys = any_same _ _ (λ x. any_same (R x) (S x) (e x) ys) xs

crosses_or : {A : Type 0} (R S : A → A → Bool) (xs ys : List A) → crosses (λ x y. R x y || S x y) xs ys ≡ (crosses R xs ys || crosses S xs ys)
crosses_or R S xs ys = any_same _ _ (λ x. any_or (R x) (S x) ys) xs ∙ any_or (λ x. list_any (R x) ys) (λ x. list_any (S x) ys) xs

crosses_with : {A : Type 0} (c : Bool) (R : A → A → Bool) (xs ys : List A) → crosses (λ x y. c && R x y) xs ys ≡ (c && crosses R xs ys)
crosses_with c R xs ys = any_same _ _ (λ x. any_with c (R x) ys) xs ∙ any_with c (λ x. list_any (R x) ys) xs

-- the tables of two runs, placed
shown_crosses : (R : Placed → Placed → Bool) (m n : ℕ) (ts us : List SeenTable) → crosses R (placed_in m ts) (placed_in n us) ≡ crosses (λ t u. R (placed_at m (shown_table t)) (placed_at n (shown_table u))) ts us
shown_crosses R m n ts us =
    any_map (λ t. placed_at m (shown_table t)) (λ p. list_any (R p) (placed_in n us)) ts
    ∙ any_same _ _ (λ t. any_map (λ u. placed_at n (shown_table u)) (R (placed_at m (shown_table t))) us) ts

between : (fault : Fault) (to : ℕ) (ids : List ℕ) (m n : ℕ) (ts us : List SeenTable) → crosses (is_bad fault to ids) (placed_in m ts) (placed_in n us) ≡ is_wrong fault to (part_of ids m ts) (part_of ids n us)
between OutOfOrder to ids m n ts us =
    let c = λ (t : SeenTable). among ids t.id in
    let l = λ (t : SeenTable). not (among ids t.id) in
    shown_crosses (is_bad OutOfOrder to ids) m n ts us
    ∙ crosses_same _ (λ t u. (leb to m && (l t && (c u && meet t u))) || (ltb n to && (c t && (l u && meet t u)))) (λ t u. order_shape (meet t u) (c t) (c u) (leb to m) (ltb n to)) ts us
    ∙ crosses_or (λ t u. leb to m && (l t && (c u && meet t u))) (λ t u. ltb n to && (c t && (l u && meet t u))) ts us
    ∙ ap₂ (λ a b. a || b)
    (crosses_with (leb to m) (λ t u. l t && (c u && meet t u)) ts us
    ∙ ap (λ b. leb to m && b) (taken meet l c ts us ∙ crosses_back meet (left_in ids ts) (chosen_in ids us) ∙ crosses_same (λ u t. meet t u) meet (λ u t. overlap_back (range t) (range u)) (chosen_in ids us) (left_in ids ts)))
    (crosses_with (ltb n to) (λ t u. c t && (l u && meet t u)) ts us ∙ ap (λ b. ltb n to && b) (taken meet c l ts us))
between StandsBelow to ids m n ts us =
    let c = λ (t : SeenTable). among ids t.id in
    let l = λ (t : SeenTable). not (among ids t.id) in
    shown_crosses (is_bad StandsBelow to ids) m n ts us
    ∙ crosses_same _ (λ t u. (eqb to 6 && eqb n 6) && (c t && (l u && meet t u))) (λ t u. below_shape (meet t u) (eqb to 6) (c t) (c u) (eqb n 6)) ts us
    ∙ crosses_with (eqb to 6 && eqb n 6) (λ t u. c t && (l u && meet t u)) ts us
    ∙ ap (λ b. (eqb to 6 && eqb n 6) && b) (taken meet c l ts us)

-- what is wrong in a version
pub wrong_shown : (fault : Fault) (to : ℕ) (ids : List ℕ) (levels : Levels) → AreRuns levels → any_pair (is_wrong fault to) (parted_from ids 0 levels) ≡ any_bad fault to ids levels
wrong_shown fault to ids levels runs =
    ap (any_pair (is_wrong fault to)) (parted_runs ids 0 levels)
    ∙ any_pair_map (λ r. part_of ids r.0 r.1) (is_wrong fault to) (runs_from 0 levels)
    ∙ sym (any_pair_same _ _ (λ (r s : ℕ × List SeenTable). between fault to ids r.0 s.0 r.1 s.1) (runs_from 0 levels))
    ∙ sym (pairs_flat (is_bad fault to ids) placed_run (runs_from 0 levels) (levels_none fault to ids 0 levels runs))
    ∙ sym (ap (any_pair (is_bad fault to ids)) (placed_runs 0 levels))

-- ---- one level after the other

parted_push : (ids : List ℕ) (n : ℕ) (xs : Levels) (x : List (List SeenTable)) → parted_from ids n (xs ++ x ∷ []) ≡ parted_from ids n xs ++ map (part_of ids (n + length xs)) x
parted_push ids n [] x = let e : n + 0 ≡ n = omega arith in rw e (append-nil (map (part_of ids n) x))
parted_push ids n (y ∷ ys) x =
    let e : n + 1 + length ys ≡ n + suc (length ys) = omega arith in
    ap (λ l. map (part_of ids n) y ++ l) (parted_push ids (n + 1) ys x ∙ ap (λ m. parted_from ids (n + 1) ys ++ map (part_of ids m) x) e)
    ∙ sym (append_assoc (map (part_of ids n) y) (parted_from ids (n + 1) ys) (map (part_of ids (n + suc (length ys))) x))

pub parted_more : (ids : List ℕ) (xs : Levels) (i : ℕ) (x : List (List SeenTable)) → i < length xs → x ≡ get_or xs i x → parted_from ids 0 (take (i + 1) xs) ≡ parted_from ids 0 (take i xs) ++ map (part_of ids i) x
parted_more ids xs i x lt read =
    let e : 0 + length (take i xs) ≡ i = omega (arith, length-take-le i xs) in
    ap (parted_from ids 0) (take_more xs i x lt) ∙ (parted_push ids 0 (take i xs) (get_or xs i x) ∙ (ap (λ m. parted_from ids 0 (take i xs) ++ map (part_of ids m) (get_or xs i x)) e ∙ ap (λ r. parted_from ids 0 (take i xs) ++ map (part_of ids i) r) (sym read)))

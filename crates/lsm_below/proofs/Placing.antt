-- What placing one table more keeps.
use Rattle.lsm_below.specs.Each.{each_weaker}
use Rattle.std.proofs.Math.Bool.{and-false, and_assoc}
use Rattle.std.proofs.lemmas.Bool.{both_ways, not-true, true_from_ne_false, and_parts}
use Rattle.std.proofs.Common.{◌≡◌, ℕ, zero, suc, ◌-◌, ◌<◌, ◌≤◌, true, false, cond, not, ◌&&◌, List, [], ◌∷◌, ◌++◌, length, get_or, take, drop, set, refl, sym, ◌∙◌, ap, subst, arith}
use Rattle.std.specs.List.{AllByRecursion, insert}
use Rattle.std.specs.List.Sorted.{IsPermutation}
use Rattle.std.proofs.lemmas.List.{take_all}
use Rattle.std.proofs.lemmas.List.Sorted.{IsPermutation-refl, IsPermutation-trans, IsPermutation-sym, IsPermutation-cons, IsPermutation-middle}
use Rattle.lsm_below.specs.Keys.{is_below}
use Rattle.lsm_below.specs.Ranges.{Range, IsRange, in_range, overlap}
use Rattle.lsm_below.specs.Runs.{IsRun, IsCut, stands}
use Rattle.lsm_below.specs.declared.run.Side.TheVariants.{EndsBefore}
use Rattle.lsm_below.specs.Optimizes.{tables_of}
use Rattle.lsm_below.specs.Greedy.{put, is_free, placed, starts_behind}
use Rattle.lsm_below.proofs.Keys.{upto_trans, below_then_upto, below_trans, range_ends, in_by, overlap_by}

-- two ranges with a key in both overlap
pub shared_overlaps : (k : List ℕ) (a b : Range) → in_range k a ≡ true → in_range k b ≡ true → overlap a b ≡ true
shared_overlaps k a b h g =
    let p = and_parts (not (is_below k a.min)) (not (is_below a.max k)) (sym (in_by k a) ∙ h) in
    let q = and_parts (not (is_below k b.min)) (not (is_below b.max k)) (sym (in_by k b) ∙ g) in
    let x : is_below a.max b.min ≡ false = upto_trans b.min k a.max (not-true (is_below k b.min) q.0) (not-true (is_below a.max k) p.1) in
    let y : is_below b.max a.min ≡ false = upto_trans a.min k b.max (not-true (is_below k a.min) p.0) (not-true (is_below b.max k) q.1) in
    overlap_by a b ∙ rw (x, y) refl

pub overlap_parts : (a b : Range) → overlap a b ≡ true → (is_below a.max b.min ≡ false) × (is_below b.max a.min ≡ false)
overlap_parts a b h = let p = and_parts (not (is_below a.max b.min)) (not (is_below b.max a.min)) (sym (overlap_by a b) ∙ h) in (not-true (is_below a.max b.min) p.0, not-true (is_below b.max a.min) p.1)

module _ {T : Type 0} (range : T → Range) where
  -- ---- one run

  pub put_is_insert : (t : T) (xs : List T) (at : ℕ) → IsCut (λ x. stands EndsBefore (range t).min (range x)) xs at → put range t xs ≡ insert xs at t
  put_is_insert t [] at cut = let m = cut.at_most in let e : at ≡ 0 = omega arith in rw e refl
  put_is_insert t (x ∷ xs) zero cut = rw (cut.behind 0 x (omega arith) (omega arith)) refl
  put_is_insert t (x ∷ xs) (suc at) cut = rw (cut.before 0 x (omega arith)) (ap (λ l. x ∷ l) (put_is_insert t xs at (let m = cut.at_most in record {
    at_most = omega arith;
    before = λ j d lt. cut.before (suc j) d (omega arith);
    behind = λ j d le lt. cut.behind (suc j) d (omega arith) (omega arith);
  })))

  put_all : (P : T → Type 0) (t : T) (xs : List T) → P t → AllByRecursion P xs → AllByRecursion P (put range t xs)
  put_all P t [] p h = (p, h)
  put_all P t (x ∷ xs) p h = elim (is_below (range x).max (range t).min) as (λ b. AllByRecursion P (cond b (x ∷ put range t xs) (t ∷ x ∷ xs))) [ true ↦ (h.0, put_all P t xs p h.1) | false ↦ (p, h) ]

  -- a run with a table put in stays a run, where none overlaps it
  pub put_run : (t : T) (xs : List T) → IsRange (range t) → IsRun range xs → is_free range (range t) xs ≡ true → IsRun range (put range t xs)
  put_run t [] v h free = (v, tt, tt)
  put_run t (x ∷ xs) v h free =
      let f = and_parts (not (overlap (range x) (range t))) (is_free range (range t) xs) free in
      elim (is_below (range x).max (range t).min) as (λ b. is_below (range x).max (range t).min ≡ b → IsRun range (cond b (x ∷ put range t xs) (t ∷ x ∷ xs))) [
        | true ↦ λ e. (h.0, put_all (λ y. is_below (range x).max (range y).min ≡ true) t xs e h.1, put_run t xs v h.2 f.1)
        | false ↦ λ e.
            let apart : is_below (range t).max (range x).min ≡ true = true_from_ne_false (is_below (range t).max (range x).min) (λ n. let o : overlap (range x) (range t) ≡ true = overlap_by (range x) (range t) ∙ rw (e, n) refl in both_ways (overlap (range x) (range t)) (not-true (overlap (range x) (range t)) f.0) o) in
            (v, (apart, each_weaker (λ y. is_below (range x).max (range y).min ≡ true) (λ y. is_below (range t).max (range y).min ≡ true) (λ y l. below_trans (range t).max (range x).max (range y).min (below_then_upto (range t).max (range x).min (range x).max apart (range_ends (range x) h.0)) l) xs h.1), h)
      ] refl

  pub put_some : (t : T) (xs : List T) → 0 < length (put range t xs)
  put_some t [] = omega arith
  put_some t (x ∷ xs) = elim (is_below (range x).max (range t).min) as (λ b. 0 < length (cond b (x ∷ put range t xs) (t ∷ x ∷ xs))) [ true ↦ omega arith | false ↦ omega arith ]

  pub put_same : (t : T) (xs : List T) → IsPermutation (t ∷ xs) (put range t xs)
  put_same t [] = IsPermutation-refl (t ∷ [])
  put_same t (x ∷ xs) = elim (is_below (range x).max (range t).min) as (λ b. IsPermutation (t ∷ x ∷ xs) (cond b (x ∷ put range t xs) (t ∷ x ∷ xs))) [
    | true ↦ IsPermutation-trans (t ∷ x ∷ xs) (x ∷ t ∷ xs) (x ∷ put range t xs) (IsPermutation-sym (x ∷ t ∷ xs) (t ∷ x ∷ xs) (IsPermutation-middle (x ∷ []) t xs)) (IsPermutation-cons x (t ∷ xs) (put range t xs) (put_same t xs))
    | false ↦ IsPermutation-refl (t ∷ x ∷ xs)
  ]

  cut_rest : (r : Range) (x : T) (xs : List T) (at : ℕ) → IsCut (λ y. stands EndsBefore r.min (range y)) (x ∷ xs) (suc at) → IsCut (λ y. stands EndsBefore r.min (range y)) xs at
  cut_rest r x xs at cut = let m = cut.at_most in record {
    at_most = omega arith;
    before = λ j d lt. cut.before (suc j) d (omega arith);
    behind = λ j d le lt. cut.behind (suc j) d (omega arith) (omega arith);
  }

  -- whether a run is free, by the first table that doesn't end before the range
  pub free_past : (r : Range) (xs : List T) (at : ℕ) → IsCut (λ x. stands EndsBefore r.min (range x)) xs at → length xs ≤ at → is_free range r xs ≡ true
  free_past r [] at cut le = refl
  free_past r (x ∷ xs) zero cut le = absurd (omega arith)
  free_past r (x ∷ xs) (suc at) cut le = rw (overlap_by (range x) r, cut.before 0 x (omega arith)) (free_past r xs at (cut_rest r x xs at cut) (omega arith))

  all_behind : (r : Range) (xs : List T) → AllByRecursion (λ y. is_below r.max (range y).min ≡ true) xs → is_free range r xs ≡ true
  all_behind r [] h = refl
  all_behind r (x ∷ xs) h = rw (overlap_by (range x) r, h.0, and-false (not (is_below (range x).max r.min))) (all_behind r xs h.1)

  pub free_at : (r : Range) (xs : List T) (at : ℕ) (e : T) → IsRun range xs → IsCut (λ x. stands EndsBefore r.min (range x)) xs at → at < length xs → e ≡ get_or xs at e → is_free range r xs ≡ is_below r.max (range e).min
  free_at r [] at e run cut lt read = absurd (omega arith)
  free_at r (x ∷ xs) zero e run cut lt read =
      let here : is_below (range x).max r.min ≡ false = cut.behind 0 x (omega arith) (omega arith) in
      rw (overlap_by (range x) r, read, here)
      (elim (is_below r.max (range x).min) as (λ b. is_below r.max (range x).min ≡ b → (not (not b) && is_free range r xs) ≡ b) [
        | true ↦ λ q. all_behind r xs (each_weaker (λ y. is_below (range x).max (range y).min ≡ true) (λ y. is_below r.max (range y).min ≡ true) (λ y l. below_trans r.max (range x).max (range y).min (below_then_upto r.max (range x).min (range x).max q (range_ends (range x) run.0)) l) xs run.1)
        | false ↦ λ q. refl
      ] refl)
  free_at r (x ∷ xs) (suc at) e run cut lt read = rw (overlap_by (range x) r, cut.before 0 x (omega arith)) (free_at r xs at e run.2 (cut_rest r x xs at cut) (omega arith) read)

  -- ---- several runs

  pub free_append : (r : Range) (xs ys : List T) → is_free range r (xs ++ ys) ≡ (is_free range r xs && is_free range r ys)
  free_append r [] ys = refl
  free_append r (x ∷ xs) ys = rw (free_append r xs ys) (sym (and_assoc (not (overlap (range x) r)) (is_free range r xs) (is_free range r ys)))

  -- one run earlier is free too
  pub free_from : (r : Range) (runs : List (List T)) (at next : ℕ) (run : List T) → next ≡ suc at → at < length runs → run ≡ get_or runs at run → is_free range r run ≡ true → is_free range r (tables_of (drop next runs)) ≡ true → is_free range r (tables_of (drop at runs)) ≡ true
  free_from r [] at next run n lt read f h = absurd (omega arith)
  free_from r (x ∷ runs) zero next run n lt read f h =
      let e : is_free range r x ≡ true = subst (λ y. is_free range r y ≡ true) read f in
      let k : is_free range r (tables_of (drop (suc zero) (x ∷ runs))) ≡ true = subst (λ m. is_free range r (tables_of (drop m (x ∷ runs))) ≡ true) n h in
      free_append r x (tables_of runs) ∙ rw e k
  free_from r (x ∷ runs) (suc at) next run n lt read f h =
      let k : is_free range r (tables_of (drop (suc (suc at)) (x ∷ runs))) ≡ true = subst (λ m. is_free range r (tables_of (drop m (x ∷ runs))) ≡ true) n h in
      free_from r runs at (suc at) run refl (omega arith) read f k

  pub free_member : (r : Range) (runs : List (List T)) (at : ℕ) (run : List T) → at < length runs → run ≡ get_or runs at run → is_free range r (tables_of (drop at runs)) ≡ true → is_free range r run ≡ true
  free_member r [] at run lt read h = absurd (omega arith)
  free_member r (x ∷ runs) zero run lt read h = subst (λ y. is_free range r y ≡ true) (sym read) (and_parts (is_free range r x) (is_free range r (tables_of runs)) (sym (free_append r x (tables_of runs)) ∙ h)).0
  free_member r (x ∷ runs) (suc at) run lt read h = free_member r runs at run (omega arith) read h

  busy_member : (r : Range) (runs : List (List T)) (at : ℕ) → at < length runs → is_free range r (get_or runs at []) ≡ false → is_free range r (tables_of runs) ≡ false
  busy_member r [] at lt f = absurd (omega arith)
  busy_member r (x ∷ runs) zero lt f = free_append r x (tables_of runs) ∙ rw f refl
  busy_member r (x ∷ runs) (suc at) lt f = free_append r x (tables_of runs) ∙ rw (busy_member r runs at (omega arith) f) (and-false (is_free range r x))

  busy_front : (t : T) (r : List T) (rs : List (List T)) (at : ℕ) → at ≤ length rs → (0 < suc at → is_free range (range t) (get_or (r ∷ rs) (suc at - 1) []) ≡ false) → is_free range (range t) (r ++ tables_of rs) ≡ false
  busy_front t r rs at le b =
      let e : suc at - 1 ≡ at = omega arith in
      let f : is_free range (range t) (get_or (r ∷ rs) at []) ≡ false = subst (λ n. is_free range (range t) (get_or (r ∷ rs) n []) ≡ false) e (b (omega arith)) in
      busy_member (range t) (r ∷ rs) at (omega arith) f

  before_rest : (t : T) (r : List T) (rs : List (List T)) (at : ℕ) → (0 < suc at → is_free range (range t) (get_or (r ∷ rs) (suc at - 1) []) ≡ false) → 0 < at → is_free range (range t) (get_or rs (at - 1) []) ≡ false
  before_rest t r rs at b lt =
      let e : suc at - 1 ≡ suc (at - 1) = omega arith in
      subst (λ n. is_free range (range t) (get_or (r ∷ rs) n []) ≡ false) e (b (omega arith))

  -- the place after the last run that isn't free is where `placed` puts a table
  pub placed_at : (t : T) (runs : List (List T)) (at : ℕ) → at < length runs → is_free range (range t) (tables_of (drop at runs)) ≡ true → (0 < at → is_free range (range t) (get_or runs (at - 1) []) ≡ false) → placed range t runs ≡ set runs at (put range t (get_or runs at []))
  placed_at t [] at lt f b = absurd (omega arith)
  placed_at t (r ∷ rs) zero lt f b = rw f refl
  placed_at t (r ∷ rs) (suc at) lt f b = rw (busy_front t r rs at (omega arith) b) (ap (λ l. r ∷ l) (placed_at t rs at (omega arith) f (before_rest t r rs at b)))

  pub placed_end : (t : T) (runs : List (List T)) → (0 < length runs → is_free range (range t) (get_or runs (length runs - 1) []) ≡ false) → placed range t runs ≡ runs ++ (t ∷ []) ∷ []
  placed_end t [] b = refl
  placed_end t (r ∷ rs) b = rw (busy_front t r rs (length rs) (omega arith) b) (ap (λ l. r ∷ l) (placed_end t rs (before_rest t r rs (length rs) b)))

  -- ---- one table in front of a run

  pub run_front : (x : T) (xs : List T) → IsRange (range x) → starts_behind range (range x) xs ≡ true → IsRun range xs → IsRun range (x ∷ xs)
  run_front x [] v b h = (v, tt, tt)
  run_front x (y ∷ ys) v b h = (v, (b, each_weaker (λ z. is_below (range y).max (range z).min ≡ true) (λ z. is_below (range x).max (range z).min ≡ true) (λ z l. below_trans (range x).max (range y).max (range z).min (below_then_upto (range x).max (range y).min (range y).max b (range_ends (range y) h.0)) l) ys h.1), h)

  pub run_whole : (xs : List T) (x : T) → 0 < length xs → x ≡ get_or xs 0 x → IsRange (range x) → starts_behind range (range x) (drop 1 xs) ≡ true → IsRun range (drop 1 xs) → IsRun range xs
  run_whole [] x some read v b h = absurd (omega arith)
  run_whole (y ∷ ys) x some read v b h = subst (λ z. IsRun range (z ∷ ys)) read (run_front x ys v b h)

  pub run_part : (xs : List T) → IsRun range xs → IsRun range (drop 1 xs)
  run_part [] h = tt
  run_part (y ∷ ys) h = h.2

  pub tail_is : (xs : List T) → take (length xs - 1) (drop 1 xs) ≡ drop 1 xs
  tail_is [] = take_all 0 [] (omega arith)
  tail_is (y ∷ ys) = take_all (length (y ∷ ys) - 1) ys (omega arith)

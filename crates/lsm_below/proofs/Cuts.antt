-- Where a run is cut by a key, and what a cut gives.
use Rattle.std.proofs.Math.Bool.{and-false}
use Rattle.std.proofs.Common.{◌≡◌, ℕ, zero, suc, ◌+◌, ◌-◌, ◌<◌, ◌≤◌, Bool, true, false, cond, not, ◌&&◌, List, [], ◌∷◌, length, get_or, take, drop, Some, None, refl, sym, ◌∙◌, ap, subst, arith, inl, inr}
use Rattle.std.specs.List.{find, filter}
use Rattle.std.proofs.lemmas.Bool.{cases_lt, not-true, not_from_false}
use Rattle.std.proofs.lemmas.List.{get_or_default}
use Rattle.lsm_below.specs.Keys.{is_below}
use Rattle.lsm_below.specs.Ranges.{Range, IsRange, in_range}
use Rattle.lsm_below.specs.Runs.{IsRun, IsCut, stands, IsSpan}
use Rattle.lsm_below.specs.declared.run.Side.{Side}
use Rattle.lsm_below.specs.declared.run.Side.TheVariants.{EndsBefore, EndsAtOrBefore, StartsBefore, StartsAtOrBefore}
use Rattle.lsm_below.specs.Each.{each_at}
use Rattle.lsm_below.proofs.Keys.{upto_trans, below_upto, below_then_upto, upto_then_below, below_trans, range_ends, in_by}

-- the range before one that stands so does too
carried : (side : Side) (k : List ℕ) (r s : Range) → IsRange r → IsRange s → is_below r.max s.min ≡ true → stands side k s ≡ true → stands side k r ≡ true
carried EndsBefore k r s vr vs b h = below_trans r.max s.max k (below_then_upto r.max s.min s.max b (range_ends s vs)) h
carried EndsAtOrBefore k r s vr vs b h = not_from_false (is_below k r.max) (upto_trans r.max s.max k (below_upto r.max s.max (below_then_upto r.max s.min s.max b (range_ends s vs))) (not-true (is_below k s.max) h))
carried StartsBefore k r s vr vs b h = below_trans r.min s.min k (upto_then_below r.min r.max s.min (range_ends r vr) b) h
carried StartsAtOrBefore k r s vr vs b h = not_from_false (is_below k r.min) (upto_trans r.min s.min k (below_upto r.min s.min (upto_then_below r.min r.max s.min (range_ends r vr) b)) (not-true (is_below k s.min) h))

module _ {T : Type 0} (range : T → Range) where
  pub run_at : (xs : List T) (i j : ℕ) (d : T) → IsRun range xs → i < j → j < length xs → is_below (range (get_or xs i d)).max (range (get_or xs j d)).min ≡ true
  run_at [] i j d h lt in_range = absurd (omega arith)
  run_at (x ∷ xs) zero zero d h lt in_range = absurd (omega arith)
  run_at (x ∷ xs) zero (suc j) d h lt in_range = each_at (λ y. is_below (range x).max (range y).min ≡ true) xs j d h.1 (omega arith)
  run_at (x ∷ xs) (suc i) zero d h lt in_range = absurd (omega arith)
  run_at (x ∷ xs) (suc i) (suc j) d h lt in_range = run_at xs i j d h.2 (omega arith) (omega arith)

  pub range_at : (xs : List T) (j : ℕ) (d : T) → IsRun range xs → j < length xs → IsRange (range (get_or xs j d))
  range_at [] j d h lt = absurd (omega arith)
  range_at (x ∷ xs) zero d h lt = h.0
  range_at (x ∷ xs) (suc j) d h lt = range_at xs j d h.2 (omega arith)

  module _ (xs : List T) (run : IsRun range xs) (side : Side) (k : List ℕ) where
    parted : (i j : ℕ) (d : T) → i ≤ j → j < length xs → stands side k (range (get_or xs j d)) ≡ true → stands side k (range (get_or xs i d)) ≡ true
    parted i j d le lt h =
        elim (cases_lt i j) [
          | inl less ↦ carried side k (range (get_or xs i d)) (range (get_or xs j d)) (range_at xs i d run (omega arith)) (range_at xs j d run lt) (run_at xs i j d run less lt) h
          | inr ge ↦ let same : i ≡ j = omega arith in subst (λ n. stands side k (range (get_or xs n d)) ≡ true) (sym same) h
        ]

    -- a step of the binary search
    pub all_to : (mid : ℕ) (e : T) → mid < length xs → e ≡ get_or xs mid e → stands side k (range e) ≡ true → (j : ℕ) (d : T) → j < mid + 1 → stands side k (range (get_or xs j d)) ≡ true
    all_to mid e lt read here j d before =
        parted j mid d (omega arith) lt (subst (λ x. stands side k (range x) ≡ true) (read ∙ get_or_default xs mid e d lt) here)

    pub none_from : (mid : ℕ) (e : T) → mid < length xs → e ≡ get_or xs mid e → stands side k (range e) ≡ false → (j : ℕ) (d : T) → mid ≤ j → j < length xs → stands side k (range (get_or xs j d)) ≡ false
    none_from mid e lt read here j d le in_range = go (stands side k (range (get_or xs j d))) refl
      where
        go : (b : Bool) → stands side k (range (get_or xs j d)) ≡ b → b ≡ false
        go false is = refl
        go true is =
            let there : stands side k (range (get_or xs mid d)) ≡ true = parted mid j d le in_range is in
            let here' : stands side k (range (get_or xs mid d)) ≡ false = subst (λ x. stands side k (range x) ≡ false) (read ∙ get_or_default xs mid e d lt) here in
            sym there ∙ here'

-- what two cuts leave between them
module _ {T : Type 0} (p q : T → Bool) where
  cut_rest : (t : T → Bool) (x : T) (xs : List T) (at : ℕ) → IsCut t (x ∷ xs) (suc at) → IsCut t xs at
  cut_rest t x xs at h = let m = h.at_most in record {
    at_most = omega arith;
    before = λ j d lt. h.before (suc j) d (omega arith);
    behind = λ j d le lt. h.behind (suc j) d (omega arith) (omega arith);
  }

  cut_none : (t : T → Bool) (x : T) (xs : List T) → IsCut t (x ∷ xs) 0 → IsCut t xs 0
  cut_none t x xs h = record {
    at_most = omega arith;
    before = λ j d lt. absurd (omega arith);
    behind = λ j d le lt. h.behind (suc j) d (omega arith) (omega arith);
  }

  -- none where the first cut is not before the second
  pub none_between : (xs : List T) (lo hi : ℕ) → IsCut p xs lo → IsCut q xs hi → hi ≤ lo → filter (λ x. not (p x) && q x) xs ≡ []
  none_between [] lo hi cp cq le = refl
  none_between (x ∷ xs) zero zero cp cq le =
      rw (cp.behind 0 x (omega arith) (omega arith), cq.behind 0 x (omega arith) (omega arith)) (none_between xs 0 0 (cut_none p x xs cp) (cut_none q x xs cq) (omega arith))
  none_between (x ∷ xs) zero (suc hi) cp cq le = absurd (omega arith)
  none_between (x ∷ xs) (suc lo) zero cp cq le = rw (cp.before 0 x (omega arith)) (none_between xs lo 0 (cut_rest p x xs lo cp) (cut_none q x xs cq) (omega arith))
  none_between (x ∷ xs) (suc lo) (suc hi) cp cq le = rw (cp.before 0 x (omega arith)) (none_between xs lo hi (cut_rest p x xs lo cp) (cut_rest q x xs hi cq) (omega arith))

  pub between : (xs : List T) (lo hi m : ℕ) → IsCut p xs lo → IsCut q xs hi → lo ≤ hi → m + lo ≡ hi → filter (λ x. not (p x) && q x) xs ≡ take m (drop lo xs)
  between [] lo hi m cp cq le e = let a = cp.at_most in let b = cq.at_most in let f : lo ≡ 0 = omega arith in let h : m ≡ 0 = omega arith in rw (f, h) refl
  between (x ∷ xs) zero hi zero cp cq le e = none_between (x ∷ xs) 0 hi cp cq (omega arith)
  between (x ∷ xs) zero zero (suc m) cp cq le e = absurd (omega arith)
  between (x ∷ xs) zero (suc hi) (suc m) cp cq le e =
      rw (cp.behind 0 x (omega arith) (omega arith), cq.before 0 x (omega arith)) (ap (λ l. x ∷ l) (between xs 0 hi m (cut_none p x xs cp) (cut_rest q x xs hi cq) (omega arith) (omega arith)))
  between (x ∷ xs) (suc lo) zero m cp cq le e = absurd (omega arith)
  between (x ∷ xs) (suc lo) (suc hi) m cp cq le e = rw (cp.before 0 x (omega arith)) (between xs lo hi m (cut_rest p x xs lo cp) (cut_rest q x xs hi cq) (omega arith) (omega arith))

  pub span : (xs : List T) (lo hi : ℕ) → IsCut p xs lo → IsCut q xs hi → lo < hi → IsSpan (λ x. not (p x) && q x) xs lo (hi - 1)
  span xs lo hi cp cq lt = let m = cq.at_most in record {
    in_order = omega arith;
    within = omega arith;
    first_passes = λ d. rw (cp.behind lo d (omega arith) (omega arith), cq.before lo d lt) refl;
    last_passes = λ d. rw (cp.behind (hi - 1) d (omega arith) (omega arith), cq.before (hi - 1) d (omega arith)) refl;
    before = λ j d b. rw (cp.before j d b) refl;
    behind = λ j d b l. rw (cq.behind j d (omega arith) l) (and-false (not (p (get_or xs j d))));
  }

-- ---- the first that passes

module _ {X : Type 0} (t : X → Bool) where
  pub find_at : (xs : List X) (at : ℕ) (d : X) → ((j : ℕ) → j < at → t (get_or xs j d) ≡ false) → at < length xs → t (get_or xs at d) ≡ true → find t xs ≡ Some (get_or xs at d)
  find_at [] at d before lt here = absurd (omega arith)
  find_at (x ∷ xs) zero d before lt here = ap (λ b. cond b (Some x) (find t xs)) here
  find_at (x ∷ xs) (suc at) d before lt here = ap (λ b. cond b (Some x) (find t xs)) (before 0 (omega arith)) ∙ find_at xs at d (λ j lt. before (suc j) (omega arith)) (omega arith) here

  pub find_none : (xs : List X) → ((j : ℕ) (d : X) → j < length xs → t (get_or xs j d) ≡ false) → find t xs ≡ None
  find_none [] none = refl
  find_none (x ∷ xs) none = ap (λ b. cond b (Some x) (find t xs)) (none 0 x (omega arith)) ∙ find_none xs (λ j d lt. none (suc j) d (omega arith))

module _ {T : Type 0} (range : T → Range) (xs : List T) (run : IsRun range xs) (k : List ℕ) (at : ℕ) (cut : IsCut (λ t. stands EndsBefore k (range t)) xs at) where
  before : (j : ℕ) (d : T) → j < at → in_range k (range (get_or xs j d)) ≡ false
  before j d lt = in_by k (range (get_or xs j d)) ∙ rw (cut.before j d lt) (and-false (not (is_below k (range (get_or xs j d)).min)))

  pub none_past : length xs ≤ at → find (λ t. in_range k (range t)) xs ≡ None
  none_past le = find_none (λ t. in_range k (range t)) xs (λ j d lt. before j d (omega arith))

  pub found_there : (e : T) → at < length xs → e ≡ get_or xs at e → is_below k (range e).min ≡ false → find (λ t. in_range k (range t)) xs ≡ Some e
  found_there e lt read starts =
      let here : is_below k (range (get_or xs at e)).min ≡ false = subst (λ x. is_below k (range x).min ≡ false) read starts in
      let there : is_below (range (get_or xs at e)).max k ≡ false = cut.behind at e (omega arith) lt in
      find_at (λ t. in_range k (range t)) xs at e (λ j l. before j e l) lt (in_by k (range (get_or xs at e)) ∙ rw (here, there) refl) ∙ ap (λ x. Some x) (sym read)

  pub none_there : (e : T) → at < length xs → e ≡ get_or xs at e → is_below k (range e).min ≡ true → find (λ t. in_range k (range t)) xs ≡ None
  none_there e lt read starts = find_none (λ t. in_range k (range t)) xs each
    where
      here : (d : T) → is_below k (range (get_or xs at d)).min ≡ true
      here d = subst (λ x. is_below k (range x).min ≡ true) (read ∙ get_or_default xs at e d lt) starts

      each : (j : ℕ) (d : T) → j < length xs → in_range k (range (get_or xs j d)) ≡ false
      each j d l = elim (cases_lt j at) [
        | inl less ↦ before j d less
        | inr ge ↦ elim (cases_lt at j) [
          | inl more ↦
              let v = range_at range xs at d run lt in
              let b : is_below k (range (get_or xs j d)).min ≡ true = below_trans k (range (get_or xs at d)).max (range (get_or xs j d)).min (below_then_upto k (range (get_or xs at d)).min (range (get_or xs at d)).max (here d) (range_ends (range (get_or xs at d)) v)) (run_at range xs at j d run more l) in
              in_by k (range (get_or xs j d)) ∙ rw b refl
          | inr le ↦ let same : at ≡ j = omega arith in subst (λ n. in_range k (range (get_or xs n d)) ≡ false) same (let h = here d in in_by k (range (get_or xs at d)) ∙ rw h refl)
        ]
      ]

-- The range that just holds several.
use Rattle.std.proofs.Common.{◌≡◌, ℕ, ◌+◌, ◌-◌, ◌<◌, Bool, true, false, cond, not, ◌&&◌, List, length, get_or, take, refl, sym, ◌∙◌, subst, arith, inl, inr}
use Rattle.std.specs.List.{All, Any}
use Rattle.std.proofs.lemmas.List.Elements.{All-more, All-weaker, All-from_get_or}
use Rattle.lsm_below.specs.Keys.{is_below}
use Rattle.lsm_below.specs.Ranges.{Range, IsRange, is_within, IsHull, hull, lesser_of, greater_of}
use Rattle.lsm_below.proofs.Keys.{upto_trans, below_upto, below_itself, below_then_upto, upto_then_below, range_ends, ends_range, within_by}
use Rattle.lsm_below.specs.Runs.{IsRun}
use Rattle.lsm_below.proofs.Cuts.{run_at, range_at}
use Rattle.std.proofs.lemmas.Bool.{cases_lt}
use Rattle.std.proofs.lemmas.List.{get_or_default}

lesser_left : (a b : List ℕ) → is_below a (lesser_of a b) ≡ false
lesser_left a b = elim (is_below b a) as (λ t. is_below b a ≡ t → is_below a (cond t b a) ≡ false) [ true ↦ λ h. below_upto b a h | false ↦ λ h. below_itself a ] refl

lesser_right : (a b : List ℕ) → is_below b (lesser_of a b) ≡ false
lesser_right a b = elim (is_below b a) as (λ t. is_below b a ≡ t → is_below b (cond t b a) ≡ false) [ true ↦ λ h. below_itself b | false ↦ λ h. h ] refl

greater_left : (a b : List ℕ) → is_below (greater_of a b) a ≡ false
greater_left a b = elim (is_below a b) as (λ t. is_below a b ≡ t → is_below (cond t b a) a ≡ false) [ true ↦ λ h. below_upto a b h | false ↦ λ h. below_itself a ] refl

greater_right : (a b : List ℕ) → is_below (greater_of a b) b ≡ false
greater_right a b = elim (is_below a b) as (λ t. is_below a b ≡ t → is_below (cond t b a) b ≡ false) [ true ↦ λ h. below_itself b | false ↦ λ h. h ] refl

pub hull_range : (a b : Range) → IsRange a → IsRange (hull a b)
hull_range a b v = ends_range (hull a b) (upto_trans (lesser_of a.min b.min) a.min (greater_of a.max b.max) (lesser_left a.min b.min) (upto_trans a.min a.max (greater_of a.max b.max) (range_ends a v) (greater_left a.max b.max)))

within_of : (a b : Range) → is_below a.min b.min ≡ false → is_below b.max a.max ≡ false → is_within a b ≡ true
within_of a b p q = within_by a b ∙ rw (p, q) refl

within_parts : (a b : Range) → is_within a b ≡ true → (is_below a.min b.min ≡ false) × (is_below b.max a.max ≡ false)
within_parts a b h = go (is_below a.min b.min) (is_below b.max a.max) (sym (within_by a b) ∙ h)
  where
    go : (p q : Bool) → (not p && not q) ≡ true → (p ≡ false) × (q ≡ false)
    go true q h = absurd (cc h)
    go false true h = absurd (cc h)
    go false false h = (refl, refl)

pub within_left : (a b : Range) → is_within a (hull a b) ≡ true
within_left a b = within_of a (hull a b) (lesser_left a.min b.min) (greater_left a.max b.max)

pub within_right : (a b : Range) → is_within b (hull a b) ≡ true
within_right a b = within_of b (hull a b) (lesser_right a.min b.min) (greater_right a.max b.max)

pub within_trans : (a b c : Range) → is_within a b ≡ true → is_within b c ≡ true → is_within a c ≡ true
within_trans a b c h k =
    let p = within_parts a b h in
    let q = within_parts b c k in
    within_of a c (upto_trans c.min b.min a.min q.0 p.0) (upto_trans a.max b.max c.max p.1 q.1)

-- one range more
pub holds_more : (xs : List Range) (i : ℕ) (x h : Range) → i < length xs → x ≡ get_or xs i x → All (λ s. is_within s h ≡ true) (take i xs) → All (λ s. is_within s (hull h x) ≡ true) (take (i + 1) xs)
holds_more xs i x h lt read all =
    All-more (λ s. is_within s (hull h x) ≡ true) xs i x lt (All-weaker (λ s. is_within s h ≡ true) (λ s. is_within s (hull h x) ≡ true) (λ s w. within_trans s h (hull h x) w (within_left h x)) (take i xs) all)
    (subst (λ s. is_within s (hull h x) ≡ true) read (within_right h x))

pub least_more : (xs : List Range) (i : ℕ) (x h : Range) → i < length xs → x ≡ get_or xs i x → Any (λ s. s.min ≡ h.min) xs → Any (λ s. s.min ≡ (hull h x).min) xs
least_more xs i x h lt read any =
    elim (is_below x.min h.min) as (λ t. Any (λ s. s.min ≡ cond t x.min h.min) xs) [ true ↦ (i, x, lt, sym read, refl) | false ↦ any ]

pub greatest_more : (xs : List Range) (i : ℕ) (x h : Range) → i < length xs → x ≡ get_or xs i x → Any (λ s. s.max ≡ h.max) xs → Any (λ s. s.max ≡ (hull h x).max) xs
greatest_more xs i x h lt read any =
    elim (is_below h.max x.max) as (λ t. Any (λ s. s.max ≡ cond t x.max h.max) xs) [ true ↦ (i, x, lt, sym read, refl) | false ↦ any ]

-- of a run the first and the last table have the ends
pub run_hull : {T : Type 0} (range : T → Range) (xs : List T) (x y : T) → IsRun range xs → 0 < length xs → x ≡ get_or xs 0 x → y ≡ get_or xs (length xs - 1) y → IsHull range xs (hull (range x) (range y))
run_hull {T} range xs x y run some fx fy = record {
  holds = All-from_get_or (λ t. is_within (range t) (hull (range x) (range y)) ≡ true) xs x each;
  least = elim (is_below (range y).min (range x).min) as (λ b. Any (λ t. (range t).min ≡ cond b (range y).min (range x).min) xs) [ true ↦ (length xs - 1, y, omega arith, sym fy, refl) | false ↦ (0, x, some, sym fx, refl) ];
  greatest = elim (is_below (range x).max (range y).max) as (λ b. Any (λ t. (range t).max ≡ cond b (range y).max (range x).max) xs) [ true ↦ (length xs - 1, y, omega arith, sym fy, refl) | false ↦ (0, x, some, sym fx, refl) ];
}
  where
    last_is : get_or xs (length xs - 1) x ≡ y
    last_is = get_or_default xs (length xs - 1) x y (omega arith) ∙ sym fy

    low : (i : ℕ) → i < length xs → is_below (range (get_or xs i x)).min (range x).min ≡ false
    low i lt = elim (cases_lt 0 i) [
      | inl more ↦
          let b : is_below (range (get_or xs 0 x)).max (range (get_or xs i x)).min ≡ true = run_at range xs 0 i x run more lt in
          let c : is_below (range x).max (range (get_or xs i x)).min ≡ true = subst (λ z. is_below (range z).max (range (get_or xs i x)).min ≡ true) (sym fx) b in
          let v : IsRange (range x) = subst (λ z. IsRange (range z)) (sym fx) (range_at range xs 0 x run some) in
          below_upto (range x).min (range (get_or xs i x)).min (upto_then_below (range x).min (range x).max (range (get_or xs i x)).min (range_ends (range x) v) c)
      | inr le ↦ let z : i ≡ 0 = omega arith in rw z (subst (λ w. is_below (range w).min (range x).min ≡ false) fx (below_itself (range x).min))
    ]

    high : (i : ℕ) → i < length xs → is_below (range y).max (range (get_or xs i x)).max ≡ false
    high i lt = elim (cases_lt i (length xs - 1)) [
      | inl less ↦
          let b : is_below (range (get_or xs i x)).max (range (get_or xs (length xs - 1) x)).min ≡ true = run_at range xs i (length xs - 1) x run less (omega arith) in
          let c : is_below (range (get_or xs i x)).max (range y).min ≡ true = subst (λ z. is_below (range (get_or xs i x)).max (range z).min ≡ true) last_is b in
          let v : IsRange (range y) = subst (λ z. IsRange (range z)) last_is (range_at range xs (length xs - 1) x run (omega arith)) in
          below_upto (range (get_or xs i x)).max (range y).max (below_then_upto (range (get_or xs i x)).max (range y).min (range y).max c (range_ends (range y) v))
      | inr ge ↦ let z : i ≡ length xs - 1 = omega arith in rw (z, last_is) (below_itself (range y).max)
    ]

    each : (i : ℕ) → i < length xs → is_within (range (get_or xs i x)) (hull (range x) (range y)) ≡ true
    each i lt = within_of (range (get_or xs i x)) (hull (range x) (range y))
        (upto_trans (lesser_of (range x).min (range y).min) (range x).min (range (get_or xs i x)).min (lesser_left (range x).min (range y).min) (low i lt))
        (upto_trans (range (get_or xs i x)).max (range y).max (greater_of (range x).max (range y).max) (high i lt) (greater_right (range x).max (range y).max))

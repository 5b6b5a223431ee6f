-- No reason holds against a choice that fits.
use Rattle.std.proofs.Common.{◌≡◌, ℕ, suc, ◌<◌, ◌≤◌, Bool, true, false, not, ◌&&◌, ◌||◌, eqb, ltb, leb, List, [], ◌∷◌, length, get_or, None, refl, sym, ap, ap₂, ◌∙◌, ⊎_elim, subst, arith}
use Rattle.std.specs.List.{AllByRecursion, list_any}
use Rattle.std.proofs.lemmas.Bool.{false≢true}
use Rattle.std.proofs.lemmas.Bool.Decides.{nat_tests}
use Rattle.std.proofs.lemmas.List.{get_or_default}
use Rattle.lsm_below.specs.Ranges.{overlap}
use Rattle.lsm_below.specs.Optimizes.{EachPair}
use Rattle.lsm_tables.specs.Tables.{SeenTable}
use Rattle.lsm_model.specs.Views.{placed_at}
use Rattle.lsm_model.specs.Steps.{among}
use Rattle.lsm_versions.specs.Levels.{Levels, range, shown_table, placed_of, all_of}
use Rattle.lsm_checks.specs.declared.choice.Kind.TheVariants.{Merge, Move}
use Rattle.lsm_checks.specs.declared.parted_run.Fault.{Fault}
use Rattle.lsm_checks.specs.declared.parted_run.Fault.TheVariants.{OutOfOrder, StandsBelow}
use Rattle.lsm_checks.specs.Choices.{any_pair, is_bad, any_bad, is_clash, any_clash, resumes, has_gap, any_gap, is_there, first_reason_of}
use Rattle.lsm_checks.proofs.Choosing.{from_eqb}
use Rattle.lsm_pick.proofs.Members.{any_has, has_any, has_at, and_left, and_right, and_both, not_true, to_eqb, or_cases}
use Rattle.lsm_pick.proofs.Standing.{is_chosen, run_of, StandsAt, IsPlain, Precedes, HaveNoGaps, ArePairsAllowed, AreApart}
use Rattle.lsm_pick.proofs.Pairs.{not_so}
use Rattle.lsm_pick.proofs.Places.{IsThere}
use Rattle.lsm_pick.proofs.PlacedPairs.{Held, held_at, held_from, pairs_map, all_pairs, placed_same, all_same}
use Rattle.lsm_pick.specs.Tables.{is_upto}

no_pair : {A : Type 0} (R : A → A → Bool) (xs : List A) → EachPair (λ x y. R x y ≡ false) xs → any_pair R xs ≡ false
no_pair R [] h = refl
no_pair R (x ∷ xs) h = ap₂ (λ a b. a || b) (none xs h.0) (no_pair R xs h.1)
  where
    none : (ys : List _) → AllByRecursion (λ y. R x y ≡ false) ys → list_any (R x) ys ≡ false
    none [] a = refl
    none (y ∷ ys) a = ap₂ (λ p q. p || q) a.0 (none ys a.1)

to_leb : (m n : ℕ) → n < m → leb m n ≡ false
to_leb m n h = grind (arith, nat_tests)

to_ltb : (m n : ℕ) → n ≤ m → ltb m n ≡ false
to_ltb m n h = grind (arith, nat_tests)

swapped : (t u : SeenTable) → overlap (range t) (range u) ≡ true → overlap (range u) (range t) ≡ true
swapped t u o =
    and_both (is_upto (range u).min (range t).max) (is_upto (range t).min (range u).max)
    (and_right (is_upto (range t).min (range u).max) (is_upto (range u).min (range t).max) o)
    (and_left (is_upto (range t).min (range u).max) (is_upto (range u).min (range t).max) o)

-- where two tables overlap no fault is there
unless : (o f : Bool) → (o ≡ true → f ≡ false) → (o && f) ≡ false
unless true f h = h refl
unless false f h = refl

order_fault : (a b u v : Bool) → (a ≡ false → b ≡ true → u ≡ false) → (a ≡ true → b ≡ false → v ≡ false) → ((not a && b && u) || (a && not b && v)) ≡ false
order_fault false true u v f g = ap (λ x. x || false) (f refl refl)
order_fault false false u v f g = refl
order_fault true true u v f g = refl
order_fault true false u v f g = g refl refl

below_fault : (e a b w : Bool) → (e ≡ true → a ≡ true → b ≡ false → w ≡ false) → (e && (a && not b && w)) ≡ false
below_fault false a b w f = refl
below_fault true false b w f = refl
below_fault true true true w f = refl
below_fault true true false w f = f refl refl refl

module _ (ids : List ℕ) (levels : Levels) (plain : IsPlain levels) (to : ℕ) where
  module _ (allowed : ArePairsAllowed (is_chosen ids) levels to) where
    in_order : (t u : SeenTable) (tl tr tp ul ur up : ℕ) → StandsAt levels tl tr tp t → StandsAt levels ul ur up u → Precedes tl tr ul ur →
        is_bad OutOfOrder to ids (placed_at tl (shown_table t)) (placed_at ul (shown_table u)) ≡ false
    in_order t u tl tr tp ul ur up st su first =
        unless (overlap (range t) (range u)) _ (λ o. order_fault (among ids t.id) (among ids u.id) (leb to tl) (ltb ul to)
        (λ n y. to_leb to tl ((allowed u t ul ur up tl tr tp su st y n (swapped t u o)).before first))
        (λ y n. to_ltb ul to ((allowed t u tl tr tp ul ur up st su y n o).behind first)))

    none_below : (t u : SeenTable) (tl tr tp ul ur up : ℕ) → StandsAt levels tl tr tp t → StandsAt levels ul ur up u → Precedes tl tr ul ur →
        is_bad StandsBelow to ids (placed_at tl (shown_table t)) (placed_at ul (shown_table u)) ≡ false
    none_below t u tl tr tp ul ur up st su first =
        unless (overlap (range t) (range u)) _ (λ o. below_fault (eqb to 6) (among ids t.id) (among ids u.id) (eqb ul 6)
        (λ six y n. not_so (eqb ul 6) (λ e. (allowed t u tl tr tp ul ur up st su y n o).kept first (from_eqb to 6 six) (from_eqb ul 6 e))))

    pub no_bad : (fault : Fault) → any_bad fault to ids levels ≡ false
    no_bad fault =
        let f = λ (h : Held). placed_at h.level (shown_table h.table) in
        no_pair (is_bad fault to ids) (placed_of levels)
        (subst (EachPair (λ p q. is_bad fault to ids p q ≡ false)) (sym (placed_same 0 levels))
        (pairs_map (λ p q. is_bad fault to ids p q ≡ false) f (held_from 0 levels)
        (all_pairs levels plain (λ h g. is_bad fault to ids (f h) (f g) ≡ false)
        (λ k t u apart. unless (overlap (range t) (range u)) _ (λ o. absurd (false≢true (sym apart ∙ o))))
        (elim fault as (λ v. (t u : SeenTable) (tl tr tp ul ur up : ℕ) → StandsAt levels tl tr tp t → StandsAt levels ul ur up u → Precedes tl tr ul ur → is_bad v to ids (f (held_at tl t)) (f (held_at ul u)) ≡ false) [
          | OutOfOrder ↦ in_order
          | StandsBelow ↦ none_below
        ]))))

  pub no_clash : AreApart (is_chosen ids) levels → any_clash ids levels ≡ false
  no_clash apart =
      let f = λ (h : Held). h.table in
      no_pair (is_clash ids) (all_of levels)
      (subst (EachPair (λ t u. is_clash ids t u ≡ false)) (sym (all_same 0 levels))
      (pairs_map (λ t u. is_clash ids t u ≡ false) f (held_from 0 levels)
      (all_pairs levels plain (λ h g. is_clash ids (f h) (f g) ≡ false)
      (λ k t u free. unless (overlap (range t) (range u)) _ (λ o. absurd (false≢true (sym free ∙ o))))
      (λ t u tl tr tp ul ur up st su first. unless (overlap (range t) (range u)) _ (λ o. not_so (among ids t.id && among ids u.id) (λ both.
      let same = apart t u tl tr tp ul ur up st su (and_left (among ids t.id) (among ids u.id) both) (and_right (among ids t.id) (among ids u.id) both) o in
      ⊎_elim (λ less. omega (arith, less, same.0)) (λ less. omega (arith, less.1, same.1)) first))))))

-- ---- gaps

resumes_at : (ids : List ℕ) (ts : List SeenTable) → resumes ids ts ≡ true →
    (j : ℕ) × (k : ℕ) × (b : SeenTable) × (c : SeenTable) × (j < k) × (k < length ts) × (get_or ts j b ≡ b) × (get_or ts k c ≡ c) × (among ids b.id ≡ false) × (among ids c.id ≡ true)
resumes_at ids [] h = absurd (false≢true h)
resumes_at ids (t ∷ ts) h =
    ⊎_elim
    (λ here. let last = any_has (λ u. among ids u.id) ts (and_right (not (among ids t.id)) (list_any (λ u. among ids u.id) ts) here) in
    let at = has_at ts last.0 last.1 in
    (0, suc at.0, t, last.0, omega arith, omega (arith, at.1), refl, at.2, not_true (among ids t.id) (and_left (not (among ids t.id)) (list_any (λ u. among ids u.id) ts) here), last.2))
    (λ later. let r = resumes_at ids ts later in
    (suc r.0, suc r.1, r.2, r.3, omega (arith, r.4), omega (arith, r.5), r.6, r.7, r.8, r.9))
    (or_cases (not (among ids t.id) && list_any (λ u. among ids u.id) ts) (resumes ids ts) h)

gap_at : (ids : List ℕ) (ts : List SeenTable) → has_gap ids ts ≡ true →
    (i : ℕ) × (j : ℕ) × (k : ℕ) × (a : SeenTable) × (b : SeenTable) × (c : SeenTable) × (i < j) × (j < k) × (k < length ts)
    × (get_or ts i a ≡ a) × (get_or ts j b ≡ b) × (get_or ts k c ≡ c) × (among ids a.id ≡ true) × (among ids b.id ≡ false) × (among ids c.id ≡ true)
gap_at ids [] h = absurd (false≢true h)
gap_at ids (t ∷ ts) h =
    ⊎_elim
    (λ here. let r = resumes_at ids ts (and_right (among ids t.id) (resumes ids ts) here) in
    (0, suc r.0, suc r.1, t, r.2, r.3, omega arith, omega (arith, r.4), omega (arith, r.5), refl, r.6, r.7, and_left (among ids t.id) (resumes ids ts) here, r.8, r.9))
    (λ later. let g = gap_at ids ts later in
    (suc g.0, suc g.1, suc g.2, g.3, g.4, g.5, omega (arith, g.6), omega (arith, g.7), omega (arith, g.8), g.9, g.10, g.11, g.12, g.13, g.14))
    (or_cases (among ids t.id && resumes ids ts) (has_gap ids ts) h)

pub no_gap : (ids : List ℕ) (levels : Levels) → HaveNoGaps (is_chosen ids) levels → any_gap ids levels ≡ false
no_gap ids levels gapless = not_so (any_gap ids levels) (λ h.
    let level = any_has (λ runs. list_any (has_gap ids) runs) levels h in
    let run = any_has (has_gap ids) level.0 level.2 in
    let l = has_at levels level.0 level.1 in
    let r = has_at level.0 run.0 run.1 in
    let same : run_of levels l.0 r.0 ≡ run.0 =
    ap (λ rs. get_or rs r.0 []) (get_or_default levels l.0 [] level.0 l.1 ∙ l.2) ∙ (get_or_default level.0 r.0 [] run.0 r.1 ∙ r.2) in
    let g = gap_at ids run.0 run.2 in
    let stands : (n : ℕ) (t : SeenTable) → n < length run.0 → get_or run.0 n t ≡ t → StandsAt levels l.0 r.0 n t =
    λ n t fits is. subst (λ ts. (n < length ts) × (get_or ts n t ≡ t)) (sym same) (fits, is) in
    false≢true (sym g.13 ∙ gapless g.3 g.4 g.5 l.0 r.0 g.0 g.1 g.2 g.6 g.7
    (stands g.0 g.3 (omega (arith, g.6, g.7, g.8)) g.9) (stands g.1 g.4 (omega (arith, g.7, g.8)) g.10) (stands g.2 g.5 g.8 g.11) g.12 g.14))

-- ---- all reasons

pub none_missing : (ids : List ℕ) (levels : Levels) → ((k : ℕ) → among ids k ≡ true → (u : SeenTable) × IsThere levels u × (k ≡ u.id)) → list_any (λ id. not (is_there levels id)) ids ≡ false
none_missing ids levels there = not_so (list_any (λ id. not (is_there levels id)) ids) (λ h.
    let i = any_has (λ id. not (is_there levels id)) ids h in
    let u = there i.0 (has_any (eqb i.0) ids i.0 i.1 (to_eqb i.0)) in
    let is : eqb u.0.id i.0 ≡ true = subst (λ (n : ℕ). eqb u.0.id n ≡ true) (sym u.2) (to_eqb u.0.id) in
    false≢true (sym (not_true (is_there levels i.0) i.2) ∙ has_any (λ t. eqb t.id i.0) (all_of levels) u.0 u.1 is))

pub merge_allowed :
    (ids hidden : List ℕ) (levels : Levels) (to : ℕ) → list_any (among hidden) ids ≡ false → list_any (λ id. not (is_there levels id)) ids ≡ false → to < 7 →
    any_gap ids levels ≡ false → any_bad OutOfOrder to ids levels ≡ false → any_bad StandsBelow to ids levels ≡ false → first_reason_of Merge ids to hidden levels ≡ None
merge_allowed ids hidden levels to h m low g o s = rw (h, m, to_leb 7 to low, g, o, s) refl

pub move_allowed :
    (ids hidden : List ℕ) (levels : Levels) (to : ℕ) → list_any (among hidden) ids ≡ false → list_any (λ id. not (is_there levels id)) ids ≡ false → to < 7 →
    any_clash ids levels ≡ false → any_bad OutOfOrder to ids levels ≡ false → any_bad StandsBelow to ids levels ≡ false → first_reason_of Move ids to hidden levels ≡ None
move_allowed ids hidden levels to h m low c o s = rw (h, m, to_leb 7 to low, c, o, s) refl

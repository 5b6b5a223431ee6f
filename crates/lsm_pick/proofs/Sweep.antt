-- One sweep over a run finds the longest free window.
use Rattle.std.proofs.Common.{◌≡◌, ℕ, zero, suc, ◌+◌, ◌-◌, ◌<◌, ◌≤◌, Bool, true, false, not, List, [], ◌∷◌, take, drop, refl, sym, ◌∙◌, inl, inr, ⊎_elim, subst, arith}
use Rattle.std.specs.List.{list_any, slice_range}
use Rattle.std.proofs.lemmas.Bool.{false≢true, cases_lt}
use Rattle.lsm_tables.specs.Tables.{SeenTable}
use Rattle.lsm_model.specs.Steps.{among}
use Rattle.lsm_versions.specs.Levels.{range}
use Rattle.lsm_pick.specs.declared.leveled.windows.Window.{Window}
use Rattle.lsm_pick.specs.Tables.{meets, is_any_hidden}
use Rattle.lsm_pick.specs.Leveled.{is_free, IsFreeStart}
use Rattle.lsm_pick.proofs.Members.{Has, any_has, has_any, and_left, and_right, and_both, not_true}
use Rattle.lsm_pick.proofs.Pairs.{not_so}
use Rattle.lsm_pick.proofs.Hulls.{begun_by, open_by, by_begun, by_open, begun_of, open_of, meets_by}

both : {P : Type 0} (b : Bool) → b ≡ true → b ≡ false → P
both b t f = absurd (false≢true (sym f ∙ t))

no_longer : (b : Bool) → (b ≡ true → ⊥) → not b ≡ true
no_longer true h = absurd (h refl)
no_longer false h = refl

-- a part of a free window is free
free_part : (hidden : List ℕ) (next small big : List SeenTable) → ((t : SeenTable) → Has small t → Has big t) → is_free hidden next big ≡ true → is_free hidden next small ≡ true
free_part hidden next small big in_big free =
    let shown = not_true (is_any_hidden hidden big) (and_left (not (is_any_hidden hidden big)) (not (list_any (meets big) next)) free) in
    let clear = not_true (list_any (meets big) next) (and_right (not (is_any_hidden hidden big)) (not (list_any (meets big) next)) free) in
    and_both (not (is_any_hidden hidden small)) (not (list_any (meets small) next))
    (no_longer (is_any_hidden hidden small) (λ h. let t = any_has (λ t. among hidden t.id) small h in both (is_any_hidden hidden big) (has_any (λ t. among hidden t.id) big t.0 (in_big t.0 t.1) t.2) shown))
    (no_longer (list_any (meets small) next) (λ h. let t = any_has (meets small) next h in
    let low = begun_by small (range t.0).max (begun_of small t.0 t.2) in
    let high = open_by small (range t.0).min (open_of small t.0 t.2) in
    both (list_any (meets big) next)
    (has_any (meets big) next t.0 t.1 (meets_by big t.0 (by_begun big (range t.0).max low.0 (in_big low.0 low.1) low.2) (by_open big (range t.0).min high.0 (in_big high.0 high.1) high.2))) clear))

more_has : (n m : ℕ) (xs : List SeenTable) (t : SeenTable) → n ≤ m → Has (take n xs) t → Has (take m xs) t
more_has zero m xs t le h = absurd h
more_has (suc n) zero xs t le h = absurd (omega arith)
more_has (suc n) (suc m) [] t le h = absurd h
more_has (suc n) (suc m) (x ∷ xs) t le h = ⊎_elim (λ e. inl e) (λ r. inr (more_has n m xs t (omega arith) r)) h

module _ (hidden : List ℕ) (run next : List SeenTable) where
  abbrev free : ℕ → ℕ → Bool
  free p q = is_free hidden next (slice_range run p q)

  longer_bound : (p q r : ℕ) → q ≤ r → free p q ≡ false → free p r ≡ false
  longer_bound p q r le isnt = not_so (free p r) (λ h. both (free p q)
      (free_part hidden next (slice_range run p q) (slice_range run p r) (λ t m. more_has (q - p) (r - p) (drop p run) t (omega arith) m) h) isnt)

  -- no free window ends just before the end and begins before the start
  pub record IsStart (end start : ℕ) : Type 0 where
    pub low : start < end
    pub none : (p : ℕ) → p < start → free p (end - 1) ≡ false

  -- of the free windows that end before the end none is longer than the best, or as long and further left
  pub record IsBestBelow (end : ℕ) (best : Window) : Type 0 where
    pub each : (p q : ℕ) → p < q → q < end → free p q ≡ true → (q - p ≤ best.count) × (best.count ≤ q - p → best.place ≤ p)
    pub found : 0 < best.count → (best.place + best.count < end) × (free best.place (best.place + best.count) ≡ true)

  module _ (end start place : ℕ) (old : IsStart end start) (now : IsFreeStart hidden run next start end place) where
    before : (p : ℕ) → p < place → free p end ≡ false
    before p less =
        ⊎_elim (λ few. longer_bound p (end - 1) end (omega arith) (old.none p few)) (λ more. now.before p more less) (cases_lt p start)

    pub start_moves : IsStart (end + 1) place
    start_moves =
        let high = now.high in
        let same : end ≡ end + 1 - 1 = omega arith in
        record { low = omega arith; none = λ p less. subst (λ (q : ℕ). free p q ≡ false) same (before p less) }

    at_end : (p : ℕ) → free p end ≡ true → place ≤ p
    at_end p f = ⊎_elim (λ less. both (free p end) f (before p less)) (λ le. le) (cases_lt p place)

    pub best_grows : (best : Window) → best.count < end - place → IsBestBelow end best → IsBestBelow (end + 1) (record { place = place; count = end - place })
    best_grows best less is = record { each = each; found = λ some. (omega (arith, now.high), subst (λ (q : ℕ). free place q ≡ true) (whole some) (now.free (omega arith))) }
      where
        whole : 0 < end - place → end ≡ place + (end - place)
        whole some = omega arith

        each : (p q : ℕ) → p < q → q < end + 1 → free p q ≡ true → (q - p ≤ end - place) × (end - place ≤ q - p → place ≤ p)
        each p q lt le f =
            ⊎_elim
            (λ short. let o = is.each p q lt short f in (omega (arith, o.0, less), λ h. absurd (omega (arith, o.0, less, h))))
            (λ long. let e : q ≡ end = omega arith in
            let from = at_end p (subst (λ (n : ℕ). free p n ≡ true) e f) in
            (omega (arith, from, e), λ h. from))
            (cases_lt q end)

    pub best_stays : (best : Window) → end - place ≤ best.count → IsBestBelow end best → IsBestBelow (end + 1) best
    best_stays best most is = record { each = each; found = λ some. let o = is.found some in (omega (arith, o.0), o.1) }
      where
        each : (p q : ℕ) → p < q → q < end + 1 → free p q ≡ true → (q - p ≤ best.count) × (best.count ≤ q - p → best.place ≤ p)
        each p q lt le f =
            ⊎_elim
            (λ short. is.each p q lt short f)
            (λ long. let e : q ≡ end = omega arith in
            let from = at_end p (subst (λ (n : ℕ). free p n ≡ true) e f) in
            let fits : q - p ≤ best.count = omega (arith, from, e, most) in
            (fits, λ h. let o = (is.found (omega (arith, fits, lt))).0 in omega (arith, h, o, e)))
            (cases_lt q end)

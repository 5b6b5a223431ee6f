-- A window of one level's run, or of the next level's with what it pulls.
use Rattle.std.proofs.Common.{◌≡◌, ℕ, ◌+◌, ◌<◌, ◌≤◌, ◌⊎◌, Bool, true, false, sym, ◌∙◌, inl, inr, ⊎_elim, subst, arith}
use Rattle.std.proofs.lemmas.Bool.{false≢true, cases_lt}
use Rattle.lsm_below.specs.Keys.{is_below}
use Rattle.lsm_tables.specs.Tables.{SeenTable}
use Rattle.lsm_versions.specs.Levels.{Levels, range}
use Rattle.lsm_pick.specs.Tables.{is_upto, is_begun, is_open, meets, is_inside}
use Rattle.lsm_pick.specs.Leveled.{window, IsWindow}
use Rattle.lsm_pick.proofs.Standing.{run_of, StandsAt, IsPlain, Precedes, HaveNoGaps}
use Rattle.lsm_pick.proofs.Members.{Has, part_at, at_part, and_left, and_right}
use Rattle.lsm_pick.proofs.Order.{upto_trans, upto_self, clash}
use Rattle.lsm_pick.proofs.Pairs.{run_order}
use Rattle.lsm_pick.proofs.Places.{IsThere, Lies, stands_there, stands_lies, lies_stands, stands_in, in_stands, one_level, one_place, only_run}
use Rattle.lsm_pick.proofs.Hulls.{begun_by, open_by, by_begun, by_open, meets_by, inside_between}
use Rattle.lsm_pick.proofs.Fits.{IsFit}

both : {P : Type 0} (b : Bool) → b ≡ true → b ≡ false → P
both b t f = absurd (false≢true (sym f ∙ t))

module _ (levels : Levels) (plain : IsPlain levels) (i : ℕ) (some : 0 < i) (chosen : SeenTable → Bool) where
  -- the first run of a level from 1 on is the whole level
  in_first : (l : ℕ) (t : SeenTable) → 0 < l → Lies levels l t → (p : ℕ) × StandsAt levels l 0 p t
  in_first l t more h =
      let at = lies_stands levels l t h in
      (at.1, subst (λ r. StandsAt levels l r at.1 t) (only_run levels plain l at.0 at.1 t more at.2) at.2)

  -- between two neighbours there is nothing
  pub none_between :
      ((c : SeenTable) → IsThere levels c → chosen c ≡ true → Lies levels i c ⊎ Lies levels (i + 1) c) →
      (c t : SeenTable) (cl cr cp tl tr tp : ℕ) → StandsAt levels cl cr cp c → StandsAt levels tl tr tp t →
      chosen c ≡ true → chosen t ≡ false → Precedes cl cr tl tr → tl < i + 1 → ⊥
  none_between from c t cl cr cp tl tr tp sc st is isnt p less =
      ⊎_elim
      (λ h. let e : cl ≡ i = one_level levels plain c cl cr cp i sc h in step e)
      (λ h. let e : cl ≡ i + 1 = one_level levels plain c cl cr cp (i + 1) sc h in ⊎_elim (λ q. omega (arith, e, q)) (λ q. omega (arith, e, q.0)) p)
      (from c (stands_there levels cl cr cp c sc) is)
    where
      step : cl ≡ i → ⊥
      step e = ⊎_elim (λ q. omega (arith, e, q))
          (λ q. let z : tr ≡ 0 = only_run levels plain tl tr tp t (omega (arith, e, q.0)) st in omega (arith, z, q.1)) p

  pub none_below :
      ((c : SeenTable) → IsThere levels c → chosen c ≡ true → Lies levels i c ⊎ Lies levels (i + 1) c) →
      (c : SeenTable) (cl cr cp : ℕ) → StandsAt levels cl cr cp c → chosen c ≡ true → cl ≤ i + 1
  none_below from c cl cr cp sc is =
      ⊎_elim (λ h. let e = one_level levels plain c cl cr cp i sc h in omega (arith, e))
      (λ h. let e = one_level levels plain c cl cr cp (i + 1) sc h in omega (arith, e))
      (from c (stands_there levels cl cr cp c sc) is)

  -- ---- a window that overlaps nothing below it

  module _ (place count : ℕ) (is_window : IsWindow (run_of levels i 0) place count)
      (from : (t : SeenTable) → IsThere levels t → chosen t ≡ true → Has (window (run_of levels i 0) place count) t)
      (back : (t : SeenTable) → Has (window (run_of levels i 0) place count) t → chosen t ≡ true) where
    at_window : (t : SeenTable) → IsThere levels t → chosen t ≡ true → (p : ℕ) × (place ≤ p) × (p < place + count) × StandsAt levels i 0 p t
    at_window t there is =
        let found = part_at (run_of levels i 0) place count t is_window.1 (from t there is) in
        (found.0, found.1, found.2, (omega (arith, found.2, is_window.1), found.3))

    window_level : (c : SeenTable) → IsThere levels c → chosen c ≡ true → Lies levels i c ⊎ Lies levels (i + 1) c
    window_level c there is = let found = at_window c there is in inl (stands_lies levels i 0 found.0 c found.3)

    pub window_gapless : HaveNoGaps chosen levels
    window_gapless a b c level run j k l jk kl sa sb sc ha hc =
        let pa = at_window a (stands_there levels level run j a sa) ha in
        let pc = at_window c (stands_there levels level run l c sc) hc in
        let ea = one_place levels plain a level run j i 0 pa.0 sa pa.3 in
        let ec = one_place levels plain c level run l i 0 pc.0 sc pc.3 in
        let sb_here : StandsAt levels i 0 k b = subst (λ r. StandsAt levels i r k b) ea.1 (subst (λ n. StandsAt levels n run k b) ea.0 sb) in
        back b (at_part (run_of levels i 0) place count k b is_window.1 (omega (arith, pa.1, ea.2, jk)) (omega (arith, pc.2, ec.2, kl)) sb_here.1)

    pub window_fits :
        ((t : SeenTable) → Has (run_of levels (i + 1) 0) t → meets (window (run_of levels i 0) place count) t ≡ true → ⊥) → IsFit chosen levels (i + 1)
    window_fits free = record {
      within = none_below window_level;
      between = none_between window_level;
      clear = λ t u v ht isnt hu yu hv yv low high.
          let at = in_first (i + 1) t (omega arith) ht in
          free t (stands_in levels (i + 1) 0 at.0 t at.1)
          (meets_by (window (run_of levels i 0) place count) t
          (by_begun (window (run_of levels i 0) place count) (range t).max u (from u hu yu) low)
          (by_open (window (run_of levels i 0) place count) (range t).min v (from v hv yv) high));
      gapless = window_gapless;
    }

  -- ---- a window of the next level's run, with what stands within its range

  module _ (place count : ℕ) (is_window : IsWindow (run_of levels (i + 1) 0) place count)
      (from : (t : SeenTable) → IsThere levels t → chosen t ≡ true →
      Has (window (run_of levels (i + 1) 0) place count) t ⊎ (Has (run_of levels i 0) t × (is_inside (window (run_of levels (i + 1) 0) place count) t ≡ true)))
      (back : (t : SeenTable) → Has (window (run_of levels (i + 1) 0) place count) t → chosen t ≡ true)
      (pulls : (t : SeenTable) → Has (run_of levels i 0) t → is_inside (window (run_of levels (i + 1) 0) place count) t ≡ true → chosen t ≡ true) where
    in_window : (t : SeenTable) → Has (window (run_of levels (i + 1) 0) place count) t → (p : ℕ) × (place ≤ p) × (p < place + count) × StandsAt levels (i + 1) 0 p t
    in_window t h =
        let found = part_at (run_of levels (i + 1) 0) place count t is_window.1 h in
        (found.0, found.1, found.2, (omega (arith, found.2, is_window.1), found.3))

    pull_level : (c : SeenTable) → IsThere levels c → chosen c ≡ true → Lies levels i c ⊎ Lies levels (i + 1) c
    pull_level c there is =
        ⊎_elim (λ h. let found = in_window c h in inr (stands_lies levels (i + 1) 0 found.0 c found.3))
        (λ h. let found = in_stands levels i 0 c h.0 in inl (stands_lies levels i 0 found.0 c found.1))
        (from c there is)

    -- a table after the window, or before it
    ahead : (t w : SeenTable) (p : ℕ) → StandsAt levels (i + 1) 0 p t → p < place → Has (window (run_of levels (i + 1) 0) place count) w → is_below (range t).max (range w).min ≡ true
    ahead t w p st less h =
        let at = in_window w h in
        rw (st.1, at.3.1) at (run_order range (run_of levels (i + 1) 0) p at.0 t w (plain.runs (i + 1) 0) (omega (arith, less, at.1)) at.3.0)

    behind : (t w : SeenTable) (p : ℕ) → StandsAt levels (i + 1) 0 p t → place + count ≤ p → Has (window (run_of levels (i + 1) 0) place count) w → is_below (range w).max (range t).min ≡ true
    behind t w p st more h =
        let at = in_window w h in
        rw (at.3.1, st.1) at (run_order range (run_of levels (i + 1) 0) at.0 p w t (plain.runs (i + 1) 0) (omega (arith, more, at.2)) st.0)

    -- each taken table begins no earlier, and ends no later, than some table of the window
    starts : (u : SeenTable) → IsThere levels u → chosen u ≡ true → (w : SeenTable) × Has (window (run_of levels (i + 1) 0) place count) w × (is_upto (range w).min (range u).min ≡ true)
    starts u there is =
        ⊎_elim (λ h. (u, h, upto_self (range u).min))
        (λ h. begun_by (window (run_of levels (i + 1) 0) place count) (range u).min
        (and_left (is_begun (range u).min (window (run_of levels (i + 1) 0) place count)) (is_open (range u).max (window (run_of levels (i + 1) 0) place count)) h.1))
        (from u there is)

    ends : (u : SeenTable) → IsThere levels u → chosen u ≡ true → (w : SeenTable) × Has (window (run_of levels (i + 1) 0) place count) w × (is_upto (range u).max (range w).max ≡ true)
    ends u there is =
        ⊎_elim (λ h. (u, h, upto_self (range u).max))
        (λ h. open_by (window (run_of levels (i + 1) 0) place count) (range u).max
        (and_right (is_begun (range u).min (window (run_of levels (i + 1) 0) place count)) (is_open (range u).max (window (run_of levels (i + 1) 0) place count)) h.1))
        (from u there is)

    pull_clear :
        (t u v : SeenTable) → Lies levels (i + 1) t → chosen t ≡ false →
        IsThere levels u → chosen u ≡ true → IsThere levels v → chosen v ≡ true →
        is_upto (range u).min (range t).max ≡ true → is_upto (range t).min (range v).max ≡ true → ⊥
    pull_clear t u v ht isnt hu yu hv yv low high =
        let at = in_first (i + 1) t (omega arith) ht in
        ⊎_elim
        (λ less. let w = starts u hu yu in
        clash (range w.0).min (range t).max (upto_trans (range w.0).min (range u).min (range t).max w.2 low) (ahead t w.0 at.0 at.1 less w.1))
        (λ ge. ⊎_elim
        (λ short. both (chosen t) (back t (at_part (run_of levels (i + 1) 0) place count at.0 t is_window.1 ge short at.1.1)) isnt)
        (λ past. let w = ends v hv yv in
        clash (range t).min (range w.0).max (upto_trans (range t).min (range v).max (range w.0).max high w.2) (behind t w.0 at.0 at.1 past w.1))
        (cases_lt at.0 (place + count)))
        (cases_lt at.0 place)

    pull_gapless : HaveNoGaps chosen levels
    pull_gapless a b c level run j k l jk kl sa sb sc ha hc =
        ⊎_elim
        (λ wa. let pa = in_window a wa in
        let ea = one_place levels plain a level run j (i + 1) 0 pa.0 sa pa.3 in
        ⊎_elim
        (λ wc. let pc = in_window c wc in
        let ec = one_place levels plain c level run l (i + 1) 0 pc.0 sc pc.3 in
        let here : StandsAt levels (i + 1) 0 k b = subst (λ r. StandsAt levels (i + 1) r k b) ea.1 (subst (λ n. StandsAt levels n run k b) ea.0 sb) in
        back b (at_part (run_of levels (i + 1) 0) place count k b is_window.1 (omega (arith, pa.1, ea.2, jk)) (omega (arith, pc.2, ec.2, kl)) here.1))
        (λ ic. let pc = in_stands levels i 0 c ic.0 in
        let ec = one_place levels plain c level run l i 0 pc.0 sc pc.1 in
        absurd (omega (arith, ea.0, ec.0)))
        (from c (stands_there levels level run l c sc) hc))
        (λ ia. let pa = in_stands levels i 0 a ia.0 in
        let ea = one_place levels plain a level run j i 0 pa.0 sa pa.1 in
        ⊎_elim
        (λ wc. let pc = in_window c wc in
        let ec = one_place levels plain c level run l (i + 1) 0 pc.0 sc pc.3 in
        absurd (omega (arith, ea.0, ec.0)))
        (λ ic. let here : StandsAt levels i 0 k b = subst (λ r. StandsAt levels i r k b) ea.1 (subst (λ n. StandsAt levels n run k b) ea.0 sb) in
        pulls b (stands_in levels i 0 k b here)
        (inside_between (run_of levels level run) (plain.runs level run) j k l a b c jk kl sc.0 sa.1 sb.1 sc.1 (window (run_of levels (i + 1) 0) place count) ia.1 ic.1))
        (from c (stands_there levels level run l c sc) hc))
        (from a (stands_there levels level run j a sa) ha)

    pub pull_fits : IsFit chosen levels (i + 1)
    pull_fits = record { within = none_below pull_level; between = none_between pull_level; clear = pull_clear; gapless = pull_gapless }

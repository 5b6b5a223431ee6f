-- The first level with what it overlaps further down.
use Rattle.std.proofs.Common.{◌≡◌, ℕ, ◌<◌, ◌≤◌, ◌⊎◌, Bool, true, false, List, get_or, sym, ap, ◌∙◌, inl, inr, ⊎_elim, subst, arith}
use Rattle.std.proofs.lemmas.Bool.{false≢true, cases_lt}
use Rattle.std.proofs.lemmas.List.{get_or_default}
use Rattle.lsm_below.specs.Keys.{is_below}
use Rattle.lsm_tables.specs.Tables.{SeenTable}
use Rattle.lsm_versions.specs.Levels.{Levels, range}
use Rattle.lsm_pick.specs.Tables.{is_upto, is_begun, is_open, meets}
use Rattle.lsm_pick.proofs.Standing.{run_of, StandsAt, IsPlain, Precedes, HaveNoGaps}
use Rattle.lsm_pick.proofs.Members.{Has}
use Rattle.lsm_pick.proofs.Order.{upto_trans, below_upto, clash}
use Rattle.lsm_pick.proofs.Pairs.{run_order, run_range}
use Rattle.lsm_pick.proofs.Places.{IsThere, Lies, stands_there, stands_lies, lies_stands, stands_in, one_level, only_run}
use Rattle.lsm_pick.proofs.Hulls.{by_begun, by_open, begun_more, open_more, begun_of, open_of, meets_by, meets_between}
use Rattle.lsm_pick.proofs.Fits.{IsFit}

module _ (levels : Levels) (plain : IsPlain levels) (to : ℕ) (some : 0 < to)
    (empty : (i : ℕ) (t : SeenTable) → 0 < i → i < to → Lies levels i t → ⊥)
    (top : List SeenTable) (of_top : (t : SeenTable) → Has top t → Lies levels 0 t) (to_top : (t : SeenTable) → Lies levels 0 t → Has top t)
    (chosen : SeenTable → Bool)
    (from_chosen : (t : SeenTable) → IsThere levels t → chosen t ≡ true → Lies levels 0 t ⊎ (Lies levels to t × (meets top t ≡ true)))
    (all_first : (t : SeenTable) → Lies levels 0 t → chosen t ≡ true)
    (all_met : (t : SeenTable) → Lies levels to t → meets top t ≡ true → chosen t ≡ true) where
  both : {P : Type 0} (b : Bool) → b ≡ true → b ≡ false → P
  both b t f = absurd (false≢true (sym f ∙ t))

  -- two tables of one level from 1 on, of which the first isn't the second
  parted : (t u : SeenTable) → Lies levels to t → Lies levels to u → chosen t ≡ false → chosen u ≡ true →
      (is_below (range u).max (range t).min ≡ true) ⊎ (is_below (range t).max (range u).min ≡ true)
  parted t u ht hu isnt is =
      let pt = lies_stands levels to t ht in
      let pu = lies_stands levels to u hu in
      let zt : pt.0 ≡ 0 = only_run levels plain to pt.0 pt.1 t some pt.2 in
      let zu : pu.0 ≡ 0 = only_run levels plain to pu.0 pu.1 u some pu.2 in
      go pt.1 pu.1 (subst (λ r. StandsAt levels to r pt.1 t) zt pt.2) (subst (λ r. StandsAt levels to r pu.1 u) zu pu.2)
    where
      go : (p q : ℕ) → StandsAt levels to 0 p t → StandsAt levels to 0 q u →
          (is_below (range u).max (range t).min ≡ true) ⊎ (is_below (range t).max (range u).min ≡ true)
      go p q st su =
          let sorted = plain.runs to 0 in
          ⊎_elim (λ less. inr (rw (st.1, su.1) at (run_order range (run_of levels to 0) p q t u sorted less su.0)))
          (λ ge. ⊎_elim (λ less. inl (rw (su.1, st.1) at (run_order range (run_of levels to 0) q p u t sorted less st.0)))
          (λ le. let same : p ≡ q = omega (arith, ge, le) in
          let one : t ≡ u = sym st.1 ∙ (ap (λ n. get_or (run_of levels to 0) n t) same ∙ (get_or_default (run_of levels to 0) q t u su.0 ∙ su.1)) in
          both (chosen u) is (sym (ap chosen one) ∙ isnt))
          (cases_lt q p))
          (cases_lt p q)

  own : (t : SeenTable) → Lies levels to t → is_upto (range t).min (range t).max ≡ true
  own t h = let p = lies_stands levels to t h in run_range range (run_of levels to p.0) t (plain.runs to p.0) (stands_in levels to p.0 p.1 t p.2)

  -- a taken table that begins by the end of one that stays: so does one of the first level
  reaches : (t u : SeenTable) → Lies levels to t → chosen t ≡ false → IsThere levels u → chosen u ≡ true → is_upto (range u).min (range t).max ≡ true → is_begun (range t).max top ≡ true
  reaches t u ht isnt there is le =
      ⊎_elim (λ first. by_begun top (range t).max u (to_top u first) le)
      (λ met. ⊎_elim
      (λ before. begun_more top (range u).max (range t).max
      (upto_trans (range u).max (range t).min (range t).max (below_upto (range u).max (range t).min before) (own t ht)) (begun_of top u met.1))
      (λ behind. absurd (clash (range u).min (range t).max le behind))
      (parted t u ht met.0 isnt is))
      (from_chosen u there is)

  holds_on : (t v : SeenTable) → Lies levels to t → chosen t ≡ false → IsThere levels v → chosen v ≡ true → is_upto (range t).min (range v).max ≡ true → is_open (range t).min top ≡ true
  holds_on t v ht isnt there is le =
      ⊎_elim (λ first. by_open top (range t).min v (to_top v first) le)
      (λ met. ⊎_elim
      (λ before. absurd (clash (range t).min (range v).max le before))
      (λ behind. open_more top (range v).min (range t).min
      (upto_trans (range t).min (range t).max (range v).min (own t ht) (below_upto (range t).max (range v).min behind)) (open_of top v met.1))
      (parted t v ht met.0 isnt is))
      (from_chosen v there is)

  gapless : HaveNoGaps chosen levels
  gapless a b c level run i j k ij jk sa sb sc ha hc =
      ⊎_elim
      (λ first. let zero_level : level ≡ 0 = one_level levels plain a level run i 0 sa first in
      all_first b (subst (λ l. Lies levels l b) zero_level (stands_lies levels level run j b sb)))
      (λ met. let there : level ≡ to = one_level levels plain a level run i to sa met.0 in
      ⊎_elim
      (λ first. let zero_level : level ≡ 0 = one_level levels plain c level run k 0 sc first in absurd (omega (arith, some, there, zero_level)))
      (λ met_c. all_met b (subst (λ l. Lies levels l b) there (stands_lies levels level run j b sb))
      (meets_between (run_of levels level run) (plain.runs level run) i j k a b c ij jk sc.0 sa.1 sb.1 sc.1 top met.1 met_c.1))
      (from_chosen c (stands_there levels level run k c sc) hc))
      (from_chosen a (stands_there levels level run i a sa) ha)

  between :
      (c t : SeenTable) (cl cr cp tl tr tp : ℕ) → StandsAt levels cl cr cp c → StandsAt levels tl tr tp t →
      chosen c ≡ true → chosen t ≡ false → Precedes cl cr tl tr → tl < to → ⊥
  between c t cl cr cp tl tr tp sc st is isnt p less =
      ⊎_elim (λ more. empty tl t more less (stands_lies levels tl tr tp t st))
      (λ few. let z : tl ≡ 0 = omega arith in both (chosen t) (all_first t (subst (λ l. Lies levels l t) z (stands_lies levels tl tr tp t st))) isnt)
      (cases_lt 0 tl)

  within : (c : SeenTable) (cl cr cp : ℕ) → StandsAt levels cl cr cp c → chosen c ≡ true → cl ≤ to
  within c cl cr cp sc is =
      ⊎_elim (λ first. let e = one_level levels plain c cl cr cp 0 sc first in omega (arith, e))
      (λ met. let e = one_level levels plain c cl cr cp to sc met.0 in omega (arith, e))
      (from_chosen c (stands_there levels cl cr cp c sc) is)

  pub first_fits : IsFit chosen levels to
  first_fits = record {
    within = within;
    between = between;
    clear = λ t u v ht isnt hu yu hv yv low high.
        both (chosen t) (all_met t ht (meets_by top t (reaches t u ht isnt hu yu low) (holds_on t v ht isnt hv yv high))) isnt;
    gapless = gapless;
  }

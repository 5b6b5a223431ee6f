-- What a choice has to meet, and what follows: no reason holds against it, and the levels stay flat.
use Rattle.std.proofs.Common.{◌≡◌, ℕ, zero, suc, ◌<◌, ◌≤◌, ◌⊎◌, Bool, true, false, cond, not, List, [], ◌∷◌, length, get_or, eqb, filter, refl, sym, inr, ⊎_elim, subst, arith}
use Rattle.std.specs.Bool.{MatchBool}
use Rattle.std.proofs.lemmas.Bool.{false≢true, eqb-true, cases_lt}
use Rattle.lsm_below.specs.Ranges.{overlap}
use Rattle.lsm_below.specs.Runs.{IsRun}
use Rattle.lsm_below.specs.Optimizes.{EachPair, tables_of}
use Rattle.lsm_tables.specs.Tables.{SeenTable}
use Rattle.lsm_model.specs.Steps.{among}
use Rattle.lsm_versions.specs.Levels.{Levels, range, all_of, chosen_from, in_front, runs_left, is_changed, Joins, LevelChanges, Changes, IsOneRun}
use Rattle.lsm_pick.specs.Tables.{is_upto, is_begun, is_open, is_inside}
use Rattle.lsm_pick.specs.Law.{AreFlat, IsMade}
use Rattle.lsm_pick.proofs.Standing.{is_chosen, StandsAt, IsPlain, HaveNoGaps, Precedes, ArePairsAllowed}
use Rattle.lsm_pick.proofs.Members.{Has, any_has, has_filter, has_append, has_left, has_right, each_has, permuted_has, and_left, and_right}
use Rattle.lsm_pick.proofs.Order.{upto_trans, upto_self}
use Rattle.lsm_pick.proofs.Pairs.{not_so, pairs_append, pairs_filter, run_pairs}
use Rattle.lsm_pick.proofs.Places.{IsThere, Lies, stands_there, stands_lies}

pub record IsFit (chosen : SeenTable → Bool) (levels : Levels) (to : ℕ) : Type 0 where
  -- nothing is taken from below the destination
  pub within : (c : SeenTable) (cl cr cp : ℕ) → StandsAt levels cl cr cp c → chosen c ≡ true → cl ≤ to
  -- nothing that stays stands between
  pub between :
      (c t : SeenTable) (cl cr cp tl tr tp : ℕ) → StandsAt levels cl cr cp c → StandsAt levels tl tr tp t →
      chosen c ≡ true → chosen t ≡ false → Precedes cl cr tl tr → tl < to → ⊥
  -- what stays in the destination doesn't meet the range of what is taken
  pub clear :
      (t u v : SeenTable) → Lies levels to t → chosen t ≡ false →
      IsThere levels u → chosen u ≡ true → IsThere levels v → chosen v ≡ true →
      is_upto (range u).min (range t).max ≡ true → is_upto (range t).min (range v).max ≡ true → ⊥
  pub gapless : HaveNoGaps chosen levels

module _ (chosen : SeenTable → Bool) (levels : Levels) (to : ℕ) (fit : IsFit chosen levels to) where
  pub pairs_allowed : ArePairsAllowed chosen levels to
  pairs_allowed c t cl cr cp tl tr tp sc st hc ht o =
      let reach = fit.within c cl cr cp sc hc in
      let there = stands_there levels cl cr cp c sc in
      let apart : tl ≡ to → ⊥ = λ e. fit.clear t c c (subst (λ l. Lies levels l t) e (stands_lies levels tl tr tp t st)) ht there hc there hc
      (and_left (is_upto (range c).min (range t).max) (is_upto (range t).min (range c).max) o)
      (and_right (is_upto (range c).min (range t).max) (is_upto (range t).min (range c).max) o) in
      record {
        before = λ p. ⊎_elim (λ less. omega (arith, reach, less)) (λ same. below to tl apart (omega (arith, reach, same.0))) p;
        behind = λ p. ⊎_elim (λ less. absurd (fit.between c t cl cr cp tl tr tp sc st hc ht p less)) (λ ge. ge) (cases_lt tl to);
        kept = λ p d s. apart (omega (arith, d, s));
      }
    where
      below : (d l : ℕ) → (l ≡ d → ⊥) → l ≤ d → l < d
      below d l n le = ⊎_elim (λ less. less) (λ ge. absurd (n (omega (arith, le, ge)))) (cases_lt l d)

-- ---- what a level is afterwards

module _ (ids : List ℕ) (levels : Levels) (to : ℕ) (fit : IsFit (is_chosen ids) levels to) where
  -- what comes in front of a level and what stays there
  abbrev NoneOverlap : List SeenTable → Type 0
  NoneOverlap ts = EachPair (λ x y. overlap (range x) (range y) ≡ false) ts

  left_pairs : (runs : List (List SeenTable)) → length runs ≤ 1 → ((r : ℕ) → IsRun range (get_or runs r [])) → NoneOverlap (tables_of (runs_left ids runs))
  left_pairs [] few each = tt
  left_pairs (run ∷ []) few each = one (filter (λ t. not (among ids t.id)) run) (pairs_filter (λ x y. overlap (range x) (range y) ≡ false) (λ t. not (among ids t.id)) run (run_pairs range run (each 0)))
    where
      one : (ts : List SeenTable) → NoneOverlap ts → NoneOverlap (tables_of (in_front ts []))
      one [] h = tt
      one (t ∷ ts) h = pairs_append (λ x y. overlap (range x) (range y) ≡ false) (t ∷ ts) [] h tt (λ x y a b. absurd b)
  left_pairs (run ∷ (more ∷ rest)) few each = absurd (omega arith)

  -- what is left stands in the level, and isn't chosen
  left_has : (runs : List (List SeenTable)) (t : SeenTable) → Has (tables_of (runs_left ids runs)) t → Has (tables_of runs) t × (among ids t.id ≡ false)
  left_has [] t h = absurd h
  left_has (run ∷ runs) t h =
      ⊎_elim
      (λ a. let kept = has_filter (λ t. not (among ids t.id)) run t a in (has_left run (tables_of runs) t kept.0, not_true (among ids t.id) kept.1))
      (λ b. let more = left_has runs t b in (has_right run (tables_of runs) t more.0, more.1))
      (front_has (filter (λ t. not (among ids t.id)) run) (runs_left ids runs) t h)
    where
      front_has : (ts : List SeenTable) (rs : List (List SeenTable)) (t : SeenTable) → Has (tables_of (in_front ts rs)) t → Has ts t ⊎ Has (tables_of rs) t
      front_has [] rs t h = inr h
      front_has (x ∷ ts) rs t h = has_append (x ∷ ts) (tables_of rs) t h

      not_true : (b : Bool) → not b ≡ true → b ≡ false
      not_true true h = absurd (false≢true h)
      not_true false h = refl

  front_pairs :
      (front : List SeenTable) (rs : List (List SeenTable)) → NoneOverlap front → NoneOverlap (tables_of rs) →
      ((x y : SeenTable) → Has front x → Has (tables_of rs) y → overlap (range x) (range y) ≡ false) → NoneOverlap (tables_of (in_front front rs))
  front_pairs [] rs h k f = k
  front_pairs (x ∷ xs) rs h k f = pairs_append (λ x y. overlap (range x) (range y) ≡ false) (x ∷ xs) (tables_of rs) h k f

  changed_flat :
      (front : List SeenTable) (old new : List (List SeenTable)) → length old ≤ 1 → NoneOverlap (tables_of (in_front front (runs_left ids old))) →
      LevelChanges ids front old new → length new ≤ 1
  changed_flat front old new few apart m =
      go (is_changed ids front old) m
    where
      go : (b : Bool) → MatchBool b (Joins (in_front front (runs_left ids old)) new) (new ≡ old) → length new ≤ 1
      go true o = o.rules.joined apart
      go false e = rw e few

  module _ (plain : IsPlain levels) where
    -- a run that lies in the range of the chosen tables leaves each level flat
    pub stays_flat :
        (front : List SeenTable) (new : Levels) → IsRun range front →
        ((x : SeenTable) → Has front x →
        ((u : SeenTable) × IsThere levels u × (among ids u.id ≡ true) × (is_upto (range u).min (range x).min ≡ true))
        × ((v : SeenTable) × IsThere levels v × (among ids v.id ≡ true) × (is_upto (range x).max (range v).max ≡ true))) →
        Changes ids front to levels new → AreFlat new
    stays_flat front new run hull change i more =
        ⊎_elim (λ fits. level i more fits) (λ past. short new i (omega (arith, change.count, past))) (cases_lt i (length levels))
      where
        short : (xss : Levels) (i : ℕ) → length xss ≤ i → length (get_or xss i []) ≤ 1
        short [] i h = omega arith
        short (xs ∷ xss) zero h = absurd (omega arith)
        short (xs ∷ xss) (suc i) h = short xss i (omega arith)

        cross : (x y : SeenTable) → Has front x → Has (tables_of (runs_left ids (get_or levels to []))) y → overlap (range x) (range y) ≡ false
        cross x y hx hy = not_so (overlap (range x) (range y)) (λ o.
            let h = hull x hx in
            let stay = left_has (get_or levels to []) y hy in
            fit.clear y h.0.0 h.1.0 stay.0 stay.1 h.0.1 h.0.2 h.1.1 h.1.2
            (upto_trans (range h.0.0).min (range x).min (range y).max h.0.3 (and_left (is_upto (range x).min (range y).max) (is_upto (range y).min (range x).max) o))
            (upto_trans (range y).min (range x).max (range h.1.0).max (and_right (is_upto (range x).min (range y).max) (is_upto (range y).min (range x).max) o) h.1.3))

        level : (i : ℕ) → 0 < i → i < length levels → length (get_or new i []) ≤ 1
        level i more fits = go (eqb i to) refl (change.levels i fits)
          where
            go : (b : Bool) → eqb i to ≡ b → LevelChanges ids (cond b front []) (get_or levels i []) (get_or new i []) → length (get_or new i []) ≤ 1
            go true e m =
                let same : to ≡ i = sym (eqb-true i to e) in
                changed_flat front (get_or levels i []) (get_or new i []) (plain.flat i more)
                (front_pairs front (runs_left ids (get_or levels i [])) (run_pairs range front run)
                (left_pairs (get_or levels i []) (plain.flat i more) (λ r. plain.runs i r))
                (subst (λ l. (x y : SeenTable) → Has front x → Has (tables_of (runs_left ids (get_or levels l []))) y → overlap (range x) (range y) ≡ false) same cross))
                m
            go false e m =
                changed_flat [] (get_or levels i []) (get_or new i []) (plain.flat i more)
                (left_pairs (get_or levels i []) (plain.flat i more) (λ r. plain.runs i r)) m

    pub made_flat : (made : List SeenTable) (new : Levels) → IsMade ids levels made → Changes ids made to levels new → AreFlat new
    made_flat made new m change = stays_flat made new m.run (λ x h.
        let inside = each_has (λ t. is_inside (chosen_from ids levels) t ≡ true) made x m.within h in
        let low = any_has (λ u. is_upto (range u).min (range x).min) (chosen_from ids levels) (and_left (is_begun (range x).min (chosen_from ids levels)) (is_open (range x).max (chosen_from ids levels)) inside) in
        let high = any_has (λ u. is_upto (range x).max (range u).max) (chosen_from ids levels) (and_right (is_begun (range x).min (chosen_from ids levels)) (is_open (range x).max (chosen_from ids levels)) inside) in
        let first = has_filter (λ t. among ids t.id) (all_of levels) low.0 low.1 in
        let last = has_filter (λ t. among ids t.id) (all_of levels) high.0 high.1 in
        ((low.0, first.0, first.1, low.2), (high.0, last.0, last.1, high.2))) change

    pub moved_flat : (moved : List SeenTable) (new : Levels) → IsOneRun (chosen_from ids levels) moved → Changes ids moved to levels new → AreFlat new
    moved_flat moved new m change = stays_flat moved new m.sorted (λ x h.
        let back = permuted_has (chosen_from ids levels) moved x m.same h in
        let own = has_filter (λ t. among ids t.id) (all_of levels) x back in
        ((x, own.0, own.1, upto_self (range x).min), (x, own.0, own.1, upto_self (range x).max))) change

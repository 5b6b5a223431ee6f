-- The law of Leveled, case by case.
use Rattle.std.proofs.Common.{◌≡◌, ℕ, zero, suc, ◌+◌, ◌-◌, ◌<◌, ◌≤◌, ◌⊎◌, Bool, true, false, cond, not, ◌&&◌, ◌||◌, List, [], ◌∷◌, ◌++◌, length, get_or, nat_eq, nat_lt, nat_le, filter, None, refl, sym, ap, ◌∙◌, inl, inr, ⊎_elim, subst, arith}
use Rattle.std.specs.Bool.{MatchBool}
use Rattle.std.specs.List.{list_any}
use Rattle.std.proofs.lemmas.Bool.{false≢true, eqb-true, cases_lt}
use borrow.Author.Tests.{ltb-true}
use Rattle.lsm_below.specs.Optimizes.{tables_of}
use Rattle.lsm_tables.specs.Tables.{SeenTable}
use Rattle.lsm_versions.specs.Levels.{Levels, SeenVersion, range, is_busy, IsVersion, Changes}
use Rattle.lsm_checks.specs.declared.choice.Kind.TheVariants.{Merge as ToMerge, Move as ToMove}
use Rattle.lsm_checks.specs.declared.parted_run.Fault.TheVariants.{OutOfOrder, StandsBelow}
use Rattle.lsm_checks.specs.Choices.{AreIdsOf, first_reason_of}
use Rattle.lsm_pick.specs.declared.choice.Choice.{Choice}
use Rattle.lsm_pick.specs.declared.choice.Choice.TheVariants.{DoNothing, Merge, Move, Drop}
use Rattle.lsm_pick.specs.declared.leveled.base.Base.{Base}
use Rattle.lsm_pick.specs.declared.leveled.scores.Score.{Score}
use Rattle.lsm_pick.specs.Tables.{runs_at, at, is_upto, is_begun, is_open, meets, is_inside, is_any_hidden}
use Rattle.lsm_pick.specs.Picks.{IsNothing, IsMerge, IsMove}
use Rattle.lsm_pick.specs.LeveledRule.{LeveledRule}
use Rattle.lsm_pick.specs.Leveled.{MayLeveled, MayAfterLast, MayByScore, MayFromFirst, MayFromLevel, MayTakeFree, MayTakeCheapest, GoesLast, IsBase, IsBest, goes_into, first_score, full_score, unhidden_bytes, target_after, score, window, IsWindow, pulled}
use Rattle.lsm_pick.specs.Law.{AreFlat, IsLawful}
use Rattle.lsm_pick.proofs.Standing.{is_chosen, run_of, IsPlain, AreApart}
use Rattle.lsm_pick.proofs.Members.{Has, has_append, has_left, has_right, has_filter, has_kept, has_any, at_has, part_at, and_left, and_right, and_both, not_true}
use Rattle.lsm_pick.proofs.Order.{clash}
use Rattle.lsm_pick.proofs.Pairs.{run_order}
use Rattle.lsm_pick.proofs.Places.{IsThere, Lies, stands_there, lies_there, in_lies, in_stands, one_place, are_there, chosen_has, has_chosen}
use Rattle.lsm_pick.proofs.Hulls.{begun_of, open_of}
use Rattle.lsm_pick.proofs.Fits.{IsFit, pairs_allowed, made_flat, moved_flat}
use Rattle.lsm_pick.proofs.Plain.{plain}
use Rattle.lsm_pick.proofs.Reasons.{no_bad, no_clash, no_gap, none_missing, merge_allowed, move_allowed}
use Rattle.lsm_pick.proofs.FromFirst.{first_fits}
use Rattle.lsm_pick.proofs.FromLevel.{window_fits, pull_fits}

both : {P : Type 0} (b : Bool) → b ≡ true → b ≡ false → P
both b t f = absurd (false≢true (sym f ∙ t))

match_cases : (b : Bool) (P Q : Type 0) → MatchBool b P Q → ((b ≡ true) × P) ⊎ ((b ≡ false) × Q)
match_cases true P Q m = inl (refl, m)
match_cases false P Q m = inr (refl, m)

-- whatever set has just these ids fits
abbrev Fits : Levels → List SeenTable → ℕ → Type 0
Fits levels ts to = (ids : List ℕ) → AreIdsOf ids ts → IsFit (is_chosen ids) levels to

-- and names tables that are apart
abbrev Apart : Levels → List SeenTable → Type 0
Apart levels ts = (ids : List ℕ) → AreIdsOf ids ts → AreApart (is_chosen ids) levels

abbrev Sub : Levels → List SeenTable → Type 0
Sub levels ts = (t : SeenTable) → Has ts t → IsThere levels t

module _ (old : SeenVersion) (plain : IsPlain old.levels) (hidden : List ℕ) where
  nothing_is : (choice : Choice) → IsNothing choice → IsLawful old choice
  nothing_is DoNothing n = tt
  nothing_is (Merge input) n = absurd n
  nothing_is (Move input) n = absurd n
  nothing_is (Drop ids) n = absurd n

  merge_is : (choice : Choice) (ts : List SeenTable) (to from size : ℕ) → IsMerge choice ts to from size → Sub old.levels ts → to < 7 → Fits old.levels ts to → IsLawful old choice
  merge_is DoNothing ts to from size m sub low fits = absurd m
  merge_is (Merge input) ts to from size m sub low fits =
      let ids : List ℕ = input.table_ids.keys in
      let fit = fits ids m.tables in
      let pairs = pairs_allowed (is_chosen ids) old.levels to fit in (
        λ h shown. subst (λ (d : ℕ). first_reason_of ToMerge ids d h old.levels ≡ None) (sym m.dest)
            (merge_allowed ids h old.levels to shown (none_missing ids old.levels (are_there old.levels plain ids ts m.tables sub)) low
            (no_gap ids old.levels fit.gapless) (no_bad ids old.levels plain to pairs OutOfOrder) (no_bad ids old.levels plain to pairs StandsBelow)),
        λ made new is next. made_flat ids old.levels to fit plain made new.levels is
            (subst (λ (d : ℕ). Changes ids made d old.levels new.levels) m.dest next.levels),
      )
  merge_is (Move input) ts to from size m sub low fits = absurd m
  merge_is (Drop ids) ts to from size m sub low fits = absurd m

  move_is : (choice : Choice) (ts : List SeenTable) (to from size : ℕ) → IsMove choice ts to from size → Sub old.levels ts → to < 7 → Fits old.levels ts to → Apart old.levels ts → IsLawful old choice
  move_is DoNothing ts to from size m sub low fits apart = absurd m
  move_is (Merge input) ts to from size m sub low fits apart = absurd m
  move_is (Move input) ts to from size m sub low fits apart =
      let ids : List ℕ = input.table_ids.keys in
      let fit = fits ids m.tables in
      let pairs = pairs_allowed (is_chosen ids) old.levels to fit in (
        λ h shown. subst (λ (d : ℕ). first_reason_of ToMove ids d h old.levels ≡ None) (sym m.dest)
            (move_allowed ids h old.levels to shown (none_missing ids old.levels (are_there old.levels plain ids ts m.tables sub)) low
            (no_clash ids old.levels plain to (apart ids m.tables)) (no_bad ids old.levels plain to pairs OutOfOrder) (no_bad ids old.levels plain to pairs StandsBelow)),
        λ new moves. moved_flat ids old.levels to fit plain moves.run new.levels moves.one
            (subst (λ (d : ℕ). Changes ids moves.run d old.levels new.levels) m.dest moves.next.levels),
      )
  move_is (Drop ids) ts to from size m sub low fits apart = absurd m

  either_is :
      (choice : Choice) (b : Bool) (ts : List SeenTable) (to from size : ℕ) →
      MatchBool b (IsMove choice ts to from size) (IsMerge choice ts to from size) →
      Sub old.levels ts → to < 7 → Fits old.levels ts to → (b ≡ true → Apart old.levels ts) → IsLawful old choice
  either_is choice b ts to from size m sub low fits apart =
      ⊎_elim (λ e. move_is choice ts to from size e.1 sub low fits (apart e.0)) (λ e. merge_is choice ts to from size e.1 sub low fits)
      (match_cases b _ _ m)

  -- the tables of one run are apart
  apart_in_run : (ts : List SeenTable) (l r : ℕ) → ((t : SeenTable) → Has ts t → Has (run_of old.levels l r) t) → Sub old.levels ts → Apart old.levels ts
  apart_in_run ts l r here sub ids names a b al ar ap bl br bp sa sb ha hb o =
      let pa = in_stands old.levels l r a (here a (chosen_has old.levels plain ids ts names sub a (stands_there old.levels al ar ap a sa) ha)) in
      let pb = in_stands old.levels l r b (here b (chosen_has old.levels plain ids ts names sub b (stands_there old.levels bl br bp b sb) hb)) in
      let ea = one_place old.levels plain a al ar ap l r pa.0 sa pa.1 in
      let eb = one_place old.levels plain b bl br bp l r pb.0 sb pb.1 in
      let sorted = plain.runs l r in
      let same : pa.0 ≡ pb.0 = ⊎_elim
      (λ less. absurd (clash (range b).min (range a).max (and_right (is_upto (range a).min (range b).max) (is_upto (range b).min (range a).max) o)
      (rw (pa.1.1, pb.1.1) at (run_order range (run_of old.levels l r) pa.0 pb.0 a b sorted less pb.1.0))))
      (λ ge. ⊎_elim
      (λ less. absurd (clash (range a).min (range b).max (and_left (is_upto (range a).min (range b).max) (is_upto (range b).min (range a).max) o)
      (rw (pb.1.1, pa.1.1) at (run_order range (run_of old.levels l r) pb.0 pa.0 b a sorted less pa.1.0))))
      (λ le. omega (arith, ge, le)) (cases_lt pb.0 pa.0))
      (cases_lt pa.0 pb.0) in
      (ea.0 ∙ sym eb.0, ea.1 ∙ sym eb.1, ea.2 ∙ (same ∙ sym eb.2))

  -- ---- from the first level

  one_run : (i : ℕ) (t : SeenTable) → length (get_or old.levels i []) ≡ 1 → Lies old.levels i t → Has (run_of old.levels i 0) t
  one_run i t one h = elim (get_or old.levels i []) as (λ runs. length runs ≡ 1 → Has (tables_of runs) t → Has (get_or runs 0 []) t) [
    | [] ↦ λ e g. absurd g
    | run ∷ runs ↦ λ e g. first run runs e g
  ] one h
    where
      first : (run : List SeenTable) (runs : List (List SeenTable)) → length (run ∷ runs) ≡ 1 → Has (tables_of (run ∷ runs)) t → Has run t
      first run [] e g = ⊎_elim (λ l. l) (λ r. absurd r) (has_append run [] t g)
      first run (more ∷ rest) e g = absurd (omega (arith, e))

  module _ (to : ℕ) (some : 0 < to) (empty : (i : ℕ) → 1 ≤ i → i < to → runs_at old.levels i ≡ []) (ts : List SeenTable)
      (parts : (t : SeenTable) → Has ts t → Has (at old.levels 0) t ⊎ (Has (at old.levels to) t × (meets (at old.levels 0) t ≡ true)))
      (firsts : (t : SeenTable) → Has (at old.levels 0) t → Has ts t)
      (mets : (t : SeenTable) → Has (at old.levels to) t → meets (at old.levels 0) t ≡ true → Has ts t) where
    first_sub : Sub old.levels ts
    first_sub t h = ⊎_elim (λ a. lies_there old.levels 0 t a) (λ b. lies_there old.levels to t b.0) (parts t h)

    first_case : Fits old.levels ts to
    first_case ids names =
        first_fits old.levels plain to some
        (λ i t more less h. subst (λ us. Has us t) (ap tables_of (empty i (omega (arith, more)) less)) h)
        (at old.levels 0) (λ t h. h) (λ t h. h) (is_chosen ids)
        (λ t there is. ⊎_elim (λ a. inl a) (λ b. inr (b.0, b.1)) (parts t (chosen_has old.levels plain ids ts names first_sub t there is)))
        (λ t h. has_chosen old.levels plain ids ts names first_sub t (firsts t h))
        (λ t h m. has_chosen old.levels plain ids ts names first_sub t (mets t h m))

    first_apart : length (get_or old.levels 0 []) ≡ 1 → ((t : SeenTable) → Has ts t → Has (at old.levels 0) t) → Apart old.levels ts
    first_apart one only = apart_in_run ts 0 0 (λ t h. one_run 0 t one (only t h)) first_sub

  -- the first level alone
  alone_is :
      (choice : Choice) (to from size : ℕ) → 0 < to → to < 7 → ((i : ℕ) → 1 ≤ i → i < to → runs_at old.levels i ≡ []) →
      length (get_or old.levels 0 []) ≡ 1 → ((t : SeenTable) → Has (at old.levels to) t → meets (at old.levels 0) t ≡ true → ⊥) →
      IsMove choice (at old.levels 0) to from size → IsLawful old choice
  alone_is choice to from size some low empty one free m =
      let us = at old.levels 0 in
      let own : (t : SeenTable) → Has us t → Has us t = λ t h. h in
      move_is choice us to from size m
      (first_sub to some empty us (λ t h. inl h) own (λ t h e. absurd (free t h e)))
      low
      (first_case to some empty us (λ t h. inl h) own (λ t h e. absurd (free t h e)))
      (first_apart to some empty us (λ t h. inl h) own (λ t h e. absurd (free t h e)) one own)

  last_is : (choice : Choice) (size : ℕ) → GoesLast old.levels → IsMove choice (at old.levels 0) 6 1 size → IsLawful old choice
  last_is choice size goes m =
      let us = at old.levels 0 in
      let low = at old.levels 6 in
      alone_is choice 6 1 size (omega arith) (omega arith) goes.1 goes.0
      (λ t h e. false≢true (sym goes.2 ∙
      and_both (list_any (λ t. is_begun (range t).max us) low) (list_any (λ t. is_open (range t).min us) low)
      (has_any (λ t. is_begun (range t).max us) low t h (begun_of us t e)) (has_any (λ t. is_open (range t).min us) low t h (open_of us t e))))
      m

  base_into : (rule : LeveledRule) (base : Base) → IsBase rule hidden old.levels base → (0 < base.into) × (base.into < 7)
  base_into rule base b =
      ⊎_elim (λ o. (omega (arith, b.0.0, o.0.0, o.1), omega (arith, b.0.1, o.1))) (λ o. (omega (arith, b.0.0, o.1), omega (arith, b.0.1, o.1))) b.1

  between_empty : (rule : LeveledRule) (base : Base) → IsBase rule hidden old.levels base → (j : ℕ) → 1 ≤ j → j < base.into → runs_at old.levels j ≡ []
  between_empty rule base b j low high = b.0.2 j low (⊎_elim (λ o. omega (arith, high, o.1)) (λ o. omega (arith, high, o.1)) b.1)

  goes_is :
      (rule : LeveledRule) (base : Base) (choice : Choice) → IsBase rule hidden old.levels base → goes_into hidden old.levels base.into ≡ true →
      IsMove choice (at old.levels 0) base.into 1 rule.target → IsLawful old choice
  goes_is rule base choice b goes m =
      let us = at old.levels 0 in
      let low = at old.levels base.into in
      let reach = base_into rule base b in
      let more = and_right (nat_eq (length (get_or old.levels 0 [])) 1) _ goes in
      let rest = and_right (nat_eq (length (get_or old.levels base.into [])) 1) _ more in
      let free = not_true (list_any (meets us) low) (and_right (not (is_busy hidden (runs_at old.levels base.into))) _ (and_right (not (is_busy hidden (runs_at old.levels 0))) _ rest)) in
      alone_is choice base.into 1 rule.target reach.0 reach.1 (between_empty rule base b)
      (eqb-true (length (get_or old.levels 0 [])) 1 (and_left (nat_eq (length (get_or old.levels 0 [])) 1) _ goes))
      (λ t h e. both (list_any (meets us) low) (has_any (meets us) low t h e) free) m

  first_is :
      (rule : LeveledRule) (base : Base) (choice : Choice) → IsBase rule hidden old.levels base →
      MayFromFirst rule hidden old.levels base.into choice → IsLawful old choice
  first_is rule base choice b m =
      let us = at old.levels 0 in
      let low = at old.levels base.into in
      let over = filter (meets us) low in
      let reach = base_into rule base b in
      let is_alone = not (list_any (meets us) low) && nat_eq (length (get_or old.levels 0 [])) 1 in
      let parts : (t : SeenTable) → Has (us ++ over) t → Has us t ⊎ (Has low t × (meets us t ≡ true)) = λ t h. ⊎_elim (λ a. inl a) (λ r. inr (has_filter (meets us) low t r)) (has_append us over t h) in
      let firsts : (t : SeenTable) → Has us t → Has (us ++ over) t = λ t h. has_left us over t h in
      let mets : (t : SeenTable) → Has low t → meets us t ≡ true → Has (us ++ over) t = λ t h e. has_right us over t (has_kept (meets us) low t h e) in
      ⊎_elim (λ n. nothing_is choice n.1)
      (λ e. either_is choice is_alone (us ++ over) base.into 1 rule.target e.1
      (first_sub base.into reach.0 (between_empty rule base b) (us ++ over) parts firsts mets) reach.1
      (first_case base.into reach.0 (between_empty rule base b) (us ++ over) parts firsts mets)
      (λ alone. first_apart base.into reach.0 (between_empty rule base b) (us ++ over) parts firsts mets
      (eqb-true (length (get_or old.levels 0 [])) 1 (and_right (not (list_any (meets us) low)) (nat_eq (length (get_or old.levels 0 [])) 1) alone))
      (λ t h. ⊎_elim (λ a. a) (λ r. let met = has_filter (meets us) low t r in both (list_any (meets us) low) (has_any (meets us) low t met.0 met.1) (not_true (list_any (meets us) low) (and_left (not (list_any (meets us) low)) (nat_eq (length (get_or old.levels 0 [])) 1) alone))) (has_append us over t h))))
      (match_cases (is_busy hidden (runs_at old.levels 0) || is_busy hidden (runs_at old.levels base.into)) (IsNothing choice)
      (MatchBool is_alone (IsMove choice (us ++ over) base.into 1 rule.target) (IsMerge choice (us ++ over) base.into 1 rule.target)) m)

  -- ---- from a level further down

  window_has : (l place count : ℕ) (t : SeenTable) → IsWindow (run_of old.levels l 0) place count → Has (window (run_of old.levels l 0) place count) t → Has (run_of old.levels l 0) t
  window_has l place count t w h =
      let found = part_at (run_of old.levels l 0) place count t w.1 h in
      at_has (run_of old.levels l 0) found.0 t (omega (arith, found.2, w.1)) found.3

  run_there : (l : ℕ) (t : SeenTable) → Has (run_of old.levels l 0) t → IsThere old.levels t
  run_there l t h = lies_there old.levels l t (in_lies old.levels l 0 t h)

  free_is :
      (rule : LeveledRule) (i down : ℕ) (is_alone : Bool) (choice : Choice) → 0 < i → i < 6 →
      MayTakeFree rule hidden is_alone (run_of old.levels i 0) (run_of old.levels (i + 1) 0) (i + 1) down choice → IsLawful old choice
  free_is rule i down is_alone choice some low m =
      let place = m.0 in
      let count = m.1.0 in
      let is_window = m.1.1.0.0 in
      let w = window (run_of old.levels i 0) place count in
      let free : list_any (meets w) (run_of old.levels (i + 1) 0) ≡ false = not_true (list_any (meets w) (run_of old.levels (i + 1) 0)) (and_right (not (is_any_hidden hidden w)) _ m.1.1.0.1) in
      let here : (t : SeenTable) → Has w t → Has (run_of old.levels i 0) t = λ t h. window_has i place count t is_window h in
      either_is choice is_alone w (i + 1) down rule.target m.1.1.1 (sub_by w here) (omega (arith, low))
      (fits_by place count is_window free (sub_by w here))
      (λ alone. apart_in_run w i 0 here (sub_by w here))
    where
      sub_by : (ts : List SeenTable) → ((t : SeenTable) → Has ts t → Has (run_of old.levels i 0) t) → Sub old.levels ts
      sub_by ts here t h = run_there i t (here t h)

      fits_by :
          (place count : ℕ) → IsWindow (run_of old.levels i 0) place count → list_any (meets (window (run_of old.levels i 0) place count)) (run_of old.levels (i + 1) 0) ≡ false →
          Sub old.levels (window (run_of old.levels i 0) place count) → Fits old.levels (window (run_of old.levels i 0) place count) (i + 1)
      fits_by place count is_window free sub ids names =
          let w = window (run_of old.levels i 0) place count in
          window_fits old.levels plain i some (is_chosen ids) place count is_window
          (λ t there is. chosen_has old.levels plain ids w names sub t there is)
          (λ t h. has_chosen old.levels plain ids w names sub t h)
          (λ t h e. both (list_any (meets w) (run_of old.levels (i + 1) 0)) (has_any (meets w) (run_of old.levels (i + 1) 0) t h e) free)

  cheapest_is :
      (rule : LeveledRule) (i down : ℕ) (choice : Choice) → 0 < i → i < 6 →
      MayTakeCheapest rule hidden (run_of old.levels i 0) (run_of old.levels (i + 1) 0) (i + 1) down choice → IsLawful old choice
  cheapest_is rule i down choice some low m =
      ⊎_elim
      (λ e. let place = e.0 in
      let count = e.1.0 in
      let is_window = e.1.1.0.0.0 in
      let w = window (run_of old.levels (i + 1) 0) place count in
      merge_is choice (w ++ pulled (run_of old.levels i 0) w) (i + 1) down rule.target e.1.1.1 (sub_by place count is_window) (omega (arith, low)) (fits_by place count is_window))
      (λ n. nothing_is choice n.1) m
    where
      sub_by : (place count : ℕ) → IsWindow (run_of old.levels (i + 1) 0) place count → Sub old.levels (window (run_of old.levels (i + 1) 0) place count ++ pulled (run_of old.levels i 0) (window (run_of old.levels (i + 1) 0) place count))
      sub_by place count is_window t h =
          let w = window (run_of old.levels (i + 1) 0) place count in
          ⊎_elim (λ a. run_there (i + 1) t (window_has (i + 1) place count t is_window a))
          (λ b. run_there i t (has_filter (is_inside w) (run_of old.levels i 0) t b).0) (has_append w (pulled (run_of old.levels i 0) w) t h)

      fits_by : (place count : ℕ) → IsWindow (run_of old.levels (i + 1) 0) place count → Fits old.levels (window (run_of old.levels (i + 1) 0) place count ++ pulled (run_of old.levels i 0) (window (run_of old.levels (i + 1) 0) place count)) (i + 1)
      fits_by place count is_window ids names =
          let w = window (run_of old.levels (i + 1) 0) place count in
          let p = pulled (run_of old.levels i 0) w in
          let sub = sub_by place count is_window in
          pull_fits old.levels plain i some (is_chosen ids) place count is_window
          (λ t there is. ⊎_elim (λ a. inl a) (λ b. inr (has_filter (is_inside w) (run_of old.levels i 0) t b)) (has_append w p t (chosen_has old.levels plain ids (w ++ p) names sub t there is)))
          (λ t h. has_chosen old.levels plain ids (w ++ p) names sub t (has_left w p t h))
          (λ t h e. has_chosen old.levels plain ids (w ++ p) names sub t (has_right w p t (has_kept (is_inside w) (run_of old.levels i 0) t h e)))

  level_is : (rule : LeveledRule) (base : Base) (i : ℕ) (choice : Choice) → MayFromLevel rule hidden old.levels base i choice → 0 < i → i < 6 → IsLawful old choice
  level_is rule base i choice m some low =
      ⊎_elim (λ e. free_is rule i _ _ choice some low e) (λ e. cheapest_is rule i _ choice some low e.1) m

  -- ---- the first case that holds

  -- a level whose score isn't below 1
  scored :
      (z c : Bool) (a b : Score) →
      nat_lt (cond z a (cond c b (record { top = 0; bottom = 1 }))).top (cond z a (cond c b (record { top = 0; bottom = 1 }))).bottom ≡ false →
      z ≡ false → c ≡ true
  scored true c a b h e = absurd (false≢true (sym e))
  scored false true a b h e = refl
  scored false false a b h e = absurd (false≢true (sym h))

  score_is :
      (rule : LeveledRule) (base : Base) (best : ℕ) (choice : Choice) → IsBase rule hidden old.levels base →
      MayByScore rule hidden old.levels base best choice → IsLawful old choice
  score_is rule base best choice b m =
      let s = score rule hidden old.levels base best in
      let first : Type 0 = MayFromFirst rule hidden old.levels base.into choice in
      let further : Type 0 = MayFromLevel rule hidden old.levels base best choice in
      ⊎_elim (λ n. nothing_is choice n.1)
      (λ e. ⊎_elim
      (λ f. first_is rule base choice b f.1)
      (λ g. level_is rule base best choice g.1 (some best g.0)
      (ltb-true best 6 (and_right (nat_le base.first best) (nat_lt best 6) (scored (nat_eq best 0) (nat_le base.first best && nat_lt best 6)
      (first_score rule (at old.levels 0))
      (full_score (unhidden_bytes hidden (at old.levels best)) (target_after rule (best - base.shift - 1)) (runs_at old.levels (best + 1)))
      e.0 g.0))))
      (match_cases (nat_eq best 0) first further e.1))
      (match_cases (nat_lt s.top s.bottom) (IsNothing choice) (MatchBool (nat_eq best 0) first further) m)
    where
      some : (n : ℕ) → nat_eq n 0 ≡ false → 0 < n
      some zero h = absurd (false≢true (sym h))
      some (suc n) h = omega arith

  after_is : (rule : LeveledRule) (choice : Choice) → MayAfterLast rule hidden old.levels choice → IsLawful old choice
  after_is rule choice m =
      ⊎_elim
      (λ e. goes_is rule m.0 choice m.1.0 e.0 e.1)
      (λ e. score_is rule m.0 e.1.0 choice m.1.0 e.1.1.1)
      (match_cases (goes_into hidden old.levels m.0.into)
      (IsMove choice (at old.levels 0) m.0.into 1 rule.target)
      ((best : ℕ) × (IsBest (score rule hidden old.levels m.0) 7 best × MayByScore rule hidden old.levels m.0 best choice))
      m.1.1)

  lawful_in : (rule : LeveledRule) (choice : Choice) → MayLeveled rule hidden old.levels choice → IsLawful old choice
  lawful_in rule choice m = ⊎_elim (λ e. last_is choice rule.target e.0 e.1) (λ e. after_is rule choice e.1) m

pub lawful : (rule : LeveledRule) (hidden : List ℕ) (old : SeenVersion) (choice : Choice) → IsVersion old.levels → AreFlat old.levels → MayLeveled rule hidden old.levels choice → IsLawful old choice
lawful rule hidden old choice is flat m = lawful_in old (plain old.levels is flat) hidden rule choice m

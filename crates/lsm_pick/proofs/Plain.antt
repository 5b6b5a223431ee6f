-- What the levels of a version meet, place by place.
use Rattle.std.proofs.Common.{◌≡◌, ℕ, zero, suc, ◌<◌, ◌⊎◌, false, true, eqb, List, [], ◌∷◌, ◌++◌, length, map, get_or, sym, ◌∙◌, inl, inr, ⊎_elim, subst, arith}
use Rattle.std.specs.List.{AllByRecursion, IsDistinct}
use Rattle.std.proofs.lemmas.Bool.{false≢true, cases_lt}
use Rattle.lsm_below.specs.Runs.{IsRun}
use Rattle.lsm_below.specs.Optimizes.{EachPair, tables_of}
use Rattle.lsm_tables.specs.Tables.{SeenTable}
use Rattle.lsm_versions.specs.Levels.{Levels, range, all_of, AreRuns, HasOwnIds, IsVersion}
use Rattle.lsm_versions.specs.TableLaws.{flat_append}
use Rattle.lsm_pick.specs.Law.{AreFlat}
use Rattle.lsm_pick.proofs.Members.{Has, has_each, each_has, has_left, has_right, at_has, to_eqb}
use Rattle.lsm_pick.proofs.Standing.{run_of, StandsAt, IsPlain}
use Rattle.lsm_pick.proofs.Places.{stands_lies, lies_there}

each_at : {A : Type 0} (P : A → Type 0) (xs : List A) (i : ℕ) (d : A) → AllByRecursion P xs → P d → P (get_or xs i d)
each_at P [] i d h p = p
each_at P (x ∷ xs) zero d h p = h.0
each_at P (x ∷ xs) (suc i) d h p = each_at P xs i d h.1 p

are_runs : (levels : Levels) → AreRuns levels → (l r : ℕ) → IsRun range (run_of levels l r)
are_runs levels h l r = each_at (IsRun range) (get_or levels l []) r [] (each_at (AllByRecursion (IsRun range)) levels l [] h tt) tt

abbrev Differ : SeenTable → SeenTable → Type 0
Differ t u = eqb t.id u.id ≡ false

own_pairs : (ts : List SeenTable) → HasOwnIds ts → EachPair Differ ts
unfolding IsDistinct
own_pairs [] h = tt
own_pairs (t ∷ ts) h = (each ts h.0, own_pairs ts h.1)
  where
    each : (us : List SeenTable) → AllByRecursion (λ (y : ℕ). eqb t.id y ≡ false) (map (λ u. u.id) us) → AllByRecursion (Differ t) us
    each [] a = tt
    each (u ∷ us) a = (a.0, each us a.1)

-- ---- of two lists

pairs_cross : (xs ys : List SeenTable) (x y : SeenTable) → EachPair Differ (xs ++ ys) → Has xs x → Has ys y → Differ x y
pairs_cross [] ys x y h a b = absurd a
pairs_cross (z ∷ xs) ys x y h a b = ⊎_elim (λ e. subst (λ w. Differ w y) e (each_has (Differ z) (xs ++ ys) y h.0 (has_right xs ys y b))) (λ r. pairs_cross xs ys x y h.1 r b) a

pairs_left : (xs ys : List SeenTable) → EachPair Differ (xs ++ ys) → EachPair Differ xs
pairs_left [] ys h = tt
pairs_left (x ∷ xs) ys h = (has_each (Differ x) xs (λ y g. each_has (Differ x) (xs ++ ys) y h.0 (has_left xs ys y g)), pairs_left xs ys h.1)

pairs_right : (xs ys : List SeenTable) → EachPair Differ (xs ++ ys) → EachPair Differ ys
pairs_right [] ys h = h
pairs_right (x ∷ xs) ys h = pairs_right xs ys h.1

-- ---- by places

in_run : (ts : List SeenTable) (i j : ℕ) (a b : SeenTable) → EachPair Differ ts → i < j → j < length ts → get_or ts i a ≡ a → get_or ts j b ≡ b → Differ a b
in_run [] i j a b h lt fits ea eb = absurd (omega arith)
in_run (t ∷ ts) zero zero a b h lt fits ea eb = absurd (omega arith)
in_run (t ∷ ts) zero (suc j) a b h lt fits ea eb = subst (λ z. Differ z b) ea (each_has (Differ t) ts b h.0 (at_has ts j b (omega arith) eb))
in_run (t ∷ ts) (suc i) zero a b h lt fits ea eb = absurd (omega arith)
in_run (t ∷ ts) (suc i) (suc j) a b h lt fits ea eb = in_run ts i j a b h.1 (omega arith) (omega arith) ea eb

runs_have : (runs : List (List SeenTable)) (r : ℕ) (t : SeenTable) → Has (get_or runs r []) t → Has (tables_of runs) t
runs_have [] r t h = absurd h
runs_have (run ∷ runs) zero t h = has_left run (tables_of runs) t h
runs_have (run ∷ runs) (suc r) t h = has_right run (tables_of runs) t (runs_have runs r t h)

abbrev Stands : List (List SeenTable) → ℕ → ℕ → SeenTable → Type 0
Stands runs r p t = (p < length (get_or runs r [])) × (get_or (get_or runs r []) p t ≡ t)

-- one stands before the other
abbrev Before : ℕ → ℕ → ℕ → ℕ → Type 0
Before r p s q = (r < s) ⊎ ((r ≡ s) × (p < q))

in_level : (runs : List (List SeenTable)) (r p s q : ℕ) (a b : SeenTable) → EachPair Differ (tables_of runs) → Before r p s q → Stands runs r p a → Stands runs s q b → Differ a b
in_level [] r p s q a b h o sa sb = absurd (omega (arith, sa.0))
in_level (run ∷ runs) zero p zero q a b h o sa sb =
    ⊎_elim (λ less. absurd (omega (arith, less))) (λ less. in_run run p q a b (pairs_left run (tables_of runs) h) less.1 sb.0 sa.1 sb.1) o
in_level (run ∷ runs) zero p (suc s) q a b h o sa sb =
    pairs_cross run (tables_of runs) a b h (at_has run p a sa.0 sa.1) (runs_have runs s b (at_has (get_or runs s []) q b sb.0 sb.1))
in_level (run ∷ runs) (suc r) p zero q a b h o sa sb = ⊎_elim (λ less. absurd (omega (arith, less))) (λ less. absurd (omega (arith, less.0))) o
in_level (run ∷ runs) (suc r) p (suc s) q a b h o sa sb =
    in_level runs r p s q a b (pairs_right run (tables_of runs) h) (⊎_elim (λ less. inl (omega (arith, less))) (λ less. inr (omega (arith, less.0), less.1)) o) sa sb

in_levels :
    (levels : Levels) (l r p m s q : ℕ) (a b : SeenTable) → EachPair Differ (all_of levels) → (l < m) ⊎ ((l ≡ m) × Before r p s q) →
    StandsAt levels l r p a → StandsAt levels m s q b → Differ a b
in_levels [] l r p m s q a b h o sa sb = absurd (omega (arith, sa.0))
in_levels (runs ∷ levels) zero r p zero s q a b h o sa sb =
    let here = subst (EachPair Differ) (flat_append runs (tables_of levels)) h in
    ⊎_elim (λ less. absurd (omega (arith, less))) (λ less. in_level runs r p s q a b (pairs_left (tables_of runs) (all_of levels) here) less.1 sa sb) o
in_levels (runs ∷ levels) zero r p (suc m) s q a b h o sa sb =
    pairs_cross (tables_of runs) (all_of levels) a b (subst (EachPair Differ) (flat_append runs (tables_of levels)) h)
    (runs_have runs r a (at_has (get_or runs r []) p a sa.0 sa.1)) (lies_there levels m b (stands_lies levels m s q b sb))
in_levels (runs ∷ levels) (suc l) r p zero s q a b h o sa sb = ⊎_elim (λ less. absurd (omega (arith, less))) (λ less. absurd (omega (arith, less.0))) o
in_levels (runs ∷ levels) (suc l) r p (suc m) s q a b h o sa sb =
    in_levels levels l r p m s q a b (pairs_right (tables_of runs) (all_of levels) (subst (EachPair Differ) (flat_append runs (tables_of levels)) h))
    (⊎_elim (λ less. inl (omega (arith, less))) (λ less. inr (omega (arith, less.0), less.1)) o) sa sb

differ : (a b : SeenTable) → Differ a b → a.id ≡ b.id → ⊥
differ a b d e = false≢true (sym d ∙ subst (λ (n : ℕ). eqb a.id n ≡ true) e (to_eqb a.id))

same : (al bl ar br ap bp : ℕ) → ((al < bl) ⊎ ((al ≡ bl) × Before ar ap br bp) → ⊥) → ((bl < al) ⊎ ((bl ≡ al) × Before br bp ar ap) → ⊥) → (al ≡ bl) × (ar ≡ br) × (ap ≡ bp)
same al bl ar br ap bp ab ba =
    let l : al ≡ bl = ⊎_elim (λ less. absurd (ab (inl less))) (λ ge. ⊎_elim (λ less. absurd (ba (inl less))) (λ le. omega (arith, ge, le)) (cases_lt bl al)) (cases_lt al bl) in
    let r : ar ≡ br = ⊎_elim (λ less. absurd (ab (inr (l, inl less)))) (λ ge. ⊎_elim (λ less. absurd (ba (inr (sym l, inl less)))) (λ le. omega (arith, ge, le)) (cases_lt br ar)) (cases_lt ar br) in
    let p : ap ≡ bp = ⊎_elim (λ less. absurd (ab (inr (l, inr (r, less))))) (λ ge. ⊎_elim (λ less. absurd (ba (inr (sym l, inr (sym r, less))))) (λ le. omega (arith, ge, le)) (cases_lt bp ap)) (cases_lt ap bp) in
    (l, r, p)

-- the place of a table is that of its id
one_of : (levels : Levels) → HasOwnIds (all_of levels) → (a b : SeenTable) (al ar ap bl br bp : ℕ) → StandsAt levels al ar ap a → StandsAt levels bl br bp b → a.id ≡ b.id → (al ≡ bl) × (ar ≡ br) × (ap ≡ bp)
one_of levels own a b al ar ap bl br bp sa sb e =
    let pairs = own_pairs (all_of levels) own in
    let ab = λ (o : (al < bl) ⊎ ((al ≡ bl) × Before ar ap br bp)). differ a b (in_levels levels al ar ap bl br bp a b pairs o sa sb) e in
    let ba = λ (o : (bl < al) ⊎ ((bl ≡ al) × Before br bp ar ap)). differ b a (in_levels levels bl br bp al ar ap b a pairs o sb sa) (sym e) in
    same al bl ar br ap bp ab ba

pub plain : (levels : Levels) → IsVersion levels → AreFlat levels → IsPlain levels
plain levels is flat = record {
  seven = is.seven;
  flat = flat;
  runs = are_runs levels is.runs;
  names = one_of levels is.own_ids;
}

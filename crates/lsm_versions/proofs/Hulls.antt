-- The range that just holds those of runs just holds those of their tables.
use Rattle.std.proofs.Common.{◌≡◌, ℕ, zero, suc, ◌+◌, ◌<◌, Bool, true, false, ◌&&◌, List, [], ◌∷◌, ◌++◌, length, get_or, take, ◌⊎◌, inl, inr, ⊎_elim, refl, sym, ◌∙◌, ap, subst, arith, Option, Some, None, MatchOption}
use Rattle.std.specs.List.{AllByRecursion, Any}
use Rattle.std.proofs.lemmas.List.{take_more}
use Rattle.std.proofs.lemmas.List.Elements.{All-from_recursion, recursion_from_All}
use Rattle.std.specs.Ordering.{is_le}
use Rattle.lsm_below.specs.Each.{each_append, each_weaker}
use Rattle.lsm_below.specs.Keys.{Bytes, bytes_cmp}
use Rattle.lsm_below.specs.Laws.{KeysAreOrdered}
use Rattle.lsm_below.specs.Optimizes.{tables_of}
use Rattle.lsm_below.specs.Ranges.{Range, IsHull, is_within}
use Rattle.lsm_tables.specs.Tables.{SeenTable}
use Rattle.lsm_versions.specs.Levels.{range, AreHulls}

-- ---- some of a list

module _ {A : Type 0} (P : A → Type 0) where
  any_tail : (x : A) (xs : List A) → Any P xs → Any P (x ∷ xs)
  any_tail x xs h = (suc h.0, h.1, omega (arith, h.2), h.3, h.4)

  any_cases : (x : A) (xs : List A) → Any P (x ∷ xs) → P x ⊎ Any P xs
  any_cases x xs h = at h.0 h.1 h.2 h.3 h.4
    where
      at : (k : ℕ) (y : A) → k < length (x ∷ xs) → get_or (x ∷ xs) k y ≡ y → P y → P x ⊎ Any P xs
      at zero y lt e p = inl (subst P (sym e) p)
      at (suc k) y lt e p = inr (k, y, omega arith, e, p)

  any_here : (x : A) (xs : List A) → P x → Any P (x ∷ xs)
  any_here x xs p = (zero, x, omega arith, refl, p)

  any_right : (xs ys : List A) → Any P ys → Any P (xs ++ ys)
  any_right [] ys h = h
  any_right (x ∷ xs) ys h = any_tail x (xs ++ ys) (any_right xs ys h)

  any_left : (xs ys : List A) → Any P xs → Any P (xs ++ ys)
  any_left [] ys h = absurd (omega (arith, h.2))
  any_left (x ∷ xs) ys h = ⊎_elim (λ (p : P x). any_here x (xs ++ ys) p) (λ (k : Any P xs). any_tail x (xs ++ ys) (any_left xs ys k)) (any_cases x xs h)

any_weaker : {A : Type 0} (P Q : A → Type 0) → ((x : A) → P x → Q x) → (xs : List A) → Any P xs → Any Q xs
any_weaker P Q f xs h = (h.0, h.1, h.2, h.3, f h.1 h.4)

-- an end of a run's range is an end of one of the tables
end_of : (end : Range → Bytes) → ((run : List SeenTable) (h : Range) → IsHull range run h → Any (λ t. end (range t) ≡ end h) run) → (runs : List (List SeenTable)) (hs : List Range) (m : Bytes) → AreHulls runs hs → Any (λ s. end s ≡ m) hs → Any (λ t. end (range t) ≡ m) (tables_of runs)
end_of end f [] [] m hulls h = absurd (omega (arith, h.2))
end_of end f [] (h ∷ hs) m hulls k = absurd hulls
end_of end f (run ∷ runs) [] m hulls k = absurd hulls
end_of end f (run ∷ runs) (h ∷ hs) m hulls k =
    ⊎_elim
    (λ (e : end h ≡ m). any_left (λ t. end (range t) ≡ m) run (tables_of runs) (any_weaker (λ t. end (range t) ≡ end h) (λ t. end (range t) ≡ m) (λ t p. p ∙ e) run (f run h hulls.0)))
    (λ (j : Any (λ s. end s ≡ m) hs). any_right (λ t. end (range t) ≡ m) run (tables_of runs) (end_of end f runs hs m hulls.1 j))
    (any_cases (λ s. end s ≡ m) h hs k)

-- ---- ranges within ranges

both : (a b : Bool) → (a && b) ≡ true → (a ≡ true) × (b ≡ true)
both true b h = (refl, h)
both false b h = absurd (cc h)

joined : (a b : Bool) → a ≡ true → b ≡ true → (a && b) ≡ true
joined true b p q = q
joined false b p q = absurd (cc p)

none_of_none : (runs : List (List SeenTable)) (hs : List Range) → AreHulls runs hs → hs ≡ [] → runs ≡ []
none_of_none [] hs hulls e = refl
none_of_none (run ∷ runs) [] hulls e = absurd hulls
none_of_none (run ∷ runs) (h ∷ hs) hulls e = absurd (cc e)

module _ (law : KeysAreOrdered) where
  within_trans : (a b c : Range) → is_within a b ≡ true → is_within b c ≡ true → is_within a c ≡ true
  within_trans a b c h k =
      let p = both (is_le (bytes_cmp b.min a.min)) (is_le (bytes_cmp a.max b.max)) h in
      let q = both (is_le (bytes_cmp c.min b.min)) (is_le (bytes_cmp b.max c.max)) k in
      joined (is_le (bytes_cmp c.min a.min)) (is_le (bytes_cmp a.max c.max)) (law.le_trans c.min b.min a.min q.0 p.0) (law.le_trans a.max b.max c.max p.1 q.1)

  all_within : (runs : List (List SeenTable)) (hs : List Range) (r : Range) → AreHulls runs hs → AllByRecursion (λ s. is_within s r ≡ true) hs → AllByRecursion (λ t. is_within (range t) r ≡ true) (tables_of runs)
  all_within [] [] r hulls h = tt
  all_within [] (s ∷ hs) r hulls h = absurd hulls
  all_within (run ∷ runs) [] r hulls h = absurd hulls
  all_within (run ∷ runs) (s ∷ hs) r hulls h =
      each_append (λ t. is_within (range t) r ≡ true) run (tables_of runs)
      (each_weaker (λ t. is_within (range t) s ≡ true) (λ t. is_within (range t) r ≡ true) (λ t w. within_trans (range t) s r w h.0) run (recursion_from_All (λ t. is_within (range t) s ≡ true) run hulls.0.holds))
      (all_within runs hs r hulls.1 h.1)

  hull_of_hulls : (runs : List (List SeenTable)) (hs : List Range) (r : Range) → AreHulls runs hs → IsHull (λ s. s) hs r → IsHull range (tables_of runs) r
  hull_of_hulls runs hs r hulls h = record {
    holds = All-from_recursion (λ t. is_within (range t) r ≡ true) (tables_of runs) (all_within runs hs r hulls (recursion_from_All (λ s. is_within s r ≡ true) hs h.holds));
    least = end_of (λ s. s.min) (λ run s k. k.least) runs hs r.min hulls h.least;
    greatest = end_of (λ s. s.max) (λ run s k. k.greatest) runs hs r.max hulls h.greatest;
  }

  pub hull_shown : (runs : List (List SeenTable)) (hs : List Range) (o : Option Range) → AreHulls runs hs → MatchOption o (hs ≡ []) (IsHull (λ s. s) hs) → MatchOption o (runs ≡ []) (IsHull range (tables_of runs))
  hull_shown runs hs None hulls h = none_of_none runs hs hulls h
  hull_shown runs hs (Some r) hulls h = hull_of_hulls runs hs r hulls h

-- ---- one run after the other

hulls_push : (runs : List (List SeenTable)) (hs : List Range) (run : List SeenTable) (h : Range) → AreHulls runs hs → IsHull range run h → AreHulls (runs ++ run ∷ []) (hs ++ h ∷ [])
hulls_push [] [] run h hulls k = (k, tt)
hulls_push [] (s ∷ hs) run h hulls k = absurd hulls
hulls_push (r ∷ runs) [] run h hulls k = absurd hulls
hulls_push (r ∷ runs) (s ∷ hs) run h hulls k = (hulls.0, hulls_push runs hs run h hulls.1 k)

pub hulls_more : (runs : List (List SeenTable)) (n : ℕ) (hs : List Range) (run : List SeenTable) (h : Range) → n < length runs → run ≡ get_or runs n run → AreHulls (take n runs) hs → IsHull range run h → AreHulls (take (n + 1) runs) (hs ++ h ∷ [])
hulls_more runs n hs run h lt read hulls k =
    let e : take n runs ++ run ∷ [] ≡ take (n + 1) runs = ap (λ x. take n runs ++ x ∷ []) read ∙ sym (take_more runs n run lt) in
    subst (λ rs. AreHulls rs (hs ++ h ∷ [])) e (hulls_push (take n runs) hs run h hulls k)

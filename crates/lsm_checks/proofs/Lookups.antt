-- A look-up of tables by their ids.
use Rattle.std.proofs.Common.{◌≡◌, ℕ, ◌+◌, ◌<◌, Bool, true, false, cond, ◌||◌, eqb, List, [], ◌∷◌, ◌++◌, length, map, filter, get_or, take, not, Option, Some, None, MatchOption, inl, inr, ⊎_elim, refl, sym, ◌∙◌, ap, subst, eq-eqb, arith, suc, ◌&&◌, IsTrue, ◌↔◌}
use Rattle.std.specs.List.{AllByRecursion, list_any, list_all, IsDistinct}
use Rattle.std.proofs.lemmas.List.{take_more}
use Rattle.std.proofs.lemmas.List.Folds.{list_any-append}
use Rattle.std.proofs.lemmas.Bool.Decides.{nat_tests}
use Rattle.lsm_below.specs.Members.{IsIn}
use Rattle.lsm_below.specs.Ranges.{Range, overlap}
use Rattle.lsm_tables.specs.Tables.{SeenTable}
use Rattle.lsm_model.specs.Views.{Table}
use Rattle.lsm_model.specs.Steps.{among}
use Rattle.lsm_versions.specs.Levels.{Levels, range, shown_table, all_of, HasOwnIds}
use Rattle.lsm_checks.specs.Choices.{IsAmong, AllStand, AreOneById, is_there}
use Rattle.lsm_checks.proofs.Choosing.{from_eqb}
use Rattle.lsm_checks.proofs.Parting.{overlap_back}
use Rattle.lsm_versions.specs.TableLaws.{flips}

-- ---- ids

-- the ids of tables, looked through
ids_there : (id : ℕ) (ts : List SeenTable) → among (map (λ t. t.id) ts) id ≡ list_any (λ t. eqb t.id id) ts
ids_there id [] = refl
ids_there id (t ∷ ts) = ap (λ b. b || among (map (λ t. t.id) ts) id) (flips id t.id) ∙ ap (λ b. eqb t.id id || b) (ids_there id ts)

pub missing_shown : (ids there : List ℕ) (levels : Levels) → ((i : ℕ) → among there i ≡ among (map (λ t. t.id) (all_of levels)) i) → list_any (λ id. not (among there id)) ids ≡ list_any (λ id. not (is_there levels id)) ids
missing_shown [] there levels h = refl
missing_shown (id ∷ ids) there levels h = ap (λ b. not b || list_any (λ id. not (among there id)) ids) (h id ∙ ids_there id (all_of levels)) ∙ ap (λ b. not (is_there levels id) || b) (missing_shown ids there levels h)

-- ---- members

in_front_of : {A : Type 0} (x : A) (xs ys : List A) → IsIn x xs → IsIn x (xs ++ ys)
in_front_of x [] ys i = absurd i
in_front_of x (y ∷ xs) ys i = ⊎_elim (λ (e : y ≡ x). inl e) (λ (j : IsIn x xs). inr (in_front_of x xs ys j)) i

in_last : {A : Type 0} (x : A) (xs : List A) → IsIn x (xs ++ x ∷ [])
in_last x [] = inl refl
in_last x (y ∷ xs) = inr (in_last x xs)

in_shown : (t : SeenTable) (ts : List SeenTable) → IsIn t ts → IsAmong ts t
in_shown t [] i = absurd i
in_shown t (u ∷ ts) i = ⊎_elim (λ (e : u ≡ t). inl (ap shown_table e)) (λ (j : IsIn t ts). inr (in_shown t ts j)) i

-- a table that is among others is one of them, as the theory sees it
from_shown : (t : SeenTable) (ts : List SeenTable) → IsAmong ts t → (u : SeenTable) × IsIn u ts × (shown_table u ≡ shown_table t)
from_shown t [] i = absurd i
from_shown t (u ∷ ts) i = ⊎_elim (λ (e : shown_table u ≡ shown_table t). (u, inl refl, e)) (λ (j : IsAmong ts t). let r = from_shown t ts j in (r.0, inr r.1, r.2)) i

no_id : (i : ℕ) (u : SeenTable) (ts : List SeenTable) → AllByRecursion (λ j. eqb i j ≡ false) (map (λ t. t.id) ts) → IsIn u ts → eqb i u.id ≡ false
no_id i u [] h k = absurd k
no_id i u (t ∷ ts) h k = ⊎_elim (λ (e : t ≡ u). subst (λ (z : SeenTable). eqb i z.id ≡ false) e h.0) (λ (j : IsIn u ts). no_id i u ts h.1 j) k

-- two tables of one id are the same
one_table : (ts : List SeenTable) (t u : SeenTable) → HasOwnIds ts → IsIn t ts → IsIn u ts → t.id ≡ u.id → t ≡ u
unfolding IsDistinct
one_table [] t u own i j e = absurd i
one_table (x ∷ ts) t u own i j e =
    ⊎_elim
    (λ (p : x ≡ t). ⊎_elim
    (λ (q : x ≡ u). sym p ∙ q)
    (λ (k : IsIn u ts). let z : true ≡ false = sym (eq-eqb x.id u.id (ap (λ (w : SeenTable). w.id) p ∙ e)) ∙ no_id x.id u ts own.0 k in absurd (cc z))
    j)
    (λ (m : IsIn t ts). ⊎_elim
    (λ (q : x ≡ u). let z : true ≡ false = sym (eq-eqb x.id t.id (ap (λ (w : SeenTable). w.id) q ∙ sym e)) ∙ no_id x.id t ts own.0 m in absurd (cc z))
    (λ (k : IsIn u ts). one_table ts t u own.1 m k e)
    j)
    i

has_id : (u : SeenTable) (ts : List SeenTable) → IsIn u ts → list_any (λ t. eqb t.id u.id) ts ≡ true
has_id u [] i = absurd i
has_id u (t ∷ ts) i = ⊎_elim (λ (e : t ≡ u). ap (λ b. b || list_any (λ t. eqb t.id u.id) ts) (eq-eqb t.id u.id (ap (λ (w : SeenTable). w.id) e))) (λ (j : IsIn u ts). ap (λ b. eqb t.id u.id || b) (has_id u ts j) ∙ or_true (eqb t.id u.id)) i
  where
    or_true : (b : Bool) → (b || true) ≡ true
    or_true true = refl
    or_true false = refl

-- ---- where an id names one table

-- what is found is the table of that id, if its entries are the same
pub found_among : (ts : List SeenTable) (t u : SeenTable) → IsIn u ts → u.id ≡ t.id → u.entries ≡ t.entries → IsAmong ts t
found_among ts t u i e f = subst (λ (s : Table). IsIn s (map shown_table ts)) (same u t e f) (in_shown u ts i)
  where
    same : (u t : SeenTable) → u.id ≡ t.id → u.entries ≡ t.entries → shown_table u ≡ shown_table t
    same u t e f = cc

and_parts : (a b : Bool) → (a && b) ≡ true → (a ≡ true) × (b ≡ true)
and_parts true b h = (refl, h)
and_parts false b h = absurd (cc h)

find_id : (i : ℕ) (ts : List SeenTable) → list_any (λ t. eqb t.id i) ts ≡ true → (u : SeenTable) × IsIn u ts × (u.id ≡ i)
find_id i [] h = absurd (cc h)
find_id i (t ∷ ts) h =
    elim (eqb t.id i) as (λ b. eqb t.id i ≡ b → (b || list_any (λ t. eqb t.id i) ts) ≡ true → (u : SeenTable) × IsIn u (t ∷ ts) × (u.id ≡ i)) [
      | true ↦ λ q k. (t, inl refl, from_eqb t.id i q)
      | false ↦ λ q k. let r = find_id i ts k in (r.0, inr r.1, r.2)
    ] refl h

module _ (there : List ℕ) (levels : Levels) (ids : (i : ℕ) → among there i ≡ among (map (λ t. t.id) (all_of levels)) i) where
  here_shown : (i : ℕ) → among there i ≡ list_any (λ t. eqb t.id i) (all_of levels)
  here_shown i = ids i ∙ ids_there i (all_of levels)

  all_here : (inputs : List SeenTable) → AreOneById inputs levels → list_all (λ t. among there t.id) inputs ≡ true → AllStand levels inputs
  all_here [] one h = tt
  all_here (t ∷ inputs) one h =
      let p = and_parts (among there t.id) (list_all (λ t. among there t.id) inputs) h in
      let r = find_id t.id (all_of levels) (sym (here_shown t.id) ∙ p.0) in
      (found_among (all_of levels) t r.0 r.1 r.2 (one t r.0 (inl refl) r.1 r.2), all_here inputs (λ t u i j e. one t u (inr i) j e) p.1)

  here_all : (inputs : List SeenTable) → AllStand levels inputs → list_all (λ t. among there t.id) inputs ≡ true
  here_all [] h = refl
  here_all (t ∷ inputs) h =
      let r = from_shown t (all_of levels) h.0 in
      let yes : among there t.id ≡ true = here_shown t.id ∙ (ap (λ (i : ℕ). list_any (λ u. eqb u.id i) (all_of levels)) (sym (ap (λ (s : Table). s.id) r.2)) ∙ has_id r.0 (all_of levels) r.1) in
      ap (λ b. b && list_all (λ t. among there t.id) inputs) yes ∙ here_all inputs h.1

  pub ids_tell : (inputs : List SeenTable) (b : Bool) → AreOneById inputs levels → b ≡ list_all (λ t. among there t.id) inputs → IsTrue b ↔ AllStand levels inputs
  ids_tell inputs b one e = (λ y. all_here inputs one (sym e ∙ y), λ h. e ∙ here_all inputs h)

-- ---- the look-up

abbrev pub Row : List SeenTable → ℕ → Option SeenTable → Type 0
Row ts i o = MatchOption o (list_any (λ t. eqb t.id i) ts ≡ false) (λ t. IsIn t ts × (t.id ≡ i))

row_behind : (ts : List SeenTable) (t : SeenTable) (i : ℕ) (o : Option SeenTable) → eqb t.id i ≡ false → Row ts i o → Row (ts ++ t ∷ []) i o
row_behind ts t i None q h = list_any-append (λ t. eqb t.id i) ts (t ∷ []) ∙ ap (λ b. b || (eqb t.id i || false)) h ∙ ap (λ b. b || false) q
row_behind ts t i (Some u) q h = (in_front_of u ts (t ∷ []) h.0, h.1)

row_more : (ts : List SeenTable) (t : SeenTable) (i : ℕ) (new old : Option SeenTable) → new ≡ cond (eqb t.id i) (Some t) old → Row ts i old → Row (ts ++ t ∷ []) i new
row_more ts t i new old step h =
    subst (Row (ts ++ t ∷ []) i) (sym step)
    (elim (eqb t.id i) as (λ b. eqb t.id i ≡ b → Row (ts ++ t ∷ []) i (cond b (Some t) old)) [
      | true ↦ λ q. (in_last t ts, from_eqb t.id i q)
      | false ↦ λ q. row_behind ts t i old q h
    ] refl)

-- one more table
pub index_more : (ts : List SeenTable) (n i : ℕ) (t : SeenTable) (new old : Option SeenTable) → n < length ts → t ≡ get_or ts n t → new ≡ cond (eqb t.id i) (Some t) old → Row (take n ts) i old → Row (take (n + 1) ts) i new
index_more ts n i t new old lt read step h =
    let e : take n ts ++ t ∷ [] ≡ take (n + 1) ts = ap (λ x. take n ts ++ x ∷ []) read ∙ sym (take_more ts n t lt) in
    subst (λ l. Row l i new) e (row_more (take n ts) t i new old step h)

pub found_same : (ts : List SeenTable) (t u : SeenTable) → HasOwnIds ts → IsIn u ts → u.id ≡ t.id → IsAmong ts t → u.entries ≡ t.entries
found_same ts t u own i e among_them =
    let r = from_shown t ts among_them in
    let same = one_table ts u r.0 own i r.1 (e ∙ sym (ap (λ (s : Table). s.id) r.2)) in
    ap (λ (w : SeenTable). w.entries) same ∙ ap (λ (s : Table). s.entries) r.2

pub not_found : (ts : List SeenTable) (t : SeenTable) → list_any (λ u. eqb u.id t.id) ts ≡ false → IsAmong ts t → ⊥
not_found ts t none among_them =
    let r = from_shown t ts among_them in
    let z : true ≡ false = sym (has_id r.0 ts r.1) ∙ ap (λ (i : ℕ). list_any (λ u. eqb u.id i) ts) (ap (λ (s : Table). s.id) r.2) ∙ none in
    cc z

-- ---- overlaps in a run

not_none : (n : ℕ) → eqb (suc n) 0 ≡ false
not_none n = grind (arith, nat_tests)

pub some_kept : (r : Range) (us : List SeenTable) → not (eqb (length (filter (λ u. overlap (range u) r) us)) 0) ≡ list_any (λ u. overlap r (range u)) us
some_kept r [] = refl
some_kept r (u ∷ us) =
    elim (overlap (range u) r) as (λ b. overlap r (range u) ≡ b → not (eqb (length (cond b (u ∷ filter (λ u. overlap (range u) r) us) (filter (λ u. overlap (range u) r) us))) 0) ≡ (overlap r (range u) || list_any (λ u. overlap r (range u)) us)) [
      | true ↦ λ q. ap not (not_none (length (filter (λ u. overlap (range u) r) us))) ∙ sym (ap (λ b. b || list_any (λ u. overlap r (range u)) us) q)
      | false ↦ λ q. some_kept r us ∙ sym (ap (λ b. b || list_any (λ u. overlap r (range u)) us) q)
    ] (overlap_back r (range u))

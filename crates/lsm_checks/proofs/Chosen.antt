-- Tables that are still there are those of their ids.
use Rattle.std.proofs.Common.{◌≡◌, ℕ, true, false, cond, ◌||◌, List, [], ◌∷◌, ◌++◌, map, flat_map, filter, refl, sym, ◌∙◌, ap, subst, eqb, eq-eqb, ◌⊎◌, inl, inr, ⊎_elim}
use Rattle.std.proofs.lemmas.Grind.{flat_map-append}
use Rattle.std.specs.List.{AllByRecursion, IsDistinct}
use Rattle.std.specs.List.Sorted.{IsPermutation}
use Rattle.std.proofs.lemmas.List.Elements.{filter-append}
use Rattle.std.proofs.lemmas.List.Sorted.{IsPermutation-refl, IsPermutation-trans, IsPermutation-append_right, IsPermutation-middle, IsPermutation-map}
use Rattle.std.proofs.lemmas.Map.Keys.{IsDistinct-IsPermutation}
use Rattle.lsm_below.specs.FilterLaws.{filter_none}
use Rattle.lsm_below.specs.Keys.{Bytes, is_same}
use Rattle.lsm_below.specs.Entries.{stack}
use Rattle.lsm_tables.specs.Tables.{SeenTable}
use Rattle.lsm_model.specs.Views.{Table, IsIn, held, chosen_of}
use Rattle.lsm_model.specs.Steps.{among}
use Rattle.lsm_versions.specs.Levels.{Levels, HasOwnIds, all_of, chosen_from, shown_table, placed_of}
use Rattle.lsm_checks.specs.Choices.{IsAmong, AllStand, HoldSame, AreIdsOf}
use Rattle.lsm_versions.specs.TableLaws.{map_map, filter_map, filter_same, front_moves, flips, held_chosen}

abbrev pub Others : ℕ → List Table → Type 0
Others i ts = AllByRecursion (λ j. eqb i j ≡ false) (map (λ t. t.id) ts)

abbrev pub Distinct : List Table → Type 0
Distinct ts = IsDistinct eqb (map (λ t. t.id) ts)

-- a list around one of its elements
split : (x : Table) (ts : List Table) → IsIn x ts → (front : List Table) × (behind : List Table) × (ts ≡ front ++ x ∷ behind)
split x [] i = absurd i
split x (y ∷ ts) i = ⊎_elim (λ (e : y ≡ x). ([], ts, ap (λ z. z ∷ ts) e)) (λ (j : IsIn x ts). let r = split x ts j in (y ∷ r.0, r.1, ap (λ l. y ∷ l) r.2)) i

in_either : (x t : Table) (front behind : List Table) → IsIn t (front ++ x ∷ behind) → (x ≡ t) ⊎ IsIn t (front ++ behind)
in_either x t [] behind i = i
in_either x t (y ∷ front) behind i = ⊎_elim (λ (e : y ≡ t). inr (inl e)) (λ (j : IsIn t (front ++ x ∷ behind)). ⊎_elim (λ (e : x ≡ t). inl e) (λ (k : IsIn t (front ++ behind)). inr (inr k)) (in_either x t front behind j)) i

rest_in : (x : Table) (front behind ts : List Table) → Others x.id ts → AllByRecursion (λ t. IsIn t (front ++ x ∷ behind)) ts → AllByRecursion (λ t. IsIn t (front ++ behind)) ts
rest_in x front behind [] o h = tt
rest_in x front behind (t ∷ ts) o h = (
  ⊎_elim (λ (e : x ≡ t). let q : true ≡ false = sym (eq-eqb x.id t.id (ap (λ z. z.id) e)) ∙ o.0 in absurd (cc q)) (λ (i : IsIn t (front ++ behind)). i) (in_either x t front behind h.0),
  rest_in x front behind ts o.1 h.1,
)

-- an id that none of the tables has makes no difference to them
no_difference : (i : ℕ) (ids : List ℕ) (ts : List Table) → Others i ts → AllByRecursion (λ t. among (i ∷ ids) t.id ≡ among ids t.id) ts
no_difference i ids [] o = tt
no_difference i ids (t ∷ ts) o = (ap (λ b. b || among ids t.id) (flips t.id i ∙ o.0), no_difference i ids ts o.1)

module _ {B : Type 0} (f : Table → List B) where
  -- what tables of a list hold is what those of their ids hold
  chosen_same : (inputs all : List Table) → Distinct inputs → Distinct all → AllByRecursion (λ t. IsIn t all) inputs → IsPermutation (flat_map f inputs) (flat_map f (filter (λ t. among (map (λ t. t.id) inputs) t.id) all))
  unfolding IsDistinct
  chosen_same [] all d e h = subst (λ ts. IsPermutation [] (flat_map f ts)) (sym (filter_none (λ t. false) all (none all))) (IsPermutation-refl [])
    where
      none : (ts : List Table) → AllByRecursion (λ t. false ≡ false) ts
      none [] = tt
      none (t ∷ ts) = (refl, none ts)
  chosen_same (x ∷ inputs) all d e h =
      let s = split x all h.0 in
      let front = s.0 in
      let behind = s.1 in
      let ids = map (λ t. t.id) inputs in
      let t = λ (u : Table). among (x.id ∷ ids) u.id in
      let e_apart : Distinct (x ∷ (front ++ behind)) = IsDistinct-IsPermutation eqb flips _ _ (IsPermutation-map (λ t. t.id) (front ++ x ∷ behind) (x ∷ (front ++ behind)) (IsPermutation-middle front x behind)) (subst Distinct s.2 e) in
      let ih = chosen_same inputs (front ++ behind) d.1 e_apart.1 (rest_in x front behind inputs d.0 (subst (λ ts. AllByRecursion (λ t. IsIn t ts) inputs) s.2 h.1)) in
      let same : filter (λ u. among ids u.id) (front ++ behind) ≡ filter t front ++ filter t behind = sym (filter_same t (λ u. among ids u.id) (front ++ behind) (no_difference x.id ids (front ++ behind) e_apart.0)) ∙ filter-append t front behind in
      let first : t x ≡ true = ap (λ b. b || among ids x.id) (eq-eqb x.id x.id refl) in
      let whole : flat_map f (filter t all) ≡ flat_map f (filter t front) ++ (f x ++ flat_map f (filter t behind)) =
      ap (λ ts. flat_map f (filter t ts)) s.2 ∙ ap (flat_map f) (filter-append t front (x ∷ behind)) ∙ flat_map-append f (filter t front) (filter t (x ∷ behind)) ∙ ap (λ b. flat_map f (filter t front) ++ flat_map f (cond b (x ∷ filter t behind) (filter t behind))) first in
      let rest : IsPermutation (flat_map f inputs) (flat_map f (filter t front) ++ flat_map f (filter t behind)) = subst (IsPermutation (flat_map f inputs)) (ap (flat_map f) same ∙ flat_map-append f (filter t front) (filter t behind)) ih in
      subst (IsPermutation (f x ++ flat_map f inputs)) (sym whole)
      (IsPermutation-trans _ _ _ (IsPermutation-append_right (f x) (flat_map f inputs) (flat_map f (filter t front) ++ flat_map f (filter t behind)) rest) (front_moves (f x) (flat_map f (filter t front)) (flat_map f (filter t behind))))

-- ---- tables as callers see them

all_shown : (ts inputs : List SeenTable) → AllByRecursion (IsAmong ts) inputs → AllByRecursion (λ t. IsIn t (map shown_table ts)) (map shown_table inputs)
all_shown ts [] h = tt
all_shown ts (t ∷ inputs) h = (h.0, all_shown ts inputs h.1)

shown_flat : {B : Type 0} (f : Table → List B) (ts : List SeenTable) → flat_map f (map shown_table ts) ≡ flat_map (λ t. f (shown_table t)) ts
shown_flat f [] = refl
shown_flat f (t ∷ ts) = ap (λ l. f (shown_table t) ++ l) (shown_flat f ts)

stack_flat : (k : Bytes) (ts : List SeenTable) → stack k (flat_map (λ t. t.entries) ts) ≡ flat_map (λ t. stack k t.entries) ts
stack_flat k [] = refl
stack_flat k (t ∷ ts) = filter-append (λ e. is_same k e.key.user_key) t.entries (flat_map (λ t. t.entries) ts) ∙ ap (λ l. stack k t.entries ++ l) (stack_flat k ts)

shown_own : (ts : List SeenTable) → HasOwnIds ts → Distinct (map shown_table ts)
shown_own ts h = subst (IsDistinct eqb) (sym (map_map (λ t. t.id) shown_table ts)) h

each_id : (is ids : List ℕ) → ((i : ℕ) → among is i ≡ among ids i) → (ts : List Table) → AllByRecursion (λ t. among is t.id ≡ among ids t.id) ts
each_id is ids same [] = tt
each_id is ids same (t ∷ ts) = (same t.id, each_id is ids same ts)

-- inputs that are still there hold of each key what the tables of their ids do
pub hold_same : (ids : List ℕ) (inputs : List SeenTable) (levels : Levels) → AreIdsOf ids inputs → HasOwnIds inputs → HasOwnIds (all_of levels) → AllStand levels inputs → HoldSame inputs ids levels
hold_same ids inputs levels are own own_all stand k =
    let f = λ (t : Table). stack k t.entries in
    let all = all_of levels in
    let same = chosen_same f (map shown_table inputs) (map shown_table all) (shown_own inputs own) (shown_own all own_all) (all_shown all inputs stand) in
    let is = map (λ t. t.id) (map shown_table inputs) in
    let is_ids : (i : ℕ) → among is i ≡ among ids i = λ i. ap (λ l. among l i) (map_map (λ t. t.id) shown_table inputs) ∙ sym (are i) in
    let right : flat_map f (filter (λ t. among (map (λ t. t.id) (map shown_table inputs)) t.id) (map shown_table all)) ≡ stack k (held (chosen_of (among ids) (placed_of levels))) =
    ap (flat_map f) (filter_same (λ t. among is t.id) (λ t. among ids t.id) (map shown_table all) (each_id is ids is_ids (map shown_table all)))
    ∙ ap (flat_map f) (filter_map shown_table (λ t. among ids t.id) all)
    ∙ shown_flat f (chosen_from ids levels)
    ∙ sym (stack_flat k (chosen_from ids levels))
    ∙ ap (stack k) (sym (held_chosen ids 0 levels)) in
    subst (IsPermutation (flat_map (λ t. stack k t.entries) inputs)) right (subst (λ l. IsPermutation l (flat_map f (filter (λ t. among (map (λ t. t.id) (map shown_table inputs)) t.id) (map shown_table all)))) (shown_flat f inputs) same)

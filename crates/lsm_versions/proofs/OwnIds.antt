-- Ids that stand once.
use Rattle.std.proofs.Common.{◌≡◌, ℕ, true, false, ◌||◌, eqb, List, [], ◌∷◌, ◌++◌, map, refl, sym, ◌∙◌, subst}
use Rattle.std.specs.List.{AllByRecursion, IsDistinct}
use Rattle.lsm_tables.specs.Tables.{SeenTable}
use Rattle.lsm_model.specs.Steps.{among}
use Rattle.lsm_versions.specs.Levels.{HasOwnIds}
use Rattle.std.proofs.lemmas.Map.Keys.{IsDistinct-push}
use Rattle.std.specs.Cmp.{nat_eq_equiv}
use Rattle.lsm_versions.specs.TableLaws.{map_append, flips}

id_behind : (i : ℕ) (t : SeenTable) (xs ys : List SeenTable) → AllByRecursion (λ j. eqb i j ≡ false) (map (λ t. t.id) (xs ++ t ∷ ys)) → eqb i t.id ≡ false
id_behind i t [] ys h = h.0
id_behind i t (x ∷ xs) ys h = id_behind i t xs ys h.1

-- an id that stands before too stands twice
pub stands_twice : (xs : List SeenTable) (t : SeenTable) (ys : List SeenTable) → among (map (λ t. t.id) xs) t.id ≡ true → HasOwnIds (xs ++ t ∷ ys) → ⊥
unfolding IsDistinct
stands_twice [] t ys there own = cc there
stands_twice (x ∷ xs) t ys there own =
    elim (eqb t.id x.id) as (λ b. eqb t.id x.id ≡ b → (b || among (map (λ t. t.id) xs) t.id) ≡ true → ⊥) [
      | true ↦ λ q h. let z : true ≡ false = sym q ∙ flips t.id x.id ∙ id_behind x.id t xs ys own.0 in cc z
      | false ↦ λ q h. stands_twice xs t ys h own.1
    ] refl there

-- one more table, with an id of its own
pub own_more : (ts : List SeenTable) (t : SeenTable) → among (map (λ t. t.id) ts) t.id ≡ false → HasOwnIds ts → HasOwnIds (ts ++ t ∷ [])
own_more ts t new own =
    let f = λ (t : SeenTable). t.id in
    subst (IsDistinct eqb) (sym (map_append f ts (t ∷ []))) (IsDistinct-push nat_eq_equiv (map f ts) t.id own new)

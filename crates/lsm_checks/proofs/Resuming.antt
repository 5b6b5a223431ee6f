-- A gap shows at the first table that isn't chosen after one that is.
use Rattle.std.proofs.Common.{◌≡◌, ℕ, Bool, true, false, ◌&&◌, ◌||◌, not, List, [], ◌∷◌, refl, sym, ◌∙◌, ap, ◌≤◌, ◌-◌, length, get_or, take, drop, arith}
use Rattle.std.specs.List.{list_any}
use Rattle.std.proofs.Math.Seq.{drop-cons}
use Rattle.std.proofs.lemmas.List.{take_all, length-drop}
use Rattle.lsm_tables.specs.Tables.{SeenTable}
use Rattle.lsm_model.specs.Steps.{among}
use Rattle.lsm_checks.specs.Choices.{resumes, has_gap}

or_left : (a b : Bool) → (b ≡ true → a ≡ true) → (a || b) ≡ a
or_left true b h = refl
or_left false true h = sym (h refl)
or_left false false h = refl

-- what resumes has a chosen table
resumes_has : (ids : List ℕ) (ts : List SeenTable) → resumes ids ts ≡ true → list_any (λ t. among ids t.id) ts ≡ true
resumes_has ids [] h = h
resumes_has ids (t ∷ ts) h =
    elim (among ids t.id) as (λ b. ((not b && list_any (λ u. among ids u.id) ts) || resumes ids ts) ≡ true → (b || list_any (λ u. among ids u.id) ts) ≡ true) [
      | true ↦ λ k. refl
      | false ↦ λ k.
          elim (list_any (λ u. among ids u.id) ts) as (λ c. (c || resumes ids ts) ≡ true → (resumes ids ts ≡ true → c ≡ true) → c ≡ true) [
            | true ↦ λ m f. refl
            | false ↦ λ m f. f m
          ] k (resumes_has ids ts)
    ] h

-- what has a gap resumes
gap_resumes : (ids : List ℕ) (ts : List SeenTable) → has_gap ids ts ≡ true → resumes ids ts ≡ true
gap_resumes ids [] h = h
gap_resumes ids (t ∷ ts) h =
    elim (among ids t.id) as (λ b. ((b && resumes ids ts) || has_gap ids ts) ≡ true → ((not b && list_any (λ u. among ids u.id) ts) || resumes ids ts) ≡ true) [
      | true ↦ λ k. elim (resumes ids ts) as (λ c. (c || has_gap ids ts) ≡ true → (has_gap ids ts ≡ true → c ≡ true) → c ≡ true) [
        | true ↦ λ m f. refl
        | false ↦ λ m f. f m
      ] k (gap_resumes ids ts)
      | false ↦ λ k. or_left (list_any (λ u. among ids u.id) ts) (resumes ids ts) (resumes_has ids ts) ∙ resumes_has ids ts (gap_resumes ids ts k)
    ] h

pub at_unchosen : (ids : List ℕ) (t : SeenTable) (ts : List SeenTable) → among ids t.id ≡ false → resumes ids (t ∷ ts) ≡ list_any (λ u. among ids u.id) ts
at_unchosen ids t ts h = ap (λ b. (not b && list_any (λ u. among ids u.id) ts) || resumes ids ts) h ∙ or_left (list_any (λ u. among ids u.id) ts) (resumes ids ts) (resumes_has ids ts)

pub at_chosen : (ids : List ℕ) (t : SeenTable) (ts : List SeenTable) → among ids t.id ≡ true → has_gap ids (t ∷ ts) ≡ resumes ids ts
at_chosen ids t ts h = ap (λ b. (b && resumes ids ts) || has_gap ids ts) h ∙ or_left (resumes ids ts) (has_gap ids ts) (gap_resumes ids ts)

-- a slice by its first element
pub first_and_rest : (xs : List SeenTable) (t : SeenTable) → 1 ≤ length xs → t ≡ get_or xs 0 t → t ∷ take (length xs - 1) (drop 1 xs) ≡ xs
first_and_rest xs t le read =
    let rest : take (length xs - 1) (drop 1 xs) ≡ drop 1 xs = take_all (length xs - 1) (drop 1 xs) (omega (arith, length-drop 1 xs)) in
    ap (λ l. t ∷ l) rest ∙ ap (λ x. x ∷ drop 1 xs) read ∙ sym (drop-cons xs 0 t (omega arith))

-- Contents by their places.
use Rattle.std.proofs.lemmas.Bool.{true≢false}
use Rattle.std.proofs.Common.{◌≡◌, ◌<◌, ℕ, zero, suc, List, [], ◌∷◌, ◌++◌, Option, Some, None, MatchOption, length, slice_get, Bool, true, false, ◌||◌, ◌↔◌, ◌⊎◌, ⊎_elim, inl, inr, refl, sym, ap, ◌∙◌, arith}
use Rattle.std.specs.List.{list_any}
use Rattle.std.specs.Str.{bytes_eq}
use Rattle.std.proofs.lemmas.Slice.Eq.{bytes_eq-Decides}
use Rattle.lsm_store.specs.Held.{IsOneOf, MayLack, content, IsPlace, GivesOrLacks}
use Rattle.lsm_store.specs.declared.mem_store.file.Absence.{Absence}

-- what stands at a place is one of the contents
pub one_at : (bs : List (List ℕ)) (k : ℕ) (b : List ℕ) → slice_get bs k ≡ Some b → IsOneOf bs (Some b)
one_at [] k b is = cc
one_at (x ∷ bs) zero b is = inl (sym is)
one_at (x ∷ bs) (suc k) b is = inr (one_at bs k b is)

one_found : (bs : List (List ℕ)) (k : ℕ) → k < length bs → (o : Option (List ℕ)) → slice_get bs k ≡ o → (a : Absence) → MatchOption o (MayLack a) (λ b. IsOneOf bs (Some b))
one_found bs k lt (Some b) is a = one_at bs k b is
one_found [] k lt None is a = absurd (omega arith)
one_found (x ∷ bs) zero lt None is a = cc
one_found (x ∷ bs) (suc k) lt None is a = absurd (found bs k (omega arith) is)
  where
    found : (bs : List (List ℕ)) (k : ℕ) → k < length bs → slice_get bs k ≡ None → ⊥
    found [] k lt is = omega arith
    found (x ∷ bs) zero lt is = cc
    found (x ∷ bs) (suc k) lt is = found bs k (omega arith) is

-- what reads give is among the contents, or absence may be left
pub given_whole : (given : Option ℕ) (vs : List (List ℕ)) (a : Absence) → IsPlace given (length vs) → GivesOrLacks given a → MatchOption (content given vs) (MayLack a) (λ b. IsOneOf vs (Some b))
given_whole None vs a place lacks = lacks
given_whole (Some k) vs a place lacks = one_found vs k place (slice_get vs k) refl a

-- one content more
get_more : (vs : List (List ℕ)) (v : List ℕ) (k : ℕ) → k < length vs → slice_get (vs ++ v ∷ []) k ≡ slice_get vs k
get_more [] v k lt = absurd (omega arith)
get_more (w ∷ vs) v zero lt = refl
get_more (w ∷ vs) v (suc k) lt = get_more vs v k (omega arith)

pub content_more : (vs : List (List ℕ)) (v : List ℕ) (at : Option ℕ) → IsPlace at (length vs) → content at (vs ++ v ∷ []) ≡ content at vs
content_more vs v None place = refl
content_more vs v (Some k) place = get_more vs v k place

pub content_last : (vs : List (List ℕ)) (v : List ℕ) → content (Some (length vs)) (vs ++ v ∷ []) ≡ Some v
content_last [] v = refl
content_last (w ∷ vs) v = content_last vs v

-- a content that is found among them
pub among : (vs : List (List ℕ)) (b : List ℕ) → (list_any (λ v. bytes_eq v b) vs ≡ true) ↔ IsOneOf vs (Some b)
among [] b = ((λ e. cc), (λ none. absurd none))
among (v ∷ vs) b = go (among vs b) (bytes_eq v b) refl
  where
    other : bytes_eq v b ≡ false → Some b ≡ Some v → ⊥
    other is same = let e : b ≡ v = cc in true≢false (sym ((bytes_eq-Decides v b).1 (sym e)) ∙ is)

    go : (list_any (λ v. bytes_eq v b) vs ≡ true) ↔ IsOneOf vs (Some b) → (s : Bool) → bytes_eq v b ≡ s
        → ((s || list_any (λ v. bytes_eq v b) vs) ≡ true) ↔ ((Some b ≡ Some v) ⊎ IsOneOf vs (Some b))
    go rest true is = ((λ _. inl (ap (λ l. Some l) (sym ((bytes_eq-Decides v b).0 is)))), (λ _. refl))
    go rest false is = ((λ e. inr (rest.0 e)), (λ one. ⊎_elim (λ same. absurd (other is same)) (λ more. rest.1 more) one))

-- What is left of a list, from a place on.
use Rattle.std.proofs.Common.{◌≡◌, ℕ, zero, suc, ◌+◌, ◌<◌, List, [], ◌∷◌, length, get_or, drop, ap, ◌∙◌, arith}

module _ {X : Type 0} where
  pub more_left : (xs : List X) (at : ℕ) (x : X) (rest : List X) → drop at xs ≡ x ∷ rest → at < length xs
  more_left [] zero x rest left = absurd (cc left)
  more_left [] (suc at) x rest left = absurd (cc left)
  more_left (y ∷ xs) zero x rest left = omega arith
  more_left (y ∷ xs) (suc at) x rest left = let lt = more_left xs at x rest left in omega arith

  pub next_is : (xs : List X) (at : ℕ) (x : X) (rest : List X) (d : X) → drop at xs ≡ x ∷ rest → x ≡ get_or xs at d
  next_is [] zero x rest d left = absurd (cc left)
  next_is [] (suc at) x rest d left = absurd (cc left)
  next_is (y ∷ xs) zero x rest d left = cc
  next_is (y ∷ xs) (suc at) x rest d left = next_is xs at x rest d left

  rest_is : (xs : List X) (at : ℕ) (x : X) (rest : List X) → drop at xs ≡ x ∷ rest → rest ≡ drop (suc at) xs
  rest_is [] zero x rest left = absurd (cc left)
  rest_is [] (suc at) x rest left = absurd (cc left)
  rest_is (y ∷ xs) zero x rest left = cc
  rest_is (y ∷ xs) (suc at) x rest left = rest_is xs at x rest left

  pub behind_is : (xs : List X) (at : ℕ) (x : X) (rest : List X) → drop at xs ≡ x ∷ rest → rest ≡ drop (at + 1) xs
  behind_is xs at x rest left = let next : suc at ≡ at + 1 = omega arith in rest_is xs at x rest left ∙ ap (λ k. drop k xs) next

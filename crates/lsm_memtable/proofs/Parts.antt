-- What two slices have between two places.
use Rattle.std.proofs.Common.{◌≡◌, ℕ, ◌+◌, ◌-◌, ◌≤◌, List, [], ◌++◌, length, take, drop, sym, ◌∙◌, ap, arith, append-nil, length-drop}
use Rattle.std.proofs.lemmas.List.{drop-append-le}
use Rattle.std.proofs.Math.Seq.{drop-append-add, take-append-add}

module _ {X : Type 0} (us ls : List X) (f t : ℕ) (order : f ≤ t) where
  pub in_second : length us ≤ f → take (t - length us - (f - length us)) (drop (f - length us) ls) ++ [] ≡ take (t - f) (drop f (us ++ ls))
  in_second ge =
      let at : f ≡ length us + (f - length us) = omega arith in
      let count : t - length us - (f - length us) ≡ t - f = omega arith in
      append-nil (take (t - length us - (f - length us)) (drop (f - length us) ls))
      ∙ (ap (λ n. take n (drop (f - length us) ls)) count
      ∙ sym (ap (λ n. take (t - f) (drop n (us ++ ls))) at ∙ ap (λ l. take (t - f) l) (drop-append-add us ls (f - length us))))

  pub in_both : f ≤ length us → length us ≤ t → drop f us ++ take (t - length us) ls ≡ take (t - f) (drop f (us ++ ls))
  in_both le ge =
      let count : t - f ≡ length (drop f us) + (t - length us) = omega (arith, length-drop f us) in
      sym (ap (λ l. take (t - f) l) (drop-append-le f us ls le)
      ∙ (ap (λ n. take n (drop f us ++ ls)) count ∙ take-append-add (drop f us) ls (t - length us)))

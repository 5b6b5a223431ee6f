-- What stands at the ends of an iterator.
use Rattle.std.proofs.Common.{◌≡◌, ◌+◌, ◌-◌, ◌<◌, List, [], ◌∷◌, ◌++◌, length, take, sym, ◌∙◌, ap, arith, append_assoc, length-append}
use Rattle.std.proofs.Math.Seq.{take-append-add}

module _ {X : Type 0} where
  -- the last one of the last part is left out
  pub last_dropped : (A B C : List X) → 0 < length C → A ++ (B ++ take (length C - 1) C) ≡ take (length (A ++ (B ++ C)) - 1) (A ++ (B ++ C))
  last_dropped A B C some =
      let far : length (A ++ (B ++ C)) - 1 ≡ length A + (length B + (length C - 1)) = omega (arith, length-append A (B ++ C), length-append B C, some) in
      sym (ap (λ k. take k (A ++ (B ++ C))) far ∙ (take-append-add A (B ++ C) (length B + (length C - 1)) ∙ ap (λ l. A ++ l) (take-append-add B C (length C - 1))))

  -- the last one of the last part is the last one
  pub last_seen : (A B C : List X) (h : X) → C ≡ take (length C - 1) C ++ h ∷ [] → A ++ (B ++ C) ≡ take (length (A ++ (B ++ C)) - 1) (A ++ (B ++ C)) ++ h ∷ []
  last_seen A B C h is =
      let D = take (length C - 1) C in
      let some : 0 < length C = let n = ap (λ (l : List X). length l) is in omega (arith, n, length-append D (h ∷ [])) in
      ap (λ l. A ++ (B ++ l)) is ∙ (ap (λ l. A ++ l) (sym (append_assoc B D (h ∷ []))) ∙ (sym (append_assoc A (B ++ D) (h ∷ [])) ∙ ap (λ l. l ++ h ∷ []) (last_dropped A B C some)))

-- Where bounds part entries.
use Rattle.std.proofs.Common.{◌≡◌, ℕ, ◌-◌, List, take, drop, min, ◌∙◌, ap, arith, inl, inr}
use Rattle.std.proofs.lemmas.Bool.{cases_lt}
use Rattle.lsm_below.specs.Entries.{Entry}

pub part_from_min : (es : List Entry) (s e : ℕ) → take (e - min s e) (drop (min s e) es) ≡ take (e - s) (drop s es)
part_from_min es s e = elim (cases_lt e s) [
  | inl less ↦
      let at : e - min s e ≡ 0 = omega arith in
      let none : 0 ≡ e - s = omega arith in
      ap (λ n. take n (drop (min s e) es)) at ∙ ap (λ n. take n (drop s es)) none
  | inr ge ↦
      let same : min s e ≡ s = omega arith in
      ap (λ n. take (e - n) (drop n es)) same
]

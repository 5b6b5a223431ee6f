-- The greatest of the fractions so far.
use Rattle.std.proofs.Common.{◌≡◌, ℕ, suc, ◌+◌, ◌*◌, ◌<◌, ◌≤◌, arith, subst, ⊎_elim, Bool, false, IsTrue, ◌↔◌, sym, ◌∙◌}
use Rattle.std.proofs.lemmas.Bool.{cases_lt, false≢true}
use Rattle.std.proofs.Math.Nat.{mul-le-mul_left}
use Rattle.lsm_pick.specs.declared.leveled.scores.Score.{Score}
use Rattle.lsm_pick.specs.Leveled.{IsAtMost, IsUnder, IsBest}

-- a/b is at most c/d, which is at most e/f
chain : (a b c d e f : ℕ) → 0 < d → a * d ≤ c * b → c * f ≤ e * d → a * f ≤ e * b
chain a b c d e f some low high =
    ⊎_elim (λ over.
    let one = mul-le-mul_left f low in
    let two = mul-le-mul_left b high in
    let gap : suc (e * b) ≤ a * f = omega (arith, over) in
    let three = mul-le-mul_left d gap in
    absurd (omega (arith, one, two, three, some)))
    (λ fits. fits) (cases_lt (e * b) (a * f))

pub best_takes :
    (scores : ℕ → Score) (i best : ℕ) → 0 < (scores best).bottom → IsBest scores i best →
    IsAtMost (scores best) (scores i) → IsBest scores (i + 1) i
best_takes scores i best some is_best more = (
  omega arith,
  (λ k h. ⊎_elim
      (λ below. chain _ _ _ _ _ _ some (is_best.1 k below) more)
      (λ above. let e : i ≡ k = omega arith in subst (λ (x : ℕ). IsAtMost (scores x) (scores i)) e (omega arith))
      (cases_lt k i)),
  (λ k h g. absurd (omega arith)),
)

pub best_keeps :
    (scores : ℕ → Score) (i best : ℕ) → IsBest scores i best →
    IsUnder (scores i) (scores best) → IsBest scores (i + 1) best
best_keeps scores i best is_best less = (
  omega arith,
  (λ k h. ⊎_elim
      (λ below. is_best.1 k below)
      (λ above. let e : i ≡ k = omega arith in subst (λ (x : ℕ). IsAtMost (scores x) (scores best)) e (omega arith))
      (cases_lt k i)),
  (λ k h g. ⊎_elim
      (λ below. is_best.2 k h below)
      (λ above. let e : i ≡ k = omega arith in subst (λ (x : ℕ). IsUnder (scores x) (scores best)) e less)
      (cases_lt k i)),
)

-- a test that says no
pub under_from_not :
    (a b : Score) (r : Bool) → (IsTrue r ↔ IsAtMost a b) → r ≡ false → IsUnder b a
under_from_not a b r says refused =
    ⊎_elim (λ less. less)
    (λ more. absurd (false≢true (sym refused ∙ (says.1 more))))
    (cases_lt (b.top * a.bottom) (a.top * b.bottom))

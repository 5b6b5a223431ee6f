use Rattle.std.proofs.Common.{◌≡◌, ℕ, false, nat_lt, List, [], ◌∷◌, refl, sym, subst, arith}
use Rattle.std.proofs.lemmas.Bool.Decides.{nat_tests}
use Rattle.lsm_below.specs.Entries.{Entry}
use Rattle.lsm_below.specs.Kept.{HidesNone}
use Rattle.lsm_flush.proofs.merging.hides_none.Goals as goal

-- no number is below 0
none_below : (n : ℕ) → nat_lt n 0 ≡ false
none_below n = grind (arith, nat_tests)

hides_none_at_0 : (es : List Entry) → HidesNone 0 es
hides_none_at_0 [] = tt
hides_none_at_0 (e ∷ []) = tt
hides_none_at_0 (e ∷ (f ∷ es)) = (rw (none_below f.key.seqno) refl, hides_none_at_0 (f ∷ es))

pub returns-then-watermark-eq0 : goal.returns-then-watermark-eq0
returns-then-watermark-eq0 c = (λ yes. subst (λ w. HidesNone w c.args.entries) (sym c.if-watermark-eq0.true) (hides_none_at_0 c.args.entries), λ none. refl)

use Rattle.std.proofs.Common.{◌≡◌, ℕ, suc, ◌+◌, ◌*◌, ◌%◌, ◌/◌, ◌^◌, sym, ap, ◌∙◌, arith}
use Rattle.std.proofs.Math.Nat.{pow-suc}
use Rattle.std.proofs.lemmas.Nat.{mul-mod_first}
use Rattle.lsm_tables.specs.Sum.{prime}
use Rattle.lsm_tables.proofs.SumParts.{square_is}
use Rattle.lsm_tables.proofs.checksum.+power.Goals as goal

pub returns-then-n-eq0-2 : goal.returns-then-n-eq0-2
returns-then-n-eq0-2 t c =
    let h : ℕ = c.args.n / 2 in
    let twice : h + h ≡ c.args.n = omega arith in
    ap (λ (k : ℕ). (k * k) % 2 ^ 128) c.power-half.ensures ∙ square_is (2 ^ 128) prime h ∙ ap (λ (k : ℕ). prime ^ k % 2 ^ 128) twice

pub returns-else-n-eq0-2 : goal.returns-else-n-eq0-2
returns-else-n-eq0-2 t c =
    let h : ℕ = c.args.n / 2 in
    let twice : suc (h + h) ≡ c.args.n = omega arith in
    ap (λ (k : ℕ). ((k * k) % 2 ^ 128 * prime) % 2 ^ 128) c.power-half.ensures
    ∙ ap (λ (k : ℕ). (k * prime) % 2 ^ 128) (square_is (2 ^ 128) prime h)
    ∙ mul-mod_first (prime ^ (h + h)) prime (2 ^ 128)
    ∙ ap (λ (k : ℕ). k % 2 ^ 128) (sym (pow-suc prime (h + h)))
    ∙ ap (λ (k : ℕ). prime ^ k % 2 ^ 128) twice

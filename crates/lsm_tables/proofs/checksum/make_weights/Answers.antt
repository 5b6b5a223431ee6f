use Rattle.std.proofs.Common.{◌≡◌, ℕ, ◌+◌, ◌*◌, ◌%◌, ◌^◌, ◌<◌, ◌≢◌, List, length, get_or, set, arith, get_or-set_other, get_or-set_same, below_more, refl, ◌∙◌}
use Rattle.std.proofs.lemmas.List.{length-set}
use Rattle.lsm_tables.specs.Sum.{prime}
use Rattle.lsm_tables.proofs.checksum.make_weights.Goals as goal

-- what holds below a place holds below the next one, where the place is set so
set_more : (t : List ℕ) (i v : ℕ) (f : ℕ → ℕ) → i < length t → v ≡ f i → ((b : ℕ) → b < i → get_or t b 0 ≡ f b) → (b : ℕ) → b < i + 1 → get_or (set t i v) b 0 ≡ f b
set_more t i v f lt is below = below_more (λ b. get_or (set t i v) b 0 ≡ f b) i (λ b h. let ne : b ≢ i = omega arith in rw get_or-set_other (below b h)) (rw get_or-set_same is)

pub loop-byte-preserved : goal.loop-byte-preserved
loop-byte-preserved c =
    let i = c.loop-byte.byte in
    let one_len = c.loop-byte.invariant.one_len in
    let two_len = c.loop-byte.invariant.two_len in
    let three_len = c.loop-byte.invariant.three_len in
    record {
      one_len = length-set c.loop-byte.one i _ ∙ one_len;
      two_len = length-set c.loop-byte.two i _ ∙ two_len;
      three_len = length-set c.loop-byte.three i _ ∙ three_len;
      one = set_more c.loop-byte.one i _ (λ b. (b + 1) * prime) (omega (arith, c.loop-byte-test.true)) refl c.loop-byte.invariant.one;
      two = set_more c.loop-byte.two i _ (λ b. (b + 1) * (prime * prime) % 2 ^ 128) (omega (arith, c.loop-byte-test.true)) refl c.loop-byte.invariant.two;
      three = set_more c.loop-byte.three i _ (λ b. (b + 1) * (prime * prime * prime) % 2 ^ 128) (omega (arith, c.loop-byte-test.true)) refl c.loop-byte.invariant.three;
    }

use Rattle.std.proofs.Common.{◌≡◌, ℕ, ◌++◌, ◌/◌, ◌*◌, ◌^◌, length, ap, ◌∙◌}
use Rattle.lsm_tables.specs.Sum.{prime, sum_of}
use Rattle.lsm_tables.proofs.Modular.{fold_last}
use Rattle.lsm_tables.proofs.SumParts.{joined_parts, cut, three_parts}
use Rattle.lsm_tables.proofs.checksum.sum_of_bytes.Goals as goal

pub returns : goal.returns
returns c =
    let s = c.args.bytes.now in
    let half : ℕ = length c.args.bytes.now / 8 * 4 in
    let first = c.split_at.result.0.now in
    let second = c.split_at-2.result.0.now in
    let last = c.split_at-2.result.1.now in
    let sums = c.both_sums-first in
    let sum : c.joined-sum.result ≡ sum_of (first ++ second) = c.joined-sum.ensures ∙ joined_parts first second _ _ _ half sums.ensures.first sums.ensures.second c.power.ensures c.split_at-2.ensures.front_len in
    let whole = three_parts s first second last c.split_at.result.1.now
    (cut half s first _ c.split_at.ensures.front c.split_at.ensures.back)
    (cut half _ second _ c.split_at-2.ensures.front c.split_at-2.ensures.back) in
    c.sum_on.ensures ∙ fold_last (2 ^ 128) prime c.joined-sum.result (first ++ second) last sum ∙ ap sum_of whole

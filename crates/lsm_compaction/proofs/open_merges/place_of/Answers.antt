use Rattle.std.proofs.Common.{◌≡◌, eqb, false, rules, tests}
use Rattle.std.proofs.lemmas.Iterator.{IsFirst-from_position, YieldsList-from_slice}
use Rattle.lsm_compaction.proofs.Hiding.{found_place}
use Rattle.lsm_compaction.proofs.open_merges.place_of.Goals as goal

pub returns : goal.returns
returns c =
    let n = c.args.number in
    let ms = c.args.merges.now in
    found_place n ms c.position.result (IsFirst-from_position _ _ c.position.result (λ m. m.number ≡ n) (λ m. eqb m.number n ≡ false) c.position.ensures.ran (YieldsList-from_slice ms cc) (λ x q k. search (rules, tests)) (λ x q k. search (rules, tests)))

use Rattle.std.proofs.Common.{rules, tests}
use Rattle.std.proofs.lemmas.Iterator.{cases_from_any, YieldsList-from_slice}
use Rattle.lsm_compaction.specs.OpenMerges.{IsMergeOf}
use Rattle.lsm_compaction.proofs.Hiding.{found_open}
use Rattle.lsm_compaction.proofs.open_merges.OpenMerges.is_open.Goals as goal

pub returns : goal.returns
returns c =
    let job = c.args.job.now in
    let ms = c.args.self.now.underway in
    found_open job ms c.any.result (cases_from_any _ _ c.any.result (λ m. IsMergeOf job m) (λ m. IsMergeOf job m → ⊥) c.any.ensures.ran (YieldsList-from_slice ms cc) (λ x q k. search (rules, tests)) (λ x q k. search (rules, tests)))

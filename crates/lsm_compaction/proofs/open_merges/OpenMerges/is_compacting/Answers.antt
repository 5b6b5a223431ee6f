use Rattle.std.proofs.Common.{ℕ, ◌∙◌, ap, length, eqb, List}
use Rattle.lsm_compaction.specs.OpenMerges.{SeenMerges, hides}
use Rattle.lsm_compaction.proofs.Hiding.{in_use}
use Rattle.lsm_compaction.proofs.open_merges.OpenMerges.is_compacting.Goals as goal

pub returns : goal.returns
returns c =
    in_use c.self.inside.state c.args.self.now.underway c.is_empty.result (λ i. c.self.invariant.0.exact i ∙ ap (λ (ms : SeenMerges). hides ms.underway i) c.self.view_is) (c.is_empty.ensures ∙ ap (λ (ids : List ℕ). eqb (length ids) 0) c.hidden_set.ensures)

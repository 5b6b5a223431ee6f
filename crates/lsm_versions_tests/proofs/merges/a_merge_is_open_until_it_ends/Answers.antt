use Rattle.std.proofs.Common.{◌≡◌, true, false, refl, ◌∙◌, ap, rules}
use Rattle.lsm_compaction.specs.OpenMerges.{SeenMerges, hides}
use Rattle.lsm_model.specs.Steps.{among}
use Rattle.lsm_versions_tests.proofs.merges.a_merge_is_open_until_it_ends.Goals as goal

pub open-requires-2 : goal.open-requires-2
open-requires-2 g c = record {
  free = λ i h.
      let is_disjoint : c.is_disjoint.result ≡ true = search rules in
      let apart : among c.in_ok-first.first.keys i ≡ false = c.is_disjoint.ensures.0 is_disjoint i h in
      ap (λ (ms : SeenMerges). hides ms.underway i) c.in_ok-open.ensures.ok ∙ rw c.new-merges.ensures (rw apart refl);
}

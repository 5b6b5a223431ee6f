use Rattle.std.proofs.Common.{subst}
use Rattle.lsm_below.specs.Entries.{entry_cmp}
use Rattle.lsm_below.specs.Sorted.{Rises}
use Rattle.lsm_iter.specs.Shown.{by_key}
use Rattle.lsm_iter.proofs.Tops.{rises_tops}
use Rattle.lsm_iter.proofs.Rises.{rises_range}
use Rattle.lsm_iter.proofs.trim.Trim.facts.Goals as goal

pub returns : goal.returns
returns c =
    let t = c.self.inside in
    subst (Rises by_key) c.self.view_is (rises_tops t.below _ (rises_range entry_cmp t.table.entries t.low t.high c.facts.ensures.table.rises))

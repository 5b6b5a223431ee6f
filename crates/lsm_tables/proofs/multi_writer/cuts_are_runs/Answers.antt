use Rattle.std.proofs.Common.{subst, sym}
use Rattle.lsm_below.specs.Entries.{entry_cmp}
use Rattle.lsm_below.specs.Sorted.{Rises}
use Rattle.lsm_tables.proofs.CutRuns.{lists_run}
use Rattle.lsm_tables.proofs.multi_writer.cuts_are_runs.Goals as goal

pub returns : goal.returns
returns c = λ target es tables rises cut.
    lists_run c.keys_are_ordered.ensures c.entries_are_ordered.ensures tables (subst (Rises entry_cmp) (sym cut.whole) rises) cut.some cut.apart

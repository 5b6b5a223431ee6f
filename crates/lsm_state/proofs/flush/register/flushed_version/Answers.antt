use Rattle.std.proofs.Common.{◌++◌, subst}
use Rattle.std.specs.List.Sorted.{IsPermutation}
use Rattle.lsm_versions.specs.Levels.{all_of}
use Rattle.lsm_state.proofs.Comparing.{tables_kept}
use Rattle.lsm_state.proofs.flush.register.flushed_version.Goals as goal

pub returns-clause-tables : goal.returns-clause-tables
returns-clause-tables c =
    let latest = c.args.latest.now.version in
    let next = c.in_ok-version.version in
    subst (λ ts. IsPermutation (ts ++ all_of latest.levels) (all_of next.levels)) c.tables-tables.ensures
    (tables_kept c.tables-tables.result.now c.passed.result latest next c.changes_keep_tables.ensures c.facts.ensures.is c.in_ok-version.ensures.ok)

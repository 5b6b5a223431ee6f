use Rattle.std.proofs.Common.{rules, arith}
use Rattle.lsm_tables.proofs.Counting.{count_bound, reclaimable_bound, fits_one_more}
use Rattle.lsm_below.specs.Entries.{is_tombstone_type, is_weak, Entry}
use Rattle.lsm_tables.proofs.table.counts.with_entry.Goals as goal

pub overflow_add-result : goal.overflow_add-result
overflow_add-result c =
    let b = count_bound (λ (e : Entry). is_tombstone_type e.key.value_type) c.args.behind.now in
    let h = fits_one_more _ _ _ _ c.one_if.ensures c.requires.counts.tombstones b c.requires.room in
    omega arith

pub overflow_add-result-2 : goal.overflow_add-result-2
overflow_add-result-2 c =
    let b = count_bound is_weak c.args.behind.now in
    let h = fits_one_more _ _ _ _ c.one_if-2.ensures c.requires.counts.weak b c.requires.room in
    search (rules, arith)

pub overflow_add-result-3 : goal.overflow_add-result-3
overflow_add-result-3 c =
    let h = fits_one_more _ _ _ _ c.one_if-3.ensures c.requires.counts.reclaimable (reclaimable_bound c.args.behind.now) c.requires.room in
    grind (arith)

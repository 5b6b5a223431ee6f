use Rattle.std.proofs.Common.{rules, tests}
use Rattle.std.proofs.lemmas.List.Sorted.{IsPartitionPoint-from_clause}
use Rattle.lsm_below.specs.Slots.{same_key}
use Rattle.lsm_iter.proofs.Trims.{group_parted, group_found, group_some}
use Rattle.lsm_iter.proofs.trim.far_group_len.Goals as goal

pub returns : goal.returns
returns c =
    let es = c.args.entries.now in
    let g = c.index-entries-0.result in
    let parted =
    IsPartitionPoint-from_clause (same_key g) es c.partition_point.result c.partition_point.ensures.partitioned (group_parted c.entries_are_ordered.ensures es g c.requires.some c.requires.rises c.index-entries-0.is) (λ a r f called. search (rules, tests)) in
    record {
      some = group_some es g c.partition_point.result c.requires.some c.index-entries-0.is parted;
      inside = c.partition_point.ensures.bound;
      cut = λ e rest is. group_found es rest e g c.partition_point.result c.partition_point.ensures.bound is c.index-entries-0.is parted;
    }

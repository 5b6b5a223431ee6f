use Rattle.std.proofs.Common.{arith, subst, IsSome, ◌↔◌, ◌<◌, rules, tests, not, nat_lt}
use Rattle.std.proofs.lemmas.List.Sorted.{IsPartitionPoint-from_clause}
use Rattle.lsm_parts.specs.declared.version.super_version.SuperVersion.{SuperVersion}
use Rattle.lsm_parts.proofs.Histories.{above_first, found_at_point}
use Rattle.lsm_parts.proofs.version.super_version.bisect.Goals as goal

pub returns : goal.returns
returns c =
    let s = c.args.snapshot in
    let xs = c.args.older.now.items in
    let point = IsPartitionPoint-from_clause (λ (sv : SuperVersion). not (nat_lt sv.seqno s)) xs c.partition_point-at.result c.partition_point-at.ensures.partitioned (above_first s c.requires.0 xs c.requires.1) (λ a r f called. search (rules, tests)) in
    found_at_point (λ sv. nat_lt sv.seqno s) xs c.partition_point-at.result c.get.result point (omega arith) (subst (λ n. IsSome c.get.result ↔ (c.partition_point-at.result < n)) c.args.older.now.ok.0 c.get.ensures.variant) c.get.ensures.lookup

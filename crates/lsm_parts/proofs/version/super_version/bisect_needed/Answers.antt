use Rattle.std.proofs.Common.{◌<◌, ◌≤◌, not, length, nat_lt, sym, subst, ◌∙◌, arith, rules, tests}
use Rattle.std.proofs.lemmas.List.Sorted.{IsPartitionPoint-from_clause}
use Rattle.lsm_parts.specs.declared.version.super_version.SuperVersion.{SuperVersion}
use Rattle.lsm_parts.proofs.Histories.{above_first}
use Rattle.lsm_parts.proofs.Maintained.{needed_point, needed_end}
use Rattle.lsm_parts.proofs.version.super_version.bisect_needed.Goals as goal

pub returns-then-at-len : goal.returns-then-at-len
returns-then-at-len c =
    let w = c.args.watermark in
    let xs = c.args.older.now.items in
    let point = IsPartitionPoint-from_clause (λ (sv : SuperVersion). not (nat_lt sv.seqno w)) xs c.partition_point-at.result c.partition_point-at.ensures.partitioned (above_first w c.requires.0 xs c.requires.1) (λ a r f called. search (rules, tests)) in
    sym (needed_point w xs c.partition_point-at.result point (subst (λ n. c.partition_point-at.result < n) (c.len.ensures ∙ c.args.older.now.ok.0) c.if-at-len.true))

pub returns-else-at-len : goal.returns-else-at-len
returns-else-at-len c =
    let w = c.args.watermark in
    let xs = c.args.older.now.items in
    let point = IsPartitionPoint-from_clause (λ (sv : SuperVersion). not (nat_lt sv.seqno w)) xs c.partition_point-at.result c.partition_point-at.ensures.partitioned (above_first w c.requires.0 xs c.requires.1) (λ a r f called. search (rules, tests)) in
    let end : length xs ≤ c.partition_point-at.result = subst (λ n. n ≤ c.partition_point-at.result) (c.len.ensures ∙ c.args.older.now.ok.0) c.if-at-len.false in
    let within : c.partition_point-at.result ≤ length xs = omega arith in
    sym (needed_end w xs c.partition_point-at.result point end within)

use Rattle.std.proofs.Common.{refl, false, ◌≡◌, rules, tests, nat_lt, subst, sym, ◌∙◌, arith, length, ◌<◌}
use Rattle.std.proofs.lemmas.List.Sorted.{IsPartitionPoint-from_clause}
use Rattle.lsm_memtable.specs.Memtables.{SeenMemtable}
use Rattle.lsm_parts.proofs.Finding.{above_first, none_above, found, missed, past_end}
use Rattle.lsm_parts.proofs.memtables.find_sealed.Goals as goal

pub returns-in_err-memtable : goal.returns-in_err-memtable
returns-in_err-memtable c =
    let id = c.args.id in
    let xs = c.args.sealed.now.items in
    let at = c.partition_point-at.result in
    let point = IsPartitionPoint-from_clause (λ (t : SeenMemtable). nat_lt id t.id) xs at c.partition_point-at.ensures.partitioned (above_first id xs c.requires.0 c.requires.1) (λ a r f called. search (rules, tests)) in
    let past = past_end at _ (length xs) c.args.sealed.now.ok.0 (c.in_err-memtable.ensures.variant.1) in
    rw c.from_residual.ensures (sym (none_above id xs (λ k d low high. point.0 k d low (omega arith))))

pub returns-then-id : goal.returns-then-id
returns-then-id c =
    let id = c.args.id in
    let xs = c.args.sealed.now.items in
    let at = c.partition_point-at.result in
    let point = IsPartitionPoint-from_clause (λ (t : SeenMemtable). nat_lt id t.id) xs at c.partition_point-at.ensures.partitioned (above_first id xs c.requires.0 c.requires.1) (λ a r f called. search (rules, tests)) in
    found id xs at c.in_ok-memtable.memtable.now point.0 (subst (λ n. at < n) c.args.sealed.now.ok.0 (c.in_ok-memtable.ensures.variant.0 refl)) c.in_ok-memtable.ensures.lookup (sym c.id.ensures ∙ c.if-id.true)

pub returns : goal.returns
returns c =
    let id = c.args.id in
    let xs = c.args.sealed.now.items in
    let at = c.partition_point-at.result in
    let point = IsPartitionPoint-from_clause (λ (t : SeenMemtable). nat_lt id t.id) xs at c.partition_point-at.ensures.partitioned (above_first id xs c.requires.0 c.requires.1) (λ a r f called. search (rules, tests)) in
    let t = c.in_ok-memtable.memtable.now in
    let lt = subst (λ n. at < n) c.args.sealed.now.ok.0 (c.in_ok-memtable.ensures.variant.0 refl) in
    sym (missed id xs c.requires.0 at t c.requires.1 point.0 lt c.in_ok-memtable.ensures.lookup
    (subst (λ u. nat_lt id u.id ≡ false) (sym c.in_ok-memtable.ensures.lookup) (point.1 at t (omega arith) lt))
    (λ same. c.if-id.false (c.id.ensures ∙ same)))

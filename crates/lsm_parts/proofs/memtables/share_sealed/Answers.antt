use Rattle.std.proofs.Common.{◌≡◌, ◌<◌, refl, false, Some, rules, tests, nat_lt, subst, sym, ap, ◌∙◌, arith, length}
use Rattle.std.proofs.lemmas.Result.{IfOk-weaker}
use Rattle.std.proofs.lemmas.List.Sorted.{IsPartitionPoint-from_clause}
use Rattle.lsm_memtable.specs.Memtables.{SeenMemtable}
use Rattle.lsm_parts.specs.Held.{held_at}
use Rattle.lsm_parts.proofs.Finding.{above_first, none_above, found_there, past_end, is_there}
use Rattle.lsm_parts.proofs.memtables.share_sealed.Goals as goal

pub unreachable-requires : goal.unreachable-requires
unreachable-requires c =
    let id = c.args.id in
    let xs = c.args.sealed.now.items in
    let at = c.partition_point-at.result in
    let point = IsPartitionPoint-from_clause (λ (t : SeenMemtable). nat_lt id t.id) xs at c.partition_point-at.ensures.partitioned (above_first id xs c.requires.falls.0 c.requires.falls.1) (λ a r f called. search (rules, tests)) in
    let past = past_end at _ (length xs) c.args.sealed.now.ok.0 (c.in-None.ensures.variant.1) in
    let none = none_above id xs (λ k d low high. point.0 k d low (omega arith)) in
    is_there (held_at xs id) none c.requires.there

pub returns-clause-ok : goal.returns-clause-ok
returns-clause-ok c =
    let id = c.args.id in
    let xs = c.args.sealed.now.items in
    let at = c.partition_point-at.result in
    let point = IsPartitionPoint-from_clause (λ (t : SeenMemtable). nat_lt id t.id) xs at c.partition_point-at.ensures.partitioned (above_first id xs c.requires.falls.0 c.requires.falls.1) (λ a r f called. search (rules, tests)) in
    let t = c.in-Some.memtable.now in
    let lt = subst (λ n. at < n) c.args.sealed.now.ok.0 (c.in-Some.ensures.variant.0 refl) in
    let is = c.in-Some.ensures.value in
    let low = subst (λ u. nat_lt id u.id ≡ false) (sym is) (point.1 at t (omega arith) lt) in
    let here = found_there id xs c.requires.falls.0 at t c.requires.falls.1 point.0 lt is low c.requires.there in
    IfOk-weaker c.share.result (λ s. s ≡ t) (λ m. held_at xs id ≡ Some m) (λ s e. here ∙ ap Some (sym e)) c.share.ensures.ok

use Rattle.std.proofs.Common.{◌≤◌, ◌∷◌, ap, subst, sym, ◌∙◌, rules, tests, nat_le}
use Rattle.std.proofs.lemmas.List.Sorted.{IsPartitionPoint-from_clause}
use Rattle.lsm_tables.specs.Cutting.{IsWritable}
use Rattle.lsm_memtable.specs.Memtables.{SeenMemtable}
use Rattle.lsm_parts.specs.Held.{HasFirst}
use Rattle.lsm_parts.specs.Held.{from_id}
use Rattle.lsm_parts.proofs.Holding.{from_first, taken_from, from_active, all_taken, fall_taken}
use Rattle.lsm_parts.proofs.memtables.Memtables.forget_before.Goals as goal

pub invariant_of-self : goal.invariant_of-self
invariant_of-self c =
    let i = c.self.inside in
    let xs = i.sealed.items in
    let k = c.partition_point-kept.result in
    rw c.truncate.ensures.items ((c.self.invariant.0.0, all_taken (λ t. IsWritable t.entries) xs k c.self.invariant.0.1), fall_taken xs i.active.id k c.self.invariant.1)

pub returns : goal.returns
returns c =
    let i = c.self.inside in
    let id = c.args.id in
    let xs = i.sealed.items in
    let k = c.partition_point-kept.result in
    let point = IsPartitionPoint-from_clause (λ (t : SeenMemtable). nat_le id t.id) xs k c.partition_point-kept.ensures.partitioned (from_first id xs i.active.id c.self.invariant.1) (λ a r f called. search (rules, tests)) in
    let first = subst (λ ts. HasFirst ts (λ t. id ≤ t.id)) (sym c.self.view_is) c.requires in
    ap (λ l. i.active ∷ l) (c.truncate.ensures.items ∙ taken_from id xs k point) ∙ from_active id i.active xs first ∙ ap (from_id id) c.self.view_is

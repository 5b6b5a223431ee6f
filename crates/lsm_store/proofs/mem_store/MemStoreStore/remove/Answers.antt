use Rattle.std.proofs.Common.{None, ap, subst, ◌≡◌}
use Rattle.lsm_store.specs.World.{OldOr, Changes}
use Rattle.lsm_store.specs.Plans.{answer_of}
use Rattle.lsm_store.specs.Held.{removed}
use Rattle.lsm_store.specs.Files.{Alters}
use Rattle.lsm_store.specs.Memory.{MemStore, memory_world, world_of, may_of}
use Rattle.lsm_store.proofs.MemoryCalls.{brought, took_away}
use Rattle.lsm_store.proofs.mem_store.MemStoreStore.remove.Goals as goal

pub returns-clause-changes : goal.returns-clause-changes
returns-clause-changes c =
    let begun : c.begin.new.self ≡ c.args.self.now = c.in_ok-outcome.ensures.ok.2 in
    let name = c.args.name.now in
    let was = c.begin.new.self in
    let new = c.answer.new.self in
    let mid = c.remove_file.new.files in
    let o = c.in_ok-outcome.outcome in
    let alters = subst (λ gone. Alters name (removed gone) was.files mid) c.has_effect.ensures c.remove_file.ensures.is in
    subst (λ (m : MemStore). Changes name (OldOr (may_of m.files name) None) (OldOr (may_of m.files name) None) None (world_of m) (world_of new) c.answer.result) begun (
    brought (λ fs ps r. Changes name (OldOr (may_of was.files name) None) (OldOr (may_of was.files name) None) None (memory_world was.files was.past.items was.failures) (memory_world fs ps new.failures) r) new.files mid new.past.items was.past.items c.answer.result (answer_of o)
    c.answer.ensures.files (ap (λ v. v.items) c.answer.ensures.past) c.answer.ensures.result
    (took_away name was.files mid was.past.items was.failures new.failures o c.in_ok-outcome.ensures.ok.1 c.remove_file.ensures.whole alters))

use Rattle.std.proofs.Common.{Some, ap, ◌≡◌, subst}
use Rattle.lsm_store.specs.World.{Anything, Changes}
use Rattle.lsm_store.specs.Plans.{answer_of}
use Rattle.lsm_store.specs.Memory.{MemStore, memory_world, world_of}
use Rattle.lsm_store.proofs.MemoryCalls.{brought, wrote}
use Rattle.lsm_store.proofs.mem_store.MemStore.write_content.Goals as goal

pub returns-clause-changes : goal.returns-clause-changes
returns-clause-changes c =
    let begun : c.begin.new.self ≡ c.args.self.now = c.in_ok-outcome.ensures.ok.2 in
    let name = c.args.name.now in
    let b = c.args.content in
    let was = c.begin.new.self in
    let new = c.answer.new.self in
    let mid = c.write_by.new.files in
    let o = c.in_ok-outcome.outcome in
    subst (λ (m : MemStore). Changes name Anything Anything (Some b) (world_of m) (world_of new) c.answer.result) begun (
    brought (λ fs ps r. Changes name Anything Anything (Some b) (memory_world was.files was.past.items was.failures) (memory_world fs ps new.failures) r) new.files mid new.past.items was.past.items c.answer.result (answer_of o)
    c.answer.ensures.files (ap (λ v. v.items) c.answer.ensures.past) c.answer.ensures.result
    (wrote name was.files mid was.past.items was.failures new.failures b o c.in_ok-outcome.ensures.ok.1 c.in_ok-write_by.ensures.ok))

use Rattle.std.proofs.Common.{◌≡◌, ap, subst, sym}
use Rattle.lsm_store.specs.World.{SettlesNames}
use Rattle.lsm_store.specs.Plans.{outcome_at, answer_of}
use Rattle.lsm_store.specs.Files.{Files, AltersEach}
use Rattle.lsm_store.specs.Memory.{MemStore, Past, memory_world, world_of, KeepsMoment, settled_by, EachHeldAs}
use Rattle.lsm_store.specs.declared.mem_store.plan.Outcome.{Outcome}
use Rattle.lsm_store.proofs.MemoryCalls.{brought, each_held_by}
use Rattle.lsm_store.proofs.MemorySettles.{settles_names}
use Rattle.lsm_store.proofs.mem_store.MemStoreStore.settle.Goals as goal

module _ (c : goal.After-answer) where
  abbrev was : MemStore
  was = c.begin.new.self

  abbrev end : Files
  end = c.settle_by.new.files

  abbrev o : Outcome
  o = c.in_ok-outcome.outcome

  begun : was ≡ c.args.self.now
  begun = c.in_ok-outcome.ensures.ok.2

  each : AltersEach (settled_by o) was.files end
  each = subst (λ (fs : Files). AltersEach (settled_by o) fs end) (ap (λ m. m.files) c.keep_moment.ensures.rest) c.settle_by.ensures

pub returns-clause-settles : goal.returns-clause-settles
returns-clause-settles c =
    let was = was c in
    let kept = c.keep_moment.new.self in
    let new = c.answer.new.self in
    let moment : KeepsMoment was.files was.files was.past.items kept.past.items = subst (λ (fs : Files). KeepsMoment fs was.files was.past.items kept.past.items) c.of-before.ensures (subst (λ (p : Past). KeepsMoment c.of-before.result.value was.files p kept.past.items) c.in_ok-try_reserve.ensures.items c.keep_moment.ensures.past) in
    subst (λ (m : MemStore). SettlesNames (world_of m) (world_of new) c.answer.result) (begun c) (
    brought (λ fs ps r. SettlesNames (memory_world was.files was.past.items was.failures) (memory_world fs ps new.failures) r) new.files (end c) new.past.items kept.past.items c.answer.result (answer_of (o c))
    c.answer.ensures.files (ap (λ v. v.items) c.answer.ensures.past) c.answer.ensures.result
    (settles_names was.files (end c) was.past.items kept.past.items was.failures new.failures moment (o c) c.in_ok-outcome.ensures.ok.1 (each c)))

pub returns-clause-held : goal.returns-clause-held
returns-clause-held c =
    let was = was c in
    let new = c.answer.new.self in
    let held : AltersEach (settled_by (o c)) was.files new.files = subst (λ (fs : Files). AltersEach (settled_by (o c)) was.files fs) (sym c.answer.ensures.files) (each c) in
    subst (λ (m : MemStore). EachHeldAs (settled_by (outcome_at c.args.self.now.plan 1)) m.files new.files c.answer.result) (begun c)
    (subst (λ x. EachHeldAs (settled_by x) was.files new.files c.answer.result) c.in_ok-outcome.ensures.ok.0 (each_held_by (settled_by (o c)) was.files new.files (o c) c.answer.result c.in_ok-outcome.ensures.ok.1 c.answer.ensures.result held))

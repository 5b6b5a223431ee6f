use Rattle.std.proofs.Common.{◌≡◌, ap, ◌∙◌, subst, sym, Some}
use Rattle.lsm_store.specs.World.{OldOr, Only, Changes}
use Rattle.lsm_store.specs.Plans.{answer_of, MovesOn, AsPlanned, outcome_at}
use Rattle.lsm_store.specs.Files.{Files, Alters}
use Rattle.lsm_store.specs.Memory.{MemStore, Past, memory_world, world_of, may_of, KeepsMoment, replaced_by, HeldAs}
use Rattle.lsm_store.proofs.MemoryCalls.{brought, put_in_place, held_by, planned_by}
use Rattle.lsm_store.proofs.mem_store.MemStoreStore.replace.Goals as goal

pub returns-clause-changes : goal.returns-clause-changes
returns-clause-changes c =
    let begun : c.begin.new.self ≡ c.args.self.now = c.in_ok-outcome.ensures.ok.2 in
    let name = c.args.name.now in
    let b = c.args.bytes.now in
    let was = c.begin.new.self in
    let end = c.replace_by.new.files in
    let kept = c.keep_moment.new.self in
    let new = c.answer.new.self in
    let o = c.in_ok-outcome.outcome in
    let at_end : new.files ≡ end = c.answer.ensures.files ∙ ap (λ m. m.files) c.keep_moment.ensures.rest in
    let alters : Alters name (replaced_by o b) was.files end = c.in_ok-replace_by.ensures.ok in
    let moment : KeepsMoment was.files end was.past.items kept.past.items = subst (λ (fs : Files). KeepsMoment fs end was.past.items kept.past.items) c.of-before.ensures (subst (λ (p : Past). KeepsMoment c.of-before.result.value end p kept.past.items) c.in_ok-try_reserve.ensures.items c.keep_moment.ensures.past) in
    subst (λ (m : MemStore). Changes name (OldOr (may_of m.files name) (Some b)) (Only (Some b)) (Some b) (world_of m) (world_of new) c.answer.result) begun (
    brought (λ fs ps r. Changes name (OldOr (may_of was.files name) (Some b)) (Only (Some b)) (Some b) (memory_world was.files was.past.items was.failures) (memory_world fs ps new.failures) r) new.files end new.past.items kept.past.items c.answer.result (answer_of o)
    at_end (ap (λ v. v.items) c.answer.ensures.past) c.answer.ensures.result
    (put_in_place name was.files end was.past.items kept.past.items was.failures new.failures moment b o c.in_ok-outcome.ensures.ok.1 c.in_ok-replace_by.ensures.whole alters))

pub returns-clause-held : goal.returns-clause-held
returns-clause-held c =
    let begun : c.begin.new.self ≡ c.args.self.now = c.in_ok-outcome.ensures.ok.2 in
    let name = c.args.name.now in
    let b = c.args.bytes.now in
    let was = c.begin.new.self in
    let new = c.answer.new.self in
    let o = c.in_ok-outcome.outcome in
    let at_end : new.files ≡ c.replace_by.new.files = c.answer.ensures.files ∙ ap (λ m. m.files) c.keep_moment.ensures.rest in
    let alters : Alters name (replaced_by o b) was.files new.files = subst (λ (fs : Files). Alters name (replaced_by o b) was.files fs) (sym at_end) c.in_ok-replace_by.ensures.ok in
    subst (λ (m : MemStore). HeldAs name (replaced_by (outcome_at c.args.self.now.plan 1) b) m.files new.files c.answer.result) begun (
    subst (λ x. HeldAs name (replaced_by x b) was.files new.files c.answer.result) c.in_ok-outcome.ensures.ok.0
    (held_by name (replaced_by o b) was.files new.files o c.answer.result c.in_ok-outcome.ensures.ok.1 c.answer.ensures.result alters))

pub returns-clause-planned : goal.returns-clause-planned
returns-clause-planned c =
    let begun : c.begin.new.self ≡ c.args.self.now = c.in_ok-outcome.ensures.ok.2 in
    let was = c.begin.new.self in
    let new = c.answer.new.self in
    let o = c.in_ok-outcome.outcome in
    let moves : MovesOn was.plan new.plan = subst (λ p. MovesOn p new.plan) (ap (λ m. m.plan) c.keep_moment.ensures.rest) c.answer.ensures.plan in
    subst (λ (m : MemStore). AsPlanned (outcome_at c.args.self.now.plan 1) m.plan new.plan c.answer.result) begun (
    subst (λ x. AsPlanned x was.plan new.plan c.answer.result) c.in_ok-outcome.ensures.ok.0 (planned_by was.plan new.plan o c.answer.result c.answer.ensures.result moves))

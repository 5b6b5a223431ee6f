use Rattle.std.proofs.Common.{◌≡◌, ap, ◌∙◌, subst, sym, ◌≢◌, OnOk, IsSome}
use Rattle.lsm_store.specs.World.{Anything, Only, Changes}
use Rattle.lsm_store.specs.Plans.{outcome_at, answer_of, MovesOn, AsPlanned}
use Rattle.lsm_store.specs.Held.{doubted}
use Rattle.lsm_store.specs.Files.{Files, Alters}
use Rattle.lsm_store.specs.Memory.{MemStore, Past, memory_world, world_of, gives_of, KeepsMoment, synced_by, ended_by, sync_outcome, HeldAs}
use Rattle.lsm_store.specs.declared.mem_store.plan.Outcome.{Outcome}
use Rattle.lsm_store.specs.declared.mem_store.plan.Outcome.TheVariants.{NothingDone}
use Rattle.lsm_store.proofs.MemoryCalls.{brought, made_durable, sync_ends, sync_comes, synced_there, held_by, planned_by, sync_does}
use Rattle.lsm_store.proofs.mem_store.MemStoreStore.sync.Goals as goal

module _ (c : goal.After-answer) where
  abbrev was : MemStore
  was = c.begin.new.self

  abbrev mid : Files
  mid = c.doubt_file.new.files

  abbrev end : Files
  end = c.end_by-ended.new.files

  abbrev new : MemStore
  new = c.answer.new.self

  abbrev o : Outcome
  o = c.in_ok-outcome.outcome

  abbrev e : Outcome
  e = c.end_by-ended.result

  abbrev planned : MemStore → Outcome
  planned m = sync_outcome (outcome_at c.args.self.now.plan 1) (gives_of m.files c.args.name.now)

  begun : was ≡ c.args.self.now
  begun = c.in_ok-outcome.ensures.ok.2

  at_end : c.keep_moment.new.self.files ≡ mid
  at_end = ap (λ m. m.files) c.keep_moment.ensures.rest

  in_call : Alters c.args.name.now doubted was.files mid
  in_call = c.in_ok-doubt_file.ensures.ok

  comes : e ≡ sync_outcome o (gives_of was.files c.args.name.now)
  comes = sync_comes c.args.name.now was.files mid o e in_call (c.end_by-ended.ensures.outcome ∙ ap (λ fs. sync_outcome o (gives_of fs c.args.name.now)) at_end)

  does : e ≢ NothingDone
  does is = sync_does o (gives_of was.files c.args.name.now) c.in_ok-outcome.ensures.ok.1 (sym comes ∙ is)

  alters : Alters c.args.name.now (synced_by e) was.files end
  alters = sync_ends c.args.name.now was.files mid end e does in_call (subst (λ (fs : Files). Alters c.args.name.now (ended_by e) fs end) at_end c.end_by-ended.ensures.is)

  as_planned : e ≡ planned was
  as_planned = comes ∙ ap (λ x. sync_outcome x (gives_of was.files c.args.name.now)) c.in_ok-outcome.ensures.ok.0

pub returns-clause-changes : goal.returns-clause-changes
returns-clause-changes c =
    let name = c.args.name.now in
    let was = was c in
    let mid = mid c in
    let new = new c in
    let kept = c.keep_moment.new.self in
    let moment : KeepsMoment was.files mid was.past.items kept.past.items = subst (λ (fs : Files). KeepsMoment fs mid was.past.items kept.past.items) c.of-before.ensures (subst (λ (p : Past). KeepsMoment c.of-before.result.value mid p kept.past.items) c.in_ok-try_reserve.ensures.items c.keep_moment.ensures.past) in
    subst (λ (m : MemStore). Changes name Anything (Only (gives_of m.files name)) (gives_of m.files name) (world_of m) (world_of new) c.answer.result) (begun c) (
    brought (λ fs ps r. Changes name Anything (Only (gives_of was.files name)) (gives_of was.files name) (memory_world was.files was.past.items was.failures) (memory_world fs ps new.failures) r) new.files (end c) new.past.items kept.past.items c.answer.result (answer_of (e c))
    c.answer.ensures.files (ap (λ v. v.items) c.answer.ensures.past) c.answer.ensures.result
    (made_durable name was.files mid (end c) was.past.items kept.past.items was.failures new.failures moment (e c) (does c) (in_call c) (alters c)))

pub returns-clause-held : goal.returns-clause-held
returns-clause-held c =
    let name = c.args.name.now in
    let was = was c in
    let new = new c in
    subst (λ (m : MemStore). HeldAs name (synced_by (planned c m)) m.files new.files c.answer.result) (begun c) (
    subst (λ x. HeldAs name (synced_by x) was.files new.files c.answer.result) (as_planned c)
    (held_by name (synced_by (e c)) was.files new.files (e c) c.answer.result (does c) c.answer.ensures.result (subst (λ (fs : Files). Alters name (synced_by (e c)) was.files fs) (sym c.answer.ensures.files) (alters c))))

pub returns-clause-planned : goal.returns-clause-planned
returns-clause-planned c =
    let was = was c in
    let new = new c in
    let moves : MovesOn was.plan new.plan = subst (λ p. MovesOn p new.plan) (ap (λ m. m.plan) c.keep_moment.ensures.rest) c.answer.ensures.plan in
    subst (λ (m : MemStore). AsPlanned (planned c m) m.plan new.plan c.answer.result) (begun c) (
    subst (λ x. AsPlanned x was.plan new.plan c.answer.result) (as_planned c) (planned_by was.plan new.plan (e c) c.answer.result c.answer.ensures.result moves))

pub returns-clause-there : goal.returns-clause-there
returns-clause-there c =
    subst (λ (m : MemStore). OnOk c.answer.result (IsSome (gives_of m.files c.args.name.now))) (begun c) (
    synced_there (gives_of (was c).files c.args.name.now) (o c) c.answer.result (c.answer.ensures.result ∙ ap answer_of (comes c)))

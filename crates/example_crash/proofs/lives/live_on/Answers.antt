use Rattle.std.proofs.Common.{◌≡◌, ℕ, length, take, sym, subst, ap}
use Rattle.lsm_runs.specs.Config.{Config}
use Rattle.lsm_runs.specs.Memory.{MemStore, world_of}
use Rattle.lsm_runs.specs.Ready.{IsReady}
use Rattle.lsm_runs.specs.Dropping.{allowed}
use Rattle.lsm_runs.specs.Lives.{LivesInOrder}
use Rattle.lsm_runs.specs.Slots.{at_first}
use Rattle.example_crash.specs.Single.{HasLived}
use Rattle.example_crash.proofs.HasLived.{OrderLaws, has_lived, ends_ready}
use Rattle.example_crash.proofs.lives.live_on.Goals as goal

pub returns-in-Ok-clause-lives : goal.returns-in-Ok-clause-lives
returns-in-Ok-clause-lives g c may allows m opens =
    let laws : OrderLaws = record { rising = c.rising_is_in_order.ensures; without = c.order_without_reads.ensures; bounded = c.numbers_are_bounded.ensures } in
    let told = c.in-Ok.taken.outcomes.items in
    let steps = take (length told) c.args.steps.now in
    let is = c.in-Ok.tree.store in
    let lives = subst (λ (n : ℕ). LivesInOrder (allowed may) world_of n m steps told c.args.store is) (ap (λ (f : Config). f.seqno) c.new.ensures) (c.in-Ok.ensures.lives may allows tt opens.ready m opens.stands) in
    let on = c.in-Ok.ensures.lives_on tt opens.ready m opens.stands in
    let ready = subst (λ (f : MemStore). IsReady (world_of f)) on.moments.ends (ends_ready world_of (record { store = on.first; stage = at_first on.old }) on.moments.points (on.moments.ready on.stored)) in
    subst (λ (s : MemStore). HasLived (allowed may) m c.args.store 0 steps told s) (sym c.into_store.ensures) (has_lived (allowed may) laws m c.args.store 0 steps told is lives c.in-Ok.ensures.causes ready)

pub returns-in-Err-clause-refused : goal.returns-in-Err-clause-refused
returns-in-Err-clause-refused g c m opens = c.in-Err.ensures.refused tt m opens.stands

use Rattle.std.proofs.Common.{subst}
use Rattle.lsm_logged.specs.Memory.{world_of}
use Rattle.lsm_logged.specs.Picks.{picked, Crashes}
use Rattle.example_log.proofs.Stores.{left_gives}
use Rattle.example_log.proofs.lives.write_and_crash.Goals as goal

pub returns : goal.returns
returns c =
    let store = c.in_ok-store.store in
    let left = c.in-Some.left in
    let image = picked store.files c.args.picks.now in
    let crashed = subst (Crashes store.files image) c.in-Some.is c.in_ok-left.ensures in
    c.in_ok-again.ensures c.args.ops.items (record {
      before = store;
      was = c.in_ok-store.ensures;
      may = left_gives (world_of store) (world_of left) image crashed.0 crashed.1.world;
      settles = λ n low. c.logs_can_be_settled.ensures.left left image n crashed.1.world;
    })

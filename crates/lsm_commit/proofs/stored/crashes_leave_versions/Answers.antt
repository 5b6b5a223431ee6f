use Rattle.lsm_commit.specs.Foreign.{passes_still}
use Rattle.lsm_commit.proofs.Images.{left_now}
use Rattle.lsm_commit.proofs.stored.crashes_leave_versions.Goals as goal

pub returns : goal.returns
returns g c = λ tells.
    let w = g.S.Store.world c.args.store.now in
    let only = g.met.S.Store.only_now tells c.args.store.now in
    record { leaves = λ versions written. left_now w versions written only; passes = passes_still w only }

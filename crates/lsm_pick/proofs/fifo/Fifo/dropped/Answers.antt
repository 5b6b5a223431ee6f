use Rattle.std.proofs.Common.{[], filter}
use Rattle.lsm_pick.specs.Fifo.{is_expired, fresh, over_of, surplus}
use Rattle.lsm_pick.proofs.IdSets.{adds_all}
use Rattle.lsm_pick.proofs.fifo.Fifo.dropped.Goals as goal

pub returns : goal.returns
returns c =
    let rule = c.args.self.now in
    let run = c.args.run.now in
    adds_all (filter (is_expired rule) run) (surplus (over_of rule run) [] (fresh rule run)) c.in_ok-ids.ids.keys c.push_over.new.ids.keys c.in_ok-ids.ensures c.in_ok-push_over.ensures

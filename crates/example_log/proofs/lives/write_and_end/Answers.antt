use Rattle.lsm_store.proofs.Memories.{gives_now}
use Rattle.example_log.proofs.lives.write_and_end.Goals as goal

pub returns : goal.returns
returns c =
    let store = c.in_ok-store.store in
    let was = c.in_ok-store.ensures in
    c.in_ok-again.ensures c.args.ops.items (record {
      before = store;
      was = was;
      may = gives_now store;
      settles = λ n low. c.logs_can_be_settled.ensures.kept store was.one.log n was.one.keeps low;
    })

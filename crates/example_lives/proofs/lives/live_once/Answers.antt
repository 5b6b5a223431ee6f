use Rattle.std.proofs.Common.{length, take, sym, ap, subst}
use Rattle.lsm_log_runs.specs.Memory.{MemStore, world_of}
use Rattle.lsm_runs.specs.Config.{Config}
use Rattle.lsm_log_runs.specs.Living.{LivesLogged}
use Rattle.lsm_runs.specs.Dropping.{allowed}
use Rattle.example_lives.proofs.Remembering.{is_want}
use Rattle.example_lives.proofs.lives.live_once.Goals as goal

pub returns-in-Ok : goal.returns-in-Ok
returns-in-Ok g c drops allows may =
    let replies = c.in-Ok.taken.replies.items in
    let steps = take (length replies) c.args.steps.now in
    let lives = c.in-Ok.ensures.lives tt drops allows may.read in (
      c.in-Ok.ensures.whole,
      subst (λ (s : MemStore). LivesLogged (allowed drops) world_of 0 steps replies c.args.store s) (sym c.into_store.ensures)
          (subst (λ from. LivesLogged (allowed drops) world_of from steps replies c.args.store c.in-Ok.tree.store) (ap (λ (f : Config). f.seqno) c.new.ensures) lives),
    )

pub returns-in-Err : goal.returns-in-Err
returns-in-Err g c drops allows may =
    (is_want (world_of c.args.store) (world_of c.in-Err.store) c.in-Err.error (c.in-Err.ensures.wants tt may) c.in-Err.ensures.counts, c.in-Err.ensures.opening tt may.read)

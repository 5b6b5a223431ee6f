use Rattle.std.proofs.lemmas.Result.{IfOk-weaker}
use Rattle.lsm_logged.specs.Memory.{world_of}
use Rattle.example_log.proofs.Reopened.{holds_batch}
use Rattle.example_log.proofs.Stores.{now_left, config}
use Rattle.example_log.proofs.lives.reopened.Goals as goal

pub returns : goal.returns
returns c = IfOk-weaker c.opened.result _ _ (λ t opens ops left.
    let was = left.was in
    let before = left.before in
    holds_batch world_of ops was.core (world_of before) was.one was.stored was.rest c.args.left config t opens (opens.takes tt).found left.may (now_left before (world_of c.args.left).gives left.may)
    c.tables_alone_stand.ensures c.replays_are_in_order.ensures c.versions_are_told_once.ensures.version (λ log image. c.images_have_logs.ensures before log image) c.records_are_those_read.ensures.found c.records_are_those_read.ensures.counted c.log_stays_sound.ensures c.every_crash_keeps_batches.ensures c.whole_is_logged.ensures c.logged_reads_are_right.ensures left.settles) c.opened.ensures

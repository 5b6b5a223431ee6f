use Rattle.std.proofs.Common.{◌^◌, ◌-◌, min, arith}
use Rattle.std.specs.FinMap.{empty}
use Rattle.lsm_runs.specs.Dropping.{allowed}
use Rattle.example_crash.specs.Survival.{steps_taken}
use Rattle.example_crash.proofs.Again.{opens_new, comes_ended, survives}
use Rattle.example_crash.proofs.Blames.{rises}
use Rattle.example_crash.proofs.Courses.{refused_new, refused_again}
use Rattle.example_crash.proofs.Orders.{usual_takes}
use Rattle.example_crash.proofs.lives.end_between.Goals as goal

pub returns-in-Err : goal.returns-in-Err
returns-in-Err g c may allows usual more_usual =
    refused_new c.crashes_settle.ensures.ready c.crashes_settle.ensures.stands c.images_stand_once.ensures.found c.args.store c.requires.new c.in-Err.refused.0 c.in-Err.refused.1 (c.in-Err.ensures.refused, c.in-Err.ensures.counts)

pub returns-in-Ok-live_on : goal.returns-in-Ok-live_on
returns-in-Ok-live_on g c may allows usual more_usual =
    let life = c.in-Ok.life in
    let after = c.in-Ok-live_on.after in
    let h = c.in-Ok.ensures.lives may allows empty (opens_new c.crashes_settle.ensures.ready c.crashes_settle.ensures.stands c.args.store c.requires.new) in
    let k = usual_takes h.lives.opened h.lives.counter c.args.first.now life.taken usual in
    let comes = comes_ended (allowed may) empty c.args.store 0 (steps_taken c.args.first.now life.taken) life.taken.outcomes.items life.store h k in
    let more = rises after.taken.outcomes.items life.store after.store (c.in-Ok-live_on.ensures.lives may allows comes.left comes.opens).causes in
    survives (allowed may) c.args.store 0 c.args.first.now life.taken life.store c.requires.new h k c.in-Ok.ensures.whole life.store comes 0 c.args.second.now after.taken after.store (c.in-Ok-live_on.ensures.lives may allows)
    (λ m l low. usual_takes l.lives.opened l.lives.counter c.args.second.now after.taken more_usual) c.in-Ok-live_on.ensures.whole after.store.failures (λ some. omega (arith, more, some))

pub returns-in-Err-live_on : goal.returns-in-Err-live_on
returns-in-Err-live_on g c may allows usual more_usual =
    let life = c.in-Ok.life in
    let h = c.in-Ok.ensures.lives may allows empty (opens_new c.crashes_settle.ensures.ready c.crashes_settle.ensures.stands c.args.store c.requires.new) in
    let k = usual_takes h.lives.opened h.lives.counter c.args.first.now life.taken usual in
    let comes = comes_ended (allowed may) empty c.args.store 0 (steps_taken c.args.first.now life.taken) life.taken.outcomes.items life.store h k in
    refused_again life.store comes c.in-Err-live_on.refused.0 c.in-Err-live_on.refused.1 (c.in-Err-live_on.ensures.refused, c.in-Err-live_on.ensures.counts)

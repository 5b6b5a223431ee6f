use Rattle.std.proofs.Common.{subst}
use Rattle.std.specs.FinMap.{empty}
use Rattle.lsm_runs.specs.Picks.{picked, Crashes}
use Rattle.lsm_runs.specs.Dropping.{allowed}
use Rattle.example_crash.proofs.Again.{opens_new, new_takes, above_takes}
use Rattle.example_crash.proofs.Courses.{refused_new, crashed_not, crashed_again, crashed_lived, goes_not, goes_again, goes_lived}
use Rattle.example_crash.proofs.Orders.{usual_takes}
use Rattle.example_crash.proofs.by_hand.crash_by_hand.Goals as goal

pub returns-in-Err-clause-by_hand : goal.returns-in-Err-clause-by_hand
returns-in-Err-clause-by_hand g c may allows order over =
    refused_new c.crashes_settle.ensures.ready c.crashes_settle.ensures.stands c.images_stand_once.ensures.found c.args.store c.requires.new c.in-Err.error c.in-Err.store (c.in-Err.ensures.refused, c.in-Err.ensures.counts)

pub returns-in_default-clause-by_hand : goal.returns-in_default-clause-by_hand
returns-in_default-clause-by_hand g c may allows order over =
    let h = c.in-Ok.ensures.lives may allows empty (opens_new c.crashes_settle.ensures.ready c.crashes_settle.ensures.stands c.args.store c.requires.new) in
    let k = new_takes (allowed may) c.args.store c.args.from c.args.first.now c.in-Ok.life.taken c.in-Ok.life.store c.requires.new h order in
    goes_not (allowed may) c.args.store c.args.from c.args.first.now c.args.picks.now c.in-Ok.life h c.requires.new k c.in-Ok.ensures.whole c.args.again c.args.second.now (subst (Crashes c.in-Ok.life.store.files (picked c.in-Ok.life.store.files c.args.picks.now)) c.in_default.is c.in_ok-left.ensures)

pub returns-in-Ok-live_singly-clause-by_hand : goal.returns-in-Ok-live_singly-clause-by_hand
returns-in-Ok-live_singly-clause-by_hand g c may allows order over =
    let h = c.in-Ok.ensures.lives may allows empty (opens_new c.crashes_settle.ensures.ready c.crashes_settle.ensures.stands c.args.store c.requires.new) in
    let k = new_takes (allowed may) c.args.store c.args.from c.args.first.now c.in-Ok.life.taken c.in-Ok.life.store c.requires.new h order in
    goes_lived (allowed may) c.args.store c.args.from c.args.first.now c.args.picks.now c.in-Ok.life h c.requires.new k c.in-Ok.ensures.whole c.args.again c.args.second.now c.crashes_settle.ensures.ready c.in-Some.left (subst (Crashes c.in-Ok.life.store.files (picked c.in-Ok.life.store.files c.args.picks.now)) c.in-Some.is c.in_ok-left.ensures) c.in-Ok-live_singly.after (c.in-Ok-live_singly.ensures.lives may allows)
    (λ m l low. above_takes (allowed may) c.args.store c.args.from c.args.first.now c.in-Ok.life.taken c.in-Ok.life.store c.requires.new h order c.args.again l.lives.opened l.lives.counter c.args.second.now c.in-Ok-live_singly.after.taken low l.lives.starts over) c.in-Ok-live_singly.ensures.whole

pub returns-in-Err-live_singly-clause-by_hand : goal.returns-in-Err-live_singly-clause-by_hand
returns-in-Err-live_singly-clause-by_hand g c may allows order over =
    let h = c.in-Ok.ensures.lives may allows empty (opens_new c.crashes_settle.ensures.ready c.crashes_settle.ensures.stands c.args.store c.requires.new) in
    let k = new_takes (allowed may) c.args.store c.args.from c.args.first.now c.in-Ok.life.taken c.in-Ok.life.store c.requires.new h order in
    goes_again (allowed may) c.args.store c.args.from c.args.first.now c.args.picks.now c.in-Ok.life h c.requires.new k c.in-Ok.ensures.whole c.args.again c.args.second.now c.crashes_settle.ensures.ready c.in-Some.left (subst (Crashes c.in-Ok.life.store.files (picked c.in-Ok.life.store.files c.args.picks.now)) c.in-Some.is c.in_ok-left.ensures) c.in-Err-live_singly.error c.in-Err-live_singly.store (c.in-Err-live_singly.ensures.refused, c.in-Err-live_singly.ensures.counts)

-- ---- usual steps

pub returns-in-Err-clause-usual : goal.returns-in-Err-clause-usual
returns-in-Err-clause-usual g c may allows usual more_usual =
    refused_new c.crashes_settle.ensures.ready c.crashes_settle.ensures.stands c.images_stand_once.ensures.found c.args.store c.requires.new c.in-Err.error c.in-Err.store (c.in-Err.ensures.refused, c.in-Err.ensures.counts)

pub returns-in_default-clause-usual : goal.returns-in_default-clause-usual
returns-in_default-clause-usual g c may allows usual more_usual =
    let h = c.in-Ok.ensures.lives may allows empty (opens_new c.crashes_settle.ensures.ready c.crashes_settle.ensures.stands c.args.store c.requires.new) in
    let k = usual_takes h.lives.opened h.lives.counter c.args.first.now c.in-Ok.life.taken usual in
    goes_not (allowed may) c.args.store c.args.from c.args.first.now c.args.picks.now c.in-Ok.life h c.requires.new k c.in-Ok.ensures.whole c.args.again c.args.second.now (subst (Crashes c.in-Ok.life.store.files (picked c.in-Ok.life.store.files c.args.picks.now)) c.in_default.is c.in_ok-left.ensures)

pub returns-in-Ok-live_singly-clause-usual : goal.returns-in-Ok-live_singly-clause-usual
returns-in-Ok-live_singly-clause-usual g c may allows usual more_usual =
    let h = c.in-Ok.ensures.lives may allows empty (opens_new c.crashes_settle.ensures.ready c.crashes_settle.ensures.stands c.args.store c.requires.new) in
    let k = usual_takes h.lives.opened h.lives.counter c.args.first.now c.in-Ok.life.taken usual in
    goes_lived (allowed may) c.args.store c.args.from c.args.first.now c.args.picks.now c.in-Ok.life h c.requires.new k c.in-Ok.ensures.whole c.args.again c.args.second.now c.crashes_settle.ensures.ready c.in-Some.left (subst (Crashes c.in-Ok.life.store.files (picked c.in-Ok.life.store.files c.args.picks.now)) c.in-Some.is c.in_ok-left.ensures) c.in-Ok-live_singly.after (c.in-Ok-live_singly.ensures.lives may allows)
    (λ m l low. usual_takes l.lives.opened l.lives.counter c.args.second.now c.in-Ok-live_singly.after.taken more_usual) c.in-Ok-live_singly.ensures.whole

pub returns-in-Err-live_singly-clause-usual : goal.returns-in-Err-live_singly-clause-usual
returns-in-Err-live_singly-clause-usual g c may allows usual more_usual =
    let h = c.in-Ok.ensures.lives may allows empty (opens_new c.crashes_settle.ensures.ready c.crashes_settle.ensures.stands c.args.store c.requires.new) in
    let k = usual_takes h.lives.opened h.lives.counter c.args.first.now c.in-Ok.life.taken usual in
    goes_again (allowed may) c.args.store c.args.from c.args.first.now c.args.picks.now c.in-Ok.life h c.requires.new k c.in-Ok.ensures.whole c.args.again c.args.second.now c.crashes_settle.ensures.ready c.in-Some.left (subst (Crashes c.in-Ok.life.store.files (picked c.in-Ok.life.store.files c.args.picks.now)) c.in-Some.is c.in_ok-left.ensures) c.in-Err-live_singly.error c.in-Err-live_singly.store (c.in-Err-live_singly.ensures.refused, c.in-Err-live_singly.ensures.counts)

-- ---- the store after the first life

pub returns-in_default-clause-crashed : goal.returns-in_default-clause-crashed
returns-in_default-clause-crashed g c may allows =
    let h = c.in-Ok.ensures.lives may allows empty (opens_new c.crashes_settle.ensures.ready c.crashes_settle.ensures.stands c.args.store c.requires.new) in
    crashed_not (allowed may) c.args.store c.args.from c.args.first.now c.args.picks.now c.in-Ok.life h (subst (Crashes c.in-Ok.life.store.files (picked c.in-Ok.life.store.files c.args.picks.now)) c.in_default.is c.in_ok-left.ensures)

pub returns-in-Ok-live_singly-clause-crashed : goal.returns-in-Ok-live_singly-clause-crashed
returns-in-Ok-live_singly-clause-crashed g c may allows =
    let h = c.in-Ok.ensures.lives may allows empty (opens_new c.crashes_settle.ensures.ready c.crashes_settle.ensures.stands c.args.store c.requires.new) in
    crashed_lived (allowed may) c.args.store c.args.from c.args.first.now c.args.picks.now c.in-Ok.life h c.in-Some.left (subst (Crashes c.in-Ok.life.store.files (picked c.in-Ok.life.store.files c.args.picks.now)) c.in-Some.is c.in_ok-left.ensures) c.in-Ok-live_singly.after

pub returns-in-Err-live_singly-clause-crashed : goal.returns-in-Err-live_singly-clause-crashed
returns-in-Err-live_singly-clause-crashed g c may allows =
    let h = c.in-Ok.ensures.lives may allows empty (opens_new c.crashes_settle.ensures.ready c.crashes_settle.ensures.stands c.args.store c.requires.new) in
    crashed_again (allowed may) c.args.store c.args.from c.args.first.now c.args.picks.now c.in-Ok.life h c.in-Some.left (subst (Crashes c.in-Ok.life.store.files (picked c.in-Ok.life.store.files c.args.picks.now)) c.in-Some.is c.in_ok-left.ensures) c.in-Err-live_singly.error c.in-Err-live_singly.store

use Rattle.std.proofs.Common.{◌++◌, ◌∷◌, length, take, refl, sym, ap, subst}
use Rattle.lsm_store.specs.Memory.{MemStore, world_of}
use Rattle.lsm_runs.specs.Config.{Config}
use Rattle.lsm_runs.specs.Dropping.{allowed}
use Rattle.lsm_log_runs.specs.Living.{LivesLogged}
use Rattle.lsm_log_runs.specs.Slots.{beside}
use Rattle.lsm_log_runs.specs.declared.steps.LogStep.TheVariants.{Write}
use Rattle.lsm_log_runs.proofs.Runs.{from_free}
use Rattle.example_lives.proofs.OwnLoop.{FromNothing, from_nothing, own_run, usual_around}
use Rattle.example_lives.proofs.own_loop.live_around.Goals as goal

pub returns : goal.returns
returns g c drops allows first own last =
    let t = c.in-Ok.tree in
    let n = length c.run_from-before.result.replies.items in
    let m = length c.run_from-after.result.replies.items in
    let ops = c.args.ops.items in
    let steps = take n c.args.before.now ++ Write ops ∷ take m c.args.after.now in
    let replies = c.run_from-before.result.replies.items ++ c.write_one-written.result ∷ c.run_from-after.result.replies.items in
    let w = c.write_one-written.ensures in
    let may = c.new_logs_open.ensures c.args.store c.requires.new in
    let run = own_run _ c.steps_lead.ensures.lead c.steps_lead.ensures.join (take n c.args.before.now) (take m c.args.after.now) c.run_from-before.result.replies.items c.run_from-after.result.replies.items ops c.write_one-written.result
    (beside t c.new-slots.result) (beside c.run_from-before.new.tree c.run_from-before.new.slots) (beside c.write_one-written.new.tree c.run_from-before.new.slots) (beside c.run_from-after.new.tree c.run_from-after.new.slots)
    c.run_from-before.ensures.runs (record { takes = (w.takes, refl); acts = λ told. w.acts; stored = λ told. w.stored }) w.cause c.run_from-after.ensures.runs in
    let lives = c.opened_runs_are_lives.ensures tt drops allows c.args.store c.new.result t c.give_up_all.new.tree c.in-Ok.ensures.opens may.read (c.in-Ok.ensures.leaves tt may.read.ready) (c.in-Ok.ensures.counts.none (λ h. cc h) (λ h. cc h)) c.counter_fits.ensures steps replies
    (record { last = beside c.run_from-after.new.tree c.run_from-after.new.slots; run = from_free _ _ world_of steps replies t c.new-slots.result _ c.new-slots.ensures.empty run; closes = c.give_up_all.ensures.ends; goes_on = c.give_up_all.ensures.stands }) in
    let told = from_nothing (allowed drops) (c.any_number_of_logged_lives.ensures tt drops) c.args.store c.into_store.result steps replies c.requires.new
    (subst (λ (s : MemStore). LivesLogged (allowed drops) world_of 0 steps replies c.args.store s) (sym c.into_store.ensures)
    (subst (λ from. LivesLogged (allowed drops) world_of from steps replies c.args.store c.give_up_all.new.tree.store) (ap (λ (f : Config). f.seqno) c.new.ensures) lives))
    (usual_around c.args.before.now c.args.after.now ops n m first own last) in
    record { all_before = c.run_from-before.ensures.whole; all_after = c.run_from-after.ensures.whole; past = told.past; last = told.last; takes = told.takes; left = told.left }

use Rattle.std.proofs.Common.{◌≡◌, ◌+◌, List, [], ◌∷◌, ◌++◌, take, drop, false, sym, ap, ◌∙◌, subst}
use Rattle.std.specs.FinMap.{empty}
use Rattle.std.proofs.lemmas.List.{take_all, take_more}
use Rattle.lsm_log_runs.specs.Memory.{world_of}
use Rattle.lsm_log_runs.specs.Picks.{picked, Crashes}
use Rattle.lsm_runs.specs.Dropping.{allowed}
use Rattle.example_lives.specs.declared.lives.Life.{Life}
use Rattle.example_lives.specs.declared.lives.Lived.{Lived}
use Rattle.example_lives.specs.Remembering.{EachRemembers, EachCrashes, store_of, LivesSo}
use Rattle.example_lives.proofs.Remembering.{usual_at, split_at, SoFar, CrashesSoFar, so_far_none, one_more, ends_so, all_remember, crashes_none, one_crash_more, last_crash, all_crash}
use Rattle.example_lives.proofs.lives.live_again.Goals as goal

pub loop-life-init : goal.loop-life-init
loop-life-init g c =
    let w = world_of c.args.store in
    record {
      so_far = λ may allows usual. subst (λ (xs : List Lived). SoFar (allowed may) w [] xs) (sym c.new-all.ensures.items) (so_far_none (allowed may) w c.requires.new (c.new_logs_open.ensures c.args.store c.requires.new));
      crashes = subst (λ (xs : List Lived). CrashesSoFar [] xs) (sym c.new-all.ensures.items) crashes_none;
    }

pub loop-life-preserved : goal.loop-life-preserved
loop-life-preserved g c =
    let was = c.loop-life.store in
    let lives = c.args.lives.now in
    let i = c.loop-life.life-index in
    let life = c.life-item.result in
    let how = c.live_once-lived.result in
    let files = (store_of how).files in
    let more = take_more lives i life c.loop-life-test.true ∙ ap (λ (y : Life). take i lives ++ y ∷ []) (sym c.life-item.is) in
    let crashed = subst (λ ps. Crashes files (picked files ps) c.in_ok-left.left) c.deref-in-loop-life.ensures.value c.in_ok-left.ensures in
    let left = subst (Crashes files (picked files life.picks.items)) c.in-Some.is crashed in
    record {
      so_far = λ may allows usual.
          let so_far = c.loop-life.invariant.so_far may allows usual in
          let lives_so = subst (λ xs. LivesSo (allowed may) was xs how) c.deref.ensures.value (c.live_once-lived.ensures may allows so_far.opens) in
          rw (c.in_ok-push.ensures.items, more) (one_more (allowed may) (c.any_number_of_logged_lives.ensures tt may) (c.openings_are_logged_lives.ensures tt) was c.in-Some.next (take i lives) c.loop-life.all.items life how so_far (usual_at lives i life c.loop-life-test.true c.life-item.is usual) lives_so _ left.0 left.1.world);
      crashes = rw (c.in_ok-push.ensures.items, more) (one_crash_more (take i lives) c.loop-life.all.items life how c.loop-life.invariant.crashes left.0);
    }

pub returns-in_default-clause-remembers : goal.returns-in_default-clause-remembers
returns-in_default-clause-remembers g c may allows usual =
    let was = c.loop-life.store in
    let lives = c.args.lives.now in
    let i = c.loop-life.life-index in
    let life = c.life-item.result in
    let how = c.live_once-lived.result in
    let so_far = c.loop-life.invariant.so_far may allows usual in
    let lives_so = subst (λ xs. LivesSo (allowed may) was xs how) c.deref.ensures.value (c.live_once-lived.ensures may allows so_far.opens) in
    let ends = ends_so (allowed may) (c.any_number_of_logged_lives.ensures tt may) was (take i lives) (drop (i + 1) lives) c.loop-life.all.items life how so_far (usual_at lives i life c.loop-life-test.true c.life-item.is usual) lives_so in
    rw (c.in_ok-push.ensures.items) (subst (λ xs. EachRemembers (allowed may) (λ m. m ≡ empty) 0 xs (c.loop-life.all.items ++ how ∷ []) false) (split_at lives i life c.loop-life-test.true c.life-item.is) ends)

pub returns-in_default-clause-crashes : goal.returns-in_default-clause-crashes
returns-in_default-clause-crashes g c =
    let lives = c.args.lives.now in
    let i = c.loop-life.life-index in
    let life = c.life-item.result in
    let how = c.live_once-lived.result in
    let files = (store_of how).files in
    let crashed = subst (λ ps. Crashes files (picked files ps) c.in_ok-left.left) c.deref-in-loop-life.ensures.value c.in_ok-left.ensures in
    let cannot = subst (Crashes files (picked files life.picks.items)) c.in_default.is crashed in
    let ends = last_crash (take i lives) (drop (i + 1) lives) c.loop-life.all.items life how c.loop-life.invariant.crashes cannot in
    rw (c.in_ok-push.ensures.items) (subst (λ xs. EachCrashes xs (c.loop-life.all.items ++ how ∷ []) false) (split_at lives i life c.loop-life-test.true c.life-item.is) ends)

pub returns-clause-remembers : goal.returns-clause-remembers
returns-clause-remembers g c may allows usual =
    let w = world_of c.loop-life.store in
    let lives = c.args.lives.now in
    let lived = c.loop-life.all.items in
    all_remember (allowed may) w lives lived (subst (λ (xs : List Life). SoFar (allowed may) w xs lived) (take_all c.loop-life.life-index lives c.loop-life-test.false) (c.loop-life.invariant.so_far may allows usual))

pub returns-clause-crashes : goal.returns-clause-crashes
returns-clause-crashes g c =
    let lives = c.args.lives.now in
    let lived = c.loop-life.all.items in
    all_crash lives lived (subst (λ (xs : List Life). CrashesSoFar xs lived) (take_all c.loop-life.life-index lives c.loop-life-test.false) c.loop-life.invariant.crashes)

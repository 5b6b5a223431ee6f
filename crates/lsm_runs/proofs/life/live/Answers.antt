use Rattle.std.proofs.Common.{refl, ap}
use Rattle.lsm_state.specs.Core.{Core}
use Rattle.lsm_runs.specs.Chains.{Point}
use Rattle.lsm_runs.specs.Dropping.{allowed}
use Rattle.lsm_runs.specs.Living.{opened_in}
use Rattle.lsm_runs.specs.Slots.{at_first}
use Rattle.lsm_runs.proofs.Causing.{causes_between}
use Rattle.lsm_runs.proofs.RunLives.{runs_are_lives, lived}
use Rattle.lsm_runs.proofs.Small.{found_low}
use Rattle.lsm_runs.proofs.Starting.{starts_above, found_same}
use Rattle.lsm_runs.proofs.Settled.{settled_for}
use Rattle.lsm_runs.proofs.life.live.Goals as goal

pub returns-clause-lives : goal.returns-clause-lives
returns-clause-lives g c may allows tells ready m stands =
    let world = g.S.Store.world in
    let opened = c.in-Ok.ensures in
    let tree = c.in-Ok.tree in
    let opens = opened.opens tells in
    let starts = (opens.shows m stands).starts in
    let old : Point _ = record { store = tree.store; stage = at_first tree.core } in
    let ran = c.run-taken.ensures in
    let moments = ran.moments tells in
    lived (allowed may) world _ c.args.store c.args.config.seqno (opened_in tree.core) m _ _ old _ _ moments
    (found_same world c.opening_finds.ensures c.args.store tree.store tree.core opens)
    (λ tables found. c.openings_leave_what_was_read.ensures.meanwhile tells c.args.store tree.store tables ready found opens.leaves)
    (runs_are_lives world _ may allows _ _ old _ _ moments (opened_in tree.core) m starts (ap (λ (t : Core). t.lost) opened.core) (opens.stored ready) (found_low tree.core.history.latest.version.levels opened.small))
    c.rising_is_in_order.ensures c.order_without_reads.ensures c.reads_are_sound.ensures.kept (starts_above c.args.config tree.core opened.core opened.small) ran.right starts (ap (λ (t : Core). t.lost) opened.core) (opens.stored ready)

pub returns-clause-lives_on : goal.returns-clause-lives_on
returns-clause-lives_on g c tells ready m stands =
    let opened = c.in-Ok.ensures in
    let ran = c.run-taken in
    record {
      old = c.in-Ok.tree.core;
      first = c.in-Ok.tree.store;
      starts = (opened.opens tells).shows m stands;
      certain = ap (λ (t : Core). t.lost) opened.core;
      stored = (opened.opens tells).stored ready;
      counted = opened.counted;
      visible = opened.visible;
      ran = ran.ensures.ran;
      replays = ran.ensures.replays _ m;
      right = ran.ensures.right;
      in_order = ran.ensures.in_order;
      rises = ran.ensures.rises;
      unknown = ran.ensures.unknown;
      moments = ran.ensures.moments tells;
    }

pub returns-clause-causes : goal.returns-clause-causes
returns-clause-causes g c =
    let ran = c.run-taken in
    causes_between g.S.Store.world ran.result.outcomes.items c.args.store c.in-Ok.tree.store ran.new.state.store ran.new.state.store c.in-Ok.ensures.counts refl ran.ensures.causes

pub returns-in-Err-clause-refused : goal.returns-in-Err-clause-refused
returns-in-Err-clause-refused g c tells m stands = (c.in-Err.ensures.opens tells).refuses m stands

pub returns-in-Err-clause-stands : goal.returns-in-Err-clause-stands
returns-in-Err-clause-stands g c tells settled m stands =
    let ready = c.settled_stores_are_ready.ensures c.args.store stands.levels settled stands.found in
    settled_for (g.S.Store.world c.args.store) (g.S.Store.world c.in-Err.refused.1) m stands ready ((c.in-Err.ensures.opens tells).stands_for ready.ready m stands)

pub returns-in-Err-clause-counts : goal.returns-in-Err-clause-counts
returns-in-Err-clause-counts g c = c.in-Err.ensures.counts

pub returns-in-Err-clause-opens_again : goal.returns-in-Err-clause-opens_again
returns-in-Err-clause-opens_again g c tells ready tables found = c.openings_leave_what_was_read.ensures.meanwhile tells c.args.store c.in-Err.refused.1 tables ready found (c.in-Err.ensures.opens tells).leaves

use Rattle.lsm_commit.specs.Foreign.{passes_still}
use Rattle.lsm_commit.proofs.Images.{left_now}
use Rattle.lsm_log_runs.proofs.Compacting.{compact_step}
use Rattle.lsm_log_runs.proofs.Going.{Theory}
use Rattle.lsm_log_runs.proofs.Leading.{Reading}
use Rattle.lsm_log_runs.proofs.Runs.{lead, join}
use Rattle.lsm_log_runs.proofs.runner.steps_lead.Goals as goal

pub returns-clause-lead : goal.returns-clause-lead
returns-clause-lead g c =
    let world = g.S.Store.world in
    let theory : Theory = record { sound = c.reads_are_sound.ensures; joins = c.acts_join.ensures; counter = c.counter_stays_above.ensures; stays = c.log_stays_sound.ensures; crashes = c.every_crash_keeps_batches.ensures; whole = c.whole_is_logged.ensures; reads = c.logged_reads_are_right.ensures; numbered = c.left_is_numbered.ensures } in
    let reading : Reading = record { theory = theory; once = c.versions_are_told_once.ensures.version; those = c.records_are_those_read.ensures.found; found = c.images_stand_once.ensures.found; unread = c.unread_names_dont_matter.ensures } in
    lead _ g.S.Store.tells world reading c.noted_compactions_keep_reads.ensures c.lists_are_steps.ensures
    (λ told. record {
      ready = c.stored_files_are_ready.ensures;
      kept = c.logs_can_be_settled.ensures.kept;
      gives_one = g.met.S.Store.gives_one told;
      counts_now = g.met.S.Store.counts_now told;
      rests = λ store. let only = g.met.S.Store.only_now told store in record { leaves = λ versions written. left_now (world store) versions written only; passes = passes_still (world store) only };
    })

pub returns-clause-join : goal.returns-clause-join
returns-clause-join g c = join _ g.S.Store.tells g.S.Store.world (returns-clause-lead g c)

pub returns-clause-compacts : goal.returns-clause-compacts
returns-clause-compacts g c = compact_step g.S.Store.tells _ g.S.Store.world

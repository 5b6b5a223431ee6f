use Rattle.std.proofs.Common.{Ok, Err, sym, ap, ◌∙◌, subst, ◌<◌, ◌^◌, rules, arith}
use Rattle.lsm_versions.specs.Refusals.{IsRefusedFor}
use Rattle.lsm_commit.specs.Stored.{AreOnDisk}
use Rattle.lsm_state.specs.Core.{versions_left}
use Rattle.lsm_state.specs.Settling.{Settles}
use Rattle.lsm_state.proofs.WholeFlushes.{upholds_behind}
use Rattle.lsm_state.specs.Flushes.{with_next_table}
use Rattle.lsm_state.proofs.Merges.{unwritten, unmade, unsettled, settled, merged_from}
use Rattle.lsm_state.proofs.tree.TreeState.install_written.Goals as goal

pub returns-in-Err-clause-installs : goal.returns-in-Err-clause-installs
returns-in-Err-clause-installs g c =
    let m = c.write_merged in
    unwritten c.args.merged.now.job c.in-Err.error c.args.self.now.core m.new.self.core m.ensures.rises m.ensures.draws m.ensures.core c.in-Err.ensures.only (λ h. c.in-Err.ensures.out_of_numbers (ap Err h))

pub returns-in-Err-version_merged-clause-installs : goal.returns-in-Err-version_merged-clause-installs
returns-in-Err-version_merged-clause-installs g c =
    let m = c.write_merged in
    let job = c.args.merged.now.job in
    let tables = c.in-Ok.tables.items in
    let latest = m.new.self.core.history.latest.version in
    let of_tables = subst (λ ts. IsRefusedFor c.job-job.result.now.ids ts c.job-job.result.now.settings.dest_level latest c.in-Err-version_merged.error) c.deref.ensures.value c.in-Err-version_merged.ensures.err in
    let of_job = subst (λ j. IsRefusedFor j.ids tables j.settings.dest_level latest c.in-Err-version_merged.error) c.job-job.ensures of_tables in
    let refused = subst (λ k. IsRefusedFor job.ids tables job.settings.dest_level k.history.latest.version c.in-Err-version_merged.error) m.ensures.core of_job in
    let small : c.args.self.now.core.seqno < 2 ^ 63 = search (rules, arith) in
    unmade job c.in-Err-version_merged.error c.args.self.now.core m.new.self.core tables small m.ensures.rises m.ensures.draws m.ensures.core c.in-Ok.ensures.merged.holds refused

pub returns-in-Ok-settle-clause-upholds : goal.returns-in-Ok-settle-clause-upholds
returns-in-Ok-settle-clause-upholds g c tells =
    upholds_behind (g.S.Store.world c.args.self.now.store) (g.S.Store.world c.write_merged.new.self.store) (g.S.Store.world c.settle.new.self.store) c.args.self.now.core c.write_merged.new.self.core c.settle.new.self.core (ap versions_left c.write_merged.ensures.core) (c.write_merged.ensures.upholds tells)
    (record { files = λ stored. c.settle.ensures.upholds tells (c.in-Ok-version_merged.ensures.on_disk tells (subst (AreOnDisk (g.S.Store.world c.write_merged.new.self.store)) (sym c.deref.ensures.value) (c.in-Ok.ensures.on_disk tells)) stored) stored; passes = c.settle.ensures.passes tells })

pub returns-in-Ok-settle-clause-installs : goal.returns-in-Ok-settle-clause-installs
returns-in-Ok-settle-clause-installs g c =
    let m = c.write_merged in
    let v = c.in-Ok-version_merged.version in
    let made = merged_from c.args.self.now.core.next_table c.deref.result.now c.in-Ok.tables.items v c.job-job.result.now c.args.merged.now.job m.new.self.core (with_next_table m.new.self.core.next_table c.args.self.now.core) c.deref.ensures.value c.in-Ok.ensures.fresh c.in-Ok-version_merged.ensures.made c.job-job.ensures m.ensures.core in
    let settles = subst (λ n. Settles v n (Ok tt) m.new.self.core c.settle.new.self.core) (ap (λ t. t.watermark) (c.settings.ensures ∙ ap (λ j. j.settings) c.job-job.ensures)) c.in-Ok-settle.ensures.settles in
    settled c.args.merged.now.job c.args.self.now.core c.settle.new.self.core m.new.self.core v m.ensures.rises m.ensures.draws m.ensures.core made settles.ok

pub returns-clause-installs : goal.returns-clause-installs
returns-clause-installs g c =
    let m = c.write_merged in
    let v = c.in-Ok-version_merged.version in
    let made = merged_from c.args.self.now.core.next_table c.deref.result.now c.in-Ok.tables.items v c.job-job.result.now c.args.merged.now.job m.new.self.core (with_next_table m.new.self.core.next_table c.args.self.now.core) c.deref.ensures.value c.in-Ok.ensures.fresh c.in-Ok-version_merged.ensures.made c.job-job.ensures m.ensures.core in
    let end = c.in-Err-settle in
    let settles = subst (λ n. Settles v n (Err end.error) m.new.self.core c.settle.new.self.core) (ap (λ t. t.watermark) (c.settings.ensures ∙ ap (λ j. j.settings) c.job-job.ensures)) end.ensures.settles in
    unsettled c.args.merged.now.job end.error c.args.self.now.core c.settle.new.self.core m.new.self.core v m.ensures.rises m.ensures.draws m.ensures.core made settles

pub returns-clause-upholds : goal.returns-clause-upholds
returns-clause-upholds g c tells =
    upholds_behind (g.S.Store.world c.args.self.now.store) (g.S.Store.world c.write_merged.new.self.store) (g.S.Store.world c.settle.new.self.store) c.args.self.now.core c.write_merged.new.self.core c.settle.new.self.core (ap versions_left c.write_merged.ensures.core) (c.write_merged.ensures.upholds tells)
    (record { files = λ stored. c.settle.ensures.upholds tells (c.in-Ok-version_merged.ensures.on_disk tells (subst (AreOnDisk (g.S.Store.world c.write_merged.new.self.store)) (sym c.deref.ensures.value) (c.in-Ok.ensures.on_disk tells)) stored) stored; passes = c.settle.ensures.passes tells })

use Rattle.std.proofs.Common.{◌≡◌, ◌<◌, ◌≤◌, ◌≢◌, ℕ, List, None, arith}
use Rattle.std.proofs.lemmas.Result.{IfOk-weaker}
use Rattle.lsm_manifest.specs.Names.{version_name}
use Rattle.lsm_below.specs.Each.{each_weaker}
use Rattle.lsm_versions.specs.Levels.{SeenVersion}
use Rattle.lsm_commit.proofs.Removals.{absent_after}
use Rattle.lsm_parts.proofs.version.super_version.remove_older.Goals as goal

pub returns-then-id-latest-clause-stored : goal.returns-then-id-latest-clause-stored
returns-then-id-latest-clause-stored g c tells versions unnamed stored newer =
    let lt : c.args.id < c.args.latest = c.if-id-latest.true in
    c.remove_version.ensures.stored tells versions unnamed stored (each_weaker (λ (v : SeenVersion). c.args.latest ≤ v.id) (λ v. v.id ≢ c.args.id) (λ v (le : c.args.latest ≤ v.id) same. omega arith) versions newer)

pub returns-clause-stored : goal.returns-clause-stored
returns-clause-stored g c tells versions unnamed stored newer = (stored, (c.crashes_leave_versions.ensures tells).leaves versions unnamed stored)

pub returns-clause-passes : goal.returns-clause-passes
returns-clause-passes g c tells = (c.crashes_leave_versions.ensures tells).passes

pub returns-then-id-latest-clause-absent : goal.returns-then-id-latest-clause-absent
returns-then-id-latest-clause-absent g c tells =
    let w = g.S.Store.world in
    IfOk-weaker c.remove_version.result (λ _. (w c.remove_version.new.store).gives (version_name c.args.id) ≡ None) (λ _. (n : List ℕ) → (w c.args.store.now).gives n ≡ None → (w c.remove_version.new.store).gives n ≡ None)
    (λ _ gone. absent_after (version_name c.args.id) (w c.args.store.now) (w c.remove_version.new.store) (c.remove_version.ensures.keeps tells) gone) (c.remove_version.ensures.gone tells)

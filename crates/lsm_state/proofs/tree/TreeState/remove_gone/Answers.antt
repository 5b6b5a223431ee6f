use Rattle.lsm_manifest.specs.Names.{version_name}
use Rattle.std.proofs.Common.{◌≡◌, None, ap, sym, subst}
use Rattle.lsm_versions.specs.Levels.{all_of}
use Rattle.lsm_commit.specs.Commits.{AreOthers}
use Rattle.lsm_state.specs.Core.{Core, written_of}
use Rattle.lsm_state.specs.Commits.{Upholds}
use Rattle.lsm_state.proofs.Replacing.{removed_upholds}
use Rattle.lsm_state.proofs.tree.TreeState.remove_gone.Goals as goal

pub returns-clause-upholds : goal.returns-clause-upholds
returns-clause-upholds g c tells =
    let w = g.S.Store.world in
    let i = c.self.inside in
    let gone = c.args.gone.now.keys in
    let old : Core = record { config = i.config; memtables = i.memtables; history = i.history; next_memtable = i.next_memtable; next_table = i.next_table; next_job = i.next_job; moment = i.moment; seqno = i.seqno; visible_seqno = i.visible_seqno; flush = i.flush; lost = i.lost; merges = i.merges } in
    let same : old ≡ c.args.self.now.core = ap (λ t. t.core) c.self.view_is in
    let certain = subst (λ k. k.lost ≡ None) (sym same) c.requires.certain in
    let spares = subst (λ k. AreOthers gone (written_of k)) (sym same) c.requires.spares in
    let others = subst (λ k. AreOthers gone (all_of k.history.latest.version.levels)) (sym same) c.requires.others in
    subst (λ t. Upholds (w t.store) (w c.remove_tables.new.store) t.core old) c.self.view_is
    (record { files = removed_upholds (w i.store) (w c.remove_tables.new.store) old gone (c.remove_tables.ensures.stored tells) certain others spares; passes = c.remove_tables.ensures.passes tells })

pub returns-clause-others : goal.returns-clause-others
returns-clause-others g c tells i =
    let w = g.S.Store.world in
    let v = w c.remove_tables.new.store in
    subst (λ t. v.gives (version_name i) ≡ (w t.store).gives (version_name i)) c.self.view_is ((c.remove_tables.ensures.keeps tells).gives (version_name i) (λ j is e. c.names_are_apart.ensures.table_no_version j i (sym e)))

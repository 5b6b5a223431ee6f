use Rattle.std.proofs.Common.{◌++◌, ap, sym, subst, ◌∙◌, rules}
use Rattle.lsm_versions.specs.Levels.{all_of, HasOwnIds}
use Rattle.lsm_commit.specs.Stored.{AreOnDisk}
use Rattle.lsm_commit.specs.Writing.{HoldEntries}
use Rattle.lsm_state.specs.Core.{Core, versions_left}
use Rattle.lsm_state.specs.Commits.{Upholds}
use Rattle.lsm_state.proofs.Causing.{write_causes, removes_drawn}
use Rattle.lsm_state.proofs.Installing.{upholds_join}
use Rattle.lsm_state.proofs.Upholding.{upheld_at}
use Rattle.lsm_state.proofs.Writing.{tables_noted, noted_upholds}
use Rattle.lsm_state.proofs.tree.TreeState.flush_to_tables.Goals as goal

pub returns-then-is_some-clause-upholds : goal.returns-then-is_some-clause-upholds
returns-then-is_some-clause-upholds g c tells =
    upheld_at g.S.Store.world c.args.self.now c.self.inside.store (ap (λ t. t.store) c.self.view_is) (c.crashes_leave_versions.ensures tells)

pub invariant_of-self : goal.invariant_of-self
invariant_of-self g c =
    let i = c.self-2.inside in
    let now = c.args.self.now.core in
    let copied = c.in-Ok-copies.ensures ∙ c.deref.ensures.value in
    let made = ap (λ t. t.core) c.self-2.view_is ∙ c.in-Ok.ensures.core in
    let held = subst (λ ts. HoldEntries now.moment c.args.job.entries now.next_table i.next_table ts) (sym copied) (subst (λ n. HoldEntries now.moment c.args.job.entries now.next_table n c.in-Ok.tables.items) (sym (ap (λ t. t.core.next_table) c.self-2.view_is)) c.in-Ok.ensures.tables) in
    let own = subst (λ ts. HasOwnIds (ts ++ all_of i.history.latest.version.levels)) (sym copied) (subst (λ h. HasOwnIds (c.in-Ok.tables.items ++ all_of h.latest.version.levels)) (sym (ap (λ k. k.history) made)) c.in-Ok.ensures.own_ids) in
    rw (c.with_tables.ensures, c.take-open.ensures.value) (c.self-2.invariant.0, tables_noted i.history c.number.result i.next_table now.moment now.next_table c.args.job.entries c.in-Ok-copies.copies.items i.flush held own c.self-2.invariant.1)

pub returns-clause-upholds : goal.returns-clause-upholds
returns-clause-upholds g c tells =
    let w = g.S.Store.world in
    let i = c.self-2.inside in
    let now = c.args.self.now in
    let mid : Core = record { config = i.config; memtables = i.memtables; history = i.history; next_memtable = i.next_memtable; next_table = i.next_table; next_job = i.next_job; moment = i.moment; seqno = i.seqno; visible_seqno = i.visible_seqno; flush = i.flush; lost = i.lost; merges = i.merges } in
    let copied = c.in-Ok-copies.ensures ∙ c.deref.ensures.value in
    let disk = subst (AreOnDisk (w i.store)) (sym copied) (subst (λ t. AreOnDisk (w t.store) c.in-Ok.tables.items) (sym c.self-2.view_is) (c.in-Ok.ensures.on_disk tells)) in
    let before = subst (λ t. Upholds (w now.store) (w t.store) now.core t.core) (sym c.self-2.view_is) (c.in-Ok.ensures.upholds tells) in
    rw (c.with_tables.ensures, c.take-open.ensures.value) (noted_upholds (w now.store) (w i.store) now.core mid c.number.result c.in-Ok-copies.copies.items before disk)

pub returns-in-Err-clause-upholds : goal.returns-in-Err-clause-upholds
returns-in-Err-clause-upholds g c tells =
    let w = g.S.Store.world in
    let old = c.args.self.now in
    let mid = c.write_kept.new.self in
    let new = c.remove_drawn.new.self in
    upholds_join (w old.store) (w mid.store) (w new.store) old.core mid.core new.core (ap versions_left c.remove_drawn.ensures.core) (c.write_kept.ensures.upholds tells) (c.remove_drawn.ensures.upholds tells)

pub returns-in-Err-clause-files : goal.returns-in-Err-clause-files
returns-in-Err-clause-files g c =
    let w = g.S.Store.world in
    let mid = c.write_kept.new.self in
    let behind = c.remove_drawn.ensures in
    let did = write_causes (w c.args.self.now.store) (w mid.store) c.write_kept.result c.write_kept.ensures.refuses.only c.write_kept.ensures.refuses.counts in
    record {
      causes = search rules;
      refused = λ tells small. removes_drawn w c.get-first.result c.args.self.now mid c.remove_drawn.new.self (c.get-first.ensures ∙ ap (λ t. t.core.next_table) c.self.view_is) behind.core did.rises (behind.gone tells) small;
      no_call = search rules;
    }

pub returns-in_default-clause-upholds : goal.returns-in_default-clause-upholds
returns-in_default-clause-upholds g c tells =
    let w = g.S.Store.world in
    let old = c.args.self.now in
    let mid = c.write_kept.new.self in
    let new = c.remove_drawn-in_default.new.self in
    upholds_join (w old.store) (w mid.store) (w new.store) old.core mid.core new.core (ap versions_left c.remove_drawn-in_default.ensures.core) (c.write_kept.ensures.upholds tells) (c.remove_drawn-in_default.ensures.upholds tells)

pub returns-in_default-clause-files : goal.returns-in_default-clause-files
returns-in_default-clause-files g c =
    let w = g.S.Store.world in
    let mid = c.write_kept.new.self in
    let behind = c.remove_drawn-in_default.ensures in
    let did = write_causes (w c.args.self.now.store) (w mid.store) c.write_kept.result c.write_kept.ensures.refuses.only c.write_kept.ensures.refuses.counts in
    record {
      causes = search rules;
      refused = λ tells small. removes_drawn w c.get-first.result c.args.self.now mid c.remove_drawn-in_default.new.self (c.get-first.ensures ∙ ap (λ t. t.core.next_table) c.self.view_is) behind.core did.rises (behind.gone tells) small;
      no_call = search rules;
    }

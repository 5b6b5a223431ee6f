use Rattle.std.proofs.Common.{◌≡◌, ◌<◌, ◌≤◌, ◌-◌, ◌^◌, ◌++◌, None, length, ap, sym, subst, ◌∙◌, refl, arith, rules}
use Rattle.std.specs.Prelude.{nat_eq}
use Rattle.std.proofs.lemmas.Result.{IfOk-weaker}
use Rattle.lsm_versions.specs.Levels.{all_of, HasOwnIds}
use Rattle.lsm_commit.specs.Writing.{HoldEntries, KeepsStored}
use Rattle.lsm_state.specs.Core.{Core}
use Rattle.lsm_state.specs.Commits.{Upholds}
use Rattle.lsm_state.proofs.Upholding.{upheld_at}
use Rattle.lsm_state.proofs.Writing.{no_tables, tables_later, own_now, own_written, written_upholds}
use Rattle.lsm_state.proofs.tree.TreeState.write_kept.Goals as goal

pub returns-in_default-clause-upholds : goal.returns-in_default-clause-upholds
returns-in_default-clause-upholds g c tells =
    upheld_at g.S.Store.world c.args.self.now c.self.inside.store (ap (λ t. t.store) c.self.view_is) (c.crashes_leave_versions.ensures tells)

pub returns-then-is_empty-clause-tables : goal.returns-then-is_empty-clause-tables
returns-then-is_empty-clause-tables g c =
    let kept = sym (c.entries-entries.ensures ∙ c.in-Ok.ensures) ∙ c.is_empty.ensures.0 c.if-is_empty.true in
    no_tables c.args.self.now.core.moment c.args.self.now.core.next_table c.args.job.now.entries c.new.result.items (ap (λ es. nat_eq (length es) 0) kept) c.new.ensures.items

pub returns-then-is_empty-clause-own_ids : goal.returns-then-is_empty-clause-own_ids
returns-then-is_empty-clause-own_ids g c =
    let i = c.self.inside in
    rw (c.new.ensures.items, ← c.self.view_is) (own_now i.history i.flush i.next_table c.self.invariant.1)

pub returns-then-is_empty-clause-upholds : goal.returns-then-is_empty-clause-upholds
returns-then-is_empty-clause-upholds g c tells =
    upheld_at g.S.Store.world c.args.self.now c.self.inside.store (ap (λ t. t.store) c.self.view_is) (c.crashes_leave_versions.ensures tells)

pub returns-then-next-ge-LIMIT-clause-upholds : goal.returns-then-next-ge-LIMIT-clause-upholds
returns-then-next-ge-LIMIT-clause-upholds g c tells =
    upheld_at g.S.Store.world c.args.self.now c.self.inside.store (ap (λ t. t.store) c.self.view_is) (c.crashes_leave_versions.ensures tells)

pub invariant_of-self : goal.invariant_of-self
invariant_of-self g c =
    let i = c.self.inside in
    (c.self.invariant.0, rw c.set.ensures (tables_later i.history i.flush i.next_table c.write_tables-written.new.next (subst (λ n. n ≤ c.write_tables-written.new.next) c.get-next.ensures c.write_tables-written.ensures.rises) c.self.invariant.1))

pub returns-clause-own_ids : goal.returns-clause-own_ids
returns-clause-own_ids g c =
    let i = c.self.inside in
    let made = c.write_tables-written in
    let next = made.new.next in
    let lt : i.next_table < 2 ^ 64 - 1 = search (rules, arith) in
    let es = c.entries-entries.result in
    rw (← c.self.view_is) (IfOk-weaker made.result (λ ts. HoldEntries i.moment es c.get-next.result next ts.items) (λ ts. HasOwnIds (ts.items ++ all_of i.history.latest.version.levels))
    (λ ts held. own_written i.history i.flush i.moment i.next_table next es ts.items c.self.invariant.1 lt (subst (λ n. HoldEntries i.moment es n next ts.items) c.get-next.ensures held)) made.ensures.tables)

pub returns-clause-upholds : goal.returns-clause-upholds
returns-clause-upholds g c tells =
    let w = g.S.Store.world in
    let i = c.self.inside in
    let old : Core = record { config = i.config; memtables = i.memtables; history = i.history; next_memtable = i.next_memtable; next_table = i.next_table; next_job = i.next_job; moment = i.moment; seqno = i.seqno; visible_seqno = i.visible_seqno; flush = i.flush; lost = i.lost; merges = i.merges } in
    let new : Core = record old { next_table = c.set.new.self } in
    let w' = w c.write_tables-written.new.store in
    let certain = subst (λ t. t.core.lost ≡ None) (sym c.self.view_is) c.requires.certain in
    let lt : i.next_table < 2 ^ 64 - 1 = search (rules, arith) in
    subst (λ t. Upholds (w t.store) w' t.core new) c.self.view_is
    (record {
      files = written_upholds (w i.store) w' old new certain refl refl refl c.self.invariant.1 lt (subst (λ n. KeepsStored n (w i.store) w') c.get-next.ensures (c.write_tables-written.ensures.files tells).stored);
      passes = (c.write_tables-written.ensures.files tells).passes;
    })

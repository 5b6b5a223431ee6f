use Rattle.std.proofs.Common.{◌≡◌, ◌++◌, ◌∷◌, [], ◌+◌, List, sym, subst, ◌∙◌, refl, arith}
use Rattle.lsm_tables.specs.Tables.{SeenTable}
use Rattle.lsm_commit.specs.declared.tables.TheConstants.{TABLE_TARGET}
use Rattle.lsm_commit.specs.Stored.{IsTableOnDisk, AreOnDisk}
use Rattle.lsm_commit.specs.Writing.{WritesFrom}
use Rattle.lsm_commit.proofs.NextFiles.{writes_none, writes_more}
use Rattle.lsm_commit.proofs.Tabled.{IsUnderway, draws_more, each_push, underway_none, underway_more, all_written, tables_stay}
use Rattle.lsm_commit.proofs.tables.write_tables.Given.{Over}
use Rattle.lsm_commit.proofs.tables.write_tables.Goals.{After-write_table}
use Rattle.lsm_commit.proofs.tables.write_tables.Goals as goal

-- one more table, answered or not, leaves all else
module _ (g : Over) (c : After-write_table g) where
  kept : g.S.Store.tells → WritesFrom c.args.next.now (g.S.Store.world c.args.store.now) (g.S.Store.world c.write_table.new.store)
  kept tells =
      let w = g.S.Store.world in
      let n = c.names_are_apart.ensures in
      let at = c.loop-rest in
      let did = c.write_table.ensures in
      let below = c.if-id-ge-LIMIT.false in
      writes_more n.tables n.table_no_version n.table_not_current n.table_kind c.args.next.now at.next (w c.args.store.now) (w at.store) (w c.write_table.new.store) at.invariant.written.rises (omega arith) (at.invariant.files tells) (did.keeps tells) (did.any_moment tells)

pub loop-rest-init : goal.loop-rest-init
loop-rest-init g c =
    let w = g.S.Store.world in
    let none = sym c.new-tables.ensures.items in
    record {
      written = rw c.copy-rest.ensures (subst (λ (ts : List SeenTable). IsUnderway TABLE_TARGET c.args.made_at c.args.next.now c.args.next.now c.args.entries.now ts c.args.entries.now) none (underway_none TABLE_TARGET c.args.made_at c.args.next.now c.args.entries.now c.requires));
      on_disk = λ tells. subst (λ (ts : List SeenTable). AreOnDisk (w c.args.store.now) ts) none tt;
      draws = rw c.copy-rest.ensures (omega arith);
      files = λ tells. writes_none c.args.next.now (w c.args.store.now) (g.met.S.Store.only_now tells c.args.store.now);
      failures = refl;
    }

pub returns-in_err-write_table-clause-files : goal.returns-in_err-write_table-clause-files
returns-in_err-write_table-clause-files g c = kept g (goal.at.returns-in_err-write_table-clause-files g c).After-write_table

pub returns-in_err-push-clause-files : goal.returns-in_err-push-clause-files
returns-in_err-push-clause-files g c = kept g (goal.at.returns-in_err-push-clause-files g c).After-write_table

pub loop-rest-preserved : goal.loop-rest-preserved
loop-rest-preserved g c =
    let w = g.S.Store.world in
    let at = c.loop-rest in
    let t = c.in_ok-write_table.field-0 in
    let first = c.args.next.now in
    let mid = w at.store in
    let new = w c.write_table.new.store in
    let written = at.invariant.written in
    let below = c.if-id-ge-LIMIT.false in
    let made = c.in_ok-write_table.ensures in
    let pushed : c.push.new.self.items ≡ at.tables.items ++ t ∷ [] = c.in_ok-push.ensures.items in
    record {
      written = subst (λ (ts : List SeenTable). IsUnderway TABLE_TARGET c.args.made_at first (at.next + 1) c.args.entries.now ts c.split_table-first.result.1) (sym pushed)
          (underway_more TABLE_TARGET c.args.made_at first at.next c.args.entries.now at.tables.items at.rest c.split_table-first.result.0 c.split_table-first.result.1 t written made.table c.split_table-first.ensures.writable c.split_table-first.ensures.cut);
      on_disk = λ tells. subst (λ (ts : List SeenTable). AreOnDisk new ts) (sym pushed)
          (each_push (IsTableOnDisk new) at.tables.items t (tables_stay c.names_are_apart.ensures.tables at.next (omega arith) mid new (made.keeps tells) at.tables.items written.below (at.invariant.on_disk tells)) (made.on_disk tells));
      draws = draws_more at.next first c.split_table-first.result.0 c.split_table-first.result.1 at.rest c.args.entries.now c.split_table-first.ensures.parts c.split_table-first.ensures.table.some at.invariant.draws;
      files = kept g (goal.at.loop-rest-preserved g c).After-write_table;
      failures = made.counts.none (λ e. absurd (cc e)) (λ e. absurd (cc e)) ∙ at.invariant.failures;
    }

pub returns-clause-tables : goal.returns-clause-tables
returns-clause-tables g c =
    all_written c.cut_tables_are_runs.ensures c.args.made_at c.args.next.now c.loop-rest.next c.args.entries.now c.loop-rest.tables.items c.loop-rest.rest c.requires c.loop-rest.invariant.written (c.is_empty.ensures.0 c.loop-rest-test.false)

use Rattle.std.proofs.Common.{◌+◌, ◌<◌, ◌≤◌, ◌^◌, List, length, sym, ap, ◌∙◌, subst}
use Rattle.std.specs.List.{AllByRecursion, range_with_len}
use Rattle.std.proofs.lemmas.List.FromFn.{length-range_with_len}
use Rattle.std.proofs.lemmas.Result.{IfOk-weaker}
use Rattle.lsm_below.specs.Keys.{Bytes}
use Rattle.lsm_commit.specs.Stored.{AreOnDisk}
use Rattle.lsm_commit.specs.Contents.{AreWritten}
use Rattle.lsm_compaction.specs.Merges.{AreTablesOf}
use Rattle.lsm_state.specs.Compactions.{AreMerged}
use Rattle.lsm_state.proofs.Merges.{merged, above, on_disk}
use Rattle.lsm_state.proofs.tree.TreeState.write_merged.Goals as goal

pub tables-requires : goal.tables-requires
tables-requires g c =
    ap length (c.deref.ensures.value ∙ c.in-Ok.ensures.ids) ∙ length-range_with_len c.args.self.now.core.next_table (length c.files.result.now) ∙ ap length c.files.ensures

pub returns-clause-merged : goal.returns-clause-merged
returns-clause-merged g c =
    let m = c.args.merged.now in
    let old = c.args.self.now.core in
    let new = c.write_files.new.self.core in
    let ids = c.deref.result.now in
    let is = c.deref.ensures.value ∙ c.in-Ok.ensures.ids ∙ ap (λ l. range_with_len old.next_table (length l)) c.files.ensures in
    let fit = subst (AllByRecursion (λ i. i < 2 ^ 63)) (sym c.deref.ensures.value) c.in-Ok.ensures.below in
    IfOk-weaker c.tables.result (λ ts. AreTablesOf m.job m.files ids ts.items) (λ ts. AreMerged m.job new ts.items)
    (λ ts made. subst (λ k. AreMerged m.job k ts.items) (sym c.in-Ok.ensures.core) (merged m.job m.files ids ts.items made old c.facts.ensures is fit new.next_table (c.in-Ok.ensures.next ∙ ap (λ l. old.next_table + length l) c.files.ensures))) c.tables.ensures.tables

pub returns-clause-fresh : goal.returns-clause-fresh
returns-clause-fresh g c =
    let m = c.args.merged.now in
    let old = c.args.self.now.core in
    let ids = c.deref.result.now in
    let is = c.deref.ensures.value ∙ c.in-Ok.ensures.ids ∙ ap (λ l. range_with_len old.next_table (length l)) c.files.ensures in
    let fit = subst (AllByRecursion (λ i. i < 2 ^ 63)) (sym c.deref.ensures.value) c.in-Ok.ensures.below in
    IfOk-weaker c.tables.result (λ ts. AreTablesOf m.job m.files ids ts.items) (λ ts. AllByRecursion (λ t. old.next_table ≤ t.id) ts.items)
    (λ ts made. above m.job m.files ids ts.items made old c.facts.ensures is fit) c.tables.ensures.tables

pub returns-clause-on_disk : goal.returns-clause-on_disk
returns-clause-on_disk g c tells =
    let m = c.args.merged.now in
    let w = g.S.Store.world c.write_files.new.self.store in
    let ids = c.deref.result.now in
    let written = subst (λ l. AreWritten w ids l) c.files.ensures (subst (λ l. AreWritten w l c.files.result.now) (sym c.deref.ensures.value) (c.in-Ok.ensures.on_disk tells)) in
    IfOk-weaker c.tables.result (λ ts. AreTablesOf m.job m.files ids ts.items) (λ ts. AreOnDisk w ts.items)
    (λ ts made. on_disk m.job m.files ids ts.items made w (c.see_files.ensures tells) written c.tables.ensures.moment) c.tables.ensures.tables

pub returns-in-Err-clause-draws : goal.returns-in-Err-clause-draws
returns-in-Err-clause-draws g c =
    let m = c.args.merged.now in
    (m.files, c.facts-2.ensures, subst (λ (l : List Bytes). c.write_files.new.self.core.next_table ≤ c.args.self.now.core.next_table + length l) c.files.ensures c.write_files.ensures.draws)

pub returns-clause-draws : goal.returns-clause-draws
returns-clause-draws g c =
    let m = c.args.merged.now in
    (m.files, c.facts-2.ensures, subst (λ (l : List Bytes). c.write_files.new.self.core.next_table ≤ c.args.self.now.core.next_table + length l) c.files.ensures c.write_files.ensures.draws)

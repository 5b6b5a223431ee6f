use Rattle.std.proofs.Common.{Some, sym, subst, arith}
use Rattle.std.proofs.lemmas.Result.{IfOk-weaker}
use Rattle.lsm_below.specs.Streams.{Gives}
use Rattle.lsm_tables.specs.Cutting.{AreImagesOf}
use Rattle.lsm_compaction.specs.OpenTables.{IsUnderway, IsWriting}
use Rattle.lsm_compaction.proofs.Underway.{ends_with, first_writing, next_fits}
use Rattle.lsm_compaction.proofs.writing.spell_files.Goals as goal

pub returns-in-None-clause-ok : goal.returns-in-None-clause-ok
returns-in-None-clause-ok g c =
    let all = (g.S.Source.rest c.args.source).entries in
    let at = c.entries in
    let w = at.invariant in
    let target = c.args.target in
    let made_at = c.args.made_at in
    let underway = subst (IsUnderway target made_at all at.files.items w.pending at.table.held) c.in-None.ensures.gives.0 w.underway in
    let count = c.count.ensures made_at w.pending w.has in
    let images = ends_with c.first_ends_cut.ensures target made_at all at.files.items w.pending at.table.held underway (omega arith) in
    IfOk-weaker c.with_open.result _ (λ files. AreImagesOf target made_at all files.items)
    (λ files is. subst (AreImagesOf target made_at all) (sym is) images)
    (c.with_open.ensures.ok made_at w.pending w.has)

pub entries-init : goal.entries-init
entries-init g c = rw c.new-files.ensures.items (first_writing g.S.Item.AsEntry.shows c.args.target c.args.made_at (g.S.Source.rest c.args.source).entries c.in_ok-table.table c.requires.writable c.in_ok-table.ensures)

pub take_entry-requires : goal.take_entry-requires
take_entry-requires g c =
    let all = (g.S.Source.rest c.args.source).entries in
    let rest = (g.S.Source.rest c.next_entry.new.self).entries in
    let at = c.entries in
    let shows = g.S.Item.AsEntry.shows in
    let e = shows c.in-Some-Ok.entry in
    let gives = subst (λ r. Gives shows (g.S.Source.rest at.source) (Some r) (g.S.Source.rest c.next_entry.new.self)) c.in-Some-Ok.field-0-is c.in-Some-Ok.ensures.gives in
    next_fits shows c.args.target c.args.made_at all at.files.items at.table e rest (subst (IsWriting shows c.args.target c.args.made_at all at.files.items at.table) gives.1 at.invariant)

use Rattle.std.proofs.Common.{◌≡◌, ◌∷◌, ◌++◌, [], List, ap, sym, subst, ◌∙◌, arith}
use Rattle.lsm_below.specs.Keys.{Bytes}
use Rattle.lsm_tables.specs.Image.{image}
use Rattle.lsm_compaction.specs.OpenTables.{IsOpenWith, IsUnderway, IsWriting}
use Rattle.lsm_compaction.proofs.Underway.{cut_off, closes, takes_in, ends_by, goes_by}
use Rattle.lsm_compaction.proofs.writing.take_entry.Goals.{then-ends_before+in_ok-next+in_ok-into_file+in_ok-push, else-ends_before}
use Rattle.lsm_compaction.proofs.writing.take_entry.Goals as goal

pub returns-clause-ok : goal.returns-clause-ok
returns-clause-ok g c all rest h =
    let shows = g.I.AsEntry.shows in
    let target = c.args.target in
    let made_at = c.args.made_at in
    let files : List Bytes = c.args.files.now.items in
    let table = c.args.table.now in
    let e = shows c.args.entry in
    let now = c.if-ends_before in
    let count = c.count.ensures made_at h.pending h.has in
    elim now.branch [
      | then-ends_before+in_ok-next+in_ok-into_file+in_ok-push w ↦
          let by = ends_by target table.held h.pending e rest (sym w.if-ends_before.true ∙ c.ends_before.ensures made_at h.pending h.has) h.underway.counted in
          let off = cut_off c.first_ends_cut.ensures target made_at all files h.pending table.held (e ∷ rest) h.underway by.0 (omega arith) by.1 in
          let file : Bytes = w.in_ok-into_file.field-0 in
          let spelled : file ≡ image made_at h.pending = w.in_ok-into_file.ensures.ok made_at h.pending (subst (IsOpenWith shows made_at h.pending) (sym w.replace.ensures.value) h.has) in
          let closed = closes target made_at all files h.pending table.held (e ∷ rest) file h.underway off spelled in
          let new_files : now.files.items ≡ files ++ file ∷ [] = ap (λ v. v.items) w.files-is ∙ w.in_ok-push.ensures.items in
          let fresh : IsOpenWith shows made_at [] now.table = subst (IsOpenWith shows made_at []) (sym (w.table-is ∙ w.replace.ensures.after)) w.in_ok-next.ensures in
          let under : IsUnderway target made_at all now.files.items [] now.table.held (e ∷ rest) = subst (λ (l : List Bytes). IsUnderway target made_at all l [] now.table.held (e ∷ rest)) (sym new_files) (subst (λ n. IsUnderway target made_at all (files ++ file ∷ []) [] n (e ∷ rest)) (sym fresh.held) closed) in
          takes_in shows target made_at all now.files.items [] now.table.held e rest c.push-2.new.self under (λ some other. absurd (omega arith)) (c.in_ok-push-2.ensures made_at [] fresh)
      | else-ends_before w ↦
          let has : IsOpenWith shows made_at h.pending now.table = subst (IsOpenWith shows made_at h.pending) (sym w.table-is) h.has in
          let goes = goes_by target table.held h.pending e (sym w.if-ends_before.false ∙ c.ends_before.ensures made_at h.pending h.has) h.underway.counted c.ranges.target.fits in
          subst (λ (l : List Bytes). IsWriting shows target made_at all l c.push-2.new.self rest) (sym (ap (λ v. v.items) w.files-is)) (takes_in shows target made_at all files h.pending table.held e rest c.push-2.new.self h.underway goes (c.in_ok-push-2.ensures made_at h.pending has))
    ]

use Rattle.std.proofs.Common.{◌++◌, ◌∙◌, ap, sym, subst, take, List, arith}
use Rattle.std.proofs.lemmas.List.{take-append-drop}
use Rattle.lsm_below.specs.Entries.{Entry}
use Rattle.lsm_tables.specs.Image.{IsTable}
use Rattle.lsm_tables.specs.Cutting.{IsWritable}
use Rattle.lsm_tables.proofs.Cutting.{front_table, behind_writable, cut_first}
use Rattle.lsm_tables.proofs.multi_writer.split_table.Goals as goal

pub returns-clause-parts : goal.returns-clause-parts
returns-clause-parts c =
    let es = c.args.entries.now in
    let end = c.first_end-end.result.0 in
    ap (λ (l : List Entry). l ++ c.first_end-end.result.1) c.up_to.ensures ∙ ap (λ (l : List Entry). take end es ++ l) c.first_end-end.ensures.rest ∙ take-append-drop end es

pub returns-clause-table : goal.returns-clause-table
returns-clause-table c =
    let count = c.len.ensures in
    let fits = c.len.type_inv in
    let within = c.first_end-end.ensures.end.within in
    subst IsTable (sym c.up_to.ensures) (front_table c.keys_are_ordered.ensures c.entries_are_ordered.ensures c.args.target c.args.entries.now c.first_end-end.result.0 c.requires.writable c.first_end-end.ensures.end (omega arith))

pub returns-clause-writable : goal.returns-clause-writable
returns-clause-writable c =
    subst IsWritable (sym c.first_end-end.ensures.rest) (behind_writable c.keys_are_ordered.ensures c.entries_are_ordered.ensures c.args.target c.args.entries.now c.first_end-end.result.0 c.requires.writable c.first_end-end.ensures.end)

pub returns-clause-cut : goal.returns-clause-cut
returns-clause-cut c =
    let es = c.args.entries.now in
    rw (c.up_to.ensures, c.first_end-end.ensures.rest) (cut_first c.keys_are_ordered.ensures c.entries_are_ordered.ensures c.args.target es c.first_end-end.result.0 c.requires.writable c.first_end-end.ensures.end)

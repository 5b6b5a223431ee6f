use Rattle.std.proofs.Common.{length, sym, ap, subst, ◌∙◌}
use Rattle.lsm_tables.specs.Sum.{sum_of}
use Rattle.lsm_tables.specs.Tables.{IsKeptTable, IsCountOf, range_of}
use Rattle.lsm_tables.proofs.Lengths.{length_image}
use Rattle.lsm_tables.proofs.table.Table.recover.Goals as goal

pub invariant_of-result : goal.invariant_of-result
invariant_of-result c =
    let read = c.in_ok-created_at.ensures.read in
    let es = c.in_ok-created_at.entries.items in
    subst IsKeptTable (sym c.in_ok-new.ensures.ok) record {
      table = read.table;
      heads = c.in_ok-created_at.ensures.heads;
      range = c.in_ok-key_range.ensures ∙ ap range_of c.deref.ensures.value;
      size = c.len-file_size.ensures.value ∙ ap length read.spelling ∙ length_image c.in_ok-created_at.created_at es;
      sum = c.of-checksum.ensures ∙ ap sum_of (c.as_slice.ensures ∙ read.spelling);
      counts = subst (λ (xs : _). IsCountOf xs c.count-counts.result) c.deref-2.ensures.value c.count-counts.ensures.counts;
    }

use Rattle.lsm_tables.proofs.Cutting.{front_table, behind_writable, cut_first}
use Rattle.lsm_tables.proofs.multi_writer.first_ends_cut.Goals as goal

pub returns : goal.returns
returns c = λ target es end writable at lt.
    let keys = c.keys_are_ordered.ensures in
    let entries = c.entries_are_ordered.ensures in
    record {
      table = front_table keys entries target es end writable at lt;
      writable = behind_writable keys entries target es end writable at;
      cut = cut_first keys entries target es end writable at;
    }

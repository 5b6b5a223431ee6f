-- Memtables as sources of a merge.
use Rattle.std.proofs.Common.{List, [], ◌∷◌}
use Rattle.std.specs.List.{AllByRecursion}
use Rattle.lsm_below.specs.KeptLaws.{ascends}
use Rattle.lsm_below.specs.Streams.{IsInOrder}
use Rattle.lsm_memtable.specs.Memtables.{SeenMemtable}
use Rattle.lsm_tables.specs.Cutting.{IsWritable}
use Rattle.lsm_flush.specs.Jobs.{entries_in, first_source, AreWritable}

pub lists_writable : (ms : List SeenMemtable) → AreWritable ms → AllByRecursion IsWritable (entries_in ms)
lists_writable [] h = tt
lists_writable (m ∷ ms) h = (h.0, lists_writable ms h.1)

pub lists_in_order : (ms : List SeenMemtable) → AreWritable ms → AllByRecursion IsInOrder (entries_in ms)
lists_in_order [] h = tt
lists_in_order (m ∷ ms) h = (ascends m.entries h.0.rises, lists_in_order ms h.1)

pub first_writable : (ms : List SeenMemtable) → AreWritable ms → IsWritable (first_source (entries_in ms))
first_writable [] h = record { each = tt; rises = tt }
first_writable (m ∷ ms) h = h.0

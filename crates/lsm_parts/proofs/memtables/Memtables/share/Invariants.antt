use Rattle.std.proofs.Common.{◌≡◌, map, take}
use Rattle.lsm_flush.specs.Jobs.{ids_in, entries_in, AreWritable}
use Rattle.lsm_parts.specs.Held.{entries_of}
use Rattle.lsm_parts.proofs.memtables.Memtables.share.Given as goal

abbrev pub invariant-loop-id : goal.invariant-loop-id
invariant-loop-id l = record {
  same : l.self ≡ l.initial.self;
  ids : ids_in l.list.items ≡ take l.id-index l.ids;
  entries : entries_in l.list.items ≡ map (entries_of l.initial.self) (take l.id-index l.ids);
  writable : AreWritable l.list.items;
}

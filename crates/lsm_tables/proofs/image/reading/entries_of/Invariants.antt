use Rattle.std.proofs.Common.{◌≡◌, ◌-◌}
use Rattle.lsm_below.specs.Heads.{AreHeads}
use Rattle.lsm_tables.specs.Reading.{many}
use Rattle.lsm_tables.specs.Spellings.{with_front}
use Rattle.lsm_tables.specs.ImageReading.{spelled_at, rises}
use Rattle.lsm_tables.proofs.image.reading.entries_of.Given as goal

abbrev pub invariant-loop : goal.invariant-loop
invariant-loop l = record {
  read : with_front l.entries.items (many spelled_at (l.count - l.counter) l.bytes) ≡ many spelled_at l.count l.fn.bytes;
  heads : AreHeads l.heads.items l.entries.items;
  rising : l.rising ≡ rises l.entries.items;
}

use Rattle.std.proofs.Common.{◌≡◌, ◌-◌}
use Rattle.lsm_tables.specs.Reading.{many}
use Rattle.lsm_tables.specs.Spellings.{with_front}
use Rattle.lsm_log.specs.RecordReading.{spelled_at}
use Rattle.lsm_log.proofs.reading.operations_of.Given as goal

abbrev pub invariant-loop : goal.invariant-loop
invariant-loop l = with_front l.ops.items (many spelled_at (l.count - l.counter) l.bytes) ≡ many spelled_at l.count l.fn.bytes

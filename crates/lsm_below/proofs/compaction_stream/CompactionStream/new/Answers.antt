use Rattle.std.proofs.Common.{false}
use Rattle.lsm_below.proofs.Keeping.{compacts}
use Rattle.lsm_below.proofs.compaction_stream.CompactionStream.new.Goals as goal

pub returns-clause-kept : goal.returns-clause-kept
returns-clause-kept g c = compacts c.args.watermark false (g.S.Source.rest c.args.source).entries c.requires

use Rattle.std.proofs.Common.{length}
use Rattle.lsm_compaction.specs.OpenTables.{IsWriting}
use Rattle.lsm_compaction.proofs.writing.spell_files.Given as goal

-- files, the table that is open, and the entries that are still to come
abbrev pub invariant-entries : goal.invariant-entries
invariant-entries g l = IsWriting g.S.Item.AsEntry.shows l.target l.made_at (g.S.Source.rest l.fn.source).entries l.files.items l.table (g.S.Source.rest l.source).entries

abbrev pub decreases-entries : goal.decreases-entries
decreases-entries g l = length (g.S.Source.rest l.source).entries

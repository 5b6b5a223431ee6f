-- Blocks that follow each other, in the two slices that a ring has of them.
use Rattle.std.specs.Prelude.{List, ◌++◌}
use Rattle.lsm_below.specs.Entries.{Entry}
use Rattle.lsm_memtable.specs.declared.part.Part.{Part}

-- the blocks of both slices, in order
abbrev pub blocks_of : Part → List (List Entry)
blocks_of p = p.first.now ++ p.second.now

-- What is left of a source that is lent, and pairs that are lent.
use Rattle.std.specs.Prelude.{◌≡◌, List, [], Option, Some, None}
use Rattle.std.specs.Borrow.{Bor}
use Rattle.lsm_below.specs.Keys.{Bytes}
use Rattle.lsm_below.specs.Entries.{Entry}
use Rattle.lsm_iter.specs.Ends.{IsTaken}
use Rattle.lsm_iter.specs.Guards.{pair_of}
use Rattle.lsm_iter.specs.declared.tree_iter.End.{End}
use Rattle.lsm_iter.specs.declared.lender.Source.{Source}
use Rattle.lsm_iter.specs.declared.lender.Source.TheVariants.{Memtable, Tables}

-- the entries that are left
abbrev pub left_in : Source → List Entry
left_in (Memtable entries) = entries
left_in (Tables tables) = tables

-- the pair of an entry is lent, that is taken from this end; none where nothing is left
abbrev pub LendsPair : End → List Entry → Option (Bor Bytes × Bor Bytes) → List Entry → Type 0
LendsPair end s None t = (s ≡ []) × (t ≡ [])
LendsPair end s (Some p) t = (e : Entry) × IsTaken end s e t × ((p.0.now, p.1.now) ≡ pair_of e)

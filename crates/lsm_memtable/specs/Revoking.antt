-- A batch that may be taken back.
use Rattle.std.specs.Prelude.{◌≡◌, ℕ, List, length}
use Rattle.std.specs.List.{All}
use Rattle.lsm_below.specs.Entries.{Entry, HasBytes}
use Rattle.lsm_memtable.specs.declared.memtable.Revocable.{Revocable}
use Rattle.lsm_memtable.specs.Memtables.{SeenMemtable, highest_of}
use Rattle.lsm_memtable.specs.Undo.{AreUndone}

-- it takes entries back to what they were before, and what is counted of them
pub record Reverts (r : Revocable) (before : List Entry) (total : ℕ) (now : List Entry) : Type 0 where
  pub puts : AreUndone r.log.items before now
  pub bytes : All HasBytes before
  pub count : r.count ≡ length before
  pub size : r.size ≡ total
  pub highest : r.highest ≡ highest_of before

-- it takes the memtable back to what it was before
pub record TakesBack (r : Revocable) (before now : SeenMemtable) : Type 0 where
  pub content : Reverts r before.entries before.size now.entries
  pub id : before.id ≡ now.id
  pub flagged : before.flagged ≡ now.flagged

-- The content of a table's file that grows entry by entry.
use Rattle.std.specs.Prelude.{◌≡◌, ℕ, List, ◌++◌, length}
use Rattle.std.specs.List.{flat_map}
use Rattle.lsm_below.specs.Keys.{Bytes}
use Rattle.lsm_below.specs.Entries.{Entry}
use Rattle.lsm_tables.specs.Image.{front, spelled}

-- when it is made, its bytes so far, and how many entries they spell
pub record SeenOpenImage : Type 0 where
  pub made_at : ℕ
  pub bytes : Bytes
  pub count : ℕ

-- it spells these entries, after a front that doesn't count them yet
pub record Spells (es : List Entry) (i : SeenOpenImage) : Type 0 where
  pub bytes : i.bytes ≡ front i.made_at 0 ++ flat_map spelled es
  pub count : i.count ≡ length es

-- What an insert among blocks does.
use Rattle.std.specs.Prelude.{◌≡◌, ℕ, ◌+◌, ◌≤◌, List, Result, OnOk, OnErr}
use Rattle.std.specs.List.{All, insert}
use Rattle.lsm_below.specs.Entries.{Entry}
use Rattle.lsm_memtable.specs.Blocks.{joined, IsFilled}
use Rattle.lsm_memtable.specs.declared.steps.Steps.{Steps}

-- an insert among blocks: the entry stands at this place of their list, or nothing changes
pub record Inserts {T E : Type 0} (r : Result T E) (old new : List (List Entry)) (at : ℕ) (e : Entry) : Type 0 where
  pub ok : OnOk r (joined new ≡ insert (joined old) at e)
  pub err : OnErr r (new ≡ old)
  pub filled : All IsFilled new

-- what an insert counts: no comparison, and at most 64 entries that move, none where it fails
pub record MovesFew {T E : Type 0} (r : Result T E) (old new : Steps) : Type 0 where
  pub moved : new.moved ≤ old.moved + 64
  pub unmoved : OnErr r (new.moved ≡ old.moved)
  pub compared : new.compared ≡ old.compared

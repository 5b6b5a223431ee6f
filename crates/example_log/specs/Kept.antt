-- What an acknowledged batch is after a crash, as a user asks it: derived from the contracts of public calls.
use Rattle.std.specs.Prelude.{◌≡◌, ℕ, ◌<◌, List, Option, map}
use Rattle.std.specs.FinMap.{empty, get}
use Rattle.lsm_logged.specs.Keys.{Bytes}
use Rattle.lsm_logged.specs.Journal.{replay}
use Rattle.lsm_logged.specs.Ops.{op_entries}
use Rattle.lsm_logged.specs.Op.{Op}
use Rattle.lsm_logged.specs.JournalEntry.TheVariants.{Write}
use Rattle.lsm_logged.specs.Calls.{Gives}
use Rattle.lsm_logged.specs.Core.{Core}

-- Of a batch on a new tree nothing is missing, and there is nothing else: it has a number that is visible, and at each snapshot
-- above that a get answers what the replay of the batch's writes alone does.
pub record HoldsBatch (ops : List (Bytes × Op)) (c : Core) : Type 0 where
  pub number : ℕ
  pub visible : number < c.visible_seqno
  pub gets : (s : ℕ) → number < s → (k : Bytes) (v : Option Bytes) → Gives c k s v → v ≡ get (replay empty (map Write (op_entries number ops)) s) k

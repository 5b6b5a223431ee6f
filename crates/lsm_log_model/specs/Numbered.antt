-- What a crash leaves of a logged tree is numbered below whatever is above all that was opened, written and in doubt.
use Rattle.std.specs.Prelude.{ℕ, ◌<◌, ◌≤◌, List, Option}
use Rattle.std.specs.List.{AllByRecursion}
use Rattle.lsm_below.specs.Entries.{Entry, above}
use Rattle.lsm_model.specs.Journal.{Event, InOrder}
use Rattle.lsm_model.specs.Counted.{OfWrite}
use Rattle.lsm_log_model.specs.Records.{LogImage, LogStands, entries_in, opened_by}
use Rattle.lsm_log_model.specs.Logs.{Logged, LostBatch, lost_of, Act, AllActs, MayBeLeft}
use Rattle.lsm_log_model.specs.Replays.{IsReopened}

-- what was opened, all that is written, and the batch of unknown outcome are numbered below this
pub record AreBelow (n : ℕ) (opened : List Entry) (journal : List Event) (lost : Option LostBatch) : Type 0 where
  pub before : above opened ≤ n
  pub written : AllByRecursion (OfWrite (λ e. e.key.seqno < n)) journal
  pub doubtful : AllByRecursion (λ e. e.key.seqno < n) (entries_in (lost_of lost))

-- so is what a crash may leave at any moment of a call: no flush and no merge gives an entry a greater number
abbrev pub LeftIsNumbered : Type 0
LeftIsNumbered = (image : LogImage) (first old new : Logged) (earlier call : List Act) → LogStands image → IsReopened image first
    → AllActs (opened_by image) first earlier old → (done : AllActs (opened_by image) old call new) → InOrder (opened_by image) new.tree.state.journal
    → (n : ℕ) → AreBelow n (opened_by image) new.tree.state.journal new.lost
    → (left : LogImage) → MayBeLeft left (opened_by image) old call new done → above (opened_by left) ≤ n

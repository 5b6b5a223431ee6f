-- How the calls of a logged tree are acts: what crates above the theory put together.
use Rattle.std.specs.Prelude.{◌≡◌, ℕ, ◌<◌, ◌≤◌, true, List, ◌++◌, ◌⊎◌}
use Rattle.std.specs.List.{AllByRecursion}
use Rattle.lsm_below.specs.Entries.{Entry, above}
use Rattle.lsm_model.specs.Journal.{InOrder}
use Rattle.lsm_model.specs.Views.{IsIn}
use Rattle.lsm_model.specs.Beginnings.{is_commit}
use Rattle.lsm_log_model.specs.Records.{Batch, IsRising, LogImage, LogStands, counted, opened_by}
use Rattle.lsm_log_model.specs.Logs.{Logged, lost_of, LogIsSound, HasRecords, MayBeDrawn, Act, Batched, BatchLost, Did, CommitLost, Acts, AllActs, MayLeave, MayBeLeft}
use Rattle.lsm_log_model.specs.Replays.{IsReopened}

-- acts after acts are acts, in which all that is left in either is left; what is left before and after acts is left in them
pub record ActsJoin : Type 0 where
  pub both : (opened : List Entry) (old mid new : Logged) (xs ys : List Act) (d : AllActs opened old xs mid) (e : AllActs opened mid ys new)
      → (all : AllActs opened old (xs ++ ys) new) × ((left : LogImage) → MayBeLeft left opened old xs mid d ⊎ MayBeLeft left opened mid ys new e → MayBeLeft left opened old (xs ++ ys) new all)
  pub cut : (opened : List Entry) (old new : Logged) (xs ys : List Act) → AllActs opened old (xs ++ ys) new → (mid : Logged) × AllActs opened old xs mid × AllActs opened mid ys new
  pub ends : (left : LogImage) (opened : List Entry) (old new : Logged) (acts : List Act) (d : AllActs opened old acts new) → MayLeave old left ⊎ MayLeave new left → MayBeLeft left opened old acts new d

-- ---- records

-- records stay so after any acts
abbrev pub LogStaysSound : Type 0
LogStaysSound = (image : LogImage) (first new : Logged) (acts : List Act) → LogStands image → IsReopened image first → AllActs (opened_by image) first acts new → InOrder (opened_by image) new.tree.state.journal → LogIsSound new

-- an image in which, record by record, only what may be there is, and all that must be, has the records that it may have
abbrev pub RecordsAreFound : Type 0
RecordsAreFound = (t : Logged) (left : LogImage) → LogIsSound t → IsRising (counted left)
    → ((b : Batch) → IsIn b (counted left) → IsIn b (t.records ++ lost_of t.lost))
    → ((b : Batch) → IsIn b t.records → left.log_from ≤ b.number → IsIn b (counted left))
    → HasRecords left t

-- ---- the counter

-- the number that an act draws is below this one
abbrev pub DrawsBelow : Act → Logged → ℕ → Type 0
DrawsBelow (Batched b) new c = b.number < c
DrawsBelow (BatchLost b) new c = b.number < c
DrawsBelow (Did action) new c = is_commit action ≡ true → new.tree.state.latest.number < c
DrawsBelow (CommitLost action would) new c = would.latest.number < c

-- a counter that stands above all does so after each act, if it never falls and is past what the act drew
pub record CounterStaysAbove : Type 0 where
  pub opened : (image : LogImage) (t : Logged) (c : ℕ) → IsReopened image t → above (opened_by image) ≤ c → image.log_from ≤ c → AllByRecursion (λ b. b.number < c) (counted image) → MayBeDrawn (opened_by image) t c
  -- it may be past more than was drawn, as where a number was used and nothing came of it
  pub later : (opened : List Entry) (t : Logged) (c d : ℕ) → c ≤ d → MayBeDrawn opened t c → MayBeDrawn opened t d
  pub act : (image : LogImage) (first old new : Logged) (earlier : List Act) (act : Act) (c d : ℕ) → LogStands image → IsReopened image first → AllActs (opened_by image) first earlier old → Acts (opened_by image) old act new → InOrder (opened_by image) new.tree.state.journal
      → MayBeDrawn (opened_by image) old c → c ≤ d → DrawsBelow act new d → MayBeDrawn (opened_by image) new d

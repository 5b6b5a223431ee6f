-- What outlives any number of crashes, as a user asks it: derived from the contracts of public calls.
use Rattle.std.specs.Prelude.{◌≡◌, ◌⊎◌, ℕ, ◌+◌, ◌<◌, ◌≤◌, Bool, true, false, List, [], ◌∷◌, length, take, OnOk}
use Rattle.lsm_log_runs.specs.Entries.{Entry, above}
use Rattle.lsm_runs.specs.Error.{Error}
use Rattle.lsm_runs.specs.Error.TheVariants.{OutOfMemory, Store, CommitUnknown}
use Rattle.lsm_log_runs.specs.World.{IsImage}
use Rattle.lsm_log_runs.specs.Memory.{MemStore, may_of, world_of}
use Rattle.lsm_log_runs.specs.Picks.{Picks, picked}
use Rattle.lsm_log_runs.specs.Journal.{Map}
use Rattle.lsm_log_runs.specs.Recovery.{HoldsBatches}
use Rattle.lsm_log_runs.specs.Meanwhile.{LeavesAsBefore}
use Rattle.lsm_runs.specs.Causes.{ReplyBlames}
use Rattle.lsm_runs.specs.Dropping.{Drops}
use Rattle.lsm_log_runs.specs.Reply.{Reply}
use Rattle.lsm_log_runs.specs.declared.steps.LogStep.{LogStep}
use Rattle.lsm_log_runs.specs.declared.steps.TakenLogged.{TakenLogged}
use Rattle.lsm_log_runs.specs.Adds.{LogAdds}
use Rattle.lsm_log_runs.specs.Dropping.{MayDropBy}
use Rattle.lsm_log_runs.specs.Living.{LivesLogged}
use Rattle.lsm_log_runs.specs.Pasts.{LogPast, nothing, acknowledged}
use Rattle.lsm_log_runs.specs.Stages.{Answers}
use Rattle.lsm_log_runs.specs.Trying.{HasReason}
use Rattle.example_lives.specs.declared.lives.Life.{Life}
use Rattle.example_lives.specs.declared.lives.Lived.{Lived}
use Rattle.example_lives.specs.declared.lives.Lived.TheVariants.{Took, Refused}

-- ---- one life

-- From what was called before, under the counter, to what was called in the end, step by step: a read answers what the replay of the calls
-- before it does; a batch is refused for its reason, and no step tells of a fault unless a call of the store failed; what a step adds follows
-- from its kind and its reply, and it draws one number at most, the one at which the counter stands.
abbrev pub EachTakes : Drops → (failures : ℕ) → List Entry → Map → List LogStep → List Reply → LogPast → ℕ → LogPast → ℕ → Type 0
EachTakes May failures opened start [] [] past counter last last_counter = (last ≡ past) × (last_counter ≡ counter)
EachTakes May failures opened start (x ∷ steps) (r ∷ replies) past counter last last_counter =
    Answers opened start past.journal x r × HasReason counter past.known x r × (ReplyBlames r → 0 < failures)
    × ((next : LogPast) × (c : ℕ) × LogAdds (MayDropBy May x) counter x r past next × (counter ≤ c) × (c ≤ counter + 1) × EachTakes May failures opened start steps replies next c last last_counter)
EachTakes May failures opened start steps replies past counter last last_counter = ⊥

-- A tree that showed this map, all of it numbered below this number, took these steps: all of them, unless memory ran out. So many calls of
-- its store had failed in the end.
pub record LivesWithLog (May : Drops) (start : Map) (least : ℕ) (steps : List LogStep) (taken : TakenLogged) (failures : ℕ) : Type 0 where
  pub all : OnOk taken.ended (length taken.replies.items ≡ length steps)
  -- the entries that it found, and its counter above them: none, and 0, where the number is 0
  pub opened : List Entry
  pub counter : ℕ
  pub found : above opened ≤ counter
  pub starts : counter ≤ least
  -- what was called in the end, and where the counter stood then
  pub past : LogPast
  pub last : ℕ
  pub takes : EachTakes May failures opened start (take (length taken.replies.items) steps) taken.replies.items nothing counter past last

-- The map is, outside dropped ranges, a beginning of the calls of that life: it stands between two batches, and holds all that was
-- acknowledged, flushed or cleared. The batch of unknown outcome, if there is one, is in it whole, or not at all.
abbrev pub IsLeftWhole : {May : Drops} {start : Map} {least : ℕ} {steps : List LogStep} {taken : TakenLogged} {failures : ℕ} → LivesWithLog May start least steps taken failures → Map → Type 0
IsLeftWhole {start = start} life left = HoldsBatches start life.past.journal life.past.notes life.past.lost (acknowledged life.past) left

-- ---- life after life

-- why an opening is refused, on a store of which so many calls have failed: for want of memory, or since one of them failed
abbrev pub IsWant : Error → (failures : ℕ) → Type 0
IsWant e failures = (e ≡ OutOfMemory) ⊎ (((e ≡ Store) ⊎ (e ≡ CommitUnknown)) × (0 < failures))

-- the lives after this one follow; or none does, and that is told
abbrev pub FollowsOrEnds : Bool → List Lived → (Rest : Type 0) → Type 0
FollowsOrEnds crashed lived Rest = Rest ⊎ ((lived ≡ []) × (crashed ≡ false))

-- Each life that is opened begins with a map that is left, numbered below this number, and what it leaves is for the next ones. One that isn't
-- opened was refused for its cause, and leaves what was left before.
abbrev pub EachRemembers : Drops → (Left : Map → Type 0) → (least : ℕ) → List Life → List Lived → (crashed : Bool) → Type 0
EachRemembers May Left least [] [] crashed = crashed ≡ true
EachRemembers May Left least (life ∷ lives) (Took taken store ∷ lived) crashed =
    (start : Map) × Left start × ((l : LivesWithLog May start least life.steps.items taken store.failures)
    × FollowsOrEnds crashed lived (EachRemembers May (IsLeftWhole l) l.last lives lived crashed))
EachRemembers May Left least (life ∷ lives) (Refused e store ∷ lived) crashed = IsWant e store.failures × FollowsOrEnds crashed lived (EachRemembers May Left least lives lived crashed)
EachRemembers May Left least lives lived crashed = ⊥

-- ---- crash after crash

-- the store in the end of a life
abbrev pub store_of : Lived → MemStore
store_of (Took taken store) = store
store_of (Refused e store) = store

-- a crash may leave what is picked of the store
abbrev pub CanBeLeft : Picks → MemStore → Type 0
CanBeLeft picks store = IsImage (may_of store.files) (picked store.files picks)

-- After each life a crash may leave what is picked, and the next one follows; or none may, no life follows, and that is told.
abbrev pub EachCrashes : List Life → List Lived → (crashed : Bool) → Type 0
EachCrashes [] [] crashed = crashed ≡ true
EachCrashes (life ∷ lives) (how ∷ lived) crashed =
    (CanBeLeft life.picks.items (store_of how) × EachCrashes lives lived crashed) ⊎ ((CanBeLeft life.picks.items (store_of how) → ⊥) × (lived ≡ []) × (crashed ≡ false))
EachCrashes lives lived crashed = ⊥

-- ---- one call

-- a life that was lived on this store, or ended in its opening
abbrev pub LivesSo : Drops → MemStore → List LogStep → Lived → Type 0
LivesSo May was steps (Took taken is) = OnOk taken.ended (length taken.replies.items ≡ length steps) × LivesLogged May world_of 0 (take (length taken.replies.items) steps) taken.replies.items was is
LivesSo May was steps (Refused e is) = IsWant e is.failures × LeavesAsBefore (world_of was) (world_of is)

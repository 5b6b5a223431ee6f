-- A tree with a log above it, and what it does: each batch has a record, and each version says from which number on records count.
use Rattle.std.specs.Prelude.{◌≡◌, ℕ, ◌<◌, ◌≤◌, max, Bool, true, false, List, [], ◌∷◌, ◌++◌, Option, Some, None, map, flat_map, length, ◌⊎◌}
use Rattle.std.specs.List.{AllByRecursion}
use Rattle.lsm_below.specs.Entries.{Entry, above}
use Rattle.lsm_model.specs.Journal.{InOrder, next_number}
use Rattle.lsm_model.specs.Views.{IsIn}
use Rattle.lsm_model.specs.Steps.{State, Action, Wrote, Flushed, Cleared}
use Rattle.lsm_model.specs.Beginnings.{Saved, Deed, Done, Deeds, IsDone, IsLost, is_commit, covered}
use Rattle.lsm_model.specs.declared.journal.JournalEntry.TheVariants.{Write}
use Rattle.lsm_log_model.specs.Records.{Batch, entries_of, HasDistinctKeys, since, IsRising, LogImage, counted}

-- ---- states

-- a batch of unknown outcome, and the place of the journal at which it came
pub record LostBatch : Type 0 where
  pub batch : Batch
  pub place : ℕ

-- a tree and its log. Records below `log_from` are no part of it: that they are removed, or come back, is no deed
pub record Logged : Type 0 where
  pub tree : Saved
  -- `log_from` of the latest version, and of one of unknown outcome
  pub log_from : ℕ
  pub other_from : ℕ
  -- the records that count, by rising number
  pub records : List Batch
  pub lost : Option LostBatch
  -- the place after the last acknowledged batch
  pub reached : ℕ

-- no outcome is unknown
abbrev pub IsCertain : Logged → Type 0
IsCertain t = (t.tree.others ≡ []) × (t.lost ≡ None)

-- the batch of unknown outcome, if there is one
abbrev pub lost_of : Option LostBatch → List Batch
lost_of None = []
lost_of (Some l) = l.batch ∷ []

-- records count, and rise, one of unknown outcome last; each has distinct keys
pub record LogIsSound (t : Logged) : Type 0 where
  pub rising : IsRising (t.records ++ lost_of t.lost)
  pub counts : AllByRecursion (λ b. t.log_from ≤ b.number) (t.records ++ lost_of t.lost)
  pub distinct : AllByRecursion HasDistinctKeys (t.records ++ lost_of t.lost)

-- the place after all that is acknowledged: batches, installed flushes and answered clears
abbrev pub secured : Logged → ℕ
secured t = max (covered t.tree.notes) t.reached

-- a number that the counter may draw: above all of the journal and of the records, and not below `log_from`
pub record MayBeDrawn (opened : List Entry) (t : Logged) (n : ℕ) : Type 0 where
  pub above_journal : next_number opened t.tree.state.journal ≤ n
  pub above_version : t.log_from ≤ n
  pub above_records : AllByRecursion (λ b. b.number < n) t.records

-- ---- acts

-- `log_from` of the version that an action makes: a flush raises it above all that it flushes, a clear sets it to its own number
abbrev pub next_from : State → ℕ → Action → ℕ
next_from old from (Flushed w job made) = max from (above (flat_map old.mems job))
next_from old from (Cleared n a) = n
next_from old from other = from

-- does the action write an entry?
abbrev pub is_write : Action → Bool
is_write (Wrote e) = true
is_write other = false

-- the log beside a tree that did an action: the version of a commit says from where records count
abbrev pub did : Logged → Action → Saved → Logged
did old action tree = let from = next_from old.tree.state old.log_from action in record old { tree = tree; log_from = from; records = since from old.records }

-- the log beside a tree, a commit of which has unknown outcome
abbrev pub doubted : Logged → Action → Saved → Logged
doubted old action tree = record old { tree = tree; other_from = next_from old.tree.state old.log_from action }

-- the deeds that write these entries
abbrev pub writes_of : List Entry → List Deed
writes_of es = map (λ e. Done (Wrote e)) es

-- what a logged tree does, where a crash may come at any time
pub data Act : Type 0 where
  -- a batch that is acknowledged, and one of unknown outcome
  Batched : Batch → Act
  BatchLost : Batch → Act
  -- an action of the tree that is answered, and a commit of unknown outcome with what it would have made; neither writes
  Did : Action → Act
  CommitLost : Action → State → Act

-- the record is put, and then the tree has the writes
pub record IsBatched (opened : List Entry) (old : Logged) (b : Batch) (new : Logged) : Type 0 where
  pub certain : IsCertain old
  pub distinct : HasDistinctKeys b
  pub drawn : MayBeDrawn opened old b.number
  pub writes : Deeds opened old.tree (writes_of (entries_of b)) new.tree
  pub rest : new ≡ record old { tree = new.tree; records = old.records ++ b ∷ []; reached = length new.tree.state.journal }

-- the record may be there, and the tree has nothing of it; the batch counts as a call for the order of calls, since it may be replayed
pub record IsBatchLost (opened : List Entry) (old : Logged) (b : Batch) (new : Logged) : Type 0 where
  pub certain : IsCertain old
  pub distinct : HasDistinctKeys b
  pub drawn : MayBeDrawn opened old b.number
  pub order : InOrder opened (old.tree.state.journal ++ map Write (entries_of b))
  pub rest : new ≡ record old { lost = Some (record { batch = b; place = length old.tree.state.journal }) }

-- an action of the tree; a commit draws its number, where no outcome is unknown
pub record IsDid (opened : List Entry) (old : Logged) (action : Action) (new : Logged) : Type 0 where
  pub silent : is_write action ≡ false
  pub certain : is_commit action ≡ true → IsCertain old
  pub drawn : is_commit action ≡ true → MayBeDrawn opened old new.tree.state.latest.number
  pub done : IsDone opened old.tree action new.tree
  pub rest : new ≡ did old action new.tree

-- a commit of unknown outcome: opening may find either version, each with its `log_from`
pub record IsCommitLost (opened : List Entry) (old : Logged) (action : Action) (would : State) (new : Logged) : Type 0 where
  pub certain : IsCertain old
  pub drawn : MayBeDrawn opened old would.latest.number
  pub lost : IsLost opened old.tree action would new.tree
  pub rest : new ≡ doubted old action new.tree

-- an act leads from one state to another
abbrev pub Acts : List Entry → Logged → Act → Logged → Type 0
Acts opened old (Batched b) new = IsBatched opened old b new
Acts opened old (BatchLost b) new = IsBatchLost opened old b new
Acts opened old (Did action) new = IsDid opened old action new
Acts opened old (CommitLost action would) new = IsCommitLost opened old action would new

-- acts, one after the other, lead from one state to another
abbrev pub AllActs : List Entry → Logged → List Act → Logged → Type 0
AllActs opened old [] new = new ≡ old
AllActs opened old (act ∷ acts) new = (mid : Logged) × Acts opened old act mid × AllActs opened mid acts new

-- ---- what a crash may leave

-- either version, with its `log_from`
abbrev pub HasVersion : LogImage → Logged → Type 0
HasVersion left t = ((left.tables ≡ t.tree.state.latest.tables) × (left.log_from ≡ t.log_from)) ⊎ (IsIn left.tables t.tree.others × (left.log_from ≡ t.other_from))

-- the records of the log that count for it, after which one of unknown outcome may stand
abbrev pub HasRecords : LogImage → Logged → Type 0
HasRecords left t = (counted left ≡ since left.log_from t.records) ⊎ ((l : LostBatch) × (t.lost ≡ Some l) × (counted left ≡ since left.log_from (t.records ++ l.batch ∷ [])))

-- what a crash may leave at this moment
pub record MayLeave (t : Logged) (left : LogImage) : Type 0 where
  pub version : HasVersion left t
  pub records : HasRecords left t

-- what a crash may leave at some moment of these acts
abbrev pub MayBeLeft : LogImage → (opened : List Entry) (old : Logged) (acts : List Act) (new : Logged) → AllActs opened old acts new → Type 0
MayBeLeft left opened old [] new done = MayLeave old left
MayBeLeft left opened old (act ∷ acts) new done = MayLeave old left ⊎ MayBeLeft left opened done.0 acts new done.2

-- What calls of a logged tree are to the theory: acts, whatever logged tree of the theory it is.
use Rattle.std.specs.Prelude.{◌≡◌, ◌⊎◌, ℕ, ◌+◌, ◌≤◌, true, false, List, [], ◌∷◌, ◌++◌, length, Option, Some, None, Result, Ok, Err, IfOk, IfErr, IsErrOf}
use Rattle.lsm_below.specs.Entries.{Entry}
use Rattle.lsm_below.specs.declared.error.Error.{Error}
use Rattle.lsm_below.specs.declared.error.Error.TheVariants.{CommitUnknown, AfterCommit}
use Rattle.lsm_store.specs.World.{Image, World, LeavesOnly}
use Rattle.lsm_model.specs.Journal.{Event, Map}
use Rattle.lsm_model.specs.Sound.{Holds}
use Rattle.lsm_model.specs.Steps.{State, Action, Rotated, Flushed, Merged, Moved, DroppedTables, Cleared, Marked, Maintained}
use Rattle.lsm_model.specs.Views.{Placed}
use Rattle.lsm_model.specs.Beginnings.{Note, SealedAt, FlushedIds, ClearedTo, ClearLost}
use Rattle.lsm_model.specs.declared.journal.JournalEntry.TheVariants.{Clear, Install, Mark}
use Rattle.lsm_versions.specs.Chosen.{AreIdsOf}
use Rattle.lsm_versions.specs.Levels.{HasOwnIds, all_of}
use Rattle.lsm_pick.specs.declared.bounds.OwnedBounds.{OwnedBounds}
use Rattle.lsm_pick.specs.Simple.{bounded}
use Rattle.lsm_commit.specs.Stored.{IsStored, HoldsOneOf}
use Rattle.lsm_flush.specs.Jobs.{SeenWritten}
use Rattle.lsm_flush.specs.declared.jobs.Registered.{Registered}
use Rattle.lsm_compaction.specs.Merges.{SeenCompaction, evicts}
use Rattle.lsm_log_model.specs.Logs.{Logged as Log, MayBeDrawn, Act, Did, CommitLost, AllActs}
use Rattle.lsm_log_model.specs.Joins.{DrawsBelow}
use Rattle.lsm_state.specs.Core.{Core, versions_left, written_of}
use Rattle.lsm_state.specs.CompactionDeeds.{dropped_by, IsMarkedIn}
use Rattle.lsm_state.specs.Compactions.{levels_of}
use Rattle.lsm_state.specs.Flushes.{sealed_ids, flush_of}
use Rattle.lsm_state.specs.declared.compaction.Begun.{Begun}
use Rattle.lsm_state.specs.declared.compaction.Finished.{Finished}
use Rattle.lsm_state.specs.declared.compaction.Finished.TheVariants.{Installed as IsFinished}
use Rattle.lsm_state.specs.declared.compaction.Begun.TheVariants.{Installed as IsInstalled}
use Rattle.lsm_logged.specs.Keeping.{SeenLogged, IsLogOf, KeepsLog, IsLogIn}

-- ---- acts in a store

-- the image has one of a tree's versions, and beside it the records of a logged tree of the theory
abbrev pub HoldsLog : Core → Log → Image → Type 0
HoldsLog c t image = HoldsOneOf (versions_left c) image × IsLogIn t image

-- each number that acts draw is below this one
abbrev pub DrawBelow : (c : ℕ) (opened : List Entry) (old : Log) (acts : List Act) (new : Log) → AllActs opened old acts new → Type 0
DrawBelow c opened old [] new d = Unit {0}
DrawBelow c opened old (act ∷ acts) new d = DrawsBelow act d.0 c × DrawBelow c opened d.0 acts new d.2

-- these acts lead to a logged tree that is this one, with this journal and these notes, and whose records are in the store
pub record LeadsBy {S : Type 0} (opened : List Entry) (journal : List Event) (notes : List Note) (t : Log) (acts : List Act) (w w' : World) (old new : SeenLogged S) : Type 0 where
  pub log : Log
  pub done : AllActs opened t acts log
  pub is : IsLogOf journal notes new.core new.doubted log
  pub keeps : KeepsLog w' log
  -- the counter never falls, and is past all that was drawn
  pub counter : old.core.seqno ≤ new.core.seqno
  pub drawn : DrawBelow new.core.seqno opened t acts log done
  -- a crash meanwhile leaves a version from before beside the records from before, or one from now beside the records from now
  pub moments : IsStored w (versions_left old.core) (written_of old.core) → LeavesOnly w w' (λ image. HoldsLog old.core t image ⊎ HoldsLog new.core log image)

-- ---- a clear

-- the clear that a tree does next
abbrev pub clear_of : {S : Type 0} → SeenLogged S → Action
clear_of t = Cleared t.core.seqno t.core.next_memtable

-- a clear that stands, whether or not all records after it are removed
abbrev pub LeadsByClear : {S : Type 0} → (opened : List Entry) (journal : List Event) (notes : List Note) (t : Log) (w w' : World) (old new : SeenLogged S) → Type 0
LeadsByClear opened journal notes t w w' old new = LeadsBy opened (journal ++ Clear old.core.seqno ∷ []) (ClearedTo (length journal + 1) ∷ notes) t (Did (clear_of old) ∷ []) w w' old new

-- the clear is an act; so is one of unknown outcome, which is noted at its place; refused otherwise, nothing is done
abbrev pub ActsByClear : {S : Type 0} → Result ℕ Error → (opened : List Entry) (journal : List Event) (notes : List Note) (t : Log) (w w' : World) (old new : SeenLogged S) → Type 0
ActsByClear (Ok n) opened journal notes t w w' old new = LeadsByClear opened journal notes t w w' old new
ActsByClear (Err AfterCommit) opened journal notes t w w' old new = LeadsByClear opened journal notes t w w' old new
ActsByClear (Err CommitUnknown) opened journal notes t w w' old new = (would : State) × LeadsBy opened journal (ClearLost old.core.seqno (length journal) ∷ notes) t (CommitLost (clear_of old) would ∷ []) w w' old new
ActsByClear (Err e) opened journal notes t w w' old new = LeadsBy opened journal notes t [] w w' old new

-- whatever logged tree of the theory it is, whose records are in the store
abbrev pub ClearsAct : {S : Type 0} → Result ℕ Error → World → World → SeenLogged S → SeenLogged S → Type 0
ClearsAct r w w' old new = (opened : List Entry) (journal : List Event) (notes : List Note) (t : Log) → IsLogOf journal notes old.core old.doubted t → KeepsLog w t → MayBeDrawn opened t old.core.seqno → ActsByClear r opened journal notes t w w' old new

-- ---- commits after a mark

-- a commit that stands, at a watermark: the mark, the action, the maintenance
abbrev pub LeadsByCommit : {S : Type 0} → ℕ → Action → List Event → List Note → (opened : List Entry) (journal : List Event) (notes : List Note) (t : Log) (w w' : World) (old new : SeenLogged S) → Type 0
LeadsByCommit mark action events noted opened journal notes t w w' old new = LeadsBy opened (journal ++ Mark mark ∷ events) (noted ++ notes) t (Did (Marked mark) ∷ (Did action ∷ (Did (Maintained mark) ∷ []))) w w' old new

-- one of unknown outcome: the mark, and the doubt
abbrev pub LeadsByLost : {S : Type 0} → ℕ → Action → List Event → (opened : List Entry) (journal : List Event) (notes : List Note) (t : Log) (w w' : World) (old new : SeenLogged S) → Type 0
LeadsByLost mark action events opened journal notes t w w' old new = (would : State) × LeadsBy opened (journal ++ Mark mark ∷ events) notes t (Did (Marked mark) ∷ (CommitLost action would ∷ [])) w w' old new

-- whatever logged tree of the theory it is, whose records are in the store, and whose reads are right
abbrev pub ForEachLog : {S : Type 0} → World → SeenLogged S → (List Entry → List Event → List Note → Log → Type 0) → Type 0
ForEachLog w old P = (opened : List Entry) (start : Map) (journal : List Event) (notes : List Note) (t : Log) → IsLogOf journal notes old.core old.doubted t → KeepsLog w t → MayBeDrawn opened t old.core.seqno → Holds opened start t.tree.state → P opened journal notes t

-- nothing is done, as the theory sees it
abbrev pub ActsNot : {S : Type 0} → World → World → SeenLogged S → SeenLogged S → Type 0
ActsNot w w' old new = (opened : List Entry) (journal : List Event) (notes : List Note) (t : Log) → IsLogOf journal notes old.core old.doubted t → KeepsLog w t → LeadsBy opened journal notes t [] w w' old new

-- ---- a flush

-- the flush of all sealed memtables, which makes these tables
abbrev pub sealed_flush : {S : Type 0} → ℕ → SeenLogged S → List Placed → Action
sealed_flush watermark t made = Flushed watermark (sealed_ids t.core) made

-- an installed flush is an act; so is one of unknown outcome; where nothing is sealed, and refused otherwise, nothing is done
abbrev pub ActsByFlush : {S : Type 0} → ℕ → Result (Option (ℕ × Registered)) Error → (w w' : World) (old new : SeenLogged S) (opened : List Entry) (journal : List Event) (notes : List Note) (t : Log) → Type 0
ActsByFlush watermark (Ok None) w w' old new opened journal notes t = LeadsBy opened journal notes t [] w w' old new
ActsByFlush watermark (Ok (Some p)) w w' old new opened journal notes t = (made : List Placed) × LeadsByCommit watermark (sealed_flush watermark old made) (Install old.core.seqno ∷ []) (FlushedIds (sealed_ids old.core) ∷ []) opened journal notes t w w' old new
ActsByFlush watermark (Err CommitUnknown) w w' old new opened journal notes t = (made : List Placed) × LeadsByLost watermark (sealed_flush watermark old made) [] opened journal notes t w w' old new
ActsByFlush watermark (Err e) w w' old new opened journal notes t = LeadsBy opened journal notes t [] w w' old new

abbrev pub FlushesAct : {S : Type 0} → ℕ → Result (Option (ℕ × Registered)) Error → World → World → SeenLogged S → SeenLogged S → Type 0
FlushesAct watermark r w w' old new = ForEachLog w old (ActsByFlush watermark r w w' old new)

-- ---- a job that is registered

-- installed it is an act; so is one of unknown outcome; stale, and refused otherwise, nothing is done
pub record ActsByRegister {S : Type 0} (job : SeenWritten) (r : Result Registered Error) (w w' : World) (old new : SeenLogged S) (opened : List Entry) (journal : List Event) (notes : List Note) (t : Log) : Type 0 where
  pub installed : IfOk r (λ a. a.installed ≡ true → LeadsByCommit job.watermark (flush_of job) (Install old.core.seqno ∷ []) (FlushedIds job.job.ids ∷ []) opened journal notes t w w' old new)
  pub stale : IfOk r (λ a. a.installed ≡ false → LeadsBy opened journal notes t [] w w' old new)
  pub unknown : IsErrOf r CommitUnknown → LeadsByLost job.watermark (flush_of job) [] opened journal notes t w w' old new
  pub refused : IfErr r (λ e. (e ≡ CommitUnknown → ⊥) → LeadsBy opened journal notes t [] w w' old new)

abbrev pub RegistersAct : {S : Type 0} → SeenWritten → Result Registered Error → World → World → SeenLogged S → SeenLogged S → Type 0
RegistersAct job r w w' old new = ForEachLog w old (ActsByRegister job r w w' old new)

-- ---- a rotation, and a flush after it

-- what sealing the active memtable does, and notes; nothing, where nothing was written to it
abbrev pub rotation_of : Option ℕ → Core → List Act
rotation_of None c = []
rotation_of (Some id) c = Did (Rotated c.next_memtable) ∷ []

abbrev pub sealed_notes : Option ℕ → List Event → Core → List Note
sealed_notes None journal c = []
sealed_notes (Some id) journal c = SealedAt c.history.latest.active_memtable (length journal) ∷ []

abbrev pub LeadsByRotation : {S : Type 0} → Option ℕ → World → (old new : SeenLogged S) (opened : List Entry) (journal : List Event) (notes : List Note) (t : Log) → Type 0
LeadsByRotation id w old new opened journal notes t = LeadsBy opened journal (sealed_notes id journal old.core ++ notes) t (rotation_of id old.core) w w old new

abbrev pub RotatesAct : {S : Type 0} → Result (Option ℕ) Error → World → (old new : SeenLogged S) → Type 0
RotatesAct r w old new = ForEachLog w old (λ opened journal notes t. IfOk r (λ id. LeadsByRotation id w old new opened journal notes t))

-- a rotation leads to a logged tree, and what a flush answers is done from there
abbrev pub ActsBehind : {S : Type 0} → ℕ → Option ℕ → Result (Option (ℕ × Registered)) Error → (w w' : World) (old new : SeenLogged S) (opened : List Entry) (journal : List Event) (notes : List Note) (t : Log) → Type 0
ActsBehind {S} watermark id r w w' old new opened journal notes t = (mid : SeenLogged S) × (first : LeadsByRotation id w old mid opened journal notes t) × ActsByFlush watermark r w w' mid new opened journal (sealed_notes id journal old.core ++ notes) first.log

-- both are acts, one after the other; a refused rotation does nothing
pub record ActsByBoth {S : Type 0} (watermark : ℕ) (r : Result (Option ℕ × Option (ℕ × Registered)) (Error × Option ℕ)) (w w' : World) (old new : SeenLogged S) (opened : List Entry) (journal : List Event) (notes : List Note) (t : Log) : Type 0 where
  pub ok : IfOk r (λ a. ActsBehind watermark a.0 (Ok a.1) w w' old new opened journal notes t)
  pub err : IfErr r (λ e. ActsBehind watermark e.1 (Err e.0) w w' old new opened journal notes t)

abbrev pub FlushesBothAct : {S : Type 0} → ℕ → Result (Option ℕ × Option (ℕ × Registered)) (Error × Option ℕ) → World → World → SeenLogged S → SeenLogged S → Type 0
FlushesBothAct watermark r w w' old new = ForEachLog w old (ActsByBoth watermark r w w' old new)

-- ---- a compaction

-- a merge at this watermark, a move, or a drop of tables that may be dropped
abbrev pub IsCompaction : (List ℕ → Type 0) → ℕ → Action → Type 0
IsCompaction May watermark (Merged w d ids evict made) = w ≡ watermark
IsCompaction May watermark (Moved d ids moved) = Unit {0}
IsCompaction May watermark (DroppedTables ids) = May ids
IsCompaction May watermark other = ⊥

-- of any tables
abbrev pub IsAnyCompaction : ℕ → Action → Type 0
IsAnyCompaction watermark = IsCompaction (λ ids. Unit {0}) watermark

-- a merge at this watermark alone
abbrev pub IsMerging : ℕ → Action → Type 0
IsMerging watermark (Merged w d ids evict made) = w ≡ watermark
IsMerging watermark other = ⊥

-- a drop alone, of just the tables whose whole range lies within bounds, where no id stands twice
abbrev pub DropsWithin : OwnedBounds → Core → Action → Type 0
DropsWithin bounds c (DroppedTables ids) = AreIdsOf ids (bounded bounds (levels_of c)) × HasOwnIds (all_of (levels_of c))
DropsWithin bounds c other = ⊥

-- what it tells before it is known whether it stands: a drop its ranges
abbrev pub told_by : Action → Core → List Event
told_by (DroppedTables ids) c = dropped_by ids c
told_by other c = []

abbrev pub told_installed : Action → Core → List Event
told_installed action c = told_by action c ++ Install c.seqno ∷ []

-- the mark alone
abbrev pub LeadsByMark : {S : Type 0} → ℕ → (w w' : World) (old new : SeenLogged S) (opened : List Entry) (journal : List Event) (notes : List Note) (t : Log) → Type 0
LeadsByMark watermark w w' old new opened journal notes t = LeadsBy opened (journal ++ Mark watermark ∷ []) notes t (Did (Marked watermark) ∷ []) w w' old new

-- an installed compaction is an act, one that may be; so is one of unknown outcome; where nothing is installed, and refused otherwise, it is
-- the mark of its watermark
pub record ActsByCompaction {S : Type 0} (May : Action → Type 0) (watermark : ℕ) (r : Result Begun Error) (w w' : World) (old new : SeenLogged S) (opened : List Entry) (journal : List Event) (notes : List Note) (t : Log) : Type 0 where
  pub done : (r ≡ Ok IsInstalled) ⊎ IsErrOf r AfterCommit → (action : Action) × May action × LeadsByCommit watermark action (told_installed action old.core) [] opened journal notes t w w' old new
  pub lost : IsErrOf r CommitUnknown → (action : Action) × May action × LeadsByLost watermark action (told_by action old.core) opened journal notes t w w' old new
  pub told : IfOk r (λ b. (b ≡ IsInstalled → ⊥) → LeadsByMark watermark w w' old new opened journal notes t)
  pub refused : IfErr r (λ e. (e ≡ AfterCommit → ⊥) → (e ≡ CommitUnknown → ⊥) → LeadsByMark watermark w w' old new opened journal notes t)

abbrev pub CompactsBy : {S : Type 0} → (Action → Type 0) → ℕ → Result Begun Error → World → World → SeenLogged S → SeenLogged S → Type 0
CompactsBy May watermark r w w' old new = ForEachLog w old (ActsByCompaction May watermark r w w' old new)

-- a compaction at the watermark, which drops none but tables that may be dropped
abbrev pub CompactsAct : {S : Type 0} → (List ℕ → Type 0) → ℕ → Result Begun Error → World → World → SeenLogged S → SeenLogged S → Type 0
CompactsAct May watermark r w w' old new = CompactsBy (IsCompaction May watermark) watermark r w w' old new

-- ---- the end of a merge

-- the merge of a job, which makes these tables
abbrev pub merging : SeenCompaction → List Placed → Action
merging job made = Merged job.settings.watermark job.settings.dest_level job.ids (evicts job.settings) made

-- installed it is an act, with the maintenance after it, where no kept snapshot is below its watermark; so is one of unknown outcome;
-- where nothing is installed, and refused otherwise, nothing is done
pub record ActsByMerge {S : Type 0} (job : SeenCompaction) (r : Result Finished Error) (w w' : World) (old new : SeenLogged S) (opened : List Entry) (journal : List Event) (notes : List Note) (t : Log) : Type 0 where
  pub done : (r ≡ Ok IsFinished) ⊎ IsErrOf r AfterCommit → IsMarkedIn job.settings.watermark journal → (made : List Placed) × LeadsBy opened (journal ++ Install old.core.seqno ∷ []) notes t (Did (merging job made) ∷ (Did (Maintained job.settings.watermark) ∷ [])) w w' old new
  pub lost : IsErrOf r CommitUnknown → (made : List Placed) × (would : State) × LeadsBy opened journal notes t (CommitLost (merging job made) would ∷ []) w w' old new
  pub told : IfOk r (λ f. (f ≡ IsFinished → ⊥) → LeadsBy opened journal notes t [] w w' old new)
  pub refused : IfErr r (λ e. (e ≡ AfterCommit → ⊥) → (e ≡ CommitUnknown → ⊥) → LeadsBy opened journal notes t [] w w' old new)

abbrev pub MergesAct : {S : Type 0} → SeenCompaction → Result Finished Error → World → World → SeenLogged S → SeenLogged S → Type 0
MergesAct job r w w' old new = ForEachLog w old (ActsByMerge job r w w' old new)

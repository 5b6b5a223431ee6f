-- What a step that reads may answer and add to the journal, and what that is of the replay.
use Rattle.std.specs.Prelude.{◌≡◌, ℕ, ◌≤◌, ◌⊎◌, ◌↔◌, true, List, [], ◌∷◌, Option, Some, None, Result, Ok, Err, map, length, reverse, slice_get, is_some, option_map}
use Rattle.std.specs.FinMap.{get, entries}
use Rattle.std.specs.declared.ops.Bound.{Bound}
use Rattle.lsm_below.specs.Keys.{Bytes}
use Rattle.lsm_below.specs.Entries.{Entry, above}
use Rattle.lsm_model.specs.Journal.{Event, Map, is_outside, IsKept, replay, ReadAgrees}
use Rattle.lsm_model.specs.Views.{found_at, shown}
use Rattle.lsm_model.specs.declared.journal.JournalEntry.TheVariants.{Read}
use Rattle.lsm_model.specs.declared.question.Question.{Question}
use Rattle.lsm_model.specs.declared.question.Question.TheVariants.{Get as AskGet, Between, Prefix}
use Rattle.lsm_model.specs.declared.question.Answer.TheVariants.{Found, Pairs as FoundPairs}
use Rattle.lsm_iter.specs.Guards.{Pair, Item, pair_of}
use Rattle.lsm_iter.specs.Left.{SeenIter}
use Rattle.lsm_iter.specs.declared.tree_iter.End.{End}
use Rattle.lsm_iter.specs.declared.tree_iter.End.TheVariants.{Front, Back}
use Rattle.lsm_below.specs.declared.error.Error.{Error}
use Rattle.lsm_below.specs.declared.error.Error.TheVariants.{OutOfMemory, SnapshotTooOld}
use Rattle.lsm_state.specs.Core.{Core, latest_of, older_of}
use Rattle.lsm_state.specs.Calls.{Gives, GivesEntry, IsGetStep, value_size}
use Rattle.lsm_state.specs.Ranges.{IsListStep, Numbers, TellsEmpty, PairAt}
use Rattle.lsm_runs.specs.declared.steps.Reply.{Reply}
use Rattle.lsm_runs.specs.declared.steps.Reply.TheVariants.{Value, Entry as EntryOf, Truth, Size, Count, Pair as EndPair, Pairs, Refused}
use Rattle.lsm_state.specs.Listing.{Lists, ListsPrefix}
use Rattle.lsm_runs.specs.Told.{Told}

-- ---- what a read may answer, and add to the journal

-- why a read is refused: the snapshot is too old exactly where it finds no super version, else memory is missing
abbrev pub IsReadRefusal : ℕ → Core → Error → Type 0
IsReadRefusal s c x = ((x ≡ SnapshotTooOld) ⊎ (x ≡ OutOfMemory)) × ((x ≡ SnapshotTooOld) ↔ (found_at s (latest_of c) (older_of c) ≡ None))

-- a read of a key
abbrev pub TakesGet : Bytes → ℕ → Reply → List Event → Core → Core → Type 0
TakesGet k s (Value v) events old new = (events ≡ Read s (AskGet k) (Found v) ∷ []) × (new ≡ old) × Gives old k s v × IsGetStep old k s v
TakesGet k s (Refused x) events old new = (events ≡ []) × (new ≡ old) × IsReadRefusal s old x
TakesGet k s reply events old new = ⊥

-- a read of a key's entry
abbrev pub TakesGetEntry : Bytes → ℕ → Reply → List Event → Core → Core → Type 0
TakesGetEntry k s (EntryOf e) events old new = (events ≡ []) × (new ≡ old) × GivesEntry old k s e
TakesGetEntry k s (Refused x) events old new = (events ≡ []) × (new ≡ old) × IsReadRefusal s old x
TakesGetEntry k s reply events old new = ⊥

-- a read of many keys, of which the pairs are right
abbrev pub TakesPairs : Question → (List Pair → Type 0) → ℕ → Reply → List Event → Core → Core → Type 0
TakesPairs question Right s (Pairs pairs) events old new = (events ≡ Read s question (FoundPairs pairs) ∷ []) × (new ≡ old) × Right pairs × IsListStep old question s pairs
TakesPairs question Right s (Refused x) events old new = (events ≡ []) × (new ≡ old) × IsReadRefusal s old x
TakesPairs question Right s reply events old new = ⊥

-- a read of the keys within bounds
abbrev pub TakesRange : Bound Bytes → Bound Bytes → ℕ → Reply → List Event → Core → Core → Type 0
TakesRange low high s reply events old new = TakesPairs (Between low high) (Lists old low high s) s reply events old new

-- a read of the keys that begin so
abbrev pub TakesPrefix : Bytes → ℕ → Reply → List Event → Core → Core → Type 0
TakesPrefix prefix s reply events old new = TakesPairs (Prefix prefix) (ListsPrefix old prefix s) s reply events old new

-- a read with a right reply that adds nothing to the journal
abbrev pub TakesSilent : (Reply → Type 0) → Reply → List Event → Core → Core → Type 0
TakesSilent Right reply events old new = (events ≡ []) × (new ≡ old) × Right reply

-- why a read that takes no memory is refused: its snapshot finds no super version
abbrev pub IsTooOld : ℕ → Core → Error → Type 0
IsTooOld s c x = (x ≡ SnapshotTooOld) × (found_at s (latest_of c) (older_of c) ≡ None)

-- whether a key has a value
abbrev pub IsContainsReply : Bytes → ℕ → Core → Reply → Type 0
IsContainsReply k s c (Truth b) = (v : Option Bytes) × Gives c k s v × (b ≡ is_some v)
IsContainsReply k s c (Refused x) = IsTooOld s c x
IsContainsReply k s c reply = ⊥

-- how many bytes its value has
abbrev pub IsSizeReply : Bytes → ℕ → Core → Reply → Type 0
IsSizeReply k s c (Size n) = (v : Option Bytes) × Gives c k s v × (n ≡ option_map value_size v)
IsSizeReply k s c (Refused x) = IsTooOld s c x
IsSizeReply k s c reply = ⊥

-- how many keys are shown
abbrev pub IsLenReply : ℕ → Core → Reply → Type 0
IsLenReply s c (Count n) = Numbers c None s n
IsLenReply s c (Refused x) = IsReadRefusal s c x
IsLenReply s c reply = ⊥

-- whether none is
abbrev pub IsEmptyReply : ℕ → Core → Reply → Type 0
IsEmptyReply s c (Truth b) = TellsEmpty Front c None s b
IsEmptyReply s c (Refused x) = IsReadRefusal s c x
IsEmptyReply s c reply = ⊥

-- the pair at an end of all that is shown
abbrev pub IsEndReply : End → ℕ → Core → Reply → Type 0
IsEndReply end s c (EndPair p) = PairAt end c None s (option_map Ok p)
IsEndReply end s c (Refused x) = IsReadRefusal s c x
IsEndReply end s c reply = ⊥

-- ---- outcomes

-- the outcome of an answered read of pairs
abbrev pub told_pairs : Question → ℕ → List Pair → Told
told_pairs question s pairs = record { reply = Pairs pairs; entries = Read s question (FoundPairs pairs) ∷ [] }

-- the outcome of a read of pairs by what it found; it may be refused for memory to list them
abbrev pub ToldFound : Question → ℕ → Result SeenIter Error → Told → Type 0
ToldFound question s (Ok iter) told = (told ≡ told_pairs question s (map pair_of iter.left)) ⊎ (told ≡ record { reply = Refused OutOfMemory; entries = [] })
ToldFound question s (Err x) told = told ≡ record { reply = Refused x; entries = [] }

-- the reply to a question for the pair at an end
abbrev pub told_end : Result (Option Item) Error → Reply
told_end (Ok None) = EndPair None
told_end (Ok (Some (Ok p))) = EndPair (Some p)
told_end (Ok (Some (Err x))) = Refused x
told_end (Err x) = Refused x

-- ---- what the reads answer

-- a read of a key answers the replay of the journal before it, and where its snapshot is kept only memory may be missing
abbrev pub GetAnswers : List Entry → Map → List Event → Bytes → ℕ → Reply → Type 0
GetAnswers opened start before k s (Value v) = above opened ≤ s → is_outside k s before ≡ true → v ≡ get (replay start before s) k
GetAnswers opened start before k s (Refused x) = IsKept s before → x ≡ OutOfMemory
GetAnswers opened start before k s reply = ⊥

-- the same of a read of a key's entry, by the value that the entry gives
abbrev pub GetEntryAnswers : List Entry → Map → List Event → Bytes → ℕ → Reply → Type 0
GetEntryAnswers opened start before k s (EntryOf e) = above opened ≤ s → is_outside k s before ≡ true → shown e ≡ get (replay start before s) k
GetEntryAnswers opened start before k s (Refused x) = IsKept s before → x ≡ OutOfMemory
GetEntryAnswers opened start before k s reply = ⊥

-- the same of a read of pairs, outside dropped ranges
abbrev pub PairsAnswer : List Entry → Map → List Event → Question → ℕ → Reply → Type 0
PairsAnswer opened start before question s (Pairs pairs) = above opened ≤ s → ReadAgrees start before (Read s question (FoundPairs pairs))
PairsAnswer opened start before question s (Refused x) = IsKept s before → x ≡ OutOfMemory
PairsAnswer opened start before question s reply = ⊥

-- whether a key has a value, outside dropped ranges; a kept snapshot is not refused
abbrev pub ContainsAnswers : List Entry → Map → List Event → Bytes → ℕ → Reply → Type 0
ContainsAnswers opened start before k s (Truth b) = above opened ≤ s → is_outside k s before ≡ true → b ≡ is_some (get (replay start before s) k)
ContainsAnswers opened start before k s (Refused x) = IsKept s before → ⊥
ContainsAnswers opened start before k s reply = ⊥

-- how many bytes its value has
abbrev pub SizeAnswers : List Entry → Map → List Event → Bytes → ℕ → Reply → Type 0
SizeAnswers opened start before k s (Size n) = above opened ≤ s → is_outside k s before ≡ true → n ≡ option_map value_size (get (replay start before s) k)
SizeAnswers opened start before k s (Refused x) = IsKept s before → ⊥
SizeAnswers opened start before k s reply = ⊥

-- P holds of all pairs of a map that has what the replay has of each key outside dropped ranges
abbrev pub OfReplay : Map → List Event → ℕ → (List Pair → Type 0) → Type 0
OfReplay start before s P = (m : Map) × ((k : Bytes) → is_outside k s before ≡ true → get m k ≡ get (replay start before s) k) × P (entries m)

-- how many keys there are
abbrev pub LenAnswers : List Entry → Map → List Event → ℕ → Reply → Type 0
LenAnswers opened start before s (Count n) = above opened ≤ s → OfReplay start before s (λ pairs. n ≡ length pairs)
LenAnswers opened start before s (Refused x) = IsKept s before → x ≡ OutOfMemory
LenAnswers opened start before s reply = ⊥

-- whether there is none
abbrev pub EmptyAnswers : List Entry → Map → List Event → ℕ → Reply → Type 0
EmptyAnswers opened start before s (Truth b) = above opened ≤ s → OfReplay start before s (λ pairs. (b ≡ true) ↔ (pairs ≡ []))
EmptyAnswers opened start before s (Refused x) = IsKept s before → x ≡ OutOfMemory
EmptyAnswers opened start before s reply = ⊥

-- the pair at an end of a list, none where it is empty
abbrev pub pair_at : End → List Pair → Option Pair
pair_at Front pairs = slice_get pairs 0
pair_at Back pairs = slice_get (reverse pairs) 0

-- the pair with the least key, or with the greatest
abbrev pub EndAnswers : List Entry → Map → List Event → End → ℕ → Reply → Type 0
EndAnswers opened start before end s (EndPair p) = above opened ≤ s → OfReplay start before s (λ pairs. p ≡ pair_at end pairs)
EndAnswers opened start before end s (Refused x) = IsKept s before → x ≡ OutOfMemory
EndAnswers opened start before end s reply = ⊥

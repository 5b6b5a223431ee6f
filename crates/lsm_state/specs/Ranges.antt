-- What reads over many keys answer.
use Rattle.std.specs.Prelude.{◌≡◌, ℕ, ◌≤◌, Bool, List, [], ◌∷◌, ◌++◌, map, length, filter, Option, Some, None, Ok, option_map, is_none, nat_lt, IfSome}
use Rattle.std.specs.Borrow.{Bor}
use Rattle.std.specs.List.{AllByRecursion}
use Rattle.std.specs.FinMap.{get}
use Rattle.std.specs.declared.ops.Bound.{Bound}
use Rattle.std.specs.declared.ops.Bound.TheVariants.{Unbounded}
use Rattle.lsm_below.specs.Keys.{Bytes}
use Rattle.lsm_below.specs.Entries.{Entry, above, IsOrdered}
use Rattle.lsm_model.specs.Journal.{Event, Map}
use Rattle.lsm_model.specs.Steps.{Step, Asked}
use Rattle.lsm_model.specs.declared.journal.JournalEntry.TheVariants.{Read}
use Rattle.lsm_model.specs.declared.question.Question.{Question}
use Rattle.lsm_model.specs.declared.question.Question.TheVariants.{Between, Prefix}
use Rattle.lsm_model.specs.declared.question.Answer.TheVariants.{Pairs}
use Rattle.lsm_model.specs.Views.{SuperVersion, entries, sources, found_at, view_at, EachPair}
use Rattle.lsm_memtable.specs.Memtables.{SeenMemtable}
use Rattle.lsm_iter.specs.Shown.{ShowsOf, Shows, ShowsPrefix, lies_within, begins_with}
use Rattle.lsm_iter.specs.Answers.{pairs_of, AreApart, StandOnce, IsOnTop, overlaid}
use Rattle.lsm_iter.specs.Ends.{EndShown}
use Rattle.lsm_iter.specs.Guards.{Pair, Item, pair_of}
use Rattle.lsm_iter.specs.declared.tree_iter.End.{End}
use Rattle.lsm_parts.specs.Held.{entries_of}
use Rattle.lsm_state.specs.Core.{Core, state_of, latest_of, older_of}
use Rattle.lsm_state.specs.Kept.{IsKeptTree}

-- a memtable on top of the tree, with the sequence number below which its entries count; or none
abbrev pub Index : Type 0
Index = Option (Bor SeenMemtable × ℕ)

-- the entries of an index that count
abbrev pub index_entries : Index → List Entry
index_entries None = []
index_entries (Some p) = filter (λ e. nat_lt e.key.seqno p.1) p.0.now.entries

-- the entries that count for a read: those of the index, and of a super version those below the snapshot
abbrev pub counting : List SeenMemtable → Index → ℕ → SuperVersion → List Entry
counting memtables index s sv = index_entries index ++ filter (λ e. nat_lt e.key.seqno s) (entries (entries_of memtables) sv)

-- the snapshot's super version has P
abbrev pub AtVersion : Core → ℕ → (SuperVersion → Type 0) → Type 0
AtVersion c s P = (sv : SuperVersion) × (found_at s (latest_of c) (older_of c) ≡ Some sv) × P sv

-- the list of what is shown within bounds
abbrev pub Ranges : Core → Index → Bound Bytes → Bound Bytes → ℕ → List Entry → Type 0
Ranges c index low high s out = AtVersion c s (λ sv. Shows low high (counting c.memtables index s sv) out)

-- the list of what is shown of the keys that begin so
abbrev pub Prefixes : Core → Index → Bytes → ℕ → List Entry → Type 0
Prefixes c index prefix s out = AtVersion c s (λ sv. ShowsPrefix prefix (counting c.memtables index s sv) out)

-- how many keys are shown
abbrev pub Numbers : Core → Index → ℕ → ℕ → Type 0
Numbers c index s n = (out : List Entry) × Ranges c index Unbounded Unbounded s out × (n ≡ length out)

-- the entry at an end of the list of all that is shown
abbrev pub EndOf : End → Core → Index → ℕ → Option Entry → Type 0
EndOf end c index s e = AtVersion c s (λ sv. EndShown end Unbounded Unbounded (counting c.memtables index s sv) e)

-- the pair at an end
abbrev pub PairAt : End → Core → Index → ℕ → Option Item → Type 0
PairAt end c index s r = (e : Option Entry) × EndOf end c index s e × (r ≡ option_map (λ x. Ok (pair_of x)) e)

-- whether nothing is shown
abbrev pub TellsEmpty : End → Core → Index → ℕ → Bool → Type 0
TellsEmpty end c index s b = (e : Option Entry) × EndOf end c index s e × (b ≡ is_none e)

-- whatever the journal, an answered question is a step, where sequence numbers fall under each key in every super version
abbrev pub IsListStep : Core → Question → ℕ → List Pair → Type 0
IsListStep c question s pairs = (opened : List Entry) (journal : List Event) → above opened ≤ s → AllByRecursion (λ sv. IsOrdered (sources (entries_of c.memtables) sv)) (latest_of c ∷ older_of c) → Step opened (state_of journal c) (Asked s question) (state_of (journal ++ Read s question (Pairs pairs) ∷ []) c)

-- a range
abbrev pub IsRangeStep : Core → Bound Bytes → Bound Bytes → ℕ → List Entry → Type 0
IsRangeStep c low high s out = IsListStep c (Between low high) s (map pair_of out)

-- the keys that begin so
abbrev pub IsPrefixStep : Core → Bytes → ℕ → List Entry → Type 0
IsPrefixStep c prefix s out = IsListStep c (Prefix prefix) s (map pair_of out)

-- where each key and sequence number stands once in the super version's sources, and the index's sequence numbers are above theirs, the list
-- of what is shown is that of their view by tops, with what counts of the index laid over it
abbrev pub CountingIsOverlaid : Type 0
CountingIsOverlaid = (memtables : List SeenMemtable) (index : Index) (s : ℕ) (sv : SuperVersion) (m : Map) (test : Bytes → Bool) (out : List Entry)
    → ((k : Bytes) → get m k ≡ view_at k s (sources (entries_of memtables) sv)) → StandOnce (sources (entries_of memtables) sv) → IfSome index (λ p. IsOnTop p.0.now.entries (sources (entries_of memtables) sv))
    → ShowsOf test (counting memtables index s sv) out → map pair_of out ≡ pairs_of test (overlaid (index_entries index) m)

-- where no key and sequence number stand in two sources of the super version, and the index's sequence numbers are above theirs, the list is that
-- of their view by tops, with what counts of the index laid over it
abbrev pub IsOverlaid : Core → Index → ℕ → SuperVersion → (Bytes → Bool) → List Entry → Type 0
IsOverlaid c index s sv test out =
    (m : Map) → ((k : Bytes) → get m k ≡ view_at k s (sources (entries_of c.memtables) sv)) → EachPair AreApart (sources (entries_of c.memtables) sv) → IfSome index (λ p. IsOnTop p.0.now.entries (sources (entries_of c.memtables) sv))
    → map pair_of out ≡ pairs_of test (overlaid (index_entries index) m)

-- of a tree's own ranges, since each of its sources is in order
abbrev pub RangesAreOverlaid : Type 0
RangesAreOverlaid = (c : Core) (index : Index) (low high : Bound Bytes) (s : ℕ) (sv : SuperVersion) (out : List Entry) → IsKeptTree c → found_at s (latest_of c) (older_of c) ≡ Some sv
    → Ranges c index low high s out → IsOverlaid c index s sv (lies_within low high) out

-- and of its prefixes
abbrev pub PrefixesAreOverlaid : Type 0
PrefixesAreOverlaid = (c : Core) (index : Index) (prefix : Bytes) (s : ℕ) (sv : SuperVersion) (out : List Entry) → IsKeptTree c → found_at s (latest_of c) (older_of c) ≡ Some sv
    → Prefixes c index prefix s out → IsOverlaid c index s sv (begins_with prefix) out

-- From the reads of a run of steps to the replay of its journal.
use Rattle.std.proofs.Common.{◌≡◌, ◌↔◌, ℕ, ◌≤◌, Bool, true, false, cond, List, [], ◌∷◌, ◌++◌, Option, Some, None, Ok, map, filter, length, reverse, slice_get, refl, sym, ap, ◌∙◌, subst, arith, ⊎_elim, is_some, is_none, option_map, nat_le, append-nil}
use Rattle.std.proofs.lemmas.List.{map-append, length-map, reverse-append}
use Rattle.std.specs.FinMap.{get, entries}
use Rattle.std.specs.declared.ops.Bound.TheVariants.{Unbounded}
use Rattle.lsm_below.specs.Keys.{Bytes}
use Rattle.lsm_below.specs.Entries.{Entry, above}
use Rattle.lsm_below.specs.declared.value_type.ValueType.{ValueType}
use Rattle.lsm_below.specs.declared.value_type.ValueType.TheVariants.{Value as IsValue, Tombstone, WeakTombstone}
use Rattle.lsm_model.specs.Soundness.{Soundness}
use Rattle.lsm_model.specs.Journal.{Event, Map, InOrder, is_outside, IsKept, replay, cut}
use Rattle.lsm_model.specs.Views.{found_at, shown, walk, sources, view, answered, SuperVersion}
use Rattle.lsm_model.specs.Steps.{State, Step, Asked}
use Rattle.lsm_model.specs.Sound.{Holds}
use Rattle.lsm_model.specs.declared.journal.JournalEntry.TheVariants.{Read}
use Rattle.lsm_model.specs.declared.question.Question.{Question}
use Rattle.lsm_model.specs.declared.question.Question.TheVariants.{Get as AskGet, Between}
use Rattle.lsm_model.specs.declared.question.Answer.{Answer}
use Rattle.lsm_model.specs.declared.question.Answer.TheVariants.{Found, Pairs as FoundPairs}
use Rattle.lsm_iter.specs.Guards.{Pair, Item, pair_of}
use Rattle.lsm_iter.specs.Shown.{Shows}
use Rattle.lsm_iter.specs.Ends.{EndShown}
use Rattle.lsm_iter.specs.declared.tree_iter.End.{End}
use Rattle.lsm_iter.specs.declared.tree_iter.End.TheVariants.{Front, Back}
use Rattle.lsm_below.specs.declared.error.Error.{Error}
use Rattle.lsm_below.specs.declared.error.Error.TheVariants.{OutOfMemory, SnapshotTooOld}
use Rattle.lsm_parts.specs.Held.{entries_of}
use Rattle.lsm_state.specs.Core.{Core, state_of, latest_of, older_of}
use Rattle.lsm_state.specs.Calls.{Gives, live, value_size}
use Rattle.lsm_state.specs.Ranges.{Ranges, EndOf, counting}
use Rattle.lsm_state.specs.ListSteps.{ListsAreSteps}
use Rattle.lsm_runs.specs.declared.steps.Reply.{Reply}
use Rattle.lsm_runs.specs.declared.steps.Reply.TheVariants.{Value, Entry as EntryOf, Truth, Size, Count, Pair as EndPair, Pairs, Refused}
use Rattle.lsm_runs.specs.ReadSteps.{IsReadRefusal, TakesGet, TakesGetEntry, IsContainsReply, IsSizeReply, TakesPairs, IsLenReply, IsEmptyReply, IsEndReply, GetAnswers, GetEntryAnswers, ContainsAnswers, SizeAnswers, PairsAnswer, OfReplay, LenAnswers, EmptyAnswers, pair_at, EndAnswers}
use Rattle.lsm_runs.specs.Runs.{without_low_reads}
use Rattle.lsm_run_model.proofs.LowReads.{replay_without, outside_without, kept_without, without-append, order_without}

-- what holds of a tree with a journal, of which reads below what was opened don't count
abbrev pub Sound : List Entry → Map → List Event → Core → Type 0
Sound opened start journal c = Holds opened start (state_of (without_low_reads opened journal) c)

-- no event, nothing changed
pub same : (opened : List Entry) (start : Map) (journal events : List Event) (old new : Core) → events ≡ [] → new ≡ old → Sound opened start journal old → Sound opened start (journal ++ events) new
same opened start journal events old new none is h = rw (none, is, append-nil journal) h

-- ---- each read keeps the tree sound

-- a read that is noted is a step, unless it is below what was opened and doesn't count
noted : (theory : Soundness) (opened : List Entry) (start : Map) (question : Question) (s : ℕ) (told : Answer) (journal events : List Event) (old new : Core) → events ≡ Read s question told ∷ [] → new ≡ old
    → ((before : List Event) → above opened ≤ s → Step opened (state_of before old) (Asked s question) (state_of (before ++ Read s question told ∷ []) old))
    → InOrder opened (journal ++ events) → Sound opened start journal old → Sound opened start (journal ++ events) new
noted theory opened start question s told journal events old new one still step order h =
    let read = Read s question told in
    let is : without_low_reads opened (journal ++ events) ≡ without_low_reads opened journal ++ cond (nat_le (above opened) s) (read ∷ []) [] = ap (λ xs. without_low_reads opened (journal ++ xs)) one ∙ without-append opened journal (read ∷ []) in
    let order' : InOrder opened (without_low_reads opened journal ++ cond (nat_le (above opened) s) (read ∷ []) []) = rw is at (order_without opened (journal ++ events) order) in
    rw (is, still)
    (elim (nat_le (above opened) s) as (λ b. nat_le (above opened) s ≡ b → InOrder opened (without_low_reads opened journal ++ cond b (read ∷ []) []) → Holds opened start (state_of (without_low_reads opened journal ++ cond b (read ∷ []) []) old)) [
      | true ↦ λ low o. theory.kept.step opened start (state_of (without_low_reads opened journal) old) (Asked s question) (state_of (without_low_reads opened journal ++ read ∷ []) old) (step (without_low_reads opened journal) (grind arith)) o h
      | false ↦ λ low o. rw (append-nil (without_low_reads opened journal)) h
    ] refl order')

pub takes_get : (theory : Soundness) (opened : List Entry) (start : Map) (k : Bytes) (s : ℕ) (reply : Reply) (journal events : List Event) (old new : Core) → TakesGet k s reply events old new → InOrder opened (journal ++ events) → Sound opened start journal old → Sound opened start (journal ++ events) new
takes_get theory opened start k s (Value v) journal events old new t order h = noted theory opened start (AskGet k) s (Found v) journal events old new t.0 t.1 (t.3 opened) order h
takes_get theory opened start k s (Refused x) journal events old new t order h = same opened start journal events old new t.0 t.1 h
takes_get theory opened start k s reply journal events old new t order h = absurd t

pub takes_get_entry : (opened : List Entry) (start : Map) (k : Bytes) (s : ℕ) (reply : Reply) (journal events : List Event) (old new : Core) → TakesGetEntry k s reply events old new → Sound opened start journal old → Sound opened start (journal ++ events) new
takes_get_entry opened start k s (EntryOf e) journal events old new t h = same opened start journal events old new t.0 t.1 h
takes_get_entry opened start k s (Refused x) journal events old new t h = same opened start journal events old new t.0 t.1 h
takes_get_entry opened start k s reply journal events old new t h = absurd t

-- sequence numbers fall under each key in every super version, so a read of pairs is a step
pub takes_pairs : (theory : Soundness) (opened : List Entry) (start : Map) (question : Question) (Right : List Pair → Type 0) (s : ℕ) (reply : Reply) (journal events : List Event) (old new : Core) → TakesPairs question Right s reply events old new → InOrder opened (journal ++ events) → Sound opened start journal old → Sound opened start (journal ++ events) new
takes_pairs theory opened start question Right s (Pairs pairs) journal events old new t order h =
    let ordered = (theory.right.reads opened start (state_of (without_low_reads opened journal) old) h).ordered in
    noted theory opened start question s (FoundPairs pairs) journal events old new t.0 t.1 (λ before low. t.3 opened before low ordered) order h
takes_pairs theory opened start question Right s (Refused x) journal events old new t order h = same opened start journal events old new t.0 t.1 h
takes_pairs theory opened start question Right s reply journal events old new t order h = absurd t

-- ---- what each read answers

found_cut : (v w : Option Bytes) → Found v ≡ Found w → v ≡ w
found_cut v w e = cc e

-- outside dropped ranges, what a super version shows is what the replay says
view_replays : (theory : Soundness) (opened : List Entry) (start : Map) (s : ℕ) (sv : SuperVersion) (journal : List Event) (c : Core) → found_at s (latest_of c) (older_of c) ≡ Some sv → Sound opened start journal c → above opened ≤ s → (k : Bytes) → is_outside k s journal ≡ true → get (view s (sources (entries_of c.memtables) sv)) k ≡ get (replay start journal s) k
view_replays theory opened start s sv journal c found h low k out =
    theory.right.views opened start (state_of (without_low_reads opened journal) c) h s sv low found k (outside_without opened k s journal ∙ out) ∙ ap (λ m. get m k) (replay_without opened start journal s)

-- and so is what a walk finds
walk_replays : (theory : Soundness) (opened : List Entry) (start : Map) (k : Bytes) (s : ℕ) (sv : SuperVersion) (journal : List Event) (c : Core) → found_at s (latest_of c) (older_of c) ≡ Some sv → Sound opened start journal c → above opened ≤ s → is_outside k s journal ≡ true → shown (walk k s (sources (entries_of c.memtables) sv)) ≡ get (replay start journal s) k
walk_replays theory opened start k s sv journal c found h low out =
    found_cut _ _ (theory.right.answers opened start (state_of (without_low_reads opened journal) c) h s sv found (AskGet k)) ∙ view_replays theory opened start s sv journal c found h low k out

-- an entry that isn't a tombstone gives the same
live_kind : (e : Entry) (kind : ValueType) → e.key.value_type ≡ kind → shown (live (Some e)) ≡ shown (Some e)
live_kind e IsValue is = rw is refl
live_kind e Tombstone is = rw is refl
live_kind e WeakTombstone is = rw is refl

live_shown : (e : Option Entry) → shown (live e) ≡ shown e
live_shown None = refl
live_shown (Some e) = live_kind e e.key.value_type refl

not_none : {A : Type 0} (o : Option A) → is_some o ≡ true → o ≡ None → ⊥
not_none None h e = cc h
not_none (Some x) h e = cc e

kept_along : (opened : List Entry) (s : ℕ) (journal : List Event) → IsKept s journal → IsKept s (without_low_reads opened journal)
kept_along opened s journal kept = rw (kept_without opened s journal) kept

-- a kept snapshot finds a super version
kept_found : (theory : Soundness) (opened : List Entry) (start : Map) (s : ℕ) (journal : List Event) (c : Core) → Sound opened start journal c → IsKept s journal → found_at s (latest_of c) (older_of c) ≡ None → ⊥
kept_found theory opened start s journal c h kept none = not_none _ ((theory.right.reads opened start (state_of (without_low_reads opened journal) c) h).answered s (kept_along opened s journal kept)) none

-- where the snapshot is kept, only memory may be missing
refused_memory : (theory : Soundness) (opened : List Entry) (start : Map) (s : ℕ) (x : Error) (journal : List Event) (c : Core) → IsReadRefusal s c x → Sound opened start journal c → IsKept s journal → x ≡ OutOfMemory
refused_memory theory opened start s x journal c r h kept = ⊎_elim (λ (old : x ≡ SnapshotTooOld). absurd (kept_found theory opened start s journal c h kept (r.1.0 old))) (λ (m : x ≡ OutOfMemory). m) r.0

-- what a read of a key gives is what the replay says
gives_replays : (theory : Soundness) (opened : List Entry) (start : Map) (k : Bytes) (s : ℕ) (v : Option Bytes) (journal : List Event) (c : Core) → Gives c k s v → Sound opened start journal c → above opened ≤ s → is_outside k s journal ≡ true → v ≡ get (replay start journal s) k
gives_replays theory opened start k s v journal c g h low out = g.2 ∙ walk_replays theory opened start k s g.0 journal c g.1 h low out

pub get_answers : (theory : Soundness) (opened : List Entry) (start : Map) (k : Bytes) (s : ℕ) (reply : Reply) (journal events : List Event) (old new : Core) → TakesGet k s reply events old new → Sound opened start journal old → GetAnswers opened start journal k s reply
get_answers theory opened start k s (Value v) journal events old new t h = gives_replays theory opened start k s v journal old t.2 h
get_answers theory opened start k s (Refused x) journal events old new t h = refused_memory theory opened start s x journal old t.2 h
get_answers theory opened start k s reply journal events old new t h = absurd t

pub get_entry_answers : (theory : Soundness) (opened : List Entry) (start : Map) (k : Bytes) (s : ℕ) (reply : Reply) (journal events : List Event) (old new : Core) → TakesGetEntry k s reply events old new → Sound opened start journal old → GetEntryAnswers opened start journal k s reply
get_entry_answers theory opened start k s (EntryOf e) journal events old new t h = λ low out. let g = t.2 in ap shown g.2 ∙ live_shown _ ∙ walk_replays theory opened start k s g.0 journal old g.1 h low out
get_entry_answers theory opened start k s (Refused x) journal events old new t h = refused_memory theory opened start s x journal old t.2 h
get_entry_answers theory opened start k s reply journal events old new t h = absurd t

pub contains_answers : (theory : Soundness) (opened : List Entry) (start : Map) (k : Bytes) (s : ℕ) (reply : Reply) (journal : List Event) (c : Core) → IsContainsReply k s c reply → Sound opened start journal c → ContainsAnswers opened start journal k s reply
contains_answers theory opened start k s (Truth b) journal c r h = λ low out. r.2 ∙ ap (λ v. is_some v) (gives_replays theory opened start k s r.0 journal c r.1 h low out)
contains_answers theory opened start k s (Refused x) journal c r h = λ kept. kept_found theory opened start s journal c h kept r.1
contains_answers theory opened start k s reply journal c r h = absurd r

pub size_answers : (theory : Soundness) (opened : List Entry) (start : Map) (k : Bytes) (s : ℕ) (reply : Reply) (journal : List Event) (c : Core) → IsSizeReply k s c reply → Sound opened start journal c → SizeAnswers opened start journal k s reply
size_answers theory opened start k s (Size n) journal c r h = λ low out. r.2 ∙ ap (option_map value_size) (gives_replays theory opened start k s r.0 journal c r.1 h low out)
size_answers theory opened start k s (Refused x) journal c r h = λ kept. kept_found theory opened start s journal c h kept r.1
size_answers theory opened start k s reply journal c r h = absurd r

-- a read of pairs that is a step answers what the replay does, outside dropped ranges
told_answer : (c : Core) (s : ℕ) (question : Question) (pairs : List Pair) (told : Answer) → state_of (Read s question (FoundPairs pairs) ∷ []) c ≡ state_of (Read s question told ∷ []) c → FoundPairs pairs ≡ told
told_answer c s question pairs told e = let lists = ap (λ (t : State). t.journal) e in cc lists

pub pairs_answer : (theory : Soundness) (opened : List Entry) (start : Map) (question : Question) (Right : List Pair → Type 0) (s : ℕ) (reply : Reply) (journal events : List Event) (old new : Core) → TakesPairs question Right s reply events old new → Sound opened start journal old → PairsAnswer opened start journal question s reply
pairs_answer theory opened start question Right s (Pairs pairs) journal events old new t h = λ low.
    let state = state_of (without_low_reads opened journal) old in
    let step = t.3 opened [] low (theory.right.reads opened start state h).ordered in
    let sv = step.0 in
    let from = sources (entries_of old.memtables) sv in
    let out = λ (k : Bytes). is_outside k s journal in
    ap (cut out question) (told_answer old s question pairs (answered s from question) step.3 ∙ theory.right.answers opened start state h s sv step.2 question)
    ∙ theory.right.alike (view s from) (replay start journal s) out (view_replays theory opened start s sv journal old step.2 h low) question
pairs_answer theory opened start question Right s (Refused x) journal events old new t h = refused_memory theory opened start s x journal old t.2 h
pairs_answer theory opened start question Right s reply journal events old new t h = absurd t

-- ---- reads of all pairs

all_pass : (pairs : List Pair) → filter (λ p. true) pairs ≡ pairs
all_pass [] = refl
all_pass (p ∷ pairs) = ap (λ ps. p ∷ ps) (all_pass pairs)

pairs_cut : (ps qs : List Pair) → FoundPairs ps ≡ FoundPairs qs → ps ≡ qs
pairs_cut ps qs e = cc e

-- all that is shown are the pairs of a map that is the replay outside dropped ranges
shown_replays : (lists : ListsAreSteps) (theory : Soundness) (opened : List Entry) (start : Map) (s : ℕ) (journal : List Event) (c : Core) (out : List Entry) (P : List Pair → Type 0) → Ranges c None Unbounded Unbounded s out → Sound opened start journal c → above opened ≤ s → P (map pair_of out) → OfReplay start journal s P
shown_replays lists theory opened start s journal c out P r h low p =
    let step = lists.range c Unbounded Unbounded s out r opened [] low (theory.right.reads opened start (state_of (without_low_reads opened journal) c) h).ordered in
    let sv = step.0 in
    let m = view s (sources (entries_of c.memtables) sv) in
    let told = told_answer c s (Between Unbounded Unbounded) (map pair_of out) (FoundPairs (filter (λ e. true) (entries m))) step.3 in
    (m, view_replays theory opened start s sv journal c step.2 h low, subst P (pairs_cut _ _ told ∙ all_pass (entries m)) p)

-- the pair of the entry at an end is at that end of the list
end_list : (end : End) (es : List Entry) (e : Option Entry) → EndShown end Unbounded Unbounded es e → (out : List Entry) × Shows Unbounded Unbounded es out × (option_map pair_of e ≡ pair_at end (map pair_of out))
end_list Front es None h = ([], h, refl)
end_list Back es None h = ([], h, refl)
end_list Front es (Some e) h = (h.0, h.2, sym (ap (λ l. slice_get (map pair_of l) 0) h.3))
end_list Back es (Some e) h = (h.0, h.2, sym (ap (λ l. slice_get (reverse (map pair_of l)) 0) h.3 ∙ ap (λ l. slice_get (reverse l) 0) (map-append pair_of h.1 (e ∷ [])) ∙ ap (λ l. slice_get l 0) (reverse-append (map pair_of h.1) (pair_of e ∷ []))))

end_replays : (lists : ListsAreSteps) (theory : Soundness) (opened : List Entry) (start : Map) (end : End) (s : ℕ) (journal : List Event) (c : Core) (e : Option Entry) → EndOf end c None s e → Sound opened start journal c → above opened ≤ s → OfReplay start journal s (λ pairs. option_map pair_of e ≡ pair_at end pairs)
end_replays lists theory opened start end s journal c e r h low =
    let l = end_list end (counting c.memtables None s r.0) e r.2 in
    shown_replays lists theory opened start s journal c l.0 (λ pairs. option_map pair_of e ≡ pair_at end pairs) (r.0, r.1, l.1) h low l.2

pub len_answers : (lists : ListsAreSteps) (theory : Soundness) (opened : List Entry) (start : Map) (s : ℕ) (reply : Reply) (journal : List Event) (c : Core) → IsLenReply s c reply → Sound opened start journal c → LenAnswers opened start journal s reply
len_answers lists theory opened start s (Count n) journal c r h = λ low. shown_replays lists theory opened start s journal c r.0 (λ pairs. n ≡ length pairs) r.1 h low (r.2 ∙ sym (length-map r.0 pair_of))
len_answers lists theory opened start s (Refused x) journal c r h = refused_memory theory opened start s x journal c r h
len_answers lists theory opened start s reply journal c r h = absurd r

empties : (b : Bool) (e : Option Entry) (pairs : List Pair) → b ≡ is_none e → option_map pair_of e ≡ pair_at Front pairs → (b ≡ true) ↔ (pairs ≡ [])
empties b None [] is at = ((λ t. refl), (λ z. is))
empties b None (p ∷ pairs) is at = absurd (cc at)
empties b (Some e) [] is at = absurd (cc at)
empties b (Some e) (p ∷ pairs) is at = ((λ t. absurd (cc (is, t))), (λ z. absurd (cc z)))

pub empty_answers : (lists : ListsAreSteps) (theory : Soundness) (opened : List Entry) (start : Map) (s : ℕ) (reply : Reply) (journal : List Event) (c : Core) → IsEmptyReply s c reply → Sound opened start journal c → EmptyAnswers opened start journal s reply
empty_answers lists theory opened start s (Truth b) journal c r h = λ low. let all = end_replays lists theory opened start Front s journal c r.0 r.1 h low in (all.0, all.1, empties b r.0 (entries all.0) r.2 all.2)
empty_answers lists theory opened start s (Refused x) journal c r h = refused_memory theory opened start s x journal c r h
empty_answers lists theory opened start s reply journal c r h = absurd r

same_pair : (p : Option Pair) (e : Option Entry) → ◌≡◌ {A = Option Item} (option_map Ok p) (option_map (λ f. Ok (pair_of f)) e) → p ≡ option_map pair_of e
same_pair None None q = refl
same_pair None (Some e) q = absurd (cc q)
same_pair (Some p) None q = absurd (cc q)
same_pair (Some p) (Some e) q = cc q

pub end_answers : (lists : ListsAreSteps) (theory : Soundness) (opened : List Entry) (start : Map) (end : End) (s : ℕ) (reply : Reply) (journal : List Event) (c : Core) → IsEndReply end s c reply → Sound opened start journal c → EndAnswers opened start journal end s reply
end_answers lists theory opened start end s (EndPair p) journal c r h = λ low. let all = end_replays lists theory opened start end s journal c r.0 r.1 h low in (all.0, all.1, same_pair p r.0 r.2 ∙ all.2)
end_answers lists theory opened start end s (Refused x) journal c r h = refused_memory theory opened start s x journal c r h
end_answers lists theory opened start end s reply journal c r h = absurd r

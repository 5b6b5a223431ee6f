-- Each read at a snapshot answers the one map that the snapshot sees.
use Rattle.std.proofs.Common.{◌≡◌, ◌↔◌, ℕ, ◌≤◌, Bool, true, List, [], ◌∷◌, Option, Some, None, Ok, map, filter, length, reverse, slice_get, refl, sym, ap, ◌∙◌, subst, arith, ⊎_elim, is_some, is_none, option_map}
use Rattle.std.specs.List.{AllByRecursion}
use Rattle.std.proofs.lemmas.List.{map-append, length-map, reverse-append}
use Rattle.std.specs.FinMap.{get, entries}
use Rattle.std.specs.declared.ops.Bound.TheVariants.{Unbounded}
use Rattle.lsm_below.specs.Keys.{Bytes}
use Rattle.lsm_below.specs.Entries.{Entry, above, IsOrdered}
use Rattle.lsm_below.specs.declared.error.Error.{Error}
use Rattle.lsm_below.specs.declared.error.Error.TheVariants.{OutOfMemory, SnapshotTooOld}
use Rattle.lsm_below.specs.declared.value_type.ValueType.{ValueType}
use Rattle.lsm_below.specs.declared.value_type.ValueType.TheVariants.{Value as IsValue, Tombstone, WeakTombstone}
use Rattle.lsm_model.specs.Journal.{Event, Map, cut, is_outside}
use Rattle.lsm_model.specs.Soundness.{Soundness}
use Rattle.lsm_model.specs.Steps.{State}
use Rattle.lsm_model.specs.Views.{SuperVersion, found_at, shown, walk, sources, view, answered}
use Rattle.lsm_model.specs.declared.journal.JournalEntry.TheVariants.{Read}
use Rattle.lsm_model.specs.declared.question.Answer.{Answer}
use Rattle.lsm_model.specs.declared.question.Answer.TheVariants.{Found, Pairs as FoundPairs}
use Rattle.lsm_model.specs.declared.question.Question.{Question}
use Rattle.lsm_model.specs.declared.question.Question.TheVariants.{Get as AskGet, Between, Prefix as AskPrefix}
use Rattle.lsm_iter.specs.Ends.{EndShown}
use Rattle.lsm_iter.specs.Guards.{Pair, Item, pair_of}
use Rattle.lsm_iter.specs.Shown.{Shows}
use Rattle.lsm_iter.specs.declared.tree_iter.End.{End}
use Rattle.lsm_iter.specs.declared.tree_iter.End.TheVariants.{Front, Back}
use Rattle.lsm_parts.specs.Held.{entries_of}
use Rattle.lsm_state.specs.Calls.{Gives, live, value_size}
use Rattle.lsm_state.specs.Core.{Core, state_of, latest_of, older_of}
use Rattle.lsm_state.specs.Listing.{Lists, ListsPrefix}
use Rattle.lsm_state.specs.ListSteps.{ListsAreSteps}
use Rattle.lsm_state.specs.Ranges.{Ranges, EndOf, counting}
use Rattle.lsm_runs.specs.Compacting.{Strategies}
use Rattle.lsm_runs.specs.declared.steps.Reply.{Reply}
use Rattle.lsm_runs.specs.declared.steps.Reply.TheVariants.{Value, Entry as EntryOf, Truth, Size, Count, Pair as EndPair, Pairs, Refused}
use Rattle.lsm_runs.specs.declared.steps.Step.{Step}
use Rattle.lsm_runs.specs.declared.steps.Step.TheVariants as run
use Rattle.lsm_runs.specs.ReadSteps.{IsReadRefusal, IsTooOld, TakesGet, TakesGetEntry, TakesPairs, IsContainsReply, IsSizeReply, IsLenReply, IsEmptyReply, IsEndReply, GetAnswers, GetEntryAnswers, ContainsAnswers, SizeAnswers, PairsAnswer, LenAnswers, EmptyAnswers, EndAnswers, pair_at}
use Rattle.lsm_runs.specs.Runs.{without_low_reads}
use Rattle.lsm_runs.proofs.ReadReplays.{Sound}
use Rattle.lsm_logged.specs.Keeping.{SeenLogged}
use Rattle.lsm_log_runs.specs.declared.steps.LogStep.{LogStep}
use Rattle.lsm_log_runs.specs.declared.steps.LogStep.TheVariants.{Get, GetInternalEntry, ContainsKey, SizeOf, Range, Iter, Prefix, Len, IsEmpty, FirstKeyValue, LastKeyValue}
use Rattle.lsm_log_runs.specs.Runs.{TakesAlone}
use Rattle.lsm_log_runs.specs.Seeing.{sees, AnswersSight, SeesOne}

-- ---- words of lists and entries

-- an entry that isn't a tombstone gives the same
live_kind : (e : Entry) (kind : ValueType) → e.key.value_type ≡ kind → shown (live (Some e)) ≡ shown (Some e)
live_kind e IsValue is = rw is refl
live_kind e Tombstone is = rw is refl
live_kind e WeakTombstone is = rw is refl

live_shown : (e : Option Entry) → shown (live e) ≡ shown e
live_shown None = refl
live_shown (Some e) = live_kind e e.key.value_type refl

all_pass : (pairs : List Pair) → filter (λ p. true) pairs ≡ pairs
all_pass [] = refl
all_pass (p ∷ pairs) = ap (λ ps. p ∷ ps) (all_pass pairs)

pairs_cut : (ps qs : List Pair) → FoundPairs ps ≡ FoundPairs qs → ps ≡ qs
pairs_cut ps qs e = cc e

found_cut : (v w : Option Bytes) → Found v ≡ Found w → v ≡ w
found_cut v w e = cc e

same_pair : (p : Option Pair) (e : Option Entry) → ◌≡◌ {A = Option Item} (option_map Ok p) (option_map (λ f. Ok (pair_of f)) e) → p ≡ option_map pair_of e
same_pair None None q = refl
same_pair None (Some e) q = absurd (cc q)
same_pair (Some p) None q = absurd (cc q)
same_pair (Some p) (Some e) q = cc q

-- a list is empty where its first pair is none
first_tells : (b : Bool) (e : Option Entry) (pairs : List Pair) → b ≡ is_none e → option_map pair_of e ≡ pair_at Front pairs → (b ≡ true) ↔ (pairs ≡ [])
first_tells b None [] is at = ((λ t. refl), (λ z. is))
first_tells b None (p ∷ pairs) is at = absurd (cc at)
first_tells b (Some e) [] is at = absurd (cc at)
first_tells b (Some e) (p ∷ pairs) is at = ((λ t. absurd (cc (is, t))), (λ z. absurd (cc z)))

-- the pair of the entry at an end is at that end of the list
end_list : (end : End) (es : List Entry) (e : Option Entry) → EndShown end Unbounded Unbounded es e → (out : List Entry) × Shows Unbounded Unbounded es out × (option_map pair_of e ≡ pair_at end (map pair_of out))
end_list Front es None h = ([], h, refl)
end_list Back es None h = ([], h, refl)
end_list Front es (Some e) h = (h.0, h.2, sym (ap (λ l. slice_get (map pair_of l) 0) h.3))
end_list Back es (Some e) h = (h.0, h.2, sym (ap (λ l. slice_get (reverse (map pair_of l)) 0) h.3 ∙ ap (λ l. slice_get (reverse l) 0) (map-append pair_of h.1 (e ∷ [])) ∙ ap (λ l. slice_get l 0) (reverse-append (map pair_of h.1) (pair_of e ∷ []))))

-- the answer that a journal of one read tells
told_answer : (c : Core) (s : ℕ) (question : Question) (told other : Answer) → state_of (Read s question told ∷ []) c ≡ state_of (Read s question other ∷ []) c → told ≡ other
told_answer c s question told other e = let lists = ap (λ (t : State). t.journal) e in cc lists

-- ---- replies by what is found

some_cut : {A : Type 0} (x y : A) → Some x ≡ Some y → x ≡ y
some_cut x y e = cc e

-- what is seen has P, and what sees none is refused as too old
abbrev Sight : (Map → Type 0) → Core → ℕ → Reply → Type 0
Sight P c s reply = ((m : Map) → sees c s ≡ Some m → P m) × (sees c s ≡ None → reply ≡ Refused SnapshotTooOld)

-- what a super version shows at a snapshot
abbrev shows : Core → ℕ → SuperVersion → Map
shows c s sv = view s (sources (entries_of c.memtables) sv)

sees_found : (c : Core) (s : ℕ) (sv : SuperVersion) → found_at s (latest_of c) (older_of c) ≡ Some sv → sees c s ≡ Some (shows c s sv)
sees_found c s sv found = ap (λ o. option_map (shows c s) o) found

sees_none : (c : Core) (s : ℕ) → found_at s (latest_of c) (older_of c) ≡ None → sees c s ≡ None
sees_none c s none = ap (λ o. option_map (shows c s) o) none

found_none : (f : SuperVersion → Map) (o : Option SuperVersion) → option_map f o ≡ None → o ≡ None
found_none f None e = refl
found_none f (Some sv) e = absurd (cc e)

-- an answer from the super version that is found
answers_sight : (P : Map → Type 0) (c : Core) (s : ℕ) (reply : Reply) (sv : SuperVersion) → found_at s (latest_of c) (older_of c) ≡ Some sv → P (shows c s sv) → Sight P c s reply
answers_sight P c s reply sv found p =
    let is = sees_found c s sv found in
    (λ m seen. subst P (some_cut (shows c s sv) m (sym is ∙ seen)) p, λ none. absurd (cc (is, none)))

-- a refusal: for memory alone, or as too old
refuses_sight : (P : Map → Type 0) (c : Core) (s : ℕ) (x : Error) → IsReadRefusal s c x → ((m : Map) → x ≡ OutOfMemory → P m) → Sight P c s (Refused x)
refuses_sight P c s x r memory = (
  λ m seen. memory m (⊎_elim (λ (old : x ≡ SnapshotTooOld). let none = sees_none c s (r.1.0 old) in absurd (cc (seen, none))) (λ (is : x ≡ OutOfMemory). is) r.0),
  λ none. ap Refused (r.1.1 (found_none (shows c s) (found_at s (latest_of c) (older_of c)) none)),
)

-- a refusal as too old
old_sight : (P : Map → Type 0) (c : Core) (s : ℕ) (x : Error) → IsTooOld s c x → Sight P c s (Refused x)
old_sight P c s x r = (λ m seen. let none = sees_none c s r.1 in absurd (cc (seen, none)), λ none. ap Refused r.0)

-- ---- what each read answers

module _ (lists : ListsAreSteps) (theory : Soundness) (opened : List Entry) (start : Map) (journal : List Event) (c : Core) (sound : Sound opened start journal c) where
  abbrev state : State
  state = state_of (without_low_reads opened journal) c

  ordered : AllByRecursion (λ sv. IsOrdered (sources (entries_of c.memtables) sv)) (latest_of c ∷ older_of c)
  ordered = (theory.right.reads opened start state sound).ordered

  -- ---- a key

  walk_sees : (k : Bytes) (s : ℕ) (sv : SuperVersion) → found_at s (latest_of c) (older_of c) ≡ Some sv → shown (walk k s (sources (entries_of c.memtables) sv)) ≡ get (shows c s sv) k
  walk_sees k s sv found = found_cut _ _ (theory.right.answers opened start state sound s sv found (AskGet k))

  gives_sees : (k : Bytes) (s : ℕ) (v : Option Bytes) (g : Gives c k s v) → v ≡ get (shows c s g.0) k
  gives_sees k s v g = g.2 ∙ walk_sees k s g.0 g.1

  get_sees : (k : Bytes) (s : ℕ) (reply : Reply) (events : List Event) → TakesGet k s reply events c c → Sight (λ m. GetAnswers [] m [] k s reply) c s reply
  get_sees k s (Value v) events t = answers_sight (λ m. GetAnswers [] m [] k s (Value v)) c s (Value v) t.2.0 t.2.1 (λ low out. gives_sees k s v t.2)
  get_sees k s (Refused x) events t = refuses_sight (λ m. GetAnswers [] m [] k s (Refused x)) c s x t.2 (λ m is kept. is)
  get_sees k s reply events t = absurd t

  entry_sees : (k : Bytes) (s : ℕ) (reply : Reply) (events : List Event) → TakesGetEntry k s reply events c c → Sight (λ m. GetEntryAnswers [] m [] k s reply) c s reply
  entry_sees k s (EntryOf e) events t = answers_sight (λ m. GetEntryAnswers [] m [] k s (EntryOf e)) c s (EntryOf e) t.2.0 t.2.1 (λ low out. ap shown t.2.2 ∙ live_shown _ ∙ walk_sees k s t.2.0 t.2.1)
  entry_sees k s (Refused x) events t = refuses_sight (λ m. GetEntryAnswers [] m [] k s (Refused x)) c s x t.2 (λ m is kept. is)
  entry_sees k s reply events t = absurd t

  contains_sees : (k : Bytes) (s : ℕ) (reply : Reply) → IsContainsReply k s c reply → Sight (λ m. ContainsAnswers [] m [] k s reply) c s reply
  contains_sees k s (Truth b) r = answers_sight (λ m. ContainsAnswers [] m [] k s (Truth b)) c s (Truth b) r.1.0 r.1.1 (λ low out. r.2 ∙ ap (λ v. is_some v) (gives_sees k s r.0 r.1))
  contains_sees k s (Refused x) r = old_sight (λ m. ContainsAnswers [] m [] k s (Refused x)) c s x r
  contains_sees k s reply r = absurd r

  size_sees : (k : Bytes) (s : ℕ) (reply : Reply) → IsSizeReply k s c reply → Sight (λ m. SizeAnswers [] m [] k s reply) c s reply
  size_sees k s (Size n) r = answers_sight (λ m. SizeAnswers [] m [] k s (Size n)) c s (Size n) r.1.0 r.1.1 (λ low out. r.2 ∙ ap (option_map value_size) (gives_sees k s r.0 r.1))
  size_sees k s (Refused x) r = old_sight (λ m. SizeAnswers [] m [] k s (Refused x)) c s x r
  size_sees k s reply r = absurd r

  -- ---- many keys

  pairs_see : (question : Question) (Right : List Pair → Type 0) (s : ℕ) (reply : Reply) (events : List Event) → TakesPairs question Right s reply events c c → Sight (λ m. PairsAnswer [] m [] question s reply) c s reply
  pairs_see question Right s (Pairs pairs) events t =
      let low : above [] ≤ s = omega arith in
      let step = t.3 [] [] low ordered in
      let from = sources (entries_of c.memtables) step.0 in
      let told = told_answer c s question (FoundPairs pairs) (answered s from question) step.3 in
      answers_sight (λ m. PairsAnswer [] m [] question s (Pairs pairs)) c s (Pairs pairs) step.0 step.2 (λ low. ap (cut (λ k. is_outside k s []) question) (told ∙ theory.right.answers opened start state sound s step.0 step.2 question))
  pairs_see question Right s (Refused x) events t = refuses_sight (λ m. PairsAnswer [] m [] question s (Refused x)) c s x t.2 (λ m is kept. is)
  pairs_see question Right s reply events t = absurd t

  -- ---- all pairs

  -- all that is shown are the pairs of what is seen
  all_seen : (s : ℕ) (out : List Entry) → Ranges c None Unbounded Unbounded s out → (sv : SuperVersion) × (found_at s (latest_of c) (older_of c) ≡ Some sv) × (map pair_of out ≡ entries (shows c s sv))
  all_seen s out r =
      let low : above [] ≤ s = omega arith in
      let step = lists.range c Unbounded Unbounded s out r [] [] low ordered in
      let told = told_answer c s (Between Unbounded Unbounded) (FoundPairs (map pair_of out)) (FoundPairs (filter (λ e. true) (entries (shows c s step.0)))) step.3 in
      (step.0, step.2, pairs_cut _ _ told ∙ all_pass (entries (shows c s step.0)))

  end_seen : (end : End) (s : ℕ) (e : Option Entry) → EndOf end c None s e → (sv : SuperVersion) × (found_at s (latest_of c) (older_of c) ≡ Some sv) × (option_map pair_of e ≡ pair_at end (entries (shows c s sv)))
  end_seen end s e r =
      let l = end_list end (counting c.memtables None s r.0) e r.2 in
      let all = all_seen s l.0 (r.0, r.1, l.1) in
      (all.0, all.1, l.2 ∙ ap (pair_at end) all.2)

  len_sees : (s : ℕ) (reply : Reply) → IsLenReply s c reply → Sight (λ m. LenAnswers [] m [] s reply) c s reply
  len_sees s (Count n) r =
      let all = all_seen s r.0 r.1 in
      answers_sight (λ m. LenAnswers [] m [] s (Count n)) c s (Count n) all.0 all.1 (λ low. (shows c s all.0, λ k out. refl, r.2 ∙ sym (length-map r.0 pair_of) ∙ ap length all.2))
  len_sees s (Refused x) r = refuses_sight (λ m. LenAnswers [] m [] s (Refused x)) c s x r (λ m is kept. is)
  len_sees s reply r = absurd r

  empty_sees : (s : ℕ) (reply : Reply) → IsEmptyReply s c reply → Sight (λ m. EmptyAnswers [] m [] s reply) c s reply
  empty_sees s (Truth b) r =
      let all = end_seen Front s r.0 r.1 in
      answers_sight (λ m. EmptyAnswers [] m [] s (Truth b)) c s (Truth b) all.0 all.1 (λ low. (shows c s all.0, λ k out. refl, first_tells b r.0 (entries (shows c s all.0)) r.2 all.2))
  empty_sees s (Refused x) r = refuses_sight (λ m. EmptyAnswers [] m [] s (Refused x)) c s x r (λ m is kept. is)
  empty_sees s reply r = absurd r

  end_sees : (end : End) (s : ℕ) (reply : Reply) → IsEndReply end s c reply → Sight (λ m. EndAnswers [] m [] end s reply) c s reply
  end_sees end s (EndPair p) r =
      let all = end_seen end s r.0 r.1 in
      answers_sight (λ m. EndAnswers [] m [] end s (EndPair p)) c s (EndPair p) all.0 all.1 (λ low. (shows c s all.0, λ k out. refl, same_pair p r.0 r.2 ∙ all.2))
  end_sees end s (Refused x) r = refuses_sight (λ m. EndAnswers [] m [] end s (Refused x)) c s x r (λ m is kept. is)
  end_sees end s reply r = absurd r

-- ---- each step

at_snapshot : (c : Core) (x : Option Step) (reply : Reply) (n s : ℕ) → Some n ≡ Some s → AnswersSight c n x reply → AnswersSight c s x reply
at_snapshot c x reply n s is answers = subst (λ t. AnswersSight c t x reply) (some_cut n s is) answers

module _ {S : Type 0} (lists : ListsAreSteps) (theory : Soundness) (opened : List Entry) (start : Map) (journal : List Event) (strategies : Strategies) where
  pub step_sees : (x : LogStep) (r : Reply) (old new : SeenLogged S) → Sound opened start journal old.core → TakesAlone strategies x r old new → SeesOne old.core x r
  step_sees (Get k n) r old new h takes s is = at_snapshot old.core (Some (run.Get k n)) r n s is (get_sees lists theory opened start journal old.core h k n r takes.1.0 takes.1.1)
  step_sees (GetInternalEntry k n) r old new h takes s is = at_snapshot old.core (Some (run.GetInternalEntry k n)) r n s is (entry_sees lists theory opened start journal old.core h k n r takes.1.0 takes.1.1)
  step_sees (ContainsKey k n) r old new h takes s is = at_snapshot old.core (Some (run.ContainsKey k n)) r n s is (contains_sees lists theory opened start journal old.core h k n r takes.1.1.2)
  step_sees (SizeOf k n) r old new h takes s is = at_snapshot old.core (Some (run.SizeOf k n)) r n s is (size_sees lists theory opened start journal old.core h k n r takes.1.1.2)
  step_sees (Range low high n) r old new h takes s is = at_snapshot old.core (Some (run.Range low high n)) r n s is (pairs_see lists theory opened start journal old.core h (Between low high) (Lists old.core low high n) n r takes.1.0 takes.1.1)
  step_sees (Iter n) r old new h takes s is = at_snapshot old.core (Some (run.Iter n)) r n s is (pairs_see lists theory opened start journal old.core h (Between Unbounded Unbounded) (Lists old.core Unbounded Unbounded n) n r takes.1.0 takes.1.1)
  step_sees (Prefix p n) r old new h takes s is = at_snapshot old.core (Some (run.Prefix p n)) r n s is (pairs_see lists theory opened start journal old.core h (AskPrefix p) (ListsPrefix old.core p n) n r takes.1.0 takes.1.1)
  step_sees (Len n) r old new h takes s is = at_snapshot old.core (Some (run.Len n)) r n s is (len_sees lists theory opened start journal old.core h n r takes.1.1.2)
  step_sees (IsEmpty n) r old new h takes s is = at_snapshot old.core (Some (run.IsEmpty n)) r n s is (empty_sees lists theory opened start journal old.core h n r takes.1.1.2)
  step_sees (FirstKeyValue n) r old new h takes s is = at_snapshot old.core (Some (run.FirstKeyValue n)) r n s is (end_sees lists theory opened start journal old.core h Front n r takes.1.1.2)
  step_sees (LastKeyValue n) r old new h takes s is = at_snapshot old.core (Some (run.LastKeyValue n)) r n s is (end_sees lists theory opened start journal old.core h Back n r takes.1.1.2)
  step_sees x r old new h takes s is = absurd (cc is)

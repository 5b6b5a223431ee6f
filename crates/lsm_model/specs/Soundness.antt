-- What crates above the theory go on from: what opening gives, what each step keeps, and what follows of reads.
use Rattle.std.specs.Prelude.{◌≡◌, ℕ, ◌≤◌, Bool, true, List, [], ◌∷◌, ◌++◌, Some, map}
use Rattle.std.specs.List.{AllByRecursion}
use Rattle.std.specs.FinMap.{get}
use Rattle.lsm_below.specs.Keys.{Bytes}
use Rattle.lsm_below.specs.Entries.{Entry, above}
use Rattle.lsm_model.specs.Journal.{Event, Map, InOrder, replay, answer, is_outside, cut}
use Rattle.lsm_model.specs.Views.{SuperVersion, view, found_at, sources, answered}
use Rattle.lsm_model.specs.Steps.{State, Action, Wrote, Marked, Maintained, Step, Run, IsOpened, ReadsEqualReplay, Spares, StaysAt}
use Rattle.lsm_model.specs.Sound.{Holds}
use Rattle.lsm_model.specs.Beginnings.{Saved, Deed, Done, Deeds, is_commit}
use Rattle.lsm_model.specs.declared.question.Question.{Question}

-- what holds of an opened tree holds after each step in order
pub record HoldsIsKept : Type 0 where
  pub opened : (opened : List Entry) (start : Map) (old : State) → IsOpened opened start old → Holds opened start old
  pub step : (opened : List Entry) (start : Map) (old : State) (action : Action) (new : State) → Step opened old action new → InOrder opened new.journal → Holds opened start old → Holds opened start new
  pub run : (opened : List Entry) (start : Map) (old : State) (actions : List Action) (new : State) → Run opened old actions new → InOrder opened new.journal → Holds opened start old → Holds opened start new
  -- and so does a tree after deeds, also where a commit's outcome is unknown
  pub deeds : (opened : List Entry) (start : Map) (old : Saved) (deeds : List Deed) (new : Saved) → Deeds opened old deeds new → InOrder opened new.state.journal → Holds opened start old.state → Holds opened start new.state
  -- a journal in order is in order up to each of its places
  pub front : (opened : List Entry) (journal more : List Event) → InOrder opened (journal ++ more) → InOrder opened journal

-- from it follows what reads answer
pub record HoldsReadsRight : Type 0 where
  pub reads : (opened : List Entry) (start : Map) (t : State) → Holds opened start t → ReadsEqualReplay opened start t
  pub views : (opened : List Entry) (start : Map) (t : State) → Holds opened start t → (s : ℕ) (sv : SuperVersion) → above opened ≤ s → found_at s t.latest t.older ≡ Some sv
      → (k : Bytes) → is_outside k s t.journal ≡ true → get (view s (sources t.mems sv)) k ≡ get (replay start t.journal s) k
  pub answers : (opened : List Entry) (start : Map) (t : State) → Holds opened start t → (s : ℕ) (sv : SuperVersion) → found_at s t.latest t.older ≡ Some sv
      → (question : Question) → answered s (sources t.mems sv) question ≡ answer (view s (sources t.mems sv)) question
  -- maps that have the same outside dropped ranges answer each question alike there
  pub alike : (m n : Map) (out : Bytes → Bool) → ((k : Bytes) → out k ≡ true → get m k ≡ get n k) → (question : Question) → cut out question (answer m question) ≡ cut out question (answer n question)

-- and which answers a step leaves
pub record HoldsSpares : Type 0 where
  pub step : (opened : List Entry) (start : Map) (s : ℕ) (old : State) (action : Action) (new : State) → Step opened old action new → InOrder opened new.journal → Spares action new s → Holds opened start old → StaysAt s old new
  pub writes : (opened : List Entry) (start : Map) (s : ℕ) (es : List Entry) (old new : State) → Run opened old (map Wrote es) new → InOrder opened new.journal → AllByRecursion (λ e. s ≤ e.key.seqno) es → Holds opened start old → StaysAt s old new
  -- a commit that is answered, with its mark and its maintenance, leaves what the action is to leave
  pub commits : (opened : List Entry) (start : Map) (s w : ℕ) (action : Action) (old new : Saved) → is_commit action ≡ true → Deeds opened old (Done (Marked w) ∷ (Done action ∷ (Done (Maintained w) ∷ []))) new → InOrder opened new.state.journal
      → ((mid after : State) → Step opened mid action after → after.journal ≡ new.state.journal → Spares action after s) → Holds opened start old.state → StaysAt s old.state new.state
  -- what has the same memtables and super versions shows the same
  pub same : (s : ℕ) (old new : State) → new.mems ≡ old.mems → new.latest ≡ old.latest → new.older ≡ old.older → StaysAt s old new

-- all three
pub record Soundness : Type 0 where
  pub kept : HoldsIsKept
  pub right : HoldsReadsRight
  pub spares : HoldsSpares

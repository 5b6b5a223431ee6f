-- A run after whatever was called before, and its first so many steps.
use Rattle.std.proofs.Common.{◌≡◌, inl, inr, ℕ, zero, suc, List, [], ◌∷◌, ◌++◌, map, take, refl, sym, subst, append_assoc}
use Rattle.lsm_below.specs.Entries.{Entry}
use Rattle.lsm_model.specs.Journal.{Event, Map, InOrder}
use Rattle.lsm_run_model.specs.Moments.{last_of}
use Rattle.lsm_state.specs.Core.{Core}
use Rattle.lsm_state.specs.ListSteps.{ListsAreSteps}
use Rattle.lsm_runs.specs.declared.steps.Step.{Step as Call}
use Rattle.lsm_runs.specs.After.{AnswersAfter, EachSpares, RanThrough, RunIsRight}
use Rattle.lsm_runs.specs.Compacting.{Strategies}
use Rattle.lsm_runs.specs.Runs.{Ran, RanToEnd, IsPlainUse, journal_of}
use Rattle.lsm_runs.specs.Slots.{Stage, at_first, Closes}
use Rattle.lsm_runs.specs.Told.{Told}
use Rattle.lsm_runs.proofs.JobReplays.{AreMarked, first_marked_behind}
use Rattle.lsm_runs.proofs.Keeping.{KeepLaws}
use Rattle.lsm_runs.proofs.ReadReplays.{Sound}
use Rattle.lsm_runs.proofs.Replays.{ran_right, closed, takes_sound, takes_marked}
use Rattle.lsm_runs.proofs.Spared.{takes_spares}

module _ (strategies : Strategies) where
  -- ---- the stages of a run

  abbrev stages_in : (xs : List Call) (ts : List Told) (old new : Stage) → Ran strategies xs ts old new → List Stage
  stages_in [] ts old new r = []
  stages_in (x ∷ xs) [] old new r = []
  stages_in (x ∷ xs) (t ∷ ts) old new r = r.0 ∷ stages_in xs ts r.0 new r.2

  through : (xs : List Call) (ts : List Told) (old new : Stage) (r : Ran strategies xs ts old new) → RanThrough strategies xs ts old (stages_in xs ts old new r)
  through [] [] old new r = tt
  through [] (t ∷ ts) old new r = absurd r
  through (x ∷ xs) [] old new r = absurd r
  through (x ∷ xs) (t ∷ ts) old new r = (r.1, through xs ts r.0 new r.2)

  ends : (xs : List Call) (ts : List Told) (old new : Stage) (r : Ran strategies xs ts old new) → last_of old (stages_in xs ts old new r) ≡ new
  ends [] [] old new r = sym r
  ends [] (t ∷ ts) old new r = absurd r
  ends (x ∷ xs) [] old new r = absurd r
  ends (x ∷ xs) (t ∷ ts) old new r = ends xs ts r.0 new r.2

  -- the first so many are a run
  ran_front : (many : ℕ) (xs : List Call) (ts : List Told) (old new : Stage) (r : Ran strategies xs ts old new) → Ran strategies (take many xs) (take many ts) old (last_of old (take many (stages_in xs ts old new r)))
  ran_front zero xs ts old new r = refl
  ran_front (suc many) [] [] old new r = refl
  ran_front (suc many) [] (t ∷ ts) old new r = absurd r
  ran_front (suc many) (x ∷ xs) [] old new r = absurd r
  ran_front (suc many) (x ∷ xs) (t ∷ ts) old new r = (r.0, r.1, ran_front many xs ts r.0 new r.2)

  -- ---- answers, and what is spared

  module _ (lists : ListsAreSteps) (laws : KeepLaws) (opened : List Entry) (start : Map) where
    answers : (xs : List Call) (ts : List Told) (journal : List Event) (old : Core) (last : Stage) → Ran strategies xs ts (at_first old) last → AnswersAfter opened start journal xs ts old last.core
    answers xs ts journal old last r plain holds order = ran_right lists laws strategies opened start xs ts journal (at_first old) last r plain (first_marked_behind journal old) order holds

    spared : (many : ℕ) (xs : List Call) (ts : List Told) (journal : List Event) (old new : Stage) (r : Ran strategies xs ts old new) → IsPlainUse (take many xs) → AreMarked journal old.jobs → InOrder opened (journal ++ journal_of (take many ts)) → Sound opened start journal old.core
        → EachSpares (take many ts) old.core (map (λ s. s.core) (take many (stages_in xs ts old new r)))
    spared zero xs ts journal old new r plain m order h = tt
    spared (suc many) [] [] journal old new r plain m order h = tt
    spared (suc many) [] (t ∷ ts) journal old new r plain m order h = absurd r
    spared (suc many) (x ∷ xs) [] journal old new r plain m order h = absurd r
    spared (suc many) (x ∷ xs) (t ∷ ts) journal old new r plain m order h =
        let order' : InOrder opened ((journal ++ t.entries) ++ journal_of (take many ts)) = subst (InOrder opened) (sym (append_assoc journal t.entries (journal_of (take many ts)))) order in
        let front = laws.theory.kept.front opened (journal ++ t.entries) (journal_of (take many ts)) order' in
        let here = takes_sound laws strategies opened start x t.reply journal t.entries old r.0 r.1 (λ is. plain (inl is)) m front h in
        let marked = takes_marked laws.compactions strategies x t.reply journal t.entries old r.0 r.1 m in
        (takes_spares laws strategies opened start x t.reply journal t.entries old r.0 r.1 (λ is. plain (inl is)) m front h, spared many xs ts (journal ++ t.entries) r.0 new r.2 (λ i. plain (inr i)) marked order' here)

pub run_is_right : ListsAreSteps → KeepLaws → (strategies : Strategies) (xs : List Call) (ts : List Told) (old new : Core) → RanToEnd strategies xs ts old new → RunIsRight strategies xs ts old new
run_is_right lists laws strategies xs ts old new r = record {
  stages = stages_in strategies xs ts (at_first old) r.0 r.1;
  ran = through strategies xs ts (at_first old) r.0 r.1;
  closes = subst (λ (s : Stage). Closes s.core new) (sym (ends strategies xs ts (at_first old) r.0 r.1)) r.2;
  answers = λ many opened start journal. answers strategies lists laws opened start (take many xs) (take many ts) journal old _ (ran_front strategies many xs ts (at_first old) r.0 r.1);
  spares = λ many opened start journal plain holds order. spared strategies lists laws opened start many xs ts journal (at_first old) r.0 r.1 plain (first_marked_behind journal old) order holds;
  goes_on = λ opened start journal plain holds order.
      let done = answers strategies lists laws opened start xs ts journal old r.0 r.1 plain holds order in
      (done.0, closed opened start (journal ++ journal_of ts) r.0.core new r.2 done.1);
}

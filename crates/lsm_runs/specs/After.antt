-- Runs after whatever was called before, and their first steps alone.
use Rattle.std.specs.Prelude.{ℕ, List, [], ◌∷◌, ◌++◌, map, take}
use Rattle.lsm_below.specs.Entries.{Entry}
use Rattle.lsm_model.specs.Journal.{Event, Map, InOrder}
use Rattle.lsm_model.specs.Sound.{Holds}
use Rattle.lsm_run_model.specs.Moments.{last_of}
use Rattle.lsm_state.specs.Core.{Core, state_of}
use Rattle.lsm_runs.specs.declared.steps.Step.{Step}
use Rattle.lsm_runs.specs.Compacting.{Strategies}
use Rattle.lsm_runs.specs.Runs.{Takes, IsPlainUse, EachAnswers, Spares, journal_of, without_low_reads}
use Rattle.lsm_runs.specs.Slots.{Stage, at_first, Closes}
use Rattle.lsm_runs.specs.Told.{Told}

-- Over a tree whose reads are right after this journal (`Holds`: every super version stays ordered, views equal replays, kept snapshots are
-- answered), in plain use, whenever the journal stays in order: each step answers right, and reads are right after the steps.
abbrev pub AnswersAfter : (opened : List Entry) (start : Map) (journal : List Event) → List Step → List Told → Core → Core → Type 0
AnswersAfter opened start journal steps told old new =
    IsPlainUse steps → Holds opened start (state_of (without_low_reads opened journal) old) → InOrder opened (journal ++ journal_of told)
    → EachAnswers opened start journal steps told × Holds opened start (state_of (without_low_reads opened (journal ++ journal_of told)) new)

-- along a chain of trees each step leaves what its events spare
abbrev pub EachSpares : List Told → Core → List Core → Type 0
EachSpares [] old [] = Unit {0}
EachSpares (t ∷ ts) old (mid ∷ trees) = Spares t.entries old mid × EachSpares ts mid trees
EachSpares ts old trees = ⊥

-- so no step changes what a snapshot sees that is answered before and after, but a write, a clear or a drop at the snapshots above its number
abbrev pub RunSparesAnswers : (opened : List Entry) (start : Map) (journal : List Event) → List Step → List Told → Core → List Core → Type 0
RunSparesAnswers opened start journal steps told old trees =
    IsPlainUse steps → Holds opened start (state_of (without_low_reads opened journal) old) → InOrder opened (journal ++ journal_of told) → EachSpares told old trees

-- the steps, one after the other, lead through these stages with these outcomes
abbrev pub RanThrough : Strategies → List Step → List Told → Stage → List Stage → Type 0
RanThrough strategies [] [] old [] = Unit {0}
RanThrough strategies (x ∷ xs) (t ∷ ts) old (mid ∷ stages) = Takes strategies x t.reply t.entries old mid × RanThrough strategies xs ts mid stages
RanThrough strategies xs ts old stages = ⊥

-- A run, and its first so many steps, whatever comes later.
pub record RunIsRight (strategies : Strategies) (steps : List Step) (told : List Told) (old new : Core) : Type 0 where
  pub stages : List Stage
  pub ran : RanThrough strategies steps told (at_first old) stages
  pub closes : Closes (last_of (at_first old) stages).core new
  pub answers : (many : ℕ) (opened : List Entry) (start : Map) (journal : List Event) → AnswersAfter opened start journal (take many steps) (take many told) old (last_of (at_first old) (take many stages)).core
  pub spares : (many : ℕ) (opened : List Entry) (start : Map) (journal : List Event) → RunSparesAnswers opened start journal (take many steps) (take many told) old (map (λ s. s.core) (take many stages))
  pub goes_on : (opened : List Entry) (start : Map) (journal : List Event) → AnswersAfter opened start journal steps told old new

-- A run beside the counter of sequence numbers, and the order of calls as callers keep it.
use Rattle.std.specs.Prelude.{◌≡◌, List, [], ◌∷◌, ◌++◌, map}
use Rattle.lsm_below.specs.Entries.{Entry}
use Rattle.lsm_model.specs.Journal.{InOrder}
use Rattle.lsm_model.specs.Counted.{Counted, InCountedOrder}
use Rattle.lsm_run_model.specs.Counting.{counted_at}
use Rattle.lsm_state.specs.Core.{Core}
use Rattle.lsm_runs.specs.declared.steps.Step.{Step}
use Rattle.lsm_runs.specs.Slots.{Stage, at_first, Closes}
use Rattle.lsm_runs.specs.Told.{Told}
use Rattle.lsm_runs.specs.Compacting.{Strategies}
use Rattle.lsm_runs.specs.Runs.{Takes, journal_of}

-- the steps lead from the old state to the new with these outcomes, and this is their journal beside the counter
abbrev pub RanCounted : Strategies → List Step → List Told → List Counted → Stage → Stage → Type 0
RanCounted strategies [] [] journal old new = (journal ≡ []) × (new ≡ old)
RanCounted strategies (x ∷ xs) (t ∷ ts) journal old new = (mid : Stage) × (rest : List Counted) × Takes strategies x t.reply t.entries old mid × (journal ≡ map (counted_at old.core.seqno mid.core.seqno) t.entries ++ rest) × RanCounted strategies xs ts rest mid new
RanCounted strategies [] (t ∷ ts) journal old new = ⊥
RanCounted strategies (x ∷ xs) [] journal old new = ⊥

-- A run has a journal beside the counter, and where that keeps the order that the counter and the keys ask for, the
-- journal is in order.
pub record RunIsInOrder (strategies : Strategies) (steps : List Step) (told : List Told) (old new : Core) : Type 0 where
  pub counted : List Counted
  pub last : Stage
  pub ran : RanCounted strategies steps told counted (at_first old) last
  pub closes : Closes last.core new
  pub order : (opened : List Entry) (journal : List Counted) (last : Stage) → RanCounted strategies steps told journal (at_first old) last → InCountedOrder opened journal → InOrder opened (journal_of told)

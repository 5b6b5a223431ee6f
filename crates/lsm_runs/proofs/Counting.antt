-- The journal of a run beside the counter is its journal, so an order told by the counter is the journal's order.
use Rattle.std.proofs.Common.{◌≡◌, List, [], ◌∷◌, ◌++◌, map, refl, ap, ◌∙◌, subst}
use Rattle.lsm_model.specs.Journal.{InOrder}
use Rattle.lsm_model.specs.Counted.{Counted, events_of, CountedIsInOrder}
use Rattle.lsm_run_model.specs.Counting.{counted_at}
use Rattle.lsm_run_model.proofs.Counting.{events_append}
use Rattle.lsm_state.specs.Core.{Core}
use Rattle.lsm_runs.specs.declared.steps.Step.{Step}
use Rattle.lsm_runs.specs.Told.{Told}
use Rattle.lsm_runs.specs.Slots.{Stage, at_first}
use Rattle.lsm_runs.specs.Compacting.{Strategies}
use Rattle.lsm_runs.specs.Runs.{Ran, RanToEnd, journal_of}
use Rattle.lsm_runs.specs.Counting.{RanCounted, RunIsInOrder}

counted_run : (strategies : Strategies) (xs : List Step) (ts : List Told) (old new : Stage) → Ran strategies xs ts old new → (journal : List Counted) × RanCounted strategies xs ts journal old new
counted_run strategies [] [] old new r = ([], (refl, r))
counted_run strategies [] (t ∷ ts) old new r = absurd r
counted_run strategies (x ∷ xs) [] old new r = absurd r
counted_run strategies (x ∷ xs) (t ∷ ts) old new r =
    let rest = counted_run strategies xs ts r.0 new r.2 in
    (map (counted_at old.core.seqno r.0.core.seqno) t.entries ++ rest.0, (r.0, rest.0, r.1, refl, rest.1))

events_run : (strategies : Strategies) (xs : List Step) (ts : List Told) (journal : List Counted) (old new : Stage) → RanCounted strategies xs ts journal old new → events_of journal ≡ journal_of ts
events_run strategies [] [] journal old new r = ap events_of r.0
events_run strategies [] (t ∷ ts) journal old new r = absurd r
events_run strategies (x ∷ xs) [] journal old new r = absurd r
events_run strategies (x ∷ xs) (t ∷ ts) journal old new r =
    ap events_of r.3 ∙ events_append old.core.seqno r.0.core.seqno t.entries r.1 ∙ ap (λ ys. t.entries ++ ys) (events_run strategies xs ts r.1 r.0 new r.4)

pub run_in_order : CountedIsInOrder → (strategies : Strategies) (xs : List Step) (ts : List Told) (old new : Core) → RanToEnd strategies xs ts old new → RunIsInOrder strategies xs ts old new
run_in_order law strategies xs ts old new r =
    let counted = counted_run strategies xs ts (at_first old) r.0 r.1 in
    record {
      counted = counted.0;
      last = r.0;
      ran = counted.1;
      closes = r.2;
      order = λ opened journal last ran order. subst (InOrder opened) (events_run strategies xs ts journal (at_first old) last ran) (law opened journal order);
    }

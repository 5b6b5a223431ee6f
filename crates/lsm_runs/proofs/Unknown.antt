-- Where the outcome of a commit is unknown, it stays so.
use Rattle.std.proofs.Common.{◌≡◌, ⊎_elim, inl, inr, ℕ, ◌++◌, List, [], ◌∷◌, Option, None, Result, Ok, Err, IsSome, IfOk, refl, sym, ap, ◌∙◌, subst}
use Rattle.std.specs.BTreeMap.{BTreeMap}
use Rattle.lsm_below.specs.declared.error.Error.{Error}
use Rattle.lsm_below.specs.declared.error.Error.TheVariants.{Unrecoverable}
use Rattle.lsm_model.specs.Journal.{Event}
use Rattle.lsm_flush.specs.declared.jobs.Registered.{Registered as Outcome}
use Rattle.lsm_pick.specs.declared.choice.Choice.{Choice}
use Rattle.lsm_pick.specs.declared.bounds.OwnedBounds.{OwnedBounds}
use Rattle.lsm_pick.specs.declared.choice.ChooseError.{ChooseError}
use Rattle.lsm_journal.specs.Noted.{BeginsAnswer, CompactsAnswer}
use Rattle.lsm_state.specs.Core.{Core}
use Rattle.lsm_state.specs.Flushes.{sealed_ids}
use Rattle.lsm_state.specs.WholeFlushes.{Flushes, RefusesRotation}
use Rattle.lsm_state.specs.WholeCompactions.{Follows, options_at}
use Rattle.lsm_state.specs.Compactions.{Relation}
use Rattle.lsm_state.specs.declared.compaction.Begun.{Begun}
use Rattle.lsm_state.specs.declared.compaction.Options.{Options}
use Rattle.lsm_runs.specs.declared.slots.Job.{Job}
use Rattle.lsm_runs.specs.declared.steps.JobStep.{JobStep}
use Rattle.lsm_runs.specs.declared.steps.JobStep.TheVariants.{FlushToTables, RegisterTables, BeginCompaction, FinishCompaction}
use Rattle.lsm_runs.specs.declared.steps.Step.{Step}
use Rattle.lsm_runs.specs.declared.steps.Step.TheVariants.{AtSlot, Flush, FlushActiveMemtable, Compact, DoCompaction, MajorCompact, DropRange, Clear}
use Rattle.lsm_runs.specs.declared.steps.Reply.{Reply}
use Rattle.lsm_runs.specs.declared.steps.Reply.TheVariants.{Done, Registered, Flushed, FlushedActive, RefusedActive, Cleared, NoJob, NoStrategy, SlotInUse, Refused}
use Rattle.lsm_journal.specs.NotedFlushes.{FlushesRotated}
use Rattle.lsm_runs.specs.Flushing.{TakesTables, RegistersFrom, TakesRegister, TakesFlush, TakesFlushActive}
use Rattle.lsm_runs.specs.Compacting.{Strategies, TakesBeginCompaction, TakesFinish, CompactsFrom, TakesCompact, TakesDropRange}
use Rattle.lsm_journal.specs.NotedClears.{ClearsNoted}
use Rattle.lsm_runs.specs.Clearing.{TakesClear}
use Rattle.lsm_runs.specs.JobSteps.{TakesJob}
use Rattle.lsm_runs.specs.Runs.{Takes, TakesAlone}
use Rattle.lsm_runs.specs.Slots.{Stage, Closes, at_first, beside}
use Rattle.lsm_runs.specs.Told.{Told}
use Rattle.lsm_runs.specs.Unknown.{StaysUnknown, RanUnknown, StopsBehind, RunStops}
use Rattle.lsm_runs.proofs.Replays.{free_slots}
use Rattle.lsm_runs.proofs.Resting.{Rests, job_rests, alone_rests, rotated, spends_rests}

-- what is unknown in the old tree is unknown in the new one
Lasts : Core → Core → Type 0
Lasts old new = IsSome old.lost → new.lost ≡ old.lost

still : (old new : Core) → new ≡ old → Lasts old new
unfolding Lasts
still old new is some = ap (λ (c : Core). c.lost) is

rests : (old new : Core) → Rests old new → Lasts old new
unfolding Lasts
rests old new r some = r.lost

-- ---- flushes

tables : (reply : Reply) (events : List Event) (was is : Option Job) (old new : Core) → TakesTables reply events was is old new → Lasts old new
unfolding Lasts
tables Done events was is old new t some = ap (λ (c : Core). c.lost) t.1.4.ok
tables (Refused x) events was is old new t some = ap (λ (c : Core). c.lost) t.1.3.err
tables NoJob events was is old new t some = ap (λ (c : Core). c.lost) t.0.2
tables reply events was is old new t some = absurd t

registers : (r : Result Outcome Error) (events : List Event) (was is : Option Job) (old new : Core) → RegistersFrom r events was is old new → Lasts old new
unfolding Lasts
registers r events was is old new t some = ap (λ (c : Core). c.lost) (t.4.before (inl (t.4.unrecoverable.1 some)))

register : (reply : Reply) (events : List Event) (was is : Option Job) (old new : Core) → TakesRegister reply events was is old new → Lasts old new
register (Registered a) events was is old new t = registers (Ok a) events was is old new t
register (Refused x) events was is old new t = registers (Err x) events was is old new t
register NoJob events was is old new t = still old new t.0.2
register reply events was is old new t = absurd t

flushes : (w : ℕ) (r : Result (Option (ℕ × Outcome)) Error) (old new : Core) → Flushes w r old new → Lasts old new
unfolding Lasts
flushes w r old new f some = ap (λ (c : Core). c.lost) (go (sealed_ids old) refl)
  where
    no : (i : ℕ) (is : List ℕ) → ◌≡◌ {A = List ℕ} (i ∷ is) [] → ⊥
    no i is h = cc

    go : (ids : List ℕ) → sealed_ids old ≡ ids → new ≡ old
    go [] is = (subst (λ x. IfOk x (λ a. a ≡ None → (sealed_ids old ≡ []) × (new ≡ old))) (f.none is) f.some refl).1
    go (i ∷ ids) is = f.before (inl (f.unrecoverable.1 ((λ none. no i ids (sym is ∙ none)), some)))

flush : (w : ℕ) (reply : Reply) (events : List Event) (old new : Core) → TakesFlush w reply events old new → Lasts old new
flush w (Flushed a) events old new t = flushes w (Ok a) old new t.2
flush w (Refused x) events old new t = flushes w (Err x) old new t.2
flush w reply events old new t = absurd t

rotates : (w : ℕ) (id : Option ℕ) (r : Result (Option (ℕ × Outcome)) Error) (events : List Event) (old new : Core) → FlushesRotated w id r events old new → Lasts old new
unfolding Lasts
rotates w id r events old new t some =
    let same = (rotated old id t.0 t.1).lost in
    flushes w r t.0 new t.2.2 (subst (λ o. IsSome o) (sym same) some) ∙ same

flush_active : (w : ℕ) (reply : Reply) (events : List Event) (old new : Core) → TakesFlushActive w reply events old new → Lasts old new
flush_active w (FlushedActive id a) events old new t = rotates w id (Ok a) events old new t
flush_active w (RefusedActive id x) events old new t = ⊎_elim
    (λ (none : (events ≡ []) × RefusesRotation id x old new). still old new none.1.unchanged)
    (λ (some : FlushesRotated w id (Err x) events old new). rotates w id (Err x) events old new some)
    t
flush_active w reply events old new t = absurd t

-- ---- compactions

begins : (answer : Result Choice Error) (o : Options) (r : Result Begun Error) (events : List Event) (old new : Core) → BeginsAnswer answer o r events old new → Lasts old new
unfolding Lasts
begins (Ok choice) o r events old new b some = ap (λ (c : Core). c.lost) (b.0.uncertain some)
begins (Err e) o r events old new b some = ap (λ (c : Core). c.lost) b.2

begin_compaction : (strategies : Strategies) (at : ℕ) (o : Options) (reply : Reply) (events : List Event) (was is : Option Job) (old new : Core) → TakesBeginCompaction strategies at o reply events was is old new → Lasts old new
begin_compaction strategies at o SlotInUse events was is old new t = still old new t.0.2
begin_compaction strategies at o NoStrategy events was is old new t = still old new t.0.2
begin_compaction strategies at o reply events was is old new t = begins t.answer o t.begun events old new t.begins

finish : (reply : Reply) (events : List Event) (was is : Option Job) (old new : Core) → TakesFinish reply events was is old new → Lasts old new
unfolding Lasts
finish NoJob events was is old new t some = ap (λ (c : Core). c.lost) t.0.2
finish reply events was is old new t some = (spends_rests t.job.job old new (t.ends.0.uncertain some)).lost

compacts : (answer : Result Choice Error) (o : Options) (r : Result Begun Error) (events : List Event) (old new : Core) → CompactsAnswer answer o r events old new → Lasts old new
unfolding Lasts
compacts (Ok choice) o r events old new c some =
    let whole = c.compacts in
    let behind : (r ≡ Err Unrecoverable) × (new ≡ whole.mid) = subst (λ x. Follows x r whole.mid new) (whole.begins.unrecoverable.1 some) whole.follows in
    ap (λ (d : Core). d.lost) (behind.1 ∙ whole.begins.uncertain some)
compacts (Err e) o r events old new b some = ap (λ (c : Core). c.lost) b.2

compacts_from : (may_choose : Relation Choice) (may_refuse : Relation ChooseError) (o : Options) (reply : Reply) (events : List Event) (old new : Core) → CompactsFrom may_choose may_refuse o reply events old new → Lasts old new
compacts_from may_choose may_refuse o reply events old new t = compacts t.answer o t.does.done events old new t.does.compacts

compact : (strategies : Strategies) (at : ℕ) (o : Options) (reply : Reply) (events : List Event) (old new : Core) → TakesCompact strategies at o reply events old new → Lasts old new
compact strategies at o NoStrategy events old new t = still old new t.1
compact strategies at o reply events old new t = compacts_from _ _ o reply events old new t.1

drop_range : (bounds : OwnedBounds) (reply : Reply) (events : List Event) (old new : Core) → TakesDropRange bounds reply events old new → Lasts old new
drop_range bounds reply events old new (inl none) = still old new none.4
drop_range bounds reply events old new (inr some) = compacts_from _ _ _ reply events old new some.1

-- ---- clears

clears : (r : Result ℕ Error) (events : List Event) (old new : Core) → ClearsNoted r events old new → Lasts old new
unfolding Lasts
clears r events old new t some = ap (λ (c : Core). c.lost) (t.1.before (inl (t.1.unrecoverable.1 some)))

clear : (reply : Reply) (events : List Event) (old new : Core) → TakesClear reply events old new → Lasts old new
clear (Cleared n) events old new t = clears (Ok n) events old new t
clear (Refused x) events old new t = clears (Err x) events old new t
clear reply events old new t = absurd t

-- ---- all steps

job_lasts : (strategies : Strategies) (step : JobStep) (reply : Reply) (events : List Event) (was is : Option Job) (old new : Core) → TakesJob strategies step reply events was is old new → Lasts old new
job_lasts strategies FlushToTables reply events was is old new t = tables reply events was is old new t
job_lasts strategies RegisterTables reply events was is old new t = register reply events was is old new t
job_lasts strategies (BeginCompaction at o) reply events was is old new t = begin_compaction strategies at o reply events was is old new t
job_lasts strategies FinishCompaction reply events was is old new t = finish reply events was is old new t
job_lasts strategies step reply events was is old new t = rests old new (job_rests strategies step reply events was is old new t)

alone_lasts : (strategies : Strategies) (x : Step) (reply : Reply) (events : List Event) (old new : Core) → TakesAlone strategies x reply events old new → Lasts old new
alone_lasts strategies (Flush w) reply events old new t = flush w reply events old new t
alone_lasts strategies (FlushActiveMemtable w) reply events old new t = flush_active w reply events old new t
alone_lasts strategies (Compact at w) reply events old new t = compact strategies at (options_at w old) reply events old new t
alone_lasts strategies (DoCompaction at o) reply events old new t = compact strategies at o reply events old new t
alone_lasts strategies (MajorCompact target w) reply events old new t = compacts_from _ _ _ reply events old new t
alone_lasts strategies (DropRange low high) reply events old new t = drop_range _ reply events old new t
alone_lasts strategies Clear reply events old new t = clear reply events old new t
alone_lasts strategies x reply events old new t = rests old new (alone_rests strategies x reply events old new t)

step_lasts : (strategies : Strategies) (x : Step) (reply : Reply) (events : List Event) (old new : Stage) → Takes strategies x reply events old new → Lasts old.core new.core
step_lasts strategies (AtSlot slot step) reply events old new t = job_lasts strategies step reply events (old.jobs slot) (new.jobs slot) old.core new.core t.0
step_lasts strategies x reply events old new t = alone_lasts strategies x reply events old.core new.core t.0

-- ---- runs

module _ {F : Type 0} (strategies : Strategies) where
  -- a step that doesn't call the store where it is unknown
  pub step_unknown : (x : Step) (t : Told) (old new : Stage) (was is : F) → Takes strategies x t.reply t.entries old new → (IsSome old.core.lost → is ≡ was) → StaysUnknown was is old.core new.core
  unfolding Lasts
  step_unknown x t old new was is takes calls some = (calls some, step_lasts strategies x t.reply t.entries old new takes some)

  then : (was store is : F) (old mid new : Core) → StaysUnknown was store old mid → StaysUnknown store is mid new → StaysUnknown was is old new
  then was store is old mid new first second some =
      let one = first some in
      let two = second (subst (λ o. IsSome o) (sym one.1) some) in
      (two.0 ∙ one.0, two.1 ∙ one.1)

  pub unknown_more : (xs : List Step) (ts : List Told) (x : Step) (t : Told) (old mid new : Stage) (was store is : F) → RanUnknown strategies xs ts old mid was store
      → Takes strategies x t.reply t.entries mid new → StaysUnknown store is mid.core new.core → RanUnknown strategies (xs ++ x ∷ []) (ts ++ t ∷ []) old new was is
  unknown_more [] [] x t old mid new was store is r takes u =
      subst (λ (m : Stage). RanUnknown strategies (x ∷ []) (t ∷ []) m new was is) r.0 (subst (λ (f : F). RanUnknown strategies (x ∷ []) (t ∷ []) mid new f is) r.1 (new, is, takes, u, (refl, refl)))
  unknown_more [] (y ∷ ts) x t old mid new was store is r takes u = absurd r
  unknown_more (y ∷ xs) [] x t old mid new was store is r takes u = absurd r
  unknown_more (y ∷ xs) (z ∷ ts) x t old mid new was store is r takes u = (r.0, r.1, r.2, r.3, unknown_more xs ts x t r.0 mid new r.1 store is r.4 takes u)

  whole : (xs : List Step) (ts : List Told) (old new : Stage) (was is : F) → RanUnknown strategies xs ts old new was is → StaysUnknown was is old.core new.core
  whole [] [] old new was is r some = (r.1, ap (λ (s : Stage). s.core.lost) r.0)
  whole [] (t ∷ ts) old new was is r some = absurd r
  whole (x ∷ xs) [] old new was is r some = absurd r
  whole (x ∷ xs) (t ∷ ts) old new was is r some = then was r.1 is old.core r.0.core new.core r.3 (whole xs ts r.0 new r.1 is r.4) some

  stops : (xs : List Step) (ts : List Told) (old new : Stage) (was is : F) → RanUnknown strategies xs ts old new was is → StopsBehind strategies xs ts old new was is
  stops [] [] old new was is r = r
  stops [] (t ∷ ts) old new was is r = absurd r
  stops (x ∷ xs) [] old new was is r = absurd r
  stops (x ∷ xs) (t ∷ ts) old new was is r = (r.0, r.1, r.2, whole xs ts r.0 new r.1 is r.4, stops xs ts r.0 new r.1 is r.4)

  -- what is open after the steps is given up
  run_stops : (xs : List Step) (ts : List Told) (old : Core) (last : Stage) (new : Core) (was is : F) → RanUnknown strategies xs ts (at_first old) last was is → Closes last.core new → RunStops strategies xs ts was is old new
  run_stops xs ts old last new was is r closes =
      (λ some. let u = whole xs ts (at_first old) last was is r some in (u.0, ap (λ (c : Core). c.lost) closes.rest ∙ u.1), (last, stops xs ts (at_first old) last was is r))

  -- from free slots on
  pub run_unknown : (xs : List Step) (ts : List Told) (slots : BTreeMap ℕ (Option Job)) (old : Core) (last : Stage) (new : Core) (was mid is : F) → slots.entries ≡ [] → RanUnknown strategies xs ts (beside old slots) last was mid → Closes last.core new → is ≡ mid
      → RunStops strategies xs ts was is old new
  run_unknown xs ts slots old last new was mid is empty ran closes same =
      subst (λ (f : F). RunStops strategies xs ts was f old new) (sym same)
      (run_stops xs ts old last new was mid (subst (λ (first : Stage). RanUnknown strategies xs ts first last was mid) (free_slots slots old empty) ran) closes)

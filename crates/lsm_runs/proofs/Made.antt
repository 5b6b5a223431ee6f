-- Which versions a step may leave: the latest one before it, and at most one other, which has a higher id.
use Rattle.std.proofs.Common.{◌≡◌, ◌⊎◌, inl, inr, ℕ, ◌+◌, ◌<◌, arith, Bool, true, false, List, Option, Some, None, option_to_list, Result, Ok, Err, IfErr, refl, sym, ap, ◌∙◌, subst}
use Rattle.std.specs.List.{AllByRecursion}
use Rattle.lsm_below.specs.declared.error.Error.{Error}
use Rattle.lsm_below.specs.declared.error.Error.TheVariants.{OutOfMemory, Store, CommitUnknown, Unrecoverable, OutOfNumbers, TooManyRuns, AfterCommit}
use Rattle.lsm_model.specs.Journal.{Event}
use Rattle.lsm_flush.specs.Jobs.{SeenWritten}
use Rattle.lsm_flush.specs.declared.jobs.Registered.{Registered as Outcome}
use Rattle.lsm_versions.specs.Levels.{SeenVersion, empty_levels}
use Rattle.lsm_checks.specs.declared.choice.Why.{Why}
use Rattle.lsm_compaction.specs.Merges.{SeenCompaction}
use Rattle.lsm_parts.specs.declared.version.super_version.SuperVersion.{SuperVersion}
use Rattle.lsm_pick.specs.declared.choice.Choice.{Choice}
use Rattle.lsm_pick.specs.declared.choice.Choice.TheVariants.{DoNothing, Move, Merge, Drop}
use Rattle.lsm_pick.specs.declared.choice.ChooseError.{ChooseError}
use Rattle.lsm_state.specs.declared.compaction.Options.{Options}
use Rattle.lsm_state.specs.declared.compaction.Begun.{Begun}
use Rattle.lsm_state.specs.declared.compaction.Begun.TheVariants.{DidNothing, Declined, Installed, Job as BegunMerge}
use Rattle.lsm_state.specs.declared.compaction.Finished.{Finished}
use Rattle.lsm_state.specs.Core.{Core, versions_left}
use Rattle.lsm_state.specs.Calls.{Rotates}
use Rattle.lsm_state.specs.Cleaning.{Cleans}
use Rattle.lsm_state.specs.Commits.{counted, committed, doubted}
use Rattle.lsm_state.specs.Settling.{SettlesSome, next_in}
use Rattle.lsm_state.specs.Flushes.{Registers, Installs, Doubts, spent, with_next_table}
use Rattle.lsm_state.specs.WholeFlushes.{Flushes, drawn_until}
use Rattle.lsm_state.specs.Clearing.{Clears, cleared_in}
use Rattle.lsm_state.specs.Compactions.{Relation, reason_of, Does, BeginsChoice, closed, Ends, EndsFor, Finishes}
use Rattle.lsm_state.specs.WholeCompactions.{Completes, Follows}
use Rattle.lsm_journal.specs.Noted.{BeginsAnswer, CompactsAnswer}
use Rattle.lsm_runs.specs.declared.slots.Job.{Job}
use Rattle.lsm_runs.specs.declared.steps.JobStep.{JobStep}
use Rattle.lsm_runs.specs.declared.steps.JobStep.TheVariants as job
use Rattle.lsm_runs.specs.declared.steps.Step.{Step as Call}
use Rattle.lsm_runs.specs.declared.steps.Step.TheVariants as step
use Rattle.lsm_runs.specs.declared.steps.Reply.{Reply}
use Rattle.lsm_runs.specs.declared.steps.Reply.TheVariants as reply
use Rattle.lsm_runs.specs.Clearing.{TakesClear}
use Rattle.lsm_runs.specs.Compacting.{Strategies, TakesBeginCompaction, TakesFinish, CompactsFrom, TakesCompact, TakesDropRange}
use Rattle.lsm_runs.specs.Flushing.{TakesTables, TakesRegister, TakesFlush, TakesFlushActive}
use Rattle.lsm_runs.specs.JobSteps.{TakesJob}
use Rattle.lsm_runs.specs.Runs.{Takes, TakesAlone}
use Rattle.lsm_runs.specs.Slots.{Stage}
use Rattle.lsm_runs.proofs.Resting.{Rests, rotated, spends_rests, job_rests, alone_rests}

-- ---- words

-- the tree has this version and no other, but for one of a higher id
pub record MakesOne (latest : SeenVersion) (new : Core) : Type 0 where
  pub made : SeenVersion
  pub higher : latest.id < made.id
  pub each : AllByRecursion (λ v. (v ≡ latest) ⊎ (v ≡ made)) (versions_left new)

-- the latest version stays, and no commit is of unknown outcome
pub record Stays (latest : SeenVersion) (new : Core) : Type 0 where
  pub same : new.history.latest.version ≡ latest
  pub certain : new.lost ≡ None

no_other : (P : SeenVersion → Type 0) (lost : Option SeenVersion) → lost ≡ None → AllByRecursion P (option_to_list lost)
no_other P lost none = subst (λ (l : Option SeenVersion). AllByRecursion P (option_to_list l)) (sym none) tt

abbrev next_of : SeenVersion → SeenVersion
next_of v = record { id = v.id + 1; log_from = 0; levels = empty_levels }

stays_one : (latest : SeenVersion) (new : Core) → Stays latest new → MakesOne latest new
stays_one latest new s = record { made = next_of latest; higher = let less : latest.id < latest.id + 1 = omega arith in less; each = (inl s.same, no_other _ new.lost s.certain) }

commits_one : (latest made : SeenVersion) (new : Core) → made.id ≡ latest.id + 1 → new.history.latest.version ≡ made → new.lost ≡ None → MakesOne latest new
commits_one latest made new id is certain = record { made = made; higher = omega (id, arith); each = (inr is, no_other _ new.lost certain) }

doubts_one : (latest made : SeenVersion) (new : Core) → made.id ≡ latest.id + 1 → new.history.latest.version ≡ latest → new.lost ≡ Some made → MakesOne latest new
doubts_one latest made new id is lost = record {
  made = made;
  higher = omega (id, arith);
  each = (inl is, subst (λ (l : Option SeenVersion). AllByRecursion (λ v. (v ≡ latest) ⊎ (v ≡ made)) (option_to_list l)) (sym lost) (inr refl, tt));
}

module _ (old new : Core) (certain : old.lost ≡ None) where
  abbrev latest : SeenVersion
  latest = old.history.latest.version

  idle : new ≡ old → Stays latest new
  idle is = record { same = ap (λ (c : Core). c.history.latest.version) is; certain = ap (λ (c : Core). c.lost) is ∙ certain }

  rests : Rests old new → Stays latest new
  rests r = record { same = let vs : versions_left new ≡ versions_left old = r.versions in cc vs; certain = r.lost ∙ certain }

  -- where it becomes one with the version and the outcome of before
  stays_by : (mid : Core) → new ≡ mid → mid.history.latest.version ≡ latest → mid.lost ≡ old.lost → Stays latest new
  stays_by mid is same lost = record { same = ap (λ (c : Core). c.history.latest.version) is ∙ same; certain = ap (λ (c : Core). c.lost) is ∙ lost ∙ certain }

  same_or_counted : (new ≡ old) ⊎ (new ≡ counted old) → Stays latest new
  same_or_counted (inl e) = idle e
  same_or_counted (inr e) = stays_by (counted old) e refl refl

  -- ---- commits

  cleaned_one : (next : SuperVersion) (w : ℕ) (whole : Bool) → next.version.id ≡ latest.id + 1 → Cleans w whole (committed next old) new → MakesOne latest new
  cleaned_one next w whole id c = commits_one latest next.version new id (ap (λ (sv : SuperVersion). sv.version) c.history.latest) (ap (λ (c : Core). c.lost) c.rest ∙ certain)

  doubted_one : (next : SuperVersion) → next.version.id ≡ latest.id + 1 → new ≡ doubted next old → MakesOne latest new
  doubted_one next id is = doubts_one latest next.version new id (ap (λ (c : Core). c.history.latest.version) is) (ap (λ (c : Core). c.lost) is)

  settled_one : {T : Type 0} (IsMade : SeenVersion → Type 0) (w : ℕ) (r : Result T Error) → ((v : SeenVersion) → IsMade v → v.id ≡ latest.id + 1) → SettlesSome IsMade w r old new
      → IfErr r (λ e. ((e ≡ OutOfMemory) ⊎ ((e ≡ Store) ⊎ (e ≡ CommitUnknown))) ⊎ ((e ≡ OutOfNumbers) ⊎ ((e ≡ TooManyRuns) ⊎ (e ≡ AfterCommit)))) → MakesOne latest new
  settled_one IsMade w (Ok x) id s only = let i = s.ok in cleaned_one (next_in old i.0) w true (id i.0 i.1) i.2
  settled_one IsMade w (Err e) id s only = go only
    where
      go : ((e ≡ OutOfMemory) ⊎ ((e ≡ Store) ⊎ (e ≡ CommitUnknown))) ⊎ ((e ≡ OutOfNumbers) ⊎ ((e ≡ TooManyRuns) ⊎ (e ≡ AfterCommit))) → MakesOne latest new
      go (inl (inl is)) = stays_one latest new (same_or_counted (s.memory (ap Err is)))
      go (inl (inr (inl is))) = stays_one latest new (same_or_counted (s.store (ap Err is)))
      go (inl (inr (inr is))) = let u = s.unknown (ap Err is) in doubted_one (next_in old u.0) (id u.0 u.1) u.2
      go (inr (inl is)) = stays_one latest new (idle (s.before (inl (ap Err is))))
      go (inr (inr (inl is))) = stays_one latest new (idle (s.before (inr (ap Err is))))
      go (inr (inr (inr is))) = let a = s.after (ap Err is) in cleaned_one (next_in old a.0) w a.2 (id a.0 a.1) a.3

  -- ---- flushes

  installs_one : (job : SeenWritten) (whole : Bool) → Installs job whole old new → MakesOne latest new
  installs_one job whole i = cleaned_one i.next job.watermark whole i.flushed.version.id i.cleans

  unsure_one : (job : SeenWritten) → Doubts job old new → MakesOne latest new
  unsure_one job d = doubted_one d.next d.flushed.version.id d.is

pub registers_one : (job : SeenWritten) (r : Result Outcome Error) (old new : Core) → old.lost ≡ None → Registers job r old new → MakesOne old.history.latest.version new
registers_one job (Ok a) old new certain g = by a.installed refl
  where
    by : (b : Bool) → a.installed ≡ b → MakesOne old.history.latest.version new
    by true is = installs_one (spent job.job.number old) new certain job a.cleaned (g.installs is).1
    by false is = stays_one old.history.latest.version new (idle (spent job.job.number old) new certain (g.stale is).1.1)
registers_one job (Err x) old new certain g = go g.only
  where
    mid : Core
    mid = spent job.job.number old

    go : ((x ≡ OutOfMemory) ⊎ ((x ≡ Store) ⊎ (x ≡ CommitUnknown))) ⊎ ((x ≡ Unrecoverable) ⊎ ((x ≡ OutOfNumbers) ⊎ (x ≡ TooManyRuns))) → MakesOne old.history.latest.version new
    go (inl (inl is)) = stays_one old.history.latest.version new (same_or_counted mid new certain (g.memory (ap Err is)))
    go (inl (inr (inl is))) = stays_one old.history.latest.version new (same_or_counted mid new certain (inr (g.store (ap Err is))))
    go (inl (inr (inr is))) = unsure_one mid new certain job (g.unknown (ap Err is)).1
    go (inr (inl is)) = stays_one old.history.latest.version new (idle mid new certain (g.before (inl (ap Err is))))
    go (inr (inr (inl is))) = stays_one old.history.latest.version new (idle mid new certain (g.before (inr (inl (ap Err is)))))
    go (inr (inr (inr is))) = stays_one old.history.latest.version new (idle mid new certain (g.before (inr (inr (ap Err is)))))

register_one : (r : Reply) (events : List Event) (was is : Option Job) (old new : Core) → old.lost ≡ None → TakesRegister r events was is old new → MakesOne old.history.latest.version new
register_one (reply.Registered a) events was is old new certain t = registers_one t.0 (Ok a) old new certain t.4
register_one (reply.Refused x) events was is old new certain t = registers_one t.0 (Err x) old new certain t.4
register_one reply.NoJob events was is old new certain t = stays_one old.history.latest.version new (idle old new certain t.0.2)
register_one r events was is old new certain t = absurd t

tables_stay : (r : Reply) (events : List Event) (was is : Option Job) (old new : Core) → old.lost ≡ None → TakesTables r events was is old new → Stays old.history.latest.version new
tables_stay reply.Done events was is old new certain t = stays_by old new certain _ t.1.4.ok refl refl
tables_stay (reply.Refused x) events was is old new certain t = stays_by old new certain _ t.1.3.err refl refl
tables_stay reply.NoJob events was is old new certain t = idle old new certain t.0.2
tables_stay r events was is old new certain t = absurd t

pub whole_one : (w : ℕ) (r : Result (Option (ℕ × Outcome)) Error) (old new : Core) → old.lost ≡ None → Flushes w r old new → MakesOne old.history.latest.version new
whole_one w (Ok None) old new certain f = stays_one old.history.latest.version new (idle old new certain (f.some refl).1)
whole_one w (Ok (Some a)) old new certain f = let i = f.installs in installs_one (drawn_until new.next_table old) new certain i.job a.1.cleaned i.installs
whole_one w (Err CommitUnknown) old new certain f = let u = f.unknown refl in unsure_one (drawn_until new.next_table old) new certain u.job u.doubts
whole_one w (Err x) old new certain f = stays_one old.history.latest.version new (record { same = ap (λ (c : Core). c.history.latest.version) f.err.rest; certain = f.known (λ h. cc h) ∙ certain })

flush_one : (w : ℕ) (r : Reply) (events : List Event) (old new : Core) → old.lost ≡ None → TakesFlush w r events old new → MakesOne old.history.latest.version new
flush_one w (reply.Flushed a) events old new certain t = whole_one w (Ok a) old new certain t.2
flush_one w (reply.Refused x) events old new certain t = whole_one w (Err x) old new certain t.2
flush_one w r events old new certain t = absurd t

after_rotation : (w : ℕ) (id : Option ℕ) (r : Result (Option (ℕ × Outcome)) Error) (old mid new : Core) → old.lost ≡ None → Rotates old id mid → Flushes w r mid new → MakesOne old.history.latest.version new
after_rotation w id r old mid new certain rotates f =
    let s = rests old mid certain (rotated old id mid rotates) in
    subst (λ v. MakesOne v new) s.same (whole_one w r mid new s.certain f)

active_one : (w : ℕ) (r : Reply) (events : List Event) (old new : Core) → old.lost ≡ None → TakesFlushActive w r events old new → MakesOne old.history.latest.version new
active_one w (reply.FlushedActive id a) events old new certain t = after_rotation w id (Ok a) old t.0 new certain t.1 t.2.2
active_one w (reply.RefusedActive id x) events old new certain (inl t) = stays_one old.history.latest.version new (idle old new certain t.1.unchanged)
active_one w (reply.RefusedActive id x) events old new certain (inr t) = after_rotation w id (Err x) old t.0 new certain t.1 t.2.2
active_one w r events old new certain t = absurd t

-- ---- clears

pub clears_one : (r : Result ℕ Error) (old new : Core) → old.lost ≡ None → Clears r old new → MakesOne old.history.latest.version new
clears_one (Ok n) old new certain c = commits_one old.history.latest.version (cleared_in old).version new refl (ap (λ (t : Core). t.history.latest.version) c.ok.1) (ap (λ (t : Core). t.lost) c.ok.1 ∙ certain)
clears_one (Err x) old new certain c = go c.only
  where
    go : ((x ≡ OutOfMemory) ⊎ (x ≡ Store)) ⊎ ((x ≡ CommitUnknown) ⊎ ((x ≡ OutOfNumbers) ⊎ (x ≡ Unrecoverable))) → MakesOne old.history.latest.version new
    go (inl (inl is)) = stays_one old.history.latest.version new (same_or_counted old new certain (c.memory (ap Err is)))
    go (inl (inr is)) = stays_one old.history.latest.version new (same_or_counted old new certain (inr (c.store (ap Err is))))
    go (inr (inl is)) = doubted_one old new certain (cleared_in old) refl (c.unknown (ap Err is))
    go (inr (inr (inl is))) = stays_one old.history.latest.version new (idle old new certain (c.before (inr (ap Err is))))
    go (inr (inr (inr is))) = stays_one old.history.latest.version new (idle old new certain (c.before (inl (ap Err is))))

clear_one : (r : Reply) (events : List Event) (old new : Core) → old.lost ≡ None → TakesClear r events old new → MakesOne old.history.latest.version new
clear_one (reply.Cleared n) events old new certain t = clears_one (Ok n) old new certain t.1
clear_one (reply.Refused x) events old new certain t = clears_one (Err x) old new certain t.1
clear_one r events old new certain t = absurd t

-- ---- compactions

does_one : (choice : Choice) (o : Options) (r : Result Begun Error) (old new : Core) → old.lost ≡ None → Does choice o r old new → MakesOne old.history.latest.version new
does_one DoNothing o r old new certain d = stays_one old.history.latest.version new (idle old new certain d.1)
does_one (Move input) o r old new certain d = settled_one old new certain _ o.mvcc_gc_watermark r (λ v made. made.moves.next.id) d.settles d.only
does_one (Merge input) o (Ok b) old new certain d = stays_one old.history.latest.version new (stays_by old new certain _ d.ok refl refl)
does_one (Merge input) o (Err e) old new certain d = stays_one old.history.latest.version new (idle old new certain d.err)
does_one (Drop ids) o r old new certain d = settled_one old new certain _ o.mvcc_gc_watermark r (λ v made. made.next.id) d.settles d.only

pub choice_one : (choice : Choice) (o : Options) (r : Result Begun Error) (old new : Core) → old.lost ≡ None → BeginsChoice choice o r old new → MakesOne old.history.latest.version new
choice_one choice o r old new certain b = by (reason_of choice old) refl
  where
    by : (why : Option Why) → reason_of choice old ≡ why → MakesOne old.history.latest.version new
    by (Some why) is = stays_one old.history.latest.version new (idle old new certain (b.declines why certain is).1)
    by None is = does_one choice o r old new certain (b.does certain is)

begun_one : (answer : Result Choice Error) (o : Options) (r : Result Begun Error) (events : List Event) (old new : Core) → old.lost ≡ None → BeginsAnswer answer o r events old new → MakesOne old.history.latest.version new
begun_one (Ok choice) o r events old new certain b = choice_one choice o r old new certain b.0
begun_one (Err e) o r events old new certain b = stays_one old.history.latest.version new (idle old new certain b.2)

ends_for_one : (job : SeenCompaction) (why : Option Why) (r : Result Finished Error) (old new : Core) → old.lost ≡ None → EndsFor job why r old new → MakesOne old.history.latest.version new
ends_for_one job None r old new certain e = settled_one (with_next_table e.0.table old) new certain _ job.settings.watermark r (λ v made. made.next.id) e.0.settles e.0.only
ends_for_one job (Some why) r old new certain e = stays_one old.history.latest.version new (idle old new certain e.1)

ends_one : (job : SeenCompaction) (r : Result Finished Error) (old new : Core) → old.lost ≡ None → Ends job r old new → MakesOne old.history.latest.version new
ends_one job r old new certain (inl e) = stays_one old.history.latest.version new (idle old new certain e.1)
ends_one job r old new certain (inr e) = ends_for_one job e.0 r old new certain e.2

pub finishes_one : (job : SeenCompaction) (r : Result Finished Error) (old new : Core) → old.lost ≡ None → Finishes job r old new → MakesOne old.history.latest.version new
finishes_one job r old new certain f = elim (f.ends certain) [
  | inl e ↦ stays_one old.history.latest.version new (idle old new certain e.1.1)
  | inr e ↦ ends_one job r (closed job.number old) new certain e.1
]

completes_one : (job : SeenCompaction) (r : Result Begun Error) (old new : Core) → old.lost ≡ None → Completes job r old new → MakesOne old.history.latest.version new
completes_one job r old new certain (inl c) = stays_one old.history.latest.version new (rests old new certain (spends_rests job old new c.1))
completes_one job r old new certain (inr c) = finishes_one job c.0 old new certain c.1

-- where a merge waits nothing else was done
waits_so : (choice : Choice) (o : Options) (job : SeenCompaction) (old new : Core) → old.lost ≡ None → BeginsChoice choice o (Ok (BegunMerge job)) old new → Stays old.history.latest.version new
waits_so choice o job old new certain b = by (reason_of choice old) refl
  where
    not_so : ◌≡◌ {A = Begun} (BegunMerge job) Installed → ⊥
    not_so h = cc h

    opens : (c : Choice) → Does c o (Ok (BegunMerge job)) old new → Stays old.history.latest.version new
    opens DoNothing d = idle old new certain d.1
    opens (Move input) d = absurd (not_so d.ok)
    opens (Merge input) d = stays_by old new certain _ d.ok refl refl
    opens (Drop ids) d = absurd (not_so d.ok)

    by : (why : Option Why) → reason_of choice old ≡ why → Stays old.history.latest.version new
    by (Some why) is = idle old new certain (b.declines why certain is).1
    by None is = opens choice (b.does certain is)

pub follows_one : (choice : Choice) (o : Options) (begun r : Result Begun Error) (old mid new : Core) → old.lost ≡ None → BeginsChoice choice o begun old mid → Follows begun r mid new → MakesOne old.history.latest.version new
follows_one choice o (Ok (BegunMerge job)) r old mid new certain b f =
    let s = waits_so choice o job old mid certain b in
    subst (λ v. MakesOne v new) s.same (completes_one job r mid new s.certain f)
follows_one choice o (Ok DidNothing) r old mid new certain b f = subst (MakesOne old.history.latest.version) (sym f.1) (choice_one choice o (Ok DidNothing) old mid certain b)
follows_one choice o (Ok (Declined why)) r old mid new certain b f = subst (MakesOne old.history.latest.version) (sym f.1) (choice_one choice o (Ok (Declined why)) old mid certain b)
follows_one choice o (Ok Installed) r old mid new certain b f = subst (MakesOne old.history.latest.version) (sym f.1) (choice_one choice o (Ok Installed) old mid certain b)
follows_one choice o (Err e) r old mid new certain b f = subst (MakesOne old.history.latest.version) (sym f.1) (choice_one choice o (Err e) old mid certain b)

compacted_one : (answer : Result Choice Error) (o : Options) (r : Result Begun Error) (events : List Event) (old new : Core) → old.lost ≡ None → CompactsAnswer answer o r events old new → MakesOne old.history.latest.version new
compacted_one (Ok choice) o r events old new certain c = let whole = c.compacts in follows_one choice o whole.begun r old whole.mid new certain whole.begins whole.follows
compacted_one (Err e) o r events old new certain b = stays_one old.history.latest.version new (idle old new certain b.2)

from_one : (may_choose : Relation Choice) (may_refuse : Relation ChooseError) (o : Options) (r : Reply) (events : List Event) (old new : Core) → old.lost ≡ None → CompactsFrom may_choose may_refuse o r events old new → MakesOne old.history.latest.version new
from_one may_choose may_refuse o r events old new certain c = compacted_one c.answer o c.does.done events old new certain c.does.compacts

compact_one : (strategies : Strategies) (at : ℕ) (o : Options) (r : Reply) (events : List Event) (old new : Core) → old.lost ≡ None → TakesCompact strategies at o r events old new → MakesOne old.history.latest.version new
compact_one strategies at o reply.NoStrategy events old new certain t = stays_one old.history.latest.version new (idle old new certain t.1)
compact_one strategies at o r events old new certain t = from_one (strategies.may_choose at) (strategies.may_refuse at) o r events old new certain t.1

range_one : (bounds : _) (r : Reply) (events : List Event) (old new : Core) → old.lost ≡ None → TakesDropRange bounds r events old new → MakesOne old.history.latest.version new
range_one bounds r events old new certain (inl t) = stays_one old.history.latest.version new (idle old new certain t.4)
range_one bounds r events old new certain (inr t) = from_one _ _ _ r events old new certain t.1

begin_compaction_one : (strategies : Strategies) (at : ℕ) (o : Options) (r : Reply) (events : List Event) (was is : Option Job) (old new : Core) → old.lost ≡ None → TakesBeginCompaction strategies at o r events was is old new → MakesOne old.history.latest.version new
begin_compaction_one strategies at o reply.SlotInUse events was is old new certain t = stays_one old.history.latest.version new (idle old new certain t.0.2)
begin_compaction_one strategies at o reply.NoStrategy events was is old new certain t = stays_one old.history.latest.version new (idle old new certain t.0.2)
begin_compaction_one strategies at o r events was is old new certain t = begun_one t.answer o t.begun events old new certain t.begins

finish_one : (r : Reply) (events : List Event) (was is : Option Job) (old new : Core) → old.lost ≡ None → TakesFinish r events was is old new → MakesOne old.history.latest.version new
finish_one reply.NoJob events was is old new certain t = stays_one old.history.latest.version new (idle old new certain t.0.2)
finish_one r events was is old new certain t = finishes_one t.job.job t.end old new certain t.ends.0

-- ---- all steps

job_one : (strategies : Strategies) (x : JobStep) (r : Reply) (events : List Event) (was is : Option Job) (old new : Core) → old.lost ≡ None → TakesJob strategies x r events was is old new → MakesOne old.history.latest.version new
job_one strategies job.FlushToTables r events was is old new certain t = stays_one old.history.latest.version new (tables_stay r events was is old new certain t)
job_one strategies job.RegisterTables r events was is old new certain t = register_one r events was is old new certain t
job_one strategies (job.BeginCompaction at o) r events was is old new certain t = begin_compaction_one strategies at o r events was is old new certain t
job_one strategies job.FinishCompaction r events was is old new certain t = finish_one r events was is old new certain t
job_one strategies x r events was is old new certain t = stays_one old.history.latest.version new (rests old new certain (job_rests strategies x r events was is old new t))

alone_one : (strategies : Strategies) (x : Call) (r : Reply) (events : List Event) (old new : Core) → old.lost ≡ None → TakesAlone strategies x r events old new → MakesOne old.history.latest.version new
alone_one strategies (step.Flush w) r events old new certain t = flush_one w r events old new certain t
alone_one strategies (step.FlushActiveMemtable w) r events old new certain t = active_one w r events old new certain t
alone_one strategies (step.Compact at w) r events old new certain t = compact_one strategies at _ r events old new certain t
alone_one strategies (step.DoCompaction at o) r events old new certain t = compact_one strategies at o r events old new certain t
alone_one strategies (step.MajorCompact target w) r events old new certain t = from_one _ _ _ r events old new certain t
alone_one strategies (step.DropRange low high) r events old new certain t = range_one _ r events old new certain t
alone_one strategies step.Clear r events old new certain t = clear_one r events old new certain t
alone_one strategies (step.AtSlot slot x) r events old new certain t = absurd t
alone_one strategies x r events old new certain t = stays_one old.history.latest.version new (rests old new certain (alone_rests strategies x r events old new t))

pub takes_one : (strategies : Strategies) (x : Call) (r : Reply) (events : List Event) (old new : Stage) → old.core.lost ≡ None → Takes strategies x r events old new → MakesOne old.core.history.latest.version new.core
takes_one strategies (step.AtSlot slot x) r events old new certain t = job_one strategies x r events (old.jobs slot) (new.jobs slot) old.core new.core certain t.0
takes_one strategies x r events old new certain t = alone_one strategies x r events old.core new.core certain t.0

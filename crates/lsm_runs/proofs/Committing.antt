-- What flushes, clears and compactions do with sequence numbers: what is installed has the counter's next one, which is drawn.
use Rattle.std.proofs.Common.{◌≡◌, ◌⊎◌, inl, inr, ⊎_elim, ℕ, ◌+◌, Bool, true, false, cond, List, [], ◌∷◌, ◌++◌, Option, Some, None, IsSome, Result, Ok, Err, IfErr, refl, sym, ap, ◌∙◌, subst, append-nil}
use Rattle.std.specs.List.{AllByRecursion}
use Rattle.lsm_below.specs.declared.error.Error.{Error}
use Rattle.lsm_below.specs.declared.error.Error.TheVariants.{OutOfMemory, Store, CommitUnknown, Unrecoverable, OutOfNumbers, TooManyRuns, AfterCommit}
use Rattle.lsm_model.specs.Journal.{Event}
use Rattle.lsm_model.specs.declared.journal.JournalEntry.TheVariants.{Clear as DidClear, Install, Mark}
use Rattle.lsm_flush.specs.Jobs.{SeenWritten}
use Rattle.lsm_flush.specs.declared.jobs.Registered.{Registered as Outcome}
use Rattle.lsm_versions.specs.Levels.{SeenVersion}
use Rattle.lsm_checks.specs.declared.choice.Why.{Why}
use Rattle.lsm_compaction.specs.Merges.{SeenCompaction}
use Rattle.lsm_pick.specs.declared.choice.Choice.{Choice}
use Rattle.lsm_pick.specs.declared.choice.Choice.TheVariants.{DoNothing, Move, Merge, Drop}
use Rattle.lsm_pick.specs.declared.choice.ChooseError.{ChooseError}
use Rattle.lsm_run_model.specs.Rising.{Draws, IsUnnumbered, UsesNumbers}
use Rattle.lsm_state.specs.declared.compaction.Options.{Options}
use Rattle.lsm_state.specs.declared.compaction.Begun.{Begun}
use Rattle.lsm_state.specs.declared.compaction.Begun.TheVariants.{DidNothing, Declined, Installed, Job as BegunMerge}
use Rattle.lsm_state.specs.declared.compaction.Finished.{Finished}
use Rattle.lsm_state.specs.declared.compaction.Finished.TheVariants.{Installed as IsFinished, Declined as Over}
use Rattle.lsm_state.specs.Core.{Core}
use Rattle.lsm_state.specs.Settling.{IsInstalled, SettlesSome}
use Rattle.lsm_state.specs.Flushes.{Registers, spent, with_next_table}
use Rattle.lsm_state.specs.WholeFlushes.{Flushes, MarksFlush}
use Rattle.lsm_state.specs.FlushReads.{register_events, flush_events}
use Rattle.lsm_state.specs.Clearing.{Clears, clear_events}
use Rattle.lsm_state.specs.Compactions.{Relation, reason_of, Does, BeginsChoice, closed, Ends, EndsFor, Finishes}
use Rattle.lsm_state.specs.CompactionReads.{ranges_told, TellsChoice, TellsMerge}
use Rattle.lsm_state.specs.WholeCompactions.{told_end, Completes, Follows}
use Rattle.lsm_journal.specs.Noted.{BeginsAnswer, TellsBehind, CompactsAnswer}
use Rattle.lsm_runs.specs.declared.slots.Job.{Job}
use Rattle.lsm_runs.specs.declared.steps.Reply.{Reply}
use Rattle.lsm_runs.specs.declared.steps.Reply.TheVariants as reply
use Rattle.lsm_runs.specs.Clearing.{TakesClear}
use Rattle.lsm_runs.specs.Compacting.{Strategies, TakesBeginCompaction, TakesFinish, CompactsFrom, TakesCompact, TakesDropRange}
use Rattle.lsm_journal.specs.NotedFlushes.{FlushesNoted, FlushesRotated}
use Rattle.lsm_runs.specs.Flushing.{TakesRegister, TakesFlush, TakesFlushActive}
use Rattle.lsm_checks.specs.declared.choice.Why.TheVariants.{UnknownJob}
use Rattle.lsm_compaction.specs.OpenMerges.{IsOpenIn}
use Rattle.lsm_runs.proofs.Drawing.{Near, seqno_of, near_same, near_next, near_either, same_or_counted, unnumbered, idle, drawn, rotated_same, spends_same}
use Rattle.lsm_runs.proofs.CompactionRest.{IsOneOf}

-- ---- flushes

flush_numbers_of : (w : ℕ) (marked : Bool) (r : Result (Option (ℕ × Outcome)) Error) (events : List Event) (old new : Core) → events ≡ flush_events w old.seqno marked r → Flushes w r old new → MarksFlush w marked r old new → UsesNumbers Draws events old.seqno new.seqno
flush_numbers_of w false (Ok None) events old new is f m = idle events old new is (f.some refl).1
flush_numbers_of w true (Ok None) events old new is f m = absurd (no (m.ok.1 refl))
  where
    no : ◌≡◌ {A = Bool} false true → ⊥
    no e = cc e
flush_numbers_of w false (Ok (Some a)) events old new is f m = let i = f.installs in unnumbered events [] old.seqno new.seqno is tt (near_next old.seqno new.seqno (seqno_of new _ i.installs.cleans.rest))
flush_numbers_of w true (Ok (Some a)) events old new is f m = let i = f.installs in drawn events (Mark w ∷ []) (Install old.seqno) old.seqno new.seqno is (tt, tt) (inl refl) (seqno_of new _ i.installs.cleans.rest)
flush_numbers_of w false (Err x) events old new is f m = unnumbered events [] old.seqno new.seqno is tt (near_either old.seqno new.seqno f.err.seqno)
flush_numbers_of w true (Err x) events old new is f m = unnumbered events (Mark w ∷ []) old.seqno new.seqno is (tt, tt) (near_either old.seqno new.seqno f.err.seqno)

noted_numbers : (w : ℕ) (r : Result (Option (ℕ × Outcome)) Error) (events : List Event) (old new : Core) → FlushesNoted w r events old new → UsesNumbers Draws events old.seqno new.seqno
noted_numbers w r events old new t = flush_numbers_of w t.0 r events old new t.1 t.2 t.3

pub flush_numbers : (w : ℕ) (r : Reply) (events : List Event) (old new : Core) → TakesFlush w r events old new → UsesNumbers Draws events old.seqno new.seqno
flush_numbers w (reply.Flushed a) events old new t = noted_numbers w (Ok a) events old new t
flush_numbers w (reply.Refused x) events old new t = noted_numbers w (Err x) events old new t
flush_numbers w r events old new t = absurd t

rotated_numbers : (w : ℕ) (id : Option ℕ) (r : Result (Option (ℕ × Outcome)) Error) (events : List Event) (old new : Core) → FlushesRotated w id r events old new → UsesNumbers Draws events old.seqno new.seqno
rotated_numbers w id r events old new t = subst (λ n. UsesNumbers Draws events n new.seqno) (rotated_same old id t.0 t.1) (noted_numbers w r events t.0 new t.2)

pub active_numbers : (w : ℕ) (r : Reply) (events : List Event) (old new : Core) → TakesFlushActive w r events old new → UsesNumbers Draws events old.seqno new.seqno
active_numbers w (reply.FlushedActive id a) events old new t = rotated_numbers w id (Ok a) events old new t
active_numbers w (reply.RefusedActive id x) events old new (inl t) = idle events old new t.0 t.1.unchanged
active_numbers w (reply.RefusedActive id x) events old new (inr t) = rotated_numbers w id (Err x) events old new t
active_numbers w r events old new t = absurd t

registers_numbers : (made : SeenWritten) (r : Result Outcome Error) (events : List Event) (old new : Core) → events ≡ register_events made.watermark old.seqno r → Registers made r old new → UsesNumbers Draws events old.seqno new.seqno
registers_numbers made (Ok a) events old new is g = by a.installed refl
  where
    told : (b : Bool) → a.installed ≡ b → events ≡ cond b (Mark made.watermark ∷ (Install old.seqno ∷ [])) (Mark made.watermark ∷ [])
    told b at = is ∙ ap (λ z. cond z (Mark made.watermark ∷ (Install old.seqno ∷ [])) (Mark made.watermark ∷ [])) at

    by : (b : Bool) → a.installed ≡ b → UsesNumbers Draws events old.seqno new.seqno
    by true at = drawn events (Mark made.watermark ∷ []) (Install old.seqno) old.seqno new.seqno (told true at) (tt, tt) (inl refl) (seqno_of new _ (g.installs at).1.cleans.rest)
    by false at = unnumbered events (Mark made.watermark ∷ []) old.seqno new.seqno (told false at) (tt, tt) (near_same old.seqno new.seqno (seqno_of new _ (g.stale at).1.1))
registers_numbers made (Err x) events old new is g = unnumbered events (Mark made.watermark ∷ []) old.seqno new.seqno is (tt, tt) (go g.only)
  where
    go : ((x ≡ OutOfMemory) ⊎ ((x ≡ Store) ⊎ (x ≡ CommitUnknown))) ⊎ ((x ≡ Unrecoverable) ⊎ ((x ≡ OutOfNumbers) ⊎ (x ≡ TooManyRuns))) → Near old.seqno new.seqno
    go (inl (inl at)) = same_or_counted (spent made.job.number old) new (g.memory (ap Err at))
    go (inl (inr (inl at))) = same_or_counted (spent made.job.number old) new (inr (g.store (ap Err at)))
    go (inl (inr (inr at))) = near_next old.seqno new.seqno (seqno_of new _ (g.unknown (ap Err at)).1.is)
    go (inr (inl at)) = near_same old.seqno new.seqno (seqno_of new _ (g.before (inl (ap Err at))))
    go (inr (inr (inl at))) = near_same old.seqno new.seqno (seqno_of new _ (g.before (inr (inl (ap Err at)))))
    go (inr (inr (inr at))) = near_same old.seqno new.seqno (seqno_of new _ (g.before (inr (inr (ap Err at)))))

pub register_numbers : (r : Reply) (events : List Event) (was is : Option Job) (old new : Core) → TakesRegister r events was is old new → UsesNumbers Draws events old.seqno new.seqno
register_numbers (reply.Registered a) events was is old new t = registers_numbers t.0 (Ok a) events old new t.3 t.4
register_numbers (reply.Refused x) events was is old new t = registers_numbers t.0 (Err x) events old new t.3 t.4
register_numbers reply.NoJob events was is old new t = idle events old new t.0.0 t.0.2
register_numbers r events was is old new t = absurd t

-- ---- clears

clears_numbers : (r : Result ℕ Error) (events : List Event) (old new : Core) → events ≡ clear_events r → Clears r old new → UsesNumbers Draws events old.seqno new.seqno
clears_numbers (Ok n) events old new is c = drawn events [] (DidClear n) old.seqno new.seqno is tt (inr (ap DidClear c.ok.0)) (seqno_of new _ c.ok.1)
clears_numbers (Err x) events old new is c = unnumbered events [] old.seqno new.seqno is tt (go c.only)
  where
    go : ((x ≡ OutOfMemory) ⊎ (x ≡ Store)) ⊎ ((x ≡ CommitUnknown) ⊎ ((x ≡ OutOfNumbers) ⊎ (x ≡ Unrecoverable))) → Near old.seqno new.seqno
    go (inl (inl at)) = same_or_counted old new (c.memory (ap Err at))
    go (inl (inr at)) = same_or_counted old new (inr (c.store (ap Err at)))
    go (inr (inl at)) = near_next old.seqno new.seqno (seqno_of new _ (c.unknown (ap Err at)))
    go (inr (inr (inl at))) = near_same old.seqno new.seqno (seqno_of new old (c.before (inr (ap Err at))))
    go (inr (inr (inr at))) = near_same old.seqno new.seqno (seqno_of new old (c.before (inl (ap Err at))))

pub clear_numbers : (r : Reply) (events : List Event) (old new : Core) → TakesClear r events old new → UsesNumbers Draws events old.seqno new.seqno
clear_numbers (reply.Cleared n) events old new t = clears_numbers (Ok n) events old new t.0 t.1
clear_numbers (reply.Refused x) events old new t = clears_numbers (Err x) events old new t.0 t.1
clear_numbers r events old new t = absurd t

-- ---- compactions

-- the counter moves by one at most, and does so where what was to be done is done, or was committed all the same
pub record Counts {T : Type 0} (done : T) (r : Result T Error) (old new : ℕ) : Type 0 where
  pub near : Near old new
  pub next : (r ≡ Ok done) ⊎ (r ≡ Err AfterCommit) → new ≡ old + 1

-- it was neither done nor committed
undone : {T : Type 0} (done : T) (r : Result T Error) (old new : ℕ) → (r ≡ Ok done → ⊥) → (r ≡ Err AfterCommit → ⊥) → Near old new → Counts done r old new
undone done r old new not_done not_after near = record { near = near; next = λ h. absurd (⊎_elim (λ (e : r ≡ Ok done). not_done e) (λ (e : r ≡ Err AfterCommit). not_after e) h) }

refused : {T : Type 0} (done : T) (e : Error) (old new : ℕ) → (e ≡ AfterCommit → ⊥) → Near old new → Counts done (Err e) old new
refused {T} done e old new other near = undone done (Err e) old new not_done (λ h. other (same h)) near
  where
    not_done : ◌≡◌ {A = Result T Error} (Err e) (Ok done) → ⊥
    not_done h = cc h

    same : ◌≡◌ {A = Result T Error} (Err e) (Err AfterCommit) → e ≡ AfterCommit
    same h = cc

-- of an error that is known
refused_as : {T : Type 0} (done : T) (r : Result T Error) (e : Error) (old new : ℕ) → r ≡ Err e → (e ≡ AfterCommit → ⊥) → Near old new → Counts done r old new
refused_as done r e old new is other near = subst (λ x. Counts done x old new) (sym is) (refused done e old new other near)

installed_next : (v : SeenVersion) (w : ℕ) (whole : Bool) (old new : Core) → IsInstalled v w whole old new → new.seqno ≡ old.seqno + 1
installed_next v w whole old new i = seqno_of new _ i.rest

settled_counts : {T : Type 0} (done : T) (IsMade : SeenVersion → Type 0) (w : ℕ) (r : Result T Error) (old new : Core) → SettlesSome IsMade w r old new → IfErr r IsOneOf → Counts done r old.seqno new.seqno
settled_counts done IsMade w (Ok x) old new s only =
    let i = s.ok in
    let next = installed_next i.0 w true old new i.2 in
    record { near = near_next old.seqno new.seqno next; next = λ h. next }
settled_counts done IsMade w (Err e) old new s only = go only
  where
    other : {x : Error} → (x ≡ AfterCommit → ⊥) → e ≡ x → e ≡ AfterCommit → ⊥
    other not_so is h = not_so (sym is ∙ h)

    go : IsOneOf e → Counts done (Err e) old.seqno new.seqno
    go (inl (inl is)) = refused done e old.seqno new.seqno (other (λ h. cc h) is) (same_or_counted old new (s.memory (ap Err is)))
    go (inl (inr (inl is))) = refused done e old.seqno new.seqno (other (λ h. cc h) is) (same_or_counted old new (s.store (ap Err is)))
    go (inl (inr (inr is))) = let u = s.unknown (ap Err is) in refused done e old.seqno new.seqno (other (λ h. cc h) is) (near_next old.seqno new.seqno (seqno_of new _ u.2))
    go (inr (inl is)) = refused done e old.seqno new.seqno (other (λ h. cc h) is) (near_same old.seqno new.seqno (seqno_of new old (s.before (inl (ap Err is)))))
    go (inr (inr (inl is))) = refused done e old.seqno new.seqno (other (λ h. cc h) is) (near_same old.seqno new.seqno (seqno_of new old (s.before (inr (ap Err is)))))
    go (inr (inr (inr is))) =
        let a = s.after (ap Err is) in
        let next = installed_next a.0 w a.2 old new a.3 in
        record { near = near_next old.seqno new.seqno next; next = λ h. next }

-- an answer that isn't an install
told_as : (r : Result Begun Error) (b : Begun) (old new : ℕ) → r ≡ Ok b → (b ≡ Installed → ⊥) → Near old new → Counts Installed r old new
told_as r b old new is other near = subst (λ x. Counts Installed x old new) (sym is) (undone Installed (Ok b) old new (λ h. other (same h)) not_after near)
  where
    same : ◌≡◌ {A = Result Begun Error} (Ok b) (Ok Installed) → b ≡ Installed
    same h = cc

    not_after : ◌≡◌ {A = Result Begun Error} (Ok b) (Err AfterCommit) → ⊥
    not_after h = cc h

does_counts : (choice : Choice) (o : Options) (r : Result Begun Error) (old new : Core) → Does choice o r old new → Counts Installed r old.seqno new.seqno
does_counts DoNothing o r old new d = told_as r DidNothing old.seqno new.seqno d.0 (λ h. cc h) (near_same old.seqno new.seqno (seqno_of new old d.1))
does_counts (Move input) o r old new d = settled_counts Installed _ o.mvcc_gc_watermark r old new d.settles d.only
does_counts (Merge input) o (Ok b) old new d = told_as (Ok b) _ old.seqno new.seqno (ap Ok d.job) (λ h. cc h) (near_same old.seqno new.seqno (seqno_of new _ d.ok))
does_counts (Merge input) o (Err e) old new d = refused Installed e old.seqno new.seqno (⊎_elim (λ (is : e ≡ OutOfMemory) (h : e ≡ AfterCommit). cc (is, h)) (λ (is : e ≡ OutOfNumbers) (h : e ≡ AfterCommit). cc (is, h)) d.only) (near_same old.seqno new.seqno (seqno_of new old d.err))
does_counts (Drop ids) o r old new d = settled_counts Installed _ o.mvcc_gc_watermark r old new d.settles d.only

pub choice_counts : (choice : Choice) (o : Options) (r : Result Begun Error) (old new : Core) → BeginsChoice choice o r old new → Counts Installed r old.seqno new.seqno
choice_counts choice o r old new b = by_lost old.lost refl
  where
    by_reason : old.lost ≡ None → (why : Option Why) → reason_of choice old ≡ why → Counts Installed r old.seqno new.seqno
    by_reason certain (Some why) is =
        let told = b.declines why certain is in
        let near = near_same old.seqno new.seqno (seqno_of new old told.1) in
        ⊎_elim (λ (a : r ≡ Ok (Declined why)). told_as r (Declined why) old.seqno new.seqno a (λ h. cc h) near) (λ (a : r ≡ Err OutOfMemory). refused_as Installed r OutOfMemory old.seqno new.seqno a (λ h. cc h) near) told.0
    by_reason certain None is = does_counts choice o r old new (b.does certain is)

    by_lost : (lost : Option SeenVersion) → old.lost ≡ lost → Counts Installed r old.seqno new.seqno
    by_lost None certain = by_reason certain (reason_of choice old) refl
    by_lost (Some v) is =
        let some : IsSome old.lost = subst IsSome (sym is) refl in
        refused_as Installed r Unrecoverable old.seqno new.seqno (b.unrecoverable.1 some) (λ h. cc h) (near_same old.seqno new.seqno (seqno_of new old (b.uncertain some)))

-- what a choice tells before its install has no number
marked : (choice : Choice) (w : ℕ) (c : Core) → AllByRecursion IsUnnumbered (Mark w ∷ ranges_told choice c)
marked DoNothing w c = (tt, tt)
marked (Move input) w c = (tt, tt)
marked (Merge input) w c = (tt, tt)
marked (Drop ids) w c = (tt, (tt, tt))

choice_numbers : (choice : Choice) (w : ℕ) (r : Result Begun Error) (old : Core) (events : List Event) (new : ℕ) → TellsChoice choice w r old events → Counts Installed r old.seqno new → UsesNumbers Draws events old.seqno new
choice_numbers choice w (Ok Installed) old events new t c = drawn events (Mark w ∷ ranges_told choice old) (Install old.seqno) old.seqno new (t.done (inl refl)) (marked choice w old) (inl refl) (c.next (inl refl))
choice_numbers choice w (Ok DidNothing) old events new t c = unnumbered events (Mark w ∷ []) old.seqno new (t.told (λ h. cc h)) (tt, tt) c.near
choice_numbers choice w (Ok (Declined why)) old events new t c = unnumbered events (Mark w ∷ []) old.seqno new (t.told (λ h. cc h)) (tt, tt) c.near
choice_numbers choice w (Ok (BegunMerge job)) old events new t c = unnumbered events (Mark w ∷ []) old.seqno new (t.told (λ h. cc h)) (tt, tt) c.near
choice_numbers choice w (Err AfterCommit) old events new t c = drawn events (Mark w ∷ ranges_told choice old) (Install old.seqno) old.seqno new (t.done (inr refl)) (marked choice w old) (inl refl) (c.next (inr refl))
choice_numbers choice w (Err CommitUnknown) old events new t c = unnumbered events (Mark w ∷ ranges_told choice old) old.seqno new (t.lost refl) (marked choice w old) c.near
choice_numbers choice w (Err e) old events new t c = unnumbered events (Mark w ∷ []) old.seqno new (t.refused (λ h. cc h) (λ h. cc h)) (tt, tt) c.near

begun_numbers : (answer : Result Choice Error) (o : Options) (r : Result Begun Error) (events : List Event) (old new : Core) → BeginsAnswer answer o r events old new → UsesNumbers Draws events old.seqno new.seqno
begun_numbers (Ok choice) o r events old new b = choice_numbers choice o.mvcc_gc_watermark r old events new.seqno b.2 (choice_counts choice o r old new b.0)
begun_numbers (Err e) o r events old new b = unnumbered events (Mark o.mvcc_gc_watermark ∷ []) old.seqno new.seqno b.1 (tt, tt) (near_same old.seqno new.seqno (seqno_of new old b.2))

-- ---- the end of a merge

over_counts : (r : Result Finished Error) (why : Why) (old new : Core) → r ≡ Ok (Over why) → new.seqno ≡ old.seqno → Counts IsFinished r old.seqno new.seqno
over_counts r why old new is same = subst (λ x. Counts IsFinished x old.seqno new.seqno) (sym is) (undone IsFinished (Ok (Over why)) old.seqno new.seqno not_done not_after (near_same old.seqno new.seqno same))
  where
    not_done : ◌≡◌ {A = Result Finished Error} (Ok (Over why)) (Ok IsFinished) → ⊥
    not_done h = cc h

    not_after : ◌≡◌ {A = Result Finished Error} (Ok (Over why)) (Err AfterCommit) → ⊥
    not_after h = cc h

ends_for_counts : (job : SeenCompaction) (why : Option Why) (r : Result Finished Error) (old new : Core) → EndsFor job why r old new → Counts IsFinished r old.seqno new.seqno
ends_for_counts job None r old new e = settled_counts IsFinished _ job.settings.watermark r (with_next_table e.0.table old) new e.0.settles e.0.only
ends_for_counts job (Some why) r old new e = over_counts r why old new e.0 (seqno_of new old e.1)

ends_counts : (job : SeenCompaction) (r : Result Finished Error) (old new : Core) → Ends job r old new → Counts IsFinished r old.seqno new.seqno
ends_counts job r old new (inl e) = refused_as IsFinished r OutOfMemory old.seqno new.seqno e.0 (λ h. cc h) (near_same old.seqno new.seqno (seqno_of new old e.1))
ends_counts job r old new (inr e) = ends_for_counts job e.0 r old new e.2

pub finishes_counts : (job : SeenCompaction) (r : Result Finished Error) (old new : Core) → Finishes job r old new → Counts IsFinished r old.seqno new.seqno
finishes_counts job r old new f = by_lost old.lost refl
  where
    ended : ((IsOpenIn job old.merges.underway → ⊥) × ((r ≡ Ok (Over UnknownJob)) × (new ≡ old))) ⊎ (IsOpenIn job old.merges.underway × Ends job r (closed job.number old) new) → Counts IsFinished r old.seqno new.seqno
    ended (inl e) = over_counts r UnknownJob old new e.1.0 (seqno_of new old e.1.1)
    ended (inr e) = ends_counts job r (closed job.number old) new e.1

    by_lost : (lost : Option SeenVersion) → old.lost ≡ lost → Counts IsFinished r old.seqno new.seqno
    by_lost None certain = ended (f.ends certain)
    by_lost (Some v) is =
        let some : IsSome old.lost = subst IsSome (sym is) refl in
        refused_as IsFinished r Unrecoverable old.seqno new.seqno (f.unrecoverable.1 some) (λ h. cc h) (near_same old.seqno new.seqno (spends_same job old new (f.uncertain some)))

merge_numbers : (r : Result Finished Error) (old : Core) (events : List Event) (new : ℕ) → TellsMerge r old events → Counts IsFinished r old.seqno new → UsesNumbers Draws events old.seqno new
merge_numbers (Ok IsFinished) old events new t c = drawn events [] (Install old.seqno) old.seqno new (t.done (inl refl)) tt (inl refl) (c.next (inl refl))
merge_numbers (Ok (Over why)) old events new t c = unnumbered events [] old.seqno new (t.told (λ h. cc h)) tt c.near
merge_numbers (Err AfterCommit) old events new t c = drawn events [] (Install old.seqno) old.seqno new (t.done (inr refl)) tt (inl refl) (c.next (inr refl))
merge_numbers (Err CommitUnknown) old events new t c = unnumbered events [] old.seqno new (t.lost refl) tt c.near
merge_numbers (Err e) old events new t c = unnumbered events [] old.seqno new (t.refused (λ h. cc h) (λ h. cc h)) tt c.near

-- ---- a compaction in one call

ended_so : (end : Result Finished Error) → (told_end end ≡ Ok Installed) ⊎ (told_end end ≡ Err AfterCommit) → (end ≡ Ok IsFinished) ⊎ (end ≡ Err AfterCommit)
ended_so (Ok IsFinished) h = inl refl
ended_so (Ok (Over why)) h = absurd (⊎_elim (λ (e : ◌≡◌ {A = Result Begun Error} (Ok (Declined why)) (Ok Installed)). no_install e) (λ (e : ◌≡◌ {A = Result Begun Error} (Ok (Declined why)) (Err AfterCommit)). no_error e) h)
  where
    no_install : ◌≡◌ {A = Result Begun Error} (Ok (Declined why)) (Ok Installed) → ⊥
    no_install e = cc e

    no_error : ◌≡◌ {A = Result Begun Error} (Ok (Declined why)) (Err AfterCommit) → ⊥
    no_error e = cc e
ended_so (Err x) h = ⊎_elim (λ (e : ◌≡◌ {A = Result Begun Error} (Err x) (Ok Installed)). absurd (no_install e)) (λ (e : ◌≡◌ {A = Result Begun Error} (Err x) (Err AfterCommit)). inr (ap Err (same e))) h
  where
    no_install : ◌≡◌ {A = Result Begun Error} (Err x) (Ok Installed) → ⊥
    no_install e = cc e

    same : ◌≡◌ {A = Result Begun Error} (Err x) (Err AfterCommit) → x ≡ AfterCommit
    same e = cc

pub completes_counts : (job : SeenCompaction) (r : Result Begun Error) (old new : Core) → Completes job r old new → Counts Installed r old.seqno new.seqno
completes_counts job r old new (inl c) = refused_as Installed r OutOfMemory old.seqno new.seqno c.0 (λ h. cc h) (near_same old.seqno new.seqno (spends_same job old new c.1))
completes_counts job r old new (inr c) =
    let k = finishes_counts job c.0 old new c.1 in
    subst (λ x. Counts Installed x old.seqno new.seqno) (sym c.3) (record { near = k.near; next = λ h. k.next (ended_so c.0 h) })

-- where a merge waits the counter stands still
pub waits_same : (choice : Choice) (o : Options) (job : SeenCompaction) (old new : Core) → BeginsChoice choice o (Ok (BegunMerge job)) old new → new.seqno ≡ old.seqno
waits_same choice o job old new b = by_lost old.lost refl
  where
    not_so : ◌≡◌ {A = Begun} (BegunMerge job) Installed → ⊥
    not_so h = cc h

    opens : (c : Choice) → Does c o (Ok (BegunMerge job)) old new → new.seqno ≡ old.seqno
    opens DoNothing d = seqno_of new old d.1
    opens (Move input) d = absurd (not_so d.ok)
    opens (Merge input) d = seqno_of new _ d.ok
    opens (Drop ids) d = absurd (not_so d.ok)

    by_reason : old.lost ≡ None → (why : Option Why) → reason_of choice old ≡ why → new.seqno ≡ old.seqno
    by_reason certain (Some why) is = seqno_of new old (b.declines why certain is).1
    by_reason certain None is = opens choice (b.does certain is)

    by_lost : (lost : Option SeenVersion) → old.lost ≡ lost → new.seqno ≡ old.seqno
    by_lost None certain = by_reason certain (reason_of choice old) refl
    by_lost (Some v) is = let some : IsSome old.lost = subst IsSome (sym is) refl in seqno_of new old (b.uncertain some)

-- after the mark of its beginning a merge is installed, or not
waited_numbers : (job : SeenCompaction) (w : ℕ) (r : Result Begun Error) (events behind : List Event) (mid new : Core) → events ≡ Mark w ∷ behind → TellsBehind (Ok (BegunMerge job)) r mid behind → Counts Installed r mid.seqno new.seqno → UsesNumbers Draws events mid.seqno new.seqno
waited_numbers job w r events behind mid new is (inl t) c = drawn events (Mark w ∷ []) (Install mid.seqno) mid.seqno new.seqno (is ∙ ap (λ es. Mark w ∷ es) t.1) (tt, tt) (inl refl) (c.next t.0)
waited_numbers job w r events behind mid new is (inr t) c = unnumbered events (Mark w ∷ []) mid.seqno new.seqno (is ∙ ap (λ es. Mark w ∷ es) t.2) (tt, tt) c.near

-- nothing comes after its beginning
alone_numbers_of : (events front behind : List Event) (old mid new : Core) → events ≡ front ++ behind → behind ≡ [] → new ≡ mid → UsesNumbers Draws front old.seqno mid.seqno → UsesNumbers Draws events old.seqno new.seqno
alone_numbers_of events front behind old mid new is none same u =
    subst (λ es. UsesNumbers Draws es old.seqno new.seqno) (sym (is ∙ ap (λ es. front ++ es) none ∙ append-nil front))
    (subst (λ n. UsesNumbers Draws front old.seqno n) (sym (seqno_of new mid same)) u)

follows_numbers : (choice : Choice) (o : Options) (begun r : Result Begun Error) (events front behind : List Event) (old mid new : Core) → BeginsChoice choice o begun old mid → TellsChoice choice o.mvcc_gc_watermark begun old front → Follows begun r mid new → TellsBehind begun r mid behind → events ≡ front ++ behind
    → UsesNumbers Draws events old.seqno new.seqno
follows_numbers choice o (Ok (BegunMerge job)) r events front behind old mid new b t f tb is =
    subst (λ n. UsesNumbers Draws events n new.seqno) (waits_same choice o job old mid b)
    (waited_numbers job o.mvcc_gc_watermark r events behind mid new (is ∙ ap (λ es. es ++ behind) (t.told (λ h. cc h))) tb (completes_counts job r mid new f))
follows_numbers choice o (Ok DidNothing) r events front behind old mid new b t f tb is = alone_numbers_of events front behind old mid new is tb f.1 (choice_numbers choice o.mvcc_gc_watermark (Ok DidNothing) old front mid.seqno t (choice_counts choice o (Ok DidNothing) old mid b))
follows_numbers choice o (Ok (Declined why)) r events front behind old mid new b t f tb is = alone_numbers_of events front behind old mid new is tb f.1 (choice_numbers choice o.mvcc_gc_watermark (Ok (Declined why)) old front mid.seqno t (choice_counts choice o (Ok (Declined why)) old mid b))
follows_numbers choice o (Ok Installed) r events front behind old mid new b t f tb is = alone_numbers_of events front behind old mid new is tb f.1 (choice_numbers choice o.mvcc_gc_watermark (Ok Installed) old front mid.seqno t (choice_counts choice o (Ok Installed) old mid b))
follows_numbers choice o (Err e) r events front behind old mid new b t f tb is = alone_numbers_of events front behind old mid new is tb f.1 (choice_numbers choice o.mvcc_gc_watermark (Err e) old front mid.seqno t (choice_counts choice o (Err e) old mid b))

compacted_numbers : (answer : Result Choice Error) (o : Options) (r : Result Begun Error) (events : List Event) (old new : Core) → CompactsAnswer answer o r events old new → UsesNumbers Draws events old.seqno new.seqno
compacted_numbers (Ok choice) o r events old new c = let whole = c.compacts in follows_numbers choice o whole.begun r events c.front c.behind old whole.mid new whole.begins c.begins whole.follows c.follows c.told
compacted_numbers (Err e) o r events old new b = unnumbered events (Mark o.mvcc_gc_watermark ∷ []) old.seqno new.seqno b.1 (tt, tt) (near_same old.seqno new.seqno (seqno_of new old b.2))

pub from_numbers : (may_choose : Relation Choice) (may_refuse : Relation ChooseError) (o : Options) (r : Reply) (events : List Event) (old new : Core) → CompactsFrom may_choose may_refuse o r events old new → UsesNumbers Draws events old.seqno new.seqno
from_numbers may_choose may_refuse o r events old new c = compacted_numbers c.answer o c.does.done events old new c.does.compacts

pub compact_numbers : (strategies : Strategies) (at : ℕ) (o : Options) (r : Reply) (events : List Event) (old new : Core) → TakesCompact strategies at o r events old new → UsesNumbers Draws events old.seqno new.seqno
compact_numbers strategies at o reply.NoStrategy events old new t = idle events old new t.0 t.1
compact_numbers strategies at o r events old new t = from_numbers (strategies.may_choose at) (strategies.may_refuse at) o r events old new t.1

pub range_numbers : (bounds : _) (r : Reply) (events : List Event) (old new : Core) → TakesDropRange bounds r events old new → UsesNumbers Draws events old.seqno new.seqno
range_numbers bounds r events old new (inl t) = idle events old new t.3 t.4
range_numbers bounds r events old new (inr t) = from_numbers _ _ _ r events old new t.1

pub begin_compaction_numbers : (strategies : Strategies) (at : ℕ) (o : Options) (r : Reply) (events : List Event) (was is : Option Job) (old new : Core) → TakesBeginCompaction strategies at o r events was is old new → UsesNumbers Draws events old.seqno new.seqno
begin_compaction_numbers strategies at o reply.SlotInUse events was is old new t = idle events old new t.0.0 t.0.2
begin_compaction_numbers strategies at o reply.NoStrategy events was is old new t = idle events old new t.0.0 t.0.2
begin_compaction_numbers strategies at o r events was is old new t = begun_numbers t.answer o t.begun events old new t.begins

pub finish_numbers : (r : Reply) (events : List Event) (was is : Option Job) (old new : Core) → TakesFinish r events was is old new → UsesNumbers Draws events old.seqno new.seqno
finish_numbers reply.NoJob events was is old new t = idle events old new t.0.0 t.0.2
finish_numbers r events was is old new t = merge_numbers t.end old events new.seqno t.ends.2 (finishes_counts t.job.job t.end old new t.ends.0)

-- A step draws one sequence number at most.
use Rattle.std.proofs.Common.{◌≡◌, ◌⊎◌, ⊎_elim, inl, inr, ℕ, Bool, true, false, List, [], ◌∷◌, Option, Some, None, IsSome, Result, Ok, Err, refl, sym, ap, ◌∙◌, subst}
use Rattle.lsm_below.specs.Keys.{Bytes}
use Rattle.lsm_below.specs.declared.error.Error.{Error}
use Rattle.lsm_below.specs.declared.error.Error.TheVariants.{OutOfMemory, Store, CommitUnknown, Unrecoverable, OutOfNumbers, TooManyRuns}
use Rattle.lsm_model.specs.declared.op.Op.{Op}
use Rattle.lsm_logged.specs.Jobs.{SeenJob, SeenMerged, SeenWritten}
use Rattle.lsm_logged.specs.Registered.{Registered as Registry}
use Rattle.lsm_pick.specs.declared.bounds.OwnedBounds.{OwnedBounds}
use Rattle.lsm_pick.specs.declared.choice.Choice.{Choice}
use Rattle.lsm_pick.specs.declared.choice.ChooseError.{ChooseError}
use Rattle.lsm_pick.specs.Simple.{are_reversed}
use Rattle.lsm_logged.specs.Levels.{SeenVersion}
use Rattle.lsm_state.specs.Commits.{counted}
use Rattle.lsm_state.specs.Compactions.{Relation, BeginsChoice, BeginsCompaction}
use Rattle.lsm_state.specs.Core.{Core}
use Rattle.lsm_state.specs.Clearing.{Clears}
use Rattle.lsm_state.specs.Flushes.{sealed_ids, spent, Begins, Registers}
use Rattle.lsm_state.specs.Recording.{WritesBehindRecord}
use Rattle.lsm_state.specs.WholeCompactions.{Compacts, DropsRange, Follows}
use Rattle.lsm_state.specs.WholeFlushes.{Flushes}
use Rattle.lsm_state.specs.declared.compaction.Begun.{Begun}
use Rattle.lsm_state.specs.declared.compaction.Begun.TheVariants.{DidNothing, Declined, Installed, Job as BegunMerge}
use Rattle.lsm_state.specs.declared.compaction.Options.{Options}
use Rattle.lsm_logged.specs.Asking.{Asks}
use Rattle.lsm_logged.specs.Flushing.{FlushesLogged, ClearsLogged, BeginsLogged, WritesJobLogged, RegistersLogged}
use Rattle.lsm_logged.specs.Keeping.{SeenLogged, is_unsure}
use Rattle.lsm_logged.specs.Writing.{WritesLogged}
use Rattle.lsm_runs.specs.declared.slots.Job.{Job}
use Rattle.lsm_runs.specs.declared.steps.JobStep.{JobStep}
use Rattle.lsm_runs.specs.declared.steps.JobStep.TheVariants.{BeginFlush, RunFlush, FlushToTables, RegisterTables, AbandonFlush, BeginCompaction, RunCompaction, FinishCompaction, AbandonCompaction}
use Rattle.lsm_runs.specs.declared.steps.Reply.{Reply}
use Rattle.lsm_runs.specs.declared.steps.Reply.TheVariants as reply
use Rattle.lsm_runs.specs.Compacting.{Strategies}
use Rattle.lsm_runs.proofs.Committing.{choice_counts, finishes_counts, completes_counts, waits_same}
use Rattle.lsm_runs.proofs.Drawing.{Near, seqno_of, near_same, near_next, near_either, same_or_counted, rotated_same, spends_same}
use Rattle.lsm_log_runs.specs.declared.steps.LogStep.{LogStep}
use Rattle.lsm_log_runs.specs.declared.steps.LogStep.TheVariants.{Write, RotateMemtable, AtSlot, Flush, FlushActiveMemtable, Compact, MajorCompact, DropRange, Clear, GetNextTableId, SetMoment, IsUncertain}
use Rattle.lsm_log_runs.specs.JobSteps.{TakesBegin, TakesTables, TakesRegister, TakesAbandon, TakesBeginCompaction, TakesFinish, TakesAbandonCompaction, TakesJob}
use Rattle.lsm_log_runs.specs.Runs.{TakesBatch, TakesFlush, TakesClear, TakesRotate, TakesFlushActive, TakesCompact, TakesMoment, TakesTableId, TakesUncertain, TakesAlone, Takes}
use Rattle.lsm_log_runs.specs.Slots.{LogStage}

abbrev CountsOn : Core → Core → Type 0
CountsOn old new = Near old.seqno new.seqno

same_core : (old new : Core) → new ≡ old → CountsOn old new
same_core old new is = near_same old.seqno new.seqno (seqno_of new old is)

same_tree : {S : Type 0} (old new : SeenLogged S) → new ≡ old → CountsOn old.core new.core
same_tree old new is = near_same old.core.seqno new.core.seqno (ap (λ t. t.core.seqno) is)

-- where an outcome is unknown nothing is done
by_lost : (old new : Core) → (IsSome old.lost → new ≡ old) → (old.lost ≡ None → CountsOn old new) → CountsOn old new
by_lost old new lost certain = go old.lost refl
  where
    go : (l : Option SeenVersion) → old.lost ≡ l → CountsOn old new
    go None is = certain is
    go (Some v) is = same_core old new (lost (subst (λ (p : Option SeenVersion). IsSome p) (sym is) refl))

-- ---- writes

batch_near : {S : Type 0} (ops : List (Bytes × Op)) (r : Result ℕ Error) (old new : SeenLogged S) → WritesLogged ops r old new → CountsOn old.core new.core
batch_near ops r old new w = by_sure (is_unsure old) refl
  where
    written : (r : Result ℕ Error) → WritesBehindRecord ops r old.core new.core → CountsOn old.core new.core
    written (Ok n) t = near_next old.core.seqno new.core.seqno (seqno_of new.core _ t.core)
    written (Err x) t = ⊎_elim (λ u. near_next old.core.seqno new.core.seqno (seqno_of new.core (counted old.core) (t.unknown u))) (λ (e : new.core ≡ old.core). same_core old.core new.core e) t.refused

    by_sure : (u : Bool) → is_unsure old ≡ u → CountsOn old.core new.core
    by_sure true is = same_tree old new (w.unsure is).1
    by_sure false is = written r (w.tree is)

batch_step : {S : Type 0} (ops : List (Bytes × Op)) (r : Reply) (old new : SeenLogged S) → TakesBatch ops r old new → CountsOn old.core new.core
batch_step ops (reply.Number n) old new t = batch_near ops (Ok n) old new t
batch_step ops (reply.Refused x) old new t = batch_near ops (Err x) old new t
batch_step ops r old new t = absurd t

-- ---- flushes

flush_core : (w : ℕ) (r : Result (Option (ℕ × Registry)) Error) (old new : Core) → Flushes w r old new → CountsOn old new
flush_core w (Ok None) old new f = same_core old new (f.some refl).1
flush_core w (Ok (Some a)) old new f = let i = f.installs in near_next old.seqno new.seqno (seqno_of new _ i.installs.cleans.rest)
flush_core w (Err x) old new f = near_either old.seqno new.seqno f.err.seqno

flush_near : {S : Type 0} (w : ℕ) (r : Result (Option (ℕ × Registry)) Error) (old new : SeenLogged S) → FlushesLogged w r old new → CountsOn old.core new.core
flush_near w r old new (inl refused) = same_tree old new refused.same
flush_near w r old new (inr f) = flush_core w f.told old.core new.core f.flushes

flush_step : {S : Type 0} (w : ℕ) (r : Reply) (old new : SeenLogged S) → TakesFlush w r old new → CountsOn old.core new.core
flush_step w (reply.Flushed a) old new t = flush_near w (Ok a) old new t
flush_step w (reply.Refused x) old new t = flush_near w (Err x) old new t
flush_step w r old new t = absurd t

rotate_step : {S : Type 0} (r : Reply) (old new : SeenLogged S) → TakesRotate r old new → CountsOn old.core new.core
rotate_step (reply.Sealed id) old new t = near_same old.core.seqno new.core.seqno (rotated_same old.core id new.core t.0)
rotate_step (reply.Refused x) old new t = same_tree old new t.0
rotate_step r old new t = absurd t

-- a rotation draws none
behind_rotation : {S : Type 0} (id : Option ℕ) (old mid new : SeenLogged S) → TakesRotate (reply.Sealed id) old mid → CountsOn mid.core new.core → CountsOn old.core new.core
behind_rotation id old mid new t near = subst (λ n. Near n new.core.seqno) (rotated_same old.core id mid.core t.0) near

active_step : {S : Type 0} (w : ℕ) (r : Reply) (old new : SeenLogged S) → TakesFlushActive w r old new → CountsOn old.core new.core
active_step w (reply.FlushedActive id a) old new t = behind_rotation id old t.0 new t.1 (flush_step w (reply.Flushed a) t.0 new t.2)
active_step w (reply.RefusedActive id x) old new (inl t) = same_tree old new t.1.0
active_step w (reply.RefusedActive id x) old new (inr t) = behind_rotation id old t.0 new t.1 (flush_step w (reply.Refused x) t.0 new t.2)
active_step w r old new t = absurd t

-- ---- clears

clears_core : (r : Result ℕ Error) (old new : Core) → Clears r old new → CountsOn old new
clears_core (Ok n) old new c = near_next old.seqno new.seqno (seqno_of new _ c.ok.1)
clears_core (Err x) old new c = go c.only
  where
    go : ((x ≡ OutOfMemory) ⊎ (x ≡ Store)) ⊎ ((x ≡ CommitUnknown) ⊎ ((x ≡ OutOfNumbers) ⊎ (x ≡ Unrecoverable))) → CountsOn old new
    go (inl (inl at)) = same_or_counted old new (c.memory (ap Err at))
    go (inl (inr at)) = same_or_counted old new (inr (c.store (ap Err at)))
    go (inr (inl at)) = near_next old.seqno new.seqno (seqno_of new _ (c.unknown (ap Err at)))
    go (inr (inr (inl at))) = same_core old new (c.before (inr (ap Err at)))
    go (inr (inr (inr at))) = same_core old new (c.before (inl (ap Err at)))

clear_near : {S : Type 0} (r : Result ℕ Error) (old new : SeenLogged S) → ClearsLogged r old new → CountsOn old.core new.core
clear_near r old new c = by_sure (is_unsure old) refl
  where
    by_sure : (u : Bool) → is_unsure old ≡ u → CountsOn old.core new.core
    by_sure true is = same_tree old new (c.unsure is).1
    by_sure false is = let t = c.tree is in clears_core t.told old.core new.core t.clears

clear_step : {S : Type 0} (r : Reply) (old new : SeenLogged S) → TakesClear r old new → CountsOn old.core new.core
clear_step (reply.Cleared n) old new t = clear_near (Ok n) old new t
clear_step (reply.Refused x) old new t = clear_near (Err x) old new t
clear_step r old new t = absurd t

-- ---- compactions

asked : {S T : Type 0} (r : Result T Error) (old new : SeenLogged S) (Call : Type 0) → Asks r old new Call → (Call → CountsOn old.core new.core) → CountsOn old.core new.core
asked r old new Call asks call = by_doubt old.doubted refl
  where
    by_doubt : (d : Bool) → old.doubted ≡ d → CountsOn old.core new.core
    by_doubt true is = same_tree old new (asks.doubted is).1
    by_doubt false is = call (asks.call is)

-- an error is told on, and nothing follows
told_on : (e : Error) (begun r : Result Begun Error) (mid new : Core) → begun ≡ Err e → Follows begun r mid new → new ≡ mid
told_on e begun r mid new is follows = (subst (λ (b : Result Begun Error). Follows b r mid new) is follows).1

-- what follows draws one where the beginning drew none, which was then a merge's
followed : (choice : Choice) (o : Options) (begun r : Result Begun Error) (old mid new : Core) → BeginsChoice choice o begun old mid → Follows begun r mid new → CountsOn old new
followed choice o (Ok (BegunMerge job)) r old mid new b f = subst (λ n. Near n new.seqno) (waits_same choice o job old mid b) (completes_counts job r mid new f).near
followed choice o (Ok DidNothing) r old mid new b f = subst (Near old.seqno) (sym (seqno_of new mid f.1)) (choice_counts choice o (Ok DidNothing) old mid b).near
followed choice o (Ok (Declined why)) r old mid new b f = subst (Near old.seqno) (sym (seqno_of new mid f.1)) (choice_counts choice o (Ok (Declined why)) old mid b).near
followed choice o (Ok Installed) r old mid new b f = subst (Near old.seqno) (sym (seqno_of new mid f.1)) (choice_counts choice o (Ok Installed) old mid b).near
followed choice o (Err e) r old mid new b f = subst (Near old.seqno) (sym (seqno_of new mid f.1)) (choice_counts choice o (Err e) old mid b).near

whole_core : (may_choose : Relation Choice) (may_refuse : Relation ChooseError) (o : Options) (r : Result Begun Error) (old new : Core) → Compacts may_choose may_refuse o r old new → CountsOn old new
whole_core may_choose may_refuse o r old new c = by_lost old new
    (λ lost. told_on Unrecoverable c.begun r c.mid new (c.begins.unrecoverable.1 lost) c.follows ∙ c.begins.uncertain lost)
    (λ certain. ⊎_elim
    (λ chosen. followed chosen.0 o c.begun r old c.mid new chosen.2 c.follows)
    (λ refused. same_core old new (told_on _ c.begun r c.mid new refused.2 c.follows ∙ refused.3))
    (c.begins.chosen certain))

drops_core : (bounds : OwnedBounds) (r : Result Begun Error) (old new : Core) → DropsRange bounds r old new → CountsOn old new
drops_core bounds r old new d = by_lost old new (λ lost. (d.uncertain lost).1) (λ certain. go certain (are_reversed bounds) refl)
  where
    go : old.lost ≡ None → (b : Bool) → are_reversed bounds ≡ b → CountsOn old new
    go certain true is = same_core old new (d.reversed certain is).1
    go certain false is = whole_core _ _ _ r old new (d.drops certain is)

begins_core : (may_choose : Relation Choice) (may_refuse : Relation ChooseError) (o : Options) (r : Result Begun Error) (old new : Core) → BeginsCompaction may_choose may_refuse o r old new → CountsOn old new
begins_core may_choose may_refuse o r old new b = by_lost old new (λ lost. b.uncertain lost)
    (λ certain. ⊎_elim (λ chosen. (choice_counts chosen.0 o r old new chosen.2).near) (λ refused. same_core old new refused.3) (b.chosen certain))

compact_step : {S : Type 0} (strategies : Strategies) (at w : ℕ) (r : Reply) (old new : SeenLogged S) → TakesCompact strategies at w r old new → CountsOn old.core new.core
compact_step strategies at w reply.NoStrategy old new t = same_tree old new t.0
compact_step strategies at w r old new t = asked t.1.0 old new _ t.1.2 (λ c. whole_core _ _ _ t.1.0 old.core new.core c)

-- ---- calls on the job in a slot

begin_core : (r : Result (Option SeenJob) Error) (old new : Core) → Begins r old new → CountsOn old new
begin_core (Ok None) old new b = same_core old new (b.some refl).1
begin_core (Ok (Some job)) old new b = near_same old.seqno new.seqno (seqno_of new _ b.begins.1)
begin_core (Err x) old new b = same_core old new b.err

begin_near : {S : Type 0} (r : Result (Option SeenJob) Error) (old new : SeenLogged S) → BeginsLogged r old new → CountsOn old.core new.core
begin_near r old new b = by_doubt old.doubted refl (sealed_ids old.core) refl
  where
    by_doubt : (d : Bool) → old.doubted ≡ d → (ids : List ℕ) → sealed_ids old.core ≡ ids → CountsOn old.core new.core
    by_doubt false is ids at = begin_core r old.core new.core (b.begins (inl is))
    by_doubt true is [] at = begin_core r old.core new.core (b.begins (inr at))
    by_doubt true is (i ∷ ids) at = same_tree old new (b.doubted is (λ e. let y : ◌≡◌ {A = List ℕ} (i ∷ ids) [] = sym at ∙ e in cc y)).1

begin_step : {S : Type 0} (r : Reply) (was is : Option Job) (old new : SeenLogged S) → TakesBegin r was is old new → CountsOn old.core new.core
begin_step (reply.Begun b) was is old new t = begin_near (Ok t.1.0) old new t.1.3
begin_step (reply.Refused x) was is old new t = begin_near (Err x) old new t.2
begin_step reply.SlotInUse was is old new t = same_tree old new t.0.1
begin_step r was is old new t = absurd t

tables_near : {S : Type 0} (job : SeenMerged) (r : Result SeenWritten (Error × SeenMerged)) (old new : SeenLogged S) → WritesJobLogged job r old new → CountsOn old.core new.core
tables_near job r old new w = by_doubt old.doubted refl r w
  where
    by_doubt : (d : Bool) → old.doubted ≡ d → (r : Result SeenWritten (Error × SeenMerged)) → WritesJobLogged job r old new → CountsOn old.core new.core
    by_doubt true is r w = same_tree old new (w.doubted is).1
    by_doubt false is (Ok made) w = near_same old.core.seqno new.core.seqno (seqno_of new.core _ (w.writes is).ok)
    by_doubt false is (Err e) w = near_same old.core.seqno new.core.seqno (seqno_of new.core _ (w.writes is).err)

tables_step : {S : Type 0} (r : Reply) (was is : Option Job) (old new : SeenLogged S) → TakesTables r was is old new → CountsOn old.core new.core
tables_step reply.Done was is old new t = tables_near t.0 (Ok t.1) old new t.4
tables_step (reply.Refused x) was is old new t = tables_near t.0 (Err (x, t.0)) old new t.3
tables_step reply.NoJob was is old new t = same_tree old new t.0.1
tables_step r was is old new t = absurd t

registers_core : (made : SeenWritten) (r : Result Registry Error) (old new : Core) → Registers made r old new → CountsOn old new
registers_core made (Ok a) old new g = by a.installed refl
  where
    by : (b : Bool) → a.installed ≡ b → CountsOn old new
    by true at = near_next old.seqno new.seqno (seqno_of new _ (g.installs at).1.cleans.rest)
    by false at = near_same old.seqno new.seqno (seqno_of new _ (g.stale at).1.1)
registers_core made (Err x) old new g = go g.only
  where
    go : ((x ≡ OutOfMemory) ⊎ ((x ≡ Store) ⊎ (x ≡ CommitUnknown))) ⊎ ((x ≡ Unrecoverable) ⊎ ((x ≡ OutOfNumbers) ⊎ (x ≡ TooManyRuns))) → CountsOn old new
    go (inl (inl at)) = same_or_counted (spent made.job.number old) new (g.memory (ap Err at))
    go (inl (inr (inl at))) = same_or_counted (spent made.job.number old) new (inr (g.store (ap Err at)))
    go (inl (inr (inr at))) = near_next old.seqno new.seqno (seqno_of new _ (g.unknown (ap Err at)).1.is)
    go (inr (inl at)) = near_same old.seqno new.seqno (seqno_of new _ (g.before (inl (ap Err at))))
    go (inr (inr (inl at))) = near_same old.seqno new.seqno (seqno_of new _ (g.before (inr (inl (ap Err at)))))
    go (inr (inr (inr at))) = near_same old.seqno new.seqno (seqno_of new _ (g.before (inr (inr (ap Err at)))))

register_near : {S : Type 0} (job : SeenWritten) (r : Result Registry Error) (old new : SeenLogged S) → RegistersLogged job r old new → CountsOn old.core new.core
register_near job r old new g = by_doubt old.doubted refl
  where
    by_doubt : (d : Bool) → old.doubted ≡ d → CountsOn old.core new.core
    by_doubt true is = near_same old.core.seqno new.core.seqno (seqno_of new.core _ (g.doubted is).1)
    by_doubt false is = let t = g.registers is in registers_core job t.0 old.core new.core t.1

register_step : {S : Type 0} (r : Reply) (was is : Option Job) (old new : SeenLogged S) → TakesRegister r was is old new → CountsOn old.core new.core
register_step (reply.Registered a) was is old new t = register_near t.0 (Ok a) old new t.3
register_step (reply.Refused x) was is old new t = register_near t.0 (Err x) old new t.3
register_step reply.NoJob was is old new t = same_tree old new t.0.1
register_step r was is old new t = absurd t

abandon_step : {S : Type 0} (r : Reply) (was is : Option Job) (old new : SeenLogged S) → TakesAbandon r was is old new → CountsOn old.core new.core
abandon_step reply.Done was is old new t = near_same old.core.seqno new.core.seqno (seqno_of new.core _ t.3)
abandon_step reply.NoJob was is old new t = same_tree old new t.0.1
abandon_step r was is old new t = absurd t

begin_compaction_step : {S : Type 0} (strategies : Strategies) (at : ℕ) (o : Options) (r : Reply) (was is : Option Job) (old new : SeenLogged S) → TakesBeginCompaction strategies at o r was is old new → CountsOn old.core new.core
begin_compaction_step strategies at o reply.SlotInUse was is old new t = same_tree old new t.0.1
begin_compaction_step strategies at o reply.NoStrategy was is old new t = same_tree old new t.0.1
begin_compaction_step strategies at o r was is old new t = asked t.begun old new _ t.begins (λ b. begins_core _ _ o t.begun old.core new.core b)

finish_step : {S : Type 0} (r : Reply) (was is : Option Job) (old new : SeenLogged S) → TakesFinish r was is old new → CountsOn old.core new.core
finish_step reply.NoJob was is old new t = same_tree old new t.0.1
finish_step r was is old new t = by_doubt old.doubted refl
  where
    by_doubt : (b : Bool) → old.doubted ≡ b → CountsOn old.core new.core
    by_doubt true at = near_same old.core.seqno new.core.seqno (spends_same t.job.job old.core new.core (t.ends.doubted at).1)
    by_doubt false at = (finishes_counts t.job.job t.end old.core new.core (t.ends.finishes at)).near

abandon_compaction_step : {S : Type 0} (r : Reply) (was is : Option Job) (old new : SeenLogged S) → TakesAbandonCompaction r was is old new → CountsOn old.core new.core
abandon_compaction_step reply.Done was is old new t = near_same old.core.seqno new.core.seqno (spends_same t.0 old.core new.core t.3)
abandon_compaction_step reply.NoJob was is old new t = same_tree old new t.0.1
abandon_compaction_step r was is old new t = absurd t

job_step : {S : Type 0} (strategies : Strategies) (x : JobStep) (r : Reply) (was is : Option Job) (old new : SeenLogged S) → TakesJob strategies x r was is old new → CountsOn old.core new.core
job_step strategies BeginFlush r was is old new t = begin_step r was is old new t
job_step strategies (RunFlush w) r was is old new t = same_tree old new t.1
job_step strategies FlushToTables r was is old new t = tables_step r was is old new t
job_step strategies RegisterTables r was is old new t = register_step r was is old new t
job_step strategies AbandonFlush r was is old new t = abandon_step r was is old new t
job_step strategies (BeginCompaction at o) r was is old new t = begin_compaction_step strategies at o r was is old new t
job_step strategies RunCompaction r was is old new t = same_tree old new t.1
job_step strategies FinishCompaction r was is old new t = finish_step r was is old new t
job_step strategies AbandonCompaction r was is old new t = abandon_compaction_step r was is old new t

-- ---- all steps

moment_step : {S : Type 0} (n : ℕ) (r : Reply) (old new : SeenLogged S) → TakesMoment n r old new → CountsOn old.core new.core
moment_step n reply.Done old new t = near_same old.core.seqno new.core.seqno (seqno_of new.core _ t.0)
moment_step n r old new t = absurd t

table_id_step : {S : Type 0} (r : Reply) (old new : SeenLogged S) → TakesTableId r old new → CountsOn old.core new.core
table_id_step (reply.Number n) old new t = near_same old.core.seqno new.core.seqno (seqno_of new.core _ t.0.1.3)
table_id_step (reply.Refused x) old new t = same_core old.core new.core t.0.1.1
table_id_step r old new t = absurd t.0.1

uncertain_step : {S : Type 0} (r : Reply) (old new : SeenLogged S) → TakesUncertain r old new → CountsOn old.core new.core
uncertain_step (reply.Truth b) old new t = same_tree old new t.0
uncertain_step r old new t = absurd t

alone_step : {S : Type 0} (strategies : Strategies) (x : LogStep) (r : Reply) (old new : SeenLogged S) → TakesAlone strategies x r old new → CountsOn old.core new.core
alone_step strategies (Write ops) r old new t = batch_step ops r old new t
alone_step strategies RotateMemtable r old new t = rotate_step r old new t
alone_step strategies (Flush w) r old new t = flush_step w r old new t
alone_step strategies (FlushActiveMemtable w) r old new t = active_step w r old new t
alone_step strategies (Compact at w) r old new t = compact_step strategies at w r old new t
alone_step strategies (MajorCompact target w) r old new t = asked t.0 old new _ t.2 (λ c. whole_core _ _ _ t.0 old.core new.core c)
alone_step strategies (DropRange low high) r old new t = asked t.0 old new _ t.2 (λ d. drops_core _ t.0 old.core new.core d)
alone_step strategies Clear r old new t = clear_step r old new t
alone_step strategies GetNextTableId r old new t = table_id_step r old new t
alone_step strategies (SetMoment n) r old new t = moment_step n r old new t
alone_step strategies IsUncertain r old new t = uncertain_step r old new t
alone_step strategies (AtSlot slot step) r old new t = absurd t
alone_step strategies x r old new t = same_tree old new t.0

pub step_near : {S : Type 0} (strategies : Strategies) (x : LogStep) (r : Reply) (old new : LogStage S) → Takes strategies x r old new → Near old.tree.core.seqno new.tree.core.seqno
step_near strategies (AtSlot slot step) r old new t = job_step strategies step r (old.jobs slot) (new.jobs slot) old.tree new.tree t.0
step_near strategies x r old new t = alone_step strategies x r old.tree new.tree t.0

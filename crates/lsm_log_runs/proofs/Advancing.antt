-- Which versions a step leaves: those from before, or the latest one and at most one other, which has a higher id.
use Rattle.std.proofs.Common.{◌≡◌, ◌⊎◌, ⊎_elim, inl, inr, ℕ, ◌||◌, Bool, true, false, List, [], ◌∷◌, ◌++◌, Option, Some, None, IsSome, is_some, Result, Ok, Err, IfOk, refl, sym, ap, ◌∙◌, subst}
use Rattle.lsm_below.specs.Keys.{Bytes}
use Rattle.lsm_below.specs.Members.{IsIn}
use Rattle.lsm_below.specs.declared.error.Error.{Error}
use Rattle.lsm_below.specs.declared.error.Error.TheVariants.{Unrecoverable}
use Rattle.lsm_model.specs.declared.op.Op.{Op}
use Rattle.lsm_logged.specs.Jobs.{SeenJob, SeenMerged, SeenWritten}
use Rattle.lsm_logged.specs.Registered.{Registered as Registry}
use Rattle.lsm_logged.specs.Merges.{SeenCompaction}
use Rattle.lsm_pick.specs.declared.bounds.OwnedBounds.{OwnedBounds}
use Rattle.lsm_pick.specs.declared.choice.Choice.{Choice}
use Rattle.lsm_pick.specs.declared.choice.ChooseError.{ChooseError}
use Rattle.lsm_pick.specs.Simple.{are_reversed}
use Rattle.lsm_logged.specs.Levels.{SeenVersion}
use Rattle.lsm_state.specs.Compactions.{Relation, BeginsCompaction, Finishes}
use Rattle.lsm_state.specs.Core.{Core, versions_left}
use Rattle.lsm_state.specs.Flushes.{sealed_ids, Begins, Registers}
use Rattle.lsm_state.specs.Recording.{WritesBehindRecord}
use Rattle.lsm_state.specs.WholeCompactions.{Compacts, DropsRange, Follows}
use Rattle.lsm_state.specs.WholeFlushes.{Flushes}
use Rattle.lsm_state.specs.declared.compaction.Begun.{Begun}
use Rattle.lsm_state.specs.declared.compaction.Finished.{Finished}
use Rattle.lsm_state.specs.declared.compaction.Options.{Options}
use Rattle.lsm_logged.specs.Asking.{Asks}
use Rattle.lsm_logged.specs.Flushing.{FlushesLogged, ClearsLogged, BeginsLogged, WritesJobLogged, RegistersLogged}
use Rattle.lsm_logged.specs.Keeping.{SeenLogged, is_unsure}
use Rattle.lsm_logged.specs.Writing.{WritesLogged}
use Rattle.lsm_runs.specs.declared.slots.Job.{Job}
use Rattle.lsm_runs.specs.declared.steps.JobStep.{JobStep}
use Rattle.lsm_runs.specs.declared.steps.JobStep.TheVariants.{BeginFlush, RunFlush, FlushToTables, RegisterTables, AbandonFlush, BeginCompaction, RunCompaction, FinishCompaction, AbandonCompaction}
use Rattle.lsm_runs.specs.declared.steps.Reply.{Reply}
use Rattle.lsm_runs.specs.declared.steps.Reply.TheVariants as reply
use Rattle.lsm_runs.specs.Compacting.{Strategies}
use Rattle.lsm_runs.specs.Files.{AreApart}
use Rattle.lsm_runs.proofs.Made.{MakesOne, registers_one, whole_one, clears_one, choice_one, finishes_one, follows_one}
use Rattle.lsm_runs.proofs.Members.{in_either}
use Rattle.lsm_runs.proofs.Readiness.{made_apart}
use Rattle.lsm_runs.proofs.Resting.{Rests, rotated, spends_rests}
use Rattle.lsm_log_runs.specs.declared.steps.LogStep.{LogStep}
use Rattle.lsm_log_runs.specs.declared.steps.LogStep.TheVariants.{Write, RotateMemtable, AtSlot, Flush, FlushActiveMemtable, Compact, MajorCompact, DropRange, Clear, GetNextTableId, SetMoment, IsUncertain}
use Rattle.lsm_log_runs.specs.JobSteps.{TakesBegin, TakesTables, TakesRegister, TakesAbandon, TakesBeginCompaction, TakesFinish, TakesAbandonCompaction, TakesJob}
use Rattle.lsm_log_runs.specs.Runs.{TakesBatch, TakesFlush, TakesClear, TakesRotate, TakesFlushActive, TakesCompact, TakesMoment, TakesTableId, TakesUncertain, TakesAlone, Takes}
use Rattle.lsm_log_runs.specs.Slots.{LogStage}

-- the versions that a crash may leave stay, or no outcome was unknown and at most one is made
abbrev pub Advances : Core → Core → Type 0
Advances old new = (versions_left new ≡ versions_left old) ⊎ ((old.lost ≡ None) × MakesOne old.history.latest.version new)

-- so no two have the same id, where none had before
pub advances_apart : (old new : Core) → Advances old new → AreApart (versions_left old) → AreApart (versions_left old ++ versions_left new)
advances_apart old new (inl same) apart = λ v w i j ids. apart v w (of v i) (of w j) ids
  where
    of : (v : SeenVersion) → IsIn v (versions_left old ++ versions_left new) → IsIn v (versions_left old)
    of v i = ⊎_elim (λ (k : IsIn v (versions_left old)). k) (λ (k : IsIn v (versions_left new)). subst (IsIn v) same k) (in_either v (versions_left old) (versions_left new) i)
advances_apart old new (inr made) apart = made_apart old new made.0 made.1

same_tree : {S : Type 0} (old new : SeenLogged S) → new ≡ old → Advances old.core new.core
same_tree {S} old new is = inl (ap (λ (t : SeenLogged S). versions_left t.core) is)

same_core : (old new : Core) → new ≡ old → Advances old new
same_core old new is = inl (ap versions_left is)

-- where an outcome is unknown nothing is done
by_lost : (old new : Core) → (IsSome old.lost → new ≡ old) → (old.lost ≡ None → Advances old new) → Advances old new
by_lost old new lost certain = go old.lost refl
  where
    go : (l : Option SeenVersion) → old.lost ≡ l → Advances old new
    go None is = certain is
    go (Some v) is = same_core old new (lost (subst (λ (p : Option SeenVersion). IsSome p) (sym is) refl))

-- after what leaves the versions
pub behind_rest : (old mid new : Core) → Rests old mid → Advances mid new → Advances old new
behind_rest old mid new r (inl same) = inl (same ∙ r.versions)
behind_rest old mid new r (inr made) =
    let latest : mid.history.latest.version ≡ old.history.latest.version = let vs : versions_left mid ≡ versions_left old = r.versions in cc vs in
    inr (sym r.lost ∙ made.0, subst (λ v. MakesOne v new) latest made.1)

-- and from there on
pub from_rest : (old mid new : Core) → Rests old mid → Advances old new → Advances mid new
from_rest old mid new r (inl same) = inl (same ∙ sym r.versions)
from_rest old mid new r (inr made) =
    let latest : mid.history.latest.version ≡ old.history.latest.version = let vs : versions_left mid ≡ versions_left old = r.versions in cc vs in
    inr (r.lost ∙ made.0, subst (λ v. MakesOne v new) (sym latest) made.1)

-- ---- writes

batch_advances : {S : Type 0} (ops : List (Bytes × Op)) (r : Result ℕ Error) (old new : SeenLogged S) → WritesLogged ops r old new → Advances old.core new.core
batch_advances ops r old new w = by_sure (is_unsure old) refl
  where
    written : (r : Result ℕ Error) → WritesBehindRecord ops r old.core new.core → Advances old.core new.core
    written (Ok n) t = inl (ap versions_left t.core)
    written (Err x) t = ⊎_elim (λ u. inl (ap versions_left (t.unknown u))) (λ (e : new.core ≡ old.core). same_core old.core new.core e) t.refused

    by_sure : (u : Bool) → is_unsure old ≡ u → Advances old.core new.core
    by_sure true is = same_tree old new (w.unsure is).1
    by_sure false is = written r (w.tree is)

batch_step : {S : Type 0} (ops : List (Bytes × Op)) (r : Reply) (old new : SeenLogged S) → TakesBatch ops r old new → Advances old.core new.core
batch_step ops (reply.Number n) old new t = batch_advances ops (Ok n) old new t
batch_step ops (reply.Refused x) old new t = batch_advances ops (Err x) old new t
batch_step ops r old new t = absurd t

-- ---- flushes

flush_core : (w : ℕ) (r : Result (Option (ℕ × Registry)) Error) (old new : Core) → Flushes w r old new → Advances old new
flush_core w r old new f = by_lost old new (λ lost. nothing lost (sealed_ids old) refl) (λ certain. inr (certain, whole_one w r old new certain f))
  where
    nothing : IsSome old.lost → (ids : List ℕ) → sealed_ids old ≡ ids → new ≡ old
    nothing lost [] at = (subst (λ (q : Result (Option (ℕ × Registry)) Error). IfOk q (λ a. a ≡ None → (sealed_ids old ≡ []) × (new ≡ old))) (f.none at) f.some refl).1
    nothing lost (i ∷ ids) at = f.before (inl (f.unrecoverable.1 (λ e. let y : ◌≡◌ {A = List ℕ} (i ∷ ids) [] = sym at ∙ e in cc y, lost)))

flush_advances : {S : Type 0} (w : ℕ) (r : Result (Option (ℕ × Registry)) Error) (old new : SeenLogged S) → FlushesLogged w r old new → Advances old.core new.core
flush_advances w r old new (inl refused) = same_tree old new refused.same
flush_advances w r old new (inr f) = flush_core w f.told old.core new.core f.flushes

flush_step : {S : Type 0} (w : ℕ) (r : Reply) (old new : SeenLogged S) → TakesFlush w r old new → Advances old.core new.core
flush_step w (reply.Flushed a) old new t = flush_advances w (Ok a) old new t
flush_step w (reply.Refused x) old new t = flush_advances w (Err x) old new t
flush_step w r old new t = absurd t

rotate_step : {S : Type 0} (r : Reply) (old new : SeenLogged S) → TakesRotate r old new → Advances old.core new.core
rotate_step (reply.Sealed id) old new t = inl (rotated old.core id new.core t.0).versions
rotate_step (reply.Refused x) old new t = same_tree old new t.0
rotate_step r old new t = absurd t

active_step : {S : Type 0} (w : ℕ) (r : Reply) (old new : SeenLogged S) → TakesFlushActive w r old new → Advances old.core new.core
active_step w (reply.FlushedActive id a) old new t = behind_rest old.core t.0.core new.core (rotated old.core id t.0.core t.1.0) (flush_step w (reply.Flushed a) t.0 new t.2)
active_step w (reply.RefusedActive id x) old new (inl t) = same_tree old new t.1.0
active_step w (reply.RefusedActive id x) old new (inr t) = behind_rest old.core t.0.core new.core (rotated old.core id t.0.core t.1.0) (flush_step w (reply.Refused x) t.0 new t.2)
active_step w r old new t = absurd t

-- ---- clears

sure_certain : (d : Bool) (l : Option SeenVersion) → (d || is_some l) ≡ false → IsSome l → ⊥
sure_certain true l sure some = cc sure
sure_certain false (Some v) sure some = cc sure
sure_certain false None sure some = cc some

clear_advances : {S : Type 0} (r : Result ℕ Error) (old new : SeenLogged S) → ClearsLogged r old new → Advances old.core new.core
clear_advances r old new c = by_sure (is_unsure old) refl
  where
    by_sure : (u : Bool) → is_unsure old ≡ u → Advances old.core new.core
    by_sure true is = same_tree old new (c.unsure is).1
    by_sure false is =
        let t = c.tree is in
        by_lost old.core new.core (λ lost. absurd (sure_certain old.doubted old.core.lost is lost)) (λ certain. inr (certain, clears_one t.told old.core new.core certain t.clears))

clear_step : {S : Type 0} (r : Reply) (old new : SeenLogged S) → TakesClear r old new → Advances old.core new.core
clear_step (reply.Cleared n) old new t = clear_advances (Ok n) old new t
clear_step (reply.Refused x) old new t = clear_advances (Err x) old new t
clear_step r old new t = absurd t

-- ---- compactions

asked : {S T : Type 0} (r : Result T Error) (old new : SeenLogged S) (Call : Type 0) → Asks r old new Call → (Call → Advances old.core new.core) → Advances old.core new.core
asked r old new Call asks call = by_doubt old.doubted refl
  where
    by_doubt : (d : Bool) → old.doubted ≡ d → Advances old.core new.core
    by_doubt true is = same_tree old new (asks.doubted is).1
    by_doubt false is = call (asks.call is)

-- an error is told on, and nothing follows
told_on : (e : Error) (begun r : Result Begun Error) (mid new : Core) → begun ≡ Err e → Follows begun r mid new → new ≡ mid
told_on e begun r mid new is follows = (subst (λ (b : Result Begun Error). Follows b r mid new) is follows).1

whole_core : (may_choose : Relation Choice) (may_refuse : Relation ChooseError) (o : Options) (r : Result Begun Error) (old new : Core) → Compacts may_choose may_refuse o r old new → Advances old new
whole_core may_choose may_refuse o r old new c = by_lost old new
    (λ lost. told_on Unrecoverable c.begun r c.mid new (c.begins.unrecoverable.1 lost) c.follows ∙ c.begins.uncertain lost)
    (λ certain. ⊎_elim
    (λ chosen. inr (certain, follows_one chosen.0 o c.begun r old c.mid new certain chosen.2 c.follows))
    (λ refused. same_core old new (told_on _ c.begun r c.mid new refused.2 c.follows ∙ refused.3))
    (c.begins.chosen certain))

drops_core : (bounds : OwnedBounds) (r : Result Begun Error) (old new : Core) → DropsRange bounds r old new → Advances old new
drops_core bounds r old new d = by_lost old new (λ lost. (d.uncertain lost).1) (λ certain. go certain (are_reversed bounds) refl)
  where
    go : old.lost ≡ None → (b : Bool) → are_reversed bounds ≡ b → Advances old new
    go certain true is = same_core old new (d.reversed certain is).1
    go certain false is = whole_core _ _ _ r old new (d.drops certain is)

begins_core : (may_choose : Relation Choice) (may_refuse : Relation ChooseError) (o : Options) (r : Result Begun Error) (old new : Core) → BeginsCompaction may_choose may_refuse o r old new → Advances old new
begins_core may_choose may_refuse o r old new b = by_lost old new (λ lost. b.uncertain lost)
    (λ certain. ⊎_elim (λ chosen. inr (certain, choice_one chosen.0 o r old new certain chosen.2)) (λ refused. same_core old new refused.3) (b.chosen certain))

compact_step : {S : Type 0} (strategies : Strategies) (at w : ℕ) (r : Reply) (old new : SeenLogged S) → TakesCompact strategies at w r old new → Advances old.core new.core
compact_step strategies at w reply.NoStrategy old new t = same_tree old new t.0
compact_step strategies at w r old new t = asked t.1.0 old new _ t.1.2 (λ c. whole_core _ _ _ t.1.0 old.core new.core c)

-- ---- calls on the job in a slot

begin_core : (r : Result (Option SeenJob) Error) (old new : Core) → Begins r old new → Advances old new
begin_core (Ok None) old new b = same_core old new (b.some refl).1
begin_core (Ok (Some job)) old new b = inl (ap versions_left b.begins.1)
begin_core (Err x) old new b = same_core old new b.err

begin_advances : {S : Type 0} (r : Result (Option SeenJob) Error) (old new : SeenLogged S) → BeginsLogged r old new → Advances old.core new.core
begin_advances r old new b = by_doubt old.doubted refl (sealed_ids old.core) refl
  where
    by_doubt : (d : Bool) → old.doubted ≡ d → (ids : List ℕ) → sealed_ids old.core ≡ ids → Advances old.core new.core
    by_doubt false is ids at = begin_core r old.core new.core (b.begins (inl is))
    by_doubt true is [] at = begin_core r old.core new.core (b.begins (inr at))
    by_doubt true is (i ∷ ids) at = same_tree old new (b.doubted is (λ e. let y : ◌≡◌ {A = List ℕ} (i ∷ ids) [] = sym at ∙ e in cc y)).1

begin_step : {S : Type 0} (r : Reply) (was is : Option Job) (old new : SeenLogged S) → TakesBegin r was is old new → Advances old.core new.core
begin_step (reply.Begun b) was is old new t = begin_advances (Ok t.1.0) old new t.1.3
begin_step (reply.Refused x) was is old new t = begin_advances (Err x) old new t.2
begin_step reply.SlotInUse was is old new t = same_tree old new t.0.1
begin_step r was is old new t = absurd t

tables_advances : {S : Type 0} (job : SeenMerged) (r : Result SeenWritten (Error × SeenMerged)) (old new : SeenLogged S) → WritesJobLogged job r old new → Advances old.core new.core
tables_advances job r old new w = by_doubt old.doubted refl r w
  where
    by_doubt : (d : Bool) → old.doubted ≡ d → (r : Result SeenWritten (Error × SeenMerged)) → WritesJobLogged job r old new → Advances old.core new.core
    by_doubt true is r w = same_tree old new (w.doubted is).1
    by_doubt false is (Ok made) w = inl (ap versions_left (w.writes is).ok)
    by_doubt false is (Err e) w = inl (ap versions_left (w.writes is).err)

tables_step : {S : Type 0} (r : Reply) (was is : Option Job) (old new : SeenLogged S) → TakesTables r was is old new → Advances old.core new.core
tables_step reply.Done was is old new t = tables_advances t.0 (Ok t.1) old new t.4
tables_step (reply.Refused x) was is old new t = tables_advances t.0 (Err (x, t.0)) old new t.3
tables_step reply.NoJob was is old new t = same_tree old new t.0.1
tables_step r was is old new t = absurd t

registers_core : (job : SeenWritten) (r : Result Registry Error) (old new : Core) → Registers job r old new → Advances old new
registers_core job r old new g = go old.lost refl
  where
    go : (l : Option SeenVersion) → old.lost ≡ l → Advances old new
    go None is = inr (is, registers_one job r old new is g)
    go (Some v) is = inl (ap versions_left (g.before (inl (g.unrecoverable.1 (subst (λ (p : Option SeenVersion). IsSome p) (sym is) refl)))))

register_advances : {S : Type 0} (job : SeenWritten) (r : Result Registry Error) (old new : SeenLogged S) → RegistersLogged job r old new → Advances old.core new.core
register_advances job r old new g = by_doubt old.doubted refl
  where
    by_doubt : (d : Bool) → old.doubted ≡ d → Advances old.core new.core
    by_doubt true is = inl (ap versions_left (g.doubted is).1)
    by_doubt false is = let t = g.registers is in registers_core job t.0 old.core new.core t.1

register_step : {S : Type 0} (r : Reply) (was is : Option Job) (old new : SeenLogged S) → TakesRegister r was is old new → Advances old.core new.core
register_step (reply.Registered a) was is old new t = register_advances t.0 (Ok a) old new t.3
register_step (reply.Refused x) was is old new t = register_advances t.0 (Err x) old new t.3
register_step reply.NoJob was is old new t = same_tree old new t.0.1
register_step r was is old new t = absurd t

abandon_step : {S : Type 0} (r : Reply) (was is : Option Job) (old new : SeenLogged S) → TakesAbandon r was is old new → Advances old.core new.core
abandon_step reply.Done was is old new t = inl (ap versions_left t.3)
abandon_step reply.NoJob was is old new t = same_tree old new t.0.1
abandon_step r was is old new t = absurd t

begin_compaction_step : {S : Type 0} (strategies : Strategies) (at : ℕ) (o : Options) (r : Reply) (was is : Option Job) (old new : SeenLogged S) → TakesBeginCompaction strategies at o r was is old new → Advances old.core new.core
begin_compaction_step strategies at o reply.SlotInUse was is old new t = same_tree old new t.0.1
begin_compaction_step strategies at o reply.NoStrategy was is old new t = same_tree old new t.0.1
begin_compaction_step strategies at o r was is old new t = asked t.begun old new _ t.begins (λ b. begins_core _ _ o t.begun old.core new.core b)

ends_core : (job : SeenCompaction) (r : Result Finished Error) (old new : Core) → Finishes job r old new → Advances old new
ends_core job r old new f = go old.lost refl
  where
    go : (l : Option SeenVersion) → old.lost ≡ l → Advances old new
    go None is = inr (is, finishes_one job r old new is f)
    go (Some v) is = inl (spends_rests job old new (f.uncertain (subst (λ (p : Option SeenVersion). IsSome p) (sym is) refl))).versions

finish_step : {S : Type 0} (r : Reply) (was is : Option Job) (old new : SeenLogged S) → TakesFinish r was is old new → Advances old.core new.core
finish_step reply.NoJob was is old new t = same_tree old new t.0.1
finish_step r was is old new t = by_doubt old.doubted refl
  where
    by_doubt : (b : Bool) → old.doubted ≡ b → Advances old.core new.core
    by_doubt true at = inl (spends_rests t.job.job old.core new.core (t.ends.doubted at).1).versions
    by_doubt false at = ends_core t.job.job t.end old.core new.core (t.ends.finishes at)

abandon_compaction_step : {S : Type 0} (r : Reply) (was is : Option Job) (old new : SeenLogged S) → TakesAbandonCompaction r was is old new → Advances old.core new.core
abandon_compaction_step reply.Done was is old new t = inl (spends_rests t.0 old.core new.core t.3).versions
abandon_compaction_step reply.NoJob was is old new t = same_tree old new t.0.1
abandon_compaction_step r was is old new t = absurd t

job_step : {S : Type 0} (strategies : Strategies) (x : JobStep) (r : Reply) (was is : Option Job) (old new : SeenLogged S) → TakesJob strategies x r was is old new → Advances old.core new.core
job_step strategies BeginFlush r was is old new t = begin_step r was is old new t
job_step strategies (RunFlush w) r was is old new t = same_tree old new t.1
job_step strategies FlushToTables r was is old new t = tables_step r was is old new t
job_step strategies RegisterTables r was is old new t = register_step r was is old new t
job_step strategies AbandonFlush r was is old new t = abandon_step r was is old new t
job_step strategies (BeginCompaction at o) r was is old new t = begin_compaction_step strategies at o r was is old new t
job_step strategies RunCompaction r was is old new t = same_tree old new t.1
job_step strategies FinishCompaction r was is old new t = finish_step r was is old new t
job_step strategies AbandonCompaction r was is old new t = abandon_compaction_step r was is old new t

-- ---- all steps

moment_step : {S : Type 0} (n : ℕ) (r : Reply) (old new : SeenLogged S) → TakesMoment n r old new → Advances old.core new.core
moment_step n reply.Done old new t = inl (ap versions_left t.0)
moment_step n r old new t = absurd t

table_id_step : {S : Type 0} (r : Reply) (old new : SeenLogged S) → TakesTableId r old new → Advances old.core new.core
table_id_step (reply.Number n) old new t = inl (ap versions_left t.0.1.3)
table_id_step (reply.Refused x) old new t = same_core old.core new.core t.0.1.1
table_id_step r old new t = absurd t.0.1

uncertain_step : {S : Type 0} (r : Reply) (old new : SeenLogged S) → TakesUncertain r old new → Advances old.core new.core
uncertain_step (reply.Truth b) old new t = same_tree old new t.0
uncertain_step r old new t = absurd t

alone_step : {S : Type 0} (strategies : Strategies) (x : LogStep) (r : Reply) (old new : SeenLogged S) → TakesAlone strategies x r old new → Advances old.core new.core
alone_step strategies (Write ops) r old new t = batch_step ops r old new t
alone_step strategies RotateMemtable r old new t = rotate_step r old new t
alone_step strategies (Flush w) r old new t = flush_step w r old new t
alone_step strategies (FlushActiveMemtable w) r old new t = active_step w r old new t
alone_step strategies (Compact at w) r old new t = compact_step strategies at w r old new t
alone_step strategies (MajorCompact target w) r old new t = asked t.0 old new _ t.2 (λ c. whole_core _ _ _ t.0 old.core new.core c)
alone_step strategies (DropRange low high) r old new t = asked t.0 old new _ t.2 (λ d. drops_core _ t.0 old.core new.core d)
alone_step strategies Clear r old new t = clear_step r old new t
alone_step strategies GetNextTableId r old new t = table_id_step r old new t
alone_step strategies (SetMoment n) r old new t = moment_step n r old new t
alone_step strategies IsUncertain r old new t = uncertain_step r old new t
alone_step strategies (AtSlot slot step) r old new t = absurd t
alone_step strategies x r old new t = same_tree old new t.0

pub step_advances : {S : Type 0} (strategies : Strategies) (x : LogStep) (r : Reply) (old new : LogStage S) → Takes strategies x r old new → Advances old.tree.core new.tree.core
step_advances strategies (AtSlot slot step) r old new t = job_step strategies step r (old.jobs slot) (new.jobs slot) old.tree new.tree t.0
step_advances strategies x r old new t = alone_step strategies x r old.tree new.tree t.0

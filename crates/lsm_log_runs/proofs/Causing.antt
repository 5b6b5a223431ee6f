-- Where the reply of a step blames the store, a call of it failed in that step.
use Rattle.std.proofs.Common.{◌≡◌, ◌⊎◌, ⊎_elim, inl, inr, ℕ, Bool, true, false, List, [], ◌∷◌, Option, Some, None, IfSome, Result, Ok, Err, refl, sym, ap, ◌∙◌, subst}
use Rattle.lsm_below.specs.Keys.{Bytes}
use Rattle.lsm_below.specs.declared.error.Error.{Error}
use Rattle.lsm_below.specs.declared.error.Error.TheVariants.{OutOfMemory, Store, CommitUnknown, AfterCommit, OutOfNumbers, Unrecoverable, FlushOpen}
use Rattle.lsm_store.specs.World.{World}
use Rattle.lsm_model.specs.Journal.{Event}
use Rattle.lsm_model.specs.declared.op.Op.{Op}
use Rattle.lsm_commit.specs.Causes.{HasCause, BlamesStore, Blames, no_fault, causes_counted}
use Rattle.lsm_commit.specs.Stored.{CountsFaults}
use Rattle.lsm_runs.specs.Causes.{ReplyBlames}
use Rattle.lsm_runs.specs.Compacting.{Strategies, TakesRunCompaction, end_reply_of}
use Rattle.lsm_runs.specs.Files.{StepHasCause}
use Rattle.lsm_runs.specs.Flushing.{TakesRun}
use Rattle.lsm_runs.specs.Runs.{TakesAlone as TakesInRun}
use Rattle.lsm_runs.specs.Told.{Told as Outcome}
use Rattle.lsm_runs.proofs.Causing.{blames, Blameless, named, batch_reason, alone_cause}
use Rattle.lsm_runs.specs.declared.slots.Job.{Job}
use Rattle.lsm_runs.specs.declared.steps.Reply.{Reply}
use Rattle.lsm_runs.specs.declared.steps.Step.{Step}
use Rattle.lsm_runs.specs.declared.steps.Reply.TheVariants.{Begun as BegunReply, Number, Truth, Done, NoJob, SlotInUse, Sealed, Refused}
use Rattle.lsm_state.specs.Core.{Core}
use Rattle.lsm_state.specs.Refusals.{batch_refusal}
use Rattle.lsm_state.specs.Flushes.{sealed_ids}
use Rattle.lsm_state.specs.declared.compaction.Finished.{Finished}
use Rattle.lsm_logged.specs.Flushing.{BeginsLogged}
use Rattle.lsm_logged.specs.Keeping.{SeenLogged, is_unsure}
use Rattle.lsm_logged.specs.Writing.{WritesLogged}
use Rattle.lsm_log_runs.specs.JobSteps.{TakesBegin, TakesAbandon, TakesAbandonCompaction}
use Rattle.lsm_log_runs.specs.Runs.{TakesRotate, TakesMoment, TakesTableId}

-- a reply that doesn't blame it, of a call that leaves the store
module _ {S : Type 0} (world : S → World) (was is : S) (same : is ≡ was) where
  quiet : (reply : Reply) → (ReplyBlames reply → ⊥) → HasCause (ReplyBlames reply) (world was) (world is)
  quiet reply spares = no_fault (ReplyBlames reply) (world was) (world is) (ap (λ (s : S). (world s).failures) same) spares

  refused_as : (x e : Error) → blames x ≡ false → e ≡ x → HasCause (ReplyBlames (Refused e)) (world was) (world is)
  refused_as x e free this = quiet (Refused e) (named x e free this)

-- ---- reads

abbrev no_strategies : Strategies
no_strategies = record { count = 0; may_choose = λ i config hidden version x. ⊥; may_refuse = λ i config hidden version x. ⊥ }

-- a step of `run` that calls no store
pub read_cause : {S : Type 0} (world : S → World) (was : S) (x : Step) (told : Outcome) (reply : Reply) (c : Core) → reply ≡ told.reply → TakesInRun no_strategies x told.reply told.entries c c → StepHasCause world x told.reply was was → HasCause (ReplyBlames reply) (world was) (world was)
read_cause world was x told reply c is takes still = subst (λ r. HasCause (ReplyBlames r) (world was) (world was)) (sym is) (alone_cause world was was no_strategies x told.reply told.entries c c takes still)

-- ---- a batch

abbrev Told : Error → Type 0
Told y = (◌≡◌ {A = Result ℕ Error} (Err AfterCommit) (Err y)) ⊎ (◌≡◌ {A = Result ℕ Error} (Err AfterCommit) (Err OutOfMemory))

after_isnt : (o : Option Error) → IfSome o (λ y. blames y ≡ false) → IfSome o Told → (o ≡ None → (AfterCommit ≡ OutOfMemory) ⊎ ((AfterCommit ≡ Store) ⊎ (AfterCommit ≡ CommitUnknown))) → ⊥
after_isnt None free told memory = ⊎_elim (λ h. cc h) (λ later. ⊎_elim (λ h. cc h) (λ h. cc h) later) (memory refl)
after_isnt (Some y) free told memory = ⊎_elim first (λ h. cc h) told
  where
    first : ◌≡◌ {A = Result ℕ Error} (Err AfterCommit) (Err y) → ⊥
    first h =
        let same : AfterCommit ≡ y = cc h in
        let no : true ≡ false = ap blames same ∙ free in
        cc no

not_after : {S : Type 0} (ops : List (Bytes × Op)) (old new : SeenLogged S) → WritesLogged ops (Err AfterCommit) old new → ⊥
not_after ops old new w = by_doubt (is_unsure old) refl
  where
    by_doubt : (d : Bool) → is_unsure old ≡ d → ⊥
    by_doubt true is = cc ((w.unsure is).0)
    by_doubt false is = after_isnt (batch_refusal old.core.seqno ops) (batch_reason old.core.seqno ops) (w.tree is).told (w.tree is).memory

pub write_cause : {S : Type 0} (ops : List (Bytes × Op)) (r : Result ℕ Error) (old new : SeenLogged S) (w w' : World) → WritesLogged ops r old new → CountsFaults w w' r → HasCause (Blames r) w w'
write_cause ops r old new w w' writes counts = causes_counted w w' r (λ e. not_after ops old new (subst (λ (x : Result ℕ Error). WritesLogged ops x old new) e writes)) counts

-- ---- other calls that leave the store

pub rotate_cause : {S : Type 0} (world : S → World) (reply : Reply) (old new : SeenLogged S) → TakesRotate reply old new → HasCause (ReplyBlames reply) (world old.store) (world new.store)
rotate_cause world (Sealed id) old new t = quiet world old.store new.store t.1.store (Sealed id) (λ blamed. blamed)
rotate_cause world (Refused x) old new t =
    let same = ap (λ (s : SeenLogged _). s.store) t.0 in
    ⊎_elim (λ h. refused_as world old.store new.store same OutOfNumbers x refl h) (λ h. refused_as world old.store new.store same OutOfMemory x refl h) t.1
rotate_cause world reply old new t = absurd t

pub refused_rotation_cause : {S : Type 0} (world : S → World) (old new : SeenLogged S) (x : Error) → new.store ≡ old.store → (x ≡ OutOfNumbers) ⊎ (x ≡ OutOfMemory) → HasCause (BlamesStore x) (world old.store) (world new.store)
refused_rotation_cause world old new x same only = ⊎_elim (λ h. refused_as world old.store new.store same OutOfNumbers x refl h) (λ h. refused_as world old.store new.store same OutOfMemory x refl h) only

pub moment_cause : {S : Type 0} (world : S → World) (n : ℕ) (reply : Reply) (old new : SeenLogged S) → TakesMoment n reply old new → HasCause (ReplyBlames reply) (world old.store) (world new.store)
moment_cause world n Done old new t = quiet world old.store new.store t.1.store Done (λ blamed. blamed)
moment_cause world n reply old new t = absurd t

pub table_id_cause : {S : Type 0} (world : S → World) (reply : Reply) (old new : SeenLogged S) → TakesTableId reply old new → HasCause (ReplyBlames reply) (world old.store) (world new.store)
table_id_cause world (Number n) old new t = quiet world old.store new.store t.1.store (Number n) (λ blamed. blamed)
table_id_cause world (Refused x) old new t = refused_as world old.store new.store t.1.store OutOfNumbers x refl t.0.1.2
table_id_cause world reply old new t = absurd t.0.1

pub truth_cause : {S : Type 0} (world : S → World) (was : S) (b : Bool) → HasCause (ReplyBlames (Truth b)) (world was) (world was)
truth_cause world was b = quiet world was was refl (Truth b) (λ blamed. blamed)

-- ---- calls on jobs

begin_refusal : {S : Type 0} (old new : SeenLogged S) (x : Error) → BeginsLogged (Err x) old new → Blameless x
begin_refusal old new x b = by_doubt old.doubted refl (sealed_ids old.core) refl
  where
    one : ((x ≡ OutOfMemory) ⊎ (x ≡ Unrecoverable)) ⊎ ((x ≡ FlushOpen) ⊎ (x ≡ OutOfNumbers)) → Blameless x
    one only = ⊎_elim (λ a. ⊎_elim (λ h. named OutOfMemory x refl h) (λ h. named Unrecoverable x refl h) a) (λ a. ⊎_elim (λ h. named FlushOpen x refl h) (λ h. named OutOfNumbers x refl h) a) only

    by_doubt : (d : Bool) → old.doubted ≡ d → (ids : List ℕ) → sealed_ids old.core ≡ ids → Blameless x
    by_doubt false is ids at = one (b.begins (inl is)).only
    by_doubt true is [] at = one (b.begins (inr at)).only
    by_doubt true is (i ∷ ids) at = named Unrecoverable x refl (let e = (b.doubted is (λ e. let y : ◌≡◌ {A = List ℕ} (i ∷ ids) [] = sym at ∙ e in cc y)).0 in cc e)

pub begin_cause : {S : Type 0} (world : S → World) (reply : Reply) (was is : Option Job) (old new : SeenLogged S) → TakesBegin reply was is old new → HasCause (ReplyBlames reply) (world old.store) (world new.store)
begin_cause world (BegunReply b) was is old new t = quiet world old.store new.store t.1.3.store (BegunReply b) (λ blamed. blamed)
begin_cause world (Refused x) was is old new t = quiet world old.store new.store t.2.store (Refused x) (begin_refusal old new x t.2)
begin_cause world SlotInUse was is old new t = quiet world old.store new.store (ap (λ (s : SeenLogged _). s.store) t.0.1) SlotInUse (λ blamed. blamed)
begin_cause world reply was is old new t = absurd t

pub run_cause : {S : Type 0} (world : S → World) (was : S) (n : ℕ) (reply : Reply) (events : List Event) (before after : Option Job) (old new : Core) → TakesRun n reply events before after old new → HasCause (ReplyBlames reply) (world was) (world was)
run_cause world was n Done events before after old new t = quiet world was was refl Done (λ blamed. blamed)
run_cause world was n (Refused x) events before after old new t = refused_as world was was refl OutOfMemory x refl t.1
run_cause world was n NoJob events before after old new t = quiet world was was refl NoJob (λ blamed. blamed)
run_cause world was n reply events before after old new t = absurd t

pub abandon_cause : {S : Type 0} (world : S → World) (reply : Reply) (was is : Option Job) (old new : SeenLogged S) → TakesAbandon reply was is old new → HasCause (ReplyBlames reply) (world old.store) (world new.store)
abandon_cause world Done was is old new t = quiet world old.store new.store t.4.store Done (λ blamed. blamed)
abandon_cause world NoJob was is old new t = quiet world old.store new.store (ap (λ (s : SeenLogged _). s.store) t.0.1) NoJob (λ blamed. blamed)
abandon_cause world reply was is old new t = absurd t

pub run_compaction_cause : {S : Type 0} (world : S → World) (was : S) (reply : Reply) (events : List Event) (before after : Option Job) (old new : Core) → TakesRunCompaction reply events before after old new → HasCause (ReplyBlames reply) (world was) (world was)
run_compaction_cause world was Done events before after old new t = quiet world was was refl Done (λ blamed. blamed)
run_compaction_cause world was (Refused x) events before after old new t = refused_as world was was refl OutOfMemory x refl t.1
run_compaction_cause world was NoJob events before after old new t = quiet world was was refl NoJob (λ blamed. blamed)
run_compaction_cause world was reply events before after old new t = absurd t

pub given_cause : {S : Type 0} (world : S → World) (reply : Reply) (was is : Option Job) (old new : SeenLogged S) → TakesAbandonCompaction reply was is old new → HasCause (ReplyBlames reply) (world old.store) (world new.store)
given_cause world Done was is old new t = quiet world old.store new.store t.4.store Done (λ blamed. blamed)
given_cause world NoJob was is old new t = quiet world old.store new.store (ap (λ (s : SeenLogged _). s.store) t.0.1) NoJob (λ blamed. blamed)
given_cause world reply was is old new t = absurd t

-- the end of a merge
pub finished_cause : (r : Result Finished Error) (reply : Reply) (w w' : World) → reply ≡ end_reply_of r → HasCause (Blames r) w w' → HasCause (ReplyBlames reply) w w'
finished_cause (Ok f) reply w w' is c = rw is c
finished_cause (Err e) reply w w' is c = rw is c

-- ---- openings

-- what is counted of a refusal doesn't depend on what else might have been answered
pub counted_as : {A B : Type 0} (w w' : World) (e : Error) → CountsFaults {T = A} w w' (Err e) → CountsFaults {T = B} w w' (Err e)
counted_as {A} {B} w w' e counts = record {
  store = λ h. counts.store (as_error Store h);
  unknown = λ h. counts.unknown (as_error CommitUnknown h);
  none = λ not_store not_unknown. counts.none (λ h. not_store (back Store h)) (λ h. not_unknown (back CommitUnknown h));
}
  where
    as_error : (x : Error) → ◌≡◌ {A = Result B Error} (Err e) (Err x) → ◌≡◌ {A = Result A Error} (Err e) (Err x)
    as_error x h = let same : e ≡ x = cc h in ap Err same

    back : (x : Error) → ◌≡◌ {A = Result A Error} (Err e) (Err x) → ◌≡◌ {A = Result B Error} (Err e) (Err x)
    back x h = let same : e ≡ x = cc h in ap Err same

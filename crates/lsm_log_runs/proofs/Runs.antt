-- From what each step does to what holds of a run.
use Rattle.std.proofs.Common.{◌≡◌, ◌⊎◌, ⊎_elim, inl, inr, ℕ, ◌<◌, ◌≤◌, List, [], ◌∷◌, ◌++◌, Option, Some, None, refl, sym, ap, ◌∙◌, subst, arith}
use Rattle.std.proofs.lemmas.Bool.{cases_lt}
use Rattle.std.specs.BTreeMap.{BTreeMap}
use Rattle.std.specs.List.{AllByRecursion}
use Rattle.lsm_below.specs.Entries.{Entry}
use Rattle.lsm_below.specs.Keys.{Bytes}
use Rattle.lsm_store.specs.World.{World}
use Rattle.lsm_model.specs.Beginnings.{Saved}
use Rattle.lsm_model.specs.Journal.{Event, sets_of}
use Rattle.lsm_model.specs.Sound.{Holds}
use Rattle.lsm_model.specs.declared.op.Op.{Op}
use Rattle.lsm_model.specs.declared.op.Op.TheVariants.{Weak}
use Rattle.lsm_commit.specs.Causes.{HasCause}
use Rattle.lsm_commit.specs.Foreign.{AtRest}
use Rattle.lsm_journal.specs.NotedReads.{NotedCompactionsKeepReads}
use Rattle.lsm_log_model.specs.Records.{LogImage, logged, opened_by}
use Rattle.lsm_run_model.specs.Moments.{last_of}
use Rattle.lsm_run_model.specs.Outcomes.{without_low_reads}
use Rattle.lsm_runs.specs.declared.slots.Job.{Job}
use Rattle.lsm_runs.specs.declared.steps.Reply.{Reply}
use Rattle.lsm_runs.specs.Causes.{ReplyBlames}
use Rattle.lsm_runs.specs.Compacting.{Strategies}
use Rattle.lsm_runs.specs.Slots.{Stage}
use Rattle.lsm_runs.specs.declared.steps.Step.{Step}
use Rattle.lsm_runs.proofs.Replays.{free_slots, alone_answers as run_answers}
use Rattle.lsm_runs.proofs.ReadReplays.{Sound}
use Rattle.lsm_state.specs.Core.{state_of}
use Rattle.lsm_state.specs.ListSteps.{ListsAreSteps}
use Rattle.lsm_logged.specs.Keeping.{SeenLogged}
use Rattle.lsm_log_runs.specs.declared.steps.LogStep.{LogStep}
use Rattle.lsm_log_runs.specs.declared.steps.LogStep.TheVariants.{Write, RotateMemtable, AtSlot, Flush, FlushActiveMemtable, Compact, MajorCompact, DropRange, Clear, GetNextTableId, SetMoment, IsUncertain}
use Rattle.lsm_log_runs.specs.Adds.{LogAdds}
use Rattle.lsm_log_runs.specs.Dropping.{DropsBy}
use Rattle.lsm_log_runs.specs.Doing.{ActsAlone, StepDoes}
use Rattle.lsm_log_runs.specs.LoggedRuns.{EachTaken, called, StepHolds, EachHolds, RanThrough, RunsBetween, RunsWhole, StepsLead, RunsJoin}
use Rattle.lsm_log_runs.specs.Pasts.{LogPast}
use Rattle.lsm_log_runs.specs.Reads.{read_of, TakesRead, AnswersRead}
use Rattle.lsm_log_runs.specs.Runs.{TakesAlone}
use Rattle.lsm_log_runs.specs.Slots.{LogStage, at_first, beside as stage_beside, EndsLogged}
use Rattle.lsm_log_runs.specs.Stages.{CalledStage, Answers, MayBeTried, StageKeeps, StepKeeps}
use Rattle.lsm_log_runs.specs.Standing.{StandsLogged, StandsWithJobs}
use Rattle.lsm_log_runs.specs.Trying.{IsOverOne, HasReason}
use Rattle.lsm_log_runs.proofs.Advancing.{Advances, step_advances}
use Rattle.lsm_log_runs.proofs.Beside.{beside, is_high}
use Rattle.lsm_log_runs.proofs.Closing.{given_up_stands}
use Rattle.lsm_runs.proofs.Drawing.{Near}
use Rattle.lsm_log_runs.proofs.Counting.{step_near}
use Rattle.lsm_log_runs.proofs.CommitLeads.{rotate_leads, active_leads, compact_leads, major_leads, drop_leads}
use Rattle.lsm_log_runs.proofs.Going.{holds_on}
use Rattle.lsm_log_runs.proofs.Growing.{step_grows}
use Rattle.lsm_log_runs.proofs.JobLeads.{job_leads}
use Rattle.lsm_log_runs.proofs.Leading.{Reading, Stores, StepFiles, Led, killed, stage_keeps, nothing_led, same_led}
use Rattle.lsm_log_runs.proofs.Reasons.{reason_of}
use Rattle.lsm_log_runs.proofs.Seeing.{step_sees}
use Rattle.lsm_log_runs.proofs.StepLeads.{sealed_are, batch_leads, flush_leads, clear_leads}
use Rattle.lsm_log_runs.proofs.Waiting.{job_waits, still_waiting, slot_waiting}

-- ---- steps in turn

module _ {S : Type 0} (Does : LogStep → Reply → LogStage S → LogStage S → Type 0) (world : S → World) where
  both_taken : (steps more : List LogStep) (replies others : List Reply) (old : LogStage S) (stages rest : List (LogStage S)) → EachTaken Does world steps replies old stages → EachTaken Does world more others (last_of old stages) rest → EachTaken Does world (steps ++ more) (replies ++ others) old (stages ++ rest)
  both_taken [] more [] others old [] rest first second = second
  both_taken (x ∷ steps) more (r ∷ replies) others old (mid ∷ stages) rest first second = (first.0, first.1, both_taken steps more replies others mid stages rest first.2 second)
  both_taken [] more [] others old (mid ∷ stages) rest first second = absurd first
  both_taken [] more (r ∷ replies) others old stages rest first second = absurd first
  both_taken (x ∷ steps) more [] others old stages rest first second = absurd first
  both_taken (x ∷ steps) more (r ∷ replies) others old [] rest first second = absurd first

  last_both : (old : LogStage S) (stages rest : List (LogStage S)) → last_of old (stages ++ rest) ≡ last_of (last_of old stages) rest
  last_both old [] rest = refl
  last_both old (st ∷ stages) rest = last_both st stages rest

  -- two in turn
  pub ran_both : (steps more : List LogStep) (replies others : List Reply) (old mid new : LogStage S) → RanThrough Does world steps replies old mid → RanThrough Does world more others mid new → RanThrough Does world (steps ++ more) (replies ++ others) old new
  ran_both steps more replies others old mid new first second = record {
    stages = first.stages ++ second.stages;
    taken = both_taken steps more replies others old first.stages second.stages first.taken (subst (λ st. EachTaken Does world more others st second.stages) (sym first.ends) second.taken);
    ends = last_both old first.stages second.stages ∙ ap (λ st. last_of st second.stages) first.ends ∙ second.ends;
  }

  -- one step more
  pub ran_more : (steps : List LogStep) (replies : List Reply) (old mid : LogStage S) (x : LogStep) (r : Reply) (new : LogStage S) → RanThrough Does world steps replies old mid → Does x r mid new → HasCause (ReplyBlames r) (world mid.tree.store) (world new.tree.store) → RanThrough Does world (steps ++ x ∷ []) (replies ++ r ∷ []) old new
  ran_more steps replies old mid x r new ran does cause = ran_both steps (x ∷ []) replies (r ∷ []) old mid new ran (record { stages = new ∷ []; taken = (does, cause, tt); ends = refl })

-- slots of which none was used are free
pub from_free : {S : Type 0} (tells : Type 0) (strategies : Strategies) (world : S → World) (steps : List LogStep) (replies : List Reply) (old : SeenLogged S) (slots : BTreeMap ℕ (Option Job)) (last : LogStage S) → slots.entries ≡ []
    → RunsBetween tells strategies world steps replies (stage_beside old slots) last → RunsBetween tells strategies world steps replies (at_first old) last
from_free {S} tells strategies world steps replies old slots last empty run =
    subst (λ st. RunsBetween tells strategies world steps replies st last) (ap (λ (st : Stage). let it : LogStage S = record { tree = old; jobs = st.jobs } in it) (free_slots slots old.core empty)) run

-- ---- whether a batch may be tried

over_or_not : (opened : List Entry) (journal : List Event) (p : Bytes × Op) → IsOverOne opened journal p ⊎ (IsOverOne opened journal p → ⊥)
over_or_not opened journal (k, Weak) = ⊎_elim (λ (gt : 1 < sets_of k opened journal). inr (λ over. let le = over refl in absurd (omega (arith, le, gt)))) (λ (le : sets_of k opened journal ≤ 1). inl (λ e. le)) (cases_lt 1 (sets_of k opened journal))
over_or_not opened journal (k, o) = inl (λ e. absurd (cc e))

all_or_not : (opened : List Entry) (journal : List Event) (ops : List (Bytes × Op)) → AllByRecursion (IsOverOne opened journal) ops ⊎ (AllByRecursion (IsOverOne opened journal) ops → ⊥)
all_or_not opened journal [] = inl tt
all_or_not opened journal (p ∷ ops) = ⊎_elim
    (λ one. ⊎_elim (λ rest. inl (one, rest)) (λ none. inr (λ all. none all.1)) (all_or_not opened journal ops))
    (λ none. inr (λ all. none all.0))
    (over_or_not opened journal p)

tried_or_not : (opened : List Entry) (journal : List Event) (x : LogStep) → MayBeTried opened journal x ⊎ (MayBeTried opened journal x → ⊥)
tried_or_not opened journal (Write ops) = all_or_not opened journal ops
tried_or_not opened journal x = inl tt

-- ---- what follows

-- of stages what is so of their stores
on_stage : {S : Type 0} (world : S → World) (image : LogImage) (st : LogStage S) (past : LogPast) → StageKeeps world (opened_by image) (logged image) (record { at = st.tree.store; past = past; counter = st.tree.core.seqno }) → StageKeeps (λ (s : LogStage S). world s.tree.store) (opened_by image) (logged image) (called st past)
on_stage world image st past k = record { now = k.now; whole = k.whole; again = k.again; small = k.small }

module _ {S : Type 0} (strategies : Strategies) (tells : Type 0) (world : S → World) where
  module _ (reading : Reading) (marks : NotedCompactionsKeepReads) (lists : ListsAreSteps) (between : Stores world) (told : tells) (image : LogImage) where
    abbrev opened : List Entry
    opened = opened_by image

    -- reads are right, and none stands in the journal
    sound : (past : LogPast) (t : SeenLogged S) → StandsLogged world image past t → Sound opened (logged image) past.journal t.core
    sound past t s =
        let high = is_high opened s.log (beside opened image s.came.first s.came.acts s.log s.came.reopened s.came.done) in
        let journal = ap (λ (p : LogPast). p.journal) s.came.past_is in
        let same : without_low_reads opened past.journal ≡ past.journal = subst (λ (p : LogPast). without_low_reads opened p.journal ≡ p.journal) s.came.past_is high in
        subst (λ j. Holds opened (logged image) (state_of j t.core)) (sym same) (subst (λ (tree : Saved). Holds opened (logged image) tree.state) s.is.tree (holds_on reading.theory image past s.log s.came))

    read_answers : (past : LogPast) (x : Option Step) (r : Reply) (old new : SeenLogged S) → StandsLogged world image past old → TakesRead strategies x r old new → AnswersRead opened (logged image) past.journal x r
    read_answers past (Some x) r old new s takes = run_answers lists reading.theory.sound strategies opened (logged image) x r past.journal takes.1.0 old.core old.core takes.1.1 (sound past old s)
    read_answers past None r old new s takes = absurd takes

    alone_answers : (past : LogPast) (x : LogStep) (r : Reply) (old new : SeenLogged S) → StandsLogged world image past old → TakesAlone strategies x r old new → Answers opened (logged image) past.journal x r
    alone_answers past (Write ops) r old new s takes = tt
    alone_answers past (Flush n) r old new s takes = tt
    alone_answers past Clear r old new s takes = tt
    alone_answers past RotateMemtable r old new s takes = tt
    alone_answers past (FlushActiveMemtable n) r old new s takes = tt
    alone_answers past (Compact at n) r old new s takes = tt
    alone_answers past (MajorCompact target n) r old new s takes = tt
    alone_answers past (DropRange low high) r old new s takes = tt
    alone_answers past GetNextTableId r old new s takes = tt
    alone_answers past (SetMoment n) r old new s takes = tt
    alone_answers past IsUncertain r old new s takes = tt
    alone_answers past (AtSlot slot step) r old new s takes = tt
    alone_answers past x r old new s takes = read_answers past (read_of x) r old new s takes

    -- what a step is known to add, and what comes of it
    abbrev LeadsTo : LogStep → Reply → LogPast → SeenLogged S → SeenLogged S → Type 0
    LeadsTo x r past old new = (next : LogPast) × LogAdds (DropsBy strategies old.core x) old.core.seqno x r past next × Led world reading between image past next old new

    -- one that needs no slot
    module _ (past : LogPast) (old new : SeenLogged S) (s : StandsLogged world image past old) (stored : StepFiles world old new) (rest : AtRest (world new.store)) where
      alone_leads : (x : LogStep) (r : Reply) → TakesAlone strategies x r old new → ActsAlone strategies x r (world old.store) (world new.store) old new → MayBeTried opened past.journal x → LeadsTo x r past old new
      alone_leads (Write ops) r takes acts tried = batch_leads world reading between image past old new s stored rest ops tried r takes acts
      alone_leads (Flush n) r takes acts tried = flush_leads world reading between image past old new s stored rest n r acts
      alone_leads Clear r takes acts tried = clear_leads world reading between image past old new s stored rest r takes acts
      alone_leads RotateMemtable r takes acts tried = rotate_leads world reading between image past old new s rest r takes acts
      alone_leads (FlushActiveMemtable n) r takes acts tried = active_leads world reading between image past old new s stored rest n r acts
      alone_leads (Compact at n) r takes acts tried = compact_leads world reading between image past old new s stored rest (strategies.may_choose at) n r acts
      alone_leads (MajorCompact target n) r takes acts tried = major_leads world reading between image past old new s stored rest n r acts
      alone_leads (DropRange low high) r takes acts tried = drop_leads world reading between image past old new s stored rest low high r acts
      alone_leads GetNextTableId r takes acts tried = (past, refl, nothing_led world reading between image past old new s (acts opened past.journal past.notes s.log s.is s.keeps) stored rest)
      alone_leads (SetMoment n) r takes acts tried = (past, refl, nothing_led world reading between image past old new s (acts opened past.journal past.notes s.log s.is s.keeps) stored rest)
      alone_leads (AtSlot slot step) r takes acts tried = absurd takes
      alone_leads x r takes acts tried = (past, refl, same_led world reading between image past old new s rest acts)

    -- what is known of a stage
    abbrev Stands : CalledStage (LogStage S) → Type 0
    Stands = StandsWithJobs world image

    keeps : (past next : LogPast) (x : LogStep) (r : Reply) (old new : LogStage S) → StandsLogged world image past old.tree → Advances old.tree.core new.tree.core → Near old.tree.core.seqno new.tree.core.seqno → LogAdds (DropsBy strategies old.tree.core x) old.tree.core.seqno x r past next
        → Answers opened (logged image) past.journal x r → HasReason old.tree.core.seqno past.known x r → HasCause (ReplyBlames r) (world old.tree.store) (world new.tree.store) → Led world reading between image past next old.tree new.tree
        → StepKeeps (DropsBy strategies old.tree.core x) (λ st. world st.tree.store) opened (logged image) x r (called old past) (called new next)
    keeps past next x r old new s makes near adds answers reason cause led = record {
      adds = adds;
      draws = near;
      answers = answers;
      reason = reason;
      cause = cause;
      inside = led.inside;
      kills = λ cut ends. killed world reading between image past next old.tree new.tree s makes led cut.tree.store (record { each = ends.each; gives = ends.gives });
      then = on_stage world image new next led.then;
    }

    -- a step that is taken from what stands
    step_leads : (past : LogPast) (x : LogStep) (r : Reply) (old new : LogStage S) → Stands (called old past) → StepDoes strategies tells world x r old new → HasCause (ReplyBlames r) (world old.tree.store) (world new.tree.store) → MayBeTried opened past.journal x
        → (next : LogPast) × StepHolds Stands strategies world image x r (called old past) (called new next)
    step_leads past (AtSlot slot step) r old new s does cause tried =
        let makes = step_advances strategies (AtSlot slot step) r old new does.takes in
        let files : StepFiles world old.tree new.tree = record { stays = does.stored told; makes = makes } in
        let led = job_leads world reading between image past old.tree new.tree s.tree files (between.rests new.tree.store) strategies slot step r (old.jobs slot) (s.waits slot) (does.acts told) in
        let here = job_waits marks (DropsBy strategies old.tree.core (AtSlot slot step)) old.tree.core.seqno slot past led.0 (old.jobs slot) (new.jobs slot) (s.waits slot) old.tree new.tree (sealed_are world reading between image past old.tree new.tree s.tree files) strategies step r does.takes.0 led.1 in (
          led.0,
          record {
            keeps = keeps past led.0 (AtSlot slot step) r old new s.tree makes (step_near strategies (AtSlot slot step) r old new does.takes) led.1 tt tt cause led.2;
            sees = λ at there. absurd (cc there);
            spares = led.2.spares;
            stands = record { tree = led.2.stands; waits = slot_waiting marks slot past led.0 old.jobs new.jobs (step_grows (DropsBy strategies old.tree.core (AtSlot slot step)) old.tree.core.seqno (AtSlot slot step) r past led.0 led.1) does.takes.1 here s.waits };
          },
        )
    step_leads past x r old new s does cause tried =
        let makes = step_advances strategies x r old new does.takes in
        let led = alone_leads past old.tree new.tree s.tree (record { stays = does.stored told; makes = makes }) (between.rests new.tree.store) x r does.takes.0 (does.acts told) tried in (
          led.0,
          record {
            keeps = keeps past led.0 x r old new s.tree makes (step_near strategies x r old new does.takes) led.1 (alone_answers past x r old.tree new.tree s.tree does.takes.0) (reason_of world image past strategies x r old.tree new.tree s.tree does.takes.0) cause led.2;
            sees = step_sees lists reading.theory.sound opened (logged image) past.journal strategies x r old.tree new.tree (sound past old.tree s.tree) does.takes.0;
            spares = led.2.spares;
            stands = record { tree = led.2.stands; waits = still_waiting marks past led.0 old.jobs new.jobs (step_grows (DropsBy strategies old.tree.core x) old.tree.core.seqno x r past led.0 led.1) does.takes.1 s.waits };
          },
        )

    -- of a batch that may not be tried nothing is said, and so of nothing after it
    each : (steps : List LogStep) (replies : List Reply) (past : LogPast) (old : LogStage S) (stages : List (LogStage S)) → EachTaken (StepDoes strategies tells world) world steps replies old stages → Stands (called old past)
        → (pasts : List LogPast) × EachHolds Stands strategies world image steps replies (called old past) stages pasts
    each [] [] past old [] taken s = ([], tt)
    each (x ∷ steps) (r ∷ replies) past old (mid ∷ stages) taken s = ⊎_elim
        (λ (may : MayBeTried opened past.journal x).
        let one = step_leads past x r old mid s taken.0 taken.1 may in
        let rest = each steps replies one.0 mid stages taken.2 one.1.stands in
        (one.0 ∷ rest.0, λ tried. (one.1, rest.1)))
        (λ (not : MayBeTried opened past.journal x → ⊥). (past ∷ [], λ tried. absurd (not tried)))
        (tried_or_not opened past.journal x)
    each [] [] past old (mid ∷ stages) taken s = absurd taken
    each [] (r ∷ replies) past old stages taken s = absurd taken
    each (x ∷ steps) [] past old stages taken s = absurd taken
    each (x ∷ steps) (r ∷ replies) past old [] taken s = absurd taken

  pub lead : (reading : Reading) (marks : NotedCompactionsKeepReads) (lists : ListsAreSteps) (between : tells → Stores world) → StepsLead tells strategies world
  lead reading marks lists between steps replies old new through = (
    record {
      through = through;
      holds = λ told image past s.
          let holds = each reading marks lists (between told) told image steps replies past old through.stages through.taken s in
          record { pasts = holds.0; first = on_stage world image old past (stage_keeps world reading (between told) image past old.tree s.tree ((between told).rests old.tree.store)); each = holds.1 };
    },
    refl,
  )

  pub join : StepsLead tells strategies world → RunsJoin tells strategies world
  unfolding ran_both
  join leads steps more replies others old mid new first second =
      let run = leads (steps ++ more) (replies ++ others) old new (ran_both (StepDoes strategies tells world) world steps more replies others old mid new first.through second.through) in
      (run.0, ap (λ (t : RanThrough (StepDoes strategies tells world) world (steps ++ more) (replies ++ others) old new). t.stages) run.1)

  pub whole : (steps : List LogStep) (replies : List Reply) (old : SeenLogged S) (last : LogStage S) (new : SeenLogged S) → RunsBetween tells strategies world steps replies (at_first old) last → EndsLogged last new → RunsWhole tells strategies world steps replies old new
  whole steps replies old last new run ends = record {
    last = last;
    run = run;
    closes = ends;
    goes_on = λ image past s. given_up_stands world image past last new ends s;
  }

-- A run of one step, by what it does to a tree and its store.
use Rattle.std.proofs.Common.{◌≡◌, ℕ, ◌<◌, ◌≤◌, ◌^◌, arith, List, [], ◌∷◌, ◌++◌, map, take, length, sym, ap, subst}
use Rattle.std.specs.List.{AllByRecursion}
use Rattle.lsm_runs.specs.Each.{each_left}
use Rattle.lsm_runs.specs.Entries.{Entry}
use Rattle.lsm_runs.specs.World.{World}
use Rattle.lsm_runs.specs.Counted.{OfWrite}
use Rattle.lsm_runs.specs.Journal.{Event, Map, InOrder}
use Rattle.lsm_runs.specs.Stored.{IsStored}
use Rattle.lsm_runs.specs.Core.{Core, versions_left, written_of}
use Rattle.lsm_runs.specs.Composing.{AreNumbered}
use Rattle.lsm_run_model.specs.Moments.{EachMoment, last_of}
use Rattle.lsm_runs.specs.Outcomes.{Past, after}
use Rattle.lsm_runs.specs.Outcomes as out
use Rattle.lsm_runs.specs.Rising.{EachUses}
use Rattle.lsm_runs.specs.Noted.{Noted}
use Rattle.lsm_runs.specs.declared.steps.JobStep.TheVariants as job
use Rattle.lsm_runs.specs.declared.steps.Step.{Step}
use Rattle.lsm_runs.specs.declared.steps.Step.TheVariants as step
use Rattle.lsm_runs.specs.declared.steps.Reply.{Reply}
use Rattle.lsm_runs.specs.declared.steps.Reply.TheVariants as reply
use Rattle.lsm_runs.specs.After.{AnswersAfter, RunIsRight}
use Rattle.lsm_runs.specs.Chains.{Point, RanAlong}
use Rattle.lsm_runs.specs.Compacting.{Strategies}
use Rattle.lsm_runs.specs.Drawing.{asks_of}
use Rattle.lsm_runs.specs.Adds.{Adds}
use Rattle.lsm_runs.specs.Dropping.{Drops, AllowsDrops, may_drop}
use Rattle.lsm_runs.specs.Files.{StaysStored}
use Rattle.lsm_runs.specs.Moments.{outcome_of, outcomes_of, Reopens, StandsAfter, EachReady, HasMoments, GoesOn, TellsSo, RunHasMoments}
use Rattle.lsm_runs.specs.Notes.{Notes, EachTells}
use Rattle.lsm_runs.specs.OpenFlushes.{BegunFlush, none_begun}
use Rattle.lsm_runs.specs.Runs.{Takes, IsPlainUse}
use Rattle.lsm_runs.specs.Slots.{Stage, at_first, Closes}
use Rattle.lsm_runs.specs.Told.{Told}
use Rattle.lsm_runs.proofs.Allowing.{adds_grow}
use Rattle.example_crash.proofs.Growing.{length_more}

-- what is written is numbered below 2^63
abbrev pub IsSmall : Event → Type 0
IsSmall x = OfWrite (λ e. e.key.seqno < 2 ^ 63) x

-- the outcome of a step, before which no job waits
abbrev pub outcome : Step → Told → Core → out.Told Reply
outcome x t c = outcome_of x t (at_first c)

-- No job waits before the step: so no flush is registered, and what the step adds and notes is the same whatever was begun.
adds_any : (May : Drops) (strategies : Strategies) (begun : ℕ → BegunFlush) (x : Step) (r : Reply) (events : List Event) (old : Core) (new : Stage) → Takes strategies x r events (at_first old) new → Adds May none_begun x r events → Adds May begun x r events
adds_any May strategies begun (step.AtSlot slot job.RegisterTables) (reply.Registered a) events old new takes h = absurd (let z = takes.0.1 in cc z)
adds_any May strategies begun (step.AtSlot slot job.RegisterTables) (reply.Refused e) events old new takes h = absurd (let z = takes.0.1 in cc z)
adds_any May strategies begun (step.AtSlot slot job.RegisterTables) reply.NoJob events old new takes h = subst (AllByRecursion _) (sym takes.0.0.0) tt
adds_any May strategies begun (step.AtSlot slot job.RegisterTables) r events old new takes h = absurd takes.0
adds_any May strategies begun (step.AtSlot slot x) r events old new takes h = h
adds_any May strategies begun x r events old new takes h = h

notes_any : (strategies : Strategies) (sealed : List ℕ) (begun : ℕ → BegunFlush) (x : Step) (r : Reply) (events : List Event) (notes : List Noted) (old : Core) (new : Stage) → Takes strategies x r events (at_first old) new → Notes sealed none_begun x r notes → Notes sealed begun x r notes
notes_any strategies sealed begun (step.AtSlot slot job.RegisterTables) (reply.Registered a) events notes old new takes h = absurd (let z = takes.0.1 in cc z)
notes_any strategies sealed begun (step.AtSlot slot job.RegisterTables) r events notes old new takes h = h
notes_any strategies sealed begun (step.AtSlot slot x) r events notes old new takes h = h
notes_any strategies sealed begun x r events notes old new takes h = h

module _ {F : Type 0} (May : Drops) (world : F → World) where
  -- a tree beside its store, where no job waits
  abbrev pub here : F → Core → Point F
  here store c = record { store = store; stage = at_first c }

  -- A step led from one tree and store to another with this outcome.
  pub record TookOne (x : Step) (t : Told) (was is : F) (old new : Core) : Type 0 where
    pub counter : ℕ
    pub counts : counter ≡ new.seqno
    pub uses : EachUses (asks_of x ∷ []) (outcome x t old ∷ []) old.seqno (counter ∷ [])
    pub small : AllByRecursion IsSmall t.entries
    pub stored : StaysStored (world was) (world is) old new
    pub ready : IsStored (world was) (versions_left old) (written_of old) → EachReady world was (is ∷ [])
    pub moments : (opened : List Entry) (start : Map) (past : Past) → IsPlainUse (x ∷ []) → StandsAfter world opened start past was old → InOrder opened (after opened past (outcome x t old)).journal → (n : ℕ) → AreNumbered n opened (after opened past (outcome x t old)).journal
        → EachMoment (Reopens n) world opened start past (outcome x t old ∷ []) was (is ∷ [])
    pub tells : (opened : List Entry) (start : Map) (past : Past) → IsPlainUse (x ∷ []) → StandsAfter world opened start past was old → InOrder opened (after opened past (outcome x t old)).journal → (begun : ℕ → BegunFlush) → EachTells May opened past begun (x ∷ []) (outcome x t old ∷ [])
    pub stands : (opened : List Entry) (start : Map) (past : Past) → IsPlainUse (x ∷ []) → StandsAfter world opened start past was old → InOrder opened (after opened past (outcome x t old)).journal → StandsAfter world opened start (after opened past (outcome x t old)) is new
    pub goes_on : (opened : List Entry) (start : Map) (journal : List Event) → AnswersAfter opened start journal (x ∷ []) (t ∷ []) old new

  module _ (strategies : Strategies) (allows : AllowsDrops May strategies) (x : Step) (t : Told) (was is : F) (old new : Core) where
    took_along : (points : List (Point F)) → RanAlong world strategies (x ∷ []) (t ∷ []) (here was old) points → (last_of (here was old) points).store ≡ is → Closes (last_of (here was old) points).stage.core new → AllByRecursion IsSmall t.entries → StaysStored (world was) (world is) old new
        → EachUses (asks_of x ∷ []) (outcomes_of (x ∷ []) (t ∷ []) (here was old) points) old.seqno (map (λ p. p.stage.core.seqno) points) → (IsStored (world was) (versions_left old) (written_of old) → EachReady world was (map (λ p. p.store) points))
        → ((opened : List Entry) (start : Map) (past : Past) → HasMoments world opened start past (x ∷ []) (t ∷ []) (here was old) points) → ((opened : List Entry) (start : Map) (past : Past) → TellsSo (may_drop strategies) world opened start past (x ∷ []) (t ∷ []) (here was old) points)
        → ((opened : List Entry) (start : Map) (past : Past) → GoesOn world opened start past (x ∷ []) (t ∷ []) (here was old) points is new) → ((opened : List Entry) (start : Map) (journal : List Event) → AnswersAfter opened start journal (x ∷ []) (t ∷ []) old new) → TookOne x t was is old new
    took_along [] ran ends closes small stored uses ready moments tells stands goes_on = absurd ran
    took_along (p ∷ (q ∷ points)) ran ends closes small stored uses ready moments tells stands goes_on = absurd ran.2
    took_along (p ∷ []) ran ends closes small stored uses ready moments tells stands goes_on = record {
      counter = p.stage.core.seqno;
      counts = sym (ap (λ (c : Core). c.seqno) closes.rest);
      uses = uses;
      small = small;
      stored = stored;
      ready = λ still. subst (λ (f : F). EachReady world was (f ∷ [])) ends (ready still);
      moments = λ opened start past plain there order n numbered. subst (λ (f : F). EachMoment (Reopens n) world opened start past (outcome x t old ∷ []) was (f ∷ [])) ends ((moments opened start past 1 plain there order).0 n numbered);
      tells = λ opened start past plain there order begun.
          let h = tells opened start past 1 plain there order in
          (adds_any May strategies begun x t.reply t.entries old p.stage ran.0 (adds_grow (may_drop strategies) May allows none_begun x t.reply t.entries h.0), notes_any strategies _ begun x t.reply t.entries _ old p.stage ran.0 h.1, tt);
      stands = λ opened start past plain there order. stands opened start past plain there order;
      goes_on = goes_on;
    }

  pub took_one : (strategies : Strategies) → AllowsDrops May strategies → (x : Step) (t : Told) (was is : F) (old new : Core) → RunHasMoments world strategies (x ∷ []) (t ∷ []) (here was old) is new → RunIsRight strategies (x ∷ []) (t ∷ []) old new → StaysStored (world was) (world is) old new → TookOne x t was is old new
  took_one strategies allows x t was is old new run right stored =
      took_along strategies allows x t was is old new run.points run.ran run.ends run.closes (each_left IsSmall t.entries [] run.small) stored run.uses run.ready run.moments run.tells run.goes_on right.goes_on

  -- the same of a run of a list that has just this step
  pub took_singly : (strategies : Strategies) → AllowsDrops May strategies → (steps : List Step) (told : List Told) (x : Step) (t : Told) (was is : F) (old new : Core) → steps ≡ x ∷ [] → told ≡ t ∷ []
      → RunHasMoments world strategies (take (length told) steps) told (here was old) is new → RunIsRight strategies (take (length told) steps) told old new → StaysStored (world was) (world is) old new → TookOne x t was is old new
  took_singly strategies allows steps told x t was is old new e f run right stored =
      took_one strategies allows x t was is old new
      (subst (λ ts. RunHasMoments world strategies (take (length ts) (x ∷ [])) ts (here was old) is new) f (subst (λ xs. RunHasMoments world strategies (take (length told) xs) told (here was old) is new) e run))
      (subst (λ ts. RunIsRight strategies (take (length ts) (x ∷ [])) ts old new) f (subst (λ xs. RunIsRight strategies (take (length told) xs) told old new) e right)) stored

  -- and of one that took none
  pub none_taken : (strategies : Strategies) (steps : List Step) (told : List Told) (was is : F) (old new : Core) → told ≡ []
      → RunHasMoments world strategies (take (length told) steps) told (here was old) is new → RunIsRight strategies (take (length told) steps) told old new → RunHasMoments world strategies [] [] (here was old) is new × RunIsRight strategies [] [] old new
  none_taken strategies steps told was is old new e run right = (subst (λ ts. RunHasMoments world strategies (take (length ts) steps) ts (here was old) is new) e run, subst (λ ts. RunIsRight strategies (take (length ts) steps) ts old new) e right)

-- what has one element at most, and ends with this one, is this one
pub only_one : {A : Type 0} (xs rest : List A) (x : A) → xs ≡ rest ++ x ∷ [] → length xs ≤ 1 → xs ≡ x ∷ []
only_one xs [] x e few = e
only_one xs (y ∷ rest) x e few = let many = ap (λ ys. length ys) e in let more = length_more (y ∷ rest) x in absurd (omega (many, more, few, arith))

-- A run on a tree as opening left it is a life.
use Rattle.std.proofs.Common.{◌≡◌, ℕ, zero, suc, ◌+◌, ◌≤◌, ◌^◌, max, arith, None, List, [], ◌∷◌, map, take, length, ◌++◌, refl, sym, ap, subst, ◌∙◌, append-nil, append_assoc}
use Rattle.std.specs.List.{AllByRecursion}
use Rattle.lsm_below.specs.Entries.{Entry, above}
use Rattle.lsm_store.specs.World.{World}
use Rattle.lsm_model.specs.Journal.{Map, InOrder}
use Rattle.lsm_model.specs.Soundness.{HoldsIsKept}
use Rattle.lsm_model.specs.Steps.{IsOpened}
use Rattle.lsm_model.specs.Views.{held}
use Rattle.lsm_versions.specs.Levels.{Levels, placed_of}
use Rattle.lsm_manifest.specs.Finding.{Finds}
use Rattle.lsm_manifest.specs.Ready.{IsReady, OpeningLeaves}
use Rattle.lsm_commit.specs.Stored.{IsStored}
use Rattle.lsm_state.specs.Core.{Core, state_of, versions_left, written_of}
use Rattle.lsm_run_model.specs.Outcomes.{Past, nothing, after, after_all, without_low_reads}
use Rattle.lsm_run_model.specs.Rising.{At, Asks, RisesFrom, EachUses, StandsBelow, RisingIsInOrder, OrderWithoutReads}
use Rattle.lsm_run_model.specs.Outcomes as out
use Rattle.lsm_run_model.specs.Moments.{EachMoment, last_of}
use Rattle.lsm_run_model.specs.Lives.{LeavesReady}
use Rattle.lsm_runs.specs.declared.steps.Step.{Step as Call}
use Rattle.lsm_runs.specs.declared.steps.Reply.{Reply}
use Rattle.lsm_runs.specs.After.{RunIsRight}
use Rattle.lsm_runs.specs.Chains.{Point, RanAlong}
use Rattle.lsm_runs.specs.Compacting.{Strategies}
use Rattle.lsm_runs.specs.Drawing.{asks_of}
use Rattle.lsm_runs.specs.Dropping.{Drops, allowed, may_drop}
use Rattle.lsm_runs.specs.Lives.{StepsAreLives, Rise, LivesInOrder, told_of}
use Rattle.lsm_runs.specs.Living.{RunsAreLives}
use Rattle.lsm_runs.specs.OpenFlushes.{none_begun}
use Rattle.lsm_runs.specs.Moments.{outcomes_of, EachReady, Reopens, RunHasMoments}
use Rattle.lsm_runs.specs.Runs.{IsPlainUse, EachAnswers, journal_of}
use Rattle.lsm_runs.specs.Told.{Told}
use Rattle.lsm_run_model.proofs.LowReads.{without-append}
use Rattle.lsm_runs.proofs.Allowing.{tells_grow}
use Rattle.lsm_runs.proofs.Small.{IsSmall, numbered_front}
use Rattle.lsm_runs.proofs.Uses.{drawings}

pub map_take : {A B : Type 0} (f : A → B) (many : ℕ) (xs : List A) → map f (take many xs) ≡ take many (map f xs)
map_take f zero xs = refl
map_take f (suc many) [] = refl
map_take f (suc many) (x ∷ xs) = ap (λ ys. f x ∷ ys) (map_take f many xs)

pub length_front : {A : Type 0} (many : ℕ) (xs : List A) → length (take many xs) ≤ many
length_front zero xs = omega arith
length_front (suc many) [] = omega arith
length_front (suc many) (x ∷ xs) = let rest = length_front many xs in omega (rest, arith)

module _ {F : Type 0} (world : F → World) where
  pub front_ready : (many : ℕ) (was : F) (stores : List F) → EachReady world was stores → EachReady world was (take many stores)
  front_ready zero was [] h = h
  front_ready zero was (is ∷ stores) h = h.0
  front_ready (suc many) was [] h = h
  front_ready (suc many) was (is ∷ stores) h = (h.0, h.1, front_ready many is stores h.2)

  -- from before the last call on
  pub last_ready : (answered : ℕ) (was : F) (stores : List F) → length stores ≤ answered + 1 → EachReady world was stores → LeavesReady IsReady world (last_of was (take answered stores)) (last_of was stores)
  last_ready zero was [] few h = h.1
  last_ready zero was (is ∷ []) few h = h.1
  last_ready zero was (is ∷ (x ∷ stores)) few h = absurd (omega (few, arith))
  last_ready (suc answered) was [] few h = h.1
  last_ready (suc answered) was (is ∷ stores) few h = last_ready answered is stores (omega (few, arith)) h.2

-- what callers see of the outcomes, and their journal
journal_same : {F : Type 0} (world : F → World) (strategies : Strategies) (xs : List Call) (ts : List Told) (old : Point F) (points : List (Point F)) → RanAlong world strategies xs ts old points → out.journal_of (outcomes_of xs ts old points) ≡ journal_of ts
journal_same world strategies [] [] old [] r = refl
journal_same world strategies (x ∷ xs) (t ∷ ts) old (mid ∷ points) r = ap (λ es. t.entries ++ es) (journal_same world strategies xs ts mid points r.2)
journal_same world strategies xs ts old points r = absurd r

pub told_same : {F : Type 0} (world : F → World) (strategies : Strategies) (xs : List Call) (ts : List Told) (old : Point F) (points : List (Point F)) → RanAlong world strategies xs ts old points → map told_of (outcomes_of xs ts old points) ≡ ts
told_same world strategies [] [] old [] r = refl
told_same world strategies (x ∷ xs) (t ∷ ts) old (mid ∷ points) r = ap (λ us. t ∷ us) (told_same world strategies xs ts mid points r.2)
told_same world strategies xs ts old points r = absurd r

pub runs_are_lives : {F : Type 0} (world : F → World) (strategies : Strategies) → RunsAreLives world strategies
runs_are_lives {F} world strategies may allows steps told old is new run opened start opens certain stored low many answered end plain order ends all =
    let stands = run.begins opened start opens certain stored in
    let every : List F = map (λ p. p.store) run.points in
    let stores = take many every in
    let few = length_front many every in
    let whole : List (out.Told Reply) = outcomes_of steps told old run.points in
    let outcomes : List (out.Told Reply) = take many whole in
    let tells = tells_grow (may_drop strategies) (allowed may) allows opened nothing none_begun (take many steps) outcomes (run.tells opened start nothing many plain stands order) in
    let numbered = numbered_front opened many whole low (subst (AllByRecursion IsSmall) (sym (journal_same world strategies steps told old run.points run.ran)) run.small) in
    record {
      life = record {
        opened = opened;
        told = outcomes;
        known = record { starts = opens.starts; steps = take many steps; plain = plain; tells = tells; order = order };
        first = old.store;
        stores = stores;
        moments = subst (λ (ss : List F). EachMoment (Reopens (2 ^ 63)) world opened start nothing outcomes old.store ss) (map_take (λ (p : Point F). p.store) many run.points) ((run.moments opened start nothing many plain stands order).0 (2 ^ 63) numbered);
        answered = answered;
        ended = ends;
        ready = λ kill. last_ready world answered old.store stores (let last = all kill in omega (few, last, arith)) (front_ready world many old.store every (run.ready stored));
      };
      opened_with = refl;
      took = refl;
      told = refl;
      answered = refl;
    }

stores_end : {F : Type 0} (old : Point F) (points : List (Point F)) → last_of old.store (map (λ p. p.store) points) ≡ (last_of old points).store
stores_end old [] = refl
stores_end old (p ∷ points) = stores_end p points

-- ---- the order of the first so many

uses_front : (many : ℕ) (calls : List Asks) (outcomes : List (out.Told Reply)) (old : ℕ) (counters : List ℕ) → EachUses calls outcomes old counters → EachUses (take many calls) (take many outcomes) old (take many counters)
uses_front zero calls outcomes old counters u = tt
uses_front (suc many) [] [] old [] u = tt
uses_front (suc many) (call ∷ calls) (o ∷ outcomes) old (new ∷ counters) u = (u.0, u.1, uses_front many calls outcomes new counters u.2)
uses_front (suc many) calls outcomes old counters u = absurd u

module _ (opened : List Entry) where
  pub journal_after : (outcomes : List (out.Told Reply)) (past : Past) → (after_all opened past outcomes).journal ≡ past.journal ++ without_low_reads opened (out.journal_of outcomes)
  journal_after [] past = sym (append-nil past.journal)
  journal_after (o ∷ outcomes) past =
      journal_after outcomes (after opened past o) ∙ append_assoc past.journal (without_low_reads opened o.entries) (without_low_reads opened (out.journal_of outcomes))
      ∙ ap (λ es. past.journal ++ es) (sym (without-append opened o.entries (out.journal_of outcomes)))

  pub front_in_order : RisingIsInOrder Reply → OrderWithoutReads → (steps : List Call) (outcomes : List (out.Told Reply)) (counter : ℕ) (counters : List ℕ) → above opened ≤ counter → EachUses (map asks_of steps) outcomes counter counters
      → (many : ℕ) → Rise opened counter (take many steps) → InOrder opened (after_all opened nothing (take many outcomes)).journal
  front_in_order rising without steps outcomes counter counters low uses many rise =
      let front : List Call = take many steps in
      let mine = subst (λ (calls : List Asks). EachUses calls (take many outcomes) counter (take many counters)) (sym (map_take asks_of many steps)) (uses_front many (map asks_of steps) outcomes counter counters uses) in
      let numbers = subst (λ ds. RisesFrom (above opened) (At counter) ds) (drawings front) rise.numbers in
      let none : StandsBelow opened [] counter (above opened) [] = record { order = tt; counted = low; used = omega arith; sets = λ k. omega arith } in
      let stays = rising opened [] (map asks_of front) (take many outcomes) counter (above opened) (At counter) [] (take many counters) none refl numbers rise.weak mine in
      subst (InOrder opened) (sym (journal_after (take many outcomes) nothing)) ((without.order opened (out.journal_of (take many outcomes))).0 stays.order)

-- ---- the answers of the first so many

pub outcomes_journal : (outcomes : List (out.Told Reply)) → out.journal_of outcomes ≡ journal_of (map told_of outcomes)
outcomes_journal [] = refl
outcomes_journal (o ∷ outcomes) = ap (λ es. o.entries ++ es) (outcomes_journal outcomes)

pub front_answers : HoldsIsKept → OrderWithoutReads → (strategies : Strategies) (opened : List Entry) (start : Map) (steps : List Call) (told : List Told) (old new : Core) → RunIsRight strategies steps told old new → IsOpened opened start (state_of [] old) → (outcomes : List (out.Told Reply)) → map told_of outcomes ≡ told
    → (many : ℕ) → IsPlainUse (take many steps) → InOrder opened (after_all opened nothing (take many outcomes)).journal → EachAnswers opened start [] (take many steps) (take many told)
front_answers kept without strategies opened start steps told old new right opens outcomes replies many plain order =
    let front : List (out.Told Reply) = take many outcomes in
    let whole : InOrder opened (out.journal_of front) = (without.order opened (out.journal_of front)).1 (subst (InOrder opened) (journal_after opened front nothing) order) in
    let same : out.journal_of front ≡ journal_of (take many told) = outcomes_journal front ∙ ap (λ ts. journal_of ts) (map_take told_of many outcomes ∙ ap (λ ts. take many ts) replies) in
    (right.answers many opened start [] plain (kept.opened opened start (state_of [] old) opens) (subst (InOrder opened) same whole)).0

-- a tree that was opened over this store, and took these steps
pub lived : {F : Type 0} (May : Drops) (world : F → World) (strategies : Strategies) (was : F) (from : ℕ) (opened : List Entry) (start : Map) (steps : List Call) (told : List Told) (old : Point F) (is : F) (new : Core) (run : RunHasMoments world strategies steps told old is new)
    → ((levels : Levels) → Finds (world was).gives levels → opened ≡ held (placed_of levels)) → ((tables : Levels) → Finds (world was).gives tables → OpeningLeaves (world was) (world old.store) tables)
    → StepsAreLives May world opened start steps (outcomes_of steps told old run.points) old.store (map (λ p. p.store) run.points) → RisingIsInOrder Reply → OrderWithoutReads → HoldsIsKept → old.stage.core.seqno ≡ max from (above opened)
    → RunIsRight strategies steps told old.stage.core new → IsOpened opened start (state_of [] old.stage.core) → old.stage.core.lost ≡ None → IsStored (world old.store) (versions_left old.stage.core) (written_of old.stage.core) → LivesInOrder May world from start steps told was is
lived {F} May world strategies was from opened start steps told old is new run found opening lives rising without kept starts right opens certain stored =
    let outcomes : List (out.Told Reply) = outcomes_of steps told old run.points in
    let replies = told_same world strategies steps told old run.points run.ran in
    let low : above opened ≤ old.stage.core.seqno = let at = starts in omega (at, arith) in
    record {
      opened = opened;
      found = found;
      outcomes = outcomes;
      replies = replies;
      life = record { first = old.store; stores = map (λ p. p.store) run.points; ends = stores_end old run.points ∙ run.ends; opening = opening; lives = lives };
      counter = old.stage.core.seqno;
      starts = starts;
      counters = map (λ p. p.stage.core.seqno) run.points;
      uses = run.uses;
      in_order = front_in_order opened rising without steps outcomes old.stage.core.seqno (map (λ p. p.stage.core.seqno) run.points) low run.uses;
      answers = front_answers kept without strategies opened start steps told old.stage.core new right opens outcomes replies;
      leaves = λ many plain order n numbered.
          subst (λ (ss : List F). EachMoment (Reopens n) world opened start nothing (take many outcomes) old.store ss) (map_take (λ (p : Point F). p.store) many run.points)
          ((run.moments opened start nothing many plain (run.begins opened start opens certain stored) order).0 n numbered);
    }

-- A logged tree that came about goes on by acts, and what a crash leaves of it and in them.
use Rattle.std.proofs.Common.{◌≡◌, ℕ, ◌≤◌, true, List, [], ◌∷◌, ◌++◌, refl, sym, subst, arith, ◌⊎◌, ⊎_elim, None, inl}
use Rattle.std.specs.FinMap.{get}
use Rattle.lsm_below.specs.Entries.{Entry}
use Rattle.lsm_below.specs.Keys.{Bytes}
use Rattle.lsm_model.specs.Journal.{InOrder}
use Rattle.lsm_model.specs.Beginnings.{beginning, is_spared}
use Rattle.lsm_model.specs.Sound.{Holds}
use Rattle.lsm_model.specs.Soundness.{Soundness}
use Rattle.lsm_log_model.specs.Records.{LogImage, LogStands, logged, opened_by}
use Rattle.lsm_log_model.specs.Logs.{Logged as Log, LogIsSound, MayBeDrawn, Act, AllActs, MayLeave}
use Rattle.lsm_log_model.specs.Joins.{ActsJoin, CounterStaysAbove, LogStaysSound}
use Rattle.lsm_log_model.specs.Numbered.{AreBelow, LeftIsNumbered}
use Rattle.lsm_log_model.specs.Replays.{IsReopened}
use Rattle.lsm_log_model.specs.Recovery.{EveryCrashKeepsBatches, WholeIsLogged, LoggedReadsRight, LogRecovers}
use Rattle.lsm_log_model.proofs.Growth.{acts_order}
use Rattle.lsm_logged.specs.Acting.{DrawBelow}
use Rattle.lsm_log_runs.specs.CameAbout.{LogCameAbout}
use Rattle.lsm_log_runs.specs.Images.{HoldsPast}
use Rattle.lsm_log_runs.specs.Pasts.{LogPast, acknowledged, past_of}
use Rattle.lsm_log_runs.specs.Standing.{IsUnder}
use Rattle.lsm_log_runs.proofs.Under.{Bounds, raised, act_under, below_counter, left_under}

-- what the theory of the log knows
pub record Theory : Type 0 where
  pub sound : Soundness
  pub joins : ActsJoin
  pub counter : CounterStaysAbove
  pub stays : LogStaysSound
  pub crashes : EveryCrashKeepsBatches
  pub whole : WholeIsLogged
  pub reads : LoggedReadsRight
  pub numbered : LeftIsNumbered

module _ (theory : Theory) (image : LogImage) where
  abbrev opened : List Entry
  opened = opened_by image

  -- the journal of what was called is that of the tree
  pub tree_order : (past : LogPast) (t : Log) → past_of past.known past.begun t ≡ past → InOrder opened past.journal → InOrder opened t.tree.state.journal
  tree_order past t is order = subst (λ (p : LogPast). InOrder opened p.journal) (sym is) order

  pub came_order : (past : LogPast) (t : Log) → LogCameAbout image past t → InOrder opened t.tree.state.journal
  came_order past t came = tree_order past t came.past_is came.order

  -- ---- after acts

  pub goes_on : (past next : LogPast) (t new : Log) (acts : List Act) → LogCameAbout image past t → AllActs opened t acts new → InOrder opened next.journal → past_of next.known next.begun new ≡ next → (next.known ≡ true → (new.tree.others ≡ []) × (new.lost ≡ None))
      → LogCameAbout image next new
  goes_on past next t new acts came done order is certain = record {
    stands = came.stands;
    first = came.first;
    reopened = came.reopened;
    acts = came.acts ++ acts;
    done = (theory.joins.both opened came.first t new came.acts acts came.done done).0;
    order = order;
    past_is = is;
    certain = certain;
  }

  -- a counter that is past all that they drew stays above all, also above what has unknown outcome
  stays_above : (first t new : Log) (earlier acts : List Act) (c d : ℕ) → LogStands image → IsReopened image first → AllActs opened first earlier t → (done : AllActs opened t acts new) → InOrder opened new.tree.state.journal → Bounds opened t c → c ≤ d → DrawBelow d opened t acts new done
      → Bounds opened new d
  stays_above first t new earlier [] c d stands reopened ran done order bounds le drawn = (theory.counter.later opened new c d le (subst (λ (x : Log). MayBeDrawn opened x c) (sym done) bounds.0), raised new c d le (subst (IsUnder c) (sym done) bounds.1))
  stays_above first t new earlier (act ∷ acts) c d stands reopened ran done order bounds le drawn =
      let mid = done.0 in
      let in_order = acts_order theory.sound opened mid acts new done.2 order in
      let holds = (theory.reads image first t earlier stands reopened ran (acts_order theory.sound opened t (act ∷ acts) new done order)).0 in
      let one = theory.counter.act image first t mid earlier act c d stands reopened ran done.1 in_order bounds.0 le drawn.0 in
      let low = act_under opened (logged image) t act mid c d done.1 holds bounds.0 le drawn.0 bounds.1 in
      stays_above first mid new (earlier ++ act ∷ []) acts d d stands reopened (theory.joins.both opened first t mid earlier (act ∷ []) ran (mid, done.1, refl)).0 done.2 order (one, low) (omega arith) drawn.1

  pub counter_on : (past next : LogPast) (t new : Log) (acts : List Act) (c d : ℕ) → LogCameAbout image past t → (done : AllActs opened t acts new) → past_of next.known next.begun new ≡ next → InOrder opened next.journal → Bounds opened t c → c ≤ d → DrawBelow d opened t acts new done
      → Bounds opened new d
  counter_on past next t new acts c d came done is order bounds le drawn = stays_above came.first t new came.acts acts c d came.stands came.reopened came.done done (tree_order next new is order) bounds le drawn

  -- ---- what is left

  pub log_sound : (past : LogPast) (t : Log) → LogCameAbout image past t → LogIsSound t
  log_sound past t came = theory.stays image came.first t came.acts came.stands came.reopened came.done (came_order past t came)

  -- in acts a crash leaves a beginning that holds what was acknowledged before them
  left_recovers : (past next : LogPast) (t new : Log) (acts : List Act) (left : LogImage) → LogCameAbout image past t → AllActs opened t acts new → past_of next.known next.begun new ≡ next → InOrder opened next.journal → MayLeave t left ⊎ MayLeave new left
      → LogRecovers (logged image) next.journal next.notes next.lost (acknowledged past) left
  left_recovers past next t new acts left came done is order may =
      let recovers = theory.crashes image came.first t new came.acts acts came.stands came.reopened came.done done (tree_order next new is order) left (theory.joins.ends left opened t new acts done may) in
      subst (λ (p : LogPast). LogRecovers (logged image) next.journal next.notes next.lost (acknowledged p) left) came.past_is
      (subst (λ (p : LogPast). LogRecovers (logged image) p.journal p.notes p.lost (acknowledged (past_of past.known past.begun t)) left) is recovers)

  pub left_stands : (past : LogPast) (t : Log) (left : LogImage) → LogCameAbout image past t → MayLeave t left → LogStands left
  left_stands past t left came may = (left_recovers past past t t [] left came refl came.past_is came.order (inl may)).stands

  -- and it is numbered as they are, and below the place of the counter
  pub left_inside : (past next : LogPast) (t new : Log) (acts : List Act) (c d : ℕ) (left : LogImage) → LogCameAbout image past t → Bounds opened t c → Bounds opened new d → c ≤ d → AllActs opened t acts new → past_of next.known next.begun new ≡ next → InOrder opened next.journal → MayLeave t left ⊎ MayLeave new left
      → HoldsPast opened (logged image) next (acknowledged past) d left
  left_inside past next t new acts c d left came before bounds le done is order may =
      let ends = theory.joins.ends left opened t new acts done may in
      let numbered = theory.numbered image came.first t new came.acts acts came.stands came.reopened came.done done (tree_order next new is order) in
      let low = numbered d (below_counter opened new d bounds) left ends in
      record {
        recovers = left_recovers past next t new acts left came done is order may;
        numbered = λ n below. numbered n (subst (λ (p : LogPast). AreBelow n opened p.journal p.lost) (sym is) below) left ends;
        under = ⊎_elim
            (λ (i : MayLeave t left). left_under opened t d (theory.counter.later opened t c d le before.0, raised t c d le before.1) left i low)
            (λ (i : MayLeave new left). left_under opened new d bounds left i low)
            may;
      }

  -- and after them all that is acknowledged then
  pub left_now : (past : LogPast) (t : Log) (c : ℕ) (left : LogImage) → LogCameAbout image past t → Bounds opened t c → MayLeave t left → HoldsPast opened (logged image) past (acknowledged past) c left
  left_now past t c left came bounds may = left_inside past past t t [] c c left came bounds bounds (omega arith) refl came.past_is came.order (inl may)

  pub left_whole : (past : LogPast) (t : Log) (left : LogImage) → LogCameAbout image past t → past.known ≡ true → MayLeave t left → (k : Bytes) → is_spared k past.journal [] ≡ true → get (logged left) k ≡ get (beginning (logged image) past.journal) k
  left_whole past t left came known may =
      subst (λ (p : LogPast). (k : Bytes) → is_spared k p.journal [] ≡ true → get (logged left) k ≡ get (beginning (logged image) p.journal) k) came.past_is
      (theory.whole image came.first t came.acts came.stands came.reopened came.done (came_order past t came) (came.certain known) left may)

  -- ---- reads

  pub holds_on : (past : LogPast) (t : Log) → LogCameAbout image past t → Holds opened (logged image) t.tree.state
  holds_on past t came = (theory.reads image came.first t came.acts came.stands came.reopened came.done (came_order past t came)).0

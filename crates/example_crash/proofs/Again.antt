-- A life on a new store in memory, its end by a crash or without one, and a life on what it left.
use Rattle.std.proofs.Common.{◌≡◌, ℕ, ◌+◌, ◌<◌, ◌≤◌, ◌^◌, max, arith, List, [], codes, map, length, OnOk, refl, sym, ap, ◌∙◌, subst}
use Rattle.std.specs.FinMap.{empty}
use Rattle.lsm_runs.specs.Each.{each_weaker}
use Rattle.lsm_runs.specs.Entries.{Entry, above}
use Rattle.lsm_runs.specs.Memory.{MemStore, may_of, world_of}
use Rattle.lsm_runs.specs.World.{Image, IsImage, Begins}
use Rattle.lsm_store.proofs.Memories.{gives_now}
use Rattle.lsm_runs.specs.Journal.{Map, next_number}
use Rattle.lsm_runs.specs.Views.{held}
use Rattle.lsm_runs.specs.Levels.{Levels, empty_levels, placed_of}
use Rattle.lsm_runs.specs.Names.{current_name}
use Rattle.lsm_runs.specs.Finding.{Finds, Nothing, StandsForMap, FoundOnce}
use Rattle.lsm_runs.specs.Ready.{IsReady}
use Rattle.lsm_manifest.proofs.FindingLemmas.{nothing_stands, nothing_in as none}
use Rattle.lsm_runs.specs.Rising.{At, highest}
use Rattle.lsm_runs.specs.declared.steps.Step.{Step}
use Rattle.lsm_runs.specs.declared.steps.Taken.{Taken}
use Rattle.lsm_runs.specs.Causes.{ReplyBlames}
use Rattle.lsm_runs.specs.Drawing.{drawing_of}
use Rattle.lsm_runs.specs.Dropping.{Drops}
use Rattle.lsm_runs.specs.Runs.{journal_of}
use Rattle.lsm_runs.specs.Told.{Told}
use Rattle.example_crash.specs.Single.{KeepsOrder, KeepsOrderAbove, MayBeOpened, HasLived, ComesAfter}
use Rattle.example_crash.specs.Survival.{EachDraws, steps_taken, LivesOver, Survives}
use Rattle.example_crash.proofs.Blames.{blamed}
use Rattle.example_crash.proofs.Drawn.{each_draws}
use Rattle.example_crash.proofs.Orders.{first_keeps, first_highest, above_keeps}

-- ---- stores that are opened

abbrev pub Settles : Type 0
Settles = (store : MemStore) (image : Image) (m : Map) → StandsForMap image m → Begins image (world_of store) → IsReady (world_of store)

abbrev pub Stands : Type 0
Stands = (store : MemStore) (image : Image) (m : Map) → StandsForMap image m → Begins image (world_of store) → StandsForMap (world_of store).gives m

-- a new one stands for nothing
pub opens_new : Settles → Stands → (store : MemStore) → Begins none (world_of store) → MayBeOpened store empty
opens_new ready stands store new = record { ready = ready store none empty nothing_stands new; stands = stands store none empty nothing_stands new }

finds_new : (was : MemStore) → Begins none (world_of was) → Finds (world_of was).gives empty_levels
finds_new was new = Nothing (new.gives current_name) (record { no_version = new.gives (codes "version"); in_tables = λ name refused. new.gives name }) refl

pub small_new : FoundOnce → (was : MemStore) → Begins none (world_of was) → (levels : Levels) → Finds (world_of was).gives levels → above (held (placed_of levels)) ≤ 2 ^ 63
small_new once was new levels finds = subst (λ ls. above (held (placed_of ls)) ≤ 2 ^ 63) (once (world_of was).gives empty_levels levels (finds_new was new) finds) (omega arith)

-- what a crash left
module _ (is left : MemStore) (image : Image) (may : IsImage (may_of is.files) image) (begins : Begins image (world_of left)) where
  gives_left : IsImage (may_of is.files) (world_of left).gives
  gives_left = λ n. subst (may_of is.files n) (sym (begins.gives n)) (may n)

  begins_itself : Begins (world_of left).gives (world_of left)
  begins_itself = record {
    gives = λ n. refl;
    may = λ n c. (λ h. (begins.may n c).0 h ∙ sym (begins.gives n), λ e. (begins.may n c).1 (e ∙ begins.gives n));
    moment = begins.moment;
    failures = begins.failures;
  }

-- ---- after a life

module _ (May : Drops) (m : Map) (was : MemStore) (from : ℕ) (steps : List Step) (told : List Told) (is : MemStore) (h : HasLived May m was from steps told is) (k : KeepsOrder h.lives.opened h.lives.counter steps) where
  pub comes_ended : ComesAfter h.lives.opened m h.lives.outcomes (next_number h.lives.opened (journal_of told)) is
  comes_ended =
      let kept = h.leaves k (world_of is).gives (gives_now is) in
      record { left = kept.0; opens = record { ready = h.ready; stands = kept.1.stands }; kept = kept.2; below = h.below k (world_of is).gives (gives_now is); small = kept.1.below }

  pub comes_crashed : Settles → (image : Image) (left : MemStore) → IsImage (may_of is.files) image → Begins image (world_of left) → ComesAfter h.lives.opened m h.lives.outcomes (next_number h.lives.opened (journal_of told)) left
  comes_crashed settles image left may begins =
      let gives = gives_left is left image may begins in
      let kept = h.leaves k (world_of left).gives gives in
      record {
        left = kept.0;
        opens = record { ready = settles left (world_of left).gives kept.0 kept.1.stands (begins_itself is left image may begins); stands = kept.1.stands };
        kept = kept.2;
        below = h.below k (world_of left).gives gives;
        small = kept.1.below;
      }

abbrev pub over : (May : Drops) (m : Map) (was : MemStore) (from : ℕ) (steps : List Step) (taken : Taken) (is : MemStore) (h : HasLived May m was from (steps_taken steps taken) taken.outcomes.items is) → KeepsOrder h.lives.opened h.lives.counter (steps_taken steps taken) → OnOk taken.ended (length taken.outcomes.items ≡ length steps)
    → (least : ℕ) → above h.lives.opened ≤ least → (failures : ℕ) → (0 < is.failures → 0 < failures) → LivesOver May m from least steps taken failures
over May m was from steps taken is h k all least found failures more =
    let l = h.lives in
    let told = taken.outcomes.items in
    record {
      all = all;
      opened = l.opened;
      found = found;
      outcomes = l.outcomes;
      replies = l.replies;
      tells = h.tells k;
      counters = l.counters;
      draws = subst (λ n. EachDraws n l.counters (steps_taken steps taken) told) l.starts (subst (λ ts. EachDraws l.counter l.counters (steps_taken steps taken) ts) l.replies (each_draws (steps_taken steps taken) l.outcomes l.counter l.counters l.uses));
      answers = h.reads k;
      reasons = each_weaker (λ t. ReplyBlames t.reply → 0 < is.failures) (λ t. ReplyBlames t.reply → 0 < failures) (λ t has blames. more (has blames)) told (blamed told was is h.causes);
    }

-- ---- on a new store

module _ (May : Drops) (was : MemStore) (from : ℕ) (steps : List Step) (told : List Told) (is : MemStore) (new : Begins none (world_of was)) (h : HasLived May empty was from steps told is) where
  opened_none : h.lives.opened ≡ []
  opened_none = h.lives.found empty_levels (finds_new was new)

  -- nothing is found, so that the counter stands where it was put
  pub new_counter : h.lives.counter ≡ from
  new_counter = let starts = h.lives.starts in let none_above = ap above opened_none in omega (arith, starts, none_above)

  pub new_keeps : (list : List Step) → KeepsOrder [] from list → KeepsOrder h.lives.opened h.lives.counter list
  new_keeps list k = subst (λ (es : List Entry). KeepsOrder es h.lives.counter list) (sym opened_none) (subst (λ (n : ℕ). KeepsOrder [] n list) (sym new_counter) k)

-- where the caller's own numbers rise, those of a first life do, and so do those of one that starts above them
module _ (May : Drops) (was : MemStore) (from : ℕ) (first : List Step) (before : Taken) (is : MemStore) (new : Begins none (world_of was)) (h : HasLived May empty was from (steps_taken first before) before.outcomes.items is) (order : KeepsOrder [] from first) where
  pub new_takes : KeepsOrder h.lives.opened h.lives.counter (steps_taken first before)
  new_takes = first_keeps h.lives.opened h.lives.counter (length before.outcomes.items) first (new_keeps May was from (steps_taken first before) before.outcomes.items is new h first order)

  pub above_takes : (again : ℕ) (opened : List Entry) (counter : ℕ) (second : List Step) (after : Taken) → above opened ≤ next_number h.lives.opened (journal_of before.outcomes.items) → counter ≡ max again (above opened) → KeepsOrderAbove (highest (At from) (map drawing_of first)) again second → KeepsOrder opened counter (steps_taken second after)
  above_takes again opened counter second after low starts over =
      let most = ap (λ n. highest (At n) (map drawing_of (steps_taken first before))) (new_counter May was from (steps_taken first before) before.outcomes.items is new h) in
      let least = first_highest (length before.outcomes.items) first (above []) (At from) order.rise.numbers in
      let used = h.rises new_takes in
      first_keeps opened counter (length after.outcomes.items) second (above_keeps (highest (At from) (map drawing_of first)) again opened counter second (omega (arith, low, used, most, least)) starts over)

module _ (May : Drops) (was : MemStore) (from : ℕ) (first : List Step) (before : Taken) (is : MemStore) (new : Begins none (world_of was)) (h : HasLived May empty was from (steps_taken first before) before.outcomes.items is) (k : KeepsOrder h.lives.opened h.lives.counter (steps_taken first before))
    (all : OnOk before.ended (length before.outcomes.items ≡ length first)) where
  abbrev over_new : (failures : ℕ) → (0 < is.failures → 0 < failures) → LivesOver May empty from 0 first before failures
  over_new failures more = over May empty was from first before is h k all 0 (subst (λ (es : List Entry). above es ≤ 0) (sym (opened_none May was from (steps_taken first before) before.outcomes.items is new h)) (omega arith)) failures more

  pub over_nothing : LivesOver May empty from 0 first before is.failures
  over_nothing = over_new is.failures (λ some. some)

  -- and a life on what it left
  pub survives : (next : MemStore) (c : ComesAfter h.lives.opened empty h.lives.outcomes (next_number h.lives.opened (journal_of before.outcomes.items)) next) (again : ℕ) (second : List Step) (after : Taken) (last : MemStore) → ((m : Map) → MayBeOpened next m → HasLived May m next again (steps_taken second after) after.outcomes.items last)
      → ((m : Map) (l : HasLived May m next again (steps_taken second after) after.outcomes.items last) → above l.lives.opened ≤ next_number h.lives.opened (journal_of before.outcomes.items) → KeepsOrder l.lives.opened l.lives.counter (steps_taken second after)) → OnOk after.ended (length after.outcomes.items ≡ length second)
      → (failures : ℕ) → (0 < is.failures → 0 < failures) → Survives May from first before failures again second after last.failures
  survives next c again second after last lives keeps whole failures more =
      let l = lives c.left c.opens in
      let levels = c.opens.stands.levels in
      let found = ap above (l.lives.found levels c.opens.stands.found) in
      let low = c.below levels c.opens.stands.found in
      let few : above l.lives.opened ≤ next_number h.lives.opened (journal_of before.outcomes.items) = omega (arith, found, low) in
      record {
        over_nothing = over_new failures more;
        left = c.left;
        kept = c.kept;
        over_left = over May c.left next again second after last l (keeps c.left l few) whole (next_number [] (journal_of before.outcomes.items))
            (subst (λ (es : List Entry). above l.lives.opened ≤ next_number es (journal_of before.outcomes.items)) (opened_none May was from (steps_taken first before) before.outcomes.items is new h) few) last.failures (λ some. some);
      }

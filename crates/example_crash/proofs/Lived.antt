-- What was taken step by step is a life, as a run of all of it is one.
use Rattle.std.proofs.Common.{◌≡◌, ℕ, zero, suc, ◌+◌, ◌^◌, max, arith, List, [], ◌∷◌, ◌++◌, map, take, length, refl, sym, ap, ◌∙◌, subst}
use Rattle.std.specs.List.{AllByRecursion}
use Rattle.lsm_runs.specs.Each.{each_left}
use Rattle.lsm_runs.specs.Entries.{Entry, above}
use Rattle.lsm_runs.specs.World.{World}
use Rattle.lsm_runs.specs.Journal.{Event, Map, InOrder}
use Rattle.lsm_runs.specs.Core.{Core}
use Rattle.lsm_runs.specs.Composing.{AreNumbered}
use Rattle.lsm_runs.specs.Outcomes.{Past, nothing, after, after_all, without_low_reads}
use Rattle.lsm_runs.specs.Outcomes as out
use Rattle.lsm_runs.specs.Rising.{At, RisesFrom, RisingIsInOrder, OrderWithoutReads}
use Rattle.lsm_runs.specs.declared.steps.Step.{Step}
use Rattle.lsm_runs.specs.declared.steps.Reply.{Reply}
use Rattle.lsm_runs.specs.Drawing.{asks_of}
use Rattle.lsm_runs.specs.Dropping.{Drops}
use Rattle.lsm_runs.specs.Lives.{StepsAreLives, Rise, LivesInOrder, told_of}
use Rattle.lsm_runs.specs.Runs.{IsPlainUse, journal_of, EachAnswers}
use Rattle.lsm_runs.specs.Told.{Told}
use Rattle.lsm_runs.proofs.RunLives.{front_in_order, journal_after, map_take, length_front, front_ready, last_ready}
use Rattle.lsm_runs.proofs.Uses.{drawings}
use Rattle.example_crash.specs.SoFar.{SoFar}
use Rattle.example_crash.proofs.Growing.{all_of, length_map}
use Rattle.example_crash.proofs.Taking.{IsSmall}

-- ---- what holds of all that was written

before_all : (opened : List Entry) (P : Event → Type 0) (outcomes : List (out.Told Reply)) (past : Past) → AllByRecursion P (after_all opened past outcomes).journal → AllByRecursion P past.journal
before_all opened P [] past h = h
before_all opened P (o ∷ outcomes) past h = each_left P past.journal (without_low_reads opened o.entries) (before_all opened P outcomes (after opened past o) h)

all_front : (opened : List Entry) (P : Event → Type 0) (many : ℕ) (outcomes : List (out.Told Reply)) (past : Past) → AllByRecursion P (after_all opened past outcomes).journal → AllByRecursion P (after_all opened past (take many outcomes)).journal
all_front opened P zero outcomes past h = before_all opened P outcomes past h
all_front opened P (suc many) [] past h = h
all_front opened P (suc many) (o ∷ outcomes) past h = all_front opened P many outcomes (after opened past o) h

journal_same : (outcomes : List (out.Told Reply)) → out.journal_of outcomes ≡ journal_of (map told_of outcomes)
journal_same [] = refl
journal_same (o ∷ outcomes) = ap (λ es. o.entries ++ es) (journal_same outcomes)

module _ {F : Type 0} (May : Drops) (world : F → World) (m : Map) (was : F) (opened : List Entry) (counter : ℕ) (steps : List Step) (told : List Told) (is : F) (now : Core) (s : SoFar May world m was opened counter steps told is now) where
  numbered_front : (many : ℕ) → AreNumbered (2 ^ 63) opened (after_all opened nothing (take many s.outcomes)).journal
  numbered_front many = record { before = s.numbered.before; written = all_front opened IsSmall many s.outcomes nothing s.numbered.written }

  pub are_lives : StepsAreLives May world opened m steps s.outcomes s.first s.stores
  are_lives many answered end plain order ends all =
      let along = s.along many plain order in
      let few = length_front many s.stores in
      record {
        life = record {
          opened = opened;
          told = take many s.outcomes;
          known = record { starts = s.starts; steps = take many steps; plain = plain; tells = along.1; order = order };
          first = s.first;
          stores = take many s.stores;
          moments = along.0 (2 ^ 63) (numbered_front many);
          answered = answered;
          ended = ends;
          ready = λ kill. last_ready world answered s.first (take many s.stores) (let last = all kill in omega (few, last, arith)) (front_ready world many s.first s.stores s.ready);
        };
        opened_with = refl;
        took = refl;
        told = refl;
        answered = refl;
      }

  -- where the first so many are in order, each answers what the replay does
  pub front_answers : OrderWithoutReads → (many : ℕ) → IsPlainUse (take many steps) → InOrder opened (after_all opened nothing (take many s.outcomes)).journal → EachAnswers opened m [] (take many steps) (take many told)
  front_answers without many plain order =
      let front : List (out.Told Reply) = take many s.outcomes in
      let whole : InOrder opened (out.journal_of front) = (without.order opened (out.journal_of front)).1 (subst (InOrder opened) (journal_after opened front nothing) order) in
      let same : out.journal_of front ≡ journal_of (take many told) = journal_same front ∙ ap (λ ts. journal_of ts) (map_take told_of many s.outcomes ∙ ap (λ ts. take many ts) s.replies) in
      s.answers many plain (subst (InOrder opened) same whole)

  abbrev pub lived : RisingIsInOrder Reply → OrderWithoutReads → (from : ℕ) → counter ≡ max from (above opened) → LivesInOrder May world from m steps told was is
  lived rising without from starts = record {
    opened = opened;
    found = s.found;
    outcomes = s.outcomes;
    replies = s.replies;
    life = record { first = s.first; stores = s.stores; ends = s.ends; opening = s.opening; lives = are_lives };
    counter = counter;
    starts = starts;
    counters = s.counters;
    uses = s.uses;
    in_order = front_in_order opened rising without steps s.outcomes counter s.counters s.above_found s.uses;
    answers = front_answers without;
    leaves = λ many plain order. (s.along many plain order).0;
  }

  -- where numbers rise, each answers what the replay does
  pub answered : RisingIsInOrder Reply → IsPlainUse steps → Rise opened counter steps → EachAnswers opened m [] steps told
  answered rising plain rise =
      let numbers = subst (λ ds. RisesFrom (above opened) (At counter) ds) (drawings steps) rise.numbers in
      let order = (rising opened [] (map asks_of steps) s.outcomes counter (above opened) (At counter) [] s.counters (record { order = tt; counted = s.above_found; used = omega arith; sets = λ k. omega arith }) refl numbers rise.weak s.uses).order in
      let same : out.journal_of s.outcomes ≡ journal_of told = journal_same s.outcomes ∙ ap (λ ts. journal_of ts) s.replies in
      let many : length told ≡ length steps = sym (ap (λ ts. length ts) s.replies) ∙ length_map told_of s.outcomes ∙ s.many_outcomes in
      all_of (λ xs ts us. IsPlainUse xs → InOrder opened (journal_of ts) → EachAnswers opened m [] xs ts) steps told told many many s.answers plain (subst (InOrder opened) same order)

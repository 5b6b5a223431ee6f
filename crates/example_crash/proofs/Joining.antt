-- One step more, after those so far.
use Rattle.std.proofs.Common.{◌≡◌, ℕ, ◌+◌, ◌<◌, ◌≤◌, ◌^◌, arith, List, [], ◌∷◌, ◌++◌, None, map, length, refl, sym, ap, ◌∙◌, subst, append-nil, append_assoc}
use Rattle.lsm_runs.specs.Each.{each_append, each_left, each_filter}
use Rattle.lsm_runs.specs.Entries.{Entry, above}
use Rattle.lsm_runs.specs.World.{World}
use Rattle.lsm_runs.specs.Counted.{OfWrite}
use Rattle.lsm_runs.specs.Journal.{Event, Map, InOrder}
use Rattle.lsm_runs.specs.Sound.{Holds}
use Rattle.lsm_runs.specs.Soundness.{HoldsIsKept}
use Rattle.lsm_runs.specs.Steps.{IsOpened}
use Rattle.lsm_runs.specs.Views.{held}
use Rattle.lsm_runs.specs.Levels.{Levels, placed_of}
use Rattle.lsm_runs.specs.Finding.{Finds}
use Rattle.lsm_runs.specs.Ready.{OpeningLeaves}
use Rattle.lsm_runs.specs.Stored.{IsStored}
use Rattle.lsm_runs.specs.Core.{Core, state_of, versions_left, written_of}
use Rattle.lsm_runs.specs.Composing.{AreNumbered}
use Rattle.lsm_runs.specs.Following.{MomentsJoin}
use Rattle.lsm_run_model.specs.Moments.{EachMoment, last_of}
use Rattle.lsm_runs.specs.Outcomes.{Past, nothing, after, after_all, is_no_low_read, without_low_reads}
use Rattle.lsm_runs.specs.Outcomes as out
use Rattle.lsm_runs.specs.Rising.{Asks, EachUses}
use Rattle.lsm_runs.specs.declared.steps.Step.{Step}
use Rattle.lsm_runs.specs.declared.steps.Step.TheVariants.{ClearActiveMemtable}
use Rattle.lsm_runs.specs.declared.steps.Reply.{Reply}
use Rattle.lsm_runs.specs.After.{RunIsRight}
use Rattle.lsm_runs.specs.Chains.{Point, RanAlong}
use Rattle.lsm_runs.specs.Compacting.{Strategies}
use Rattle.lsm_runs.specs.Drawing.{asks_of}
use Rattle.lsm_runs.specs.Files.{StaysStored}
use Rattle.lsm_runs.specs.Lives.{told_of}
use Rattle.lsm_runs.specs.Moments.{Reopens, StandsAfter, EachReady, HasMoments, GoesOn, RunHasMoments}
use Rattle.lsm_runs.specs.Dropping.{Drops}
use Rattle.lsm_runs.specs.Notes.{EachTells}
use Rattle.lsm_runs.specs.OpenFlushes.{BegunFlush, none_begun}
use Rattle.lsm_runs.specs.Runs.{IsPlainUse, EachAnswers, journal_of}
use Rattle.lsm_runs.specs.Slots.{Closes}
use Rattle.lsm_runs.specs.Told.{Told}
use Rattle.example_crash.specs.SoFar.{LivesAlong, AnswersSo, SoFar}
use Rattle.example_crash.proofs.Growing.{fronts, all_of, none_of, map_more, length_more, length_map, last_more, in_front, in_back}
use Rattle.example_crash.proofs.Taking.{IsSmall, outcome, here, TookOne}

-- ---- along lists that grow by one

after_more : (opened : List Entry) (outcomes : List (out.Told Reply)) (past : Past) (o : out.Told Reply) → after_all opened past (outcomes ++ o ∷ []) ≡ after opened (after_all opened past outcomes) o
after_more opened [] past o = refl
after_more opened (p ∷ outcomes) past o = after_more opened outcomes (after opened past p) o

uses_more : (calls : List Asks) (outcomes : List (out.Told Reply)) (call : Asks) (o : out.Told Reply) (old : ℕ) (counters : List ℕ) (new : ℕ) → EachUses calls outcomes old counters → EachUses (call ∷ []) (o ∷ []) (last_of old counters) (new ∷ [])
    → EachUses (calls ++ call ∷ []) (outcomes ++ o ∷ []) old (counters ++ new ∷ [])
uses_more [] [] call o old [] new u v = v
uses_more (c ∷ calls) (p ∷ outcomes) call o old (mid ∷ counters) new u v = (u.0, u.1, uses_more calls outcomes call o mid counters new u.2 v)
uses_more calls outcomes call o old counters new u v = absurd u

ready_more : {F : Type 0} (world : F → World) (was : F) (stores : List F) (is : F) → EachReady world was stores → EachReady world (last_of was stores) (is ∷ []) → EachReady world was (stores ++ is ∷ [])
ready_more world was [] is h k = k
ready_more world was (s ∷ stores) is h k = (h.0, h.1, ready_more world s stores is h.2 k)

tells_more : (May : Drops) (opened : List Entry) (past : Past) (begun : ℕ → BegunFlush) (steps : List Step) (outcomes : List (out.Told Reply)) (x : Step) (o : out.Told Reply) → EachTells May opened past begun steps outcomes
    → ((begun : ℕ → BegunFlush) → EachTells May opened (after_all opened past outcomes) begun (x ∷ []) (o ∷ [])) → EachTells May opened past begun (steps ++ x ∷ []) (outcomes ++ o ∷ [])
tells_more May opened past begun [] [] x o h k = k begun
tells_more May opened past begun (y ∷ steps) (p ∷ outcomes) x o h k = (h.0, h.1, tells_more May opened (after opened past p) _ steps outcomes x o h.2 k)
tells_more May opened past begun steps outcomes x o h k = absurd h

journal_more : (told : List Told) (t : Told) → journal_of (told ++ t ∷ []) ≡ journal_of told ++ journal_of (t ∷ [])
journal_more [] t = refl
journal_more (u ∷ told) t = ap (λ es. u.entries ++ es) (journal_more told t) ∙ sym (append_assoc u.entries (journal_of told) (journal_of (t ∷ [])))

answers_more : (opened : List Entry) (start : Map) (before : List Event) (steps : List Step) (told : List Told) (x : Step) (t : Told) → length told ≡ length steps → EachAnswers opened start before steps told
    → EachAnswers opened start (before ++ journal_of told) (x ∷ []) (t ∷ []) → EachAnswers opened start before (steps ++ x ∷ []) (told ++ t ∷ [])
answers_more opened start before [] [] x t e h k = subst (λ b. EachAnswers opened start b (x ∷ []) (t ∷ [])) (append-nil before) k
answers_more opened start before (y ∷ steps) (u ∷ told) x t e h k =
    (h.0, answers_more opened start (before ++ u.entries) steps told x t (omega (e, arith)) h.1 (subst (λ b. EachAnswers opened start b (x ∷ []) (t ∷ [])) (sym (append_assoc before u.entries (journal_of told))) k))
answers_more opened start before [] (u ∷ told) x t e h k = absurd (omega (e, arith))
answers_more opened start before (y ∷ steps) [] x t e h k = absurd (omega (e, arith))

module _ {F : Type 0} (May : Drops) (world : F → World) (join : (n : ℕ) → MomentsJoin Reply (Reopens n) world) (kept : HoldsIsKept) where
  -- ---- one step more

  module _ (m : Map) (was : F) (opened : List Entry) (counter : ℕ) (steps : List Step) (told : List Told) (is : F) (now : Core) (s : SoFar May world m was opened counter steps told is now) (x : Step) (t : Told) (next : F) (new : Core) (one : TookOne May world x t is next now new) where
    abbrev o : out.Told Reply
    o = outcome x t now

    abbrev past : Past
    past = after_all opened nothing s.outcomes

    abbrev Along : List Step → List (out.Told Reply) → List F → Type 0
    Along xs os ss = LivesAlong May world opened m xs os s.first ss

    plain_before : IsPlainUse (steps ++ x ∷ []) → IsPlainUse steps
    plain_before plain i = plain (in_front ClearActiveMemtable steps (x ∷ []) i)

    plain_one : IsPlainUse (steps ++ x ∷ []) → IsPlainUse (x ∷ [])
    plain_one plain i = plain (in_back ClearActiveMemtable steps (x ∷ []) i)

    in_order : InOrder opened (after_all opened nothing (s.outcomes ++ o ∷ [])).journal → InOrder opened (after opened past o).journal
    in_order order = subst (λ (p : Past). InOrder opened p.journal) (after_more opened s.outcomes nothing o) order

    before : InOrder opened (after opened past o).journal → InOrder opened past.journal
    before order = kept.front opened past.journal (without_low_reads opened t.entries) order

    numbered : AreNumbered (2 ^ 63) opened (after opened past o).journal
    numbered = record { before = s.numbered.before; written = each_append IsSmall past.journal (without_low_reads opened t.entries) s.numbered.written (each_filter IsSmall (is_no_low_read opened) t.entries one.small) }

    numbered_before : (n : ℕ) → AreNumbered n opened (after opened past o).journal → AreNumbered n opened past.journal
    numbered_before n low = record { before = low.before; written = each_left (λ y. OfWrite (λ e. e.key.seqno < n) y) past.journal (without_low_reads opened t.entries) low.written }

    many_told : length told ≡ length steps
    many_told = sym (ap (λ ts. length ts) s.replies) ∙ length_map told_of s.outcomes ∙ s.many_outcomes

    along : Along (steps ++ x ∷ []) (s.outcomes ++ o ∷ []) (s.stores ++ next ∷ [])
    along plain order =
        let order' = in_order order in
        let there = s.stands (plain_before plain) (before order') in
        let old = all_of Along steps s.outcomes s.stores s.many_outcomes s.many_stores s.along (plain_before plain) (before order') in
        let e = after_more opened s.outcomes nothing o in (
          (λ n low.
              let low' : AreNumbered n opened (after opened past o).journal = subst (λ (p : Past). AreNumbered n opened p.journal) e low in
              let moments = one.moments opened m past (plain_one plain) there order' n low' in
              (join n).join opened m nothing s.outcomes (o ∷ []) s.first s.stores (next ∷ []) (old.0 n (numbered_before n low')) (subst (λ (f : F). EachMoment (Reopens n) world opened m past (o ∷ []) f (next ∷ [])) (sym s.ends) moments)),
          tells_more May opened nothing none_begun steps s.outcomes x o old.1 (one.tells opened m past (plain_one plain) there order'),
        )

    right : IsPlainUse (steps ++ x ∷ []) → InOrder opened (journal_of (told ++ t ∷ [])) → EachAnswers opened m (journal_of told) (x ∷ []) (t ∷ []) × Holds opened m (state_of (without_low_reads opened (journal_of (told ++ t ∷ []))) new)
    right plain order =
        let e = journal_more told t in
        let order' : InOrder opened (journal_of told ++ journal_of (t ∷ [])) = subst (InOrder opened) e order in
        let h = one.goes_on opened m (journal_of told) (plain_one plain) (s.holds (plain_before plain) (kept.front opened (journal_of told) (journal_of (t ∷ [])) order')) order' in
        (h.0, subst (λ es. Holds opened m (state_of (without_low_reads opened es) new)) (sym e) h.1)

    answers : AnswersSo opened m (steps ++ x ∷ []) (told ++ t ∷ [])
    answers plain order =
        let order' : InOrder opened (journal_of told ++ journal_of (t ∷ [])) = subst (InOrder opened) (journal_more told t) order in
        let old = all_of (λ xs ts (us : List Told). AnswersSo opened m xs ts) steps told told many_told many_told s.answers (plain_before plain) (kept.front opened (journal_of told) (journal_of (t ∷ [])) order') in
        answers_more opened m [] steps told x t many_told old (right plain order).0

    pub one_more : SoFar May world m was opened counter (steps ++ x ∷ []) (told ++ t ∷ []) next new
    one_more = record {
      found = s.found;
      starts = s.starts;
      above_found = s.above_found;
      first = s.first;
      opening = s.opening;
      outcomes = s.outcomes ++ o ∷ [];
      stores = s.stores ++ next ∷ [];
      counters = s.counters ++ one.counter ∷ [];
      replies = map_more told_of s.outcomes o ∙ ap (λ ts. ts ++ t ∷ []) s.replies;
      many_outcomes = length_more s.outcomes o ∙ ap (λ n. n + 1) s.many_outcomes ∙ sym (length_more steps x);
      many_stores = length_more s.stores next ∙ ap (λ n. n + 1) s.many_stores ∙ sym (length_more steps x);
      ends = last_more s.first s.stores next;
      uses = subst (λ (calls : List Asks). EachUses calls (s.outcomes ++ o ∷ []) counter (s.counters ++ one.counter ∷ [])) (sym (map_more asks_of steps x))
          (uses_more (map asks_of steps) s.outcomes (asks_of x) o counter s.counters one.counter s.uses (subst (λ (n : ℕ). EachUses (asks_of x ∷ []) (o ∷ []) n (one.counter ∷ [])) (sym s.counts) one.uses));
      counts = last_more counter s.counters one.counter ∙ one.counts;
      numbered = subst (λ (p : Past). AreNumbered (2 ^ 63) opened p.journal) (sym (after_more opened s.outcomes nothing o)) numbered;
      ready = ready_more world s.first s.stores next s.ready (subst (λ (f : F). EachReady world f (next ∷ [])) (sym s.ends) (one.ready s.stored));
      stored = one.stored s.stored;
      along = fronts Along steps s.outcomes s.stores x o next s.many_outcomes s.many_stores s.along along;
      answers = fronts (λ xs ts (us : List Told). AnswersSo opened m xs ts) steps told told x t t many_told many_told s.answers answers;
      stands = λ plain order. subst (λ (p : Past). StandsAfter world opened m p next new) (sym (after_more opened s.outcomes nothing o)) (one.stands opened m past (plain_one plain) (s.stands (plain_before plain) (before (in_order order))) (in_order order));
      holds = λ plain order. (right plain order).1;
    }

  -- ---- before the first step

  begun_along : (strategies : Strategies) (m : Map) (was first is : F) (old now : Core) (opened : List Entry) (points : List (Point F)) → RanAlong world strategies [] [] (here May world first old) points → (last_of (here May world first old) points).store ≡ is → Closes (last_of (here May world first old) points).stage.core now
      → (IsStored (world first) (versions_left old) (written_of old) → EachReady world first (map (λ p. p.store) points)) → ((past : Past) → HasMoments world opened m past [] [] (here May world first old) points) → ((past : Past) → GoesOn world opened m past [] [] (here May world first old) points is now)
      → RunIsRight strategies [] [] old now → StaysStored (world first) (world is) old now → StandsAfter world opened m nothing first old → IsOpened opened m (state_of [] old) → IsStored (world first) (versions_left old) (written_of old)
      → above opened ≤ 2 ^ 63 → above opened ≤ old.seqno → ((levels : Levels) → Finds (world was).gives levels → opened ≡ held (placed_of levels)) → ((tables : Levels) → Finds (world was).gives tables → OpeningLeaves (world was) (world first) tables) → SoFar May world m was opened old.seqno [] [] is now
  begun_along strategies m was first is old now opened (p ∷ points) ran ends closes ready moments goes_on right stays there opens stored low counted found opening = absurd ran
  begun_along strategies m was first is old now opened [] ran ends closes ready moments goes_on right stays there opens stored low counted found opening = record {
    found = found;
    starts = opens.starts;
    above_found = counted;
    first = first;
    opening = opening;
    outcomes = [];
    stores = [];
    counters = [];
    replies = refl;
    many_outcomes = refl;
    many_stores = refl;
    ends = ends;
    uses = tt;
    counts = sym (ap (λ (c : Core). c.seqno) closes.rest);
    numbered = record { before = low; written = tt };
    ready = ready stored;
    stored = stays stored;
    along = none_of (λ xs os ss. LivesAlong May world opened m xs os first ss) (λ plain order. ((λ n numbered. (moments nothing 0 plain there order).0 n numbered), tt));
    answers = none_of (λ xs ts (us : List Told). AnswersSo opened m xs ts) (λ plain order. tt);
    stands = λ plain order. goes_on nothing plain there order;
    holds = λ plain order. (right.goes_on opened m [] plain (kept.opened opened m (state_of [] old) opens) order).1;
  }

  pub begun : (strategies : Strategies) (m : Map) (was first is : F) (old now : Core) (opened : List Entry) → RunHasMoments world strategies [] [] (here May world first old) is now → RunIsRight strategies [] [] old now → StaysStored (world first) (world is) old now
      → IsOpened opened m (state_of [] old) → old.lost ≡ None → IsStored (world first) (versions_left old) (written_of old) → above opened ≤ 2 ^ 63 → above opened ≤ old.seqno → ((levels : Levels) → Finds (world was).gives levels → opened ≡ held (placed_of levels)) → ((tables : Levels) → Finds (world was).gives tables → OpeningLeaves (world was) (world first) tables) → SoFar May world m was opened old.seqno [] [] is now
  begun strategies m was first is old now opened run right stays opens certain stored low counted found opening =
      begun_along strategies m was first is old now opened run.points run.ran run.ends run.closes run.ready (run.moments opened m) (run.goes_on opened m) right stays (run.begins opened m opens certain stored) opens stored low counted found opening

  -- ---- no step at all

  none_along : (strategies : Strategies) (m : Map) (was : F) (opened : List Entry) (counter : ℕ) (steps : List Step) (told : List Told) (is : F) (now : Core) (s : SoFar May world m was opened counter steps told is now) (next : F) (new : Core) (points : List (Point F)) → RanAlong world strategies [] [] (here May world is now) points → (last_of (here May world is now) points).store ≡ next → Closes (last_of (here May world is now) points).stage.core new
      → ((past : Past) → GoesOn world opened m past [] [] (here May world is now) points next new) → RunIsRight strategies [] [] now new → StaysStored (world is) (world next) now new → SoFar May world m was opened counter steps told next new
  none_along strategies m was opened counter steps told is now s next new (p ∷ points) ran ends closes goes_on right stays = absurd ran
  none_along strategies m was opened counter steps told is now s next new [] ran ends closes goes_on right stays = record {
    found = s.found;
    starts = s.starts;
    above_found = s.above_found;
    first = s.first;
    opening = s.opening;
    outcomes = s.outcomes;
    stores = s.stores;
    counters = s.counters;
    replies = s.replies;
    many_outcomes = s.many_outcomes;
    many_stores = s.many_stores;
    ends = s.ends ∙ ends;
    uses = s.uses;
    counts = s.counts ∙ sym (ap (λ (c : Core). c.seqno) closes.rest);
    numbered = s.numbered;
    ready = s.ready;
    stored = stays s.stored;
    along = s.along;
    answers = s.answers;
    stands = λ plain order. goes_on (after_all opened nothing s.outcomes) (λ i. i) (s.stands plain order) order;
    holds = λ plain order.
        let e = append-nil (journal_of told) in
        subst (λ es. Holds opened m (state_of (without_low_reads opened es) new)) e (right.goes_on opened m (journal_of told) (λ i. i) (s.holds plain order) (subst (InOrder opened) (sym e) order)).1;
  }

  pub none_more : (strategies : Strategies) (m : Map) (was : F) (opened : List Entry) (counter : ℕ) (steps : List Step) (told : List Told) (is : F) (now : Core) → SoFar May world m was opened counter steps told is now → (next : F) (new : Core) → RunHasMoments world strategies [] [] (here May world is now) next new → RunIsRight strategies [] [] now new → StaysStored (world is) (world next) now new → SoFar May world m was opened counter steps told next new
  none_more strategies m was opened counter steps told is now s next new run right stays = none_along strategies m was opened counter steps told is now s next new run.points run.ran run.ends run.closes (run.goes_on opened m) right stays

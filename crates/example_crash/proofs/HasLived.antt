-- What is known of a life of which the order is kept: what follows from its being one.
use Rattle.std.proofs.Common.{◌≡◌, inl, ℕ, ◌+◌, ◌<◌, ◌≤◌, ◌^◌, max, arith, List, [], ◌∷◌, map, take, length, refl, sym, ap, ◌∙◌, subst}
use Rattle.lsm_runs.specs.Entries.{Entry, above}
use Rattle.lsm_runs.specs.Memory.{MemStore, may_of, world_of}
use Rattle.lsm_runs.specs.World.{Image, World, IsImage}
use Rattle.lsm_store.proofs.Memories.{gives_now}
use Rattle.lsm_runs.specs.Beginnings.{covered}
use Rattle.lsm_runs.specs.Journal.{Map, InOrder, next_number}
use Rattle.lsm_runs.specs.Views.{held}
use Rattle.lsm_runs.specs.Levels.{Levels, placed_of}
use Rattle.lsm_runs.specs.Finding.{Finds}
use Rattle.lsm_runs.specs.Ready.{IsReady}
use Rattle.lsm_runs.specs.Composing.{AreNumbered, NumbersAreBounded}
use Rattle.lsm_run_model.specs.Lives.{End, Killed, EndsIn}
use Rattle.lsm_run_model.specs.Moments.{HoldsBeginning, LeavesNow, EachMoment, last_of}
use Rattle.lsm_runs.specs.Outcomes.{Past, nothing, after, after_all}
use Rattle.lsm_runs.specs.Outcomes as out
use Rattle.lsm_runs.specs.Rising.{At, RisesFrom, highest, StandsBelow, StaysInOrder, RisingIsInOrder, OrderWithoutReads}
use Rattle.lsm_runs.specs.declared.steps.Step.{Step}
use Rattle.lsm_runs.specs.declared.steps.Reply.{Reply}
use Rattle.lsm_runs.specs.Causes.{EachHasCause}
use Rattle.lsm_runs.specs.Chains.{Point}
use Rattle.lsm_runs.specs.Drawing.{drawing_of, asks_of}
use Rattle.lsm_runs.specs.Dropping.{Drops}
use Rattle.lsm_runs.specs.Lives.{LivedSo, LivesInOrder, Rise, told_of}
use Rattle.lsm_runs.specs.Moments.{Reopens, EachReady}
use Rattle.lsm_runs.specs.Notes.{EachTells}
use Rattle.lsm_runs.specs.OpenFlushes.{none_begun}
use Rattle.lsm_runs.specs.Runs.{IsPlainUse, EachAnswers, journal_of}
use Rattle.lsm_runs.specs.Told.{Told}
use Rattle.lsm_runs.proofs.RunLives.{journal_after, outcomes_journal}
use Rattle.lsm_runs.proofs.Uses.{drawings}
use Rattle.example_crash.specs.Single.{KeepsOrder, HasLived}
use Rattle.example_crash.specs.Survival.{IsLeftBy}
use Rattle.example_crash.proofs.Growing.{length_map}
use Rattle.example_crash.proofs.Usual.{whole, twice}

-- what follows of numbers, as laws
pub record OrderLaws : Type 0 where
  pub rising : RisingIsInOrder Reply
  pub without : OrderWithoutReads
  pub bounded : NumbersAreBounded

-- ---- at the end of a chain

last_now : {F : Type 0} (Shows : Image → Map → Type 0) (world : F → World) (opened : List Entry) (start : Map) (past : Past) (told : List (out.Told Reply)) (was : F) (stores : List F) → EachMoment Shows world opened start past told was stores
    → LeavesNow (world (last_of was stores)) (HoldsBeginning Shows start (after_all opened past told) (covered (after_all opened past told).notes))
last_now Shows world opened start past [] was [] h = h
last_now Shows world opened start past (o ∷ told) was (is ∷ stores) h = last_now Shows world opened start (after opened past o) told is stores h.2
last_now Shows world opened start past [] was (is ∷ stores) h = absurd h
last_now Shows world opened start past (o ∷ told) was [] h = absurd h

-- a store for each outcome
many_stores : {F : Type 0} (Shows : Image → Map → Type 0) (world : F → World) (opened : List Entry) (start : Map) (past : Past) (told : List (out.Told Reply)) (was : F) (stores : List F) → EachMoment Shows world opened start past told was stores → length stores ≡ length told
many_stores Shows world opened start past [] was [] h = refl
many_stores Shows world opened start past (o ∷ told) was (is ∷ stores) h = let rest = many_stores Shows world opened start (after opened past o) told is stores h.2 in omega (rest, arith)
many_stores Shows world opened start past [] was (is ∷ stores) h = absurd h
many_stores Shows world opened start past (o ∷ told) was [] h = absurd h

-- opening takes the store at the end of a run
pub ends_ready : {F : Type 0} (world : F → World) (old : Point F) (points : List (Point F)) → EachReady world old.store (map (λ p. p.store) points) → IsReady (world (last_of old points).store)
ends_ready world old [] h = h.0
ends_ready world old (p ∷ points) h = ends_ready world p points h.2

ended_now : (store : MemStore) → EndsIn world_of (world_of store) (world_of store) (Killed store)
ended_now store = record { each = λ i may. inl may; gives = gives_now store }

-- ---- a life

module _ (May : Drops) (laws : OrderLaws) (m : Map) (was : MemStore) (from : ℕ) (steps : List Step) (told : List Told) (is : MemStore) (l : LivesInOrder May world_of from m steps told was is) where
  -- all of it
  abbrev size : ℕ
  size = length l.life.stores + (length l.outcomes + (length steps + length told))

  all_steps : take size steps ≡ steps
  all_steps = whole size steps (omega arith)

  all_outcomes : take size l.outcomes ≡ l.outcomes
  all_outcomes = whole size l.outcomes (omega arith)

  all_stores : take size l.life.stores ≡ l.life.stores
  all_stores = whole size l.life.stores (omega arith)

  abbrev unused : ℕ
  unused = next_number l.opened (journal_of told)

  abbrev past : Past
  past = after_all l.opened nothing l.outcomes

  -- ---- numbers

  above_found : above l.opened ≤ l.counter
  above_found = let starts = l.starts in omega (arith, starts)

  -- they are below what is unused
  numbered : AreNumbered unused l.opened past.journal
  numbered =
      let told_same : journal_of told ≡ out.journal_of l.outcomes = sym (outcomes_journal l.outcomes ∙ ap (λ ts. journal_of ts) l.replies) in
      let next : next_number l.opened past.journal ≡ next_number l.opened (out.journal_of l.outcomes) = ap (next_number l.opened) (journal_after l.opened l.outcomes nothing) ∙ laws.without.number l.opened (out.journal_of l.outcomes) in
      let same : next_number l.opened (journal_of told) ≡ next_number l.opened (out.journal_of l.outcomes) = ap (next_number l.opened) told_same in
      laws.bounded l.opened past.journal unused (omega (arith, next, same))

  rises : Rise l.opened l.counter steps → unused ≤ highest (At l.counter) (map drawing_of steps)
  rises rise =
      let none : StandsBelow l.opened [] l.counter (above l.opened) [] = record { order = tt; counted = above_found; used = omega arith; sets = λ k. omega arith } in
      let stays = laws.rising l.opened [] (map asks_of steps) l.outcomes l.counter (above l.opened) (At l.counter) [] l.counters none refl (subst (λ ds. RisesFrom (above l.opened) (At l.counter) ds) (drawings steps) rise.numbers) rise.weak l.uses in
      let below : next_number l.opened (out.journal_of l.outcomes) ≤ highest (At l.counter) (map drawing_of steps) = subst (λ ds. next_number l.opened (out.journal_of l.outcomes) ≤ highest (At l.counter) ds) (sym (drawings steps)) stays.below in
      subst (λ events. next_number l.opened events ≤ highest (At l.counter) (map drawing_of steps)) (outcomes_journal l.outcomes ∙ ap (λ ts. journal_of ts) l.replies) below

  -- ---- where they keep the order

  module _ (k : KeepsOrder l.opened l.counter steps) where
    plain : IsPlainUse (take size steps)
    plain = subst IsPlainUse (sym all_steps) k.plain

    order : InOrder l.opened (after_all l.opened nothing (take size l.outcomes)).journal
    order = l.in_order size (subst (Rise l.opened l.counter) (sym all_steps) k.rise)

    reads : EachAnswers l.opened m [] steps told
    reads = subst (λ xs. EachAnswers l.opened m [] xs told) all_steps (subst (λ ts. EachAnswers l.opened m [] (take size steps) ts) (whole size told (omega arith)) (l.answers size plain order))

    -- what a crash leaves is numbered below what is unused
    below : (image : Image) → IsImage (may_of is.files) image → (levels : Levels) → Finds image levels → above (held (placed_of levels)) ≤ unused
    below image may =
        let moments = l.leaves size plain order unused (subst (λ (os : List (out.Told Reply)). AreNumbered unused l.opened (after_all l.opened nothing os).journal) (sym all_outcomes) numbered) in
        let here = last_now (Reopens unused) world_of l.opened m nothing (take size l.outcomes) l.life.first (take size l.life.stores) moments in
        (subst (λ (f : MemStore). LeavesNow (world_of f) (HoldsBeginning (Reopens unused) m (after_all l.opened nothing (take size l.outcomes)) (covered (after_all l.opened nothing (take size l.outcomes)).notes))) (ap (last_of l.life.first) all_stores ∙ l.life.ends) here image (inl may)).shows.below

    one : LivedSo May world_of l.opened m (take size steps) (take size l.outcomes) size (Killed is)
    one =
        let last : last_of l.life.first (take size l.life.stores) ≡ is = ap (last_of l.life.first) all_stores ∙ l.life.ends in
        let again : last_of l.life.first (take size (take size l.life.stores)) ≡ is = ap (last_of l.life.first) (twice size l.life.stores) ∙ last in
        l.life.lives size size (Killed is) plain order
        (subst (λ (s : MemStore). EndsIn world_of (world_of s) (world_of (last_of l.life.first (take size l.life.stores))) (Killed is)) (sym again) (subst (λ (s : MemStore). EndsIn world_of (world_of is) (world_of s) (Killed is)) (sym last) (ended_now is)))
        (λ kill. omega arith)

    told_all : one.life.told ≡ l.outcomes
    told_all = one.told ∙ all_outcomes

    tells : EachTells May l.opened nothing none_begun steps l.outcomes
    tells =
        subst (λ es. EachTells May es nothing none_begun steps l.outcomes) one.opened_with
        (subst (λ os. EachTells May one.life.opened nothing none_begun steps os) told_all (subst (λ xs. EachTells May one.life.opened nothing none_begun xs one.life.told) (one.took ∙ all_steps) one.life.known.tells))

    -- a crash leaves a beginning of them all
    leaves : (image : Image) → IsImage (may_of is.files) image → (left : Map) × Reopens (2 ^ 63) image left × IsLeftBy l.opened m l.outcomes left
    leaves image may =
        let life = one.life in
        let many = many_stores (Reopens (2 ^ 63)) world_of life.opened m nothing life.told life.first life.stores life.moments in
        let few = ap (λ os. length os) told_all in
        let answered = one.answered in
        let every : take life.answered life.stores ≡ life.stores = whole life.answered life.stores (omega (arith, many, few, answered)) in
        let now = subst (λ (ss : List MemStore). (world_of (last_of life.first life.stores)).since (world_of (last_of life.first ss)).moment image) every (life.ended.each image may) in
        let held = last_now (Reopens (2 ^ 63)) world_of life.opened m nothing life.told life.first life.stores life.moments image now in
        (held.map, held.shows, subst (λ es. IsLeftBy es m l.outcomes held.map) one.opened_with (subst (λ os. IsLeftBy life.opened m os held.map) told_all held.begins))

  pub has_lived : EachHasCause world_of told was is → IsReady (world_of is) → HasLived May m was from steps told is
  has_lived causes ready = record { lives = l; causes = causes; tells = tells; reads = reads; leaves = leaves; below = below; rises = λ k. rises k.rise; ready = ready }

-- What the steps of a run are to the theory of runs: each does what its outcome tells, so the theory's theorem is that of runs.
use Rattle.std.specs.FinMap.{empty}
use Rattle.std.proofs.Common.{◌≡◌, ⊎_elim, inl, inr, ℕ, zero, suc, ◌≤◌, arith, Bool, true, false, cond, List, [], ◌∷◌, ◌++◌, Option, Some, None, map, take, length, option_to_list, refl, sym, ap, ◌∙◌, subst}
use Rattle.std.specs.List.{AllByRecursion}
use Rattle.lsm_below.specs.Entries.{Entry, above}
use Rattle.lsm_below.specs.Members.{IsIn}
use Rattle.lsm_below.specs.declared.error.Error.{Error}
use Rattle.lsm_below.specs.declared.error.Error.TheVariants.{CommitUnknown}
use Rattle.lsm_store.specs.World.{Image, World}
use Rattle.lsm_model.specs.Journal.{Event, Map, InOrder, next_number}
use Rattle.lsm_model.specs.Views.{HasDistinctIds, held}
use Rattle.lsm_model.specs.Steps.{IsOpened}
use Rattle.lsm_model.specs.Beginnings.{Note, FlushedIds, Saved, Deeds, Stands, shown_by, versions}
use Rattle.lsm_versions.specs.Levels.{SeenVersion, placed_of}
use Rattle.lsm_manifest.specs.Finding.{Named, FoundOnce, StandsForMap, FoundTablesShow}
use Rattle.lsm_manifest.specs.Versions.{named_levels}
use Rattle.lsm_manifest.specs.Standing.{StandsFor}
use Rattle.lsm_commit.specs.Stored.{IsStored, HoldsOneOf}
use Rattle.lsm_commit.specs.Opening.{StoredIsReady}
use Rattle.lsm_state.specs.Core.{Core, latest_of, state_of, versions_left, written_of}
use Rattle.lsm_state.specs.Commits.{Upholds}
use Rattle.lsm_state.specs.Deeds.{saved_of}
use Rattle.lsm_state.specs.Flushes.{sealed_ids}
use Rattle.lsm_state.specs.FlushLaws.{FlushesAreDeeds}
use Rattle.lsm_state.specs.Kept.{IsKeptTree}
use Rattle.lsm_run_model.specs.declared.noted.Noted.{Noted}
use Rattle.lsm_run_model.specs.declared.noted.Noted.TheVariants as note
use Rattle.lsm_run_model.specs.Outcomes.{Past, nothing, after, after_all, note_at, sealed_in}
use Rattle.lsm_run_model.specs.Outcomes as out
use Rattle.lsm_run_model.specs.Moments.{LeavesNow, EachMoment, last_of}
use Rattle.lsm_run_model.specs.Composing.{Point as Place, IsRight as IsRightThere, FindsAmong, IsOfEither, DoesCall, EachDoes, TablesShow, AreNumbered, CameAbout, Composed, RunsCompose, NoLowReads, NotesTellSealed, NumbersAreBounded}
use Rattle.lsm_run_model.specs.Rising.{EachUses}
use Rattle.lsm_runs.specs.declared.slots.Job.{Job}
use Rattle.lsm_runs.specs.declared.steps.JobStep.{JobStep}
use Rattle.lsm_runs.specs.declared.steps.JobStep.TheVariants as job
use Rattle.lsm_runs.specs.declared.steps.Step.{Step as Call}
use Rattle.lsm_runs.specs.declared.steps.Step.TheVariants.{ClearActiveMemtable}
use Rattle.lsm_runs.specs.declared.steps.Step.TheVariants as step
use Rattle.lsm_runs.specs.declared.steps.Reply.{Reply}
use Rattle.lsm_runs.specs.declared.steps.Reply.TheVariants as reply
use Rattle.lsm_runs.specs.Compacting.{Strategies}
use Rattle.lsm_runs.specs.Drawing.{asks_of}
use Rattle.lsm_runs.specs.Dropping.{may_drop}
use Rattle.lsm_runs.specs.OpenFlushes.{none_begun}
use Rattle.lsm_runs.specs.Chains.{Point, RanAlong, RanTo}
use Rattle.lsm_runs.specs.Notes.{sealed_noted, flushed_noted}
use Rattle.lsm_runs.specs.Moments.{job_noted, lost_noted, alone_noted, noted_of, outcome_of, outcomes_of, Reopens, FindsPlaced, StandsAfter, EachReady, HasMoments, TellsSo, GoesOn, RunHasMoments}
use Rattle.lsm_runs.specs.Noting.{sealed_note, sealed_behind, flushed_note, job_notes, lost_note, alone_notes, notes_of, ids_in}
use Rattle.lsm_runs.specs.Runs.{Takes, IsPlainUse, journal_of, without_low_reads}
use Rattle.lsm_runs.specs.Slots.{Stage, at_first, Closes}
use Rattle.lsm_runs.specs.Told.{Told}
use Rattle.lsm_runs.proofs.Adds.{takes_add_some}
use Rattle.lsm_runs.proofs.RunDeeds.{step_deeds}
use Rattle.lsm_runs.proofs.JobReplays.{AreMarked, first_marked_behind}
use Rattle.lsm_runs.proofs.Files.{closed_stored}
use Rattle.lsm_runs.proofs.Keeping.{KeepLaws}
use Rattle.lsm_run_model.proofs.LowReads.{without-append}
use Rattle.lsm_runs.proofs.Members.{in_either, in_front}
use Rattle.lsm_runs.proofs.Notes.{AreBegun, first_begun, each_tells, front_grows}
use Rattle.lsm_runs.proofs.Made.{takes_one}
use Rattle.lsm_runs.proofs.Merged.{AreMerged, first_merged, merged_in}
use Rattle.lsm_runs.proofs.Readiness.{OnlyNow, stored_stays_ready, step_ready}
use Rattle.lsm_runs.proofs.Replays.{takes_marked}
use Rattle.lsm_runs.proofs.Small.{IsSmall}
use Rattle.lsm_runs.proofs.Uses.{takes_numbers, adds_keys}
use Rattle.lsm_runs.proofs.StepDeeds.{HasDeeds, IsRight}

-- ---- notes

abbrev placed_at : List Event → List Noted → List Note
placed_at journal notes = map (note_at (length journal)) notes

sealed_same : (id : Option ℕ) (journal : List Event) → sealed_note id journal ≡ placed_at journal (sealed_noted id)
sealed_same None journal = refl
sealed_same (Some id) journal = refl

flushed_same : (ids : List ℕ) (a : _) (journal : List Event) → flushed_note ids a ≡ placed_at journal (flushed_noted ids a)
flushed_same ids None journal = refl
flushed_same ids (Some a) journal = refl

map-append : (f : Noted → Note) (xs ys : List Noted) → map f (xs ++ ys) ≡ map f xs ++ map f ys
map-append f [] ys = refl
map-append f (x ∷ xs) ys = ap (λ zs. f x ∷ zs) (map-append f xs ys)

both_same : (ids : List ℕ) (a : _) (id : Option ℕ) (journal : List Event) → flushed_note ids a ++ sealed_note id journal ≡ placed_at journal (flushed_noted ids a ++ sealed_noted id)
both_same ids a id journal =
    ap (λ ns. ns ++ sealed_note id journal) (flushed_same ids a journal) ∙ ap (λ ns. placed_at journal (flushed_noted ids a) ++ ns) (sealed_same id journal) ∙ sym (map-append (note_at (length journal)) (flushed_noted ids a) (sealed_noted id))

lost_same : (x : Error) (c : Core) (journal : List Event) → lost_note x c journal ≡ placed_at journal (lost_noted x c)
lost_same CommitUnknown c journal = refl
lost_same other c journal = refl

job_same : (x : JobStep) (r : Reply) (was : Option Job) (journal : List Event) → job_notes x r was ≡ placed_at journal (job_noted x r was)
job_same job.RegisterTables (reply.Registered a) was journal = one a.installed
  where
    one : (b : Bool) → cond b (FlushedIds (ids_in was) ∷ []) [] ≡ placed_at journal (cond b (note.Flushed (ids_in was) ∷ []) [])
    one true = refl
    one false = refl
job_same x r was journal = refl

alone_same : (x : Call) (r : Reply) (c : Core) (journal : List Event) → alone_notes x r c journal ≡ placed_at journal (alone_noted x r c)
alone_same step.RotateMemtable (reply.Sealed id) c journal = sealed_same id journal
alone_same (step.Flush w) (reply.Flushed a) c journal = flushed_same _ a journal
alone_same (step.FlushActiveMemtable w) (reply.FlushedActive id a) c journal = both_same (sealed_behind id c) a id journal
alone_same (step.FlushActiveMemtable w) (reply.RefusedActive id x) c journal = sealed_same id journal
alone_same step.Clear (reply.Cleared n) c journal = refl
alone_same step.Clear (reply.Refused x) c journal = lost_same x c journal
alone_same x r c journal = refl

notes_same : (x : Call) (r : Reply) (s : Stage) (journal : List Event) → notes_of x r s journal ≡ placed_at journal (noted_of x r s)
notes_same (step.AtSlot slot call) r s journal = job_same call r (s.jobs slot) journal
notes_same x r s journal = alone_same x r s.core journal

-- ---- what is found

placed_in_map : (v : SeenVersion) (vs : List SeenVersion) → IsIn v vs → IsIn (placed_of v.levels) (map (λ (x : SeenVersion). placed_of x.levels) vs)
placed_in_map v [] i = absurd i
placed_in_map v (x ∷ vs) i = ⊎_elim (λ (e : x ≡ v). inl (ap (λ (y : SeenVersion). placed_of y.levels) e)) (λ (j : IsIn v vs). inr (placed_in_map v vs j)) i

found_of : (v : SeenVersion) (image : Image) → StandsFor image v.id (named_levels v.levels) v.levels → FindsPlaced image (placed_of v.levels)
found_of v image s = (v.levels, Named v.id (named_levels v.levels) s, refl)

module _ (shows : FoundTablesShow) (once : FoundOnce) where
  tables_show : (n : ℕ) → TablesShow FindsPlaced (Reopens n) n
  tables_show n image tables found stands low =
      let levels = found.0 in
      record {
        stands = subst (λ ts. StandsForMap image (shown_by ts)) found.2 (shows image levels found.1 (subst Stands (sym found.2) stands));
        below = λ others f. subst (λ ls. above (held (placed_of ls)) ≤ n) (once image levels others found.1 f) (subst (λ ts. above (held ts) ≤ n) (sym found.2) low);
      }

-- ---- the first elements

take_twice : {A : Type 0} (n : ℕ) (xs : List A) → take n (take n xs) ≡ take n xs
take_twice zero xs = refl
take_twice (suc n) [] = refl
take_twice (suc n) (x ∷ xs) = ap (λ ys. x ∷ ys) (take_twice n xs)

take_all : {A : Type 0} (xs : List A) → take (length xs) xs ≡ xs
take_all [] = refl
take_all (x ∷ xs) = ap (λ ys. x ∷ ys) (take_all xs)

module _ (laws : KeepLaws) (strategies : Strategies) (opened : List Entry) (start : Map) {F : Type 0} (world : F → World) where
  -- ---- trees

  abbrev tree_at : Past → Core → Saved
  tree_at past c = saved_of past.journal past.notes c

  abbrev place_at : Past → Point F → Place F
  place_at past p = record { store = p.store; tree = tree_at past p.stage.core }

  abbrev places : List Call → List Told → Past → Point F → List (Point F) → List (Place F)
  places (x ∷ xs) (t ∷ ts) past old (mid ∷ points) = let next = after opened past (outcome_of x t old.stage) in place_at next mid ∷ places xs ts next mid points
  places xs ts past old points = []

  -- one step, after a journal whose events that count are these
  step_at : (x : Call) (t : Told) (journal before : List Event) (notes : List Note) (old new : Stage) → without_low_reads opened journal ≡ before → (x ≡ ClearActiveMemtable → ⊥) → AreMarked journal old.jobs → Takes strategies x t.reply t.entries old new
      → IsRight opened start before old.core → InOrder opened (before ++ without_low_reads opened t.entries) → HasDeeds opened before notes (without_low_reads opened t.entries) (notes_of x t.reply old before) old.core new.core
  step_at x t journal before notes old new e plain marked takes =
      subst (λ b. IsRight opened start b old.core → InOrder opened (b ++ without_low_reads opened t.entries) → HasDeeds opened b notes (without_low_reads opened t.entries) (notes_of x t.reply old b) old.core new.core) e
      (λ right order. step_deeds laws strategies opened start journal notes x t.reply t.entries old new plain right marked order takes)

  -- while nothing is done a crash leaves one of the tree's versions
  now_found : (past : Past) (p : Point F) → IsStored (world p.store) (versions_left p.stage.core) (written_of p.stage.core) → Upholds (world p.store) (world p.store) p.stage.core p.stage.core
      → LeavesNow (world p.store) (FindsAmong FindsPlaced (λ tables. IsIn tables (versions (tree_at past p.stage.core))))
  now_found past p stored still image since =
      let h = (still.files stored).1.each image since in
      (placed_of h.0.levels, found_of h.0 image h.2, placed_in_map h.0 (versions_left p.stage.core) (⊎_elim (λ i. i) (λ i. i) (in_either h.0 (versions_left p.stage.core) (versions_left p.stage.core) h.1)))

  does : (x : Call) (t : Told) (journal : List Event) (past : Past) (old mid : Point F) → without_low_reads opened journal ≡ past.journal → (x ≡ ClearActiveMemtable → ⊥) → AreMarked journal old.stage.jobs → Takes strategies x t.reply t.entries old.stage mid.stage
      → IsStored (world old.store) (versions_left old.stage.core) (written_of old.stage.core) → Upholds (world old.store) (world mid.store) old.stage.core mid.stage.core → Upholds (world mid.store) (world mid.store) mid.stage.core mid.stage.core
      → IsRightThere opened start (tree_at past old.stage.core) → InOrder opened (after opened past (outcome_of x t old.stage)).journal → DoesCall FindsPlaced world opened (outcome_of x t old.stage) (place_at past old) (place_at (after opened past (outcome_of x t old.stage)) mid)
  does x t journal past old mid e plain marked takes stored upholds still right order =
      let next = after opened past (outcome_of x t old.stage) in
      let mine : IsRight opened start past.journal old.stage.core = record { holds = right.holds; distinct = right.distinct } in
      let d = step_at x t journal past.journal past.notes old.stage mid.stage e plain marked takes mine order in
      let up = upholds.files stored in
      record {
        deeds = d.0;
        done = subst (λ ns. Deeds opened (tree_at past old.stage.core) d.0 (saved_of next.journal (ns ++ past.notes) mid.stage.core)) (notes_same x t.reply old.stage past.journal) d.1;
        past = refl;
        inside = record {
          later = up.1.later;
          each = λ image since. found_in image (up.1.each image since);
          before = λ time image low since. ⊎_elim (λ s. inl s) (λ h. inr (found_in image h)) (up.1.before time image low since);
        };
        now = now_found next mid up.0 still;
      }
    where
      found_in : (image : Image) → HoldsOneOf (versions_left old.stage.core ++ versions_left mid.stage.core) image → FindsAmong FindsPlaced (IsOfEither (tree_at past old.stage.core) (tree_at (after opened past (outcome_of x t old.stage)) mid.stage.core)) image
      found_in image h = (
        placed_of h.0.levels,
        found_of h.0 image h.2,
        ⊎_elim
            (λ i. inl (placed_in_map h.0 (versions_left old.stage.core) i))
            (λ i. inr (placed_in_map h.0 (versions_left mid.stage.core) i))
            (in_either h.0 (versions_left old.stage.core) (versions_left mid.stage.core) h.1),
      )

  -- ---- the first so many steps

  each_does : (many : ℕ) (xs : List Call) (ts : List Told) (journal : List Event) (past : Past) (old : Point F) (points : List (Point F)) → RanAlong world strategies xs ts old points → without_low_reads opened journal ≡ past.journal → IsPlainUse (take many xs) → AreMarked journal old.stage.jobs
      → IsStored (world old.store) (versions_left old.stage.core) (written_of old.stage.core) → EachDoes FindsPlaced world opened start (take many (outcomes_of xs ts old points)) (place_at past old) (take many (places xs ts past old points))
  each_does zero xs ts journal past old points r e plain marked stored = tt
  each_does (suc many) [] [] journal past old [] r e plain marked stored = tt
  each_does (suc many) (x ∷ xs) (t ∷ ts) journal past old (mid ∷ points) r e plain marked stored =
      let next = after opened past (outcome_of x t old.stage) in
      let e' : without_low_reads opened (journal ++ t.entries) ≡ next.journal = without-append opened journal t.entries ∙ ap (λ b. b ++ without_low_reads opened t.entries) e in (
        does x t journal past old mid e (λ is. plain (inl is)) marked r.0 stored r.1.upholds r.1.stays,
        each_does many xs ts (journal ++ t.entries) next mid points r.2 e' (λ i. plain (inr i)) (takes_marked laws.compactions strategies x t.reply journal t.entries old.stage mid.stage r.0 marked) (r.1.upholds.files stored).0,
      )
  each_does (suc many) xs ts journal past old points r e plain marked stored = absurd r

  -- the stores of the places are those of the chain, and so is the last place
  stores_same : (many : ℕ) (xs : List Call) (ts : List Told) (past : Past) (old : Point F) (points : List (Point F)) → RanAlong world strategies xs ts old points → map (λ p. p.store) (take many (places xs ts past old points)) ≡ map (λ p. p.store) (take many points)
  stores_same zero xs ts past old points r = refl
  stores_same (suc many) [] [] past old [] r = refl
  stores_same (suc many) (x ∷ xs) (t ∷ ts) past old (mid ∷ points) r = ap (λ ss. mid.store ∷ ss) (stores_same many xs ts (after opened past (outcome_of x t old.stage)) mid points r.2)
  stores_same (suc many) xs ts past old points r = absurd r

  last_same : (many : ℕ) (xs : List Call) (ts : List Told) (past : Past) (old : Point F) (points : List (Point F)) → RanAlong world strategies xs ts old points
      → last_of (place_at past old) (take many (places xs ts past old points)) ≡ place_at (after_all opened past (take many (outcomes_of xs ts old points))) (last_of old (take many points))
  last_same zero xs ts past old points r = refl
  last_same (suc many) [] [] past old [] r = refl
  last_same (suc many) (x ∷ xs) (t ∷ ts) past old (mid ∷ points) r = last_same many xs ts (after opened past (outcome_of x t old.stage)) mid points r.2
  last_same (suc many) xs ts past old points r = absurd r

  -- the files stay stored
  stays_stored : (many : ℕ) (xs : List Call) (ts : List Told) (old : Point F) (points : List (Point F)) → RanAlong world strategies xs ts old points → IsStored (world old.store) (versions_left old.stage.core) (written_of old.stage.core)
      → let last = last_of old (take many points) in IsStored (world last.store) (versions_left last.stage.core) (written_of last.stage.core)
  stays_stored zero xs ts old points r stored = stored
  stays_stored (suc many) [] [] old [] r stored = stored
  stays_stored (suc many) (x ∷ xs) (t ∷ ts) old (mid ∷ points) r stored = stays_stored many xs ts mid points r.2 (r.1.upholds.files stored).0
  stays_stored (suc many) xs ts old points r stored = absurd r

  -- and each store stays ready, also in a step
  module _ (ready : StoredIsReady F world) (only : OnlyNow world) (once : FoundOnce) where
    each_ready : (xs : List Call) (ts : List Told) (old : Point F) (points : List (Point F)) → RanAlong world strategies xs ts old points → IsStored (world old.store) (versions_left old.stage.core) (written_of old.stage.core) → EachReady world old.store (map (λ p. p.store) points)
    each_ready [] [] old [] r stored = stored_stays_ready world ready only old.store old.stage.core stored
    each_ready (x ∷ xs) (t ∷ ts) old (mid ∷ points) r stored = (
      stored_stays_ready world ready only old.store old.stage.core stored,
      step_ready world ready only once x t.reply old.store mid.store old.stage.core mid.stage.core (λ certain. takes_one strategies x t.reply t.entries old.stage mid.stage certain r.0) r.1 stored,
      each_ready xs ts mid points r.2 (r.1.upholds.files stored).0,
    )
    each_ready xs ts old points r stored = absurd r

  -- the numbers and keys of each step
  each_uses : (xs : List Call) (ts : List Told) (old : Point F) (points : List (Point F)) → RanAlong world strategies xs ts old points → EachUses (map asks_of xs) (outcomes_of xs ts old points) old.stage.core.seqno (map (λ p. p.stage.core.seqno) points)
  each_uses [] [] old [] r = tt
  each_uses (x ∷ xs) (t ∷ ts) old (mid ∷ points) r =
      (takes_numbers strategies x t.reply t.entries old.stage mid.stage r.0, adds_keys (may_drop strategies) (merged_in old.stage.jobs) x t.reply t.entries (takes_add_some strategies x t.reply t.entries old.stage mid.stage r.0), each_uses xs ts mid points r.2)
  each_uses xs ts old points r = absurd r

  all_points : (xs : List Call) (ts : List Told) (old : Point F) (points : List (Point F)) → RanAlong world strategies xs ts old points → length (outcomes_of xs ts old points) ≡ length points
  all_points [] [] old [] r = refl
  all_points (x ∷ xs) (t ∷ ts) old (mid ∷ points) r = ap (λ n. suc n) (all_points xs ts mid points r.2)
  all_points xs ts old points r = absurd r

  all_steps : (xs : List Call) (ts : List Told) (old : Point F) (points : List (Point F)) → RanAlong world strategies xs ts old points → length xs ≡ length points
  all_steps [] [] old [] r = refl
  all_steps (x ∷ xs) (t ∷ ts) old (mid ∷ points) r = ap (λ n. suc n) (all_steps xs ts mid points r.2)
  all_steps xs ts old points r = absurd r

  -- a tree as opening left it
  begins : FlushesAreDeeds → (c : Core) → IsKeptTree c → IsOpened opened start (state_of [] c) → c.lost ≡ None → CameAbout opened start (tree_at nothing c)
  begins deeds c kept opens certain =
      let d = deeds.spends 0 0 c kept opened [] [] in
      let distinct : HasDistinctIds (latest_of c).tables = subst (λ t. HasDistinctIds t.state.latest.tables) (sym d.2) d.1.distinct in
      record {
        first = saved_of [] [] c;
        starts = record { opens = opens; distinct = distinct; notes = refl; others = ap (λ l. map (λ v. placed_of v.levels) (option_to_list l)) certain };
        deeds = [];
        done = refl;
        order = tt;
      }

  module _ (compose : RunsCompose Reply FindsPlaced Reopens world) (shows : FoundTablesShow) (once : FoundOnce) (high : NoLowReads) (bounded : NumbersAreBounded) (xs : List Call) (ts : List Told) (old : Point F) (points : List (Point F)) (r : RanAlong world strategies xs ts old points)
      (free : old.stage ≡ at_first old.stage.core) (still : Upholds (world old.store) (world old.store) old.stage.core old.stage.core) (past : Past) where
    abbrev outcomes : List (out.Told Reply)
    outcomes = outcomes_of xs ts old points

    abbrev all : List (Place F)
    all = places xs ts past old points

    marked : AreMarked past.journal old.stage.jobs
    marked = subst (λ (s : Stage). AreMarked past.journal s.jobs) (sym free) (first_marked_behind past.journal old.stage.core)

    whole : (many : ℕ) → IsPlainUse (take many xs) → StandsAfter world opened start past old.store old.stage.core → InOrder opened (after_all opened past (take many outcomes)).journal
        → (n : ℕ) → AreNumbered n opened (after_all opened past (take many outcomes)).journal → Composed FindsPlaced (Reopens n) world opened start (take many outcomes) (place_at past old) (take many all)
    whole many plain stands order n small =
        let os = take_twice many outcomes in
        let ps = take_twice many all in
        subst (λ (ps : List (Place F)). Composed FindsPlaced (Reopens n) world opened start (take many outcomes) (place_at past old) ps) ps
        (subst (λ (os : List (out.Told Reply)). Composed FindsPlaced (Reopens n) world opened start os (place_at past old) (take many (take many all))) os
        (compose opened start n (take many outcomes) (place_at past old) (take many all) (tables_show shows once n)
        (record { came = stands.came; now = now_found past old stands.stored still })
        (each_does many xs ts past.journal past old points r (high opened start (tree_at past old.stage.core) stands.came) plain marked stands.stored) many
        (subst (λ (os : List (out.Told Reply)). AreNumbered n opened (after_all opened past os).journal) (sym os) small)
        (subst (λ (os : List (out.Told Reply)). InOrder opened (after_all opened past os).journal) (sym os) order)))

    has_moments : HasMoments world opened start past xs ts old points
    has_moments many plain stands order = (
      λ n small. subst (λ ss. EachMoment (Reopens n) world opened start past (take many outcomes) old.store ss) (stores_same many xs ts past old points r) (whole many plain stands order n small).moments,
      record { came = came; stored = stays_stored many xs ts old points r stands.stored },
    )
      where
        came : CameAbout opened start (tree_at (after_all opened past (take many outcomes)) (last_of old (take many points)).stage.core)
        came = subst (λ (p : Place F). CameAbout opened start p.tree) (last_same many xs ts past old points r)
            (whole many plain stands order (next_number opened (after_all opened past (take many outcomes)).journal) (bounded opened (after_all opened past (take many outcomes)).journal (next_number opened (after_all opened past (take many outcomes)).journal) (omega arith))).stands.came

    tells_so : NotesTellSealed → TellsSo (may_drop strategies) world opened start past xs ts old points
    tells_so sealed many plain stands order = each_tells strategies opened world many xs ts past none_begun old points r begun merged known
      where
        begun : AreBegun none_begun old.stage.jobs
        begun = subst (λ (s : Stage). AreBegun none_begun s.jobs) (sym free) (first_begun old.stage.core)

        merged : AreMerged none_begun old.stage.jobs
        merged = subst (λ (s : Stage). AreMerged none_begun s.jobs) (sym free) (first_merged old.stage.core)

        known : (k : ℕ) → k ≤ many → sealed_in (after_all opened past (take k outcomes)).notes ≡ sealed_ids (last_of old (take k points)).stage.core
        known k low =
            let here = after_all opened past (take k outcomes) in
            let longer = front_grows opened k many outcomes past low in
            let order_here = laws.theory.kept.front opened here.journal longer.0 (subst (InOrder opened) longer.1 order) in
            sealed opened start (tree_at here (last_of old (take k points)).stage.core) (has_moments k (λ i. plain (in_front ClearActiveMemtable k many xs low i)) stands order_here).1.came

    goes_on : (is : F) (core : Core) → (last_of old points).store ≡ is → Closes (last_of old points).stage.core core → GoesOn world opened start past xs ts old points is core
    goes_on is core store closes plain stands order =
        let many = length points in
        let steps_all : take many xs ≡ xs = ap (λ n. take n xs) (sym (all_steps xs ts old points r)) ∙ take_all xs in
        let outcomes_all : take many outcomes ≡ outcomes = ap (λ n. take n outcomes) (sym (all_points xs ts old points r)) ∙ take_all outcomes in
        let last = (has_moments many (subst IsPlainUse (sym steps_all) plain) stands (subst (λ (os : List (out.Told Reply)). InOrder opened (after_all opened past os).journal) (sym outcomes_all) order)).1 in
        let there = subst (λ (ps : List (Point F)). StandsAfter world opened start (after_all opened past (take many outcomes)) (last_of old ps).store (last_of old ps).stage.core) (take_all points) last in
        let here = subst (λ (os : List (out.Told Reply)). StandsAfter world opened start (after_all opened past os) (last_of old points).store (last_of old points).stage.core) outcomes_all there in
        record {
          came = subst (λ (c : Core). CameAbout opened start (tree_at (after_all opened past outcomes) c)) (sym closes.rest) here.came;
          stored = closed_stored world (last_of old points).store is (last_of old points).stage.core core closes (sym store) here.stored;
        }

-- any map
any_map : Map
any_map = empty

pub run_has_moments : KeepLaws → (strategies : Strategies) {F : Type 0} (world : F → World) → RunsCompose Reply FindsPlaced Reopens world → FlushesAreDeeds → FoundTablesShow → FoundOnce → NoLowReads → NumbersAreBounded → NotesTellSealed → StoredIsReady F world → OnlyNow world
    → (xs : List Call) (ts : List Told) (old new : Point F) → RanTo world strategies xs ts old new → IsKeptTree old.stage.core → old.stage ≡ at_first old.stage.core → Upholds (world old.store) (world old.store) old.stage.core old.stage.core
    → (is : F) (core : Core) → is ≡ new.store → Closes new.stage.core core → AllByRecursion IsSmall (journal_of ts) → RunHasMoments world strategies xs ts (record { store = old.store; stage = at_first old.stage.core }) is core
run_has_moments laws strategies world compose deeds shows once high bounded sealed ready only xs ts old new ran kept free still is core store closes small =
    let points = ran.points in
    let r = ran.ran in
    let at_end : (last_of old points).store ≡ is = ap (λ (p : Point _). p.store) ran.ends ∙ sym store in
    let closed = subst (λ (c : Core). Closes c core) (sym (ap (λ (p : Point _). p.stage.core) ran.ends)) closes in
    subst (λ s. RunHasMoments world strategies xs ts (record { store = old.store; stage = s }) is core) free (record {
      points = points;
      ran = r;
      ends = at_end;
      closes = closed;
      small = small;
      uses = each_uses laws strategies [] any_map world xs ts old points r;
      begins = λ opened start opens certain stored. record { came = begins laws strategies opened start world deeds old.stage.core kept opens certain; stored = stored };
      moments = λ opened start past. has_moments laws strategies opened start world compose shows once high bounded xs ts old points r free still past;
      ready = each_ready laws strategies [] any_map world ready only once xs ts old points r;
      tells = λ opened start past. tells_so laws strategies opened start world compose shows once high bounded xs ts old points r free still past sealed;
      goes_on = λ opened start past. goes_on laws strategies opened start world compose shows once high bounded xs ts old points r free still past is core at_end closed;
    })

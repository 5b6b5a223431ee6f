-- From life to life.
use Rattle.std.proofs.Common.{◌≡◌, inl, inr, ℕ, ◌+◌, ◌<◌, ◌≤◌, zero, suc, Bool, true, false, List, [], ◌∷◌, ◌++◌, length, take, drop, get_or, append_assoc, append-nil, None, Err, refl, sym, ap, ◌∙◌, subst, arith}
use Rattle.std.specs.FinMap.{empty, get, same_map, slice_cmp-IsAntisymmetric, nat_cmp-IsAntisymmetric}
use Rattle.std.specs.Cmp.Lexicographic.{nat_list_cmp_total}
use Rattle.std.specs.List.{AllByRecursion}
use Rattle.std.proofs.lemmas.List.{drop_more, take-append-drop}
use Rattle.std.proofs.lemmas.List.Elements.{Contains-get_or, All-contains, All-from_recursion}
use Rattle.lsm_log_runs.specs.Entries.{Entry, above}
use Rattle.lsm_runs.specs.Keys.{Bytes}
use Rattle.lsm_runs.specs.Error.{Error}
use Rattle.lsm_log_runs.specs.Memory.{MemStore, may_of, world_of}
use Rattle.lsm_log_runs.specs.World.{Image, World, IsImage, Begins}
use Rattle.lsm_store.proofs.Memories.{gives_now}
use Rattle.lsm_runs.specs.Beginnings.{beginning, is_spared}
use Rattle.lsm_log_runs.specs.Journal.{Event, Map}
use Rattle.lsm_log_runs.specs.Recovery.{HoldsBatches, IsLogFront}
use Rattle.lsm_run_model.specs.Lives.{Crashed}
use Rattle.lsm_run_model.specs.Moments.{last_of}
use Rattle.lsm_runs.specs.Stored.{CountsFaults}
use Rattle.lsm_runs.specs.Dropping.{Drops}
use Rattle.lsm_log_runs.specs.Reply.{Reply}
use Rattle.lsm_log_runs.specs.Levels.{SeenVersion}
use Rattle.lsm_log_runs.specs.LogNames.{record_name}
use Rattle.lsm_log_runs.specs.Logs.{IsRecordAt}
use Rattle.lsm_log_runs.specs.Names.{current_name}
use Rattle.lsm_log_runs.specs.Opening.{image_read}
use Rattle.lsm_log_runs.specs.Record.{Record}
use Rattle.lsm_log_runs.specs.Records.{LogImage, logged, opened_by}
use Rattle.lsm_log_runs.specs.Versions.{first_version}
use Rattle.lsm_log_runs.specs.declared.steps.LogStep.{LogStep}
use Rattle.lsm_log_runs.specs.declared.steps.TakenLogged.{TakenLogged}
use Rattle.lsm_log_runs.specs.Images.{ReadsLog, IsNumberedBelow, LogMayBeOpened, IsWantOf}
use Rattle.lsm_log_runs.specs.Lives.{IsUsualCall, PassesOn, LoggedLife, StillKept, OpeningLife, AnyNumberOfLoggedLives, OpeningsAreLoggedLives}
use Rattle.lsm_log_runs.specs.Living.{opened_at, EachKeeps, LivesLogged}
use Rattle.lsm_log_runs.specs.Pasts.{LogPast, nothing, acknowledged}
use Rattle.lsm_log_runs.specs.Stages.{CalledStage}
use Rattle.lsm_log_runs.proofs.Lives.{tried}
use Rattle.example_lives.specs.declared.lives.Life.{Life}
use Rattle.example_lives.specs.declared.lives.Lived.{Lived}
use Rattle.example_lives.specs.declared.lives.Lived.TheVariants.{Took, Refused}
use Rattle.example_lives.specs.Remembering.{EachTakes, LivesWithLog, IsWant, EachRemembers, store_of, CanBeLeft, EachCrashes, LivesSo}

-- ---- one of the lives

pub split_at : (lives : List Life) (i : ℕ) (life : Life) → i < length lives → life ≡ get_or lives i life → take i lives ++ life ∷ drop (i + 1) lives ≡ lives
split_at lives i life within is =
    ap (λ (l : Life). take i lives ++ l ∷ drop (i + 1) lives) is ∙ ap (λ ls. take i lives ++ ls) (sym (drop_more lives i life within)) ∙ take-append-drop i lives

pub usual_at : (lives : List Life) (i : ℕ) (life : Life) → i < length lives → life ≡ get_or lives i life → AllByRecursion (λ (l : Life). AllByRecursion IsUsualCall l.steps.items) lives → AllByRecursion IsUsualCall life.steps.items
usual_at lives i life within is usual =
    let each = λ (l : Life). AllByRecursion IsUsualCall l.steps.items in
    subst each (sym is) (All-contains each lives _ (All-from_recursion each lives usual) (Contains-get_or lives i life within))

pub first_usual : (n : ℕ) (steps : List LogStep) → AllByRecursion IsUsualCall steps → AllByRecursion IsUsualCall (take n steps)
first_usual zero steps usual = tt
first_usual (suc n) [] usual = tt
first_usual (suc n) (x ∷ steps) usual = (usual.0, first_usual n steps usual.1)

module _ {F : Type 0} (May : Drops) (world : F → World) (opened : List Entry) (start : Map) where
  -- the count of failures doesn't fall to none
  still_failed : (steps : List LogStep) (replies : List Reply) (old : CalledStage F) (stages : List (CalledStage F)) → EachKeeps May world opened start steps replies old stages → AllByRecursion IsUsualCall steps
      → 0 < (world old.at).failures → 0 < (world (last_of old stages).at).failures
  still_failed [] [] old [] each usual some = some
  still_failed (x ∷ steps) (r ∷ replies) old (new ∷ stages) each usual some =
      let one = each (tried opened old.past.journal x usual.0) in
      let rises = one.0.cause.rises in
      still_failed steps replies new stages one.1 usual.1 (omega (arith, some, rises))
  still_failed [] [] old (new ∷ stages) each usual some = absurd each
  still_failed [] (r ∷ replies) old stages each usual some = absurd each
  still_failed (x ∷ steps) [] old stages each usual some = absurd each
  still_failed (x ∷ steps) (r ∷ replies) old [] each usual some = absurd each

  pub each_takes : (steps : List LogStep) (replies : List Reply) (old : CalledStage F) (stages : List (CalledStage F)) → EachKeeps May world opened start steps replies old stages → AllByRecursion IsUsualCall steps
      → EachTakes May (world (last_of old stages).at).failures opened start steps replies old.past old.counter (last_of old stages).past (last_of old stages).counter
  each_takes [] [] old [] each usual = (refl, refl)
  each_takes (x ∷ steps) (r ∷ replies) old (new ∷ stages) each usual =
      let one = each (tried opened old.past.journal x usual.0) in
      let draws = one.0.draws in (
        one.0.answers,
        one.0.reason,
        λ blamed. (let failed = one.0.cause.cause blamed in still_failed steps replies new stages one.1 usual.1 (omega (arith, failed))),
        (new.past, new.counter, one.0.adds, draws.0, draws.1, each_takes steps replies new stages one.1 usual.1),
      )
  each_takes [] [] old (new ∷ stages) each usual = absurd each
  each_takes [] (r ∷ replies) old stages each usual = absurd each
  each_takes (x ∷ steps) [] old stages each usual = absurd each
  each_takes (x ∷ steps) (r ∷ replies) old [] each usual = absurd each

-- why an opening was refused, where it counts failures as its error says
pub is_want : {T : Type 0} (old new : World) (e : Error) → IsWantOf e → CountsFaults {T = T} old new (Err e) → IsWant e new.failures
is_want old new e (inl memory) counts = inl memory
is_want old new e (inr (inl store)) counts = let more = counts.store (ap Err store) in inr (inl store, omega (arith, more))
is_want old new e (inr (inr unknown)) counts = let more = counts.unknown (ap Err unknown) in inr (inr unknown, omega (arith, more))

-- ---- a life, over what was kept

-- what a crash may leave of the next store could be left of the one before
left_of : (is next : MemStore) (image : Image) → IsImage (may_of is.files) image → Begins image (world_of next) → (x : Image) → IsImage (world_of next).may x → IsImage (may_of is.files) x
left_of is next image may begins x at n = subst (may_of is.files n) (sym ((begins.may n (x n)).0 (at n))) (may n)

-- it ended in this crash, after its last step
ends_in : (is next : MemStore) (image : Image) → IsImage (may_of is.files) image → Begins image (world_of next) → (before : MemStore) → PassesOn world_of before is next
ends_in is next image may begins before =
    record { end = Crashed image; ends = record { each = λ x same. inl (subst (IsImage (may_of is.files)) (sym same) may); gives = tt }; takes = begins }

-- what a crash leaves after it may be opened, and keeps it
pub kept_by : (May : Drops) → AnyNumberOfLoggedLives May world_of → (was is : MemStore) (steps : List LogStep) (replies : List Reply) (life : LivesLogged May world_of 0 steps replies was is) → AllByRecursion IsUsualCall steps
    → (next : MemStore) (image : Image) → IsImage (may_of is.files) image → Begins image (world_of next)
    → (let read = image_read life.version life.records in let last = last_of (opened_at life.first life.counter) life.stages in StillKept (opened_by read) (logged read) last.past (acknowledged last.past) last.counter (world_of next)) × LogMayBeOpened (world_of next)
kept_by May any was is steps replies life usual next image may begins =
    let lived : LoggedLife May world_of was next = record { steps = steps; replies = replies; is = is; from = 0; life = life; usual = usual; then = ends_in is next image may begins _ } in
    let well = (any was (next ∷ []) (inl lived, tt)).0 in
    (λ x at. well.behind x at (inl (left_of is next image may begins x at)), well.opens)

-- A life began with a map that was left, and is kept itself in whatever a crash leaves of its store.
pub record BeginsLeft (May : Drops) (Left : Map → Type 0) (least : ℕ) (steps : List LogStep) (taken : TakenLogged) (is : MemStore) : Type 0 where
  pub start : Map
  pub left : Left start
  pub life : LivesWithLog May start least steps taken is.failures
  pub opened : List Entry
  pub goes_on : (next : MemStore) (image : Image) → IsImage (may_of is.files) image → Begins image (world_of next)
      → StillKept opened start life.past (acknowledged life.past) life.last (world_of next) × LogMayBeOpened (world_of next)

pub begins_left : (May : Drops) → AnyNumberOfLoggedLives May world_of → (was is : MemStore) (steps : List LogStep) (taken : TakenLogged) → LivesSo May was steps (Took taken is) → AllByRecursion IsUsualCall steps
    → (opened : List Entry) (start : Map) (past : LogPast) (least : ℕ) → StillKept opened start past (acknowledged past) least (world_of was)
    → BeginsLeft May (λ m. HoldsBatches start past.journal past.notes past.lost (acknowledged past) m) least steps taken is
begins_left May any was is steps taken how usual opened start past least kept =
    let n = length taken.replies.items in
    let life : LivesLogged May world_of 0 (take n steps) taken.replies.items was is = how.1 in
    let read = image_read life.version life.records in
    let held = (kept (world_of was).gives (gives_now was)).reads life.version life.records life.read in
    let last = last_of (opened_at life.first life.counter) life.stages in
    let usual_taken = first_usual n steps usual in
    let takes = each_takes May world_of (opened_by read) (logged read) (take n steps) taken.replies.items (opened_at life.first life.counter) life.stages life.keeps usual_taken in
    let starts = life.starts least held.under in
    record {
      start = logged read;
      left = held.recovers.holds;
      life = record {
        all = how.0;
        opened = opened_by read;
        counter = life.counter;
        found = life.above_found;
        starts = omega (arith, starts);
        past = last.past;
        last = last.counter;
        takes = subst (λ (s : MemStore). EachTakes May s.failures (opened_by read) (logged read) (take n steps) taken.replies.items nothing life.counter last.past last.counter) life.ends takes;
      };
      opened = opened_by read;
      goes_on = kept_by May any was is (take n steps) taken.replies.items life usual_taken;
    }

-- ---- from life to life

-- what comes after some lives: what is kept of the last one that was opened, which numbered all below this
pub record SoFar (May : Drops) (w : World) (lives : List Life) (lived : List Lived) : Type 0 where
  pub opened : List Entry
  pub start : Map
  pub past : LogPast
  pub least : ℕ
  pub kept : StillKept opened start past (acknowledged past) least w
  pub opens : LogMayBeOpened w
  pub goes_on : (more : List Life) (rest : List Lived) (crashed : Bool) → EachRemembers May (λ m. HoldsBatches start past.journal past.notes past.lost (acknowledged past) m) least more rest crashed
      → EachRemembers May (λ m. m ≡ empty) 0 (lives ++ more) (lived ++ rest) crashed

-- one life more, after which a crash left this store
pub one_more : (May : Drops) → AnyNumberOfLoggedLives May world_of → OpeningsAreLoggedLives world_of → (was next : MemStore) (lives : List Life) (lived : List Lived) (life : Life) (how : Lived) → SoFar May (world_of was) lives lived
    → AllByRecursion IsUsualCall life.steps.items → LivesSo May was life.steps.items how → (image : Image) → IsImage (may_of (store_of how).files) image → Begins image (world_of next) → SoFar May (world_of next) (lives ++ life ∷ []) (lived ++ how ∷ [])
one_more May any openings was next lives lived life (Took taken is) so_far usual lives_so image may begins =
    let b = begins_left May any was is life.steps.items taken lives_so usual so_far.opened so_far.start so_far.past so_far.least so_far.kept in
    let on = b.goes_on next image may begins in
    record {
      opened = b.opened;
      start = b.start;
      past = b.life.past;
      least = b.life.last;
      kept = on.0;
      opens = on.1;
      goes_on = λ more rest crashed each. rw (append_assoc lives (life ∷ []) more, append_assoc lived (Took taken is ∷ []) rest) (so_far.goes_on (life ∷ more) (Took taken is ∷ rest) crashed (b.start, b.left, (b.life, inl each)));
    }
one_more May any openings was next lives lived life (Refused e is) so_far usual lives_so image may begins =
    let opening : OpeningLife world_of was next = record { is = is; may = so_far.opens.read; leaves = lives_so.1; then = ends_in is next image may begins was } in
    let on = openings was next opening in
    record {
      opened = so_far.opened;
      start = so_far.start;
      past = so_far.past;
      least = so_far.least;
      kept = on.keeps so_far.opened so_far.start so_far.past _ so_far.least so_far.kept;
      opens = on.opens so_far.opens;
      goes_on = λ more rest crashed each. rw (append_assoc lives (life ∷ []) more, append_assoc lived (Refused e is ∷ []) rest) (so_far.goes_on (life ∷ more) (Refused e is ∷ rest) crashed (lives_so.0, inl each));
    }

-- the last one, where no crash leaves what is picked
pub ends_so : (May : Drops) → AnyNumberOfLoggedLives May world_of → (was : MemStore) (lives more : List Life) (lived : List Lived) (life : Life) (how : Lived) → SoFar May (world_of was) lives lived → AllByRecursion IsUsualCall life.steps.items → LivesSo May was life.steps.items how
    → EachRemembers May (λ m. m ≡ empty) 0 (lives ++ life ∷ more) (lived ++ how ∷ []) false
ends_so May any was lives more lived life (Took taken is) so_far usual lives_so =
    let b = begins_left May any was is life.steps.items taken lives_so usual so_far.opened so_far.start so_far.past so_far.least so_far.kept in
    so_far.goes_on (life ∷ more) (Took taken is ∷ []) false (b.start, b.left, (b.life, inr (refl, refl)))
ends_so May any was lives more lived life (Refused e is) so_far usual lives_so = so_far.goes_on (life ∷ more) (Refused e is ∷ []) false (lives_so.0, inr (refl, refl))

pub all_remember : (May : Drops) (w : World) (lives : List Life) (lived : List Lived) → SoFar May w lives lived → EachRemembers May (λ m. m ≡ empty) 0 lives lived true
all_remember May w lives lived so_far = rw (sym (append-nil lives), sym (append-nil lived)) (so_far.goes_on [] [] true refl)

-- ---- from crash to crash

-- what comes after some crashes
pub record CrashesSoFar (lives : List Life) (lived : List Lived) : Type 0 where
  pub goes_on : (more : List Life) (rest : List Lived) (crashed : Bool) → EachCrashes more rest crashed → EachCrashes (lives ++ more) (lived ++ rest) crashed

pub one_crash_more : (lives : List Life) (lived : List Lived) (life : Life) (how : Lived) → CrashesSoFar lives lived → CanBeLeft life.picks.items (store_of how) → CrashesSoFar (lives ++ life ∷ []) (lived ++ how ∷ [])
one_crash_more lives lived life how so_far can =
    record { goes_on = λ more rest crashed each. rw (append_assoc lives (life ∷ []) more, append_assoc lived (how ∷ []) rest) (so_far.goes_on (life ∷ more) (how ∷ rest) crashed (inl (can, each))) }

pub last_crash : (lives more : List Life) (lived : List Lived) (life : Life) (how : Lived) → CrashesSoFar lives lived → (CanBeLeft life.picks.items (store_of how) → ⊥) → EachCrashes (lives ++ life ∷ more) (lived ++ how ∷ []) false
last_crash lives more lived life how so_far cannot = so_far.goes_on (life ∷ more) (how ∷ []) false (inr (cannot, refl, refl))

pub all_crash : (lives : List Life) (lived : List Lived) → CrashesSoFar lives lived → EachCrashes lives lived true
all_crash lives lived so_far = rw (sym (append-nil lives), sym (append-nil lived)) (so_far.goes_on [] [] true refl)

-- ---- a new store

no_records : (image : Image) → ((n : List ℕ) → image n ≡ None) → (records : List Record) → AllByRecursion (λ r. IsRecordAt image r.number r) records → records ≡ []
no_records image none [] h = refl
no_records image none (r ∷ records) h = let file = h.0.file in absurd (cc (sym (none (record_name r.number)) ∙ file))

-- what is read there: nothing
abbrev pub fresh : LogImage
fresh = image_read first_version []

pub reads_fresh : (image : Image) → ((n : List ℕ) → image n ≡ None) → (v : SeenVersion) (records : List Record) → ReadsLog image v records → image_read v records ≡ fresh
reads_fresh image none v records read =
    ap (λ (u : SeenVersion). image_read u records) (read.version.fresh (none current_name)) ∙ ap (λ rs. image_read first_version rs) (no_records image none records read.log.records_are)

pub fresh_low : IsNumberedBelow 0 fresh
fresh_low = record { entries = omega arith; records = tt; log_from = omega arith }

nothing_holds : HoldsBatches empty [] [] None 0 empty
nothing_holds = record { place = 0; enough = omega arith; within = omega arith; front = []; is_front = inl (inl refl); whole = λ e f i j same. absurd i; shows = λ k spared. refl }

kept_new : (w : World) → Begins (λ n. None) w → LogMayBeOpened w → StillKept [] empty nothing 0 0 w
kept_new w new may image at =
    let h = may.read.stands image at in
    let none : (n : List ℕ) → image n ≡ None = λ n. (new.may n (image n)).0 (at n) in
    record {
      finds = h.finds;
      log = h.log;
      good = h.good;
      reads = λ v records read.
          let stands = h.reads v records read in
          let is = reads_fresh image none v records read in
          record {
            recovers = record { stands = stands; holds = subst (λ i. HoldsBatches empty [] [] None 0 (logged i)) (sym is) nothing_holds };
            numbered = λ n below. subst (λ i. above (opened_by i) ≤ n) (sym is) (omega arith);
            under = subst (IsNumberedBelow 0) (sym is) fresh_low;
          };
    }

-- a beginning of nothing, from nothing, is nothing
empty_front : (place : ℕ) → place ≤ 0 → (front : List Event) → IsLogFront [] [] None place front → front ≡ []
empty_front zero within front (inl (inl is)) = is
empty_front zero within front (inl (inr clear)) = absurd clear.1
empty_front zero within front (inr batch) = absurd (cc batch.1)
empty_front (suc n) within front is = absurd (omega (arith, within))

nothing_spoils : (k : Bytes) (place : ℕ) → is_spared k [] (drop place []) ≡ true
nothing_spoils k zero = refl
nothing_spoils k (suc n) = refl

holds_nothing : (m : Map) → HoldsBatches empty [] [] None 0 m → m ≡ empty
holds_nothing m holds =
    let none = empty_front holds.place holds.within holds.front holds.is_front in
    same_map nat_list_cmp_total (slice_cmp-IsAntisymmetric nat_cmp-IsAntisymmetric) m empty (λ k.
    holds.shows k (subst (λ f. is_spared k f (drop holds.place []) ≡ true) (sym none) (nothing_spoils k holds.place)) ∙ ap (λ f. get (beginning empty f) k) none)

-- what is left of nothing is nothing
from_nothing : (May : Drops) (least : ℕ) (lives : List Life) (lived : List Lived) (crashed : Bool) → EachRemembers May (λ m. HoldsBatches empty [] [] None 0 m) least lives lived crashed → EachRemembers May (λ m. m ≡ empty) least lives lived crashed
from_nothing May least [] [] crashed each = each
from_nothing May least (life ∷ lives) (Took taken store ∷ lived) crashed (start, left, rest) = (start, holds_nothing start left, rest)
from_nothing May least (life ∷ lives) (Refused e store ∷ lived) crashed (want, inl rest) = (want, inl (from_nothing May least lives lived crashed rest))
from_nothing May least (life ∷ lives) (Refused e store ∷ lived) crashed (want, inr ends) = (want, inr ends)
from_nothing May least [] (how ∷ lived) crashed each = absurd each
from_nothing May least (life ∷ lives) [] crashed each = absurd each

pub so_far_none : (May : Drops) (w : World) → Begins (λ n. None) w → LogMayBeOpened w → SoFar May w [] []
so_far_none May w new may = record {
  opened = [];
  start = empty;
  past = nothing;
  least = 0;
  kept = kept_new w new may;
  opens = may;
  goes_on = λ more rest crashed each. from_nothing May 0 more rest crashed each;
}

pub crashes_none : CrashesSoFar [] []
crashes_none = record { goes_on = λ more rest crashed each. each }

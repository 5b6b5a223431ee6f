-- How far two lives came, between which a crash was to come.
use Rattle.std.proofs.Common.{ℕ, ◌≡◌, ◌≤◌, ◌^◌, List, [], Option, None, Some, Err, length, OnOk}
use Rattle.std.specs.FinMap.{empty}
use Rattle.lsm_runs.specs.Entries.{Entry, above}
use Rattle.lsm_runs.specs.Error.{Error}
use Rattle.lsm_runs.specs.Memory.{MemStore, world_of}
use Rattle.lsm_runs.specs.Picks.{Picks, picked, Crashes}
use Rattle.lsm_runs.specs.World.{Begins}
use Rattle.lsm_runs.specs.Journal.{Map, next_number}
use Rattle.lsm_runs.specs.Finding.{RefusesFound, FoundOnce}
use Rattle.lsm_manifest.proofs.FindingLemmas.{nothing_in as none}
use Rattle.lsm_manifest.specs.declared.opening.Opened.{Opened}
use Rattle.lsm_manifest.specs.Recovery.{CountsStore}
use Rattle.lsm_manifest.specs.Told.{Told as Refusal, TellsOpen}
use Rattle.lsm_runs.specs.Outcomes as out
use Rattle.lsm_runs.specs.declared.steps.Step.{Step}
use Rattle.lsm_runs.specs.declared.steps.Reply.{Reply}
use Rattle.lsm_runs.specs.declared.steps.Taken.{Taken}
use Rattle.lsm_runs.specs.Dropping.{Drops}
use Rattle.lsm_runs.specs.Runs.{journal_of}
use Rattle.example_crash.specs.Single.{KeepsOrder, MayBeOpened, HasLived, ComesAfter}
use Rattle.example_crash.specs.Survival.{steps_taken, IsWant, Survives, EndsWith, Goes, CrashesAsPicked}
use Rattle.example_crash.specs.declared.lives.Life.{Life}
use Rattle.example_crash.specs.declared.lives.Course.TheVariants.{NotSo, NotReopened, Lived}
use Rattle.example_crash.proofs.Again.{Settles, Stands, opens_new, small_new, comes_crashed, over_nothing, survives}
use Rattle.example_crash.proofs.Wants.{wants}

-- what is known of the refusal of an opening
abbrev pub Refuses : MemStore → Error → MemStore → Type 0
Refuses was e is = ((m : Map) → MayBeOpened was m → RefusesFound (world_of was).gives e) × Refusal TellsOpen (CountsStore {T = Opened} (world_of was) (world_of is)) (Err e)

pub refused_new : Settles → Stands → FoundOnce → (was : MemStore) → Begins none (world_of was) → (e : Error) (is : MemStore) → Refuses was e is → IsWant e is.failures
refused_new ready stands once was new e is refuses = wants was is e (small_new once was new) (refuses.0 empty (opens_new ready stands was new)) refuses.1

pub refused_again : (was : MemStore) {opened : List Entry} {outcomes : List (out.Told Reply)} {least : ℕ} → ComesAfter opened empty outcomes least was → (e : Error) (is : MemStore) → Refuses was e is → IsWant e is.failures
refused_again was comes e is refuses = wants was is e comes.small (refuses.0 comes.left comes.opens) refuses.1

-- ---- after a first life

module _ (May : Drops) (was : MemStore) (from : ℕ) (first : List Step) (picks : Picks) (life : Life) (h : HasLived May empty was from (steps_taken first life.taken) life.taken.outcomes.items life.store) where
  ends : EndsWith May from was first life
  ends = record { lives = h.lives; causes = h.causes }

  pub crashed_not : Crashes life.store.files (picked life.store.files picks) None → CrashesAsPicked May from was first picks (NotSo life)
  crashed_not isnt = (ends, isnt)

  pub crashed_again : (left : MemStore) → Crashes life.store.files (picked life.store.files picks) (Some left) → (e : Error) (is : MemStore) → CrashesAsPicked May from was first picks (NotReopened life e is)
  crashed_again left crashed e is = (ends, crashed.0)

  pub crashed_lived : (left : MemStore) → Crashes life.store.files (picked life.store.files picks) (Some left) → (next : Life) → CrashesAsPicked May from was first picks (Lived life next)
  crashed_lived left crashed next = (ends, crashed.0)

  module _ (new : Begins none (world_of was)) (k : KeepsOrder h.lives.opened h.lives.counter (steps_taken first life.taken)) (all : OnOk life.taken.ended (length life.taken.outcomes.items ≡ length first)) (again : ℕ) (second : List Step) where
    pub goes_not : Crashes life.store.files (picked life.store.files picks) None → Goes May from first picks again second (NotSo life)
    goes_not isnt = (over_nothing May was from first life.taken life.store new h k all, isnt)

    module _ (settles : Settles) (left : MemStore) (crashed : Crashes life.store.files (picked life.store.files picks) (Some left)) where
      comes : ComesAfter h.lives.opened empty h.lives.outcomes (next_number h.lives.opened (journal_of life.taken.outcomes.items)) left
      comes = comes_crashed May empty was from (steps_taken first life.taken) life.taken.outcomes.items life.store h k settles (picked life.store.files picks) left crashed.0 crashed.1.world

      pub goes_again : (e : Error) (is : MemStore) → Refuses left e is → Goes May from first picks again second (NotReopened life e is)
      goes_again e is refuses = (over_nothing May was from first life.taken life.store new h k all, crashed.0, refused_again left comes e is refuses)

      pub goes_lived : (next : Life) → ((m : Map) → MayBeOpened left m → HasLived May m left again (steps_taken second next.taken) next.taken.outcomes.items next.store)
          → ((m : Map) (l : HasLived May m left again (steps_taken second next.taken) next.taken.outcomes.items next.store) → above l.lives.opened ≤ next_number h.lives.opened (journal_of life.taken.outcomes.items) → KeepsOrder l.lives.opened l.lives.counter (steps_taken second next.taken))
          → OnOk next.taken.ended (length next.taken.outcomes.items ≡ length second) → Goes May from first picks again second (Lived life next)
      goes_lived next lives keeps whole = (crashed.0, survives May was from first life.taken life.store new h k all left comes again second next.taken next.store lives keeps whole life.store.failures (λ some. some))

-- Clears, and how unflushed entries are forgotten, as steps of a run.
use Rattle.std.proofs.Common.{◌≡◌, ◌⊎◌, inl, inr, ℕ, List, [], ◌∷◌, Result, Ok, Err, refl, sym, ap, ◌∙◌, subst}
use Rattle.lsm_below.specs.declared.error.Error.{Error}
use Rattle.lsm_below.specs.declared.error.Error.TheVariants.{OutOfMemory, Store, CommitUnknown, Unrecoverable, OutOfNumbers}
use Rattle.lsm_below.specs.Entries.{Entry}
use Rattle.lsm_model.specs.Journal.{Event}
use Rattle.lsm_parts.specs.Held.{first_entries}
use Rattle.lsm_state.specs.Core.{Core}
use Rattle.lsm_state.specs.Commits.{doubted}
use Rattle.lsm_state.specs.Clearing.{cleared, cleared_in, Clears, clear_events, ClearsKeepReads, forgotten, ForgetsUnflushed}
use Rattle.lsm_runs.specs.declared.steps.Reply.{Reply}
use Rattle.lsm_runs.specs.declared.steps.Reply.TheVariants.{Cleared, Done, Refused}
use Rattle.lsm_journal.specs.NotedClears.{ClearsNoted}
use Rattle.lsm_runs.specs.Clearing.{TakesClear, TakesForget, told_clear}
use Rattle.lsm_runs.proofs.Keeping.{AreNoReads, KeepsAfter, keeps_any}
use Rattle.lsm_runs.proofs.CompactionRest.{KeepsOpenWork, kept_by, same_or_counted}

-- ---- a clear

-- a clear, of which the number that the counter stood at is noted
pub clear_taken : (r : Result ℕ Error) (events : List Event) (old new : Core) → ClearsNoted r events old new → TakesClear (told_clear events r).reply (told_clear events r).entries old new
clear_taken (Ok n) events old new t = t
clear_taken (Err x) events old new t = t

unread : (r : Result ℕ Error) → AreNoReads (clear_events r)
unread (Ok n) opened = refl
unread (Err x) opened = refl

noted_after : ClearsKeepReads → (r : Result ℕ Error) (journal events : List Event) (old new : Core) → ClearsNoted r events old new → KeepsAfter journal events old new
noted_after law r journal events old new t = subst (λ es. KeepsAfter journal es old new) (sym t.0) (keeps_any journal (clear_events r) old new (unread r) (law.clears r old new t.2))

pub clear_after : ClearsKeepReads → (reply : Reply) (journal events : List Event) (old new : Core) → TakesClear reply events old new → KeepsAfter journal events old new
clear_after law (Cleared n) journal events old new t = noted_after law (Ok n) journal events old new t
clear_after law (Refused x) journal events old new t = noted_after law (Err x) journal events old new t
clear_after law reply journal events old new t = absurd t

-- an open flush and open merges stay open
clears_work : (r : Result ℕ Error) (old new : Core) → Clears r old new → KeepsOpenWork old new
clears_work (Ok n) old new c = kept_by old (cleared old) new c.ok.1 (refl, refl)
clears_work (Err x) old new c = go c.only
  where
    go : ((x ≡ OutOfMemory) ⊎ (x ≡ Store)) ⊎ ((x ≡ CommitUnknown) ⊎ ((x ≡ OutOfNumbers) ⊎ (x ≡ Unrecoverable))) → KeepsOpenWork old new
    go (inl (inl is)) = same_or_counted old new (c.memory (ap Err is))
    go (inl (inr is)) = same_or_counted old new (inr (c.store (ap Err is)))
    go (inr (inl is)) = kept_by old (doubted (cleared_in old) old) new (c.unknown (ap Err is)) (refl, refl)
    go (inr (inr (inl is))) = kept_by old old new (c.before (inr (ap Err is))) (refl, refl)
    go (inr (inr (inr is))) = kept_by old old new (c.before (inl (ap Err is))) (refl, refl)

pub clear_work : (reply : Reply) (events : List Event) (old new : Core) → TakesClear reply events old new → KeepsOpenWork old new
clear_work (Cleared n) events old new t = clears_work (Ok n) old new t.1
clear_work (Refused x) events old new t = clears_work (Err x) old new t.1
clear_work reply events old new t = absurd t

-- ---- unflushed entries

forgets : (old new : Core) → ForgetsUnflushed (Ok tt) old new → (new ≡ old) ⊎ (new ≡ forgotten old)
forgets old new f = go (first_entries old.memtables) refl
  where
    go : (entries : List Entry) → first_entries old.memtables ≡ entries → (new ≡ old) ⊎ (new ≡ forgotten old)
    go [] none = inl (f.nothing none).1
    go (e ∷ entries) some = inr (f.ok (λ none. some_left (sym some ∙ none)))
      where
        some_left : e ∷ entries ≡ [] → ⊥
        some_left is = cc

-- they are forgotten, or nothing is done
pub forgets_either : (reply : Reply) (events : List Event) (old new : Core) → TakesForget reply events old new → (new ≡ old) ⊎ (new ≡ forgotten old)
forgets_either Done events old new t = forgets old new t.1
forgets_either (Refused x) events old new t = inl t.1.err
forgets_either reply events old new t = absurd t

pub forget_work : (reply : Reply) (events : List Event) (old new : Core) → TakesForget reply events old new → KeepsOpenWork old new
forget_work reply events old new t = go (forgets_either reply events old new t)
  where
    go : (new ≡ old) ⊎ (new ≡ forgotten old) → KeepsOpenWork old new
    go (inl is) = kept_by old old new is (refl, refl)
    go (inr is) = kept_by old (forgotten old) new is (refl, refl)

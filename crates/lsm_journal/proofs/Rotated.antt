-- A flush after a rotation.
use Rattle.std.proofs.Common.{ℕ, List, Option, Some, None, Result, Ok, Err, inr, subst}
use Rattle.lsm_below.specs.declared.error.Error.{Error}
use Rattle.lsm_store.specs.World.{World}
use Rattle.lsm_model.specs.Journal.{Event}
use Rattle.lsm_flush.specs.declared.jobs.Registered.{Registered}
use Rattle.lsm_state.specs.Calls.{Rotates}
use Rattle.lsm_state.specs.Core.{Core}
use Rattle.lsm_state.specs.Commits.{Upholds}
use Rattle.lsm_state.specs.WholeFlushes.{answer_behind}
use Rattle.lsm_journal.specs.NotedFlushes.{FlushesNoted, FlushesActiveNoted}

-- ---- the rotation

pub rotated_upholds : (w v : World) (old mid new : Core) (id : Option ℕ) → Rotates old id mid → Upholds w v mid new → Upholds w v old new
rotated_upholds w v old mid new None t u = subst (λ c. Upholds w v c new) t.1 u
rotated_upholds w v old mid new (Some id) t u = let behind = subst (λ c. Upholds w v c new) t.2 u in record { files = behind.files; passes = behind.passes }

-- ---- the flush after it

abbrev Flushed : Type 0
Flushed = Result (Option (ℕ × Registered)) Error

pub active_noted : (w : ℕ) (id : Option ℕ) (r : Flushed) (events : List Event) (old mid new : Core) → Rotates old id mid → FlushesNoted w r events mid new → FlushesActiveNoted w (answer_behind id r) events old new
active_noted w id (Ok a) events old mid new rotates flushes = record { ok = (mid, rotates, flushes); err = tt }
active_noted w id (Err e) events old mid new rotates flushes = record { ok = tt; err = inr (mid, rotates, flushes) }

-- A rotation leaves the tree's files as they are stored.
use Rattle.std.proofs.Common.{ℕ, Option, Some, None, sym, subst}
use Rattle.lsm_store.specs.World.{World}
use Rattle.lsm_commit.specs.Stored.{IsStored}
use Rattle.lsm_runs.specs.declared.steps.Reply.TheVariants.{Sealed}
use Rattle.lsm_runs.specs.Files.{StaysStored}
use Rattle.lsm_state.specs.Core.{Core, versions_left, written_of}
use Rattle.lsm_logged.specs.Keeping.{SeenLogged}
use Rattle.lsm_log_runs.specs.Runs.{TakesRotate}

abbrev IsStoredIn : World → Core → Type 0
IsStoredIn w c = IsStored w (versions_left c) (written_of c)

pub rotates_stored : {S : Type 0} (world : S → World) (old new : SeenLogged S) (id : Option ℕ) → TakesRotate (Sealed id) old new → StaysStored (world old.store) (world new.store) old.core new.core
rotates_stored {S} world old new None takes h = subst (λ (x : S). IsStoredIn (world x) new.core) (sym takes.1.store) (subst (IsStoredIn (world old.store)) (sym takes.0.1) h)
rotates_stored {S} world old new (Some id) takes h = subst (λ (x : S). IsStoredIn (world x) new.core) (sym takes.1.store) (subst (IsStoredIn (world old.store)) (sym takes.0.2) h)

-- Which replies of a run blame the store, and that each of them has its cause.
use Rattle.std.specs.Prelude.{◌≡◌, false, List, [], ◌∷◌}
use Rattle.lsm_store.specs.World.{World}
use Rattle.lsm_commit.specs.Causes.{HasCause, BlamesStore}
use Rattle.lsm_state.specs.Causes.{IsUnclean}
use Rattle.lsm_runs.specs.declared.steps.Reply.{Reply}
use Rattle.lsm_runs.specs.declared.steps.Reply.TheVariants.{Registered, Flushed, FlushedActive, RefusedActive, Refused}
use Rattle.lsm_runs.specs.Told.{Told}

-- the reply blames the store: as a refusal, or a clean-up wasn't whole
abbrev pub ReplyBlames : Reply → Type 0
ReplyBlames (Registered a) = a.cleaned ≡ false
ReplyBlames (Flushed a) = IsUnclean a
ReplyBlames (FlushedActive id a) = IsUnclean a
ReplyBlames (RefusedActive id e) = BlamesStore e
ReplyBlames (Refused e) = BlamesStore e
ReplyBlames reply = ⊥

-- along these outcomes a call of the store failed in each step whose reply blames it, and none outside of the steps
abbrev pub EachHasCause : {F : Type 0} → (F → World) → List Told → F → F → Type 0
EachHasCause world [] was is = (world is).failures ≡ (world was).failures
EachHasCause {F} world (t ∷ ts) was is = (mid : F) × HasCause (ReplyBlames t.reply) (world was) (world mid) × EachHasCause world ts mid is

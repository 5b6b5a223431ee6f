use Rattle.std.proofs.Common.{sym, subst}
use Rattle.lsm_versions.specs.Levels.{Levels}
use Rattle.lsm_checks.specs.Choices.{AreOneById}
use Rattle.lsm_checks.proofs.choice.last_reason_by_ids.Goals as goal

pub ids_stand-requires : goal.ids_stand-requires
ids_stand-requires c = subst (λ (ls : Levels). AreOneById c.args.inputs.now ls) (sym c.levels.ensures) c.requires

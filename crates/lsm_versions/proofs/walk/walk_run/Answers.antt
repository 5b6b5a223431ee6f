use Rattle.std.proofs.Common.{sym, ap, ◌∙◌}
use Rattle.std.specs.Prelude.{option_copied}
use Rattle.lsm_versions.proofs.Walks.{found_in, walk_in_run}
use Rattle.lsm_versions.proofs.walk.walk_run.Goals as goal

pub returns-in-Some : goal.returns-in-Some
returns-in-Some c =
    let k = c.args.key.now in
    c.get.ensures.is
    ∙ sym (walk_in_run c.keys_are_ordered.ensures k c.args.snapshot c.args.run.now c.facts.ensures.run c.requires
    ∙ ap (found_in k c.args.snapshot) (sym c.get_for_key.ensures ∙ ap option_copied c.in-Some.is))

pub returns-in-None : goal.returns-in-None
returns-in-None c =
    let k = c.args.key.now in
    sym (walk_in_run c.keys_are_ordered.ensures k c.args.snapshot c.args.run.now c.facts.ensures.run c.requires
    ∙ ap (found_in k c.args.snapshot) (sym c.get_for_key.ensures ∙ ap option_copied c.in-None.is))

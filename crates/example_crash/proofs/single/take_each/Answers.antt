use Rattle.std.proofs.Common.{◌∙◌, ◌+◌, ◌++◌, ◌∷◌, [], List, ap, sym, length, length-append, append-nil, append_assoc, take, subst}
use Rattle.lsm_runs.specs.declared.steps.Step.{Step}
use Rattle.lsm_runs.specs.Dropping.{allowed}
use Rattle.lsm_runs.specs.Told.{Told}
use Rattle.example_crash.specs.Single.{HasTaken}
use Rattle.example_crash.proofs.Growing.{more_behind}
use Rattle.example_crash.proofs.single.take_each.Goals as goal

pub loop-at-init : goal.loop-at-init
loop-at-init g c =
    let none = c.new-outcomes.ensures.items in
    record {
      many = ap (λ ts. length ts) none;
      taken = λ may allows m was from before told old.
          subst (λ (ts : List Told). HasTaken (allowed may) m was from (before ++ []) (told ++ ts) c.args.tree.now) (sym none)
          (subst (λ (ts : List Told). HasTaken (allowed may) m was from (before ++ []) ts c.args.tree.now) (sym (append-nil told)) (subst (λ (xs : List Step). HasTaken (allowed may) m was from xs told c.args.tree.now) (sym (append-nil before)) old));
    }

pub loop-at-preserved : goal.loop-at-preserved
loop-at-preserved g c =
    let h = c.in-Ok.ensures.ok in
    let steps = c.args.steps.now in
    let answers = c.loop-at.outcomes.items in
    record {
      many = ap (λ l. length l) h.1 ∙ length-append _ _ ∙ ap (λ n. n + 1) c.loop-at.invariant.many;
      taken = λ may allows m was from before told old.
          let so = h.2 may allows m was from (before ++ take c.loop-at.at steps) (told ++ answers) (c.loop-at.invariant.taken may allows m was from before told old) in
          subst (λ (ts : List Told). HasTaken (allowed may) m was from (before ++ take (c.loop-at.at + 1) steps) ts c.add_it.new.tree) (append_assoc told answers (h.0 ∷ []) ∙ ap (λ ts. told ++ ts) (sym h.1))
          (subst (λ (xs : List Step). HasTaken (allowed may) m was from xs ((told ++ answers) ++ h.0 ∷ []) c.add_it.new.tree) (more_behind before steps c.loop-at.at) so);
    }

pub returns-in-Err-clause-taken : goal.returns-in-Err-clause-taken
returns-in-Err-clause-taken g c may allows m was from before told old =
    let steps = c.args.steps.now in
    let answers = c.loop-at.outcomes.items in
    let so = c.in-Err.ensures.err may m was from (before ++ take c.loop-at.at steps) (told ++ answers) (c.loop-at.invariant.taken may allows m was from before told old) in
    subst (λ (ts : List Told). HasTaken (allowed may) m was from (before ++ take (length ts) steps) (told ++ ts) c.add_it.new.tree) (sym c.in-Err.ensures.outcomes_err)
    (subst (λ n. HasTaken (allowed may) m was from (before ++ take n steps) (told ++ answers) c.add_it.new.tree) (sym c.loop-at.invariant.many) so)

pub returns-clause-taken : goal.returns-clause-taken
returns-clause-taken g c may allows m was from before told old =
    let so = c.loop-at.invariant.taken may allows m was from before told old in
    subst (λ n. HasTaken (allowed may) m was from (before ++ take n c.args.steps.now) (told ++ c.loop-at.outcomes.items) c.loop-at.tree) (sym c.loop-at.invariant.many) so

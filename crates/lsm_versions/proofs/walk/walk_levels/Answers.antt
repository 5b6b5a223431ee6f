use Rattle.std.proofs.Common.{sym, subst, ap, ◌∙◌}
use Rattle.std.specs.Option.{option_or}
use Rattle.std.specs.Prelude.{option_copied}
use Rattle.lsm_below.specs.Each.{each_left, each_right}
use Rattle.lsm_below.specs.Optimizes.{tables_of}
use Rattle.lsm_model.specs.Views.{walk}
use Rattle.lsm_versions.specs.Levels.{all_of, AreCovered}
use Rattle.lsm_versions.proofs.Walks.{entries_of, walk_on, split_levels}
use Rattle.lsm_versions.proofs.walk.walk_levels.Goals as goal

pub walk_runs-requires : goal.walk_runs-requires
walk_runs-requires c =
    let here = split_levels c.loop-level.rest.now c.in-Some.level.now c.as_slice.result.now c.in-Some.lower.now c.in-Some.ensures.cases.0 (sym c.as_slice.ensures) in
    each_left _ (tables_of c.as_slice.result.now) (all_of c.in-Some.lower.now) (subst AreCovered here c.loop-level.invariant.1)

pub returns-in-Some-walk_runs : goal.returns-in-Some-walk_runs
returns-in-Some-walk_runs c =
    let k = c.args.key.now in
    let s = c.args.snapshot in
    let lower = all_of c.in-Some.lower.now in
    let here = split_levels c.loop-level.rest.now c.in-Some.level.now c.as_slice.result.now c.in-Some.lower.now c.in-Some.ensures.cases.0 (sym c.as_slice.ensures) in
    let first = sym c.walk_runs.ensures ∙ ap option_copied c.in-Some-walk_runs.is in
    sym (c.loop-level.invariant.0
    ∙ ap (λ l. walk k s (entries_of l)) here
    ∙ walk_on k s (tables_of c.as_slice.result.now) lower
    ∙ ap (λ o. option_or o (walk k s (entries_of lower))) first)

pub loop-level-preserved : goal.loop-level-preserved
loop-level-preserved c =
    let k = c.args.key.now in
    let s = c.args.snapshot in
    let lower = all_of c.in-Some.lower.now in
    let here = split_levels c.loop-level.rest.now c.in-Some.level.now c.as_slice.result.now c.in-Some.lower.now c.in-Some.ensures.cases.0 (sym c.as_slice.ensures) in
    let none = sym c.walk_runs.ensures ∙ ap option_copied c.in_default-walk_runs.is in (
      c.loop-level.invariant.0
          ∙ ap (λ l. walk k s (entries_of l)) here
          ∙ walk_on k s (tables_of c.as_slice.result.now) lower
          ∙ ap (λ o. option_or o (walk k s (entries_of lower))) none,
      each_right _ (tables_of c.as_slice.result.now) lower (subst AreCovered here c.loop-level.invariant.1),
    )

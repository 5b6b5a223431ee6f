use Rattle.std.proofs.Common.{sym, subst, ap, ◌∙◌}
use Rattle.std.specs.Option.{option_or}
use Rattle.std.specs.Prelude.{option_copied}
use Rattle.lsm_below.specs.Each.{each_right}
use Rattle.lsm_below.specs.Optimizes.{tables_of}
use Rattle.lsm_model.specs.Views.{walk}
use Rattle.lsm_versions.specs.Levels.{AreCovered}
use Rattle.lsm_versions.proofs.Walks.{entries_of, walk_on}
use Rattle.lsm_versions.proofs.walk.walk_runs.Goals as goal

pub returns-in-Some-walk_run : goal.returns-in-Some-walk_run
returns-in-Some-walk_run c =
    let k = c.args.key.now in
    let s = c.args.snapshot in
    let run = c.in-Some.run'.now in
    let behind = tables_of c.in-Some.older.now in
    let first = sym c.walk_run.ensures ∙ ap option_copied c.in-Some-walk_run.is in
    sym (c.loop-run.invariant.0
    ∙ ap (λ l. walk k s (entries_of (tables_of l))) c.in-Some.ensures.cases.0
    ∙ walk_on k s run behind
    ∙ ap (λ o. option_or o (walk k s (entries_of behind))) first)

pub loop-run-preserved : goal.loop-run-preserved
loop-run-preserved c =
    let k = c.args.key.now in
    let s = c.args.snapshot in
    let run = c.in-Some.run'.now in
    let behind = tables_of c.in-Some.older.now in
    let none = sym c.walk_run.ensures ∙ ap option_copied c.in_default-walk_run.is in (
      c.loop-run.invariant.0
          ∙ ap (λ l. walk k s (entries_of (tables_of l))) c.in-Some.ensures.cases.0
          ∙ walk_on k s run behind
          ∙ ap (λ o. option_or o (walk k s (entries_of behind))) none,
      each_right _ run behind (subst (λ l. AreCovered (tables_of l)) c.in-Some.ensures.cases.0 c.loop-run.invariant.1),
    )

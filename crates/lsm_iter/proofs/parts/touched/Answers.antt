use Rattle.std.proofs.Common.{◌∙◌, ◌+◌, List, slice_range, flat_map, sym, ap, subst}
use Rattle.lsm_below.specs.Runs.{IsRun}
use Rattle.lsm_tables.specs.Tables.{SeenTable, range_of}
use Rattle.lsm_iter.proofs.Disjoint.{left_in}
use Rattle.lsm_iter.proofs.Touched.{none_touched, span_holds, run_range}
use Rattle.lsm_iter.proofs.parts.touched.Goals as goal

pub returns-in-None-clause-same : goal.returns-in-None-clause-same
returns-in-None-clause-same c = λ s. sym (none_touched c.args.bounds.now.0 c.args.bounds.now.1 s c.args.run.now c.requires c.in-None.ensures)

pub returns-in-Some-clause-run : goal.returns-in-Some-clause-run
returns-in-Some-clause-run c =
    run_range (λ (t : SeenTable). range_of t.entries) c.in-Some.first (c.in-Some.last + 1) c.as_slice-tables.result.now (subst (IsRun (λ (t : SeenTable). range_of t.entries)) (sym c.as_slice-tables.ensures) c.facts.ensures.run)

pub returns-in-Some-clause-same : goal.returns-in-Some-clause-same
returns-in-Some-clause-same c = λ s.
    let low = c.args.bounds.now.0 in
    let high = c.args.bounds.now.1 in
    ap (λ (ts : List SeenTable). flat_map (left_in low high s) (slice_range ts c.in-Some.first (c.in-Some.last + 1))) c.as_slice-tables.ensures
    ∙ span_holds low high s c.args.run.now c.in-Some.first c.in-Some.last c.requires c.in-Some.ensures

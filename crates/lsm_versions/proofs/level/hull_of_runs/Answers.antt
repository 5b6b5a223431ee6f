use Rattle.std.proofs.Common.{◌≡◌, List, [], MatchOption, subst}
use Rattle.lsm_below.specs.Ranges.{Range, IsHull}
use Rattle.lsm_versions.proofs.Hulls.{hull_shown}
use Rattle.lsm_versions.proofs.level.hull_of_runs.Goals as goal

pub returns : goal.returns
returns c =
    let hs = c.in_ok-ranges.ranges.items in
    let o = c.in_ok-hull.hull in
    let h = subst (λ (rs : List Range). MatchOption o (rs ≡ []) (IsHull (λ s. s) rs)) c.deref.ensures.value c.in_ok-hull.ensures in
    hull_shown c.keys_are_ordered.ensures c.args.runs.now hs o c.in_ok-ranges.ensures h

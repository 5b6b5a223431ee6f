use Rattle.std.proofs.Common.{rules, false, [], ◌∷◌}
use Rattle.lsm_pick.specs.contracts.leveled.Leveled as leveled
use Rattle.lsm_state.specs.Dropping.{never_some}
use Rattle.lsm_runs.proofs.Boxes.{none_drops, held}
use Rattle.example_crash.proofs.live_twice.Goals as goal

pub nothing_is_dropped-requires-clause-strategies : goal.nothing_is_dropped-requires-clause-strategies
nothing_is_dropped-requires-clause-strategies c =
    let b = c.into_dyn_box in
    none_drops _ c.deref-2.result.now (b.result ∷ []) (search rules) (held b.result b.ensures.1 (λ v. v) leveled.the_row.coded.inj (λ config hidden version choice m. c.leveled_never_drops.ensures _ hidden version.levels choice m), tt)

pub nothing_is_dropped-requires-clause-lives : goal.nothing_is_dropped-requires-clause-lives
nothing_is_dropped-requires-clause-lives c usual more_usual =
    let b = c.into_dyn_box in
    let none = none_drops _ c.deref.result.now (b.result ∷ []) (search rules) (held b.result b.ensures.1 (λ v. v) leveled.the_row.coded.inj (λ config hidden version choice m. c.leveled_never_drops.ensures _ hidden version.levels choice m), tt) in
    c.in_ok-course.ensures.goes (λ at ranges. false) (λ at ranges drops. absurd (never_some _ (none at) ranges drops)) usual more_usual

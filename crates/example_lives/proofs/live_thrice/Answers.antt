use Rattle.std.proofs.Common.{rules, false, [], ◌∷◌, sym, ◌∙◌}
use Rattle.std.specs.List.{AllByRecursion}
use Rattle.lsm_pick.specs.contracts.leveled.Leveled as leveled
use Rattle.lsm_state.specs.Dropping.{never_some}
use Rattle.lsm_runs.proofs.Boxes.{none_drops, held}
use Rattle.lsm_log_runs.specs.Lives.{IsUsualCall}
use Rattle.example_lives.specs.declared.lives.Life.{Life}
use Rattle.example_lives.proofs.live_thrice.Goals as goal

pub nothing_is_dropped-requires-clause-strategies : goal.nothing_is_dropped-requires-clause-strategies
nothing_is_dropped-requires-clause-strategies c =
    let b = c.into_dyn_box in
    none_drops _ c.deref-3.result.now (b.result ∷ []) (search rules) (held b.result b.ensures.1 (λ v. v) leveled.the_row.coded.inj (λ config hidden version choice m. c.leveled_never_drops.ensures _ hidden version.levels choice m), tt)

pub nothing_is_dropped-requires-clause-lives : goal.nothing_is_dropped-requires-clause-lives
nothing_is_dropped-requires-clause-lives c =
    let usual : AllByRecursion (λ (l : Life). AllByRecursion IsUsualCall l.steps.items) c.deref-2.result.now = search rules in
    let b = c.into_dyn_box in
    let none = none_drops _ c.deref.result.now (b.result ∷ []) (search rules) (held b.result b.ensures.1 (λ v. v) leveled.the_row.coded.inj (λ config hidden version choice m. c.leveled_never_drops.ensures _ hidden version.levels choice m), tt) in
    rw (c.deref-4.ensures.value ∙ sym c.deref-2.ensures.value) (c.in_ok-all.ensures.remembers (λ at ranges. false) (λ at ranges drops. absurd (never_some _ (none at) ranges drops)) usual)

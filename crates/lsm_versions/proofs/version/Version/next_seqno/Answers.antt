use Rattle.std.proofs.Common.{◌+◌, ap, ◌∙◌, arith}
use Rattle.lsm_below.specs.Sums.{capped}
use Rattle.lsm_versions.specs.declared.totals.Totals.{Totals}
use Rattle.lsm_versions.proofs.Numbers.{above_none, above_some}
use Rattle.lsm_versions.proofs.version.Version.next_seqno.Goals as goal

pub returns-then-self-eq0 : goal.returns-then-self-eq0
returns-then-self-eq0 c =
    let is = ap (λ (t : Totals). t.items) c.self.invariant.totals_are in
    rw (← c.self.view_is) (above_none c.self.inside.levels c.self.inside.totals.items is (omega (arith, c.if-self-eq0.true)))

pub returns : goal.returns
returns c =
    let items = ap (λ (t : Totals). t.items) c.self.invariant.totals_are in
    let highest = ap (λ (t : Totals). t.highest) c.self.invariant.totals_are in
    let some = above_some c.self.inside.levels c.self.inside.totals.items items (omega (arith, c.if-self-eq0.false)) in
    rw (← c.self.view_is) (c.saturating_add.ensures ∙ (ap (λ n. capped (n + 1)) highest ∙ some))

use Rattle.std.proofs.Common.{Ok, Bool, sym, subst}
use Rattle.lsm_manifest.specs.declared.opening.Opened.{Opened}
use Rattle.lsm_manifest.specs.Looking.{FinishesIn}
use Rattle.lsm_manifest.proofs.OpensLemmas.{cleared_for}
use Rattle.lsm_manifest.proofs.opening.finish.Goals as goal

pub returns-clause-finishes : goal.returns-clause-finishes
returns-clause-finishes g c tells =
    let old = g.S.Store.world c.args.store.now in
    let new = g.S.Store.world c.remove_orphans.new.store in
    let o = c.in_ok-remove_orphans.ensures in
    subst (λ (b : Bool). FinishesIn b c.args.found old new (Ok c.args.found.opened)) (sym c.if-is_new.false)
    (cleared_for {T = Opened} c.args.found old new c.id.result c.deref-2.result.now c.deref.result.now (Ok c.args.found.opened) c.id.ensures c.deref-2.ensures.value c.deref.ensures.value tt (o.any_moment tells) (o.clears tells) (o.removed tells))

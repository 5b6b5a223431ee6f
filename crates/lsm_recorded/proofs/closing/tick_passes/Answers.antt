use Rattle.std.proofs.Common.{refl, subst, ◌∙◌}
use Rattle.std.specs.List.{All}
use Rattle.std.proofs.lemmas.List.{take_all}
use Rattle.std.proofs.lemmas.List.Elements.{All-more}
use Rattle.lsm_recorded.specs.Closing.{IsPassOf}
use Rattle.lsm_recorded.specs.Ticks.{Finds}
use Rattle.lsm_recorded.proofs.ClosingLemmas.{finds_all_more}
use Rattle.lsm_recorded.proofs.closing.tick_passes.Goals as goal

pub loop-pass-preserved : goal.loop-pass-preserved
loop-pass-preserved c =
    let i = c.loop-pass.pass-index in
    let xs = c.args.passes.now in
    let d = c.pass-item.result in
    let h = c.loop-pass-test.true in
    let so = c.loop-pass.invariant in
    let told = c.if-not-tick_pass.ensures in
    let same = c.entries.ensures ∙ c.pass-item.is in
    record {
      each = All-more (IsPassOf c.args.journal.now) xs i d h so.each (subst (IsPassOf c.args.journal.now) same (told.pass refl));
      ticked = finds_all_more xs i d c.args.ticked.now c.loop-pass.ticked c.tick_pass.new.ticked h c.loop-pass.auto.ticked so.ticked (subst (λ p. Finds p c.loop-pass.ticked c.tick_pass.new.ticked) same (told.ticked refl));
    }

pub returns-clause-each : goal.returns-clause-each
returns-clause-each c h = subst (All (IsPassOf c.args.journal.now)) (take_all c.loop-pass.pass-index c.args.passes.now c.loop-pass-test.false) c.loop-pass.invariant.each

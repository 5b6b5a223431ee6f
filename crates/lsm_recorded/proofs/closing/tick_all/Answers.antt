use Rattle.std.proofs.Common.{◌<◌, refl, sym, subst}
use Rattle.lsm_recorded.proofs.ClosingLemmas.{once}
use Rattle.lsm_recorded.proofs.closing.tick_all.Goals as goal

pub returns-then-tick_passes : goal.returns-then-tick_passes
returns-then-tick_passes c all =
    let told = c.if-tick_passes.ensures in
    record {
      each = told.each refl;
      once = λ q lt. once c.args.passes.now c.args.ticked.now c.tick_passes.new.ticked c.tick_passes.auto.ticked c.requires.none (c.are_all_ticked.ensures all) (told.ticked refl) q (subst (λ n. q < n) (sym c.requires.as_long) lt);
    }

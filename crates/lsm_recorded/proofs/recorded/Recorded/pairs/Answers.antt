use Rattle.std.proofs.Common.{◌≤◌, None, arith, refl, subst}
use Rattle.lsm_model.specs.declared.question.Question.TheVariants.{Between}
use Rattle.lsm_versions.specs.Levels.{placed_of}
use Rattle.lsm_state.specs.Ranges.{Ranges}
use Rattle.lsm_recorded.specs.Calls.{ReadsPairs}
use Rattle.lsm_recorded.proofs.RecordedLemmas.{pairs_read}
use Rattle.lsm_recorded.proofs.recorded.Recorded.pairs.Goals as goal

pub returns : goal.returns
returns g c =
    let i = c.self.inside in
    let s = c.args.snapshot in
    let from : i.least ≤ s = omega (arith, c.if-snapshot-self.false) in
    subst (ReadsPairs (Between c.args.bounds.now.0 c.args.bounds.now.1) (λ pairs. pairs) (λ k out. Ranges k None c.args.bounds.now.0 c.args.bounds.now.1 s out) s c.pairs.result) c.self.view_is
    (pairs_read (placed_of i.opened.levels) i.least (λ pairs. pairs) (λ k out. Ranges k None c.args.bounds.now.0 c.args.bounds.now.1 s out) c.reads_are_sound.ensures i.marks i.floor i.core i.journal.items (Between c.args.bounds.now.0 c.args.bounds.now.1) s c.pairs.result c.self.invariant from c.pairs.ensures.ok (c.pairs.ensures.step refl) c.pairs.ensures.refuses)

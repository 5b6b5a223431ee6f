use Rattle.std.proofs.Common.{◌≤◌, None, arith, refl, subst}
use Rattle.lsm_model.specs.declared.question.Question.TheVariants.{Prefix}
use Rattle.lsm_versions.specs.Levels.{placed_of}
use Rattle.lsm_state.specs.Ranges.{Prefixes}
use Rattle.lsm_state.specs.Reading.{LendsPrefix}
use Rattle.lsm_recorded.specs.Calls.{ReadsPairs}
use Rattle.lsm_recorded.proofs.RecordedLemmas.{pairs_read}
use Rattle.lsm_recorded.proofs.recorded.Recorded.pairs_with_prefix.Goals as goal

pub returns : goal.returns
returns g c =
    let i = c.self.inside in
    let s = c.args.snapshot in
    let from : i.least ≤ s = omega (arith, c.if-snapshot-self.false) in
    let read : LendsPrefix i.core.core None c.args.prefix.now s c.pairs_with_prefix.result = subst (λ p. LendsPrefix i.core.core None p s c.pairs_with_prefix.result) c.as_slice.ensures c.pairs_with_prefix.ensures in
    subst (ReadsPairs (Prefix c.args.prefix.now) (λ pairs. pairs) (λ k out. Prefixes k None c.args.prefix.now s out) s c.pairs_with_prefix.result) c.self.view_is
    (pairs_read (placed_of i.opened.levels) i.least (λ pairs. pairs) (λ k out. Prefixes k None c.args.prefix.now s out) c.reads_are_sound.ensures i.marks i.floor i.core i.journal.items (Prefix c.args.prefix.now) s c.pairs_with_prefix.result c.self.invariant from read.ok (read.step refl) read.refuses)

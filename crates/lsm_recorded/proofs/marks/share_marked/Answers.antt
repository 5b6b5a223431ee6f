use Rattle.std.proofs.Common.{◌≡◌, ◌∙◌, sym, ap, subst, IfOk, true}
use Rattle.std.specs.Ordering.{eq_by_cmp, is_eq}
use Rattle.lsm_below.specs.Keys.{Bytes}
use Rattle.lsm_recorded.specs.Headed.{headed_cmp}
use Rattle.lsm_recorded.proofs.MarksLemmas.{headed_ties}
use Rattle.lsm_versions.proofs.Walks.{same_key}
use Rattle.lsm_recorded.proofs.marks.share_marked.Goals as goal

pub returns-in-Some : goal.returns-in-Some
returns-in-Some c =
    let own = c.new-own.result in
    let marked = c.in-Some.marked.now in
    let tie : eq_by_cmp headed_cmp own marked ≡ true = ap is_eq c.in-Some.ensures.same_key in
    let same : own ≡ marked = same_key own marked (sym (headed_ties own marked) ∙ tie) in
    let whole : c.key.result.now ≡ c.args.key = c.key.ensures ∙ sym same ∙ c.new-own.ensures in
    subst (λ (k : Bytes). IfOk c.share.result (λ copy. copy ≡ k)) whole c.share.ensures

use Rattle.std.proofs.Common.{◌≡◌, Some, true, false, sym, ap, ◌∙◌, cond, unwrap_or}
use Rattle.std.proofs.lemmas.Map.Iter.{rest_more}
use Rattle.std.specs.Map.{lookup}
use Rattle.std.specs.Map.Iter.{deref_pair}
use Rattle.std.specs.Ordering.{eq_by_cmp}
use Rattle.std.specs.Prelude.{nat_eq}
use Rattle.std.specs.Cmp.Lexicographic.{pointwise}
use Rattle.lsm_below.specs.Keys.{Bytes}
use Rattle.lsm_recorded.specs.Headed.{headed_cmp}
use Rattle.lsm_recorded.specs.Marks.{no_mark}
use Rattle.lsm_recorded.proofs.MarksLemmas.{headed_eq}
use Rattle.lsm_recorded.proofs.marks.walk_to_mark.Goals as goal

pub returns-then-eq : goal.returns-then-eq
returns-then-eq c =
    let key = c.args.key.now in
    let next = rest_more deref_pair c.loop-marked.marked-iterator c.next.new.self c.next.result (c.in-Some.marked, c.in-Some.mark) c.in-Some.is c.next.ensures.steps in
    let same : eq_by_cmp headed_cmp key c.in-Some.marked.now ≡ true = headed_eq key c.in-Some.marked.now c.eq.result true (c.eq.ensures ∙ ap (λ (k : Bytes). pointwise nat_eq k key) c.key.ensures) c.if-eq.true in
    sym (ap (λ o. unwrap_or o no_mark) (c.loop-marked.invariant ∙ ap (lookup (eq_by_cmp headed_cmp key)) next ∙ ap (λ b. cond b (Some c.in-Some.mark.now) (lookup (eq_by_cmp headed_cmp key) c.next.new.self)) same))

pub loop-marked-preserved : goal.loop-marked-preserved
loop-marked-preserved c =
    let key = c.args.key.now in
    let next = rest_more deref_pair c.loop-marked.marked-iterator c.next.new.self c.next.result (c.in-Some.marked, c.in-Some.mark) c.in-Some.is c.next.ensures.steps in
    let other : eq_by_cmp headed_cmp key c.in-Some.marked.now ≡ false = headed_eq key c.in-Some.marked.now c.eq.result false (c.eq.ensures ∙ ap (λ (k : Bytes). pointwise nat_eq k key) c.key.ensures) c.if-eq.false in
    c.loop-marked.invariant ∙ ap (lookup (eq_by_cmp headed_cmp key)) next ∙ ap (λ b. cond b (Some c.in-Some.mark.now) (lookup (eq_by_cmp headed_cmp key) c.next.new.self)) other

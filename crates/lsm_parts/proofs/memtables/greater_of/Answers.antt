use Rattle.std.proofs.Common.{Some, max, unwrap_or, sym, ap, ◌∙◌}
use Rattle.lsm_memtable.specs.Memtables.{highest_of}
use Rattle.lsm_parts.proofs.Counting.{joined, highest-append}
use Rattle.lsm_parts.proofs.memtables.greater_of.Goals as goal

pub returns-in-Some : goal.returns-in-Some
returns-in-Some c = λ xs ys one other.
    let rest = c.unwrap_or.ensures ∙ ap (λ o. unwrap_or o 0) other in
    ap Some (c.max.ensures ∙ ap (λ n. max c.in-Some.seqno n) rest) ∙ ap (λ o. joined o (highest_of ys)) (sym c.in-Some.is ∙ one) ∙ sym (highest-append xs ys)

pub returns-in-None : goal.returns-in-None
returns-in-None c = λ xs ys one other. other ∙ ap (λ o. joined o (highest_of ys)) (sym c.in-None.is ∙ one) ∙ sym (highest-append xs ys)

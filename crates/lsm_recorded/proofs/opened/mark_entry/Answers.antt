use Rattle.std.proofs.Common.{ap, ◌∙◌}
use Rattle.lsm_below.specs.Keys.{Bytes}
use Rattle.lsm_recorded.specs.Marks.{mark_of, marked, next_mark}
use Rattle.lsm_recorded.proofs.OpenedLemmas.{entry_breaks, entry_marked}
use Rattle.lsm_recorded.proofs.opened.mark_entry.Goals as goal

pub returns-then-not-is_allowed : goal.returns-then-not-is_allowed
returns-then-not-is_allowed c behind h o =
    let read = c.read_mark-mark.ensures ∙ ap (mark_of c.args.opened.now.marks) (c.new-key.ensures ∙ c.in_ok-share.ensures) in
    entry_breaks c.args.opened.now.marks c.args.opened.now.least c.args.entry.now c.read_mark-mark.result c.is_allowed.result behind read c.is_allowed.ensures c.if-not-is_allowed.true h o

pub returns : goal.returns
returns c behind h =
    let marks = mark_of c.args.opened.now.marks in
    let key = c.new-key.ensures ∙ c.in_ok-share.ensures in
    let read = c.read_mark-mark.ensures ∙ ap marks key in
    let set = λ (q : Bytes). c.in_ok-set_mark.ensures q ∙ ap (λ (k : Bytes). marked marks k c.mark_after-mark.result q) key ∙ ap (λ x. marked marks c.args.entry.now.key.user_key x q) (c.mark_after-mark.ensures ∙ ap (λ t. next_mark c.read_mark-mark.result c.args.entry.now.key.seqno t) c.opened_type.ensures) in
    entry_marked c.args.opened.now.marks c.set_mark.new.marks c.args.opened.now.least c.max-opened.result c.args.entry.now c.read_mark-mark.result c.is_allowed.result behind read c.is_allowed.ensures c.if-not-is_allowed.false set c.max-opened.ensures h

use Rattle.std.proofs.Common.{◌<◌, ◌≤◌, length, nat_lt, sym, ap, subst, ◌∙◌, arith}
use Rattle.lsm_parts.specs.declared.version.super_version.SuperVersion.{SuperVersion}
use Rattle.lsm_parts.proofs.Maintained.{needed_at, needed_all}
use Rattle.lsm_parts.proofs.version.super_version.walk_needed.Goals as goal

pub returns-then-seqno_filter : goal.returns-then-seqno_filter
returns-then-seqno_filter c =
    let xs = c.args.older.now.items in
    let w = c.args.watermark in
    let lt : c.loop-at.at < length xs = subst (λ n. c.loop-at.at < n) (c.len-at-end.ensures ∙ c.args.older.now.ok.0) c.loop-at-test.true in
    sym (needed_at w xs c.loop-at.at c.index.result.now c.loop-at.invariant lt (ap (λ (sv : SuperVersion). nat_lt sv.seqno w) (sym c.index.ensures) ∙ (sym c.seqno_filter.ensures ∙ c.if-seqno_filter.true)))

pub returns : goal.returns
returns c =
    let xs = c.args.older.now.items in
    let end : length xs ≤ c.loop-at.at = subst (λ n. n ≤ c.loop-at.at) (c.len-at-end.ensures ∙ c.args.older.now.ok.0) c.loop-at-test.false in
    (c.len.ensures ∙ c.args.older.now.ok.0) ∙ sym (needed_all c.args.watermark xs (λ k d low high. c.loop-at.invariant k d low (omega arith)))

use Rattle.std.proofs.Common.{◌∙◌, ◌-◌, ◌++◌, length, take, drop, ap, arith}
use Rattle.std.proofs.lemmas.List.{take_rest}
use Rattle.lsm_memtable.proofs.Parts.{in_second, in_both}
use Rattle.lsm_memtable.proofs.part.Part.of.Goals as goal

pub returns-then-len-from : goal.returns-then-len-from
returns-then-len-from c =
    let count = c.args.to - c.args.from in
    in_second c.as_slices.result.0.now c.as_slices.result.1.now c.args.from c.args.to c.requires.order c.if-len-from.true
    ∙ ap (λ l. take count (drop c.args.from l)) c.as_slices.ensures.items

pub returns : goal.returns
returns c =
    let us = c.as_slices.result.0.now in
    let ls = c.as_slices.result.1.now in
    let count = c.args.to - c.args.from in
    ap (λ l. l ++ take (c.args.to - length us) ls) (take_rest us c.args.from)
    ∙ (in_both us ls c.args.from c.args.to c.requires.order (omega (arith, c.if-len-from.false)) (omega (arith, c.if-to-len.false))
    ∙ ap (λ l. take count (drop c.args.from l)) c.as_slices.ensures.items)

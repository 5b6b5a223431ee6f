use Rattle.std.proofs.Common.{sym, ap, ◌∙◌, ◌+◌, ◌-◌, ◌/◌, arith}
use Rattle.lsm_below.specs.Lookups.{stands_before}
use Rattle.lsm_below.proofs.Search.{all_ahead, none_ahead}
use Rattle.lsm_tables.proofs.table.heads.place_below.Goals as goal

pub loop-low-preserved-then-is_ahead : goal.loop-low-preserved-then-is_ahead
loop-low-preserved-then-is_ahead c =
    let i = c.loop-low.invariant in
    let t = c.loop-low-test.true in
    let mid = c.loop-low.low + (c.loop-low.high - c.loop-low.low) / 2 in (
      omega arith,
      i.1,
      all_ahead c.entries_are_parted.ensures c.args.entries.now c.requires.rises c.args.key.now c.args.number mid (omega arith) (λ d. sym (c.is_ahead.ensures ∙ ap (stands_before c.args.key.now c.args.number) (c.at.ensures d)) ∙ c.if-is_ahead.true),
      i.3,
    )

pub loop-low-preserved : goal.loop-low-preserved
loop-low-preserved c =
    let i = c.loop-low.invariant in
    let t = c.loop-low-test.true in
    let mid = c.loop-low.low + (c.loop-low.high - c.loop-low.low) / 2 in (
      omega arith,
      omega arith,
      i.2,
      none_ahead c.entries_are_parted.ensures c.args.entries.now c.requires.rises c.args.key.now c.args.number mid (omega arith) (λ d. sym (c.is_ahead.ensures ∙ ap (stands_before c.args.key.now c.args.number) (c.at.ensures d)) ∙ c.if-is_ahead.false),
    )

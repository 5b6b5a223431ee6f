use Rattle.std.proofs.Common.{◌≡◌, ◌+◌, ◌-◌, length, arith}
use Rattle.lsm_iter.proofs.Joined.{back_pushed}
use Rattle.lsm_iter.proofs.copies.push_entry.Goals as goal

pub returns-clause-joined : goal.returns-clause-joined
returns-clause-joined c =
    let items = c.args.blocks.now.items in
    let last = c.len-count.result - 1 in
    let one : last + 1 ≡ length items = omega (arith, c.args.blocks.now.ok.0, c.len-count.ensures, c.if-count-eq0.false) in
    back_pushed items last c.index_mut.result.now one c.index_mut.ensures.value c.requires c.args.entry c.push.new.self c.in_ok-push.ensures.ok

use Rattle.std.proofs.Common.{ap, List, ℕ, length, length-append, arith}
use Rattle.lsm_tables.specs.Image.{spelled}
use Rattle.lsm_tables.proofs.Lengths.{length_spelled}
use Rattle.lsm_tables.proofs.image.open.OpenImage.push.Goals as goal

pub invariant_of-self-2 : goal.invariant_of-self-2
invariant_of-self-2 c =
    let grown = ap (λ (b : List ℕ). length b) c.in_ok-put_entry.ensures.spelled in
    let parts = length-append c.self.inside.bytes.items (spelled c.args.entry.now) in
    let entry = length_spelled c.args.entry.now in
    let before = c.self.invariant in
    omega arith
